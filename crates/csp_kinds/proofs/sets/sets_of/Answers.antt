-- Before the first declaration, one more, and all.
use Rattle.std.specs.Prelude.{drop, length, map, take}
use Rattle.std.proofs.lemmas.List.{take_all}
use Rattle.std.proofs.Common.{◌≡◌, ◌≤◌, ◌+◌, ◌-◌, [], ◌∷◌, ◌++◌, ◌∙◌, arith, refl, sym, ap, subst}
use Rattle.theory_checking.specs.ConstructorRows.{constructor_counts}
use Rattle.theory_checking.specs.Inference.Items.{rows_from}
use Rattle.theory_checking.specs.Names.{declared}
use Rattle.theory_checking.specs.Rules.{all_declared}
use Rattle.csp_parse.specs.Declarations.{declaration_of, script_of}
use Rattle.csp_kinds.specs.Pass.{AreSetsSoFar}
use Rattle.csp_kinds.proofs.Starting.{names_below, names_counted, names_passed, start_sets}
use Rattle.csp_kinds.proofs.Turns.{cut_there, counted_so_far, one_longer}
use Rattle.csp_kinds.proofs.sets.sets_of.Goals as goal

pub loop-passed-init : goal.loop-passed-init
loop-passed-init g c = record {
  counted = omega (arith, c.len-below.ensures);
  so_far =
      start_sets (script_of c.args.raw.now) _ c.requires.once (c.in_ok-datatypes_of.ensures ∙ ap (λ ds. rows_from 0 (constructor_counts (map declaration_of ds))) c.deref.ensures.value) c.new.ensures.items c.new-2.ensures.items c.new-4.ensures.items c.new-3.ensures.items refl
      (c.in_ok-new.ensures c.requires.once) c.new-6.ensures.items refl refl;
}

pub add-requires : goal.add-requires
add-requires g c =
    let above = map declaration_of (take c.loop-passed.passed c.deref-declaration-items.result.now) in
    record {
      raw = script_of c.args.raw.now;
      above = above;
      below = map declaration_of (drop (c.loop-passed.passed + 1) c.deref-declaration-items.result.now);
      stands = ap (map declaration_of) (sym c.deref-declaration-items.ensures.value) ∙ cut_there declaration_of c.deref-declaration-items.result.now c.loop-passed.passed c.declaration-item.result c.loop-passed-test.true c.declaration-item.is;
      position = record {
        names = c.requires;
        passed = sym (counted_so_far declaration_of c.deref-declaration-items.result.now c.loop-passed.passed c.declaration-item.result c.loop-passed-test.true c.declaration-item.is);
        visible = omega (arith, c.len.ensures, c.loop-passed.invariant.counted);
      };
      so_far = c.loop-passed.invariant.so_far;
    }

pub overflow_sub-below : goal.overflow_sub-below
overflow_sub-below g c =
    let raw = script_of c.args.raw.now in
    let items = c.deref-declaration-items.result.now in
    let above = map declaration_of (take c.loop-passed.passed items) in
    let under = map declaration_of (drop (c.loop-passed.passed + 1) items) in
    let d = declaration_of c.declaration-item.result in
    let stands : raw ≡ above ++ d ∷ under = ap (map declaration_of) (sym c.deref-declaration-items.ensures.value) ∙ cut_there declaration_of items c.loop-passed.passed c.declaration-item.result c.loop-passed-test.true c.declaration-item.is in
    let within : length (declared d) ≤ c.loop-passed.below = names_below raw above d under (length c.args.names.now.table.entries) c.loop-passed.below (names_counted c.args.names.now raw c.requires) stands c.loop-passed.invariant.counted in
    omega (arith, within, c.declared_count.ensures)

pub loop-passed-preserved : goal.loop-passed-preserved
loop-passed-preserved g c =
    let raw = script_of c.args.raw.now in
    let items = c.deref-declaration-items.result.now in
    let above = map declaration_of (take c.loop-passed.passed items) in
    let under = map declaration_of (drop (c.loop-passed.passed + 1) items) in
    let d = declaration_of c.declaration-item.result in
    let all = length c.args.names.now.table.entries in
    let longer = one_longer declaration_of items c.loop-passed.passed c.declaration-item.result c.loop-passed-test.true c.declaration-item.is in
    let stands : raw ≡ above ++ d ∷ under = ap (map declaration_of) (sym c.deref-declaration-items.ensures.value) ∙ cut_there declaration_of items c.loop-passed.passed c.declaration-item.result c.loop-passed-test.true c.declaration-item.is in
    let within : length (declared d) ≤ c.loop-passed.below = names_below raw above d under all c.loop-passed.below (names_counted c.args.names.now raw c.requires) stands c.loop-passed.invariant.counted in
    record {
      counted =
          subst (λ ds. (c.loop-passed.below - c.declared_count.result) + length (all_declared ds) ≡ all) (sym longer)
          (subst (λ n. (c.loop-passed.below - n) + length (all_declared (above ++ d ∷ [])) ≡ all) (sym c.declared_count.ensures) (names_passed above d all c.loop-passed.below c.loop-passed.invariant.counted within));
      so_far =
          subst (λ ds. AreSetsSoFar raw ds c.add.new.self) (sym longer)
          (c.in_ok-add.ensures raw above under stands
          (record {
            names = c.requires;
            passed = sym (counted_so_far declaration_of items c.loop-passed.passed c.declaration-item.result c.loop-passed-test.true c.declaration-item.is);
            visible = omega (arith, c.len.ensures, c.loop-passed.invariant.counted);
          })
          c.loop-passed.invariant.so_far);
    }

pub returns : goal.returns
returns g c =
    c.into_sets.ensures (script_of c.args.raw.now)
    (subst (λ ds. AreSetsSoFar (script_of c.args.raw.now) ds c.loop-passed.sets)
    (ap (map declaration_of) (take_all c.loop-passed.passed c.deref-declaration-items.result.now c.loop-passed-test.false ∙ c.deref-declaration-items.ensures.value)) c.loop-passed.invariant.so_far)
