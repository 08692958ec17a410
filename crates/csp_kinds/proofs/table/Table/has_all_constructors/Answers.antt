-- Each constructor of the datatype in turn.
use Rattle.std.proofs.Common.{◌+◌, ◌-◌, length, slice_get, refl, sym, ap, ◌∙◌}
use Rattle.std.specs.List.{list_all}
use Rattle.std.specs.Prelude.{[], unwrap_or}
use Rattle.std.proofs.lemmas.Option.{slice_get_read}
use Rattle.theory_syntax.proofs.Places.{get_some}
use Rattle.csp_expression.specs.Evaluation.{constructors_of, numbers_up}
use Rattle.csp_kinds.specs.Looking.{is_valued}
use Rattle.csp_kinds.proofs.Using.{all_numbers, in_row, one_not_number, one_number}
use Rattle.csp_kinds.proofs.table.Table.has_all_constructors.Goals as goal

pub loop-number-preserved : goal.loop-number-preserved
loop-number-preserved g c =
    let k = c.in-Some.constructors.now in
    let p = is_valued c.args.self.now.filled.items in
    one_number p c.loop-number.number (k.first.0 + k.following + 1) c.loop-number-test.true c.is_valued.result
    (list_all p (numbers_up k.first.0 ((k.first.0 + k.following + 1) - k.first.0))) c.if-not-is_valued.false
    (c.is_valued.ensures ∙ ap (λ v. is_valued v c.loop-number.number) c.deref-in-loop-number.ensures.value) c.loop-number.invariant

pub returns-then-not-is_valued : goal.returns-then-not-is_valued
returns-then-not-is_valued g c =
    let k = c.in-Some.constructors.now in
    let p = is_valued c.args.self.now.filled.items in
    let look = c.in-Some.ensures.lookup in
    let at = ap (λ xs. slice_get xs c.args.datatype.0) (sym c.deref.ensures.value) ∙ slice_get_read c.deref.result.now (length c.deref.result.now) c.args.datatype.0 k refl look.3.0 look.1 in
    one_not_number p c.loop-number.number (k.first.0 + k.following + 1) c.loop-number-test.true c.is_valued.result
    (list_all p (numbers_up k.first.0 ((k.first.0 + k.following + 1) - k.first.0))) c.if-not-is_valued.true
    (c.is_valued.ensures ∙ ap (λ v. is_valued v c.loop-number.number) c.deref-in-loop-number.ensures.value) c.loop-number.invariant
    ∙ in_row p k.first.0 k.following ∙ ap (λ o. list_all p (unwrap_or o [])) (sym (get_some constructors_of c.args.self.now.types.datatypes.items c.args.datatype.0 k at))

pub returns : goal.returns
returns g c =
    let k = c.in-Some.constructors.now in
    let p = is_valued c.args.self.now.filled.items in
    let look = c.in-Some.ensures.lookup in
    let at = ap (λ xs. slice_get xs c.args.datatype.0) (sym c.deref.ensures.value) ∙ slice_get_read c.deref.result.now (length c.deref.result.now) c.args.datatype.0 k refl look.3.0 look.1 in
    all_numbers p c.loop-number.number (k.first.0 + k.following + 1) (list_all p (numbers_up k.first.0 ((k.first.0 + k.following + 1) - k.first.0))) c.loop-number-test.false c.loop-number.invariant
    ∙ in_row p k.first.0 k.following ∙ ap (λ o. list_all p (unwrap_or o [])) (sym (get_some constructors_of c.args.self.now.types.datatypes.items c.args.datatype.0 k at))
