-- The walk stops where a declaration stops it, and goes on behind one that is fine.
use Rattle.std.specs.Prelude.{IfErr}
use Rattle.std.proofs.Common.{◌∙◌}
use Rattle.theory_checking.specs.Sites.{sites}
use Rattle.csp_parse.specs.Declarations.{declaration_of, script_of}
use Rattle.csp_names.specs.Walks.{Stops}
use Rattle.csp_names.proofs.Walking.{handed_on}
use Rattle.csp_kinds.proofs.Passing.{all_passed, behind_tree, nothing_passed, one_more_passed, read_in_tree, stops_at_item, stops_at_set, whole_scope, within_tree}
use Rattle.csp_kinds.proofs.items.resolve_items.Goals as goal

pub loop-number-init : goal.loop-number-init
loop-number-init g c =
    nothing_passed (script_of c.args.raw.now) c.args.sets.now.refused c.new-bound.result (record { equations = c.new.result; assertions = c.new-2.result }) c.new-bound.ensures c.new.ensures.items c.new-2.ensures.items

pub returns-in_err-pass_sets-clause-refusal : goal.returns-in_err-pass_sets-clause-refusal
returns-in_err-pass_sets-clause-refusal g c =
    let raw = script_of c.args.raw.now in
    let scope = c.new-scope.result in
    let e = c.in_err-pass_sets.field-0.0 in
    handed_on (λ r. IfErr r (Stops (sites raw))) c.from_residual.result e c.from_residual.ensures
    (stops_at_set raw c.args.sets.now scope c.requires.sets
    (whole_scope raw scope c.args.names.now c.args.sets.now c.requires.names c.requires.sets c.new-scope.ensures.names (c.new-scope.ensures.visible ∙ c.len.ensures) (c.new-scope.ensures.field_sets ∙ c.deref.ensures.value))
    c.loop-number.number c.loop-number.bound c.loop-number.items c.loop-number.invariant e c.in_err-pass_sets.ensures)

pub returns-in_err-add-clause-refusal : goal.returns-in_err-add-clause-refusal
returns-in_err-add-clause-refusal g c =
    let raw = script_of c.args.raw.now in
    let scope = c.new-scope.result in
    let ds = c.args.raw.now.declarations.items in
    let xs = c.deref-declaration-items.result.now in
    let same = c.deref-declaration-items.ensures.value in
    let e = c.in_err-add.field-0.0 in
    handed_on (λ r. IfErr r (Stops (sites raw))) c.from_residual-in_err-add.result e c.from_residual-in_err-add.ensures
    (stops_at_item raw c.args.sets.now scope c.requires.sets
    (whole_scope raw scope c.args.names.now c.args.sets.now c.requires.names c.requires.sets c.new-scope.ensures.names (c.new-scope.ensures.visible ∙ c.len.ensures) (c.new-scope.ensures.field_sets ∙ c.deref.ensures.value))
    c.loop-number.number c.loop-number.bound c.loop-number.items c.loop-number.invariant (declaration_of c.declaration-item.result)
    (within_tree ds xs same c.loop-number.number c.loop-number-test.true) (read_in_tree ds xs same c.loop-number.number c.declaration-item.result c.loop-number-test.true c.declaration-item.is) c.add.new.bound c.add.new.self e c.in_err-add.ensures)

pub loop-number-preserved : goal.loop-number-preserved
loop-number-preserved g c =
    let raw = script_of c.args.raw.now in
    let scope = c.new-scope.result in
    let ds = c.args.raw.now.declarations.items in
    let xs = c.deref-declaration-items.result.now in
    let same = c.deref-declaration-items.ensures.value in
    one_more_passed raw c.args.sets.now scope c.requires.sets
    (whole_scope raw scope c.args.names.now c.args.sets.now c.requires.names c.requires.sets c.new-scope.ensures.names (c.new-scope.ensures.visible ∙ c.len.ensures) (c.new-scope.ensures.field_sets ∙ c.deref.ensures.value))
    c.loop-number.number c.loop-number.bound c.loop-number.items c.loop-number.invariant (declaration_of c.declaration-item.result)
    (within_tree ds xs same c.loop-number.number c.loop-number-test.true) (read_in_tree ds xs same c.loop-number.number c.declaration-item.result c.loop-number-test.true c.declaration-item.is) c.add.new.bound c.add.new.self c.in_ok-pass_sets.ensures c.in_ok-add.ensures

pub returns-clause-items : goal.returns-clause-items
returns-clause-items g c =
    all_passed (script_of c.args.raw.now) c.args.sets.now.refused c.loop-number.number c.loop-number.bound c.loop-number.items
    (behind_tree c.args.raw.now.declarations.items c.deref-declaration-items.result.now c.deref-declaration-items.ensures.value c.loop-number.number c.loop-number-test.false) c.loop-number.invariant
