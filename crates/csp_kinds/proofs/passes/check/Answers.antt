-- Each pass refuses the tree, or its script is checked.
use Rattle.std.specs.Prelude.{IfErr}
use Rattle.std.proofs.Common.{sym, subst}
use Rattle.theory_checking.specs.Checked.{IsCheckedTree}
use Rattle.theory_checking.proofs.Walking.{fine_passes}
use Rattle.theory_checking.proofs.WellKinded.{checked_script}
use Rattle.csp_parse.specs.Declarations as tree
use Rattle.csp_term.specs.Script.{script_of_parts}
use Rattle.csp_names.specs.declared.refusals.Refused.{Refused}
use Rattle.csp_names.proofs.Walking.{handed_on}
use Rattle.csp_kinds.specs.Refusals.{IsRefusalOf}
use Rattle.csp_kinds.proofs.Checking.{checked_tree}
use Rattle.csp_kinds.proofs.Making.{sets_evaluated, types_evaluated}
use Rattle.csp_kinds.proofs.Refusing.{refused_in_first_pass, refused_in_second_pass, refused_in_third_pass}
use Rattle.csp_kinds.proofs.SetsPassed.{fine_is_unrefused}
use Rattle.csp_kinds.proofs.passes.check.Goals as goal

pub returns-in_err-names-clause-refusal : goal.returns-in_err-names-clause-refusal
returns-in_err-names-clause-refusal g c =
    let raw = tree.script_of c.args.raw.now in
    let e = c.in_err-names.field-0.0 in
    handed_on (λ r. IfErr r (IsRefusalOf raw)) c.from_residual.result e c.from_residual.ensures (refused_in_first_pass raw e c.in_err-names.ensures.refusal)

pub returns-in_err-items-clause-refusal : goal.returns-in_err-items-clause-refusal
returns-in_err-items-clause-refusal g c =
    let raw = tree.script_of c.args.raw.now in
    let e = c.in_err-items.field-0.0 in
    handed_on (λ r. IfErr r (IsRefusalOf raw)) c.from_residual-in_err-items.result e c.from_residual-in_err-items.ensures (refused_in_second_pass raw e c.in_ok-names.ensures.names.once c.in_err-items.ensures.refusal)

pub make_parts-requires-clause-types : goal.make_parts-requires-clause-types
make_parts-requires-clause-types g c =
    let raw = tree.script_of c.args.raw.now in
    types_evaluated raw c.in_ok-sets.sets c.in_ok-sets.ensures (fine_is_unrefused raw c.in_ok-sets.sets c.in_ok-sets.ensures c.in_ok-items.ensures.items.fine)

pub make_parts-requires-clause-sets : goal.make_parts-requires-clause-sets
make_parts-requires-clause-sets g c =
    let raw = tree.script_of c.args.raw.now in
    sets_evaluated raw c.in_ok-sets.sets (fine_is_unrefused raw c.in_ok-sets.sets c.in_ok-sets.ensures c.in_ok-items.ensures.items.fine)

pub fit_items-requires-clause-known : goal.fit_items-requires-clause-known
fit_items-requires-clause-known g c = (fine_is_unrefused (tree.script_of c.args.raw.now) c.in_ok-sets.sets c.in_ok-sets.ensures c.in_ok-items.ensures.items.fine).known

pub new-requires : goal.new-requires
new-requires g c =
    let raw = tree.script_of c.args.raw.now in
    let script = script_of_parts c.in_ok-parts.parts in
    record { checked = checked_script raw script (checked_tree raw script (fine_passes raw c.in_ok-names.ensures.names.once c.in_ok-items.ensures.items.fine) c.in_ok-parts.ensures c.in-Ok.ensures) }

pub returns-in-Ok-clause-script : goal.returns-in-Ok-clause-script
returns-in-Ok-clause-script g c =
    let raw = tree.script_of c.args.raw.now in
    let script = script_of_parts c.in_ok-parts.parts in
    subst (IsCheckedTree raw) (sym c.new.ensures) (checked_tree raw script (fine_passes raw c.in_ok-names.ensures.names.once c.in_ok-items.ensures.items.fine) c.in_ok-parts.ensures c.in-Ok.ensures)

pub returns-clause-refusal : goal.returns-clause-refusal
returns-clause-refusal g c =
    let raw = tree.script_of c.args.raw.now in
    let P : Refused → Type 0 = IsRefusalOf raw in
    subst P (sym c.item_refusal.ensures)
    (refused_in_third_pass raw (script_of_parts c.in_ok-parts.parts) c.in-Err.fault (fine_passes raw c.in_ok-names.ensures.names.once c.in_ok-items.ensures.items.fine) c.in_ok-parts.ensures c.in-Err.ensures)
