-- No datatype, one more, and all.
use Rattle.std.proofs.Common.{◌∙◌, refl, sym, ap}
use Rattle.std.specs.Prelude.{map}
use Rattle.std.proofs.lemmas.List.{take_all}
use Rattle.theory_checking.specs.ConstructorRows.{constructor_counts}
use Rattle.theory_checking.specs.Inference.Items.{rows_from}
use Rattle.csp_expression.specs.Evaluation.{constructors_of}
use Rattle.csp_parse.specs.Declarations.{declaration_of}
use Rattle.csp_kinds.specs.Members.{counted}
use Rattle.csp_kinds.proofs.Rowing.{one_row, other_row}
use Rattle.csp_kinds.proofs.datatypes.datatypes_of.Goals.{in-Some+in_ok-row+in_ok-push+in_ok-next, in_default}
use Rattle.csp_kinds.proofs.datatypes.datatypes_of.Goals as goal

pub loop-declaration-init : goal.loop-declaration-init
loop-declaration-init g c = record { rows = ap (map constructors_of) c.new-all.ensures.items; next_one = refl }

pub loop-declaration-preserved : goal.loop-declaration-preserved
loop-declaration-preserved g c =
    elim c.match-constructor_count.branch [
      | in-Some+in_ok-row+in_ok-push+in_ok-next w ↦
          rw (w.all-is, w.next-is)
          (one_row c.args.declarations.now c.loop-declaration.declaration-index c.declaration-item.result c.loop-declaration-test.true c.declaration-item.is c.loop-declaration.all.items w.push.new.self.items c.loop-declaration.next w.in_ok-next.next w.in-Some.count w.in_ok-row.row
          (sym c.constructor_count.ensures ∙ ap counted w.in-Some.is) w.in_ok-push.ensures.items w.in_ok-row.ensures.numbers (w.in_ok-next.ensures ∙ w.in_ok-row.ensures.next) c.loop-declaration.invariant)
      | in_default w ↦
          rw (w.all-is, w.next-is)
          (other_row c.args.declarations.now c.loop-declaration.declaration-index c.declaration-item.result c.loop-declaration-test.true c.declaration-item.is c.loop-declaration.all.items c.loop-declaration.next
          (sym c.constructor_count.ensures ∙ ap counted w.in_default.is) c.loop-declaration.invariant)
    ]

pub returns : goal.returns
returns g c = c.loop-declaration.invariant.rows ∙ ap (λ ds. rows_from 0 (constructor_counts (map declaration_of ds))) (take_all c.loop-declaration.declaration-index c.args.declarations.now c.loop-declaration-test.false)
