-- The side, and its run.
use Rattle.std.proofs.Common.{sym, subst, inl, inr, lit<, lit≤}
use Rattle.theory_objects.specs.Accounts.{side_fields}
use Rattle.csp_print.specs.Names.{names_of}
use Rattle.explanation.specs.Sides.{side_run_of}
use Rattle.explanation.specs.declared.sides.SideRun.{SideRun}
use Rattle.explanation_objects.specs.Putting.{Puts}
use Rattle.explanation_objects.proofs.accounts.put_side.Goals as goal

pub returns-in-Implementation : goal.returns-in-Implementation
returns-in-Implementation g c =
    let P : SideRun g.row.A.Denot → Type 0 = λ s. Puts c.put_told.result c.args.writer.now c.put_told.new.writer (side_fields (names_of c.args.names.now) (side_run_of s)) in
    subst P (sym c.in-Implementation.is) c.put_told.ensures

pub returns-in-Specification : goal.returns-in-Specification
returns-in-Specification g c =
    let P : SideRun g.row.A.Denot → Type 0 = λ s. Puts c.put_told-in-Specification.result c.args.writer.now c.put_told-in-Specification.new.writer (side_fields (names_of c.args.names.now) (side_run_of s)) in
    subst P (sym c.in-Specification.is) c.put_told-in-Specification.ensures
