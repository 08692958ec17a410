-- What is found, by its kind.
use Rattle.std.proofs.Common.{sym, subst, inl, inr, lit<}
use Rattle.theory_objects.specs.Answers.{found_fields}
use Rattle.csp_print.specs.Names.{names_of}
use Rattle.verdict.specs.Outcome.{outcome_of}
use Rattle.verdict.specs.declared.outcome.Outcome.{Outcome}
use Rattle.explanation_objects.specs.Putting.{Puts}
use Rattle.explanation_objects.proofs.found.put_found.Goals as goal

pub put_violation-requires : goal.put_violation-requires
put_violation-requires g c =
    elim g.met.A.AllocHandle.small [
      | inl e ↦ rw (e.0, e.1) (lit< tt)
      | inr e ↦ rw (e.0, e.1) (lit< tt)
    ]

pub returns-in-Fails : goal.returns-in-Fails
returns-in-Fails g c =
    let P : Outcome g.row.A.Denot → Type 0 = λ o. Puts c.put_violation.result c.args.writer.now c.put_violation.new.writer (found_fields (names_of c.args.names.now) (outcome_of o)) in
    subst P (sym c.in-Fails.is) c.put_violation.ensures

pub returns-in-Unknown : goal.returns-in-Unknown
returns-in-Unknown g c =
    let P : Outcome g.row.A.Denot → Type 0 = λ o. Puts c.put_why.result c.args.writer.now c.put_why.new.writer (found_fields (names_of c.args.names.now) (outcome_of o)) in
    subst P (sym c.in-Unknown.is) c.put_why.ensures
