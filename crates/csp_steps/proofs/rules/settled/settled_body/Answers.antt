-- The body, if it is within the limits.
use Rattle.std.proofs.Common.{◌≡◌, Option, subst}
use Rattle.theory_semantics.specs.Meaning.Unfolding.{settled}
use Rattle.csp_term.specs.declared.term.Term.{Term}
use Rattle.csp_term.specs.Script.{script_of_parts}
use Rattle.csp_settling.specs.Settling.{IsWithin}
use Rattle.csp_steps.proofs.Targets.{is_past, past_of, stays_past}
use Rattle.csp_steps.proofs.rules.settled.settled_body.Goals as goal

pub returns-in-None : goal.returns-in-None
returns-in-None g c p h =
    let s = script_of_parts c.args.script.now in
    let W : Option (Term g.row.A.Denot) → Type 0 = λ o. IsWithin o p in
    is_past (settled s p) (stays_past s p (past_of p (subst W c.in-None.is h)))

pub returns-in-Some : goal.returns-in-Some
returns-in-Some g c p h =
    let W : Option (Term g.row.A.Denot) → Type 0 = λ o. IsWithin o p in
    c.settled.ensures p (subst W c.in-Some.is h)
