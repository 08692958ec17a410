-- The term is the call where the two are the same.
use Rattle.std.proofs.Common.{cond, ◌∙◌, ap}
use Rattle.theory_semantics.specs.Meaning.Unfolding.{unless_called}
use Rattle.csp_term.specs.Term.{process_of}
use Rattle.csp_settling.specs.Settling.{call_of}
use Rattle.csp_settling.proofs.Places.{same_term}
use Rattle.csp_settling.proofs.place.is_call.Goals as goal

pub returns-in-Some : goal.returns-in-Some
returns-in-Some g c p =
    let t = process_of c.args.term.now in
    ap (λ o. unless_called (call_of o) t p) c.in-Some.is ∙ ap (λ b. cond b t p) (same_term (process_of c.in-Some.call.now) t c.equal_terms.result c.equal_terms.ensures)
