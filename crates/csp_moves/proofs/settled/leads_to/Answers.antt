-- What a process is settled to is the target, where the two are the same.
use Rattle.std.proofs.Common.{◌≡◌, ◌↔◌, true, false, IsTrue, sym, ◌∙◌, ap, subst}
use Rattle.theory_syntax.specs.Process.{Process}
use Rattle.theory_semantics.specs.Meaning.Limits.{fits}
use Rattle.theory_semantics.specs.Meaning.Unfolding.{settled}
use Rattle.csp_term.specs.Script.{script_of_parts}
use Rattle.csp_term.specs.Term.{process_of}
use Rattle.csp_settling.specs.declared.unfolded.Unfolded.{Unfolded}
use Rattle.csp_settling.specs.Settling.{TellsUnfolded}
use Rattle.csp_moves.proofs.settled.leads_to.Goals as goal

pub returns-in-Same : goal.returns-in-Same
returns-in-Same g c =
    let p = process_of c.args.process.now in
    let v = settled (script_of_parts c.args.script.now) p in
    let U : Unfolded g.row.A.Denot → Type 0 = λ x. TellsUnfolded p v x in
    let P : Process → Type 0 = λ q. IsTrue c.equal_terms.result ↔ (process_of c.args.target.now ≡ q) in
    subst P (sym (subst U c.in-Same.is c.in_ok-unfolded.ensures)) c.equal_terms.ensures

pub returns-in-To : goal.returns-in-To
returns-in-To g c =
    let p = process_of c.args.process.now in
    let v = settled (script_of_parts c.args.script.now) p in
    let U : Unfolded g.row.A.Denot → Type 0 = λ x. TellsUnfolded p v x in
    let P : Process → Type 0 = λ q. IsTrue c.equal_terms-in-To.result ↔ (process_of c.args.target.now ≡ q) in
    subst P (subst U c.in-To.is c.in_ok-unfolded.ensures) c.equal_terms-in-To.ensures

pub returns-in-Past : goal.returns-in-Past
returns-in-Past g c =
    let p = process_of c.args.process.now in
    let v = settled (script_of_parts c.args.script.now) p in
    let U : Unfolded g.row.A.Denot → Type 0 = λ x. TellsUnfolded p v x in
    let past = subst U c.in-Past.is c.in_ok-unfolded.ensures in
    (λ h. absurd (cc h), λ same. let e : true ≡ false = sym c.requires ∙ ap fits same ∙ past in absurd (cc e))
