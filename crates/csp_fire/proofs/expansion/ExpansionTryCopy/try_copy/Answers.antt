-- The form is exactly what the rules say of the copied term too.
use Rattle.std.proofs.Common.{◌≡◌, subst, sym}
use Rattle.theory_semantics.specs.Kinds.Scripts.{IsTermOf}
use Rattle.theory_semantics.specs.Meaning.Expansions.{Expansion, IsExpansion}
use Rattle.csp_term.specs.Term.{process_of}
use Rattle.csp_fire.specs.Form.{form_of}
use Rattle.csp_fire.proofs.expansion.ExpansionTryCopy.try_copy.Goals as goal

pub invariant_of-result : goal.invariant_of-result
invariant_of-result g c =
    let script = c.self.inside.script.now in
    let term = sym c.in_ok-term.ensures in
    let form = sym c.in_ok-form.ensures in
    let original : Expansion = record { script = script; term = process_of c.self.inside.term; form = form_of c.self.inside.form } in
    let copy : Expansion = record { script = script; term = process_of c.in_ok-term.term; form = form_of c.in_ok-form.form } in
    let same : original ≡ copy = λ i. record { script = script; term = term i; form = form i } in
    let P : Expansion → Type 0 = λ e. IsTermOf e.script e.term in
    (subst IsExpansion same c.self.invariant.0, subst P same c.self.invariant.1)
