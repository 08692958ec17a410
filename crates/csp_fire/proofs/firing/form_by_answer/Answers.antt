-- The form is by the steps that are within the limits.
use Rattle.std.proofs.Common.{◌≡◌, IfOk, Option, Some, None, map, refl, sym, ◌∙◌, ap, subst, inl, inr, lit<}
use Rattle.std.specs.Option.{option_map}
use Rattle.theory_semantics.specs.Meaning.Expansions.{FiredLarge}
use Rattle.theory_semantics.specs.Meaning.Stepping.{Steps}
use Rattle.csp_steps.specs.Answering.{all_within, answered_of}
use Rattle.csp_fire.specs.Form.{form_of, step_of}
use Rattle.csp_fire.specs.Offering.{IsFormWithin}
use Rattle.csp_fire.proofs.firing.form_by_answer.Goals as goal

pub returns-in-Some : goal.returns-in-Some
returns-in-Some g c =
    let is : all_within (map answered_of c.args.answered.items) ≡ Some (map step_of c.in-Some.steps.items) = sym c.in_ok-steps.ensures ∙ ap (option_map (λ ss. map step_of ss.items)) c.in-Some.is in
    let P : Option Steps → Type 0 = λ r. IfOk c.form_by_steps.result (λ f. IsFormWithin r (form_of f)) in
    subst P (sym is) c.form_by_steps.ensures

pub returns-in-None : goal.returns-in-None
returns-in-None g c =
    let is : all_within (map answered_of c.args.answered.items) ≡ None = sym c.in_ok-steps.ensures ∙ ap (option_map (λ ss. map step_of ss.items)) c.in-None.is in
    let P : Option Steps → Type 0 = λ r. IsFormWithin r FiredLarge in
    subst P (sym is) refl

pub steps_within-requires : goal.steps_within-requires
steps_within-requires g c = elim g.met.A.AllocHandle.small [ inl e ↦ rw (e.0, e.1) (lit< tt, lit< tt) | inr e ↦ rw (e.0, e.1) (lit< tt, lit< tt) ]

pub form_by_steps-requires : goal.form_by_steps-requires
form_by_steps-requires g c = elim g.met.A.AllocHandle.small [ inl e ↦ rw (e.0, e.1) (lit< tt) | inr e ↦ rw (e.0, e.1) (lit< tt) ]
