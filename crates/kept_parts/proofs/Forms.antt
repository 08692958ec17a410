-- What firing a row shows, by actions and terms.
use Rattle.std.proofs.Common.{◌≡◌, ◌<◌, ℕ, List, [], ◌∷◌, length, map, Option, Some, None, refl, sym, ◌∙◌, ap, ap₂, subst}
use Rattle.std.specs.Prelude.{IfSome}
use Rattle.std.specs.List.{AllByRecursion}
use Rattle.std.specs.declared.vec.Vec.{Vec}
use Rattle.std.proofs.lemmas.Option.{get_or_from_slice_get}
use Rattle.theory_syntax.specs.Value.{Action, Ev, Event}
use Rattle.theory_syntax.specs.Process.{Process, Script}
use Rattle.theory_semantics.specs.Meaning.Expansions.{Form, Fired, IsFormOf}
use Rattle.theory_spelling.specs.Spelling.{spelling}
use Rattle.csp_rows.specs.declared.numbers.ActionId.{ActionId}
use Rattle.csp_rows.specs.declared.numbers.ActionId.TheVariants as by_number
use Rattle.csp_rows.specs.Numbering.{IsNumbered, Numbering, action_at}
use Rattle.csp_rows.specs.InOrder.{offers_in}
use Rattle.csp_rows.specs.Numbers.{AreAllNumbered}
use Rattle.csp_rows.specs.Row.{Row}
use Rattle.csp_rows.specs.Targets.{SpellsTerm}
use Rattle.csp_numbers.specs.Numbers.{NumbersEvents, no_event}
use Rattle.csp_packed.specs.Within.{SpellsWithin, is_within, or_stop, term_spelled}
use Rattle.csp_packed.specs.declared.packed_form.PackedForm.{PackedForm}
use Rattle.csp_packed.specs.PackedForm.{form_of}
use Rattle.kept_parts.specs.Places.{action_in}
use Rattle.csp_rows.specs.declared.row.RowForm.{RowForm}
use Rattle.csp_rows.specs.declared.row.RowForm.TheVariants as row_form
use Rattle.csp_rows.specs.declared.row.RowStep.{RowStep}
use Rattle.csp_rows.specs.Told.{Tells, items_of, steps_read, term_read}
use Rattle.kept_parts.specs.Forms.{IsPackedAs, IsPackedFormOf, IsReadable, IsStepReadable, step_in}

module _ (es : List Event) (z : Numbering) (events : NumbersEvents es z) where
  -- ---- actions

  abbrev event_action : Event → Action
  event_action e = Ev e

  same_action : (x : ActionId) → IsNumbered z.events x → action_at z x ≡ action_in es x
  same_action by_number.Tau has = refl
  same_action by_number.Tick has = refl
  same_action (by_number.Event n) has =
      let within : n.0 < length es = subst (λ (count : ℕ). n.0 < count) events.count has in
      ap event_action (sym (get_or_from_slice_get es n.0 (z.event n.0) no_event (events.each n.0 within)))

  same_actions : (xs : List ActionId) → AreAllNumbered z.events xs → map (action_at z) xs ≡ map (action_in es) xs
  same_actions [] all = refl
  same_actions (x ∷ xs) all = ap₂ (λ (y : Action) ys. y ∷ ys) (same_action x all.0) (same_actions xs all.1)

  same_offers : {A : Type 0} (offers : List (Vec ActionId A)) → AllByRecursion (AreAllNumbered z.events) (items_of offers) → offers_in z (items_of offers) ≡ map (λ xs. map (action_in es) xs.items) offers
  same_offers [] all = refl
  same_offers (xs ∷ offers) all = ap₂ (λ (ys : List Action) yss. ys ∷ yss) (same_actions xs.items all.0) (same_offers offers all.1)

  -- ---- steps

  same_target : (script : Script) (bytes : List ℕ) → SpellsTerm script (term_read bytes) bytes → term_read bytes ≡ term_spelled bytes
  same_target script bytes is = sym (ap or_stop is.read)

  same_steps : {A : Type 0} (script : Script) (steps : List (RowStep A)) → AllByRecursion (λ s. IsNumbered z.events s.action) steps → AllByRecursion (λ s. SpellsTerm script (term_read s.target.items) s.target.items) steps
      → steps_read z steps ≡ map (step_in es) steps
  same_steps script [] numbered spelled = refl
  same_steps script (s ∷ steps) numbered spelled =
      ap₂ (λ (t : Action × Process) ts. t ∷ ts) (ap₂ (λ x p. (x, p)) (same_action s.action numbered.0) (same_target script s.target.items spelled.0)) (same_steps script steps numbered.1 spelled.1)

  -- ---- what can be read

  spells : (script : Script) (bytes : List ℕ) → SpellsTerm script (term_read bytes) bytes → SpellsWithin bytes
  spells script bytes is = (ap is_within is.read ∙ is.within, ap spelling (ap or_stop is.read) ∙ sym is.spelled)

  steps_readable : {A : Type 0} (script : Script) (steps : List (RowStep A)) → AllByRecursion (λ s. IsNumbered z.events s.action) steps → AllByRecursion (λ s. SpellsTerm script (term_read s.target.items) s.target.items) steps
      → AllByRecursion (IsStepReadable z.events) steps
  steps_readable script [] numbered spelled = tt
  steps_readable script (s ∷ steps) numbered spelled = ((numbered.0, spells script s.target.items spelled.0), steps_readable script steps numbered.1 spelled.1)

  by_events : {A : Type 0} (script : Script) (r : Row A) (form : RowForm A) → Tells z script r form → IsReadable z.events form
  by_events script r (row_form.Steps steps offers) told = (steps_readable script steps.items told.numbered told.spelled, told.accepted)
  by_events script r row_form.Large told = tt
  by_events script r row_form.Untold told = tt

  pub readable : {A : Type 0} (script : Script) (r : Row A) (form : RowForm A) → Tells z script r form → IsReadable (length es) form
  readable {A} script r form told = subst (λ (count : ℕ). IsReadable count form) events.count (by_events script r form told)

  -- ---- the form

  pub packed : {A : Type 0} (script : Script) (r : Row A) (form : RowForm A) (o : Option (PackedForm A)) → Tells z script r form → IsPackedAs es form o → IfSome o (IsPackedFormOf script r.term)
  packed script r (row_form.Steps steps offers) None told is = tt
  packed script r (row_form.Steps steps offers) (Some f) told is =
      let steps_are = same_steps script steps.items told.numbered told.spelled in
      let offers_are = same_offers offers.items told.accepted in
      let whole : form_of f ≡ Fired (steps_read z steps.items) (offers_in z (items_of offers.items)) = is ∙ sym (ap₂ Fired steps_are offers_are) in
      subst (λ (g : Form). IsFormOf script r.term g) (sym whole) told.fired
  packed script r row_form.Large None told is = tt
  packed script r row_form.Large (Some f) told is = subst (λ (g : Form). IsFormOf script r.term g) (sym is) told
  packed script r row_form.Untold None told is = tt
  packed script r row_form.Untold (Some f) told is = absurd is
