-- What is kept of parts, under a numbering by places.
use Rattle.std.proofs.Common.{◌≡◌, ◌<◌, ◌↔◌, ℕ, zero, suc, Bool, true, false, List, [], ◌∷◌, length, get_or, slice_get, Option, Some, None, Contains, inl, inr, ◌⊎◌, refl, sym, ◌∙◌, ap, ap₂, subst, arith}
use Rattle.std.specs.List.{AllByRecursion}
use Rattle.std.specs.Option.{is_some}
use Rattle.std.specs.declared.vec.Vec.{Vec}
use Rattle.std.proofs.lemmas.Option.{get_or_from_slice_get, slice_get-get_or, slice_get_within}
use Rattle.theory_syntax.specs.Value.{Action, Ev, Event, event_cmp}
use Rattle.theory_syntax.specs.Process.{Omega, Process, Script, Stop}
use Rattle.theory_syntax.proofs.Places.{get_some}
use Rattle.theory_semantics.specs.Meaning.Offers.{RisesBy}
use Rattle.theory_semantics.specs.Meaning.Stepping.{Steps}
use Rattle.theory_semantics.specs.Meaning.Transitions.{IsNotStuck, RuleStep}
use Rattle.theory_search.specs.Growth.{AreDistinct}
use Rattle.theory_shapes.specs.Moves.{steps_at}
use Rattle.theory_shapes.specs.Shape.{Shape, holes, part_at}
use Rattle.theory_shapes.specs.ShapeSteps.{AreFired}
use Rattle.theory_shapes.specs.Alphabet.{alphabet}
use Rattle.csp_rows.specs.declared.numbers.ActionId.{ActionId}
use Rattle.csp_rows.specs.declared.numbers.ActionId.TheVariants as by_number
use Rattle.csp_rows.specs.declared.numbers.PartId.{PartId}
use Rattle.csp_rows.specs.declared.part.Part.{Part}
use Rattle.csp_rows.specs.declared.step.PartStep.{PartStep}
use Rattle.csp_rows.specs.Measures.{AreMeasured}
use Rattle.csp_rows.specs.Numbering.{IsNumbered, Numbering, action_at}
use Rattle.csp_rows.specs.Places.{AreSpelled}
use Rattle.csp_rows.specs.Rows.{ArePartsAmong, ArePartsNumbered, AreStepsNumbered, AreTargetsAmong, depth_of_part, kept, part_steps_of, row_parts, row_steps, size_of_part, spelling_of_part, steps_of_part}
use Rattle.csp_rows.specs.ByParts.{AreKept, AreSpellable}
use Rattle.csp_numbers.specs.Numbers.{NumbersEvents, no_event}
use Rattle.csp_numbers.proofs.Numbered.{numbered}
use Rattle.kept_parts.specs.declared.parts.Parts.{Parts}
use Rattle.kept_parts.specs.Changed.{IsFiredAt, is_fired, steps_of}
use Rattle.kept_parts.specs.Kept.{AreItsSteps, IsKeptOf, IsShown}
use Rattle.kept_parts.specs.KnownSteps.{AreKnown, processes_of, script_in}
use Rattle.kept_parts.specs.Places.{NumbersParts, action_in, part_in, steps_in}
use Rattle.kept_parts.specs.Serving.{AreRowFired, Serves}
use Rattle.kept_parts.proofs.Showing.{same_place}

all_by_places : {X : Type 0} (P : X → Type 0) (xs : List X) → ((n : ℕ) (x : X) → slice_get xs n ≡ Some x → P x) → AllByRecursion P xs
all_by_places P [] each = tt
all_by_places P (x ∷ xs) each = (each 0 x refl, all_by_places P xs (λ n y at. each (suc n) y at))

at_place : {X : Type 0} (P : X → Type 0) (xs : List X) (n : ℕ) (x : X) → AllByRecursion P xs → slice_get xs n ≡ Some x → P x
at_place P [] n x all at = absurd (cc at)
at_place P (y ∷ ys) zero x all at = let f : Some y ≡ Some x = at in let same : y ≡ x = cc f in subst P same all.0
at_place P (y ∷ ys) (suc n) x all at = at_place P ys n x all.1 at

-- ---- steps under a numbering

module _ (es : List Event) (ps : List Process) (z : Numbering) (events : NumbersEvents es z) (parts : NumbersParts ps z) where
  same_action : (x : ActionId) → IsNumbered (length es) x → action_at z x ≡ action_in es x
  same_action by_number.Tau has = refl
  same_action by_number.Tick has = refl
  same_action (by_number.Event n) has = ap action_of_event (sym (get_or_from_slice_get es n.0 (z.event n.0) no_event (events.each n.0 has)))
    where
      action_of_event : Event → Action
      action_of_event e = Ev e

  same_part : (n : ℕ) → n < length ps → z.part n ≡ part_in ps n
  same_part n within = sym (get_or_from_slice_get ps n (z.part n) Stop (parts n within))

  pub same_steps : (ss : List PartStep) → AreStepsNumbered (length es) ss → AreTargetsAmong (length ps) ss → part_steps_of z ss ≡ steps_in es ps ss
  same_steps [] numbered among = refl
  same_steps (s ∷ ss) numbered among = ap₂ (λ t ts. t ∷ ts) (ap₂ (λ x p. (x, p)) (same_action s.action numbered.0) (same_part s.target.0 among.0)) (same_steps ss numbered.1 among.1)

-- ---- what is kept

module _ {A : Type 0} (k : Parts A) (known : AreKnown k) (z : Numbering) (events : NumbersEvents (alphabet (script_in k)) z) (numbers : NumbersParts (processes_of k) z) where
  abbrev script : Script
  script = script_in k

  abbrev es : List Event
  es = alphabet (script_in k)

  abbrev ps : List Process
  ps = processes_of k

  abbrev parts : List (Part A)
  parts = k.parts.items

  found_part : (n : ℕ) → n < length parts → (r : Part A) × (slice_get parts n ≡ Some r) × IsKeptOf (z.part n) r
  found_part n within =
      let even = known.kept.all_kept in
      let at = numbers n (omega (arith, within, even)) in
      let r = same_place ps parts n (z.part n) even at in
      (r.0, r.1, known.kept.kept n (z.part n) r.0 at r.1)

  all_spellable : AreSpellable z (length parts)
  all_spellable n within = let r = found_part n within in r.2.spellable

  all_spelled : AreSpelled z parts
  all_spelled n within = let r = found_part n within in ap spelling_of_part r.1 ∙ r.2.spelled

  all_measured : AreMeasured z parts
  all_measured n within = let r = found_part n within in record { size = ap size_of_part r.1 ∙ r.2.size; depth = ap depth_of_part r.1 ∙ r.2.depth }

  -- the numbers in what firing has shown
  shown_numbered : (p : Process) (b : Bool) (steps : Option (Vec PartStep A)) → IsShown script es ps p b steps → AreStepsNumbered z.events (kept steps)
  shown_numbered p b None shown = tt
  shown_numbered p true (Some ss) shown = subst (λ (n : ℕ). AreStepsNumbered n ss.items) (sym events.count) shown.numbered
  shown_numbered p false (Some ss) shown = absurd (cc shown)

  shown_among : (p : Process) (b : Bool) (steps : Option (Vec PartStep A)) → IsShown script es ps p b steps → AreTargetsAmong (length parts) (kept steps)
  shown_among p b None shown = tt
  shown_among p true (Some ss) shown = subst (λ (n : ℕ). AreTargetsAmong n ss.items) (sym known.kept.all_kept) shown.among
  shown_among p false (Some ss) shown = absurd (cc shown)

  shown_part : (n : ℕ) (r : Part A) → slice_get parts n ≡ Some r → (p : Process) × (b : Bool) × IsShown script es ps p b r.steps
  shown_part n r at =
      let p = same_place parts ps n r (sym known.kept.all_kept) at in (p.0, get_or k.fired.items n false, known.kept.shown n p.0 r p.1 at)

  all_numbered : ArePartsNumbered z.events parts
  all_numbered = all_by_places (λ r. AreStepsNumbered z.events (kept r.steps)) parts (λ n r at. let s = shown_part n r at in shown_numbered s.0 s.1 r.steps s.2)

  all_among : ArePartsAmong (length parts) parts
  all_among = all_by_places (λ r. AreTargetsAmong (length parts) (kept r.steps)) parts (λ n r at. let s = shown_part n r at in shown_among s.0 s.1 r.steps s.2)

  -- a part whose steps are kept has these steps
  abbrev IsFiredPart : ℕ → Type 0
  IsFiredPart n = IsNotStuck script (z.part n) × ((x : Action) (u : Process) → RuleStep script (z.part n) x u ↔ Contains (part_steps_of z (steps_of_part (slice_get parts n))) (x, u))

  by_steps : (n : ℕ) (ss : List PartStep) → AreItsSteps script es ps (z.part n) ss → steps_of_part (slice_get parts n) ≡ ss → IsFiredPart n
  by_steps n ss its is = (
    its.not_stuck,
    λ x u. subst (λ (ts : List (Action × Process)). RuleStep script (z.part n) x u ↔ Contains ts (x, u)) (sym (ap (part_steps_of z) is ∙ same_steps es ps z events numbers ss its.numbered its.among)) (its.each_step x u),
  )

  by_part : (n : ℕ) (r : Part A) (steps : Option (Vec PartStep A)) (b : Bool) → slice_get parts n ≡ Some r → r.steps ≡ steps → is_some steps ≡ true → b ≡ true → IsShown script es ps (z.part n) b steps → IsFiredPart n
  by_part n r None b at is some fired shown = absurd (cc some)
  by_part n r (Some ss) false at is some fired shown = absurd (cc fired)
  by_part n r (Some ss) true at is some fired shown = by_steps n ss.items shown (ap steps_of_part at ∙ ap kept is)

  fired_part : (n : ℕ) (o : Option (Part A)) → slice_get parts n ≡ o → is_fired k n ≡ true → is_some (steps_of o) ≡ true → IsFiredPart n
  fired_part n None at fired some = absurd (cc some)
  fired_part n (Some r) at fired some =
      let p = same_place parts ps n r (sym known.kept.all_kept) at in
      let here = slice_get_within ps n p.0 p.1 in
      by_part n r r.steps (is_fired k n) at refl some fired (known.kept.shown n (z.part n) r (numbers n here) at)

  row_fired : (row : List PartId) (s : Shape) → length row ≡ holes s → AreRowFired k row → AreFired script s (row_parts z row) (row_steps z parts row)
  row_fired row s long fired i within =
      let d : PartId = record { 0 = 0 } in
      let n = get_or row i d in
      let at : slice_get row i ≡ Some n = slice_get-get_or row i d (omega (arith, long, within)) in
      let is = at_place (λ m. IsFiredAt k m.0 true) row i n fired at in
      let part : part_at (row_parts z row) i ≡ z.part n.0 = get_or_from_slice_get (row_parts z row) i (z.part n.0) Stop (get_some (λ m. z.part m.0) row i n at) in
      let steps : steps_at (row_steps z parts row) i ≡ part_steps_of z (steps_of_part (slice_get parts n.0)) =
      get_or_from_slice_get (row_steps z parts row) i (part_steps_of z (steps_of_part (slice_get parts n.0))) [] (get_some (λ m. part_steps_of z (steps_of_part (slice_get parts m.0))) row i n at)
      in
      let P : Process → Steps → Type 0 = λ p ts. IsNotStuck script p × ((x : Action) (u : Process) → RuleStep script p x u ↔ Contains ts (x, u)) in
      let here : P (z.part n.0) (part_steps_of z (steps_of_part (slice_get parts n.0))) = fired_part n.0 (slice_get parts n.0) refl is.fired is.steps in
      subst (λ p. P p (steps_at (row_steps z parts row) i)) (sym part) (subst (λ ts. P (z.part n.0) ts) (sym steps) here)

  -- the first one is there
  some_part : 0 < length parts
  some_part = let within = slice_get_within ps 0 Omega known.kept.first in let even = known.kept.all_kept in omega (arith, within, even)

  all_kept : AreKept z parts
  all_kept = record { some = some_part; spellable = all_spellable; spelled = all_spelled; measured = all_measured; numbered = all_numbered; among = all_among }

  pub serves : Serves k z
  serves = record { kept = all_kept; fired = row_fired }

-- ---- the numbering

pub numbering : (es : List Event) (ps : List Process) → RisesBy event_cmp es → slice_get ps 0 ≡ Some Omega → AreDistinct ps → (z : Numbering) × NumbersEvents es z × NumbersParts ps z
numbering es ps rise first distinct =
    let both = numbered es (part_in ps) rise (λ n. (λ ended. omega_first n (part_place ps n) ended, λ zeroth. ap (part_in ps) zeroth ∙ get_or_from_slice_get ps 0 Omega Stop first)) in
    (both.0, both.1, λ n within. slice_get-get_or ps n Stop within ∙ ap (λ (part : ℕ → Process). Some (part n)) (sym both.2))
  where
    -- a number stands for a part, or for STOP
    part_place : (qs : List Process) (n : ℕ) → (slice_get qs n ≡ Some (part_in qs n)) ⊎ (part_in qs n ≡ Stop)
    part_place [] n = inr refl
    part_place (q ∷ qs) zero = inl refl
    part_place (q ∷ qs) (suc n) = part_place qs n

    omega_first : (n : ℕ) → (slice_get ps n ≡ Some (part_in ps n)) ⊎ (part_in ps n ≡ Stop) → part_in ps n ≡ Omega → n ≡ 0
    omega_first n (inl at) ended = distinct n 0 Omega (at ∙ ap Some ended) first
    omega_first n (inr stops) ended = let f : Stop ≡ Omega = sym stops ∙ ended in absurd (cc f)
