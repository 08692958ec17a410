-- What holds of a term by what holds of its operators and of its parts.
use Rattle.std.proofs.Common.{◌≡◌, ◌↔◌, List, [], ◌∷◌, ◌++◌, length, Option, Some, None, refl, sym, subst, ap₂, ◌∙◌}
use Rattle.std.specs.List.{AllByRecursion}
use Rattle.std.specs.Option.{option_or}
use Rattle.std.specs.Result.{result_err}
use Rattle.theory_syntax.specs.Process.{Process, Script}
use Rattle.theory_semantics.specs.Meaning.Evaluation.{Cause}
use Rattle.theory_semantics.specs.Meaning.Events.{event_test, renaming}
use Rattle.theory_semantics.specs.Meaning.Faults.{cause_in}
use Rattle.theory_semantics.specs.Kinds.Kind.{Kinds}
use Rattle.theory_semantics.specs.Kinds.Processes.{IsClosedTerm}
use Rattle.theory_semantics.specs.Kinds.Scripts.{IsTermOf}
use Rattle.theory_semantics.proofs.Causes.{alphabetised_cause, generalised_cause, interleaving_cause}
use Rattle.theory_spelling.specs.Spellable.{IsSpellable}
use Rattle.theory_shapes.specs.Shape.{Composition, Interleaved, Generalised, Alphabetised, compose, Frame, Hidden, Renamed, enframe, Shape, holes, fill}
use Rattle.theory_shapes.specs.Operators.{EachOperator, CompositionHasValues, FrameHasValues, HasValues, IsSpellableComposition, IsSpellableFrame, IsSpellableShape, IsClosedComposition, IsClosedFrame, IsClosedShape}
use Rattle.theory_shapes.proofs.Filling.{by_filling}
use Rattle.theory_shapes.proofs.Segments.{all_append, filled_both}

all_first : {X : Type 0} (P : X → Type 0) (xs ys : List X) → AllByRecursion P (xs ++ ys) → AllByRecursion P xs
all_first P [] ys all = tt
all_first P (x ∷ xs) ys all = (all.0, all_first P xs ys all.1)

all_second : {X : Type 0} (P : X → Type 0) (xs ys : List X) → AllByRecursion P (xs ++ ys) → AllByRecursion P ys
all_second P [] ys all = all
all_second P (x ∷ xs) ys all = all_second P xs ys all.1

pub all_made : {X : Type 0} (P Q : X → Type 0) → ((x : X) → P x → Q x) → (xs : List X) → AllByRecursion P xs → AllByRecursion Q xs
all_made P Q made [] all = tt
all_made P Q made (x ∷ xs) all = (made x all.0, all_made P Q made xs all.1)

-- what holds of a term exactly where it holds of the operator at its head and of the processes under that
module _ (P : Process → Type 0) (C : Composition → Type 0) (F : Frame → Type 0)
    (two : (c : Composition) (p q : Process) → P (compose c p q) ↔ (C c × P p × P q)) (one : (f : Frame) (p : Process) → P (enframe f p) ↔ (F f × P p)) where
  pub by_parts : (s : Shape) (parts : List Process) → length parts ≡ holes s → P (fill s parts) ↔ (EachOperator C F s × AllByRecursion P parts)
  by_parts =
      by_filling (λ s parts. P (fill s parts) ↔ (EachOperator C F s × AllByRecursion P parts))
      (λ p. (λ h. (tt, (h, tt)), λ h. h.1.0))
      (λ c l r ps qs few rest first second. (
        λ h. let sides = (two c (fill l ps) (fill r qs)).0 (subst P (filled_both c l r ps qs few rest) h) in
            let a = first.0 sides.1 in
            let b = second.0 sides.2 in
            ((sides.0, a.0, b.0), all_append P ps qs a.1 b.1),
        λ h. subst P (sym (filled_both c l r ps qs few rest)) ((two c (fill l ps) (fill r qs)).1 (h.0.0, first.1 (h.0.1, all_first P ps qs h.1), second.1 (h.0.2, all_second P ps qs h.1))),
      ))
      (λ f s ps only. (
        λ h. let body = (one f (fill s ps)).0 h in let a = only.0 body.1 in ((body.0, a.0), a.1),
        λ h. (one f (fill s ps)).1 (h.0.0, only.1 (h.0.1, h.1)),
      ))

-- ---- causes

first_none : (o r : Option Cause) → option_or o r ≡ None → o ≡ None
first_none (Some c) r e = e
first_none None r e = refl

second_none : (o r : Option Cause) → option_or o r ≡ None → r ≡ None
second_none (Some c) r e = absurd (cc e)
second_none None r e = e

both_none : (o r : Option Cause) → o ≡ None → r ≡ None → option_or o r ≡ None
both_none o r first second = ap₂ option_or first second

module _ (script : Script) where
  abbrev HasNoCause : Process → Type 0
  HasNoCause p = cause_in script p ≡ None

  cause_of_two : (c : Composition) (p q : Process) → HasNoCause (compose c p q) ↔ (CompositionHasValues script c × HasNoCause p × HasNoCause q)
  cause_of_two Interleaved p q =
      let o = cause_in script p in
      let r = cause_in script q in
      let is = interleaving_cause script p q in
      (λ h. let e = sym is ∙ h in (tt, first_none o r e, second_none o r e), λ h. is ∙ both_none o r h.1 h.2)
  cause_of_two (Generalised a) p q =
      let o = cause_in script p in
      let r = cause_in script q in
      let set = result_err (event_test script a) in
      let is = generalised_cause script p a q in
      (λ h. let e = sym is ∙ h in let rest = second_none set (option_or o r) e in (first_none set (option_or o r) e, first_none o r rest, second_none o r rest), λ h. is ∙ both_none set (option_or o r) h.0 (both_none o r h.1 h.2))
  cause_of_two (Alphabetised a b) p q =
      let o = cause_in script p in
      let r = cause_in script q in
      let set = result_err (event_test script a) in
      let other = result_err (event_test script b) in
      let is = alphabetised_cause script p a b q in (
        λ h. let e = sym is ∙ h in
            let more = second_none set (option_or other (option_or o r)) e in
            let rest = second_none other (option_or o r) more in
            ((first_none set (option_or other (option_or o r)) e, first_none other (option_or o r) more), first_none o r rest, second_none o r rest),
        λ h. is ∙ both_none set (option_or other (option_or o r)) h.0.0 (both_none other (option_or o r) h.0.1 (both_none o r h.1 h.2)),
      )

  cause_of_one : (f : Frame) (p : Process) → HasNoCause (enframe f p) ↔ (FrameHasValues script f × HasNoCause p)
  cause_of_one (Hidden a) p =
      let set = result_err (event_test script a) in
      let o = cause_in script p in
      (λ h. (first_none set o h, second_none set o h), λ h. both_none set o h.0 h.1)
  cause_of_one (Renamed rs) p =
      let pairs = result_err (renaming script rs) in
      let o = cause_in script p in
      (λ h. (first_none pairs o h, second_none pairs o h), λ h. both_none pairs o h.0 h.1)

  pub causes_by_parts : (s : Shape) (parts : List Process) → length parts ≡ holes s → HasNoCause (fill s parts) ↔ (HasValues script s × AllByRecursion HasNoCause parts)
  causes_by_parts = by_parts HasNoCause (CompositionHasValues script) (FrameHasValues script) cause_of_two cause_of_one

-- ---- spellings

spellable_two : (c : Composition) (p q : Process) → IsSpellable (compose c p q) ↔ (IsSpellableComposition c × IsSpellable p × IsSpellable q)
spellable_two Interleaved p q = (λ h. (tt, h.0, h.1), λ h. (h.1, h.2))
spellable_two (Generalised a) p q = (λ h. (h.1, h.0, h.2), λ h. (h.1, h.0, h.2))
spellable_two (Alphabetised a b) p q = (λ h. ((h.1, h.2), h.0, h.3), λ h. (h.1, h.0.0, h.0.1, h.2))

spellable_one : (f : Frame) (p : Process) → IsSpellable (enframe f p) ↔ (IsSpellableFrame f × IsSpellable p)
spellable_one (Hidden a) p = (λ h. (h.1, h.0), λ h. (h.1, h.0))
spellable_one (Renamed rs) p = (λ h. (h.1, h.0), λ h. (h.1, h.0))

pub spellable_by_parts : (s : Shape) (parts : List Process) → length parts ≡ holes s → IsSpellable (fill s parts) ↔ (IsSpellableShape s × AllByRecursion IsSpellable parts)
spellable_by_parts = by_parts IsSpellable IsSpellableComposition IsSpellableFrame spellable_two spellable_one

-- ---- kinds

module _ (script : Script) (kinds : Kinds) where
  closed_two : (c : Composition) (p q : Process) → IsClosedTerm script kinds (compose c p q) ↔ (IsClosedComposition script kinds c × IsClosedTerm script kinds p × IsClosedTerm script kinds q)
  closed_two Interleaved p q = (λ h. (tt, h.0, h.1), λ h. (h.1, h.2))
  closed_two (Generalised a) p q = (λ h. (h.1, h.0, h.2), λ h. (h.1, h.0, h.2))
  closed_two (Alphabetised a b) p q = (λ h. ((h.1, h.2), h.0, h.3), λ h. (h.1, h.0.0, h.0.1, h.2))

  closed_one : (f : Frame) (p : Process) → IsClosedTerm script kinds (enframe f p) ↔ (IsClosedFrame script kinds f × IsClosedTerm script kinds p)
  closed_one (Hidden a) p = (λ h. (h.1, h.0), λ h. (h.1, h.0))
  closed_one (Renamed rs) p = (λ h. (h.1, h.0), λ h. (h.1, h.0))

  pub closed_by_parts : (s : Shape) (parts : List Process) → length parts ≡ holes s → IsClosedTerm script kinds (fill s parts) ↔ (IsClosedShape script kinds s × AllByRecursion (IsClosedTerm script kinds) parts)
  closed_by_parts = by_parts (IsClosedTerm script kinds) (IsClosedComposition script kinds) (IsClosedFrame script kinds) closed_two closed_one

pub parts_are_terms : (script : Script) (s : Shape) (parts : List Process) → length parts ≡ holes s → IsTermOf script (fill s parts) → AllByRecursion (IsTermOf script) parts
parts_are_terms script s parts long (kinds, fit, closed) =
    all_made (IsClosedTerm script kinds) (IsTermOf script) (λ p h. (kinds, fit, h)) parts ((closed_by_parts script kinds s parts long).0 closed).1
