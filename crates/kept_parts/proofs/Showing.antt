-- What firing a part has shown is kept.
use Rattle.std.proofs.Common.{◌≡◌, ◌<◌, ℕ, zero, suc, Bool, true, false, List, [], ◌∷◌, length, map, get_or, set, slice_get, Some, Option, inl, inr, ⊎_elim, ◌⊎◌, refl, sym, ◌∙◌, ap, subst, arith, OnErr, Result, Ok, Err}
use Rattle.std.specs.declared.vec.Vec.{Vec}
use Rattle.std.proofs.lemmas.Bool.{cases_eq}
use Rattle.std.proofs.lemmas.List.{get_or-set_other, get_or-set_same, length-set}
use Rattle.std.proofs.lemmas.Option.{slice_get-get_or, slice_get_within}
use Rattle.theory_syntax.specs.Process.{Process}
use Rattle.theory_syntax.proofs.Places.{same_at}
use Rattle.theory_shapes.specs.Alphabet.{alphabet}
use Rattle.csp_term.specs.declared.term.Term.{Term}
use Rattle.csp_term.specs.Term.{process_of}
use Rattle.csp_rows.specs.declared.part.Part.{Part}
use Rattle.csp_rows.specs.declared.step.PartStep.{PartStep}
use Rattle.kept_parts.specs.declared.parts.Parts.{Parts}
use Rattle.kept_parts.specs.Changed.{Extends, Grows, HasShown, is_fired, steps_of}
use Rattle.kept_parts.specs.Kept.{IsKeptOf, IsShown, Shows}
use Rattle.kept_parts.specs.KnownSteps.{AreKeptOf, AreKnown, processes_of, script_in}
use Rattle.kept_parts.proofs.Adding.{kept_as}

-- the part with other steps
abbrev pub with_steps : {A : Type 0} → Part A → Option (Vec PartStep A) → Part A
with_steps p steps = record { spelling = p.spelling; size = p.size; depth = p.depth; steps = steps }

-- the item at the same place of a list that is as long
pub same_place : {X Y : Type 0} (xs : List X) (ys : List Y) (n : ℕ) (x : X) → length ys ≡ length xs → slice_get xs n ≡ Some x → (y : Y) × (slice_get ys n ≡ Some y)
same_place xs [] n x even at = let within = slice_get_within xs n x at in absurd (omega (arith, within, even))
same_place xs (y ∷ ys) n x even at = let within = slice_get_within xs n x at in (get_or (y ∷ ys) n y, slice_get-get_or (y ∷ ys) n y (omega (arith, within, even)))

marked : (fs : List Bool) (n m : ℕ) → get_or fs m false ≡ true → get_or (set fs n true) m false ≡ true
marked [] n m e = absurd (cc e)
marked (f ∷ fs) zero zero e = refl
marked (f ∷ fs) zero (suc m) e = e
marked (f ∷ fs) (suc n) zero e = e
marked (f ∷ fs) (suc n) (suc m) e = marked fs n m e

module _ {A : Type 0} (n : ℕ) (steps : Option (Vec PartStep A)) (old new : Parts A) (shown : HasShown n steps old new) (known : AreKnown old) (p : Process) (at : slice_get (processes_of old) n ≡ Some p) where
  abbrev ps : List Process
  ps = processes_of old

  abbrev kept : AreKeptOf (script_in old) ps old.parts.items old.fired.items
  kept = known.kept

  old_part : (r : Part A) × (slice_get old.parts.items n ≡ Some r)
  old_part = same_place ps old.parts.items n p kept.all_kept at

  new_part : slice_get new.parts.items n ≡ Some (with_steps old_part.0 steps)
  new_part = shown.part old_part.0 old_part.1

  in_marks : n < length old.fired.items
  in_marks = let within = slice_get_within ps n p at in let even = kept.all_marked in omega (arith, within, even)

  pub is_marked : get_or new.fired.items n false ≡ true
  is_marked = ap (λ (fs : List Bool). get_or fs n false) shown.fired ∙ get_or-set_same old.fired.items n true false in_marks

  kept_at : (m : ℕ) (q : Process) (r : Part A) → slice_get ps m ≡ Some q → slice_get new.parts.items m ≡ Some r → (m ≡ n) ⊎ (m ≡ n → ⊥) → IsKeptOf q r
  kept_at m q r here there (inl e) =
      let same : q ≡ p = same_at ps m n q p e here at in
      let is : r ≡ with_steps old_part.0 steps = same_at new.parts.items m n r (with_steps old_part.0 steps) e there new_part in
      let was : IsKeptOf p old_part.0 = kept.kept n p old_part.0 at old_part.1 in
      subst (λ z. IsKeptOf z r) (sym same) (subst (IsKeptOf p) (sym is) (record { spellable = was.spellable; spelled = was.spelled; size = was.size; depth = was.depth }))
  kept_at m q r here there (inr other) = kept.kept m q r here (sym (shown.same m other) ∙ there)

  module _ (is_shown : Shows (script_in old) (alphabet (script_in old)) ps p steps) where
    shown_at : (m : ℕ) (q : Process) (r : Part A) → slice_get ps m ≡ Some q → slice_get new.parts.items m ≡ Some r → (m ≡ n) ⊎ (m ≡ n → ⊥) →
        IsShown (script_in old) (alphabet (script_in old)) ps q (get_or new.fired.items m false) r.steps
    shown_at m q r here there (inl e) =
        let same : q ≡ p = same_at ps m n q p e here at in
        let is : r ≡ with_steps old_part.0 steps = same_at new.parts.items m n r (with_steps old_part.0 steps) e there new_part in
        let mark : get_or new.fired.items m false ≡ true = ap (λ k. get_or new.fired.items k false) e ∙ is_marked in
        let P : Process → Type 0 = λ z. IsShown (script_in old) (alphabet (script_in old)) ps z (get_or new.fired.items m false) r.steps in
        let Q : Bool → Type 0 = λ b. IsShown (script_in old) (alphabet (script_in old)) ps p b r.steps in
        let R : Part A → Type 0 = λ z. Shows (script_in old) (alphabet (script_in old)) ps p z.steps in
        subst P (sym same) (subst Q (sym mark) (subst R (sym is) is_shown))
    shown_at m q r here there (inr other) =
        let mark : get_or new.fired.items m false ≡ get_or old.fired.items m false = ap (λ (fs : List Bool). get_or fs m false) shown.fired ∙ get_or-set_other old.fired.items n m true false other in
        let Q : Bool → Type 0 = λ b. IsShown (script_in old) (alphabet (script_in old)) ps q b r.steps in
        subst Q (sym mark) (kept.shown m q r here (sym (shown.same m other) ∙ there))

    parts_even : length new.parts.items ≡ length ps
    parts_even = shown.even ∙ kept.all_kept

    pub known_shown : AreKnown new
    known_shown = record {
      spelled = shown.spellings ∙ (known.spelled ∙ ap (map process_of) (sym shown.terms));
      kept =
          kept_as (script_in old) (script_in new) ps (processes_of new) new.parts.items new.parts.items new.fired.items new.fired.items shown.script (ap (map process_of) shown.terms) refl refl
          (record {
            first = kept.first;
            distinct = kept.distinct;
            of_script = kept.of_script;
            few = kept.few;
            all_kept = parts_even;
            all_marked = ap length shown.fired ∙ (length-set old.fired.items n true ∙ kept.all_marked);
            kept = λ m q r here there. kept_at m q r here there (cases_eq m n);
            shown = λ m q r here there. shown_at m q r here there (cases_eq m n);
          });
    }

  -- what was shown before stays, where this part was not fired
  pub grows_shown : (before : Parts A) → Extends before old → is_fired before n ≡ false → Grows before new
  grows_shown before extends unfired = record {
    script = shown.script ∙ extends.script;
    stays = λ i x here. subst (λ (ts : List (Term A)). slice_get (map process_of ts) i ≡ Some x) (sym shown.terms) (extends.stays i x here);
    fired = λ m e. ap (λ (fs : List Bool). get_or fs m false) shown.fired ∙ marked old.fired.items n m (extends.fired m ∙ e);
    shown = λ m e. ⊎_elim (λ same. (let f : false ≡ true = sym (ap (λ k. is_fired before k) same ∙ unfired) ∙ e in absurd (cc f))) (λ other. ap steps_of (shown.same m other) ∙ extends.steps m) (cases_eq m n);
  }

-- nothing changes where it was fired before
pub grows_none : {A : Type 0} (k : Parts A) → Grows k k
grows_none k = record { script = refl; stays = λ i x at. at; fired = λ n e. e; shown = λ n e. refl }

pub extends_none : {A : Type 0} (k : Parts A) → Extends k k
extends_none k = record { script = refl; stays = λ i x at. at; fired = λ n. refl; steps = λ n. refl }

pub extends_on : {A : Type 0} (k l m : Parts A) → Extends k l → Extends l m → Extends k m
extends_on k l m first second = record {
  script = second.script ∙ first.script;
  stays = λ i x at. second.stays i x (first.stays i x at);
  fired = λ n. second.fired n ∙ first.fired n;
  steps = λ n. second.steps n ∙ first.steps n;
}

-- more parts alone
pub grows_extended : {A : Type 0} (k l : Parts A) → Extends k l → Grows k l
grows_extended k l extends = record { script = extends.script; stays = extends.stays; fired = λ n e. extends.fired n ∙ e; shown = λ n e. extends.steps n }

-- what holds whatever the answer is
pub also_err : {T E P : Type 0} (r : Result T E) → P → OnErr r P
also_err (Ok x) holds = tt
also_err (Err e) holds = holds
