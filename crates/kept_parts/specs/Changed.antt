-- What stays of parts, and what comes.
use Rattle.std.specs.Prelude.{◌≡◌, ℕ, Bool, true, false, [], ◌∷◌, ◌++◌, get_or, length, set, slice_get, Option, Some, None, is_some}
use Rattle.std.specs.declared.vec.Vec.{Vec}
use Rattle.theory_search.specs.Growth.{IsAdded, StaysIn}
use Rattle.csp_packed.specs.Packed.{packed_process}
use Rattle.csp_packed.specs.declared.packed_term.PackedTerm.{PackedTerm}
use Rattle.csp_term.specs.declared.term.Term.{Term}
use Rattle.csp_rows.specs.declared.part.Part.{Part}
use Rattle.csp_rows.specs.declared.step.PartStep.{PartStep}
use Rattle.kept_parts.specs.declared.parts.Parts.{Parts}
use Rattle.kept_parts.specs.KnownSteps.{processes_of, script_in, spelled_of}

abbrev pub steps_of : {A : Type 0} → Option (Part A) → Option (Vec PartStep A)
steps_of None = None
steps_of (Some part) = part.steps

-- the steps that are kept of the part of this number, if any are
abbrev pub steps_told : {A : Type 0} → Parts A → ℕ → Option (Vec PartStep A)
steps_told k n = steps_of (slice_get k.parts.items n)

-- whether the part of this number was fired
abbrev pub is_fired : {A : Type 0} → Parts A → ℕ → Bool
is_fired k n = get_or k.fired.items n false

-- Each number stands for what it stood for, and the same has been fired. More parts may have come.
pub record Extends {A : Type 0} (old new : Parts A) : Type 0 where
  pub script : script_in new ≡ script_in old
  pub stays : StaysIn (processes_of old) (processes_of new)
  pub fired : (n : ℕ) → is_fired new n ≡ is_fired old n
  pub steps : (n : ℕ) → steps_told new n ≡ steps_told old n

-- Each number stands for what it stood for, and what firing a part has shown stays. More parts may have come, and more
-- may have been fired.
pub record Grows {A : Type 0} (old new : Parts A) : Type 0 where
  pub script : script_in new ≡ script_in old
  pub stays : StaysIn (processes_of old) (processes_of new)
  pub fired : (n : ℕ) → is_fired old n ≡ true → is_fired new n ≡ true
  pub shown : (n : ℕ) → is_fired old n ≡ true → steps_told new n ≡ steps_told old n

-- the part was fired, and its steps are kept, or it is stuck
pub record IsFiredAt {A : Type 0} (k : Parts A) (n : ℕ) (has_steps : Bool) : Type 0 where
  pub fired : is_fired k n ≡ true
  pub steps : is_some (steps_told k n) ≡ has_steps

-- all rows are the same
pub record HasSameRows {A : Type 0} (old new : Parts A) : Type 0 where
  pub script : script_in new ≡ script_in old
  pub spellings : spelled_of new ≡ spelled_of old
  pub terms : new.terms.items ≡ old.terms.items
  pub parts : new.parts.items ≡ old.parts.items
  pub fired : new.fired.items ≡ old.fired.items

-- there is one row more, of a part that was not fired
pub record HasRowMore {A : Type 0} (packed : PackedTerm A) (term : Term A) (part : Part A) (old new : Parts A) : Type 0 where
  pub script : script_in new ≡ script_in old
  pub spellings : IsAdded (packed_process packed) (spelled_of old) (spelled_of new)
  pub terms : new.terms.items ≡ old.terms.items ++ term ∷ []
  pub parts : new.parts.items ≡ old.parts.items ++ part ∷ []
  pub fired : new.fired.items ≡ old.fired.items ++ false ∷ []

-- what firing the part of this number has shown is kept
pub record HasShown {A : Type 0} (n : ℕ) (steps : Option (Vec PartStep A)) (old new : Parts A) : Type 0 where
  pub script : script_in new ≡ script_in old
  pub spellings : spelled_of new ≡ spelled_of old
  pub terms : new.terms.items ≡ old.terms.items
  pub even : length new.parts.items ≡ length old.parts.items
  pub same : (m : ℕ) → (m ≡ n → ⊥) → slice_get new.parts.items m ≡ slice_get old.parts.items m
  pub part : (p : Part A) → slice_get old.parts.items n ≡ Some p
      → slice_get new.parts.items n ≡ Some (record { spelling = p.spelling; size = p.size; depth = p.depth; steps = steps })
  pub fired : new.fired.items ≡ set old.fired.items n true
