-- Choices of a value of each set, and what is answered where they may be too many.
use Rattle.std.specs.Prelude.{◌≡◌, ◌<◌, List, [], ◌∷◌, flat_map, length, map, Result, ◌⊎◌}
use Rattle.std.specs.declared.vec.Vec.{Vec}
use denote.Ref.{Bor}
use Rattle.theory_syntax.specs.Value as pure
use Rattle.theory_semantics.specs.Meaning.Evaluation.{Cause, Overflow, max_members}
use Rattle.csp_value.specs.declared.field_set.FieldSet.{FieldSet}
use Rattle.csp_value.specs.declared.value.Value.{Value}
use Rattle.csp_value.specs.Fields.{sets_of}
use Rattle.csp_value.specs.Value.{values_of}
use Rattle.csp_expression.specs.declared.no_value.NoValue.{NoValue}
use Rattle.csp_expression.specs.Agreement.{Agrees, AgreesWith}

-- what lists of values stand for
abbrev pub lists_of : {A : Type 0} → List (Vec (Value A) A) → List (List pure.Value)
lists_of vss = map (λ vs. values_of vs.items) vss

-- the sets of the fields, or the cause where there are none
abbrev pub AreFieldSets : {A : Type 0} → Result (Bor (List (FieldSet A))) NoValue → Result (List (List pure.Value)) Cause → Type 0
AreFieldSets = AgreesWith (λ sets. sets_of sets.now)

-- all of them, or that they are too many for a set
abbrev pub HasAll : {X Y : Type 0} → (X → List Y) → Result X NoValue → List Y → Type 0
HasAll meaning = Agrees (λ x ys. meaning x ≡ ys) (λ c ys. (c ≡ Overflow) × (max_members < length ys))

-- one of the sets has no value
abbrev pub HasEmptySet : {X : Type 0} → List (List X) → Type 0
HasEmptySet [] = ⊥
HasEmptySet (xs ∷ xss) = (xs ≡ []) ⊎ HasEmptySet xss

-- the lists with the value in front of each
abbrev pub with_first : {X : Type 0} → X → List (List X) → List (List X)
with_first x xss = map (λ xs. x ∷ xs) xss

-- each value in front of each list
abbrev pub with_each : {X : Type 0} → List X → List (List X) → List (List X)
with_each xs xss = flat_map (λ x. with_first x xss) xs
