-- Functions that have a value of sets alone, or of sequences alone, at values of other forms.
use denote.RattleType
use denote.Enum.Declared
use Rattle.std.proofs.Common.{◌≡◌, ℕ, ℤ, Bool, Result, Err, refl, ◌∙◌, ap, subst, inl, inr}
use Rattle.std.specs.declared.alloc.Allocator as allocator
use Rattle.std.specs.declared.vec.Vec.{Vec}
use Rattle.theory_syntax.specs.Value as pure
use Rattle.theory_semantics.specs.Meaning.Evaluation.{Cause, IllKinded}
use Rattle.csp_value.specs.contracts.value.Value as contract
use Rattle.csp_value.specs.declared.set.SetOf.{SetOf}
use Rattle.csp_value.specs.declared.value.Value.{Value}
use Rattle.csp_value.specs.declared.value.Value.TheVariants as views
use Rattle.csp_value.specs.Value.{value_of}
use Rattle.csp_value.proofs.Forms.{value_of_bool, value_of_con, value_of_int, value_of_seq, value_of_set}

-- a function that has no value of a number, a truth value or a constructor
abbrev pub RefusesScalars : (pure.Value → Result pure.Value Cause) → Type 0
RefusesScalars f =
    ((n : ℤ) → f (pure.Integer n) ≡ Err IllKinded) × ((b : Bool) → f (pure.Truth b) ≡ Err IllKinded)
    × ((k : ℕ) (vs : pure.Values) → f (pure.Constructor k vs) ≡ Err IllKinded)

-- and none of a sequence, or of a set, either
abbrev pub TakesSets : (pure.Value → Result pure.Value Cause) → Type 0
TakesSets f = RefusesScalars f × ((vs : pure.Values) → f (pure.Sequence vs) ≡ Err IllKinded)

abbrev pub TakesSequences : (pure.Value → Result pure.Value Cause) → Type 0
TakesSequences f = RefusesScalars f × ((vs : pure.Values) → f (pure.Set vs) ≡ Err IllKinded)

module _ (R : RattleType.RattleType) (A : allocator.Ghosts R.Denot) (f : pure.Value → Result pure.Value Cause) where
  abbrev Parts : Type 0
  Parts = Declared.Choice (contract.the_parts R A)

  abbrev make : Parts → Value R.Denot
  make = contract.the_make R A

  abbrev RefusedNoSet : Value R.Denot → Type 0
  RefusedNoSet x = ((s : SetOf R.Denot) → x ≡ views.Set s → ⊥) → f (value_of x) ≡ Err IllKinded

  no_set_of : TakesSets f → (v : Parts) → RefusedNoSet (make v)
  no_set_of takes v = elim v as (λ v. RefusedNoSet (make v)) [
    | inl w ↦ λ no_set. ap f (value_of_int R.Denot w.0) ∙ takes.0.0 w.0
    | inr (inl w) ↦ λ no_set. ap f (value_of_bool R.Denot w.0) ∙ takes.0.1 w.0
    | inr (inr (inl w)) ↦ λ no_set. ap f (value_of_con R.Denot w.0 w.1.0) ∙ takes.0.2 _ _
    | inr (inr (inr (inl w))) ↦ λ no_set. ap f (value_of_seq R.Denot w.0) ∙ takes.1 _
    | inr (inr (inr (inr (inl w)))) ↦ λ no_set. absurd (no_set w.0 refl)
    | inr (inr (inr (inr (inr w)))) ↦ absurd w
  ]

  pub no_set : TakesSets f → (x : Value R.Denot) → RefusedNoSet x
  no_set takes x = subst RefusedNoSet (contract.the_eta R A x) (no_set_of takes (contract.as_values R A x))

  abbrev RefusedNoSequence : Value R.Denot → Type 0
  RefusedNoSequence x = ((vs : Vec (Value R.Denot) R.Denot) → x ≡ views.Seq vs → ⊥) → f (value_of x) ≡ Err IllKinded

  no_sequence_of : TakesSequences f → (v : Parts) → RefusedNoSequence (make v)
  no_sequence_of takes v = elim v as (λ v. RefusedNoSequence (make v)) [
    | inl w ↦ λ no_seq. ap f (value_of_int R.Denot w.0) ∙ takes.0.0 w.0
    | inr (inl w) ↦ λ no_seq. ap f (value_of_bool R.Denot w.0) ∙ takes.0.1 w.0
    | inr (inr (inl w)) ↦ λ no_seq. ap f (value_of_con R.Denot w.0 w.1.0) ∙ takes.0.2 _ _
    | inr (inr (inr (inl w))) ↦ λ no_seq. absurd (no_seq w.0 refl)
    | inr (inr (inr (inr (inl w)))) ↦ λ no_seq. ap f (value_of_set R.Denot w.0) ∙ takes.1 _
    | inr (inr (inr (inr (inr w)))) ↦ absurd w
  ]

  pub no_sequence : TakesSequences f → (x : Value R.Denot) → RefusedNoSequence x
  no_sequence takes x = subst RefusedNoSequence (contract.the_eta R A x) (no_sequence_of takes (contract.as_values R A x))
