-- What is no set has no members.
use denote.RattleType
use denote.Enum.Declared
use Rattle.std.proofs.Common.{◌≡◌, Err, refl, ap, subst, inl, inr}
use Rattle.std.specs.declared.alloc.Allocator as allocator
use Rattle.theory_semantics.specs.Meaning.Evaluation.{IllKinded}
use Rattle.theory_semantics.specs.Meaning.Events.{members_of}
use Rattle.csp_value.specs.contracts.value.Value as contract
use Rattle.csp_value.specs.declared.set.SetOf.{SetOf}
use Rattle.csp_value.specs.declared.value.Value.{Value}
use Rattle.csp_value.specs.declared.value.Value.TheVariants as views
use Rattle.csp_value.specs.Value.{value_of}
use Rattle.csp_value.proofs.Forms.{value_of_bool, value_of_con, value_of_int, value_of_seq}

module _ (R : RattleType.RattleType) (A : allocator.Ghosts R.Denot) where
  abbrev Parts : Type 0
  Parts = Declared.Choice (contract.the_parts R A)

  abbrev make : Parts → Value R.Denot
  make = contract.the_make R A

  abbrev HasNone : Value R.Denot → Type 0
  HasNone x = ((s : SetOf R.Denot) → x ≡ views.Set s → ⊥) → members_of (value_of x) ≡ Err IllKinded

  by_parts : (v : Parts) → HasNone (make v)
  by_parts v = elim v as (λ v. HasNone (make v)) [
    | inl w ↦ λ no_set. ap members_of (value_of_int R.Denot w.0)
    | inr (inl w) ↦ λ no_set. ap members_of (value_of_bool R.Denot w.0)
    | inr (inr (inl w)) ↦ λ no_set. ap members_of (value_of_con R.Denot w.0 w.1.0)
    | inr (inr (inr (inl w))) ↦ λ no_set. ap members_of (value_of_seq R.Denot w.0)
    | inr (inr (inr (inr (inl w)))) ↦ λ no_set. absurd (no_set w.0 refl)
    | inr (inr (inr (inr (inr w)))) ↦ absurd w
  ]

  pub no_members : (x : Value R.Denot) → HasNone x
  no_members x = subst HasNone (contract.the_eta R A x) (by_parts (contract.as_values R A x))
