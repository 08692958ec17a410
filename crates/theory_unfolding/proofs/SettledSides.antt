-- Assertions with their sides settled.
use Rattle.std.proofs.Common.{◌≡◌, Bool, true, false, cond, refl, ◌∙◌, ap}
use Rattle.std.specs.Prelude.{IfSome}
use Rattle.theory_syntax.specs.Process.{Process, Property, RefinementOf, DeadlockFree, DivergenceFree, specification_of, Assertion, ByTau, Script}
use Rattle.theory_semantics.specs.Meaning.Limits.{fits}
use Rattle.theory_semantics.specs.Meaning.Unfolding.{settled}
use Rattle.theory_semantics.specs.Kinds.Kind.{Kinds}
use Rattle.theory_semantics.specs.Kinds.Processes.{IsClosedTerm}
use Rattle.theory_semantics.specs.Kinds.Scripts.{IsTermOf, IsWellKindedScript}
use Rattle.theory_semantics.proofs.Settling.{settled_closed}
use Rattle.theory_search.specs.Terms.{IsAssertionOf}
use Rattle.theory_unfolding.specs.Assertions.{settled_side, settled_property, settled_assertion}
use Rattle.theory_unfolding.proofs.Sides.{read_by_tau}

module _ (script : Script) where
  -- ---- they are terms of the script

  side_closed : (kinds : Kinds) → IsWellKindedScript script kinds → (p : Process) → IsClosedTerm script kinds p → IsClosedTerm script kinds (settled_side script p)
  side_closed kinds good p closed = go (fits (settled script p))
    where
      go : (within : Bool) → IsClosedTerm script kinds (cond within (settled script p) p)
      go true = settled_closed script kinds good.sets good.equations p closed
      go false = closed

  side_term : (p : Process) → IsTermOf script p → IsTermOf script (settled_side script p)
  side_term p (kinds, good, closed) = (kinds, good, side_closed kinds good p closed)

  specification_term : (p : Property) → IfSome (specification_of p) (IsTermOf script) → IfSome (specification_of (settled_property script p)) (IsTermOf script)
  specification_term (RefinementOf model spec) is = side_term spec is
  specification_term DeadlockFree is = tt
  specification_term DivergenceFree is = tt

  pub sides_stay : (a : Assertion) → IsAssertionOf script a → IsAssertionOf script (settled_assertion script a)
  sides_stay a is = record { specification = specification_term a.property is.specification; implementation = side_term a.implementation is.implementation }

  -- ---- by tau they stay as they are

  module _ (read : script.unfolds ≡ ByTau) where
    same_side : (p : Process) → settled_side script p ≡ p
    same_side p = ap (λ v. cond (fits v) v p) (read_by_tau script p read) ∙ go (fits p)
      where
        go : (within : Bool) → cond within p p ≡ p
        go true = refl
        go false = refl

    same_property : (p : Property) → settled_property script p ≡ p
    same_property (RefinementOf model spec) = ap (RefinementOf model) (same_side spec)
    same_property DeadlockFree = refl
    same_property DivergenceFree = refl

    pub same_by_tau : (a : Assertion) → settled_assertion script a ≡ a
    same_by_tau a = let e = same_property a.property in let f = same_side a.implementation in λ i. record { property = e i; implementation = f i; negated = a.negated }
