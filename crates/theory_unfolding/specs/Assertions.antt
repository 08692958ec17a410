-- Assertions in the two readings.
use Rattle.std.specs.Prelude.{◌≡◌, IfSome, cond}
use Rattle.theory_syntax.specs.Process.{Process, Model, Property, RefinementOf, DeadlockFree, DivergenceFree, specification_of, Assertion, Script}
use Rattle.theory_semantics.specs.Meaning.Limits.{fits}
use Rattle.theory_semantics.specs.Meaning.Unfolding.{settled}
use Rattle.theory_semantics.specs.Meaning.Runs.{trace, NoneStuck}
use Rattle.theory_semantics.specs.Meaning.Violations.{Violation, IsViolation}
use Rattle.theory_unfolding.specs.Unfolded.{IsUnfoldedTo}

-- A property becomes one of the same kind, with some calls of its specification unfolded.
pub data IsUnfoldedProperty (script : Script) : Property → Property → Type 0 where
  of_refinement : {model : Model} {spec new_spec : Process} → IsUnfoldedTo script spec new_spec → IsUnfoldedProperty script (RefinementOf model spec) (RefinementOf model new_spec)
  of_deadlock : IsUnfoldedProperty script DeadlockFree DeadlockFree
  of_divergence : IsUnfoldedProperty script DivergenceFree DivergenceFree

-- an assertion becomes the other where some calls of its sides are unfolded
pub record IsUnfoldedAssertion (script : Script) (a b : Assertion) : Type 0 where
  pub negated : a.negated ≡ b.negated
  pub property : IsUnfoldedProperty script a.property b.property
  pub implementation : IsUnfoldedTo script a.implementation b.implementation

-- a side settled, unless it is then past the limits
abbrev pub settled_side : Script → Process → Process
settled_side script p = cond (fits (settled script p)) (settled script p) p

abbrev pub settled_property : Script → Property → Property
settled_property script (RefinementOf model spec) = RefinementOf model (settled_side script spec)
settled_property script DeadlockFree = DeadlockFree
settled_property script DivergenceFree = DivergenceFree

-- the assertion with its sides settled
abbrev pub settled_assertion : Script → Assertion → Assertion
settled_assertion script a = record { negated = a.negated; property = settled_property script a.property; implementation = settled_side script a.implementation }

-- no side of an assertion leads to a stuck term
pub record SidesNeverStick (script : Script) (a : Assertion) : Type 0 where
  pub specification : IfSome (specification_of a.property) (NoneStuck script)
  pub implementation : NoneStuck script a.implementation

-- a violation of the assertion with the trace and the evidence of another one
pub record HasViolationLike (script : Script) (a : Assertion) (other : Violation) : Type 0 where
  pub violation : Violation
  pub is_one : IsViolation script a violation
  pub traces : trace violation.path ≡ trace other.path
  pub evidence : violation.evidence ≡ other.evidence
