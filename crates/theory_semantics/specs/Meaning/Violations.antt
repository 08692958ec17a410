-- Violations of an assertion, and their order.
use Rattle.std.specs.Prelude.{Bool, true, false, List, [], ◌∷◌, ◌++◌, length, IsTrue}
use Rattle.std.specs.declared.cmp.Ordering.{Ordering}
use Rattle.std.specs.declared.cmp.Ordering.TheVariants.{Less, Equal, Greater}
use Rattle.std.specs.Ordering.{nat_cmp, ordering_then, is_le}
use Rattle.std.specs.Cmp.Lexicographic.{slice_cmp}
use Rattle.theory_syntax.specs.Value.{Action, action_cmp}
use Rattle.theory_syntax.specs.Process.{Process, Model, Traces, Failures, Property, RefinementOf, DeadlockFree, DivergenceFree, specification_of, Assertion, Script}
use Rattle.theory_semantics.specs.Meaning.Transitions.{IsVisible}
use Rattle.theory_semantics.specs.Meaning.Runs.{Run, trace, IsTrace, IsKnown}
use Rattle.theory_semantics.specs.Meaning.Offers.{CanDo, IsAcceptance, AllBut, IsFailure}
use Rattle.theory_semantics.specs.Meaning.Divergence.{Diverges, IsDeadlocked}
use Rattle.theory_semantics.specs.Meaning.Properties.{HoldsPlainly}

-- what the end of the path does that the specification lacks: tick or an event, or an acceptance; or that it is deadlocked, or diverges
pub data Evidence : Type 0 where
  ByEvent : (action : Action) → Evidence
  ByOffers : (offers : List Action) → Evidence
  ByDeadlock : Evidence
  ByDivergence : Evidence

pub record Violation : Type 0 where
  pub path : List Action
  pub evidence : Evidence

-- The evidence at the end t of a path. Under traces refinement offers are none.
abbrev pub IsEvidence : Script → Property → List Action → Process → Evidence → Type 0
IsEvidence script (RefinementOf model spec) path t (ByEvent x) = IsVisible x × CanDo script t x × ¬ IsTrace script spec (trace path ++ x ∷ [])
IsEvidence script (RefinementOf Failures spec) path t (ByOffers xs) = IsAcceptance script t xs × ¬ IsFailure script spec (trace path) (AllBut xs)
IsEvidence script DeadlockFree path t ByDeadlock = IsDeadlocked script t
IsEvidence script DivergenceFree path t ByDivergence = Diverges script t
IsEvidence script _ path t _ = ⊥

-- A path of the implementation, whose trace is one of the specification if there is one, with evidence at its end.
pub record IsViolation (script : Script) (a : Assertion) (v : Violation) : Type 0 where
  pub end : Process
  pub run : Run script a.implementation v.path end
  pub known : IsKnown script (specification_of a.property) (trace v.path)
  pub evidence : IsEvidence script a.property v.path end v.evidence

-- Nothing that the end t of a path does or offers is lacking. It says in positive words that there is no evidence there.
abbrev pub OffersAllowed : Script → Model → Process → List Action → Process → Type 0
OffersAllowed script Traces spec path t = Unit {0}
OffersAllowed script Failures spec path t = (xs : List Action) → IsAcceptance script t xs → IsFailure script spec (trace path) (AllBut xs)

pub record LacksNothing (script : Script) (model : Model) (spec : Process) (path : List Action) (t : Process) : Type 0 where
  pub events : (x : Action) → IsVisible x → CanDo script t x → IsTrace script spec (trace path ++ x ∷ [])
  pub offers : OffersAllowed script model spec path t

abbrev pub IsAllowedBy : Script → Property → List Action → Process → Type 0
IsAllowedBy script (RefinementOf model spec) path t = LacksNothing script model spec path t
IsAllowedBy script DeadlockFree path t = ¬ IsDeadlocked script t
IsAllowedBy script DivergenceFree path t = ¬ Diverges script t

abbrev pub IsAllowed : Script → Assertion → List Action → Process → Type 0
IsAllowed script a path t = IsAllowedBy script a.property path t

-- The order of paths: the shorter one, then action by action.
abbrev pub path_cmp : List Action → List Action → Ordering
path_cmp p q = ordering_then (nat_cmp (length p) (length q)) (slice_cmp action_cmp p q)

-- events before offers, then the lesser event, or the lesser sorted list; then deadlock, and divergence last
abbrev pub evidence_cmp : Evidence → Evidence → Ordering
evidence_cmp (ByEvent x) (ByEvent y) = action_cmp x y
evidence_cmp (ByEvent x) (ByOffers ys) = Less
evidence_cmp (ByOffers xs) (ByEvent y) = Greater
evidence_cmp (ByOffers xs) (ByOffers ys) = slice_cmp action_cmp xs ys
evidence_cmp ByDeadlock ByDeadlock = Equal
evidence_cmp ByDeadlock ByDivergence = Less
evidence_cmp ByDeadlock f = Greater
evidence_cmp ByDivergence ByDivergence = Equal
evidence_cmp ByDivergence f = Greater
evidence_cmp e f = Less

abbrev pub violation_cmp : Violation → Violation → Ordering
violation_cmp v w = ordering_then (path_cmp v.path w.path) (evidence_cmp v.evidence w.evidence)

pub record IsLeastViolation (script : Script) (a : Assertion) (v : Violation) : Type 0 where
  pub violation : IsViolation script a v
  pub least : (w : Violation) → IsViolation script a w → IsTrue (is_le (violation_cmp v w))

-- What an assertion says as it is written: that it holds plainly, or with `not` that it has a violation.
abbrev pub HoldsBy : Bool → Script → Assertion → Type 0
HoldsBy false script a = HoldsPlainly script a
HoldsBy true script a = (v : Violation) × IsViolation script a v

abbrev pub HoldsAsWritten : Script → Assertion → Type 0
HoldsAsWritten script a = HoldsBy a.negated script a
