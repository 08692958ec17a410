-- Assertions get the same answer in both readings, with the same trace and evidence.
use Rattle.std.proofs.Common.{◌≡◌, ◌↔◌, Bool, true, false, cond, List, [], ◌∷◌, ◌++◌, refl, sym, subst}
use Rattle.std.specs.Prelude.{IfSome}
use Rattle.theory_syntax.specs.Value.{Action}
use Rattle.theory_syntax.specs.Process.{Process, Traces, Failures, Property, RefinementOf, DeadlockFree, DivergenceFree, specification_of, Assertion, Script}
use Rattle.theory_semantics.specs.Meaning.Limits.{fits}
use Rattle.theory_semantics.specs.Meaning.Unfolding.{settled}
use Rattle.theory_semantics.specs.Meaning.Transitions.{IsNotStuck}
use Rattle.theory_semantics.specs.Meaning.Runs.{trace, IsTrace, IsKnown, NoneStuck}
use Rattle.theory_semantics.specs.Meaning.Offers.{AllBut, IsFailure}
use Rattle.theory_semantics.specs.Meaning.Properties.{HasProperty, HoldsPlainly}
use Rattle.theory_semantics.specs.Meaning.Violations.{Evidence, ByEvent, ByOffers, ByDeadlock, ByDivergence, Violation, IsEvidence, IsViolation, HoldsBy, HoldsAsWritten}
use Rattle.theory_syntax.specs.Readings.{by_tau, at_once}
use Rattle.theory_unfolding.specs.Unfolded.{itself, IsUnfoldedTo}
use Rattle.theory_unfolding.specs.Assertions.{IsUnfoldedProperty, of_refinement, of_deadlock, of_divergence, IsUnfoldedAssertion, settled_side, settled_property, settled_assertion, SidesNeverStick, HasViolationLike}
use Rattle.theory_unfolding.proofs.Settled.{settled_unfolded}
use Rattle.theory_unfolding.proofs.Running.{run_on, run_to_end, none_reached}
use Rattle.theory_unfolding.proofs.Offering.{can_on, can_back, accepts_on, accepts_back, deadlocked_on, deadlocked_back}
use Rattle.theory_unfolding.proofs.Refining.{accepting_is_not_stuck, trace_on, trace_back, failure_on, failure_back, deadlock_free_on, deadlock_free_back, refines_on, refines_back}
use Rattle.theory_unfolding.proofs.Diverging.{diverges_on, diverges_back, divergence_free_on, divergence_free_back}

module _ (s : Script) where
  -- ---- settled assertions

  side_unfolded : (p : Process) → IsUnfoldedTo s p (settled_side (at_once s) p)
  side_unfolded p = go (fits (settled (at_once s) p))
    where
      go : (within : Bool) → IsUnfoldedTo s p (cond within (settled (at_once s) p) p)
      go true = settled_unfolded s p
      go false = (0, itself)

  settled_properties : (p : Property) → IsUnfoldedProperty s p (settled_property (at_once s) p)
  settled_properties (RefinementOf model spec) = of_refinement (side_unfolded spec)
  settled_properties DeadlockFree = of_deadlock
  settled_properties DivergenceFree = of_divergence

  pub settled_assertions : (a : Assertion) → IsUnfoldedAssertion s a (settled_assertion (at_once s) a)
  settled_assertions a = record { negated = refl; property = settled_properties a.property; implementation = side_unfolded a.implementation }

  same_properties : (p : Property) → IsUnfoldedProperty s p p
  same_properties (RefinementOf model spec) = of_refinement (0, itself)
  same_properties DeadlockFree = of_deadlock
  same_properties DivergenceFree = of_divergence

  pub same_assertion : (a : Assertion) → IsUnfoldedAssertion s a a
  same_assertion a = record { negated = refl; property = same_properties a.property; implementation = (0, itself) }

  -- ---- what holds

  property_on : (p q : Property) (t v : Process) → IsUnfoldedProperty s p q → IsUnfoldedTo s t v → NoneStuck (at_once s) v → HasProperty (at_once s) q v → HasProperty (by_tau s) p t
  property_on _ _ t v (of_refinement {model = model} {spec = spec} {new_spec = new_spec} d) e none h = refines_on s spec new_spec t v d e model none h
  property_on _ _ t v of_deadlock e none h = deadlock_free_on s t v e none h
  property_on _ _ t v of_divergence e none h = divergence_free_on s t v e none h

  property_back : (p q : Property) (t v : Process) → IsUnfoldedProperty s p q → IsUnfoldedTo s t v → IfSome (specification_of q) (NoneStuck (at_once s)) →
      HasProperty (by_tau s) p t → HasProperty (at_once s) q v
  property_back _ _ t v (of_refinement {model = model} {spec = spec} {new_spec = new_spec} d) e none h = refines_back s spec new_spec t v d e model none h
  property_back _ _ t v of_deadlock e none h = deadlock_free_back s t v e h
  property_back _ _ t v of_divergence e none h = divergence_free_back s t v e h

  pub holds_same : (a b : Assertion) → IsUnfoldedAssertion s a b → SidesNeverStick (at_once s) b → HoldsPlainly (at_once s) b ↔ HoldsPlainly (by_tau s) a
  holds_same a b d none = (
    property_on a.property b.property a.implementation b.implementation d.property d.implementation none.implementation,
    property_back a.property b.property a.implementation b.implementation d.property d.implementation none.specification,
  )

  -- ---- what is known and what is evidence

  known_back : (p q : Property) (l m : List Action) → IsUnfoldedProperty s p q → l ≡ m → IsKnown (at_once s) (specification_of q) m → IsKnown (by_tau s) (specification_of p) l
  known_back _ _ l m (of_refinement {spec = spec} {new_spec = new_spec} d) e known = let P : List Action → Type 0 = λ z. IsTrace (by_tau s) spec z in subst P (sym e) (trace_back s spec new_spec d m known)
  known_back _ _ l m of_deadlock e known = tt
  known_back _ _ l m of_divergence e known = tt

  known_on : (p q : Property) (l m : List Action) → IsUnfoldedProperty s p q → l ≡ m → IfSome (specification_of q) (NoneStuck (at_once s)) → IsKnown (by_tau s) (specification_of p) m →
      IsKnown (at_once s) (specification_of q) l
  known_on _ _ l m (of_refinement {spec = spec} {new_spec = new_spec} d) e none known =
      let P : List Action → Type 0 = λ z. IsTrace (at_once s) new_spec z in subst P (sym e) (trace_on s spec new_spec d m none known)
  known_on _ _ l m of_deadlock e none known = tt
  known_on _ _ l m of_divergence e none known = tt

  -- what has evidence is not stuck
  evidence_not_stuck : (script : Script) (p : Property) (path : List Action) (t : Process) (e : Evidence) → IsEvidence script p path t e → IsNotStuck script t
  evidence_not_stuck script (RefinementOf model spec) path t (ByEvent x) h = h.1.1.0
  evidence_not_stuck script (RefinementOf Traces spec) path t (ByOffers xs) h = absurd h
  evidence_not_stuck script (RefinementOf Failures spec) path t (ByOffers xs) h = accepting_is_not_stuck script t xs h.0
  evidence_not_stuck script (RefinementOf Traces spec) path t ByDeadlock h = absurd h
  evidence_not_stuck script (RefinementOf Failures spec) path t ByDeadlock h = absurd h
  evidence_not_stuck script (RefinementOf Traces spec) path t ByDivergence h = absurd h
  evidence_not_stuck script (RefinementOf Failures spec) path t ByDivergence h = absurd h
  evidence_not_stuck script DeadlockFree path t (ByEvent x) h = absurd h
  evidence_not_stuck script DeadlockFree path t (ByOffers xs) h = absurd h
  evidence_not_stuck script DeadlockFree path t ByDeadlock h = accepting_is_not_stuck script t [] h.1
  evidence_not_stuck script DeadlockFree path t ByDivergence h = absurd h
  evidence_not_stuck script DivergenceFree path t (ByEvent x) h = absurd h
  evidence_not_stuck script DivergenceFree path t (ByOffers xs) h = absurd h
  evidence_not_stuck script DivergenceFree path t ByDeadlock h = absurd h
  evidence_not_stuck script DivergenceFree path t ByDivergence h = (h 1).1.1.0

  -- evidence at once is evidence by tau, of the same term
  evidence_back : (p q : Property) (path new_path : List Action) (t : Process) (e : Evidence) → IsUnfoldedProperty s p q → trace path ≡ trace new_path →
      IfSome (specification_of q) (NoneStuck (at_once s)) → IsEvidence (at_once s) q new_path t e → IsEvidence (by_tau s) p path t e
  evidence_back _ _ path new_path t (ByEvent x) (of_refinement {spec = spec} {new_spec = new_spec} d) same none h =
      (h.0, can_back s t x h.1, λ is. h.2 (trace_on s spec new_spec d (trace new_path ++ x ∷ []) none (let P : List Action → Type 0 = λ z. IsTrace (by_tau s) spec (z ++ x ∷ []) in subst P same is)))
  evidence_back _ _ path new_path t (ByOffers xs) (of_refinement {model = Failures} {spec = spec} {new_spec = new_spec} d) same none h =
      (accepts_back s t xs h.0, λ is. h.1 (failure_on s spec new_spec d (trace new_path) (AllBut xs) none (let P : List Action → Type 0 = λ z. IsFailure (by_tau s) spec z (AllBut xs) in subst P same is)))
  evidence_back _ _ path new_path t (ByOffers xs) (of_refinement {model = Traces} d) same none h = absurd h
  evidence_back _ _ path new_path t ByDeadlock (of_refinement {model = Failures} d) same none h = absurd h
  evidence_back _ _ path new_path t ByDeadlock (of_refinement {model = Traces} d) same none h = absurd h
  evidence_back _ _ path new_path t ByDivergence (of_refinement {model = Failures} d) same none h = absurd h
  evidence_back _ _ path new_path t ByDivergence (of_refinement {model = Traces} d) same none h = absurd h
  evidence_back _ _ path new_path t ByDeadlock of_deadlock same none h = deadlocked_back s t h
  evidence_back _ _ path new_path t (ByEvent x) of_deadlock same none h = absurd h
  evidence_back _ _ path new_path t (ByOffers xs) of_deadlock same none h = absurd h
  evidence_back _ _ path new_path t ByDivergence of_deadlock same none h = absurd h
  evidence_back _ _ path new_path t ByDivergence of_divergence same none h = diverges_back s t t (0, itself) h
  evidence_back _ _ path new_path t (ByEvent x) of_divergence same none h = absurd h
  evidence_back _ _ path new_path t (ByOffers xs) of_divergence same none h = absurd h
  evidence_back _ _ path new_path t ByDeadlock of_divergence same none h = absurd h

  -- evidence by tau is evidence at once, of what the term is unfolded to
  evidence_on : (p q : Property) (path new_path : List Action) (t v : Process) (e : Evidence) → IsUnfoldedProperty s p q → trace new_path ≡ trace path →
      IsUnfoldedTo s t v → NoneStuck (at_once s) v → IsEvidence (by_tau s) p path t e → IsEvidence (at_once s) q new_path v e
  evidence_on _ _ path new_path t v (ByEvent x) (of_refinement {spec = spec} {new_spec = new_spec} d) same o none h =
      (h.0, can_on s t v x h.0 o (none [] v refl) h.1, λ is. h.2 (trace_back s spec new_spec d (trace path ++ x ∷ []) (let P : List Action → Type 0 = λ z. IsTrace (at_once s) new_spec (z ++ x ∷ []) in subst P same is)))
  evidence_on _ _ path new_path t v (ByOffers xs) (of_refinement {model = Failures} {spec = spec} {new_spec = new_spec} d) same o none h =
      (accepts_on s t v xs o (none [] v refl) h.0, λ is. h.1 (failure_back s spec new_spec d (trace path) (AllBut xs) (let P : List Action → Type 0 = λ z. IsFailure (at_once s) new_spec z (AllBut xs) in subst P same is)))
  evidence_on _ _ path new_path t v (ByOffers xs) (of_refinement {model = Traces} d) same o none h = absurd h
  evidence_on _ _ path new_path t v ByDeadlock (of_refinement {model = Failures} d) same o none h = absurd h
  evidence_on _ _ path new_path t v ByDeadlock (of_refinement {model = Traces} d) same o none h = absurd h
  evidence_on _ _ path new_path t v ByDivergence (of_refinement {model = Failures} d) same o none h = absurd h
  evidence_on _ _ path new_path t v ByDivergence (of_refinement {model = Traces} d) same o none h = absurd h
  evidence_on _ _ path new_path t v ByDeadlock of_deadlock same o none h = deadlocked_on s t v o (none [] v refl) h
  evidence_on _ _ path new_path t v (ByEvent x) of_deadlock same o none h = absurd h
  evidence_on _ _ path new_path t v (ByOffers xs) of_deadlock same o none h = absurd h
  evidence_on _ _ path new_path t v ByDivergence of_deadlock same o none h = absurd h
  evidence_on _ _ path new_path t v ByDivergence of_divergence same o none h = diverges_on s t v o none h
  evidence_on _ _ path new_path t v (ByEvent x) of_divergence same o none h = absurd h
  evidence_on _ _ path new_path t v (ByOffers xs) of_divergence same o none h = absurd h
  evidence_on _ _ path new_path t v ByDeadlock of_divergence same o none h = absurd h

  -- ---- violations

  pub violation_back : (a b : Assertion) (v : Violation) → IsUnfoldedAssertion s a b → IfSome (specification_of b.property) (NoneStuck (at_once s)) → IsViolation (at_once s) b v →
      HasViolationLike (by_tau s) a v
  violation_back a b v d none is =
      let r = run_to_end s v.path a.implementation b.implementation is.end d.implementation is.run (evidence_not_stuck (at_once s) b.property v.path is.end v.evidence is.evidence) in
      record {
        violation = record { path = r.0; evidence = v.evidence };
        is_one = record {
          end = is.end;
          run = r.1;
          known = known_back a.property b.property (trace r.0) (trace v.path) d.property r.2 is.known;
          evidence = evidence_back a.property b.property r.0 v.path is.end v.evidence d.property r.2 none is.evidence;
        };
        traces = r.2;
        evidence = refl;
      }

  pub violation_on : (a b : Assertion) (v : Violation) → IsUnfoldedAssertion s a b → SidesNeverStick (at_once s) b → IsViolation (by_tau s) a v → HasViolationLike (at_once s) b v
  violation_on a b v d none is =
      let r = run_on s v.path a.implementation is.end b.implementation d.implementation none.implementation is.run in
      record {
        violation = record { path = r.0; evidence = v.evidence };
        is_one = record {
          end = r.1;
          run = r.2;
          known = known_on a.property b.property (trace r.0) (trace v.path) d.property r.3 none.specification is.known;
          evidence = evidence_on a.property b.property v.path r.0 is.end r.1 v.evidence d.property r.3 r.4 (none_reached (at_once s) b.implementation r.0 r.1 none.implementation r.2) is.evidence;
        };
        traces = r.3;
        evidence = refl;
      }

  -- ---- as written

  by_sign : (x y : Bool) (a b : Assertion) → x ≡ y → IsUnfoldedAssertion s a b → SidesNeverStick (at_once s) b → HoldsBy y (at_once s) b ↔ HoldsBy x (by_tau s) a
  by_sign false false a b e d none = holds_same a b d none
  by_sign true true a b e d none = (
    λ h. let w = violation_back a b h.0 d none.specification h.1 in (w.violation, w.is_one),
    λ h. let w = violation_on a b h.0 d none h.1 in (w.violation, w.is_one),
  )
  by_sign true false a b e d none = absurd (cc e)
  by_sign false true a b e d none = absurd (cc e)

  pub written_same : (a b : Assertion) → IsUnfoldedAssertion s a b → SidesNeverStick (at_once s) b → HoldsAsWritten (at_once s) b ↔ HoldsAsWritten (by_tau s) a
  written_same a b d none = by_sign a.negated b.negated a b d.negated d none
