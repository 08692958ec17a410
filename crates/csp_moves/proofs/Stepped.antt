-- The ways of calls and of prefixes, by their steps.
use Rattle.std.proofs.Common.{◌≡◌, ℕ, IfOk, [], ◌∷◌, refl, sym, subst, None, Result}
use Rattle.std.specs.declared.vec.Vec.{Vec}
use Rattle.theory_syntax.specs.Value.{Action, Event, Ev}
use Rattle.theory_syntax.specs.Process.{Process, Script}
use Rattle.theory_semantics.specs.Meaning.Transitions.{RuleStep}
use Rattle.theory_origins.specs.Origin.{Does, Unfolds}
use Rattle.theory_origins.specs.Telling.{Tells}
use Rattle.theory_origins.specs.Ways.{AreWays, Here}
use Rattle.theory_origins.proofs.LeafWays as law
use Rattle.theory_origins.proofs.Ways as ways
use Rattle.csp_moves.specs.declared.way.Way.{Way}
use Rattle.csp_moves.specs.Leaves.{IsCallOf, IsPrefix}
use Rattle.csp_moves.specs.Way.{AreFoundIn, ways_of}
use Rattle.csp_moves.proofs.Found.{found_in}

module _ (s : Script) (p : Process) (t : Process) where
  call_are : (x : Action) (n : ℕ) → IsCallOf n p → RuleStep s p x t → AreWays s p x t (Here (Unfolds n) ∷ [])
  call_are x n call step =
      let P : Process → Type 0 = λ q. RuleStep s q x t → AreWays s q x t (Here (Unfolds n) ∷ []) in
      subst P (sym call.1) (λ h. law.call_ways s x t n call.0 h) step

  prefix_are : (e : Event) → IsPrefix p → RuleStep s p (Ev e) t → AreWays s p (Ev e) t (Here (Does e) ∷ [])
  prefix_are e prefix step =
      let P : Process → Type 0 = λ q. RuleStep s q (Ev e) t → AreWays s q (Ev e) t (Here (Does e) ∷ []) in
      subst P (sym prefix.3) (λ h. law.prefix_ways s (Ev e) t prefix.0 prefix.1 prefix.2 e refl h) step

  prefix_none : (x : Action) → IsPrefix p → ((e : Event) → ¬ (x ≡ Ev e)) → AreWays s p x t []
  prefix_none x prefix other =
      let P : Process → Type 0 = λ q. AreWays s q x t [] in
      subst P (sym prefix.3) (law.no_prefix_ways s x t prefix.0 prefix.1 prefix.2 other)

  module _ {A E : Type 0} (r : Result (Vec (Way A) A) E) where
    pub call_found : (x : Action) (n : ℕ) → IsCallOf n p → RuleStep s p x t → IfOk r (λ ways. ways_of ways ≡ Here (Unfolds n) ∷ []) → IfOk r (AreFoundIn s p x t)
    call_found x n call step ways = found_in s p x t r _ (Here (Unfolds n) ∷ []) ways refl (call_are x n call step)

    pub prefix_found : (e : Event) → IsPrefix p → RuleStep s p (Ev e) t → IfOk r (λ ways. ways_of ways ≡ Here (Does e) ∷ []) → IfOk r (AreFoundIn s p (Ev e) t)
    prefix_found e prefix step ways = found_in s p (Ev e) t r _ (Here (Does e) ∷ []) ways refl (prefix_are e prefix step)

    pub no_event_found : (x : Action) → IsPrefix p → ((e : Event) → ¬ (x ≡ Ev e)) → IfOk r (λ ways. ways_of ways ≡ []) → IfOk r (AreFoundIn s p x t)
    no_event_found x prefix other ways = found_in s p x t r _ [] ways refl (prefix_none x prefix other)

    pub none_found : (x : Action) → Tells s p x t None → IfOk r (λ ways. ways_of ways ≡ []) → IfOk r (AreFoundIn s p x t)
    none_found x none found = found_in s p x t r _ [] found refl (ways.no_ways s p x t none)
