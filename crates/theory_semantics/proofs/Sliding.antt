-- What a sliding choice offers.
use Rattle.std.proofs.Common.{◌≡◌, List, [], ◌∷◌, refl}
use Rattle.theory_syntax.specs.Value.{Action, Tick}
use Rattle.theory_syntax.specs.Process.{Process, SlidingChoice, Script}
use Rattle.theory_semantics.specs.Meaning.Unfolding.{settled}
use Rattle.theory_semantics.specs.Meaning.Transitions.{sliding_away}
use Rattle.theory_semantics.specs.Meaning.Offers.{IsStable, IsAcceptance, of_stable, of_tick}

pub never_stable : (s : Script) (p q : Process) → IsStable s (SlidingChoice p q) → ⊥
never_stable s p q is = is.no_tau (settled s q) sliding_away

pub tick_alone : (s : Script) (p q : Process) (xs : List Action) → IsAcceptance s (SlidingChoice p q) xs → xs ≡ Tick ∷ []
tick_alone s p q xs (of_stable is all) = absurd (never_stable s p q is)
tick_alone s p q xs (of_tick can) = refl
