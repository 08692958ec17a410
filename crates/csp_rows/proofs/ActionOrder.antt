-- The order of actions by numbers is total, and tells different ones apart.
use Rattle.std.proofs.Common.{◌≡◌, ◌<◌, ℕ, ◌+◌, refl, sym, ap, subst, arith}
use Rattle.std.proofs.lemmas.Cmp.{nat_cmp_total, on_total, ranked}
use Rattle.std.specs.Cmp.{IsTotalOrder, nat_cmp_is}
use Rattle.std.specs.FinMap.{nat_cmp-IsAntisymmetric}
use Rattle.std.specs.Ordering.{MatchOrdering, nat_cmp}
use Rattle.std.specs.declared.cmp.Ordering.{Ordering}
use Rattle.std.specs.declared.cmp.Ordering.TheVariants.{Less, Equal, Greater}
use Rattle.csp_rows.specs.declared.numbers.ActionId.{ActionId}
use Rattle.csp_rows.specs.declared.numbers.ActionId.TheVariants.{Tau, Tick, Event}
use Rattle.csp_rows.specs.declared.numbers.EventId.{EventId}
use Rattle.csp_rows.specs.Numbers.{number_cmp}

-- the place of an action
abbrev place : ActionId → ℕ
place Tau = 0
place Tick = 1
place (Event n) = n.0 + 2

shifted : (n m : ℕ) → nat_cmp (n + 2) (m + 2) ≡ nat_cmp n m
shifted n m = sym (nat_cmp_is (n + 2) (m + 2) (nat_cmp n m) (lifted (nat_cmp n m) (ranked n m (nat_cmp n m) refl)))
  where
    lifted : (r : Ordering) → MatchOrdering r (n < m) (n ≡ m) (m < n) → MatchOrdering r (n + 2 < m + 2) (n + 2 ≡ m + 2) (m + 2 < n + 2)
    lifted Less h = omega (arith, h)
    lifted Equal h = omega (arith, h)
    lifted Greater h = omega (arith, h)

by_place : (x y : ActionId) → nat_cmp (place x) (place y) ≡ number_cmp x y
by_place Tau Tau = sym (nat_cmp_is 0 0 Equal refl)
by_place Tau Tick = sym (nat_cmp_is 0 1 Less (omega arith))
by_place Tau (Event m) = sym (nat_cmp_is 0 (m.0 + 2) Less (omega arith))
by_place Tick Tau = sym (nat_cmp_is 1 0 Greater (omega arith))
by_place Tick Tick = sym (nat_cmp_is 1 1 Equal refl)
by_place Tick (Event m) = sym (nat_cmp_is 1 (m.0 + 2) Less (omega arith))
by_place (Event n) Tau = sym (nat_cmp_is (n.0 + 2) 0 Greater (omega arith))
by_place (Event n) Tick = sym (nat_cmp_is (n.0 + 2) 1 Greater (omega arith))
by_place (Event n) (Event m) = shifted n.0 m.0

pub number_total : IsTotalOrder number_cmp
number_total = subst IsTotalOrder (λ i x y. by_place x y i) (on_total place nat_cmp_total)

pub number_same : (x y : ActionId) → number_cmp x y ≡ Equal → x ≡ y
number_same Tau Tau e = refl
number_same Tau Tick e = absurd (cc e)
number_same Tau (Event m) e = absurd (cc e)
number_same Tick Tau e = absurd (cc e)
number_same Tick Tick e = refl
number_same Tick (Event m) e = absurd (cc e)
number_same (Event n) Tau e = absurd (cc e)
number_same (Event n) Tick e = absurd (cc e)
number_same (Event n) (Event m) e = ap (λ (k : ℕ). let id : EventId = record { 0 = k } in Event id) (nat_cmp-IsAntisymmetric n.0 m.0 e)
