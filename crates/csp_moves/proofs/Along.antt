-- What is told along the ways of a step is told of the step.
use Rattle.std.proofs.Common.{◌≡◌, ℕ, zero, suc, ◌≤◌, ◌<◌, max, Contains, List, [], ◌∷◌, ◌++◌, length, map, get_or, sym, ap, subst, arith, Option, Some, None}
use Rattle.std.specs.List.{AllByRecursion}
use Rattle.std.specs.Option.{option_map}
use Rattle.std.proofs.Math.Nat.{le-max_left, le-max_right}
use Rattle.theory_syntax.specs.Value.{Action}
use Rattle.theory_syntax.specs.Process.{Process, Script}
use Rattle.theory_origins.specs.Origin.{Below, Origin, Passage, Together}
use Rattle.theory_origins.specs.Telling.{Tells}
use Rattle.theory_origins.specs.Ways.{AreWays, Both, Part, TellsBy, TellsOf, Through, Way, way_weight}
use Rattle.csp_moves.specs.Along.{TellsAlong}

-- ---- lists

module _ {X : Type 0} (P : X → Type 0) where
  pub of_one : (xs : List X) → AllByRecursion P xs → (x : X) → Contains xs x → P x
  of_one [] all x (k, h, e) = absurd (omega arith)
  of_one (y ∷ ys) all x (zero, h, e) = subst P e all.0
  of_one (y ∷ ys) all x (suc k, h, e) = of_one ys all.1 x (k, omega arith, e)

  pub one_more : (xs : List X) (x : X) → AllByRecursion P xs → P x → AllByRecursion P (xs ++ x ∷ [])
  one_more [] x all h = (h, tt)
  one_more (y ∷ ys) x all h = (all.0, one_more ys x all.1 h)

-- an item that is read
pub contains_at : {X Y : Type 0} (f : X → Y) (xs : List X) (i : ℕ) (x : X) → i < length xs → x ≡ get_or xs i x → Contains (map f xs) (f x)
contains_at f [] i x h is = absurd (omega arith)
contains_at f (y ∷ ys) zero x h is = (0, omega arith, ap f (sym is))
contains_at f (y ∷ ys) (suc i) x h is = let r = contains_at f ys i x (omega arith) is in (suc r.0, omega (arith, r.1), r.2)

-- ---- ways

-- the greatest weight of the ways
abbrev pub most_weight : Script → List Way → ℕ
most_weight s [] = 0
most_weight s (way ∷ ways) = max (way_weight s way) (most_weight s ways)

module _ (s : Script) where
  pub most_below : (n : ℕ) (ways : List Way) → AllByRecursion (λ way. way_weight s way ≤ n) ways → most_weight s ways ≤ n
  most_below n [] all = omega arith
  most_below n (way ∷ ways) all = let h = all.0 in let k = most_below n ways all.1 in omega arith

  pub one_below : (ways : List Way) (way : Way) → Contains ways way → way_weight s way ≤ most_weight s ways
  one_below [] way (k, h, e) = absurd (omega arith)
  one_below (w ∷ ways) way (zero, h, e) = let same : way_weight s w ≡ way_weight s way = ap (way_weight s) e in omega (arith, le-max_left (way_weight s w) (most_weight s ways))
  one_below (w ∷ ways) way (suc k, h, e) = let below = one_below ways way (k, omega arith, e) in omega (arith, le-max_right (way_weight s w) (most_weight s ways))

  pub told_along : (p : Process) (x : Action) (t : Process) (ways : List Way) (o : Option Origin) → AreWays s p x t ways → TellsAlong s ways o → Tells s p x t o
  told_along p x t ways (Some o) are h = of_one _ ways are.sound h.0 h.1 o h.2
  told_along p x t ways None are h = are.complete h

  -- a part that is closed, or not
  pub told_through : (passage : Passage) (part : Part) (l o : Option Origin) → TellsOf s part l → o ≡ option_map (Below passage) l → TellsBy s (Through passage part) o
  told_through passage part l o h is = (l, h, is)

  pub told_both : (left right : Part) (l r o : Origin) → TellsOf s left (Some l) → TellsOf s right (Some r) → o ≡ Together l r → TellsBy s (Both left right) (Some o)
  told_both left right l r o h k is = (l, r, h, k, is)
