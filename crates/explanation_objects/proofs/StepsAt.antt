-- Steps at their places.
use Rattle.std.proofs.Common.{◌≡◌, ◌<◌, ◌≤◌, ℕ, zero, suc, ◌+◌, List, [], ◌∷◌, ◌++◌, Option, Some, None, length, take, drop, replicate, slice_get, refl, sym, ◌∙◌, ap, arith}
use Rattle.theory_syntax.specs.Value.{Action, Tau}
use Rattle.theory_syntax.specs.Process.{Process}
use Rattle.theory_origins.specs.Origin.{Origin}
use Rattle.theory_objects.specs.Accounts.{Step, steps_to}

nothing_left : (steps : List Step) (i : ℕ) → steps ≡ [] → drop i steps ≡ []
nothing_left [] zero none = refl
nothing_left [] (suc i) none = refl
nothing_left (s ∷ steps) i none = absurd (cc none)

-- the step at the place, and those behind it
pub step_at : (path : List Action) (states : List Process) (origins : List (Option Origin)) (i : ℕ) (x : Action) (t : Process) (o : Option Origin) →
    slice_get path i ≡ Some x → slice_get states i ≡ Some t → slice_get origins i ≡ Some o → drop i (steps_to path states origins) ≡ record { action = x; state = t; origin = o } ∷ drop (suc i) (steps_to path states origins)
step_at [] states origins i x t o does stands from = absurd (cc does)
step_at (y ∷ path) [] origins i x t o does stands from = absurd (cc stands)
step_at (y ∷ path) (u ∷ states) [] i x t o does stands from = absurd (cc from)
step_at (y ∷ path) (u ∷ states) (p ∷ origins) zero x t o does stands from =
    let one : Some y ≡ Some x = does in
    let two : Some u ≡ Some t = stands in
    let three : Some p ≡ Some o = from in
    let a : y ≡ x = cc one in
    let b : u ≡ t = cc two in
    let c : p ≡ o = cc three in
    let rest = steps_to path states origins in
    let S : Action → Process → Option Origin → List Step = λ z v q. record { action = z; state = v; origin = q } ∷ rest in
    ap (λ z. S z u p) a ∙ ap (λ v. S x v p) b ∙ ap (λ q. S x t q) c
step_at (y ∷ path) (u ∷ states) (p ∷ origins) (suc i) x t o does stands from = step_at path states origins i x t o does stands from

-- where there is no action, no state or no origin, no step is left
pub no_action_at : (path : List Action) (states : List Process) (origins : List (Option Origin)) (i : ℕ) → slice_get path i ≡ None → drop i (steps_to path states origins) ≡ []
no_action_at [] states origins i none = nothing_left [] i refl
no_action_at (x ∷ path) [] origins i none = nothing_left [] i refl
no_action_at (x ∷ path) (t ∷ states) [] i none = nothing_left [] i refl
no_action_at (x ∷ path) (t ∷ states) (o ∷ origins) zero none = absurd (cc none)
no_action_at (x ∷ path) (t ∷ states) (o ∷ origins) (suc i) none = no_action_at path states origins i none

pub no_state_at : (path : List Action) (states : List Process) (origins : List (Option Origin)) (i : ℕ) → slice_get states i ≡ None → drop i (steps_to path states origins) ≡ []
no_state_at [] states origins i none = nothing_left [] i refl
no_state_at (x ∷ path) [] origins i none = nothing_left [] i refl
no_state_at (x ∷ path) (t ∷ states) [] i none = nothing_left [] i refl
no_state_at (x ∷ path) (t ∷ states) (o ∷ origins) zero none = absurd (cc none)
no_state_at (x ∷ path) (t ∷ states) (o ∷ origins) (suc i) none = no_state_at path states origins i none

pub no_origin_at : (path : List Action) (states : List Process) (origins : List (Option Origin)) (i : ℕ) → slice_get origins i ≡ None → drop i (steps_to path states origins) ≡ []
no_origin_at [] states origins i none = nothing_left [] i refl
no_origin_at (x ∷ path) [] origins i none = nothing_left [] i refl
no_origin_at (x ∷ path) (t ∷ states) [] i none = nothing_left [] i refl
no_origin_at (x ∷ path) (t ∷ states) (o ∷ origins) zero none = absurd (cc none)
no_origin_at (x ∷ path) (t ∷ states) (o ∷ origins) (suc i) none = no_origin_at path states origins i none

-- ---- taus of a loop

pub tau_at : (n i : ℕ) → i < n → slice_get (replicate n Tau) i ≡ Some Tau
tau_at zero i low = absurd (omega (arith, low))
tau_at (suc n) zero low = refl
tau_at (suc n) (suc i) low = tau_at n i (omega (arith, low))

first_left : {X : Type 0} (xs : List X) (k : ℕ) → slice_get (take 1 (drop k xs)) 0 ≡ slice_get xs k
first_left [] zero = refl
first_left [] (suc k) = refl
first_left (x ∷ xs) zero = refl
first_left (x ∷ xs) (suc k) = first_left xs k

-- behind those of one list stand those of the other
joined_at : {X : Type 0} (xs ys : List X) (i : ℕ) → i < length xs → slice_get (xs ++ ys) i ≡ slice_get xs i
joined_at [] ys i low = let l : i < 0 = low in absurd (omega (arith, l))
joined_at (x ∷ xs) ys zero low = refl
joined_at (x ∷ xs) ys (suc i) low = let l : suc i < suc (length xs) = low in joined_at xs ys i (omega (arith, l))

joined_behind : {X : Type 0} (xs ys : List X) (i : ℕ) → i ≡ length xs → slice_get (xs ++ ys) i ≡ slice_get ys 0
joined_behind [] ys i is = let e : i ≡ 0 = is in ap (slice_get ys) e
joined_behind (x ∷ xs) ys zero is = let e : 0 ≡ suc (length xs) = is in absurd (omega (arith, e))
joined_behind (x ∷ xs) ys (suc i) is = let e : suc i ≡ suc (length xs) = is in joined_behind xs ys i (omega (arith, e))

-- the next state, where there is one
pub next_at : {X : Type 0} (xs : List X) (back i : ℕ) → i + 1 < length xs → slice_get (drop 1 xs ++ take 1 (drop back xs)) i ≡ slice_get xs (i + 1)
next_at [] back i low = let l : i + 1 < 0 = low in absurd (omega (arith, l))
next_at (x ∷ xs) back i low =
    let l : i + 1 < suc (length xs) = low in
    let s : suc i ≡ i + 1 = omega arith in
    joined_at xs (take 1 (drop back (x ∷ xs))) i (omega (arith, l)) ∙ ap (slice_get (x ∷ xs)) s

-- and behind the last one the one that it leads back to
pub back_at : {X : Type 0} (xs : List X) (back i : ℕ) → i + 1 ≡ length xs → slice_get (drop 1 xs ++ take 1 (drop back xs)) i ≡ slice_get xs back
back_at [] back i is = let e : i + 1 ≡ 0 = is in absurd (omega (arith, e))
back_at (x ∷ xs) back i is =
    let e : i + 1 ≡ suc (length xs) = is in
    joined_behind xs (take 1 (drop back (x ∷ xs))) i (omega (arith, e)) ∙ first_left (x ∷ xs) back
