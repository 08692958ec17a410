-- The origins of the taus of a loop so far, and one more.
use Rattle.std.proofs.Common.{◌≡◌, ℕ, zero, suc, ◌+◌, ◌<◌, ◌≤◌, List, [], ◌∷◌, ◌++◌, Option, Some, length, take, replicate, slice_get, refl, sym, ◌∙◌, ap, subst, append_assoc, arith}
use Rattle.std.proofs.lemmas.List.{length-append, length-take-le, length-replicate, take_more}
use Rattle.std.proofs.lemmas.Option.{slice_get_within, get_or_from_slice_get}
use Rattle.theory_syntax.specs.Value.{Tau}
use Rattle.theory_syntax.specs.Process.{Process, Script}
use Rattle.theory_origins.specs.Origin.{Origin}
use Rattle.theory_origins.specs.Telling.{Tells}
use Rattle.theory_explanation.specs.Counterexamples.{AreOriginsAlong}
use Rattle.counterexample.proofs.OneMore.{one_more}

next_taken : {X : Type 0} (xs : List X) (i : ℕ) (x : X) → slice_get xs i ≡ Some x → take (i + 1) xs ≡ take i xs ++ x ∷ []
next_taken xs i x at = let inside = slice_get_within xs i x at in take_more xs i x inside ∙ ap (λ y. take i xs ++ y ∷ []) (get_or_from_slice_get xs i x x at)

one_more_tau : (i : ℕ) → replicate i Tau ++ Tau ∷ [] ≡ replicate (i + 1) Tau
one_more_tau i = by i ∙ ap (λ k. replicate k Tau) (let e : suc i ≡ i + 1 = omega arith in e)
  where
    by : (n : ℕ) → replicate n Tau ++ Tau ∷ [] ≡ replicate (suc n) Tau
    by zero = refl
    by (suc n) = ap (λ xs. Tau ∷ xs) (by n)

-- one more tau, from the state at the place to the next one
pub round_more : (script : Script) (whole : List Process) (i : ℕ) (origins : List (Option Origin)) (s t : Process) (o : Option Origin) → slice_get whole i ≡ Some s → slice_get whole (i + 1) ≡ Some t →
    AreOriginsAlong script (replicate i Tau) (take (i + 1) whole) origins → Tells script s Tau t o → AreOriginsAlong script (replicate (i + 1) Tau) (take (i + 1 + 1) whole) (origins ++ o ∷ [])
round_more script whole i origins s t o here there told more =
    let front = take i whole in
    let before : take (i + 1) whole ≡ front ++ s ∷ [] = next_taken whole i s here in
    let behind : take (i + 1 + 1) whole ≡ front ++ s ∷ t ∷ [] = next_taken whole (i + 1) t there ∙ ap (λ us. us ++ t ∷ []) before ∙ append_assoc front (s ∷ []) (t ∷ []) in
    let inside = slice_get_within whole i s here in
    let long = length-take-le i whole (omega (arith, inside)) ∙ sym (length-replicate i Tau) in
    let all = one_more script (replicate i Tau) front origins Tau s t o long (subst (λ us. AreOriginsAlong script (replicate i Tau) us origins) before told) more in
    subst (λ us. AreOriginsAlong script (replicate (i + 1) Tau) us (origins ++ o ∷ [])) (sym behind) (subst (λ xs. AreOriginsAlong script xs (front ++ s ∷ t ∷ []) (origins ++ o ∷ [])) (one_more_tau i) all)

pub in_front : {X : Type 0} (xs ys : List X) (i : ℕ) (x : X) → slice_get xs i ≡ Some x → slice_get (xs ++ ys) i ≡ Some x
in_front [] ys i x at = absurd (cc at)
in_front (z ∷ xs) ys zero x at = at
in_front (z ∷ xs) ys (suc i) x at = in_front xs ys i x at

all_taken : {X : Type 0} (xs : List X) (n : ℕ) → length xs ≤ n → take n xs ≡ xs
all_taken [] zero low = refl
all_taken [] (suc n) low = refl
all_taken (x ∷ xs) zero low = let l : suc (length xs) ≤ 0 = low in absurd (omega (arith, l))
all_taken (x ∷ xs) (suc n) low = ap (λ ys. x ∷ ys) (all_taken xs n (let l : suc (length xs) ≤ suc n = low in omega (arith, l)))

-- the last tau leads back
pub round_whole : (script : Script) (states : List Process) (again : Process) (n : ℕ) (origins : List (Option Origin)) → n ≡ length states →
    AreOriginsAlong script (replicate n Tau) (take (n + 1) (states ++ again ∷ [])) origins → AreOriginsAlong script (replicate (length states) Tau) (states ++ again ∷ []) origins
round_whole script states again n origins same told =
    let long = length-append states (again ∷ []) in
    let all : take (n + 1) (states ++ again ∷ []) ≡ states ++ again ∷ [] = all_taken (states ++ again ∷ []) (n + 1) (omega (arith, long, same)) in
    subst (λ k. AreOriginsAlong script (replicate k Tau) (states ++ again ∷ []) origins) same (subst (λ us. AreOriginsAlong script (replicate n Tau) us origins) all told)
