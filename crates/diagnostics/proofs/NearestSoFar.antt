-- The name that is spelled most like a word, as far as a search has come.
use Rattle.std.proofs.Common.{◌≡◌, ℕ, ◌+◌, ◌<◌, ◌≤◌, List, [], ◌∷◌, ◌++◌, arith, refl, length, get_or, take, map, ap, ◌∙◌, sym, lit<}
use Rattle.std.specs.Prelude.{All, Contains, Option, None, Some}
use Rattle.std.specs.Borrow.{Bor}
use Rattle.std.proofs.lemmas.List.{map-append, take_more}
use Rattle.std.proofs.lemmas.List.Elements.{All-nil, All-push, All-weaker, Contains-append_left, Contains-append_right}
use Rattle.diagnostics.specs.Nearest.{edits, most_edits, IsNearest}

-- one of the names so far has the least number of edits, or none has few enough
abbrev pub IsNearestSoFar : List ℕ → List (List ℕ) → Option (Bor (List ℕ)) → ℕ → Type 0
IsNearestSoFar word names None least = All (λ n. most_edits word < edits word n) names × (least ≡ most_edits word + 1)
IsNearestSoFar word names (Some name) least =
    Contains names name.now × (edits word name.now ≡ least) × (least ≤ most_edits word) × All (λ n. least ≤ edits word n) names

pub none_so_far : (word : List ℕ) (least : ℕ) → least ≡ most_edits word + 1 → IsNearestSoFar word [] None least
none_so_far word least is = (All-nil (λ n. most_edits word < edits word n), is)

-- a name with fewer edits
pub nearer : (word : List ℕ) (names : List (List ℕ)) (found : Option (Bor (List ℕ))) (least : ℕ) (name : Bor (List ℕ)) (e : ℕ) →
    IsNearestSoFar word names found least → e ≡ edits word name.now → e < least → IsNearestSoFar word (names ++ name.now ∷ []) (Some name) e
nearer word names None least name e so_far is less = (
  Contains-append_right names (name.now ∷ []) name.now (0, lit< tt, refl),
  sym is,
  omega (arith, so_far.1),
  All-push (λ n. e ≤ edits word n) names name.now (All-weaker (λ n. most_edits word < edits word n) (λ n. e ≤ edits word n) (λ n h. omega (arith, h, so_far.1)) names so_far.0) (omega arith),
)
nearer word names (Some other) least name e so_far is less = (
  Contains-append_right names (name.now ∷ []) name.now (0, lit< tt, refl),
  sym is,
  omega (arith, so_far.2),
  All-push (λ n. e ≤ edits word n) names name.now (All-weaker (λ n. least ≤ edits word n) (λ n. e ≤ edits word n) (λ n h. omega (arith, h)) names so_far.3) (omega arith),
)

-- a name with as many or more
pub no_nearer : (word : List ℕ) (names : List (List ℕ)) (found : Option (Bor (List ℕ))) (least : ℕ) (name : List ℕ) →
    IsNearestSoFar word names found least → least ≤ edits word name → IsNearestSoFar word (names ++ name ∷ []) found least
no_nearer word names None least name so_far more =
    (All-push (λ n. most_edits word < edits word n) names name so_far.0 (omega (arith, so_far.1)), so_far.1)
no_nearer word names (Some other) least name so_far more =
    (Contains-append_left names (name ∷ []) other.now so_far.0, so_far.1, so_far.2, All-push (λ n. least ≤ edits word n) names name so_far.3 more)

-- what has been looked at, and one name more
pub one_more : (names : List (Bor (List ℕ))) (i : ℕ) (d : Bor (List ℕ)) → i < length names →
    map (λ n. n.now) (take (i + 1) names) ≡ map (λ n. n.now) (take i names) ++ (get_or names i d).now ∷ []
one_more names i d within =
    ap (map (λ (n : Bor (List ℕ)). n.now)) (take_more names i d within) ∙ map-append (λ (n : Bor (List ℕ)). n.now) (take i names) (get_or names i d ∷ [])

-- the same of what a turn of the search leaves
pub turn_nearer : (word : List ℕ) (names all : List (List ℕ)) (found now : Option (Bor (List ℕ))) (least less : ℕ) (name : Bor (List ℕ)) (e : ℕ) →
    IsNearestSoFar word names found least → e ≡ edits word name.now → e < least → all ≡ names ++ name.now ∷ [] → now ≡ Some name → less ≡ e →
    IsNearestSoFar word all now less
turn_nearer word names all found now least less name e so_far is fewer more taken least_is =
    rw (more, taken, least_is) (nearer word names found least name e so_far is fewer)

pub turn_passed : (word : List ℕ) (names all : List (List ℕ)) (found now : Option (Bor (List ℕ))) (least less : ℕ) (name : Bor (List ℕ)) (e : ℕ) →
    IsNearestSoFar word names found least → e ≡ edits word name.now → least ≤ e → all ≡ names ++ name.now ∷ [] → now ≡ found → less ≡ least →
    IsNearestSoFar word all now less
turn_passed word names all found now least less name e so_far is more longer kept least_is =
    rw (longer, kept, least_is) (no_nearer word names found least name.now so_far (omega arith))

pub is_nearest : (word : List ℕ) (names : List (List ℕ)) (found : Option (Bor (List ℕ))) (least : ℕ) → IsNearestSoFar word names found least → IsNearest word names found
is_nearest word names None least so_far = so_far.0
is_nearest word names (Some name) least so_far =
    (so_far.0, omega (arith, so_far.1, so_far.2), All-weaker (λ n. least ≤ edits word n) (λ n. edits word name.now ≤ edits word n) (λ n h. omega (arith, h, so_far.1)) names so_far.3)
