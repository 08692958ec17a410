-- Members of lists that are made of others.
use Rattle.std.proofs.Common.{◌≡◌, List, [], ◌∷◌, map, ap, ◌∙◌, subst, ⊎_elim, Contains}
use Rattle.std.specs.declared.cmp.Ordering.{Ordering}
use Rattle.std.specs.Ordering.{is_lt}
use Rattle.std.specs.List.{AllByRecursion}
use Rattle.theory_syntax.proofs.Members.{contains_cases, contains_here, contains_none, contains_there}
use Rattle.theory_semantics.specs.Meaning.Offers.{RisesBy}

module _ {X Y : Type 0} (f : X → Y) where
  pub map_contains : (xs : List X) (x : X) → Contains xs x → Contains (map f xs) (f x)
  map_contains [] x has = absurd (contains_none x has)
  map_contains (z ∷ xs) x has =
      ⊎_elim (λ e. subst (λ y. Contains (f z ∷ map f xs) y) (ap f e) (contains_here (f z) (map f xs))) (λ more. contains_there (f z) (map f xs) (f x) (map_contains xs x more)) (contains_cases z xs x has)

  pub map_contained : (xs : List X) (y : Y) → Contains (map f xs) y → (x : X) × Contains xs x × (f x ≡ y)
  map_contained [] y has = absurd (contains_none y has)
  map_contained (z ∷ xs) y has =
      ⊎_elim (λ e. (z, contains_here z xs, e)) (λ more. let r = map_contained xs y more in (r.0, contains_there z xs r.0 r.1, r.2)) (contains_cases (f z) (map f xs) y has)

  -- what f makes of a list that rises by one order rises by the other, where the two agree
  pub map_rises : (P : X → Type 0) (R : X → X → Ordering) (S : Y → Y → Ordering) → ((x z : X) → P x → P z → S (f x) (f z) ≡ R x z) → (xs : List X) → AllByRecursion P xs → RisesBy R xs → RisesBy S (map f xs)
  map_rises P R S agree [] all rise = tt
  map_rises P R S agree (x ∷ []) all rise = tt
  map_rises P R S agree (x ∷ z ∷ xs) all rise = (ap is_lt (agree x z all.0 all.1.0) ∙ rise.0, map_rises P R S agree (z ∷ xs) all.1 rise.1)

  pub map_rose : (P : X → Type 0) (R : X → X → Ordering) (S : Y → Y → Ordering) → ((x z : X) → P x → P z → R x z ≡ S (f x) (f z)) → (xs : List X) → AllByRecursion P xs → RisesBy S (map f xs) → RisesBy R xs
  map_rose P R S agree [] all rise = tt
  map_rose P R S agree (x ∷ []) all rise = tt
  map_rose P R S agree (x ∷ z ∷ xs) all rise = (ap is_lt (agree x z all.0 all.1.0) ∙ rise.0, map_rose P R S agree (z ∷ xs) all.1 rise.1)

pub all_contained : {X : Type 0} (P : X → Type 0) (xs : List X) (x : X) → AllByRecursion P xs → Contains xs x → P x
all_contained P [] x all has = absurd (contains_none x has)
all_contained P (z ∷ xs) x all has = ⊎_elim (λ e. subst P e all.0) (λ more. all_contained P xs x all.1 more) (contains_cases z xs x has)

pub all_each : {X : Type 0} (P : X → Type 0) (xs : List X) → ((x : X) → Contains xs x → P x) → AllByRecursion P xs
all_each P [] each = tt
all_each P (x ∷ xs) each = (each x (contains_here x xs), all_each P xs (λ z has. each z (contains_there x xs z has)))
