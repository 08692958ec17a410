-- Results without a misfit of kinds, and lists whose members have kinds.
use Rattle.std.proofs.Common.{◌≡◌, ◌≢◌, ℕ, zero, suc, Bool, true, false, cond, List, [], ◌∷◌, ◌++◌, length, filter, map, slice_get, ok_or, Option, Some, None, Result, Ok, Err, refl, ap, subst}
use Rattle.std.specs.Prelude.{⊤, flat_map}
use Rattle.std.specs.Option.{option_or}
use Rattle.std.specs.Result.{result_err}
use Rattle.theory_semantics.specs.Meaning.Evaluation.{Cause, IllKinded, ◌and_then◌}
use Rattle.theory_semantics.specs.Meaning.Events.{each, each_list}
use Rattle.theory_semantics.specs.Kinds.Kind.{InTurn, BeginsInTurn, Each}

-- any cause but a misfit of kinds
abbrev pub IsProper : Cause → Type 0
IsProper IllKinded = ⊥
IsProper _ = ⊤

-- no cause, or any but a misfit
abbrev pub IsProperOrNone : Option Cause → Type 0
IsProperOrNone None = ⊤
IsProperOrNone (Some c) = IsProper c

-- a value that has P, or a cause that is no misfit
abbrev pub Gives : {A : Type 0} → (A → Type 0) → Result A Cause → Type 0
Gives P (Ok x) = P x
Gives P (Err c) = IsProper c

pub none_differs : (o : Option Cause) → IsProperOrNone o → o ≢ Some IllKinded
none_differs o h e = subst IsProperOrNone e h

pub gives_no_misfit : {A : Type 0} (P : A → Type 0) (r : Result A Cause) → Gives P r → r ≢ Err IllKinded
gives_no_misfit P r h e = subst (Gives P) e h

pub gives_value : {A : Type 0} (P : A → Type 0) (r : Result A Cause) (x : A) → Gives P r → r ≡ Ok x → P x
gives_value P r x h e = subst (Gives P) e h

pub or_proper : (o p : Option Cause) → IsProperOrNone o → IsProperOrNone p → IsProperOrNone (option_or o p)
or_proper None p g h = h
or_proper (Some c) p g h = g

pub err_proper : {A : Type 0} (P : A → Type 0) (r : Result A Cause) → Gives P r → IsProperOrNone (result_err r)
err_proper P (Ok x) h = tt
err_proper P (Err c) h = h

-- what holds of the value where it is known to be that
pub gives_told : {A : Type 0} (P Q : A → Type 0) (r : Result A Cause) → Gives P r → ((x : A) → r ≡ Ok x → Q x) → Gives (λ x. P x × Q x) r
gives_told P Q (Ok x) h told = (h, told x refl)
gives_told P Q (Err c) h told = h

pub ok_some : {A : Type 0} (o : Option A) (c : Cause) (x : A) → ok_or o c ≡ Ok x → o ≡ Some x
ok_some (Some y) c x e = let same : y ≡ x = cc e in ap Some same
ok_some None c x e = absurd (cc e)

-- ---- results in turn

pub gives_then : {A B : Type 0} (P : A → Type 0) (Q : B → Type 0) (r : Result A Cause) (f : A → Result B Cause) → Gives P r → ((x : A) → P x → Gives Q (f x)) → Gives Q (r and_then f)
gives_then P Q (Ok x) f g h = h x g
gives_then P Q (Err c) f g h = g

pub gives_cond : {A : Type 0} (P : A → Type 0) (b : Bool) (x : A) (c : Cause) → P x → IsProper c → Gives P (cond b (Ok x) (Err c))
gives_cond P true x c h k = h
gives_cond P false x c h k = k

pub gives_surely : {A : Type 0} (P : A → Type 0) (b : Bool) (x : A) (c : Cause) → b ≡ true → P x → Gives P (cond b (Ok x) (Err c))
gives_surely P true x c e h = h
gives_surely P false x c e h = absurd (cc e)

pub gives_each : {A B : Type 0} (P : A → Type 0) (Q : B → Type 0) (f : A → Result B Cause) (xs : List A) → Each P xs → ((x : A) → P x → Gives Q (f x)) → Gives (Each Q) (each f xs)
gives_each P Q f [] h g = tt
gives_each P Q f (x ∷ xs) h g =
    gives_then Q (Each Q) (f x) _ (g x h.0) (λ y q. gives_then (Each Q) (Each Q) (each f xs) _ (gives_each P Q f xs h.1 g) (λ ys qs. (q, qs)))

pub each_append : {A : Type 0} (P : A → Type 0) (xs ys : List A) → Each P xs → Each P ys → Each P (xs ++ ys)
each_append P [] ys g h = h
each_append P (x ∷ xs) ys g h = (g.0, each_append P xs ys g.1 h)

pub each_map : {A : Type 0} (P Q : A → Type 0) (xs : List A) → ((x : A) → P x → Q x) → Each P xs → Each Q xs
each_map P Q [] f h = tt
each_map P Q (x ∷ xs) f h = (f x h.0, each_map P Q xs f h.1)

pub each_made : {A B : Type 0} (P : A → Type 0) (Q : B → Type 0) (f : A → B) (xs : List A) → ((x : A) → P x → Q (f x)) → Each P xs → Each Q (map f xs)
each_made P Q f [] g h = tt
each_made P Q f (x ∷ xs) g h = (g x h.0, each_made P Q f xs g h.1)

pub each_flat : {A B : Type 0} (P : A → Type 0) (Q : B → Type 0) (f : A → List B) (xs : List A) → ((x : A) → P x → Each Q (f x)) → Each P xs → Each Q (flat_map f xs)
each_flat P Q f [] g h = tt
each_flat P Q f (x ∷ xs) g h = each_append Q (f x) (flat_map f xs) (g x h.0) (each_flat P Q f xs g h.1)

pub gives_each_list : {A B : Type 0} (P : A → Type 0) (Q : B → Type 0) (f : A → Result (List B) Cause) (xs : List A) → Each P xs →
    ((x : A) → P x → Gives (Each Q) (f x)) → Gives (Each Q) (each_list f xs)
gives_each_list P Q f [] h g = tt
gives_each_list P Q f (x ∷ xs) h g =
    gives_then (Each Q) (Each Q) (f x) _ (g x h.0) (λ ys qs. gives_then (Each Q) (Each Q) (each_list f xs) _ (gives_each_list P Q f xs h.1 g) (λ zs rs. each_append Q ys zs qs rs))

pub each_cond : {A : Type 0} (P : A → Type 0) (b : Bool) (xs ys : List A) → Each P xs → Each P ys → Each P (cond b xs ys)
each_cond P true xs ys g h = g
each_cond P false xs ys g h = h

pub each_filter : {A : Type 0} (P : A → Type 0) (f : A → Bool) (xs : List A) → Each P xs → Each P (filter f xs)
each_filter P f [] h = tt
each_filter P f (x ∷ xs) h = each_cond P (f x) (x ∷ filter f xs) (filter f xs) (h.0, each_filter P f xs h.1) (each_filter P f xs h.1)

-- what holds of each holds of what stands at a place
pub each_got : {A : Type 0} (P : A → Type 0) (xs : List A) (n : ℕ) (x : A) → Each P xs → slice_get xs n ≡ Some x → P x
each_got P [] n x h e = absurd (cc e)
each_got P (y ∷ xs) zero x h e = let same : y ≡ x = cc e in subst P same h.0
each_got P (y ∷ xs) (suc n) x h e = each_got P xs n x h.1 e

-- ---- lists in step

-- what stands at a place of the second list has its partner in the first
pub in_turn_get : {A B : Type 0} (P : A → B → Type 0) (xs : List A) (ys : List B) (n : ℕ) (y : B) → InTurn P xs ys → slice_get ys n ≡ Some y → (x : A) × (slice_get xs n ≡ Some x) × P x y
in_turn_get P [] [] n y h e = absurd (cc e)
in_turn_get P [] (z ∷ ys) n y h e = absurd h
in_turn_get P (x ∷ xs) [] n y h e = absurd h
in_turn_get P (x ∷ xs) (z ∷ ys) zero y h e = let same : z ≡ y = cc e in (x, refl, subst (P x) same h.0)
in_turn_get P (x ∷ xs) (z ∷ ys) (suc n) y h e = in_turn_get P xs ys n y h.1 e

pub in_turn_length : {A B : Type 0} (P : A → B → Type 0) (xs : List A) (ys : List B) → InTurn P xs ys → length xs ≡ length ys
in_turn_length P [] [] h = refl
in_turn_length P [] (y ∷ ys) h = absurd h
in_turn_length P (x ∷ xs) [] h = absurd h
in_turn_length P (x ∷ xs) (y ∷ ys) h = ap suc (in_turn_length P xs ys h.1)

-- a list in step with one begins in step with it
pub begins : {A B : Type 0} (P : A → B → Type 0) (xs : List A) (ys : List B) → InTurn P xs ys → BeginsInTurn P xs ys
begins P [] ys h = tt
begins P (x ∷ xs) [] h = absurd h
begins P (x ∷ xs) (y ∷ ys) h = (h.0, begins P xs ys h.1)

-- what stands at a place of the first list has its partner in the second
pub begins_has : {A B : Type 0} (P : A → B → Type 0) (xs : List A) (ys : List B) (n : ℕ) (x : A) → BeginsInTurn P xs ys → slice_get xs n ≡ Some x → (y : B) × (slice_get ys n ≡ Some y) × P x y
begins_has P [] ys n x h e = absurd (cc e)
begins_has P (w ∷ xs) [] n x h e = absurd h
begins_has P (w ∷ xs) (z ∷ ys) zero x h e = let same : w ≡ x = cc e in (z, refl, subst (λ a. P a z) same h.0)
begins_has P (w ∷ xs) (z ∷ ys) (suc n) x h e = begins_has P xs ys n x h.1 e

pub in_turn_map : {A B : Type 0} (P Q : A → B → Type 0) (xs : List A) (ys : List B) → ((x : A) (y : B) → P x y → Q x y) → InTurn P xs ys → InTurn Q xs ys
in_turn_map P Q [] [] f h = tt
in_turn_map P Q [] (y ∷ ys) f h = absurd h
in_turn_map P Q (x ∷ xs) [] f h = absurd h
in_turn_map P Q (x ∷ xs) (y ∷ ys) f h = (f x y h.0, in_turn_map P Q xs ys f h.1)
