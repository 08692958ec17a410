-- What holds of a value, if there is one.
use Rattle.std.proofs.Common.{◌≡◌, Bool, true, false, cond, List, [], ◌∷◌, ◌++◌, Result, Ok, Err, refl, Contains, zero, suc, subst, arith}
use Rattle.std.specs.Prelude.{⊤}
use Rattle.std.specs.List.{AllByRecursion}
use Rattle.theory_semantics.specs.Meaning.Evaluation.{Cause, ◌and_then◌}
use Rattle.theory_semantics.specs.Meaning.Events.{each_list}

abbrev pub IfValue : {A : Type 0} → (A → Type 0) → Result A Cause → Type 0
IfValue P (Ok x) = P x
IfValue P (Err c) = ⊤

pub any_value : {A : Type 0} (r : Result A Cause) → IfValue (λ x. ⊤) r
any_value (Ok x) = tt
any_value (Err c) = tt

pub value_then : {A B : Type 0} (P : A → Type 0) (Q : B → Type 0) (r : Result A Cause) (f : A → Result B Cause) → IfValue P r → ((x : A) → P x → IfValue Q (f x)) → IfValue Q (r and_then f)
value_then P Q (Ok x) f h made = made x h
value_then P Q (Err c) f h made = tt

pub value_cond : {A : Type 0} (P : A → Type 0) (b : Bool) (x : A) (c : Cause) → (b ≡ true → P x) → IfValue P (cond b (Ok x) (Err c))
value_cond P true x c made = made refl
value_cond P false x c made = tt

pub all_append : {X : Type 0} (P : X → Type 0) (xs ys : List X) → AllByRecursion P xs → AllByRecursion P ys → AllByRecursion P (xs ++ ys)
all_append P [] ys first second = second
all_append P (x ∷ xs) ys first second = (first.0, all_append P xs ys first.1 second)

pub all_made : {X : Type 0} (P Q : X → Type 0) → ((x : X) → P x → Q x) → (xs : List X) → AllByRecursion P xs → AllByRecursion Q xs
all_made P Q made [] all = tt
all_made P Q made (x ∷ xs) all = (made x all.0, all_made P Q made xs all.1)

pub one_of_all : {X : Type 0} (P : X → Type 0) (xs : List X) (x : X) → AllByRecursion P xs → Contains xs x → P x
one_of_all P [] x all (k, h, e) = absurd (omega arith)
one_of_all P (y ∷ ys) x all (zero, h, e) = subst P e all.0
one_of_all P (y ∷ ys) x all (suc k, h, e) = one_of_all P ys x all.1 (k, omega arith, e)

pub value_each_list : {A B : Type 0} (P : A → Type 0) (Q : B → Type 0) (f : A → Result (List B) Cause) (xs : List A) → AllByRecursion P xs → ((x : A) → P x → IfValue (AllByRecursion Q) (f x)) → IfValue (AllByRecursion Q) (each_list f xs)
value_each_list P Q f [] all made = tt
value_each_list P Q f (x ∷ xs) all made =
    value_then (AllByRecursion Q) (AllByRecursion Q) (f x) _ (made x all.0) (λ ys one.
    value_then (AllByRecursion Q) (AllByRecursion Q) (each_list f xs) _ (value_each_list P Q f xs all.1 made) (λ zs rest. all_append Q ys zs one rest))
