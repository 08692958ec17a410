-- Processes are resolved part by part.
use Rattle.std.proofs.Common.{◌≡◌, ℕ, List, [], ◌++◌, append-nil, Option, Some, None, refl, ◌∙◌, subst}
use Rattle.std.proofs.lemmas.List.{map-append}
use Rattle.theory_text.specs.Raw.{RawName}
use Rattle.theory_checking.specs.Names.{Environment, spellings}
use Rattle.theory_checking.specs.Resolving.{of_two, of_three, of_four}
use Rattle.theory_checking.specs.Sites.{Site}
use Rattle.csp_names.specs.declared.bound_names.BoundNames.{BoundNames}
use Rattle.csp_names.specs.declared.refusals.Refused.{Refused}
use Rattle.csp_names.specs.declared.scope.Scope.{Scope}
use Rattle.csp_names.specs.Walks.{Done, Halts}
use Rattle.csp_names.proofs.Going.{done_both, halts_behind, halts_first}

-- a form of three or four parts is one of two, of which the first is one of two
pub three_as_two : {A B C D : Type 0} (f : A → B → C → D) (x : Option A) (y : Option B) (z : Option C) → of_three f x y z ≡ of_two (λ g w. g w) (of_two f x y) z
three_as_two f None y z = refl
three_as_two f (Some a) None z = refl
three_as_two f (Some a) (Some b) None = refl
three_as_two f (Some a) (Some b) (Some c) = refl

pub four_as_two : {A B C D E : Type 0} (f : A → B → C → D → E) (w : Option A) (x : Option B) (y : Option C) (z : Option D) → of_four f w x y z ≡ of_two (λ g v. g v) (of_two (λ g v. g v) (of_two f w x) y) z
four_as_two f None x y z = refl
four_as_two f (Some a) None y z = refl
four_as_two f (Some a) (Some b) None z = refl
four_as_two f (Some a) (Some b) (Some c) None = refl
four_as_two f (Some a) (Some b) (Some c) (Some d) = refl

pub spellings_in_turn : (ms ns : List RawName) → spellings (ms ++ ns) ≡ spellings ms ++ spellings ns
spellings_in_turn ms ns = map-append (λ n. n.spelling) ms ns

module _ {A : Type 0} (scope : Scope A) where
  -- the same with the names that are met written otherwise
  pub done_as_met : {X : Type 0} (r s : BoundNames A) (xs : Environment → List Site) (m : Environment → Option X) (ms ns : List (List ℕ)) (x : X) → ms ≡ ns → Done scope r s xs m ms [] x → Done scope r s xs m ns [] x
  done_as_met r s xs m ms ns x same h = let P : List (List ℕ) → Type 0 = λ z. Done scope r s xs m z [] x in subst P same h

  pub halts_as_met : (r : BoundNames A) (xs : Environment → List Site) (ms ns : List (List ℕ)) (f : Refused) → ms ≡ ns → Halts scope r xs ms f → Halts scope r xs ns f
  halts_as_met r xs ms ns f same h = let P : List (List ℕ) → Type 0 = λ z. Halts scope r xs z f in subst P same h

  -- and with what they stand for written otherwise
  pub done_as_meant : {X : Type 0} (r s : BoundNames A) (xs : Environment → List Site) (m m' : Environment → Option X) (ms : List (List ℕ)) (x : X) → ((env : Environment) → m' env ≡ m env) → Done scope r s xs m ms [] x → Done scope r s xs m' ms [] x
  done_as_meant r s xs m m' ms x same h = record { fine = λ env serves. let both = h.fine env serves in (both.0, same env ∙ both.1); bound = h.bound }

  -- a second part that meets no names
  pub done_then_still : {X Y Z : Type 0} (f : X → Y → Z) (r s : BoundNames A) (xs ys : Environment → List Site) (m : Environment → Option X) (m' : Environment → Option Y) (ms : List (List ℕ)) (x : X) (y : Y) → Done scope r s xs m ms [] x → Done scope s s ys m' [] [] y →
      Done scope r s (λ env. xs env ++ ys env) (λ env. of_two f (m env) (m' env)) ms [] (f x y)
  done_then_still f r s xs ys m m' ms x y h k =
      done_as_met r s (λ env. xs env ++ ys env) (λ env. of_two f (m env) (m' env)) (ms ++ []) ms (f x y) (append-nil ms) (done_both scope r s xs m ms x f s ys m' [] y h k)

  pub halts_in_still : {X : Type 0} (r s : BoundNames A) (xs ys : Environment → List Site) (m : Environment → Option X) (ms : List (List ℕ)) (x : X) (f : Refused) → Done scope r s xs m ms [] x → Halts scope s ys [] f → Halts scope r (λ env. xs env ++ ys env) ms f
  halts_in_still r s xs ys m ms x f h k = halts_as_met r (λ env. xs env ++ ys env) (ms ++ []) ms f (append-nil ms) (halts_behind scope r s xs m ms x ys [] f h k)

  -- a first part that halts, with one behind it that meets no names
  pub halts_before_still : (r : BoundNames A) (xs ys : Environment → List Site) (ms : List (List ℕ)) (f : Refused) → Halts scope r xs ms f → Halts scope r (λ env. xs env ++ ys env) ms f
  halts_before_still r xs ys ms f h = halts_as_met r (λ env. xs env ++ ys env) (ms ++ []) ms f (append-nil ms) (halts_first scope r xs ys ms [] f h)
