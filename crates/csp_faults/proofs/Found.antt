-- What is found in a list by looking at its members in turn.
use Rattle.std.proofs.Common.{◌≡◌, ◌≢◌, Bool, true, false, cond, nat_eq, ℕ, suc, ◌+◌, ◌<◌, ◌≤◌, List, [], ◌∷◌, length, drop, get_or, map, Option, Some, None, refl, sym, ◌∙◌, ap}
use Rattle.std.proofs.lemmas.Bool.{eqb-true, eqb-false}
use Rattle.std.proofs.lemmas.List.{drop_all}
use Rattle.std.specs.Option.{is_some, option_or}
use Rattle.theory_syntax.proofs.Places.{cut}
use Rattle.theory_syntax.specs.Expression.{Expression, expressions_list, to_expressions}
use Rattle.theory_syntax.specs.Types.{Types}
use Rattle.theory_faults.specs.Culprit.{Culprit, Misfit, first_found}
use Rattle.theory_faults.specs.Expressions.{culprit, first_culprit}
use Rattle.csp_expression.specs.declared.expr.Expr.{Expr}
use Rattle.csp_expression.specs.Expression.{expressions_of}
use Rattle.csp_faults.specs.Culprit.{found_of}
use Rattle.csp_faults.specs.declared.culprit.Culprit as code

module _ {X : Type 0} (look : X → Option Culprit) (xs : List X) (i : ℕ) where
  -- what is left decides
  abbrev pub Rests : Type 0
  Rests = first_found look (drop i xs) ≡ first_found look xs

  -- this one, and what is left behind it
  pub looked : (x : X) → i < length xs → x ≡ get_or xs i x → Rests → option_or (look x) (first_found look (drop (i + 1) xs)) ≡ first_found look xs
  looked x within read rests = ap (first_found look) (cut xs i x within read) ∙ rests

  -- nothing is found in any
  pub found_none : length xs ≤ i → Rests → None ≡ first_found look xs
  found_none past rests = sym (ap (first_found look) (drop_all i xs past)) ∙ rests

-- what is to blame in a list of expressions is the first that is found
pub first_in_list : {X : Type 0} (types : Types) (expression : X → Expression) (xs : List X) → first_culprit types (to_expressions (map expression xs)) ≡ first_found (λ x. culprit types (expression x)) xs
first_in_list types expression [] = refl
first_in_list types expression (x ∷ xs) = ap (option_or (culprit types (expression x))) (first_in_list types expression xs)

-- what was found stays, and otherwise what comes behind decides
module _ {A : Type 0} (found : Option (code.Culprit A)) (b : Bool) (is : b ≡ is_some found) where
  pub stays : b ≡ true → (o p all : Option Culprit) → found_of found ≡ o → option_or o p ≡ all → found_of found ≡ all
  stays some o p all same so = kept found (sym is ∙ some) same
    where
      kept : (f : Option (code.Culprit A)) → is_some f ≡ true → found_of f ≡ o → found_of f ≡ all
      kept (Some k) some same = ap (λ q. option_or q p) same ∙ so
      kept None some same = absurd (cc some)

  pub goes_behind : b ≡ false → (o p all : Option Culprit) → found_of found ≡ o → option_or o p ≡ all → p ≡ all
  goes_behind none o p all same so = left found (sym is ∙ none) same
    where
      left : (f : Option (code.Culprit A)) → is_some f ≡ false → found_of f ≡ o → p ≡ all
      left (Some k) none same = absurd (cc none)
      left None none same = ap (λ q. option_or q p) same ∙ so

  -- what is answered where nothing was found before
  pub or_behind : b ≡ false → (o p : Option Culprit) → found_of found ≡ o → p ≡ option_or o p
  or_behind none o p same = goes_behind none o p (option_or o p) same refl

  pub or_stays : b ≡ true → (o p : Option Culprit) → found_of found ≡ o → found_of found ≡ option_or o p
  or_stays some o p same = stays some o p (option_or o p) same refl

-- a part is of the wrong kind where two numbers differ
pub as_many : (m n : ℕ) → m ≡ n → None ≡ cond (nat_eq m n) None (Some Misfit)
as_many m n same = by (nat_eq m n) refl
  where
    by : (b : Bool) → nat_eq m n ≡ b → None ≡ cond b None (Some Misfit)
    by true is = refl
    by false is = absurd (eqb-false m n is same)

pub not_as_many : (m n : ℕ) → m ≢ n → Some Misfit ≡ cond (nat_eq m n) None (Some Misfit)
not_as_many m n differ = by (nat_eq m n) refl
  where
    by : (b : Bool) → nat_eq m n ≡ b → Some Misfit ≡ cond b None (Some Misfit)
    by true is = absurd (differ (eqb-true m n is))
    by false is = refl

pub expressions_count : {A : Type 0} (es : List (Expr A)) → length (expressions_list (to_expressions (expressions_of es))) ≡ length es
expressions_count [] = refl
expressions_count (e ∷ es) = ap suc (expressions_count es)
