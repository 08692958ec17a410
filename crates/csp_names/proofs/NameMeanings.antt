-- What a name means in a scope.
use Rattle.std.specs.Prelude.{cond, is_some, nat_lt, option_and_then, option_map, slice_get}
use Rattle.std.specs.Option.{option_map_or}
use Rattle.std.specs.Str.{bytes_eq}
use Rattle.std.proofs.Common.{◌≡◌, ℕ, suc, Bool, true, false, List, [], ◌∷◌, Option, Some, None, refl, sym, ap, ◌∙◌, arith}
use Rattle.std.proofs.lemmas.Bool.{lt-ltb}
use Rattle.theory_text.specs.Raw.{RawName}
use Rattle.theory_checking.specs.Names.{Bound, Class, ConstructorName, Declared, declared_meaning, Environment, fields_of_constructor, has_spelling, Meaning, meaning, number_in}
use Rattle.theory_checking.specs.Resolving.{as_constructor, constructor_count}
use Rattle.csp_names.specs.declared.bound_names.BoundName.{BoundName}
use Rattle.csp_names.specs.declared.bound_names.BoundNames.{BoundNames}
use Rattle.csp_names.specs.declared.scope.Scope.{Scope}
use Rattle.csp_names.specs.Rows.{row_at}
use Rattle.csp_names.specs.Scopes.{bound_rows, declared_at, number_at, occurrences, StandsFor, times_at}

-- what occurs is there
pub has_occurring : (ss : List (List ℕ)) (s : List ℕ) → has_spelling ss s ≡ nat_lt 0 (occurrences ss s)
has_occurring [] s = refl
has_occurring (t ∷ ss) s = go (bytes_eq t s) (number_in ss s) (has_occurring ss s)
  where
    go : (b : Bool) (o : Option ℕ) → is_some o ≡ nat_lt 0 (occurrences ss s) → is_some (cond b (Some 0) (option_map suc o)) ≡ nat_lt 0 (cond b (suc (occurrences ss s)) (occurrences ss s))
    go true o rest = sym (lt-ltb 0 (suc (occurrences ss s)) (omega arith))
    go false (Some k) rest = rest
    go false None rest = rest

-- a name without a row is not bound here
no_times : (o : Option BoundName) → option_map (λ r. r.name.0) o ≡ None → option_map_or (λ r. r.times) o 0 ≡ 0
no_times None e = refl
no_times (Some r) e = absurd (cc e)

module _ {A : Type 0} (scope : Scope A) (bound : BoundNames A) (env : Environment) (stands : StandsFor scope bound env) (n : RawName) where
  abbrev pub found : Option ℕ
  found = cond (nat_lt 0 (times_at bound n.spelling)) (number_at bound n.spelling) None

  is_bound : (b : Bool) → nat_lt 0 (times_at bound n.spelling) ≡ b → has_spelling env.bound n.spelling ≡ b
  is_bound b e = has_occurring env.bound n.spelling ∙ ap (nat_lt 0) (sym (stands.times n.spelling)) ∙ e

  pub bound_means : (k : ℕ) → Some k ≡ found → meaning env n ≡ Some (Bound k)
  bound_means k is = go (nat_lt 0 (times_at bound n.spelling)) refl is
    where
      go : (b : Bool) → nat_lt 0 (times_at bound n.spelling) ≡ b → Some k ≡ cond b (number_at bound n.spelling) None → meaning env n ≡ Some (Bound k)
      go true e here =
          ap (λ b. cond b (option_map Bound (number_in env.numbered n.spelling)) (declared_meaning env.declarations n.spelling)) (is_bound true e)
          ∙ ap (option_map Bound) (stands.numbered n.spelling k (sym (stands.in_order.numbers n.spelling) ∙ sym here))
      go false e here = absurd (cc here)

  pub unbound_means : None ≡ found → meaning env n ≡ declared_at scope.names.now scope.visible n.spelling
  unbound_means is = go (nat_lt 0 (times_at bound n.spelling)) refl is
    where
      go : (b : Bool) → nat_lt 0 (times_at bound n.spelling) ≡ b → None ≡ cond b (number_at bound n.spelling) None → meaning env n ≡ declared_at scope.names.now scope.visible n.spelling
      go true e here = let none : times_at bound n.spelling ≡ 0 = no_times (row_at (bound_rows bound) n.spelling) (sym here) in let both : true ≡ false = sym e ∙ ap (nat_lt 0) none in absurd (cc both)
      go false e here = ap (λ b. cond b (option_map Bound (number_in env.numbered n.spelling)) (declared_meaning env.declarations n.spelling)) (is_bound false e) ∙ stands.declared n.spelling

  -- a constructor that a name means has the number of fields that the table tells
  declared_one : (class : Class) (k : ℕ) (b : Bool) (o : Option ℕ) (d : Option Meaning) → cond b (option_map Bound o) d ≡ Some (Declared class k) → d ≡ Some (Declared class k)
  declared_one class k true (Some j) d e = let both : Bound j ≡ Declared class k = cc e in absurd (cc both)
  declared_one class k true None d e = absurd (cc e)
  declared_one class k false o d e = e

  pub constructor_has : (k : ℕ) → meaning env n ≡ Some (Declared ConstructorName k) → constructor_count env n ≡ slice_get scope.names.now.constructors.items k
  constructor_has k means =
      ap (λ m. option_and_then (fields_of_constructor env.declarations) (as_constructor m)) means
      ∙ stands.constructors n.spelling k (declared_one ConstructorName k (has_spelling env.bound n.spelling) (number_in env.numbered n.spelling) (declared_meaning env.declarations n.spelling) means)
