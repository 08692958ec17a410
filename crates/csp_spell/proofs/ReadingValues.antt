-- Sets and constructors behind their tags. Values that rise are their own sorted list.
use Rattle.std.proofs.Common.{◌≡◌, ℕ, suc, Bool, true, false, cond, List, [], ◌∷◌, length, map, Some, None, refl, sym, ap, ◌∙◌, arith}
use Rattle.std.proofs.lemmas.Bool.{eqb-true}
use Rattle.std.specs.Prelude.{◌==◌}
use Rattle.theory_syntax.specs.Value.{Value, Constructor, Set, Values, to_values, sorted_values}
use Rattle.theory_semantics.specs.Meaning.Offers.{rises}
use Rattle.theory_semantics.proofs.RisingValues.{told_rises}
use Rattle.csp_value.proofs.Sets.{rising_alike, sorted_rise, sorted_have}
use Rattle.theory_spelling.specs.Reading.{Found, found_as, if_rising, list_at, number_at, constructor_at, members_at}
use Rattle.csp_spell.specs.declared.fault.UnpackFault.{UnpackFault}
use Rattle.csp_spell.specs.declared.fault.UnpackFault.TheVariants as fault
use Rattle.csp_spell.specs.Gives.{Fails}

pub sorted_already : (vs : List Value) → rises vs ≡ true → sorted_values vs ≡ vs
sorted_already vs e = rising_alike (sorted_values vs) vs (sorted_rise vs) (told_rises vs e) (sorted_have vs)

-- ---- a set

found_so : (ws : List Value) (rest : List ℕ) (b : Bool) → rises ws ≡ b → if_rising (ws, rest) ≡ cond b (Some (to_values ws, rest)) None
found_so ws rest b e = ap (λ (c : Bool). cond c (Some (to_values ws, rest)) None) e

-- members that rise are those of the set that is made of them
pub set_found : (read : List ℕ → Found Value) (bytes : List ℕ) (ws : List Value) (rest : List ℕ) (vs : Values) (v : Value)
    → list_at read bytes ≡ Some (ws, rest) → true ≡ rises ws → vs ≡ to_values (sorted_values ws) → v ≡ Set vs → found_as Set (members_at read bytes) ≡ Some (v, rest)
unfolding members_at
set_found read bytes ws rest vs v found rise made is =
    let same : v ≡ Set (to_values ws) = is ∙ ap (λ us. Set us) (made ∙ ap to_values (sorted_already ws (sym rise))) in
    rw (found, found_so ws rest true (sym rise), same) refl

-- where no list is found, no set is
pub fails_as_list : (e : UnpackFault) (read : List ℕ → Found Value) (bytes : List ℕ) → Fails e (list_at read bytes) → Fails e (found_as Set (members_at read bytes))
unfolding members_at
fails_as_list fault.Memory read bytes none = tt
fails_as_list fault.NotATerm read bytes none = rw none refl

-- members that do not rise are those of no set
pub no_set_found : (read : List ℕ → Found Value) (bytes : List ℕ) (ws : List Value) (rest : List ℕ) → list_at read bytes ≡ Some (ws, rest) → false ≡ rises ws → found_as Set (members_at read bytes) ≡ None
unfolding members_at
no_set_found read bytes ws rest found rise = rw (found, found_so ws rest false (sym rise)) refl

-- ---- a constructor with fields

module _ {X : Type 0} (view : X → Value) where
  pub constructor_found : (read : List ℕ → Found Value) (bytes : List ℕ) (k : ℕ) (after : List ℕ) (xs : List X) (rest : List ℕ) (v : Value)
      → number_at bytes ≡ Some (k, after) → list_at read after ≡ Some (map view xs, rest) → false ≡ (length xs == 0) → v ≡ Constructor k (to_values (map view xs)) → constructor_at read bytes ≡ Some (v, rest)
  unfolding constructor_at
  constructor_found read bytes k after [] rest v number list some is = let told : false ≡ true = some in absurd (cc told)
  constructor_found read bytes k after (x ∷ xs) rest v number list some is = rw (number, list, is) refl

  pub no_constructor_found : (read : List ℕ → Found Value) (bytes : List ℕ) (k : ℕ) (after : List ℕ) (xs : List X) (rest : List ℕ)
      → number_at bytes ≡ Some (k, after) → list_at read after ≡ Some (map view xs, rest) → true ≡ (length xs == 0) → constructor_at read bytes ≡ None
  unfolding constructor_at
  no_constructor_found read bytes k after [] rest number list none = rw (number, list) refl
  no_constructor_found read bytes k after (x ∷ xs) rest number list none = let told : suc (length xs) ≡ 0 = eqb-true (suc (length xs)) 0 (sym none) in absurd (omega arith)

-- where no number is found, or no list behind it, no constructor is
pub fails_as_number : (e : UnpackFault) (read : List ℕ → Found Value) (bytes : List ℕ) → Fails e (number_at bytes) → Fails e (constructor_at read bytes)
unfolding constructor_at
fails_as_number fault.Memory read bytes none = tt
fails_as_number fault.NotATerm read bytes none = rw none refl

pub fails_as_fields : (e : UnpackFault) (read : List ℕ → Found Value) (bytes : List ℕ) (k : ℕ) (after : List ℕ) → number_at bytes ≡ Some (k, after) → Fails e (list_at read after) → Fails e (constructor_at read bytes)
unfolding constructor_at
fails_as_fields fault.Memory read bytes k after number none = tt
fails_as_fields fault.NotATerm read bytes k after number none = rw (number, none) refl
