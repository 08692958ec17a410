-- One value of each set in turn.
use Rattle.std.proofs.Common.{◌≡◌, ℕ, ◌+◌, ◌*◌, ◌/◌, ◌%◌, ◌<◌, ◌≤◌, min, List, [], ◌∷◌, ◌++◌, length, drop, get_or, Some, slice_get, sym, ◌∙◌, ap, subst, append_assoc, arith}
use Rattle.std.proofs.lemmas.List.{append-nil, drop_all, drop_more, length-map, map-append}
use Rattle.std.proofs.lemmas.Option.{slice_get-get_or}
use Rattle.std.proofs.Math.Nat.{mul-one, one-mul}
use Rattle.theory_syntax.specs.Value as pure
use Rattle.theory_syntax.proofs.Places.{get_some}
use Rattle.theory_shapes.specs.Alphabet.{each_before, field_lists}
use Rattle.csp_value.specs.declared.field_set.FieldSet.{FieldSet}
use Rattle.csp_value.specs.declared.value.Value.{Value}
use Rattle.csp_value.specs.Fields.{field_values, sets_of}
use Rattle.csp_value.specs.Value.{value_of, values_of}
use Rattle.csp_numbers.proofs.Counting.{cut_off_more, list_within, lists_left, some_lists, some_values, value_within}
use Rattle.csp_numbers.proofs.ValueLists.{at_number, length_before}

-- the lists of one value of each set from this one on
abbrev pub lists_from : {A : Type 0} → List (FieldSet A) → ℕ → List (List pure.Value)
lists_from sets i = field_lists (sets_of (drop i sets))

-- What is left to be chosen, after the values that are chosen.
pub record IsChosenUpTo {A : Type 0} (sets : List (FieldSet A)) (whole i number count : ℕ) (list : List (Value A)) : Type 0 where
  pub counted : count ≡ length (lists_from sets i)
  pub within : number < count
  pub leads : (rest : List pure.Value) → slice_get (lists_from sets i) number ≡ Some rest → slice_get (field_lists (sets_of sets)) whole ≡ Some (values_of list ++ rest)

-- behind the last set there is one list, of no values
no_more : {A : Type 0} (sets : List (FieldSet A)) (i : ℕ) → length sets ≤ i → lists_from sets i ≡ [] ∷ []
no_more sets i past = ap (λ ss. field_lists (sets_of ss)) (drop_all i sets past)

module _ {A : Type 0} (sets : List (FieldSet A)) where
  pub none_chosen : (whole count : ℕ) (list : List (Value A)) → count ≡ length (field_lists (sets_of sets)) → whole < count → list ≡ [] → IsChosenUpTo sets whole 0 whole count list
  none_chosen whole count list counted within none = record {
    counted = counted;
    within = within;
    leads = λ rest at. at ∙ ap (λ vs. Some (values_of vs ++ rest)) (sym none);
  }

  pub all_chosen : (whole i number count : ℕ) (list : List (Value A)) → IsChosenUpTo sets whole i number count list → length sets ≤ i → slice_get (field_lists (sets_of sets)) whole ≡ Some (values_of list)
  all_chosen whole i number count list chosen past =
      let last = no_more sets i past in
      let one : count ≡ 1 = chosen.counted ∙ ap length last in
      let first : number ≡ 0 = omega (arith, chosen.within, one) in
      chosen.leads [] (ap (λ ls. slice_get ls number) last ∙ ap (slice_get ([] ∷ [])) first) ∙ ap Some (append-nil (values_of list))

module _ {A : Type 0} (sets : List (FieldSet A)) (i : ℕ) (set : FieldSet A) (within : i < length sets) (read : set ≡ get_or sets i set) where
  lists_next : lists_from sets i ≡ each_before (field_values set) (lists_from sets (i + 1))
  lists_next = ap (λ ss. field_lists (sets_of ss)) (drop_more sets i set within ∙ ap (λ s. s ∷ drop (i + 1) sets) (sym read))

  counted_next : length (lists_from sets i) ≡ length (field_values set) * length (lists_from sets (i + 1))
  counted_next = ap length lists_next ∙ length_before (field_values set) (lists_from sets (i + 1))

  -- the members of a set that are lent
  module _ (members : List (Value A)) (are : values_of members ≡ field_values set) where
    as_many : length members ≡ length (field_values set)
    as_many = sym (length-map members value_of) ∙ ap length are

    next_counted : length (lists_from sets i) ≡ length members * length (lists_from sets (i + 1))
    next_counted = counted_next ∙ ap (λ n. n * length (lists_from sets (i + 1))) (sym as_many)

    -- one factor more
    pub one_set_counted : (m count next : ℕ) → min (count * length (lists_from sets i)) m ≡ min (length (field_lists (sets_of sets))) m → next ≡ min (count * length members) m →
        min (next * length (lists_from sets (i + 1))) m ≡ min (length (field_lists (sets_of sets))) m
    one_set_counted m count next so_far is =
        ap (λ n. min (n * length (lists_from sets (i + 1))) m) is
        ∙ cut_off_more m count (length members) (length (lists_from sets (i + 1))) (length (field_lists (sets_of sets))) (ap (λ n. min (count * n) m) (sym next_counted) ∙ so_far)

    module _ (whole number count : ℕ) (list : List (Value A)) (chosen : IsChosenUpTo sets whole i number count list) where
      product : count ≡ length members * length (lists_from sets (i + 1))
      product = chosen.counted ∙ next_counted

      pub has_members : 0 < length members
      has_members = some_values number count (length members) (length (lists_from sets (i + 1))) product chosen.within

      pub left_over : count / length members ≡ length (lists_from sets (i + 1))
      left_over = lists_left number count (length members) (length (lists_from sets (i + 1))) product chosen.within

      pub has_lists : 0 < count / length members
      has_lists = subst (λ n. 0 < n) (sym left_over) (some_lists number count (length members) (length (lists_from sets (i + 1))) product chosen.within)

      pub member_within : number / (count / length members) < length members
      member_within = subst (λ n. number / n < length members) (sym left_over) (value_within number count (length members) (length (lists_from sets (i + 1))) product chosen.within)

      rest_within : number % (count / length members) < count / length members
      rest_within = subst (λ n. number % n < n) (sym left_over) (list_within number count (length members) (length (lists_from sets (i + 1))) product chosen.within)

      -- one value more
      pub one_more_chosen : (member copy : Value A) (more : List (Value A)) → member ≡ get_or members (number / (count / length members)) member → value_of copy ≡ value_of member → more ≡ list ++ copy ∷ [] →
          IsChosenUpTo sets whole (i + 1) (number % (count / length members)) (count / length members) more
      one_more_chosen member copy more is same pushed = record {
        counted = left_over;
        within = rest_within;
        leads = λ rest at.
            let place = number / (count / length members) in
            let stands : slice_get members place ≡ Some member = slice_get-get_or members place member member_within ∙ ap Some (sym is) in
            let value : slice_get (field_values set) place ≡ Some (value_of copy) = ap (λ vs. slice_get vs place) (sym are) ∙ get_some value_of members place member stands ∙ ap Some (sym same) in
            let first : slice_get (lists_from sets i) number ≡ Some (value_of copy ∷ rest) =
            ap (λ ls. slice_get ls number) lists_next ∙ at_number (field_values set) (lists_from sets (i + 1)) number (count / length members) (value_of copy) rest left_over value at
            in
            chosen.leads (value_of copy ∷ rest) first
            ∙ ap Some (sym (append_assoc (values_of list) (value_of copy ∷ []) rest) ∙ ap (λ vs. vs ++ rest) (sym (ap values_of pushed ∙ map-append value_of list (copy ∷ []))));
      }

-- ---- the count

pub one_before : (n m : ℕ) → min (1 * n) m ≡ min n m
one_before n m = ap (λ k. min k m) (one-mul n)

-- at the end
pub counted_all : {A : Type 0} (sets : List (FieldSet A)) (i m count total : ℕ) → min (count * length (lists_from sets i)) m ≡ min total m → length sets ≤ i → count ≤ m → count ≡ min total m
counted_all sets i m count total so_far past fits =
    let last : count * length (lists_from sets i) ≡ count = ap (λ ls. count * length ls) (no_more sets i past) ∙ mul-one count in
    let least : min count m ≡ count = omega (arith, fits) in
    sym least ∙ ap (λ n. min n m) (sym last) ∙ so_far
