-- Choices of a value of each set.
use Rattle.std.proofs.Common.{◌≡◌, ℕ, zero, suc, ◌+◌, ◌-◌, ◌*◌, ◌≤◌, ◌<◌, nat_eq, true, false, List, [], ◌∷◌, ◌++◌, length, map, flat_map, take, drop, get_or, refl, sym, ◌∙◌, ap, ap₂, inl, inr, subst, Err, arith}
use Rattle.std.proofs.Math.Nat.{suc-mul}
use Rattle.std.proofs.lemmas.Bool.{eqb-true}
use Rattle.std.proofs.lemmas.Grind.{flat_map-append}
use Rattle.std.proofs.lemmas.List.{append_assoc, drop_more, length-append, length-map, map-append, take-append-drop, take_more}
use Rattle.std.specs.declared.vec.Vec.{Vec}
use Rattle.theory_syntax.specs.Value.{Value}
use Rattle.theory_semantics.specs.Meaning.Evaluation.{choices, max_members}
use Rattle.csp_value.specs.declared.field_set.FieldSet.{FieldSet}
use Rattle.csp_value.specs.declared.value.Value as code
use Rattle.csp_value.specs.Fields.{field_values, sets_of}
use Rattle.csp_value.specs.Value.{value_of, values_of}
use Rattle.csp_expression.specs.declared.no_value.NoValue.{NoValue}
use Rattle.csp_expression.specs.declared.no_value.NoValue.TheVariants as eval
use Rattle.csp_expression.specs.Choosing.{HasAll, HasEmptySet, lists_of, with_each, with_first}

-- ---- each value with each list

none_each : {X Y : Type 0} (f : X → Y → Y) (xs : List X) → flat_map (λ x. map (f x) []) xs ≡ []
none_each f [] = refl
none_each f (x ∷ xs) = none_each f xs

length_each : {X Y : Type 0} (f : X → Y → Y) (xs : List X) (ys : List Y) → length (flat_map (λ x. map (f x) ys) xs) ≡ length xs * length ys
length_each f [] ys = omega arith
length_each f (x ∷ xs) ys =
    let first : length (map (f x) ys) ≡ length ys = length-map ys (f x) in
    let rest : length (flat_map (λ x. map (f x) ys) xs) ≡ length xs * length ys = length_each f xs ys in
    let both : length (map (f x) ys ++ flat_map (λ x. map (f x) ys) xs) ≡ length (map (f x) ys) + length (flat_map (λ x. map (f x) ys) xs) = length-append (map (f x) ys) (flat_map (λ x. map (f x) ys) xs) in
    let product : suc (length xs) * length ys ≡ length xs * length ys + length ys = suc-mul (length xs) (length ys) in
    omega arith

-- ---- choices

-- there are none where a set has no value
pub no_choice : (sets : List (List Value)) → HasEmptySet sets → choices sets ≡ []
no_choice [] h = absurd h
no_choice (set ∷ sets) (inl none) = ap (flat_map (λ v. map (λ vs. v ∷ vs) (choices sets))) none
no_choice (set ∷ sets) (inr h) = ap (λ css. flat_map (λ v. map (λ vs. v ∷ vs) css) set) (no_choice sets h) ∙ none_each (λ v vs. v ∷ vs) set

-- as many as the product
pub choices_counted : (set : List Value) (sets : List (List Value)) → length (choices (set ∷ sets)) ≡ length set * length (choices sets)
choices_counted set sets = length_each (λ v vs. v ∷ vs) set (choices sets)

times_some : (m n : ℕ) → ¬ (m ≡ 0) → n ≤ m * n
times_some zero n h = absurd (h refl)
times_some (suc m) n h = let product : suc m * n ≡ m * n + n = suc-mul m n in omega arith

some_values : (set : List Value) → ¬ (set ≡ []) → ¬ (length set ≡ 0)
some_values [] h e = h refl
some_values (v ∷ vs) h e = absurd (cc e)

-- those of the last sets are no more, where each set has a value
pub choices_grow : (sets : List (List Value)) (i : ℕ) → ¬ HasEmptySet sets → length (choices (drop i sets)) ≤ length (choices sets)
choices_grow sets zero h = omega arith
choices_grow [] (suc i) h = omega arith
choices_grow (set ∷ sets) (suc i) h =
    let rest : length (choices (drop i sets)) ≤ length (choices sets) = choices_grow sets i (λ e. h (inr e)) in
    let more : length (choices sets) ≤ length set * length (choices sets) = times_some (length set) (length (choices sets)) (some_values set (λ e. h (inl e))) in
    let all : length (choices (set ∷ sets)) ≡ length set * length (choices sets) = choices_counted set sets in
    omega arith

-- ---- lists of the code

module _ {A : Type 0} (sets : List (FieldSet A)) (i : ℕ) (set : FieldSet A) (within : i < length sets) (read : set ≡ get_or sets i set) where
  left_behind : sets_of (drop i sets) ≡ field_values set ∷ sets_of (drop (i + 1) sets)
  left_behind = ap sets_of (drop_more sets i set within ∙ ap (λ z. z ∷ drop (i + 1) sets) (sym read))

  -- a set that has none is one of them
  pub empty_at : field_values set ≡ [] → HasEmptySet (sets_of sets)
  empty_at none = found sets i within read
    where
      found : (ss : List (FieldSet A)) (j : ℕ) → j < length ss → set ≡ get_or ss j set → HasEmptySet (sets_of ss)
      found [] j inside is = absurd (omega (arith, inside))
      found (s ∷ ss) zero inside is = inl (ap field_values (sym is) ∙ none)
      found (s ∷ ss) (suc j) inside is = inr (found ss j (omega (arith, inside)) is)

  -- and where it has some, it is another one
  pub still_empty : ¬ (field_values set ≡ []) → (HasEmptySet (sets_of sets) → HasEmptySet (sets_of (drop i sets))) → HasEmptySet (sets_of sets) → HasEmptySet (sets_of (drop (i + 1) sets))
  still_empty some so_far h = another (subst HasEmptySet left_behind (so_far h))
    where
      another : HasEmptySet (field_values set ∷ sets_of (drop (i + 1) sets)) → HasEmptySet (sets_of (drop (i + 1) sets))
      another (inl none) = absurd (some none)
      another (inr rest) = rest

pub none_left : {A : Type 0} (sets : List (FieldSet A)) (i : ℕ) → length sets ≤ i → HasEmptySet (sets_of (drop i sets)) → ⊥
none_left [] zero past h = h
none_left [] (suc i) past h = h
none_left (s ∷ ss) zero past h = omega (arith, past)
none_left (s ∷ ss) (suc i) past h = none_left ss i (omega (arith, past)) h

module _ {A : Type 0} (members : List (code.Value A)) (vs : List Value) (are : values_of members ≡ vs) where
  pub no_value : nat_eq (length members) 0 ≡ true → vs ≡ []
  no_value none = by_members members are none
    where
      by_members : (ms : List (code.Value A)) → values_of ms ≡ vs → nat_eq (length ms) 0 ≡ true → vs ≡ []
      by_members [] same h = sym same
      by_members (m ∷ ms) same h = let zero_is : suc (length ms) ≡ 0 = eqb-true (suc (length ms)) 0 h in absurd (omega (arith, zero_is))

  pub some_value : nat_eq (length members) 0 ≡ false → ¬ (vs ≡ [])
  some_value some none = by_members members (are ∙ none) some
    where
      by_members : (ms : List (code.Value A)) → values_of ms ≡ [] → nat_eq (length ms) 0 ≡ false → ⊥
      by_members [] same h = absurd (cc h)
      by_members (m ∷ ms) same h = absurd (cc same)

pub none_yet : {X : Type 0} (xs : List X) → xs ≡ xs ++ []
none_yet [] = refl
none_yet (x ∷ xs) = ap (λ ys. x ∷ ys) (none_yet xs)

-- one more list behind those that there are
pub list_behind : {A : Type 0} (v : Value) (before : List (List Value)) (made more : List (Vec (code.Value A) A)) (new : Vec (code.Value A) A) (items : List (Vec (code.Value A) A)) (i : ℕ) (item : Vec (code.Value A) A) →
    lists_of made ≡ before ++ with_first v (lists_of (take i items)) → i < length items → item ≡ get_or items i item → values_of new.items ≡ v ∷ values_of item.items → more ≡ made ++ new ∷ [] →
    lists_of more ≡ before ++ with_first v (lists_of (take (i + 1) items))
list_behind {A} v before made more new items i item so_far within read one pushed =
    let of : Vec (code.Value A) A → List Value = λ vs. values_of vs.items in
    let longer = ap (λ vss. with_first v (lists_of vss)) (take_more items i item within ∙ ap (λ z. take i items ++ z ∷ []) (sym read)) ∙ ap (with_first v) (map-append of (take i items) (item ∷ [])) ∙ map-append (λ vs. v ∷ vs) (lists_of (take i items)) (of item ∷ []) in
    ap lists_of pushed ∙ map-append of made (new ∷ []) ∙ ap₂ (λ xss x. xss ++ x ∷ []) so_far one ∙ append_assoc before (with_first v (lists_of (take i items))) ((v ∷ of item) ∷ []) ∙ ap (λ xss. before ++ xss) (sym longer)

-- one value more
pub next_each : {A : Type 0} (items : List (code.Value A)) (css : List (List Value)) (i : ℕ) (item : code.Value A) (made more : List (List Value)) → i < length items → item ≡ get_or items i item →
    made ≡ with_each (values_of (take i items)) css → more ≡ made ++ with_first (value_of item) css → more ≡ with_each (values_of (take (i + 1) items)) css
next_each items css i item made more within read so_far added =
    let longer = ap values_of (take_more items i item within ∙ ap (λ z. take i items ++ z ∷ []) (sym read)) ∙ map-append value_of (take i items) (item ∷ []) in
    added ∙ ap₂ (λ xss yss. xss ++ yss) so_far (none_yet (with_first (value_of item) css)) ∙ sym (flat_map-append (λ v. with_first v css) (values_of (take i items)) (value_of item ∷ [])) ∙ ap (λ vs. with_each vs css) (sym longer)

each_grows : {X : Type 0} (css : List (List X)) (xs : List X) (i : ℕ) → length (with_each (take i xs) css) ≤ length (with_each xs css)
each_grows css xs i =
    let whole : length (with_each xs css) ≡ length (with_each (take i xs) css) + length (with_each (drop i xs) css) =
    ap (λ ys. length (with_each ys css)) (sym (take-append-drop i xs)) ∙ ap length (flat_map-append (λ v. with_first v css) (take i xs) (drop i xs)) ∙ length-append (with_each (take i xs) css) (with_each (drop i xs) css) in
    omega arith

-- too many so far are too many
pub too_many_lists : {A : Type 0} (items : List (code.Value A)) (vs : List Value) → values_of items ≡ vs → (lists : List (Vec (code.Value A) A)) (i : ℕ) (more : List (Vec (code.Value A) A)) → i < length items →
    lists_of more ≡ with_each (values_of (take (i + 1) items)) (lists_of lists) → max_members < length more → max_members < length (with_each vs (lists_of lists))
too_many_lists {A} items vs are lists i more within is many =
    let of : Vec (code.Value A) A → List Value = λ ws. values_of ws.items in
    let counted : length more ≡ length (with_each (take (i + 1) (values_of items)) (lists_of lists)) = sym (length-map more of) ∙ ap length (is ∙ ap (λ ws. with_each ws (lists_of lists)) (map-take value_of items (i + 1))) in
    let grows : length (with_each (take (i + 1) (values_of items)) (lists_of lists)) ≤ length (with_each (values_of items) (lists_of lists)) = each_grows (lists_of lists) (values_of items) (i + 1) in
    let same : length (with_each (values_of items) (lists_of lists)) ≡ length (with_each vs (lists_of lists)) = ap (λ ws. length (with_each ws (lists_of lists))) are in
    omega (arith, many)
  where
    map-take : {X Y : Type 0} (f : X → Y) (xs : List X) (j : ℕ) → map f (take j xs) ≡ take j (map f xs)
    map-take f [] zero = refl
    map-take f [] (suc j) = refl
    map-take f (x ∷ xs) zero = refl
    map-take f (x ∷ xs) (suc j) = ap (λ ys. f x ∷ ys) (map-take f xs j)

-- ---- the last sets

pub choices_of_none : {A : Type 0} (sets : List (FieldSet A)) → [] ∷ [] ≡ choices (sets_of (drop (length sets) sets))
choices_of_none [] = refl
choices_of_none (s ∷ ss) = choices_of_none ss

pub all_choices : {A : Type 0} (sets : List (FieldSet A)) (i : ℕ) {made : List (List Value)} → i ≤ 0 → made ≡ choices (sets_of (drop i sets)) → made ≡ choices (sets_of sets)
all_choices [] zero none is = is
all_choices (s ∷ ss) zero none is = is
all_choices sets (suc i) none is = absurd (omega (arith, none))

pub start_choices : {A : Type 0} (sets : List (FieldSet A)) (before made : List (Vec (code.Value A) A)) (one : Vec (code.Value A) A) → before ≡ [] → one.items ≡ [] → made ≡ before ++ one ∷ [] → lists_of made ≡ choices (sets_of (drop (length sets) sets))
start_choices {A} sets before made one none nothing pushed =
    let of : Vec (code.Value A) A → List Value = λ ws. values_of ws.items in
    ap lists_of (pushed ∙ ap (λ xs. xs ++ one ∷ []) none) ∙ ap (λ vs. values_of vs ∷ []) nothing ∙ choices_of_none sets

drop_mapped : {X Y : Type 0} (f : X → Y) (xs : List X) (i : ℕ) → map f (drop i xs) ≡ drop i (map f xs)
drop_mapped f [] zero = refl
drop_mapped f [] (suc i) = refl
drop_mapped f (x ∷ xs) zero = refl
drop_mapped f (x ∷ xs) (suc i) = drop_mapped f xs i

-- one set more in front
module _ {A : Type 0} (sets : List (FieldSet A)) (i : ℕ) (set : FieldSet A) (made : List (List Value)) (some : 0 < i) (within : i ≤ length sets) (read : set ≡ get_or sets (i - 1) set) (so_far : made ≡ choices (sets_of (drop i sets))) where
  in_front : with_each (field_values set) made ≡ choices (sets_of (drop (i - 1) sets))
  in_front =
      let up : i - 1 + 1 ≡ i = omega (arith, some) in
      let front : drop (i - 1) sets ≡ set ∷ drop i sets = drop_more sets (i - 1) set (omega (arith, some, within)) ∙ ap₂ (λ x xs. x ∷ xs) (sym read) (ap (λ n. drop n sets) up) in
      ap (with_each (field_values set)) so_far ∙ ap (λ ss. choices (sets_of ss)) (sym front)

  pub next_choices : (more : List (List Value)) → more ≡ with_each (field_values set) made → more ≡ choices (sets_of (drop (i - 1) sets))
  next_choices more added = added ∙ in_front

  pub too_many_choices : {X : Type 0} (meaning : X → List (List Value)) (why : NoValue) → ¬ HasEmptySet (sets_of sets) → HasAll meaning (Err why) (with_each (field_values set) made) → HasAll meaning (Err why) (choices (sets_of sets))
  too_many_choices meaning (eval.Cause c) full h =
      let many : max_members < length (with_each (field_values set) made) = h.1 in
      let same : length (with_each (field_values set) made) ≡ length (choices (drop (i - 1) (sets_of sets))) = ap length in_front ∙ ap (λ ss. length (choices ss)) (drop_mapped field_values sets (i - 1)) in
      let grows : length (choices (drop (i - 1) (sets_of sets))) ≤ length (choices (sets_of sets)) = choices_grow (sets_of sets) (i - 1) full in
      (h.0, omega arith)
  too_many_choices meaning eval.Memory full h = tt
