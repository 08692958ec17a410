-- The values of constructors that are numbered one after the other.
use Rattle.std.proofs.Common.{◌≡◌, ℕ, zero, suc, ◌+◌, ◌≤◌, ◌<◌, List, [], ◌∷◌, ◌++◌, length, map, take, drop, slice_get, ok_or, Option, Some, None, Ok, Err, refl, sym, ◌∙◌, ap, ap₂, subst, arith}
use Rattle.std.proofs.lemmas.Bool.{lt-leb}
use Rattle.std.proofs.lemmas.List.{append_assoc, length-append, length-map, map-append}
use Rattle.std.proofs.lemmas.Option.{slice_get_within}
use Rattle.std.specs.declared.cmp.Ordering.TheVariants.{Less}
use Rattle.std.specs.Ordering.{is_lt, nat_cmp}
use Rattle.std.specs.Cmp.{nat_cmp_is}
use Rattle.std.specs.declared.vec.Vec.{Vec}
use Rattle.theory_syntax.specs.Value.{Value, Constructor, sorted_values, to_values, value_cmp}
use Rattle.theory_syntax.specs.Types.{Types}
use Rattle.theory_syntax.proofs.Places.{drop_at, get_map}
use Rattle.theory_semantics.specs.Kinds.Kind.{Each}
use Rattle.theory_semantics.specs.Meaning.Evaluation.{IllKinded, ◌and_then◌, constructor_sets, constructors, datatype_set, max_members, set_of, with_all_fields}
use Rattle.theory_semantics.specs.Meaning.Offers.{RisesBy}
use Rattle.theory_semantics.proofs.RisingChoices.{constructors_rise}
use Rattle.csp_value.specs.declared.field_set.FieldSet.{FieldSet}
use Rattle.csp_value.specs.declared.name.ConId.{ConId}
use Rattle.csp_value.specs.declared.value.Value as code
use Rattle.csp_value.specs.declared.value.Value.TheVariants as views
use Rattle.csp_value.specs.Fields.{sets_of}
use Rattle.csp_value.specs.Value.{value_of, values_of}
use Rattle.csp_value.proofs.Forms.{value_of_con}
use Rattle.csp_expression.specs.declared.types.ConstructorFields.{ConstructorFields}
use Rattle.csp_expression.specs.declared.types.TypeTable.{TypeTable}
use Rattle.csp_expression.specs.declared.no_value.NoValue.{NoValue}
use Rattle.csp_expression.specs.declared.no_value.NoValue.TheVariants as eval
use Rattle.csp_expression.specs.Choosing.{HasAll}
use Rattle.csp_expression.specs.Evaluation.{Gives, numbers_up, table_of}
use Rattle.csp_expression.proofs.Forming.{set_many}
use Rattle.csp_expression.proofs.Named.{sorted_already}

-- ---- one constructor

-- the constructor with each of the lists
abbrev pub with_fields : ℕ → List (List Value) → List Value
with_fields k css = map (λ vs. Constructor k (to_values vs)) css

-- one list fewer is left, for which there is one value more
pub one_made : {A : Type 0} (k : ConId) (made more : List (code.Value A)) (fields : Vec (code.Value A) A) (left : List (List Value)) (whole : List Value) → more ≡ made ++ views.Con k fields ∷ [] →
    values_of made ++ with_fields k.0 (values_of fields.items ∷ left) ≡ whole → values_of more ++ with_fields k.0 left ≡ whole
one_made {A} k made more fields left whole pushed so_far =
    ap (λ vs. vs ++ with_fields k.0 left) (ap values_of pushed ∙ map-append value_of made (views.Con k fields ∷ []) ∙ ap (λ v. values_of made ++ v ∷ []) (value_of_con A k fields))
    ∙ append_assoc (values_of made) (Constructor k.0 (to_values (values_of fields.items)) ∷ []) (with_fields k.0 left) ∙ so_far

pub too_many_fields : {X Y : Type 0} (meaning : X → List (List Value)) (also : Y → List Value) (k : ℕ) (before : List Value) (css : List (List Value)) (why : NoValue) → HasAll meaning (Err why) css → HasAll also (Err why) (before ++ with_fields k css)
too_many_fields meaning also k before css (eval.Cause c) h =
    let many : max_members < length css = h.1 in
    let both : length (before ++ with_fields k css) ≡ length before + length (with_fields k css) = length-append before (with_fields k css) in
    let same : length (with_fields k css) ≡ length css = length-map css (λ vs. Constructor k (to_values vs)) in
    (h.0, omega arith)
too_many_fields meaning also k before css eval.Memory h = tt

-- ---- constructors in a row

-- those of the rows, from a number on, each with all fields of its sets
abbrev pub in_a_row : ℕ → List (List (List Value)) → List Value
in_a_row a [] = []
in_a_row a (row ∷ rows) = with_all_fields a row ++ in_a_row (suc a) rows

pub none_behind : {X : Type 0} (xs : List X) → xs ++ [] ≡ xs
none_behind [] = refl
none_behind (x ∷ xs) = ap (λ ys. x ∷ ys) (none_behind xs)

-- one row more
pub next_row : (a : ℕ) (rows : List (List (List Value))) (i : ℕ) (row : List (List Value)) → slice_get rows i ≡ Some row → in_a_row a (take (i + 1) rows) ≡ in_a_row a (take i rows) ++ with_all_fields (a + i) row
next_row a [] i row at = absurd (cc at)
next_row a (r ∷ rows) zero row at =
    let f : Some r ≡ Some row = at in
    let e : r ≡ row = cc f in
    none_behind (with_all_fields a r) ∙ ap₂ with_all_fields (omega arith) e
next_row a (r ∷ rows) (suc i) row at =
    let longer : take (suc i + 1) (r ∷ rows) ≡ r ∷ take (i + 1) rows = ap (λ n. take n (r ∷ rows)) (let e : suc i + 1 ≡ suc (i + 1) = omega arith in e) in
    let place : suc a + i ≡ a + suc i = omega arith in
    ap (in_a_row a) longer ∙ ap (λ vs. with_all_fields a r ++ vs) (next_row (suc a) rows i row at ∙ ap (λ k. in_a_row (suc a) (take i rows) ++ with_all_fields k row) place)
    ∙ sym (append_assoc (with_all_fields a r) (in_a_row (suc a) (take i rows)) (with_all_fields (a + suc i) row))

-- more rows have no fewer
rows_grow : (a : ℕ) (rows : List (List (List Value))) (i n : ℕ) → i ≤ n → length (in_a_row a (take i rows)) ≤ length (in_a_row a (take n rows))
rows_grow a rows zero n h = omega arith
rows_grow a [] (suc i) zero h = omega arith
rows_grow a [] (suc i) (suc n) h = omega arith
rows_grow a (r ∷ rows) (suc i) zero h = absurd (omega (arith, h))
rows_grow a (r ∷ rows) (suc i) (suc n) h =
    let rest : length (in_a_row (suc a) (take i rows)) ≤ length (in_a_row (suc a) (take n rows)) = rows_grow (suc a) rows i n (omega (arith, h)) in
    let one : length (with_all_fields a r ++ in_a_row (suc a) (take i rows)) ≡ length (with_all_fields a r) + length (in_a_row (suc a) (take i rows)) = length-append (with_all_fields a r) (in_a_row (suc a) (take i rows)) in
    let all : length (with_all_fields a r ++ in_a_row (suc a) (take n rows)) ≡ length (with_all_fields a r) + length (in_a_row (suc a) (take n rows)) = length-append (with_all_fields a r) (in_a_row (suc a) (take n rows)) in
    omega arith

module _ (types : Types) where
  -- all rows are there
  pub rows_there : (a n : ℕ) → a + n ≤ length types.constructors → constructors types (numbers_up a n) ≡ Ok (in_a_row a (take n (drop a types.constructors)))
  rows_there a zero h = refl
  rows_there a (suc n) h = by_row (rows_there (suc a) n (omega (arith, h))) (slice_get types.constructors a) refl
    where
      by_row : constructors types (numbers_up (suc a) n) ≡ Ok (in_a_row (suc a) (take n (drop (suc a) types.constructors))) → (o : Option (List (List Value))) → slice_get types.constructors a ≡ o → constructors types (numbers_up a (suc n)) ≡ Ok (in_a_row a (take (suc n) (drop a types.constructors)))
      by_row rest None at = absurd (let past : length types.constructors ≤ a = not_past types.constructors a at in omega (arith, h))
        where
          not_past : {X : Type 0} (xs : List X) (i : ℕ) → slice_get xs i ≡ None → length xs ≤ i
          not_past [] i e = omega arith
          not_past (x ∷ xs) zero e = absurd (cc e)
          not_past (x ∷ xs) (suc i) e = let rest : length xs ≤ i = not_past xs i e in omega arith
      by_row rest (Some row) at =
          rw at (ap (λ r. r and_then λ vs. Ok (with_all_fields a row ++ vs)) rest ∙ ap (λ rs. Ok (in_a_row a (take (suc n) rs))) (sym (drop_at types.constructors a row at)))

  -- one of them is missing
  pub row_missing : (a n : ℕ) → length types.constructors < a + suc n → constructors types (numbers_up a (suc n)) ≡ Err IllKinded
  row_missing a zero h = by_row (slice_get types.constructors a) refl
    where
      by_row : (o : Option (List (List Value))) → slice_get types.constructors a ≡ o → constructors types (numbers_up a 1) ≡ Err IllKinded
      by_row None at = rw at refl
      by_row (Some row) at = let within : a < length types.constructors = slice_get_within types.constructors a row at in absurd (omega (arith, h))
  row_missing a (suc n) h = by_row (row_missing (suc a) n (omega (arith, h))) (slice_get types.constructors a) refl
    where
      by_row : constructors types (numbers_up (suc a) (suc n)) ≡ Err IllKinded → (o : Option (List (List Value))) → slice_get types.constructors a ≡ o → constructors types (numbers_up a (suc (suc n))) ≡ Err IllKinded
      by_row rest None at = rw at refl
      by_row rest (Some row) at = rw at (ap (λ r. r and_then λ vs. Ok (with_all_fields a row ++ vs)) rest)

numbers_rise : (a n : ℕ) → RisesBy nat_cmp (numbers_up a n)
numbers_rise a zero = tt
numbers_rise a (suc zero) = tt
numbers_rise a (suc (suc n)) = (ap is_lt (sym (nat_cmp_is a (suc a) Less (omega arith))), numbers_rise (suc a) (suc n))

get_drop : {X : Type 0} (xs : List X) (a i : ℕ) (x : X) → slice_get xs (a + i) ≡ Some x → slice_get (drop a xs) i ≡ Some x
get_drop xs zero i x at = let same : i ≡ zero + i = omega arith in ap (slice_get xs) same ∙ at
get_drop [] (suc a) i x at = absurd (cc at)
get_drop (y ∷ xs) (suc a) i x at = let same : suc (a + i) ≡ suc a + i = omega arith in get_drop xs a i x (ap (slice_get (y ∷ xs)) same ∙ at)

-- ---- of a table

module _ {A : Type 0} (table : TypeTable A) where
  abbrev rows : List (List (List Value))
  rows = (table_of table).constructors

  sets_rise : (sets : List (FieldSet A)) → Each (RisesBy value_cmp) (sets_of sets)
  sets_rise [] = tt
  sets_rise (s ∷ ss) = (s.rising, sets_rise ss)

  all_rise : (k : ℕ) (sets : List (List Value)) → constructor_sets (table_of table) k ≡ Ok sets → Each (RisesBy value_cmp) sets
  all_rise k sets is = by_row (slice_get rows k) refl is
    where
      by_row : (o : Option (List (List Value))) → slice_get rows k ≡ o → constructor_sets (table_of table) k ≡ Ok sets → Each (RisesBy value_cmp) sets
      by_row None at e = let none : constructor_sets (table_of table) k ≡ Err IllKinded = ap (λ o. ok_or o IllKinded) at in absurd (cc (sym none ∙ e))
      by_row (Some row) at e =
          let some : constructor_sets (table_of table) k ≡ Ok row = ap (λ o. ok_or o IllKinded) at in
          let same : row ≡ sets = cc (sym some ∙ e) in
          let found = get_map (λ c. sets_of c.sets.items) table.constructors.items k row at in
          subst (Each (RisesBy value_cmp)) (found.2 ∙ same) (sets_rise found.0.sets.items)

  -- the values of the first n constructors from a on
  abbrev pub MadeSoFar : ℕ → ℕ → List (code.Value A) → Type 0
  MadeSoFar a n made = values_of made ≡ in_a_row a (take n (drop a rows))

  module _ (a n : ℕ) (there : a + n ≤ length table.constructors.items) where
    counted : a + n ≤ length rows
    counted = let same : length rows ≡ length table.constructors.items = length-map table.constructors.items (λ c. sets_of c.sets.items) in omega (arith, there)

    all_there : constructors (table_of table) (numbers_up a n) ≡ Ok (in_a_row a (take n (drop a rows)))
    all_there = rows_there (table_of table) a n counted

    -- all are there
    pub all_made : (made : List (code.Value A)) → MadeSoFar a n made → (set_of (sorted_values (values_of made))) ≡ datatype_set (table_of table) (Some (numbers_up a n))
    all_made made is =
        let rise = constructors_rise (table_of table) all_rise (numbers_up a n) (in_a_row a (take n (drop a rows))) (numbers_rise a n) all_there in
        ap (λ vs. set_of (sorted_values vs)) is ∙ ap set_of (sorted_already (in_a_row a (take n (drop a rows))) rise) ∙ sym (ap (λ r. r and_then λ vs. set_of vs) all_there)

    module _ (i : ℕ) (within : i < n) (fields : ConstructorFields A) (at : slice_get table.constructors.items (a + i) ≡ Some fields) (made : List (code.Value A)) (so_far : MadeSoFar a i made) where
      row_at : slice_get (drop a rows) i ≡ Some (sets_of fields.sets.items)
      row_at = get_drop rows a i (sets_of fields.sets.items) (get_of table.constructors.items (a + i) at)
        where
          get_of : (cs : List (ConstructorFields A)) (j : ℕ) → slice_get cs j ≡ Some fields → slice_get (map (λ c. sets_of c.sets.items) cs) j ≡ Some (sets_of fields.sets.items)
          get_of [] j e = absurd (cc e)
          get_of (c ∷ cs) zero e = let f : Some c ≡ Some fields = e in let d : c ≡ fields = cc f in ap (λ z. Some (sets_of z.sets.items)) d
          get_of (c ∷ cs) (suc j) e = get_of cs j e

      next_made : values_of made ++ with_all_fields (a + i) (sets_of fields.sets.items) ≡ in_a_row a (take (i + 1) (drop a rows))
      next_made = ap (λ vs. vs ++ with_all_fields (a + i) (sets_of fields.sets.items)) so_far ∙ sym (next_row a (drop a rows) i (sets_of fields.sets.items) row_at)

      -- one more
      pub more_made : (k : ℕ) → k ≡ a + i → (more : List (code.Value A)) → values_of more ≡ values_of made ++ with_all_fields k (sets_of fields.sets.items) → MadeSoFar a (i + 1) more
      more_made k is more added = added ∙ ap (λ j. values_of made ++ with_all_fields j (sets_of fields.sets.items)) is ∙ next_made

      -- they are too many
      pub too_many_made : (k : ℕ) → k ≡ a + i → {X : Type 0} (meaning : X → List Value) (why : NoValue) → HasAll meaning (Err why) (values_of made ++ with_all_fields k (sets_of fields.sets.items)) →
          Gives {A = A} (Err why) (datatype_set (table_of table) (Some (numbers_up a n)))
      too_many_made k is meaning (eval.Cause c) h =
          let many : max_members < length (values_of made ++ with_all_fields k (sets_of fields.sets.items)) = h.1 in
          let same : length (values_of made ++ with_all_fields k (sets_of fields.sets.items)) ≡ length (in_a_row a (take (i + 1) (drop a rows))) = ap (λ j. length (values_of made ++ with_all_fields j (sets_of fields.sets.items))) is ∙ ap length next_made in
          let grows : length (in_a_row a (take (i + 1) (drop a rows))) ≤ length (in_a_row a (take n (drop a rows))) = rows_grow a (drop a rows) (i + 1) n (omega (arith, within)) in
          ap (λ r. r and_then λ vs. set_of vs) all_there ∙ set_many (in_a_row a (take n (drop a rows))) (lt-leb (length (in_a_row a (take n (drop a rows)))) max_members (omega arith)) ∙ ap Err (sym h.0)
      too_many_made k is meaning eval.Memory h = tt

  pub none_made : (a n : ℕ) → length table.constructors.items < a + suc n → datatype_set (table_of table) (Some (numbers_up a (suc n))) ≡ Err IllKinded
  none_made a n past =
      let same : length rows ≡ length table.constructors.items = length-map table.constructors.items (λ c. sets_of c.sets.items) in
      ap (λ r. r and_then λ vs. set_of vs) (row_missing (table_of table) a n (omega (arith, past)))
