-- The numbers of a field are read row by row.
use Rattle.std.specs.Prelude.{slice_get}
use Rattle.std.specs.declared.vec.Vec.{Vec}
use Rattle.std.proofs.Common.{◌≡◌, ℕ, ◌+◌, ◌<◌, ◌≤◌, List, [], ◌∷◌, ◌++◌, append-nil, append_assoc, length, map, take, drop, get_or, Option, Some, None, refl, sym, ◌∙◌, ap}
use Rattle.std.specs.Prelude.{option_map}
use Rattle.std.proofs.lemmas.List.{drop-map, drop_all, drop_more, map-append, take-map}
use Rattle.std.proofs.lemmas.Option.{slice_get-map}
use Rattle.theory_checking.specs.Resolving.{of_two}
use Rattle.csp_inference.specs.declared.chain.KindNumber.{KindNumber}
use Rattle.csp_inference.specs.Known.{column_of}
use Rattle.csp_inference.specs.TreeNumbers.{number_rows, row_numbers}

-- The numbers read so far, and those of the rows that are left, are all.
abbrev pub ColumnLeft : {A : Type 0} → List KindNumber → ℕ → List (Vec KindNumber A) → ℕ → Type 0
ColumnLeft numbers field rows i = option_map (λ ns. row_numbers numbers ++ ns) (column_of field (number_rows (drop i rows))) ≡ column_of field (number_rows rows)

one_before : (xs : List ℕ) (x : ℕ) (o : Option (List ℕ)) → option_map (λ ns. (xs ++ x ∷ []) ++ ns) o ≡ option_map (λ ns. xs ++ ns) (of_two ◌∷◌ (Some x) o)
one_before xs x None = refl
one_before xs x (Some ns) = ap Some (append_assoc xs (x ∷ []) ns)

none_there : (xs : List ℕ) (o : Option (List ℕ)) → option_map (λ ns. xs ++ ns) (of_two ◌∷◌ None o) ≡ None
none_there xs o = refl

-- a row that is read has the number that is found in it
number_of_row : {A : Type 0} (rows : List (Vec KindNumber A)) (i field : ℕ) (row : Vec KindNumber A) (xs : List KindNumber) (found : Option KindNumber) → row ≡ get_or rows i row → xs ≡ row.items → found ≡ slice_get xs field →
    slice_get (row_numbers (get_or rows i row).items) field ≡ option_map (λ n. n.0) found
number_of_row rows i field row xs found read same is =
    slice_get-map (λ (n : KindNumber). n.0) (get_or rows i row).items field
    ∙ ap (option_map (λ (n : KindNumber). n.0)) (sym (is ∙ ap (λ ys. slice_get ys field) (same ∙ ap (λ r. r.items) read)))

module _ {A : Type 0} (numbers : List KindNumber) (field : ℕ) (rows : List (Vec KindNumber A)) (i : ℕ) (row : Vec KindNumber A) (xs : List KindNumber) (within : i < length rows) (read : row ≡ get_or rows i row) (same : xs ≡ row.items) (left : ColumnLeft numbers field rows i) where
  pub column_more : (new : List KindNumber) (x : KindNumber) → Some x ≡ slice_get xs field → new ≡ numbers ++ x ∷ [] → ColumnLeft new field rows (i + 1)
  column_more new x is pushed =
      let rest = column_of field (number_rows (drop (i + 1) rows)) in
      let found = number_of_row rows i field row xs (Some x) read same is in
      ap (λ ns. option_map (λ ms. ns ++ ms) rest) (ap row_numbers pushed ∙ map-append (λ n. n.0) numbers (x ∷ []))
      ∙ one_before (row_numbers numbers) x.0 rest
      ∙ ap (λ o. option_map (λ ns. row_numbers numbers ++ ns) (of_two ◌∷◌ o rest)) (sym found)
      ∙ ap (λ rs. option_map (λ ns. row_numbers numbers ++ ns) (column_of field (number_rows rs))) (sym (drop_more rows i row within)) ∙ left

  pub column_none : None ≡ slice_get xs field → None ≡ column_of field (number_rows rows)
  column_none is =
      let rest = column_of field (number_rows (drop (i + 1) rows)) in
      let missing = number_of_row rows i field row xs None read same is in
      sym (none_there (row_numbers numbers) rest) ∙ ap (λ o. option_map (λ ns. row_numbers numbers ++ ns) (of_two ◌∷◌ o rest)) (sym missing)
      ∙ ap (λ rs. option_map (λ ns. row_numbers numbers ++ ns) (column_of field (number_rows rs))) (sym (drop_more rows i row within)) ∙ left

pub column_all : {A : Type 0} (numbers : List KindNumber) (field : ℕ) (rows : List (Vec KindNumber A)) (i : ℕ) → length rows ≤ i → ColumnLeft numbers field rows i → Some (row_numbers numbers) ≡ column_of field (number_rows rows)
column_all numbers field rows i over left =
    ap Some (sym (append-nil (row_numbers numbers))) ∙ ap (λ rs. option_map (λ ns. row_numbers numbers ++ ns) (column_of field (number_rows rs))) (sym (drop_all i rows over)) ∙ left

-- the rows of some channels in a row
pub rows_between : {A : Type 0} (channels behind rows : List (Vec KindNumber A)) (first count : ℕ) → behind ≡ drop first channels → rows ≡ take count behind → number_rows rows ≡ take count (drop first (number_rows channels))
rows_between {A} channels behind rows first count is cut =
    let f : Vec KindNumber A → List ℕ = λ ns. map (λ n. n.0) ns.items in
    ap (map f) (cut ∙ ap (take count) is) ∙ sym (take-map f count (drop first channels)) ∙ ap (take count) (sym (drop-map f first channels))
