-- Numbers in a row, and rows of them.
use Rattle.std.specs.Prelude.{replicate}
use Rattle.std.specs.declared.vec.Vec.{Vec}
use Rattle.std.proofs.Common.{◌≡◌, ℕ, suc, ◌+◌, ◌<◌, ◌≤◌, List, [], ◌∷◌, ◌++◌, append-nil, append_assoc, length, map, drop, get_or, refl, sym, subst, ◌∙◌, ap, ap₂, arith}
use Rattle.std.proofs.lemmas.List.{drop_all, drop_more, map-append}
use Rattle.theory_checking.specs.Inference.Equations.{Numbering}
use Rattle.theory_checking.specs.Inference.Items.{behind_all, numbers_from, owners_from, rows_from}
use Rattle.csp_expression.specs.declared.name.DatatypeId.{DatatypeId}
use Rattle.csp_inference.specs.declared.chain.KindNumber.{KindNumber}
use Rattle.csp_inference.specs.declared.equations.Equations.{Equations}
use Rattle.csp_inference.specs.Equations.{Adds, equations_of}
use Rattle.csp_inference.proofs.Adding.{adds_same, adds_then, knows_itself}
use Rattle.csp_inference.specs.TreeNumbers.{number_rows, owner_numbers, row_numbers}
use Rattle.csp_inference.proofs.Counting.{map_replicate}

-- ---- the owners of constructors

-- The owners so far, and those of the datatypes that are left, are all.
abbrev pub OwnersLeft : List DatatypeId → ℕ → List ℕ → ℕ → Type 0
OwnersLeft owners d ks i = owner_numbers owners ++ owners_from d (drop i ks) ≡ owners_from 0 ks

pub owners_more : (owners new : List DatatypeId) (d next : ℕ) (ks : List ℕ) (i k : ℕ) (x : DatatypeId) → x.0 ≡ d → next ≡ d + 1 → i < length ks → OwnersLeft owners d ks i → new ≡ owners ++ replicate (get_or ks i k) x → OwnersLeft new next ks (i + 1)
owners_more owners new d next ks i k x is more within left pushed =
    let further : next ≡ suc d = more ∙ omega arith in
    let mine = map_replicate (λ (y : DatatypeId). y.0) (get_or ks i k) x ∙ ap (replicate (get_or ks i k)) is in
    let rest = owners_from (suc d) (drop (i + 1) ks) in
    ap₂ (λ xs m. owner_numbers xs ++ owners_from m (drop (i + 1) ks)) pushed further
    ∙ ap (λ ys. ys ++ rest) (map-append (λ y. y.0) owners (replicate (get_or ks i k) x) ∙ ap (λ ys. owner_numbers owners ++ ys) mine)
    ∙ append_assoc (owner_numbers owners) (replicate (get_or ks i k) d) rest
    ∙ ap (λ ys. owner_numbers owners ++ owners_from d ys) (sym (drop_more ks i k within)) ∙ left

pub owners_all : (owners : List DatatypeId) (d : ℕ) (ks : List ℕ) (i : ℕ) → length ks ≤ i → OwnersLeft owners d ks i → owner_numbers owners ≡ owners_from 0 ks
owners_all owners d ks i over left = sym (ap (λ ys. owner_numbers owners ++ owners_from d ys) (drop_all i ks over) ∙ append-nil (owner_numbers owners)) ∙ left

-- ---- numbers in a row

-- The numbers so far, and so many more, are all.
pub record NumbersLeft (numbers : List KindNumber) (next left first count : ℕ) : Type 0 where
  pub all : row_numbers numbers ++ numbers_from next left ≡ numbers_from first count
  pub end : next + left ≡ first + count

pub numbers_more : (numbers new : List KindNumber) (next behind left rest first count : ℕ) (x : KindNumber) → x.0 ≡ next → behind ≡ next + 1 → left ≡ suc rest → new ≡ numbers ++ x ∷ [] → NumbersLeft numbers next left first count → NumbersLeft new behind rest first count
numbers_more numbers new next behind left rest first count x is further more pushed h = record {
  all =
      let e : behind ≡ suc next = further ∙ omega arith in
      ap₂ (λ xs m. row_numbers xs ++ numbers_from m rest) pushed e ∙ ap (λ ms. ms ++ numbers_from (suc next) rest) (map-append (λ m. m.0) numbers (x ∷ []) ∙ ap (λ m. row_numbers numbers ++ m ∷ []) is)
      ∙ append_assoc (row_numbers numbers) (next ∷ []) (numbers_from (suc next) rest) ∙ ap (λ l. row_numbers numbers ++ numbers_from next l) (sym more) ∙ h.all;
  end = let e : next + left ≡ first + count = h.end in omega arith;
}

pub numbers_all : (numbers : List KindNumber) (next left first count : ℕ) → left ≡ 0 → NumbersLeft numbers next left first count → (row_numbers numbers ≡ numbers_from first count) × (next ≡ first + count)
numbers_all numbers next left first count none h =
    (sym (ap (λ l. row_numbers numbers ++ numbers_from next l) none ∙ append-nil (row_numbers numbers)) ∙ h.all, let e : next + left ≡ first + count = h.end in omega arith)

-- Behind the equations at the start stand no more, and so many numbers are still to be given out.
pub record RowSoFar {A : Type 0} (start now : Equations A) (numbers : List KindNumber) (left count : ℕ) : Type 0 where
  pub given : NumbersLeft numbers now.next left start.next count
  pub adds : Adds start now [] now.next

pub adds_nothing : {A : Type 0} (s : Equations A) → Adds s s [] s.next
adds_nothing s = record { met = sym (append-nil (equations_of s)); next = refl; known = knows_itself s }

-- no equations are added by one thing and the next
pub adds_none_then : {A : Type 0} (s t u : Equations A) (m : ℕ) → Adds s t [] t.next → Adds t u [] m → Adds s u [] u.next
adds_none_then s t u m first second = adds_same s u [] [] m u.next refl (sym second.next) (adds_then s t u [] t.next (λ n. []) (λ n. m) first second)

pub row_at_first : {A : Type 0} (s : Equations A) (numbers : List KindNumber) (left count : ℕ) → numbers ≡ [] → left ≡ count → RowSoFar s s numbers left count
row_at_first s numbers left count none whole = record {
  given = record { all = ap₂ (λ xs l. row_numbers xs ++ numbers_from s.next l) none whole; end = ap (λ l. s.next + l) whole };
  adds = adds_nothing s;
}

pub row_more : {A : Type 0} (start now behind : Equations A) (numbers new : List KindNumber) (left rest count : ℕ) (x : KindNumber) → x.0 ≡ now.next → Adds now behind [] (suc now.next) → left ≡ suc rest → new ≡ numbers ++ x ∷ [] →
    RowSoFar start now numbers left count → RowSoFar start behind new rest count
row_more start now behind numbers new left rest count x is adds more pushed h =
    let one : suc now.next ≡ now.next + 1 = omega arith in
    record {
      given = numbers_more numbers new now.next behind.next left rest start.next count x is (adds.next ∙ one) more pushed h.given;
      adds = adds_none_then start now behind (suc now.next) h.adds adds;
    }

module _ {A : Type 0} (start now : Equations A) (numbers : List KindNumber) (left count : ℕ) (none : left ≡ 0) (h : RowSoFar start now numbers left count) where
  pub row_numbers_all : row_numbers numbers ≡ numbers_from start.next count
  row_numbers_all = (numbers_all numbers now.next left start.next count none h.given).0

  pub row_adds_all : Adds start now [] (start.next + count)
  row_adds_all = adds_same start now [] [] now.next (start.next + count) refl (numbers_all numbers now.next left start.next count none h.given).1 h.adds

-- ---- rows

-- The rows so far, and those of the counts that are left, are all.
pub record RowsLeft {A : Type 0} (rows : List (Vec KindNumber A)) (next first : ℕ) (ks : List ℕ) (i : ℕ) : Type 0 where
  pub all : number_rows rows ++ rows_from next (drop i ks) ≡ rows_from first ks
  pub end : behind_all next (drop i ks) ≡ behind_all first ks

pub rows_at_first : {A : Type 0} (first : ℕ) (ks : List ℕ) → RowsLeft {A = A} [] first first ks 0
rows_at_first first ks = record { all = refl; end = refl }

pub rows_more : {A : Type 0} (rows new : List (Vec KindNumber A)) (row : Vec KindNumber A) (next behind first : ℕ) (ks : List ℕ) (i k : ℕ) → i < length ks → row_numbers row.items ≡ numbers_from next (get_or ks i k) → behind ≡ next + get_or ks i k → new ≡ rows ++ row ∷ [] →
    RowsLeft rows next first ks i → RowsLeft new behind first ks (i + 1)
rows_more {A} rows new row next behind first ks i k within numbers further pushed left =
    let cut = sym (drop_more ks i k within) in
    let rest = rows_from (next + get_or ks i k) (drop (i + 1) ks) in
    record {
      all =
          ap₂ (λ xs m. number_rows xs ++ rows_from m (drop (i + 1) ks)) pushed further
          ∙ ap (λ ys. ys ++ rest) (map-append (λ (ns : Vec KindNumber A). map (λ n. n.0) ns.items) rows (row ∷ []) ∙ ap (λ ys. number_rows rows ++ ys ∷ []) numbers)
          ∙ append_assoc (number_rows rows) (numbers_from next (get_or ks i k) ∷ []) rest
          ∙ ap (λ ys. number_rows rows ++ rows_from next ys) cut ∙ left.all;
      end = ap (λ m. behind_all m (drop (i + 1) ks)) further ∙ ap (behind_all next) cut ∙ left.end;
    }

pub rows_all : {A : Type 0} (rows : List (Vec KindNumber A)) (next first : ℕ) (ks : List ℕ) (i : ℕ) → length ks ≤ i → RowsLeft rows next first ks i → (number_rows rows ≡ rows_from first ks) × (next ≡ behind_all first ks)
rows_all {A} rows next first ks i over left =
    (sym (ap (λ ys. number_rows rows ++ rows_from next ys) (drop_all i ks over) ∙ append-nil (number_rows rows)) ∙ left.all, sym (ap (behind_all next) (drop_all i ks over)) ∙ left.end)

-- Behind the equations at the start stand no more, and rows of the counts that are left are still to be made.
pub record RowsSoFar {A : Type 0} (start now : Equations A) (rows : List (Vec KindNumber A)) (ks : List ℕ) (i : ℕ) : Type 0 where
  pub made : RowsLeft rows now.next start.next ks i
  pub adds : Adds start now [] now.next

pub no_rows_yet : {A : Type 0} (s : Equations A) (rows : List (Vec KindNumber A)) (ks : List ℕ) → rows ≡ [] → RowsSoFar s s rows ks 0
no_rows_yet s rows ks none = record { made = subst (λ xs. RowsLeft xs s.next s.next ks 0) (sym none) (rows_at_first s.next ks); adds = adds_nothing s }

pub row_is_made : {A : Type 0} (start now behind : Equations A) (rows new : List (Vec KindNumber A)) (row : Vec KindNumber A) (ks : List ℕ) (i k : ℕ) → i < length ks → row_numbers row.items ≡ numbers_from now.next (get_or ks i k) →
    Adds now behind [] (now.next + get_or ks i k) → new ≡ rows ++ row ∷ [] → RowsSoFar start now rows ks i → RowsSoFar start behind new ks (i + 1)
row_is_made start now behind rows new row ks i k within numbers adds pushed h = record {
  made = rows_more rows new row now.next behind.next start.next ks i k within numbers adds.next pushed h.made;
  adds = adds_none_then start now behind (now.next + get_or ks i k) h.adds adds;
}

module _ {A : Type 0} (start now : Equations A) (rows : List (Vec KindNumber A)) (ks : List ℕ) (i : ℕ) (over : length ks ≤ i) (h : RowsSoFar start now rows ks i) where
  pub rows_made : number_rows rows ≡ rows_from start.next ks
  rows_made = (rows_all rows now.next start.next ks i over h.made).0

  pub rows_add_all : Adds start now [] (behind_all start.next ks)
  rows_add_all = adds_same start now [] [] now.next (behind_all start.next ks) refl (rows_all rows now.next start.next ks i over h.made).1 h.adds

-- ---- all numbers of a tree

abbrev pub made_of : List ℕ → List ℕ → List (List ℕ) → List (List ℕ) → List (List ℕ) → Numbering
made_of owners nametypes constructors channels parameters = record { owners = owners; nametypes = nametypes; constructors = constructors; channels = channels; parameters = parameters }

pub same_numbers : (a b c d : List ℕ) (i j e f g h : List (List ℕ)) → a ≡ b → c ≡ d → i ≡ j → e ≡ f → g ≡ h → made_of a c i e g ≡ made_of b d j f h
same_numbers a b c d i j e f g h p q t r s = ap₂ (λ x y. made_of x y i e g) p q ∙ ap (λ x. made_of b d x e g) t ∙ ap₂ (λ x y. made_of b d j x y) r s
