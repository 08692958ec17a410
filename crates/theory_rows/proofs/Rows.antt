-- A process has one row.
use Rattle.std.proofs.Common.{◌≡◌, ◌<◌, ℕ, List, [], ◌∷◌, Some, get_or, length, refl, sym, ap, ap₂, ◌∙◌, Contains}
use Rattle.std.specs.List.{AllByRecursion}
use Rattle.std.proofs.lemmas.List.{length-map}
use Rattle.std.proofs.lemmas.Option.{get_or_from_slice_get, slice_get-get_or, slice_get_within}
use Rattle.theory_syntax.specs.Process.{Process, Stop}
use Rattle.theory_semantics.proofs.Rising.{stands_from_Contains}
use Rattle.theory_shapes.specs.Shape.{Hole, fill, holes, part_at}
use Rattle.theory_shapes.specs.Parts.{IsPart, parts_of, shape_of}
use Rattle.theory_shapes.proofs.Apart.{as_many, filled_again, one_way}
use Rattle.theory_search.specs.Growth.{AreDistinct}
use Rattle.csp_rows.specs.declared.numbers.PartId.{PartId}
use Rattle.theory_rows.specs.Tables.{AreAmong, AreTables, IsRowIn, IsRowOf, Row, Tables, parts_in, process_of, shape_in}

-- one place of a list without repetition for what stands there
pub one_place : {X : Type 0} (xs : List X) → AreDistinct xs → (n m : ℕ) (d : X) → n < length xs → m < length xs → get_or xs n d ≡ get_or xs m d → n ≡ m
one_place xs apart n m d first second same = apart n m (get_or xs n d) (slice_get-get_or xs n d first) (slice_get-get_or xs m d second ∙ ap Some (sym same))

pub same_number : (n m : PartId) → n.0 ≡ m.0 → n ≡ m
same_number n m e = λ i. record { 0 = e i }

pub part_count : (t : Tables) (ns : List PartId) → length (parts_in t ns) ≡ length ns
part_count t ns = length-map ns (λ (n : PartId). part_at t.parts n.0)

pub all_parts_in : (t : Tables) → AreTables t → (ns : List PartId) → AreAmong t ns → AllByRecursion IsPart (parts_in t ns)
all_parts_in t are [] among = tt
all_parts_in t are (n ∷ ns) among = (are.apart n.0 (part_at t.parts n.0) (slice_get-get_or t.parts n.0 Stop among.0), all_parts_in t are ns among.1)

same_parts : (t : Tables) → AreTables t → (ns ms : List PartId) → AreAmong t ns → AreAmong t ms → parts_in t ns ≡ parts_in t ms → ns ≡ ms
same_parts t are [] [] first second same = refl
same_parts t are [] (m ∷ ms) first second same = absurd (cc same)
same_parts t are (n ∷ ns) [] first second same = absurd (cc same)
same_parts t are (n ∷ ns) (m ∷ ms) first second same =
    let head : part_at t.parts n.0 ≡ part_at t.parts m.0 = cc same in
    let rest : parts_in t ns ≡ parts_in t ms = cc same in
    ap₂ (λ (k : PartId) (ks : List PartId). k ∷ ks) (same_number n m (one_place t.parts are.parts n.0 m.0 Stop first.0 second.0 head)) (same_parts t are ns ms first.1 second.1 rest)

pub row_apart : (t : Tables) (r : Row) → AreTables t → IsRowIn t r → (shape_of (process_of t r) ≡ shape_in t r.shape) × (parts_of (process_of t r) ≡ parts_in t r.parts) × AllByRecursion IsPart (parts_in t r.parts)
row_apart t r are is =
    let all = all_parts_in t are r.parts is.parts in
    let only = one_way (shape_in t r.shape) (parts_in t r.parts) (part_count t r.parts ∙ is.filled) all in
    (only.0, only.1, all)

pub one_row : (t : Tables) (r q : Row) → AreTables t → IsRowIn t r → IsRowIn t q → process_of t r ≡ process_of t q → r ≡ q
one_row t r q are first second same =
    let a = row_apart t r are first in
    let b = row_apart t q are second in
    let shapes : shape_in t r.shape ≡ shape_in t q.shape = sym a.0 ∙ ap shape_of same ∙ b.0 in
    let parts : parts_in t r.parts ≡ parts_in t q.parts = sym a.1 ∙ ap parts_of same ∙ b.1 in
    let s = one_place t.shapes are.shapes r.shape q.shape Hole first.shape second.shape shapes in
    let p = same_parts t are r.parts q.parts first.parts second.parts parts in
    λ i. record { shape = s i; parts = p i }

-- numbers of these parts
abbrev NumbersOf : Tables → List Process → Type 0
NumbersOf t ps = (ns : List PartId) × AreAmong t ns × (parts_in t ns ≡ ps)

numbers_of : (t : Tables) (ps : List Process) → AllByRecursion (λ q. Contains t.parts q) ps → NumbersOf t ps
numbers_of t [] all = ([], tt, refl)
numbers_of t (p ∷ ps) all =
    let at = stands_from_Contains t.parts p all.0 in
    let rest = numbers_of t ps all.1 in
    let n : PartId = record { 0 = at.0 } in
    (n ∷ rest.0, (slice_get_within t.parts at.0 p at.1, rest.1), ap₂ (λ (q : Process) (qs : List Process). q ∷ qs) (get_or_from_slice_get t.parts at.0 p Stop at.1) rest.2)

pub some_row : (t : Tables) (p : Process) → Contains t.shapes (shape_of p) → AllByRecursion (λ q. Contains t.parts q) (parts_of p) → (r : Row) × IsRowOf t p r
some_row t p has all =
    let at = stands_from_Contains t.shapes (shape_of p) has in
    let ns = numbers_of t (parts_of p) all in
    let shape : shape_in t at.0 ≡ shape_of p = get_or_from_slice_get t.shapes at.0 (shape_of p) Hole at.1 in
    let r : Row = record { shape = at.0; parts = ns.0 } in (
      r,
      record {
        within = record {
          shape = slice_get_within t.shapes at.0 (shape_of p) at.1;
          parts = ns.1;
          filled = sym (part_count t ns.0) ∙ ap length ns.2 ∙ as_many p ∙ ap holes (sym shape);
        };
        is = ap₂ fill shape ns.2 ∙ filled_again p;
      },
    )
