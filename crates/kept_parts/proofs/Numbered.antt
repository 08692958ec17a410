-- The parts of a term by their numbers.
use Rattle.std.proofs.Common.{◌≡◌, ◌<◌, ◌+◌, ℕ, List, [], ◌∷◌, ◌++◌, length, get_or, map, take, slice_get, Some, refl, ap₂}
use Rattle.theory_search.proofs.Adding.{take_next}
use Rattle.std.specs.List.{AllByRecursion}
use Rattle.std.proofs.lemmas.Option.{slice_get_within}
use Rattle.theory_syntax.specs.Process.{Process, Script}
use Rattle.theory_syntax.proofs.Places.{same_at}
use Rattle.theory_semantics.specs.Kinds.Scripts.{IsTermOf}
use Rattle.theory_semantics.specs.Meaning.Limits.{fits}
use Rattle.std.specs.Prelude.{IsTrue}
use Rattle.theory_search.specs.Growth.{StaysIn}
use Rattle.theory_shapes.specs.Parts.{parts_of, shape_of}
use Rattle.theory_shapes.specs.Shape.{fill}
use Rattle.theory_shapes.proofs.Apart.{as_many, filled_again}
use Rattle.theory_shapes.proofs.ByParts.{parts_are_terms}
use Rattle.theory_shapes.proofs.Measured.{parts_fit}
use Rattle.std.proofs.Common.{sym, subst}
use Rattle.csp_rows.specs.declared.numbers.PartId.{PartId}
use Rattle.csp_rows.specs.Numbering.{Numbering}
use Rattle.csp_rows.specs.Rows.{row_parts}
use Rattle.kept_parts.specs.Kept.{IsPartOf}
use Rattle.kept_parts.specs.Places.{NumbersParts}
use Rattle.kept_parts.specs.Rows.{AreNumbersOf}
use Rattle.kept_parts.proofs.Counting.{stands_at}

-- ---- what numbers stand for

pub parts_numbered : (all : List Process) (z : Numbering) → NumbersParts all z → (parts : List Process) (row : List PartId) → AreNumbersOf all parts row → row_parts z row ≡ parts
parts_numbered all z numbers [] [] are = refl
parts_numbered all z numbers [] (n ∷ row) are = absurd are
parts_numbered all z numbers (p ∷ parts) [] are = absurd are
parts_numbered all z numbers (p ∷ parts) (n ∷ row) are =
    let is : z.part n.0 ≡ p = same_at all n.0 n.0 (z.part n.0) p refl (numbers n.0 (slice_get_within all n.0 p are.0)) are.0 in
    ap₂ (λ q qs. q ∷ qs) is (parts_numbered all z numbers parts row are.1)

pub numbers_among : (all parts : List Process) (row : List PartId) → AreNumbersOf all parts row → AllByRecursion (λ n. n.0 < length all) row
numbers_among all [] [] are = tt
numbers_among all [] (n ∷ row) are = absurd are
numbers_among all (p ∷ parts) [] are = absurd are
numbers_among all (p ∷ parts) (n ∷ row) are = (slice_get_within all n.0 p are.0, numbers_among all parts row are.1)

-- ---- as they come

pub numbers_stay : (all more : List Process) → StaysIn all more → (parts : List Process) (row : List PartId) → AreNumbersOf all parts row → AreNumbersOf more parts row
numbers_stay all more stays [] [] are = tt
numbers_stay all more stays [] (n ∷ row) are = absurd are
numbers_stay all more stays (p ∷ parts) [] are = absurd are
numbers_stay all more stays (p ∷ parts) (n ∷ row) are = (stays n.0 p are.0, numbers_stay all more stays parts row are.1)

pub one_number_more : (all parts : List Process) (row : List PartId) (p : Process) (n : PartId) → AreNumbersOf all parts row → slice_get all n.0 ≡ Some p → AreNumbersOf all (parts ++ p ∷ []) (row ++ n ∷ [])
one_number_more all [] [] p n are at = (at, tt)
one_number_more all [] (m ∷ row) p n are at = absurd are
one_number_more all (q ∷ parts) [] p n are at = absurd are
one_number_more all (q ∷ parts) (m ∷ row) p n are at = (are.0, one_number_more all parts row p n are.1 at)

-- ---- the parts of a term of the script within the limits

both_hold : (script : Script) (parts : List Process) → AllByRecursion (IsTermOf script) parts → AllByRecursion (λ p. IsTrue (fits p)) parts → AllByRecursion (IsPartOf script) parts
both_hold script [] closed within = tt
both_hold script (p ∷ parts) closed within = (record { closed = closed.0; within = within.0 }, both_hold script parts closed.1 within.1)

pub are_parts : (script : Script) (t : Process) → IsTermOf script t → IsTrue (fits t) → AllByRecursion (IsPartOf script) (parts_of t)
are_parts script t closed within =
    let again : fill (shape_of t) (parts_of t) ≡ t = filled_again t in
    let C : Process → Type 0 = λ p. IsTermOf script p in
    let F : Process → Type 0 = λ p. IsTrue (fits p) in
    both_hold script (parts_of t)
    (parts_are_terms script (shape_of t) (parts_of t) (as_many t) (subst C (sym again) closed))
    (parts_fit (shape_of t) (parts_of t) (as_many t) (subst F (sym again) within))

-- ---- one part after the other

-- the next one is a part
pub next_part : {X : Type 0} (f : X → Process) (script other : Script) (xs : List X) (i : ℕ) (x d : X) → AllByRecursion (IsPartOf script) (map f xs) → other ≡ script → i < length xs → x ≡ get_or xs i d → IsPartOf other (f x)
next_part f script other xs i x d all same within is = subst (λ (s : Script). IsPartOf s (f x)) (sym same) (stands_at f (IsPartOf script) xs i x d all within is)

-- and it is numbered too
pub next_number : {X : Type 0} (f : X → Process) (all more : List Process) (xs : List X) (i : ℕ) (x : X) (row after : List PartId) (n : PartId) → StaysIn all more → AreNumbersOf all (map f (take i xs)) row → i < length xs → x ≡ get_or xs i x
    → slice_get more n.0 ≡ Some (f x) → after ≡ row ++ n ∷ [] → AreNumbersOf more (map f (take (i + 1) xs)) after
next_number f all more xs i x row after n stays are within is at pushed =
    let next = take_next f xs i x within is in
    subst (λ (ps : List Process). AreNumbersOf more ps after) (sym next)
    (subst (λ (ns : List PartId). AreNumbersOf more (map f (take i xs) ++ f x ∷ []) ns) (sym pushed)
    (one_number_more more (map f (take i xs)) row (f x) n (numbers_stay all more stays (map f (take i xs)) row are) at))
