-- What is known stays, and rows stay rows.
use Rattle.std.proofs.Common.{◌≡◌, ◌<◌, ℕ, zero, suc, List, [], ◌∷◌, ◌++◌, length, get_or, set, Option, Some, None, refl, sym, ◌∙◌, ap, subst, arith}
use Rattle.std.specs.Prelude.{IfSome}
use Rattle.std.specs.List.{AllByRecursion}
use Rattle.theory_syntax.specs.Process.{Process, Script}
use Rattle.csp_rows.specs.declared.part.Part.{Part}
use Rattle.std.specs.declared.vec.Vec.{Vec}
use Rattle.theory_spelling.specs.Spelling.{spelling}
use Rattle.csp_packed.specs.Packed.{packed_process}
use Rattle.csp_packed.specs.declared.packed_term.PackedTerm.{PackedTerm}
use Rattle.kept_parts.specs.KnownSteps.{AreKnown, script_in}
use Rattle.kept_parts.specs.declared.parts.Parts.{Parts}
use Rattle.kept_parts.specs.Serving.{ServeShapes}
use Rattle.csp_rows.specs.declared.splitting.SplitRow.{SplitRow}
use Rattle.csp_rows.specs.Split.{IsSplitAnswer}
use Rattle.csp_rows.specs.Told.{items_of}
use Rattle.kept_parts.specs.declared.known_parts.KnownParts.{KnownParts}
use Rattle.kept_parts.specs.declared.kept_shapes.EarlierShape.{EarlierShape}
use Rattle.kept_parts.specs.declared.last_shape.LastShape.{LastShape}
use Rattle.kept_parts.specs.Known.{AreKnownOf, IsLastKept, IsRowOf, IsShapeKept, earlier_at, shape_in}
use Rattle.kept_parts.specs.Rows.{IsRowAmong}
use Rattle.kept_parts.proofs.Apart.{split_row}
use Rattle.csp_rows.specs.declared.numbers.PartId.{PartId}

-- what is known is of its own script
pub of_its_own : {A : Type 0} (script : Script) (k : KnownParts A) → AreKnownOf script k → AreKnownOf (script_in k.parts) k
of_its_own script k known = subst (λ (s : Script). AreKnownOf s k) (sym known.of_script) known

-- so the script is that of any row
pub for_script : {A : Type 0} (script : Script) (k : KnownParts A) → AreKnownOf script k → (P : Script → Type 0) → P script → P (script_in k.parts)
for_script script k known P is = subst P (sym known.of_script) is

-- the shape that is kept
pub last_is : {A : Type 0} (script : Script) (o : Option (LastShape A)) (last : LastShape A) → o ≡ Some last → IsLastKept script o → IsShapeKept script last
last_is {A} script o last is kept = subst (IsLastKept script) is kept

-- what splitting the bytes of a term answers
pub split_found : {A : Type 0} (k : KnownParts A) → AreKnown k.parts → ServeShapes k.parts → (shape : Option (LastShape A)) → IsLastKept (script_in k.parts) shape → (last : LastShape A) → shape ≡ Some last → (t : PackedTerm A) (bytes : List ℕ) → spelling (packed_process t) ≡ bytes
    → (parts : List (Part A)) → parts ≡ k.parts.parts.items → (pieces : List (Vec ℕ A)) → pieces ≡ last.pieces.items → (tried : List (List PartId)) (o : Option (SplitRow A))
    → IsSplitAnswer parts bytes (items_of pieces) tried o → IfSome o (IsRowAmong k.parts (shape_in shape) (packed_process t))
split_found k known serve shape kept last is t bytes spelled parts all pieces cut tried None answer = tt
split_found {A} k known serve shape kept last is t bytes spelled parts all pieces cut tried (Some row) answer =
    let P : List (Part A) → Type 0 = λ ps. IsSplitAnswer ps bytes (items_of pieces) tried (Some row) in
    let C : List (Vec ℕ A) → Type 0 = λ vs. IsSplitAnswer k.parts.parts.items bytes (items_of vs) tried (Some row) in
    let there = subst C cut (subst P all answer) in
    subst (λ (o : Option (LastShape A)). IsRowAmong k.parts (shape_in o) (packed_process t) row) (sym is) (split_row k.parts known serve last (last_is (script_in k.parts) shape last is kept) t bytes spelled row there.0)

-- ---- earlier shapes

-- that of each place is kept
pub earlier_kept : {A : Type 0} (script : Script) (es : List (EarlierShape A)) (i : ℕ) → AllByRecursion (λ (e : EarlierShape A). IsLastKept script e.shape) es → IsLastKept script (earlier_at es i)
earlier_kept script [] i all = tt
earlier_kept script (e ∷ es) zero all = all.0
earlier_kept script (e ∷ es) (suc i) all = earlier_kept script es i all.1

-- it is the one that is read there
pub earlier_read : {A : Type 0} (es : List (EarlierShape A)) (i : ℕ) (d : EarlierShape A) → i < length es → (get_or es i d).shape ≡ earlier_at es i
earlier_read [] i d within = absurd (omega (arith, within))
earlier_read (e ∷ es) zero d within = refl
earlier_read (e ∷ es) (suc i) d within = earlier_read es i d (omega (arith, within))

-- so it is where the shapes are those of a slice
pub earlier_item : {A : Type 0} (es items : List (EarlierShape A)) (i : ℕ) (e : EarlierShape A) → items ≡ es → i < length items → e ≡ get_or items i e → e.shape ≡ earlier_at es i
earlier_item {A} es items i e same within is =
    ap (λ (x : EarlierShape A). x.shape) is ∙ ap (λ (xs : List (EarlierShape A)). (get_or xs i e).shape) same ∙ earlier_read es i e (subst (λ (xs : List (EarlierShape A)). i < length xs) same within)

-- a row of known parts in a shape, which is then the last one
pub row_in_last : {A : Type 0} (old new : KnownParts A) (shape : Option (LastShape A)) (t : Process) (row : SplitRow A) → new.parts ≡ old.parts → new.last ≡ shape → IsRowAmong old.parts (shape_in shape) t row → IsRowOf new t row
row_in_last {A} old new shape t row parts last is =
    let there = subst (λ (o : Option (LastShape A)). IsRowAmong old.parts (shape_in o) t row) (sym last) is in
    subst (λ (ps : Parts A). IsRowAmong ps (shape_in new.last) t row) (sym parts) there

-- all are kept where one is put in the place of another, or behind them
pub earlier_set : {A : Type 0} (script : Script) (es : List (EarlierShape A)) (i : ℕ) (e : EarlierShape A) → AllByRecursion (λ (e : EarlierShape A). IsLastKept script e.shape) es → IsLastKept script e.shape
    → AllByRecursion (λ (e : EarlierShape A). IsLastKept script e.shape) (set es i e)
earlier_set script [] i e all one = tt
earlier_set script (x ∷ es) zero e all one = (one, all.1)
earlier_set script (x ∷ es) (suc i) e all one = (all.0, earlier_set script es i e all.1 one)

pub earlier_more : {A : Type 0} (script : Script) (es : List (EarlierShape A)) (e : EarlierShape A) → AllByRecursion (λ (e : EarlierShape A). IsLastKept script e.shape) es → IsLastKept script e.shape
    → AllByRecursion (λ (e : EarlierShape A). IsLastKept script e.shape) (es ++ e ∷ [])
earlier_more script [] e all one = (one, tt)
earlier_more script (x ∷ es) e all one = (all.0, earlier_more script es e all.1 one)
