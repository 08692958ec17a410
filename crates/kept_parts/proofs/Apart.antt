-- Terms that are taken apart, and terms that are split by their bytes.
use Rattle.std.proofs.Common.{◌≡◌, ◌<◌, ℕ, List, Some, sym, ◌∙◌, ap, subst}
use Rattle.std.specs.List.{AllByRecursion}
use Rattle.theory_syntax.specs.Process.{Process}
use Rattle.theory_spelling.specs.Reading.{term_of}
use Rattle.theory_spelling.specs.Spelling.{spelling}
use Rattle.theory_shapes.specs.Parts.{parts_of, shape_of}
use Rattle.theory_shapes.specs.Pieces.{pieces}
use Rattle.theory_shapes.specs.Shape.{fill}
use Rattle.csp_rows.specs.declared.numbers.PartId.{PartId}
use Rattle.csp_rows.specs.Places.{AreRunsOf}
use Rattle.csp_rows.specs.Rows.{row_parts}
use Rattle.csp_rows.proofs.RowsOfParts.{runs_there, shape_spellable, taken_apart}
use Rattle.csp_packed.specs.Packed.{packed_process}
use Rattle.csp_packed.specs.Within.{or_stop}
use Rattle.csp_packed.specs.declared.packed_term.PackedTerm.{PackedTerm}
use Rattle.csp_term.specs.Term.{process_of}
use Rattle.csp_numbers.specs.Lists.{items_of}
use Rattle.kept_parts.specs.declared.parts.Parts.{Parts}
use Rattle.kept_parts.specs.KnownSteps.{AreKnown, processes_of, script_in}
use Rattle.kept_parts.specs.Serving.{ServeShapes}
use Rattle.csp_rows.specs.declared.splitting.SplitRow.{SplitRow}
use Rattle.csp_rows.specs.Split.{IsSplit}
use Rattle.csp_rows.proofs.Apart.{split_terms}
use Rattle.kept_parts.specs.declared.last_shape.LastShape.{LastShape}
use Rattle.kept_parts.specs.Known.{IsShapeKept}
use Rattle.kept_parts.specs.Rows.{AreNumbersOf, IsRowAmong}
use Rattle.kept_parts.proofs.Numbered.{numbers_among, parts_numbered}

-- a term whose parts are numbered is a row of them in its shape
pub apart_row : {A : Type 0} (k : Parts A) (t : Process) (row : SplitRow A) → AreNumbersOf (processes_of k) (parts_of t) row.numbers.items → AreRunsOf (shape_of t) (parts_of t) row.places.items → IsRowAmong k (shape_of t) t row
apart_row k t row are runs z numbers =
    let parts : row_parts z row.numbers.items ≡ parts_of t = parts_numbered (processes_of k) z numbers.parts (parts_of t) row.numbers.items are in
    let apart = taken_apart z t row.numbers.items parts in
    record {
      filled = apart.0;
      same = apart.1;
      among = numbers_among (processes_of k) (parts_of t) row.numbers.items are;
      runs = runs_there z t row.numbers.items row.places.items parts runs;
    }

-- so it is in a shape that is the same
pub apart_in : {A : Type 0} (k : Parts A) (t p : Process) (row : SplitRow A) → p ≡ t → AreNumbersOf (processes_of k) (parts_of t) row.numbers.items → AreRunsOf (shape_of t) (parts_of t) row.places.items → IsRowAmong k (shape_of p) t row
apart_in k t p row same are runs = subst (λ (q : Process). IsRowAmong k (shape_of q) t row) (sym same) (apart_row k t row are runs)

-- a term that is split by its bytes is a row of the parts
pub split_row : {A : Type 0} (k : Parts A) → AreKnown k → ServeShapes k → (last : LastShape A) → IsShapeKept (script_in k) last → (t : PackedTerm A) (bytes : List ℕ) → spelling (packed_process t) ≡ bytes → (row : SplitRow A)
    → IsSplit k.parts.items bytes (items_of last.pieces.items) row.numbers.items row.places.items → IsRowAmong k (shape_of (process_of last.term)) (packed_process t) row
split_row {A} k known serve last shape t bytes spelled row is z numbers =
    let s = shape_of (process_of last.term) in
    let kept = (serve known z numbers.events numbers.parts).kept in
    let split : IsSplit k.parts.items bytes (pieces s) row.numbers.items row.places.items = subst (λ (ps : List (List ℕ)). IsSplit k.parts.items bytes ps row.numbers.items row.places.items) shape.pieces is in
    let term = split_terms z k.parts.items kept.spelled s bytes row.numbers.items row.places.items kept.spellable (shape_spellable (process_of last.term) shape.spellable) split in
    let read : term_of t.bytes.items ≡ Some (fill s (row_parts z row.numbers.items)) = ap term_of (sym (t.spells).1 ∙ spelled) ∙ term.read in
    record {
      filled = term.filled;
      same = ap or_stop read;
      among = subst (λ (count : ℕ). AllByRecursion (λ (n : PartId). n.0 < count) row.numbers.items) known.kept.all_kept split.between.among;
      runs = term.runs;
    }
