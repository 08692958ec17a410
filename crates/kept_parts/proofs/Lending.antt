-- A row of known parts, as it is lent to be fired.
use Rattle.std.proofs.Common.{◌≡◌, ◌<◌, ◌+◌, ℕ, List, length, Option, refl, sym, ◌∙◌, ap, ap₂, subst}
use Rattle.std.specs.Prelude.{IfSome}
use Rattle.std.specs.List.{AllByRecursion, sum_by}
use Rattle.theory_syntax.specs.Process.{Process, Script}
use Rattle.theory_syntax.specs.Value.{event_cmp}
use Rattle.theory_semantics.specs.Kinds.Scripts.{IsTermOf}
use Rattle.theory_semantics.specs.Meaning.Limits.{size}
use Rattle.theory_semantics.specs.Meaning.Offers.{RisesBy}
use Rattle.theory_shapes.specs.Alphabet.{alphabet}
use Rattle.theory_shapes.proofs.Numbered.{checked_rises}
use Rattle.theory_spelling.specs.Spelling.{spelling}
use Rattle.theory_shapes.specs.Parts.{shape_of}
use Rattle.theory_shapes.specs.Shape.{Shape}
use Rattle.csp_rows.specs.declared.numbers.PartId.{PartId}
use Rattle.csp_rows.specs.declared.part.Part.{Part}
use Rattle.csp_rows.specs.Numbering.{Numbering}
use Rattle.csp_rows.specs.Rows.{size_at}
use Rattle.csp_rows.specs.Shapes.{tree_of}
use Rattle.csp_rows.proofs.OrderedNumbers.{events_rise}
use Rattle.csp_rows.specs.ByOrder.{IsOrderOf}
use Rattle.csp_rows.specs.ByParts.{IsRowByParts}
use Rattle.csp_rows.specs.Row.{Row}
use Rattle.csp_rows.proofs.RowsOfParts.{shape_spellable, size_told}
use Rattle.csp_packed.specs.Packed.{packed_process}
use Rattle.csp_packed.specs.declared.packed_term.PackedTerm.{PackedTerm}
use Rattle.csp_packed.proofs.Spelled.{within_there}
use Rattle.csp_term.specs.Term.{process_of}
use Rattle.kept_parts.specs.declared.parts.Parts.{Parts}
use Rattle.kept_parts.specs.KnownSteps.{AreKnown, found_cmp, processes_of, script_in}
use Rattle.kept_parts.specs.Serving.{AreRowFired, ServeShapes}
use Rattle.kept_parts.proofs.Serving.{numbering}
use Rattle.csp_rows.specs.Lent.{StandsFor, StandsForSome, row_with}
use Rattle.csp_rows.specs.Told.{Tells, TellsRow}
use Rattle.csp_rows.specs.declared.row.RowForm.{RowForm}
use Rattle.csp_rows.specs.declared.row.RowByNumbers.{RowByNumbers}
use Rattle.csp_rows.specs.declared.splitting.SplitRow.{SplitRow}
use Rattle.csp_packed.specs.declared.packed_form.PackedForm.{PackedForm}
use Rattle.kept_parts.specs.Forms.{IsPackedAs, IsPackedFormOf, IsReadable}
use Rattle.kept_parts.proofs.Forms.{packed, readable}
use Rattle.kept_parts.specs.ByProcess.{by_process}
use Rattle.kept_parts.specs.declared.last_shape.LastShape.{LastShape}
use Rattle.kept_parts.specs.Known.{IsShapeKept}
use Rattle.kept_parts.specs.Rows.{IsRowAmong, IsTakenApart, NumbersAll}

rises_in : (script : Script) (t : Process) → IsTermOf script t → RisesBy event_cmp (alphabet script)
rises_in script t closed = checked_rises script (closed.0, closed.1)

-- there is a numbering by places
pub has_numbering : {A : Type 0} (k : Parts A) → AreKnown k → (t : Process) → IsTermOf (script_in k) t → (z : Numbering) × NumbersAll k z
has_numbering k known t closed =
    let z = numbering (alphabet (script_in k)) (processes_of k) (rises_in (script_in k) t closed) known.kept.first known.kept.distinct in
    (z.0, record { events = z.1; parts = z.2 })

module _ {A : Type 0} (k : Parts A) (known : AreKnown k) (serve : ServeShapes k) (last : LastShape A) (shape : IsShapeKept (script_in k) last) (t : PackedTerm A) (closed : IsTermOf (script_in k) (packed_process t)) (row : SplitRow A) where
  abbrev pub its_shape : Shape
  its_shape = shape_of (process_of last.term)

  -- the row with what is kept of parts, bytes and a count of nodes
  abbrev pub row_of : List (Part A) → List ℕ → ℕ → Row A
  row_of parts bytes nodes = record {
    term = packed_process t;
    shape = its_shape;
    tree = tree_of last.measured.shape;
    numbers = row.numbers.items;
    parts = parts;
    bytes = bytes;
    places = row.places.items;
    nodes = nodes;
    over = last.measured.levels.items;
  }

  -- how many nodes there are, by what is kept of parts
  abbrev pub nodes_by : List (Part A) → ℕ
  nodes_by parts = last.measured.own_size + sum_by (λ n. size_at parts n.0) row.numbers.items

  -- What is lent is what is known of the row.
  pub record IsLent (lent : RowByNumbers A) : Type 0 where
    pub shape_is : lent.shape.now ≡ last.measured.shape
    pub numbers_are : lent.numbers.now ≡ row.numbers.items
    pub parts_are : lent.parts.now ≡ k.parts.items
    pub bytes_are : spelling (packed_process t) ≡ lent.bytes.now
    pub places_are : lent.places.now ≡ row.places.items
    pub nodes_are : lent.nodes ≡ nodes_by k.parts.items
    pub levels_are : lent.levels.now ≡ last.measured.levels.items

  rises : RisesBy event_cmp (alphabet (script_in k))
  rises = rises_in (script_in k) (packed_process t) closed

  some_numbering : (z : Numbering) × NumbersAll k z
  some_numbering = has_numbering k known (packed_process t) closed

  module _ (is : IsRowAmong k its_shape (packed_process t) row) (fired : AreRowFired k row.numbers.items) (z : Numbering) (numbers : NumbersAll k z) where
    abbrev apart : IsTakenApart z (length (processes_of k)) its_shape (packed_process t) row
    apart = is z numbers

    among : AllByRecursion (λ (n : PartId). n.0 < length k.parts.items) row.numbers.items
    among = subst (λ (count : ℕ). AllByRecursion (λ (n : PartId). n.0 < count) row.numbers.items) (sym known.kept.all_kept) apart.among

    -- so many nodes the term has
    counted : nodes_by k.parts.items ≡ size (packed_process t)
    counted =
        let kept = (serve known z numbers.events numbers.parts).kept in
        ap (λ (n : ℕ). n + sum_by (λ (m : PartId). size_at k.parts.items m.0) row.numbers.items) shape.measured.own_size
        ∙ (sym (size_told z k.parts.items kept.measured its_shape row.numbers.items among apart.filled) ∙ ap size (sym apart.same))

    here : IsRowByParts z (script_in k) (row_of k.parts.items (spelling (packed_process t)) (size (packed_process t)))
    here = record {
      rising = events_rise z (alphabet (script_in k)) rises numbers.events.count numbers.events.each;
      kept = (serve known z numbers.events numbers.parts).kept;
      closed = closed;
      within = within_there t.bytes.items t.spells;
      filled = apart.filled;
      same = apart.same;
      values = shape.measured.values;
      spellable = shape_spellable (process_of last.term) shape.spellable;
      by_numbers = shape.measured.same z numbers.events;
      among = among;
      fired = (serve known z numbers.events numbers.parts).fired row.numbers.items its_shape apart.filled fired;
      spelled = refl;
      runs = apart.runs;
      measured = refl;
      leveled = shape.measured.levels;
    }

    -- the order is that of all parts
    lent_order : (parts : List (Part A)) → parts ≡ k.parts.items → IsOrderOf z (length parts) (by_process k)
    lent_order parts all =
        subst (λ (ps : List (Part A)). IsOrderOf z (length ps) (by_process k)) (sym all)
        (subst (λ (count : ℕ). IsOrderOf z count (by_process k)) (sym known.kept.all_kept) (λ p q one other. ap₂ found_cmp (numbers.parts p.0 one) (numbers.parts q.0 other)))

    -- what is lent stands for the term
    pub lent_stands : (lent : RowByNumbers A) → IsLent lent → StandsFor z (script_in k) (packed_process t) its_shape lent (by_process k)
    lent_stands lent is_lent =
        let nodes_are : lent.nodes ≡ size (packed_process t) = is_lent.nodes_are ∙ counted in
        let row_is : row_with (packed_process t) its_shape lent ≡ row_of k.parts.items (spelling (packed_process t)) (size (packed_process t)) = λ i. record {
          term = packed_process t;
          shape = its_shape;
          tree = tree_of (is_lent.shape_is i);
          numbers = is_lent.numbers_are i;
          parts = is_lent.parts_are i;
          bytes = sym is_lent.bytes_are i;
          places = is_lent.places_are i;
          nodes = nodes_are i;
          over = is_lent.levels_are i;
        } in
        record { by_parts = subst (λ (r : Row A). IsRowByParts z (script_in k) r) (sym row_is) here; ordered = lent_order lent.parts.now is_lent.parts_are }

  module _ (is : IsRowAmong k its_shape (packed_process t) row) (fired : AreRowFired k row.numbers.items) (lent : RowByNumbers A) (is_lent : IsLent lent) where
    stands : StandsFor some_numbering.0 (script_in k) (packed_process t) its_shape lent (by_process k)
    stands = lent_stands is fired some_numbering.0 some_numbering.1 lent is_lent

    pub stands_for_some : StandsForSome lent (by_process k)
    stands_for_some = (some_numbering.0, script_in k, packed_process t, its_shape, stands)

    tells : (form : RowForm A) → TellsRow lent (by_process k) form → Tells some_numbering.0 (script_in k) (row_with (packed_process t) its_shape lent) form
    tells form told = told some_numbering.0 (script_in k) (packed_process t) its_shape stands

    -- so its form can be read
    pub form_readable : (form : RowForm A) → TellsRow lent (by_process k) form → IsReadable (length (alphabet (script_in k))) form
    form_readable form told =
        readable (alphabet (script_in k)) some_numbering.0 some_numbering.1.events (script_in k) (row_with (packed_process t) its_shape lent) form (tells form told)

    -- and is exactly what the rules say of the term
    pub form_told : (form : RowForm A) (o : Option (PackedForm A)) → TellsRow lent (by_process k) form → IsPackedAs (alphabet (script_in k)) form o → IfSome o (IsPackedFormOf (script_in k) (packed_process t))
    form_told form o told same =
        packed (alphabet (script_in k)) some_numbering.0 some_numbering.1.events (script_in k) (row_with (packed_process t) its_shape lent) form o (tells form told) same
