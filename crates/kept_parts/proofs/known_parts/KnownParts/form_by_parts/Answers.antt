use Rattle.std.proofs.Common.{◌∙◌, ◌+◌, ℕ, List, Option, length, refl, sym, ap₂, subst}
use Rattle.std.specs.Prelude.{IfSome}
use Rattle.std.specs.List.{sum_by}
use Rattle.theory_syntax.specs.Value.{Event}
use Rattle.csp_rows.specs.declared.numbers.PartId.{PartId}
use Rattle.csp_rows.specs.declared.part.Part.{Part}
use Rattle.csp_rows.specs.Rows.{size_at}
use Rattle.csp_rows.proofs.Answered.{by_call}
use Rattle.csp_packed.specs.Packed.{packed_process}
use Rattle.csp_packed.specs.declared.packed_form.PackedForm.{PackedForm}
use Rattle.kept_parts.specs.KnownSteps.{script_in}
use Rattle.kept_parts.specs.declared.last_shape.LastShape.{LastShape}
use Rattle.kept_parts.specs.Forms.{IsPackedAs, IsPackedFormOf, IsReadable}
use Rattle.kept_parts.specs.Known.{shape_in}
use Rattle.kept_parts.specs.Rows.{IsRowAmong}
use Rattle.kept_parts.proofs.Keeping.{last_is}
use Rattle.kept_parts.proofs.Lending.{form_readable, form_told, stands_for_some}
use Rattle.kept_parts.proofs.known_parts.KnownParts.form_by_parts.Goals as goal

pub fire_row-requires : goal.fire_row-requires
fire_row-requires g c =
    let k = c.args.self.now.parts in
    let t = c.args.term.now in
    let row = c.args.row.now in
    let last = c.in-Some.last in
    let shape = last_is (script_in k) c.args.self.now.last last c.in-Some.is c.requires.known.last in
    let R : Option (LastShape g.row.A.Denot) → Type 0 = λ o. IsRowAmong k (shape_in o) (packed_process t) row in
    let count : List (Part g.row.A.Denot) → List PartId → ℕ = λ ps ns. last.measured.own_size + sum_by (λ (n : PartId). size_at ps n.0) ns in
    stands_for_some k c.requires.known.parts c.all-parts.ensures.serve last shape t c.requires.closed row (subst R c.in-Some.is c.requires.row) c.requires.fired _
    (record {
      shape_is = refl;
      numbers_are = c.deref-2.ensures.value;
      parts_are = c.all-parts.ensures.all;
      bytes_are = c.bytes.ensures.spelled;
      places_are = c.deref-3.ensures.value;
      nodes_are = c.in-Some-nodes_of.ensures.1 ∙ ap₂ count c.all-parts.ensures.all c.deref.ensures.value;
      levels_are = c.deref-4.ensures.value;
    })

pub packed_form-requires : goal.packed_form-requires
packed_form-requires g c =
    let k = c.args.self.now.parts in
    let t = c.args.term.now in
    let row = c.args.row.now in
    let last = c.in-Some.last in
    let shape = last_is (script_in k) c.args.self.now.last last c.in-Some.is c.requires.known.last in
    let R : Option (LastShape g.row.A.Denot) → Type 0 = λ o. IsRowAmong k (shape_in o) (packed_process t) row in
    let count : List (Part g.row.A.Denot) → List PartId → ℕ = λ ps ns. last.measured.own_size + sum_by (λ (n : PartId). size_at ps n.0) ns in
    subst (λ (es : List Event). IsReadable (length es) c.in_ok-form.form) (sym c.requires.known.alphabet)
    (form_readable k c.requires.known.parts c.all-parts.ensures.serve last shape t c.requires.closed row (subst R c.in-Some.is c.requires.row) c.requires.fired _
    (record {
      shape_is = refl;
      numbers_are = c.deref-2.ensures.value;
      parts_are = c.all-parts.ensures.all;
      bytes_are = c.bytes.ensures.spelled;
      places_are = c.deref-3.ensures.value;
      nodes_are = c.in-Some-nodes_of.ensures.1 ∙ ap₂ count c.all-parts.ensures.all c.deref.ensures.value;
      levels_are = c.deref-4.ensures.value;
    }) c.in_ok-form.form c.in_ok-form.ensures)

pub returns : goal.returns
returns g c =
    let k = c.args.self.now.parts in
    let t = c.args.term.now in
    let row = c.args.row.now in
    let last = c.in-Some.last in
    let form = c.in_ok-form.form in
    let shape = last_is (script_in k) c.args.self.now.last last c.in-Some.is c.requires.known.last in
    let R : Option (LastShape g.row.A.Denot) → Type 0 = λ o. IsRowAmong k (shape_in o) (packed_process t) row in
    let count : List (Part g.row.A.Denot) → List PartId → ℕ = λ ps ns. last.measured.own_size + sum_by (λ (n : PartId). size_at ps n.0) ns in
    let P : Option (PackedForm g.row.A.Denot) → Type 0 = IsPackedAs c.args.self.now.alphabet form in
    let Q : Option (PackedForm g.row.A.Denot) → Type 0 = λ o. IfSome o (IsPackedFormOf (script_in k) (packed_process t)) in
    by_call P Q c.packed_form.result (λ o same.
    form_told k c.requires.known.parts c.all-parts.ensures.serve last shape t c.requires.closed row (subst R c.in-Some.is c.requires.row) c.requires.fired _
    (record {
      shape_is = refl;
      numbers_are = c.deref-2.ensures.value;
      parts_are = c.all-parts.ensures.all;
      bytes_are = c.bytes.ensures.spelled;
      places_are = c.deref-3.ensures.value;
      nodes_are = c.in-Some-nodes_of.ensures.1 ∙ ap₂ count c.all-parts.ensures.all c.deref.ensures.value;
      levels_are = c.deref-4.ensures.value;
    }) form o c.in_ok-form.ensures (subst (λ (es : List Event). IsPackedAs es form o) c.requires.known.alphabet same)) c.packed_form.ensures
