use Rattle.std.proofs.Common.{◌≡◌, ℕ, List, length, sym, ap₂, subst, ◌∙◌}
use Rattle.std.specs.declared.vec.Vec.{Vec}
use Rattle.theory_spelling.specs.Spelling.{spelling}
use Rattle.theory_shapes.specs.Parts.{shape_of}
use Rattle.theory_shapes.specs.Pieces.{pieces}
use Rattle.csp_rows.proofs.Answered.{by_call}
use Rattle.csp_rows.specs.declared.places.Place.{Place}
use Rattle.csp_term.specs.Term.{process_of}
use Rattle.csp_numbers.specs.Cut.{ArePlacesIn, cut_from}
use Rattle.csp_numbers.specs.Lists.{items_of}
use Rattle.csp_numbers.proofs.Cutting.{cut_process, rise_process}
use Rattle.csp_numbers.proofs.pieces.pieces_of.Goals as goal

pub cut-requires : goal.cut-requires
cut-requires g c =
    let p = process_of c.args.term.now in
    let bytes : c.deref.result.now ≡ spelling p = c.deref.ensures.value ∙ c.in_ok-bytes.ensures.spelled in
    subst (λ (bs : List ℕ). ArePlacesIn 0 (length bs) c.deref-2.result.now) (sym bytes)
    (subst (ArePlacesIn 0 (length (spelling p))) (sym c.deref-2.ensures.value) (rise_process p c.in_ok-places.places.items c.in_ok-places.ensures.count c.in_ok-places.ensures.runs))

pub returns : goal.returns
returns g c =
    let p = process_of c.args.term.now in
    let A = g.row.A.Denot in
    let bytes : c.deref.result.now ≡ spelling p = c.deref.ensures.value ∙ c.in_ok-bytes.ensures.spelled in
    by_call (λ (cut : Vec (Vec ℕ A) A). items_of cut.items ≡ cut_from 0 c.deref.result.now c.deref-2.result.now) (λ (cut : Vec (Vec ℕ A) A). items_of cut.items ≡ pieces (shape_of p)) c.cut.result
    (λ cut is. is ∙ ap₂ (λ (bs : List ℕ) (ps : List Place). cut_from 0 bs ps) bytes c.deref-2.ensures.value ∙ cut_process p c.in_ok-places.places.items c.in_ok-places.ensures.count c.in_ok-places.ensures.runs) c.cut.ensures
