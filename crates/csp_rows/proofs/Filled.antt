-- Shapes are ordered by the parts in their holes.
use Rattle.std.proofs.Common.{◌≡◌, List, [], ◌∷◌, ◌++◌, length, take, drop, refl, sym, ap, ap₂, subst, ◌∙◌, arith}
use Rattle.std.proofs.lemmas.List.{length-take, length-drop, take-append-drop}
use Rattle.std.specs.declared.cmp.Ordering.TheVariants.{Equal}
use Rattle.std.specs.Ordering.{ordering_then}
use Rattle.std.specs.Cmp.Lexicographic.{slice_cmp}
use Rattle.theory_syntax.specs.Order.{pair_cmp, process_cmp}
use Rattle.theory_syntax.specs.Process.{Process, Renaming, RenamingPair, Stop}
use Rattle.theory_syntax.proofs.ProcessOrder.{event_set_refl, process_refl}
use Rattle.theory_shapes.specs.Shape.{Composition, Interleaved, Generalised, Alphabetised, compose, Frame, Hidden, Renamed, enframe, Shape, Hole, Composed, holes, fill}
use Rattle.theory_shapes.proofs.Filling.{by_filling}
use Rattle.theory_shapes.proofs.Segments.{filled_both}
use Rattle.csp_rows.specs.OrderedTargets.{parts_cmp}
use Rattle.csp_rows.proofs.Slices.{both_slices, then_nothing}

-- ---- operators

composed_cmp : (c : Composition) (p q r s : Process) → process_cmp (compose c p q) (compose c r s) ≡ ordering_then (process_cmp p r) (process_cmp q s)
composed_cmp Interleaved p q r s = refl
composed_cmp (Generalised a) p q r s = ap (λ o. ordering_then (process_cmp p r) (ordering_then o (process_cmp q s))) (event_set_refl a)
composed_cmp (Alphabetised a b) p q r s =
    ap₂ (λ o u. ordering_then (process_cmp p r) (ordering_then o (ordering_then u (process_cmp q s)))) (event_set_refl a) (event_set_refl b)

pairs_itself : (rs : List RenamingPair) → slice_cmp pair_cmp rs rs ≡ Equal
pairs_itself rs = process_refl (Renaming Stop rs)

framed_cmp : (f : Frame) (p q : Process) → process_cmp (enframe f p) (enframe f q) ≡ process_cmp p q
framed_cmp (Hidden a) p q = ap (ordering_then (process_cmp p q)) (event_set_refl a) ∙ then_nothing (process_cmp p q)
framed_cmp (Renamed rs) p q = ap (ordering_then (process_cmp p q)) (pairs_itself rs) ∙ then_nothing (process_cmp p q)

-- ---- shapes

abbrev ByParts : Shape → List Process → List Process → Type 0
ByParts s ps qs = process_cmp (fill s ps) (fill s qs) ≡ parts_cmp ps qs

in_hole : (p : Process) (qs : List Process) → length qs ≡ 1 → ByParts Hole (p ∷ []) qs
in_hole p [] long = absurd (omega (arith, long))
in_hole p (q ∷ []) long = sym (then_nothing (process_cmp p q))
in_hole p (q ∷ r ∷ qs) long = absurd (omega (arith, long))

side_by_side : (c : Composition) (l r : Shape) (ps qs : List Process) → length ps ≡ holes l → length qs ≡ holes r → ((us : List Process) → length us ≡ holes l → ByParts l ps us) → ((vs : List Process) → length vs ≡ holes r → ByParts r qs vs)
    → (us : List Process) → length us ≡ holes (Composed c l r) → ByParts (Composed c l r) (ps ++ qs) us
side_by_side c l r ps qs few rest first second us long =
    let xs = take (holes l) us in
    let ys = drop (holes l) us in
    let fx : length xs ≡ holes l = omega (arith, length-take (holes l) us, long) in
    let fy : length ys ≡ holes r = omega (arith, length-drop (holes l) us, long) in
    subst (ByParts (Composed c l r) (ps ++ qs)) (take-append-drop (holes l) us)
    (ap₂ process_cmp (filled_both c l r ps qs few rest) (filled_both c l r xs ys fx fy)
    ∙ composed_cmp c (fill l ps) (fill r qs) (fill l xs) (fill r ys)
    ∙ ap₂ ordering_then (first xs fx) (second ys fy)
    ∙ sym (both_slices process_cmp ps xs qs ys (few ∙ sym fx)))

pub filled_cmp : (s : Shape) (ps : List Process) → length ps ≡ holes s → (qs : List Process) → length qs ≡ holes s → process_cmp (fill s ps) (fill s qs) ≡ parts_cmp ps qs
filled_cmp = by_filling (λ s ps. (qs : List Process) → length qs ≡ holes s → ByParts s ps qs) in_hole side_by_side (λ f s ps only qs long. framed_cmp f (fill s ps) (fill s qs) ∙ only qs long)
