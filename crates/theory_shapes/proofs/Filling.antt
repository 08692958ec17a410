-- What holds of a shape with parts in its holes, by its operators.
use Rattle.std.proofs.Common.{◌≡◌, List, [], ◌∷◌, ◌++◌, length, take, drop, subst, arith}
use Rattle.std.proofs.lemmas.List.{length-take, length-drop, take-append-drop}
use Rattle.theory_syntax.specs.Process.{Process}
use Rattle.theory_shapes.specs.Shape.{Composition, Frame, Shape, Hole, Composed, Framed, holes}

module _ (P : Shape → List Process → Type 0) (hole : (p : Process) → P Hole (p ∷ [])) (both : (c : Composition) (l r : Shape) (ps qs : List Process) → length ps ≡ holes l → length qs ≡ holes r → P l ps → P r qs → P (Composed c l r) (ps ++ qs))
    (only : (f : Frame) (s : Shape) (ps : List Process) → P s ps → P (Framed f s) ps) where
  pub by_filling : (s : Shape) (parts : List Process) → length parts ≡ holes s → P s parts
  by_filling Hole [] long = absurd (omega (arith, long))
  by_filling Hole (p ∷ []) long = hole p
  by_filling Hole (p ∷ q ∷ ps) long = absurd (omega (arith, long))
  by_filling (Composed c l r) parts long =
      let ps = take (holes l) parts in
      let qs = drop (holes l) parts in
      let few : length ps ≡ holes l = omega (arith, length-take (holes l) parts, long) in
      let rest : length qs ≡ holes r = omega (arith, length-drop (holes l) parts, long) in
      subst (P (Composed c l r)) (take-append-drop (holes l) parts) (both c l r ps qs few rest (by_filling l ps few) (by_filling r qs rest))
  by_filling (Framed f s) parts long = only f s parts (by_filling s parts long)
