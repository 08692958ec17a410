-- A move makes another shape with other parts.
use Rattle.std.proofs.Common.{◌≡◌, ℕ, ◌+◌, ◌<◌, List, length, take, drop, refl, sym, ap, ap₂, subst, ◌∙◌, arith}
use Rattle.std.proofs.lemmas.List.{get_or-drop, get_or-take, length-append, length-drop, length-take}
use Rattle.theory_syntax.specs.Process.{Process, Stop}
use Rattle.theory_shapes.specs.Shape.{compose, enframe, Shape, Hole, Composed, Framed, holes, part_at, fill}
use Rattle.theory_shapes.specs.Moves.{Move, Rests, Becomes, Both, Inside, moved_from, shape_after, parts_after}
use Rattle.theory_shapes.proofs.Segments.{filled_alike, filled_both}

-- the parts are the same where the holes are
abbrev AreAlike : ℕ → ℕ → ℕ → List Process → List Process → Type 0
AreAlike k n m ps qs = (i : ℕ) → i < k → part_at ps (n + i) ≡ part_at qs (m + i)

alike_behind : (k j n m : ℕ) (ps qs : List Process) → AreAlike (k + j) n m ps qs → AreAlike j (n + k) (m + k) ps qs
alike_behind k j n m ps qs same i lt =
    subst (λ (a : ℕ). part_at ps a ≡ part_at qs (m + k + i)) (omega arith) (subst (λ (a : ℕ). part_at ps (n + (k + i)) ≡ part_at qs a) (omega arith) (same (k + i) (omega (arith, lt))))

moved_alike : (d : Move) (n m : ℕ) (s : Shape) (ps qs : List Process) → AreAlike (holes s) n m ps qs → moved_from d n s ps ≡ moved_from d m s qs
moved_alike Rests n m s ps qs same = filled_alike n m s ps qs same
moved_alike (Becomes p) n m s ps qs same = refl
moved_alike (Both d e) n m (Composed c l r) ps qs same =
    ap₂ (compose c) (moved_alike d n m l ps qs (λ i lt. same i (omega (arith, lt)))) (moved_alike e (n + holes l) (m + holes l) r ps qs (alike_behind (holes l) (holes r) n m ps qs same))
moved_alike (Both d e) n m Hole ps qs same = filled_alike n m Hole ps qs same
moved_alike (Both d e) n m (Framed f s) ps qs same = filled_alike n m (Framed f s) ps qs same
moved_alike (Inside d) n m (Framed f s) ps qs same = ap (enframe f) (moved_alike d n m s ps qs same)
moved_alike (Inside d) n m Hole ps qs same = filled_alike n m Hole ps qs same
moved_alike (Inside d) n m (Composed c l r) ps qs same = filled_alike n m (Composed c l r) ps qs same

abbrev IsAfter : Move → Shape → List Process → Type 0
IsAfter d s parts = (length (parts_after d s parts) ≡ holes (shape_after d s)) × (moved_from d 0 s parts ≡ fill (shape_after d s) (parts_after d s parts))

pub after_move : (d : Move) (s : Shape) (parts : List Process) → length parts ≡ holes s → IsAfter d s parts
after_move Rests s parts long = (long, refl)
after_move (Becomes p) s parts long = (refl, refl)
after_move (Both d e) (Composed c l r) parts long =
    let k = holes l in
    let ps = take k parts in
    let qs = drop k parts in
    let first = after_move d l ps (omega (arith, length-take k parts, long)) in
    let second = after_move e r qs (omega (arith, length-drop k parts, long)) in
    let left : moved_from d 0 l parts ≡ moved_from d 0 l ps =
    moved_alike d 0 0 l parts ps (λ i lt. let h : i < k = lt in sym (get_or-take k parts (0 + i) Stop (omega (arith, h))))
    in
    let right : moved_from e (0 + k) r parts ≡ moved_from e 0 r qs =
    moved_alike e (0 + k) 0 r parts qs (λ i lt. ap (part_at parts) (omega arith) ∙ sym (get_or-drop k parts (0 + i) Stop))
    in (
      length-append (parts_after d l ps) (parts_after e r qs) ∙ ap₂ ◌+◌ first.0 second.0,
      ap₂ (compose c) (left ∙ first.1) (right ∙ second.1) ∙ sym (filled_both c (shape_after d l) (shape_after e r) (parts_after d l ps) (parts_after e r qs) first.0 second.0),
    )
after_move (Both d e) Hole parts long = (long, refl)
after_move (Both d e) (Framed f s) parts long = (long, refl)
after_move (Inside d) (Framed f s) parts long = let only = after_move d s parts long in (only.0, ap (enframe f) only.1)
after_move (Inside d) Hole parts long = (long, refl)
after_move (Inside d) (Composed c l r) parts long = (long, refl)
