-- What a move leads to, taken apart.
use Rattle.std.proofs.Common.{◌≡◌, ℕ, ◌+◌, ◌<◌, List, length, take, drop, refl, sym, ap, ap₂, subst, ◌∙◌, arith}
use Rattle.std.specs.List.{AllByRecursion}
use Rattle.std.proofs.lemmas.List.{get_or-drop, get_or-take, length-append, length-drop, length-take}
use Rattle.theory_syntax.specs.Process.{Process, Stop}
use Rattle.theory_shapes.specs.Shape.{compose, enframe, Shape, Hole, Composed, Framed, holes, part_at, fill}
use Rattle.theory_shapes.specs.Moves.{Move, Rests, Becomes, Both, Inside, moved_from}
use Rattle.theory_shapes.specs.Parts.{IsPart, parts_of, shape_of}
use Rattle.theory_shapes.proofs.Apart.{as_many, filled_again, only_parts, one_way}
use Rattle.theory_shapes.proofs.Segments.{all_append, all_split, filled_alike, filled_both}
use Rattle.theory_rows.specs.Grafts.{parts_to, shape_to}

-- the parts are the same where the holes are
abbrev AreAlike : ℕ → ℕ → ℕ → List Process → List Process → Type 0
AreAlike k n m ps qs = (i : ℕ) → i < k → part_at ps (n + i) ≡ part_at qs (m + i)

alike_behind : (k j n m : ℕ) (ps qs : List Process) → AreAlike (k + j) n m ps qs → AreAlike j (n + k) (m + k) ps qs
alike_behind k j n m ps qs same i lt =
    subst (λ (a : ℕ). part_at ps a ≡ part_at qs (m + k + i)) (omega arith) (subst (λ (a : ℕ). part_at ps (n + (k + i)) ≡ part_at qs a) (omega arith) (same (k + i) (omega (arith, lt))))

moved_alike : (d : Move) (n m : ℕ) (s : Shape) (ps qs : List Process) → AreAlike (holes s) n m ps qs → moved_from d n s ps ≡ moved_from d m s qs
moved_alike Rests n m s ps qs same = filled_alike n m s ps qs same
moved_alike (Becomes p) n m s ps qs same = refl
moved_alike (Both d e) n m (Composed c l r) ps qs same =
    ap₂ (compose c) (moved_alike d n m l ps qs (λ i lt. same i (omega (arith, lt)))) (moved_alike e (n + holes l) (m + holes l) r ps qs (alike_behind (holes l) (holes r) n m ps qs same))
moved_alike (Both d e) n m Hole ps qs same = filled_alike n m Hole ps qs same
moved_alike (Both d e) n m (Framed f s) ps qs same = filled_alike n m (Framed f s) ps qs same
moved_alike (Inside d) n m (Framed f s) ps qs same = ap (enframe f) (moved_alike d n m s ps qs same)
moved_alike (Inside d) n m Hole ps qs same = filled_alike n m Hole ps qs same
moved_alike (Inside d) n m (Composed c l r) ps qs same = filled_alike n m (Composed c l r) ps qs same

abbrev IsTo : Move → Shape → List Process → Type 0
IsTo d s parts = (length (parts_to d s parts) ≡ holes (shape_to d s)) × (moved_from d 0 s parts ≡ fill (shape_to d s) (parts_to d s parts))

pub to_move : (d : Move) (s : Shape) (parts : List Process) → length parts ≡ holes s → IsTo d s parts
to_move Rests s parts long = (long, refl)
to_move (Becomes p) s parts long = (as_many p, sym (filled_again p))
to_move (Both d e) (Composed c l r) parts long =
    let k = holes l in
    let ps = take k parts in
    let qs = drop k parts in
    let first = to_move d l ps (omega (arith, length-take k parts, long)) in
    let second = to_move e r qs (omega (arith, length-drop k parts, long)) in
    let left : moved_from d 0 l parts ≡ moved_from d 0 l ps =
    moved_alike d 0 0 l parts ps (λ i lt. let h : i < k = lt in sym (get_or-take k parts (0 + i) Stop (omega (arith, h))))
    in
    let right : moved_from e (0 + k) r parts ≡ moved_from e 0 r qs =
    moved_alike e (0 + k) 0 r parts qs (λ i lt. ap (part_at parts) (omega arith) ∙ sym (get_or-drop k parts (0 + i) Stop))
    in (
      length-append (parts_to d l ps) (parts_to e r qs) ∙ ap₂ ◌+◌ first.0 second.0,
      ap₂ (compose c) (left ∙ first.1) (right ∙ second.1) ∙ sym (filled_both c (shape_to d l) (shape_to e r) (parts_to d l ps) (parts_to e r qs) first.0 second.0),
    )
to_move (Both d e) Hole parts long = (long, refl)
to_move (Both d e) (Framed f s) parts long = (long, refl)
to_move (Inside d) (Framed f s) parts long = let only = to_move d s parts long in (only.0, ap (enframe f) only.1)
to_move (Inside d) Hole parts long = (long, refl)
to_move (Inside d) (Composed c l r) parts long = (long, refl)

pub to_parts : (d : Move) (s : Shape) (parts : List Process) → AllByRecursion IsPart parts → AllByRecursion IsPart (parts_to d s parts)
to_parts Rests s parts all = all
to_parts (Becomes p) s parts all = only_parts p
to_parts (Both d e) (Composed c l r) parts all =
    let k = holes l in
    let split = all_split IsPart k parts all in
    all_append IsPart (parts_to d l (take k parts)) (parts_to e r (drop k parts)) (to_parts d l (take k parts) split.0) (to_parts e r (drop k parts) split.1)
to_parts (Both d e) Hole parts all = all
to_parts (Both d e) (Framed f s) parts all = all
to_parts (Inside d) (Framed f s) parts all = to_parts d s parts all
to_parts (Inside d) Hole parts all = all
to_parts (Inside d) (Composed c l r) parts all = all

pub to_apart : (d : Move) (s : Shape) (parts : List Process) → length parts ≡ holes s → AllByRecursion IsPart parts → (shape_of (moved_from d 0 s parts) ≡ shape_to d s) × (parts_of (moved_from d 0 s parts) ≡ parts_to d s parts)
to_apart d s parts long all =
    let is = to_move d s parts long in
    let only = one_way (shape_to d s) (parts_to d s parts) is.0 (to_parts d s parts all) in
    (ap shape_of is.1 ∙ only.0, ap parts_of is.1 ∙ only.1)
