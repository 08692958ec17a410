-- Terms are taken apart into one shape and one list of parts.
use Rattle.std.proofs.Common.{◌≡◌, ◌+◌, List, [], ◌∷◌, ◌++◌, length, take, drop, refl, sym, ap, ap₂, subst, ◌∙◌, arith}
use Rattle.std.specs.List.{AllByRecursion}
use Rattle.std.proofs.lemmas.List.{length-append, length-take, length-drop, take-append-drop}
use Rattle.theory_syntax.specs.Process.{Process, Interleaving, GeneralisedParallel, AlphabetisedParallel, Hiding, Renaming}
use Rattle.theory_shapes.specs.Shape.{Composition, Interleaved, Generalised, Alphabetised, compose, Frame, Hidden, Renamed, enframe, Shape, Hole, Composed, Framed, holes, fill}
use Rattle.theory_shapes.specs.Parts.{IsPart, parts_of, shape_of}
use Rattle.theory_shapes.proofs.Segments.{all_append, all_split, filled_both}

-- a term is a part, or composed of two, or framed
pub by_shape : (P : Process → Type 0) → ((p : Process) → IsPart p → parts_of p ≡ p ∷ [] → P p) → ((c : Composition) (p q : Process) → P p → P q → P (compose c p q)) → ((f : Frame) (p : Process) → P p → P (enframe f p)) → (p : Process) → P p
by_shape P alone two one (Interleaving p q) = two Interleaved p q (by_shape P alone two one p) (by_shape P alone two one q)
by_shape P alone two one (GeneralisedParallel p a q) = two (Generalised a) p q (by_shape P alone two one p) (by_shape P alone two one q)
by_shape P alone two one (AlphabetisedParallel p a b q) = two (Alphabetised a b) p q (by_shape P alone two one p) (by_shape P alone two one q)
by_shape P alone two one (Hiding p a) = one (Hidden a) p (by_shape P alone two one p)
by_shape P alone two one (Renaming p rs) = one (Renamed rs) p (by_shape P alone two one p)
by_shape P alone two one p = alone p refl refl

pub composed_shape : (c : Composition) (p q : Process) → shape_of (compose c p q) ≡ Composed c (shape_of p) (shape_of q)
composed_shape Interleaved p q = refl
composed_shape (Generalised a) p q = refl
composed_shape (Alphabetised a b) p q = refl

pub composed_parts : (c : Composition) (p q : Process) → parts_of (compose c p q) ≡ parts_of p ++ parts_of q
composed_parts Interleaved p q = refl
composed_parts (Generalised a) p q = refl
composed_parts (Alphabetised a b) p q = refl

pub framed_shape : (f : Frame) (p : Process) → shape_of (enframe f p) ≡ Framed f (shape_of p)
framed_shape (Hidden a) p = refl
framed_shape (Renamed rs) p = refl

pub framed_parts : (f : Frame) (p : Process) → parts_of (enframe f p) ≡ parts_of p
framed_parts (Hidden a) p = refl
framed_parts (Renamed rs) p = refl

pub as_many : (p : Process) → length (parts_of p) ≡ holes (shape_of p)
as_many =
    by_shape (λ p. length (parts_of p) ≡ holes (shape_of p))
    (λ p hole only. ap length only ∙ ap holes (sym hole))
    (λ c p q first second. ap length (composed_parts c p q) ∙ length-append (parts_of p) (parts_of q) ∙ ap₂ ◌+◌ first second ∙ ap holes (sym (composed_shape c p q)))
    (λ f p only. ap length (framed_parts f p) ∙ only ∙ ap holes (sym (framed_shape f p)))

pub filled_again : (p : Process) → fill (shape_of p) (parts_of p) ≡ p
filled_again =
    by_shape (λ p. fill (shape_of p) (parts_of p) ≡ p)
    (λ p hole only. ap₂ fill hole only)
    (λ c p q first second. ap₂ fill (composed_shape c p q) (composed_parts c p q) ∙ filled_both c (shape_of p) (shape_of q) (parts_of p) (parts_of q) (as_many p) (as_many q) ∙ ap₂ (compose c) first second)
    (λ f p only. ap₂ fill (framed_shape f p) (framed_parts f p) ∙ ap (enframe f) only)

pub only_parts : (p : Process) → AllByRecursion IsPart (parts_of p)
only_parts =
    by_shape (λ p. AllByRecursion IsPart (parts_of p))
    (λ p hole only. subst (AllByRecursion IsPart) (sym only) (hole, tt))
    (λ c p q first second. subst (AllByRecursion IsPart) (sym (composed_parts c p q)) (all_append IsPart (parts_of p) (parts_of q) first second))
    (λ f p only. subst (AllByRecursion IsPart) (sym (framed_parts f p)) only)

only_part : (p : Process) → IsPart p → parts_of p ≡ p ∷ []
only_part = by_shape (λ p. IsPart p → parts_of p ≡ p ∷ []) (λ p hole only is. only) (λ c p q first second is. absurd (let e = sym (composed_shape c p q) ∙ is in cc e)) (λ f p only is. absurd (let e = sym (framed_shape f p) ∙ is in cc e))

pub one_way : (s : Shape) (parts : List Process) → length parts ≡ holes s → AllByRecursion IsPart parts → (shape_of (fill s parts) ≡ s) × (parts_of (fill s parts) ≡ parts)
one_way Hole (p ∷ []) long are = (are.0, only_part p are.0)
one_way Hole [] long are = absurd (omega (arith, long))
one_way Hole (p ∷ q ∷ ps) long are = absurd (omega (arith, long))
one_way (Composed c l r) parts long are =
    let n = holes l in
    let ps = take n parts in
    let qs = drop n parts in
    let few : length ps ≡ n = omega (arith, length-take n parts, long) in
    let rest : length qs ≡ holes r = omega (arith, length-drop n parts, long) in
    let split = all_split IsPart n parts are in
    let first = one_way l ps few split.0 in
    let second = one_way r qs rest split.1 in
    let whole : fill (Composed c l r) parts ≡ compose c (fill l ps) (fill r qs) = ap (fill (Composed c l r)) (sym (take-append-drop n parts)) ∙ filled_both c l r ps qs few rest in (
      ap shape_of whole ∙ composed_shape c (fill l ps) (fill r qs) ∙ ap₂ (Composed c) first.0 second.0,
      ap parts_of whole ∙ composed_parts c (fill l ps) (fill r qs) ∙ ap₂ ◌++◌ first.1 second.1 ∙ take-append-drop n parts,
    )
one_way (Framed f s) parts long are =
    let only = one_way s parts long are in
    (framed_shape f (fill s parts) ∙ ap (Framed f) only.0, framed_parts f (fill s parts) ∙ only.1)
