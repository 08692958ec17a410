-- What is told of a process by what stands at its head.
use Rattle.std.proofs.Common.{◌≡◌, ◌+◌, ◌≤◌, nat_le, ◌&&◌, Bool, true, false, IsTrue, refl, ap, ◌∙◌, arith}
use Rattle.std.proofs.lemmas.Bool.{leb-true}
use Rattle.theory_syntax.specs.Process.{Process, Stop, Skip, Omega, Call, Prefix, Guard, If, ExternalChoice, InternalChoice, Sequential, Interleaving, Interrupt, GeneralisedParallel, AlphabetisedParallel, Hiding, Renaming, ReplicatedExternalChoice, ReplicatedInternalChoice, ReplicatedInterleaving, SlidingChoice}
use Rattle.theory_semantics.specs.Meaning.Limits.{depth, fits, max_depth, max_size, size}
use Rattle.theory_shapes.specs.Shape.{Composition, Interleaved, Generalised, Alphabetised, Frame, Hidden, Renamed, Composed, Framed, compose, enframe, holes}
use Rattle.theory_shapes.specs.Parts.{IsPart, shape_of}
use Rattle.theory_shapes.specs.Measures.{composition_size, frame_size, own_size}
use Rattle.theory_shapes.proofs.Apart.{by_shape, composed_shape, framed_shape}

pub composed_size : (c : Composition) (p q : Process) → size (compose c p q) ≡ 1 + (composition_size c + (size p + size q))
composed_size Interleaved p q = omega arith
composed_size (Generalised a) p q = omega arith
composed_size (Alphabetised a b) p q = omega arith

pub framed_size : (f : Frame) (p : Process) → size (enframe f p) ≡ 1 + (frame_size f + size p)
framed_size (Hidden a) p = omega arith
framed_size (Renamed rs) p = omega arith

pub some_size : (p : Process) → 1 ≤ size p
some_size Stop = omega arith
some_size Skip = omega arith
some_size Omega = omega arith
some_size (Call n es) = omega arith
some_size (Prefix c fs p) = omega arith
some_size (Guard e p) = omega arith
some_size (If e p q) = omega arith
some_size (ExternalChoice p q) = omega arith
some_size (InternalChoice p q) = omega arith
some_size (Sequential p q) = omega arith
some_size (Interleaving p q) = omega arith
some_size (Interrupt p q) = omega arith
some_size (GeneralisedParallel p a q) = omega arith
some_size (AlphabetisedParallel p a b q) = omega arith
some_size (Hiding p a) = omega arith
some_size (Renaming p rs) = omega arith
some_size (ReplicatedExternalChoice n e p) = omega arith
some_size (ReplicatedInternalChoice n e p) = omega arith
some_size (ReplicatedInterleaving n e p) = omega arith
some_size (SlidingChoice p q) = omega arith

-- a process is at least as large as it has holes
pub at_least_holes : (p : Process) → holes (shape_of p) ≤ size p
at_least_holes =
    by_shape (λ p. holes (shape_of p) ≤ size p) (λ p hole only. let e = ap holes hole in let one = some_size p in omega (arith, e, one))
    (λ c p q first second. let e = ap holes (composed_shape c p q) in let s = composed_size c p q in omega (arith, e, s, first, second))
    (λ f p only. let e = ap holes (framed_shape f p) in let s = framed_size f p in omega (arith, e, s, only))

-- ---- its shape

pub composed_head : (p : Process) (c : Composition) (l r : Process) → p ≡ compose c l r → shape_of p ≡ Composed c (shape_of l) (shape_of r)
composed_head p c l r is = ap shape_of is ∙ composed_shape c l r

pub framed_head : (p : Process) (f : Frame) (b : Process) → p ≡ enframe f b → shape_of p ≡ Framed f (shape_of b)
framed_head p f b is = ap shape_of is ∙ framed_shape f b

pub part_own : (p : Process) → IsPart p → own_size (shape_of p) ≡ 0
part_own p is = ap own_size is

pub composed_own : (p : Process) (c : Composition) (l r : Process) → p ≡ compose c l r → own_size (shape_of p) ≡ 1 + (composition_size c + (own_size (shape_of l) + own_size (shape_of r)))
composed_own p c l r is = ap own_size (composed_head p c l r is)

pub framed_own : (p : Process) (f : Frame) (b : Process) → p ≡ enframe f b → own_size (shape_of p) ≡ 1 + (frame_size f + own_size (shape_of b))
framed_own p f b is = ap own_size (framed_head p f b is)

pub composed_larger : (p : Process) (c : Composition) (l r : Process) → p ≡ compose c l r → 1 + (size l + size r) ≤ size p
composed_larger p c l r is = let e = ap size is ∙ composed_size c l r in omega (arith, e)

-- ---- within the limits

first_true : (a b : Bool) → a && b ≡ true → a ≡ true
first_true true b e = refl
first_true false b e = absurd (cc e)

pub small_size : (p : Process) → IsTrue (fits p) → size p ≤ 2000
small_size p e = leb-true (size p) max_size (first_true (nat_le (size p) max_size) (nat_le (depth p) max_depth) e)

at_least_own : (p : Process) → own_size (shape_of p) ≤ size p
at_least_own =
    by_shape (λ p. own_size (shape_of p) ≤ size p) (λ p part only. let e = part_own p part in omega (arith, e))
    (λ c p q first second. let e = composed_own (compose c p q) c p q refl in let s = composed_size c p q in omega (arith, e, s, first, second))
    (λ f p only. let e = framed_own (enframe f p) f p refl in let s = framed_size f p in omega (arith, e, s, only))

pub small_own : (p : Process) → IsTrue (fits p) → own_size (shape_of p) ≤ 2000
small_own p within = let small = small_size p within in let own = at_least_own p in omega (arith, small, own)
