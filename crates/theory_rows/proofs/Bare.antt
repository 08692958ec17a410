-- A shape is known by one term.
use Rattle.std.proofs.Common.{◌≡◌, ◌≤◌, ◌+◌, ◌∙◌, ℕ, zero, suc, List, [], refl, sym, ap, ap₂, subst, arith}
use Rattle.std.specs.Prelude.{IsTrue}
use Rattle.theory_syntax.specs.Process.{Process, Stop, Skip, Omega, Call, Prefix, Guard, If, ExternalChoice, InternalChoice, Sequential, Interleaving, Interrupt, GeneralisedParallel, AlphabetisedParallel, Hiding, Renaming, ReplicatedExternalChoice, ReplicatedInternalChoice, ReplicatedInterleaving, SlidingChoice}
use Rattle.theory_semantics.specs.Meaning.Limits.{depth, fits, size}
use Rattle.theory_semantics.proofs.Sizes.{fits_part}
use Rattle.theory_spelling.specs.Spellable.{IsSpellable}
use Rattle.theory_shapes.specs.Operators.{IsSpellableShape}
use Rattle.theory_shapes.specs.Parts.{parts_of, shape_of}
use Rattle.theory_shapes.specs.Shape.{Interleaved, Generalised, Alphabetised, Hidden, Renamed, Shape, Hole, Composed, Framed, fill_from, holes, part_at}
use Rattle.theory_shapes.proofs.Apart.{filled_again}
use Rattle.csp_rows.proofs.RowsOfParts.{shape_spellable}
use Rattle.theory_rows.specs.Bare.{bare}

stop_at : (n : ℕ) → part_at [] n ≡ Stop
stop_at zero = refl
stop_at (suc n) = refl

-- ---- its shape

shape_again : (n : ℕ) (s : Shape) → shape_of (fill_from n s []) ≡ s
shape_again n Hole = ap shape_of (stop_at n)
shape_again n (Composed Interleaved l r) = ap₂ (λ (x y : Shape). Composed Interleaved x y) (shape_again n l) (shape_again (n + holes l) r)
shape_again n (Composed (Generalised a) l r) = ap₂ (λ (x y : Shape). Composed (Generalised a) x y) (shape_again n l) (shape_again (n + holes l) r)
shape_again n (Composed (Alphabetised a b) l r) = ap₂ (λ (x y : Shape). Composed (Alphabetised a b) x y) (shape_again n l) (shape_again (n + holes l) r)
shape_again n (Framed (Hidden a) s) = ap (λ (x : Shape). Framed (Hidden a) x) (shape_again n s)
shape_again n (Framed (Renamed rs) s) = ap (λ (x : Shape). Framed (Renamed rs) x) (shape_again n s)

pub bare_shape : (s : Shape) → shape_of (bare s) ≡ s
bare_shape s = shape_again 0 s

pub one_bare : (s q : Shape) → bare s ≡ bare q → s ≡ q
one_bare s q same = sym (bare_shape s) ∙ ap shape_of same ∙ bare_shape q

-- ---- its measures

least : (p : Process) → (1 ≤ size p) × (1 ≤ depth p)
least Stop = (omega arith, omega arith)
least Skip = (omega arith, omega arith)
least Omega = (omega arith, omega arith)
least (Call n es) = (omega arith, omega arith)
least (Prefix c fs p) = (omega arith, omega arith)
least (Guard e p) = (omega arith, omega arith)
least (If e p q) = (omega arith, omega arith)
least (ExternalChoice p q) = (omega arith, omega arith)
least (InternalChoice p q) = (omega arith, omega arith)
least (Sequential p q) = (omega arith, omega arith)
least (Interleaving p q) = (omega arith, omega arith)
least (Interrupt p q) = (omega arith, omega arith)
least (GeneralisedParallel p a q) = (omega arith, omega arith)
least (AlphabetisedParallel p a b q) = (omega arith, omega arith)
least (Hiding p a) = (omega arith, omega arith)
least (Renaming p rs) = (omega arith, omega arith)
least (ReplicatedExternalChoice n e p) = (omega arith, omega arith)
least (ReplicatedInternalChoice n e p) = (omega arith, omega arith)
least (ReplicatedInterleaving n e p) = (omega arith, omega arith)
least (SlidingChoice p q) = (omega arith, omega arith)

-- no larger and no deeper
abbrev Below : Process → Process → Type 0
Below p q = (size p ≤ size q) × (depth p ≤ depth q)

below_all : (p q : Process) → p ≡ Stop → Below p q
below_all p q is =
    let few = ap size is in
    let flat = ap depth is in
    let some = least q in
    (omega (arith, few, some.0), omega (arith, flat, some.1))

below : (n : ℕ) (s : Shape) (parts : List Process) → Below (fill_from n s []) (fill_from n s parts)
below n Hole parts = below_all (part_at [] n) (part_at parts n) (stop_at n)
below n (Composed Interleaved l r) parts =
    let first = below n l parts in
    let second = below (n + holes l) r parts in
    (omega (arith, first.0, second.0), omega (arith, first.1, second.1))
below n (Composed (Generalised a) l r) parts =
    let first = below n l parts in
    let second = below (n + holes l) r parts in
    (omega (arith, first.0, second.0), omega (arith, first.1, second.1))
below n (Composed (Alphabetised a b) l r) parts =
    let first = below n l parts in
    let second = below (n + holes l) r parts in
    (omega (arith, first.0, second.0), omega (arith, first.1, second.1))
below n (Framed (Hidden a) s) parts = let only = below n s parts in (omega (arith, only.0), omega (arith, only.1))
below n (Framed (Renamed rs) s) parts = let only = below n s parts in (omega (arith, only.0), omega (arith, only.1))

pub bare_fits : (p : Process) → IsTrue (fits p) → IsTrue (fits (bare (shape_of p)))
bare_fits p small =
    let again = filled_again p in
    let no_more = below 0 (shape_of p) (parts_of p) in
    let sizes = ap size again in
    let depths = ap depth again in
    fits_part (bare (shape_of p)) p (omega (arith, no_more.0, sizes)) (omega (arith, no_more.1, depths)) small

-- ---- its spelling

spellable_again : (n : ℕ) (s : Shape) → IsSpellableShape s → IsSpellable (fill_from n s [])
spellable_again n Hole h = subst IsSpellable (sym (stop_at n)) tt
spellable_again n (Composed Interleaved l r) h = (spellable_again n l h.1, spellable_again (n + holes l) r h.2)
spellable_again n (Composed (Generalised a) l r) h = (spellable_again n l h.1, h.0, spellable_again (n + holes l) r h.2)
spellable_again n (Composed (Alphabetised a b) l r) h = (spellable_again n l h.1, h.0.0, h.0.1, spellable_again (n + holes l) r h.2)
spellable_again n (Framed (Hidden a) s) h = (spellable_again n s h.1, h.0)
spellable_again n (Framed (Renamed rs) s) h = (spellable_again n s h.1, h.0)

pub bare_spellable : (p : Process) → IsSpellable p → IsSpellable (bare (shape_of p))
bare_spellable p spellable = spellable_again 0 (shape_of p) (shape_spellable p spellable)
