-- A term has no fewer nodes than holes, and changes are of no more.
use Rattle.std.proofs.Common.{◌≡◌, ◌≤◌, ℕ, ◌+◌, suc, nat_le, true, List, [], ◌∷◌, length, arith}
use Rattle.std.proofs.lemmas.Bool.{and_parts, leb-true}
use Rattle.theory_syntax.specs.Process.{Process, Stop, Skip, Omega, Call, Prefix, Guard, If, ExternalChoice, InternalChoice, Sequential, Interleaving, Interrupt, GeneralisedParallel, AlphabetisedParallel, Hiding, Renaming, ReplicatedExternalChoice, ReplicatedInternalChoice, ReplicatedInterleaving, SlidingChoice}
use Rattle.theory_semantics.specs.Meaning.Limits.{depth, fits, max_depth, max_size, size}
use Rattle.theory_shapes.specs.Changes as pure
use Rattle.theory_shapes.specs.Shape.{Composed, Framed, Generalised, Alphabetised, Hidden, Hole, Interleaved, Renamed, Shape, fill, fill_from, holes, part_at}
use Rattle.csp_rows.specs.declared.changes.Change.{Change}
use Rattle.csp_rows.specs.Numbering.{Numbering}
use Rattle.csp_rows.specs.Runs.{changes_in}

counts : (p : Process) → 1 ≤ size p
counts Stop = omega arith
counts Skip = omega arith
counts Omega = omega arith
counts (Call n es) = omega arith
counts (Prefix c fs p) = omega arith
counts (Guard e p) = omega arith
counts (If e p q) = omega arith
counts (ExternalChoice p q) = omega arith
counts (InternalChoice p q) = omega arith
counts (Sequential p q) = omega arith
counts (Interleaving p q) = omega arith
counts (Interrupt p q) = omega arith
counts (GeneralisedParallel p a q) = omega arith
counts (AlphabetisedParallel p a b q) = omega arith
counts (Hiding p a) = omega arith
counts (Renaming p rs) = omega arith
counts (ReplicatedExternalChoice n e p) = omega arith
counts (ReplicatedInternalChoice n e p) = omega arith
counts (ReplicatedInterleaving n e p) = omega arith
counts (SlidingChoice p q) = omega arith

holes_count : (n : ℕ) (s : Shape) (ps : List Process) → holes s ≤ size (fill_from n s ps)
holes_count n Hole ps = counts (part_at ps n)
holes_count n (Composed Interleaved l r) ps = let left = holes_count n l ps in let right = holes_count (n + holes l) r ps in omega (arith, left, right)
holes_count n (Composed (Generalised a) l r) ps = let left = holes_count n l ps in let right = holes_count (n + holes l) r ps in omega (arith, left, right)
holes_count n (Composed (Alphabetised a b) l r) ps = let left = holes_count n l ps in let right = holes_count (n + holes l) r ps in omega (arith, left, right)
holes_count n (Framed (Hidden a) s) ps = let body = holes_count n s ps in omega (arith, body)
holes_count n (Framed (Renamed rs) s) ps = let body = holes_count n s ps in omega (arith, body)

changes_count : (z : Numbering) (n m : ℕ) (cs : List Change) → pure.RiseWithin n m (changes_in z cs) → n + length cs ≤ m
changes_count z n m [] rise = omega (arith, rise)
changes_count z n m (c ∷ cs) rise = let on = rise.0 in let more = changes_count z (suc c.hole) m cs rise.1 in omega (arith, on, more)

-- so changes of a term within the limits are few
pub few_changes : (z : Numbering) (s : Shape) (ps : List Process) (cs : List Change) → fits (fill s ps) ≡ true → pure.RiseWithin 0 (holes s) (changes_in z cs) → length cs ≤ max_size
few_changes z s ps cs fit rise =
    let all = holes_count 0 s ps in
    let few : size (fill s ps) ≤ max_size = leb-true (size (fill s ps)) max_size (and_parts (nat_le (size (fill s ps)) max_size) (nat_le (depth (fill s ps)) max_depth) fit).0 in
    let changes = changes_count z 0 (holes s) cs rise in
    omega (arith, all, few, changes)
