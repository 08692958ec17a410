-- The size and the depth of a term, by its shape and its parts.
use Rattle.std.specs.Prelude.{ℕ, suc, ◌+◌, ◌≤◌, max, get_or, List, [], ◌∷◌, ◌++◌, map}
use Rattle.std.specs.List.{AllByRecursion, sum_by}
use Rattle.theory_syntax.specs.Process.{Process}
use Rattle.theory_semantics.specs.Meaning.Limits.{depth, event_set_depth, event_set_size, max_depth, pairs_depth, pairs_size, size}
use Rattle.theory_shapes.specs.Shape.{Composition, Interleaved, Generalised, Alphabetised, Frame, Hidden, Renamed, Shape, Hole, Composed, Framed, part_at}
use Rattle.theory_shapes.specs.Changes.{Change}

-- ---- what the sets and the renaming of an operator measure

abbrev pub composition_size : Composition → ℕ
composition_size Interleaved = 0
composition_size (Generalised a) = event_set_size a
composition_size (Alphabetised a b) = event_set_size a + event_set_size b

abbrev pub frame_size : Frame → ℕ
frame_size (Hidden a) = event_set_size a
frame_size (Renamed rs) = pairs_size rs

abbrev pub composition_depth : Composition → ℕ
composition_depth Interleaved = 0
composition_depth (Generalised a) = event_set_depth a
composition_depth (Alphabetised a b) = max (event_set_depth a) (event_set_depth b)

abbrev pub frame_depth : Frame → ℕ
frame_depth (Hidden a) = event_set_depth a
frame_depth (Renamed rs) = pairs_depth rs

-- ---- what a shape measures without its parts

abbrev pub own_size : Shape → ℕ
own_size Hole = 0
own_size (Composed c l r) = 1 + (composition_size c + (own_size l + own_size r))
own_size (Framed f s) = 1 + (frame_size f + own_size s)

abbrev pub own_depth : Shape → ℕ
own_depth Hole = 0
own_depth (Composed c l r) = 1 + max (composition_depth c) (max (own_depth l) (own_depth r))
own_depth (Framed f s) = 1 + max (frame_depth f) (own_depth s)

-- how many operators stand over each hole
abbrev pub levels : Shape → List ℕ
levels Hole = 0 ∷ []
levels (Composed c l r) = map suc (levels l ++ levels r)
levels (Framed f s) = map suc (levels s)

-- ---- its parts

-- the depth of the part that reaches deepest, each under so many operators
abbrev pub deepest : List ℕ → List Process → ℕ
deepest [] parts = 0
deepest (k ∷ ks) [] = 0
deepest (k ∷ ks) (p ∷ ps) = max (k + depth p) (deepest ks ps)

-- what the new parts measure, and what those measure whose places they take
abbrev pub size_put_in : List Change → ℕ
size_put_in cs = sum_by (λ c. size c.part) cs

abbrev pub size_taken_out : List Process → List Change → ℕ
size_taken_out parts cs = sum_by (λ c. size (part_at parts c.hole)) cs

-- no new part reaches too deep
abbrev pub AreShallow : Shape → List Change → Type 0
AreShallow s cs = AllByRecursion (λ c. get_or (levels s) c.hole 0 + depth c.part ≤ max_depth) cs
