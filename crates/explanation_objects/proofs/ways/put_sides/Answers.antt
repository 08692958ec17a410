-- One side is put behind the other.
use Rattle.std.proofs.Common.{◌≡◌, ◌<◌, ◌+◌, ℕ, List, [], ◌∷◌, ◌++◌, length, get_or, drop, map, ap, add-one, drop-cons}
use Rattle.std.proofs.lemmas.List.{drop_all}
use Rattle.json.specs.Token.{Token, string}
use Rattle.theory_explanation.specs.Legend.{side_text}
use Rattle.csp_moves.specs.Passage.{side_of}
use Rattle.csp_moves.specs.declared.passage.Side.{Side}
use Rattle.explanation_objects.specs.Putting.{string_tokens}
use Rattle.explanation_objects.proofs.Putting.{comes_to_end, goes_on}
use Rattle.explanation_objects.proofs.ways.put_sides.Goals as goal

abbrev left : List Side → List Token
left way = string_tokens (map side_text (map side_of way))

-- the sides from the place on
sides_left : (way : List Side) (i : ℕ) (d : Side) → i < length way → left (drop i way) ≡ string (side_text (side_of (get_or way i d))) ∷ left (drop (i + 1) way)
sides_left way i d low = let first : drop i way ≡ get_or way i d ∷ drop (i + 1) way = rw add-one (drop-cons way i d low) in ap left first

pub loop-side-preserved : goal.loop-side-preserved
loop-side-preserved g c =
    let way = c.args.way.now in
    let i = c.loop-side.side-index in
    goes_on c.args.writer.now c.loop-side.writer c.put_side.new.writer _ (left (drop i way)) (left (drop (i + 1) way)) (left way) c.loop-side.invariant (sides_left way i _ c.loop-side-test.true) c.in_ok-put_side.ensures

pub returns : goal.returns
returns g c =
    let way = c.args.way.now in
    comes_to_end c.args.writer.now c.loop-side.writer (left (drop c.loop-side.side-index way)) (left way) c.loop-side.invariant (ap left (drop_all c.loop-side.side-index way c.loop-side-test.false))
