use Rattle.std.proofs.Common.{◌≡◌, ◌<◌, ◌+◌, ℕ, List, ◌∷◌, ◌++◌, length, get_or, drop, map, ap, add-one, drop-cons}
use Rattle.std.proofs.lemmas.List.{drop_all}
use Rattle.std.specs.Prelude.{codes}
use Rattle.std.specs.String.{string_bytes}
use Rattle.csp_moves.specs.Passage.{side_of}
use Rattle.csp_moves.specs.declared.passage.Side.{Side}
use Rattle.theory_explanation.specs.Legend.{side_text, way_behind}
use Rattle.csp_print.proofs.Writing.{comes_to_end, goes_on}
use Rattle.counterexample.proofs.ways.push_sides_behind.Goals as goal

abbrev texts : List Side → List ℕ
texts way = way_behind (map side_of way)

-- the sides from the place on
sides_left : (way : List Side) (i : ℕ) (d : Side) → i < length way → texts (drop i way) ≡ codes "." ++ (side_text (side_of (get_or way i d)) ++ texts (drop (i + 1) way))
sides_left way i d low = let first : drop i way ≡ get_or way i d ∷ drop (i + 1) way = rw add-one (drop-cons way i d low) in ap texts first

pub loop-side-preserved : goal.loop-side-preserved
loop-side-preserved g c =
    let way = c.args.way.now in
    let i = c.loop-side.side-index in
    goes_on (string_bytes c.loop-side.text) (string_bytes c.push_mark.new.text) (string_bytes c.push_side.new.text) (codes ".") _
    (texts (drop i way)) (texts (drop (i + 1) way)) (string_bytes c.args.text.now ++ texts way) c.loop-side.invariant (sides_left way i _ c.loop-side-test.true) c.in_ok-push_mark.ensures c.in_ok-push_side.ensures

pub returns : goal.returns
returns g c =
    let way = c.args.way.now in
    comes_to_end (string_bytes c.args.text.now) (string_bytes c.loop-side.text) (texts (drop c.loop-side.side-index way)) (texts way)
    c.loop-side.invariant (ap texts (drop_all c.loop-side.side-index way c.loop-side-test.false))
