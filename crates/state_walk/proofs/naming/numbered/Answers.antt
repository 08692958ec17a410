-- A move has the number, or the next one may.
use Rattle.std.proofs.Common.{◌+◌, drop, sym, ◌∙◌}
use Rattle.std.proofs.lemmas.List.{drop_all}
use Rattle.theory_walk.specs.Answers.{numbered}
use Rattle.state_walk.specs.Walks.{moves_listed}
use Rattle.state_walk.proofs.Choosing.{no_place, place_found, place_passed}
use Rattle.state_walk.proofs.naming.numbered.Goals as goal

pub returns-then-is_it : goal.returns-then-is_it
returns-then-is_it g c =
    let moves = c.args.moves.now in
    place_found moves c.loop-place.place c.args.text.now c.loop-place-test.true (numbered 1 (moves_listed moves) c.args.text.now) (sym c.in_ok-is_it.ensures ∙ c.if-is_it.true) c.loop-place.invariant

pub loop-place-preserved : goal.loop-place-preserved
loop-place-preserved g c =
    let moves = c.args.moves.now in
    place_passed moves c.loop-place.place c.args.text.now c.loop-place-test.true (numbered 1 (moves_listed moves) c.args.text.now) (sym c.in_ok-is_it.ensures ∙ c.if-is_it.false) c.loop-place.invariant

pub returns : goal.returns
returns g c =
    let moves = c.args.moves.now in
    let i = c.loop-place.place in
    no_place moves (drop i moves) (i + 1) c.args.text.now (drop_all i moves c.loop-place-test.false) c.loop-place.invariant
