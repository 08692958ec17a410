-- One line after the other.
use Rattle.std.proofs.Common.{◌≡◌, ◌+◌, ◌∷◌, ◌++◌, [], ℕ, suc, List, drop, option_map, sym, ◌∙◌, ap, arith, add-one, drop-cons}
use Rattle.std.proofs.lemmas.List.{drop_all}
use Rattle.std.specs.String.{string_bytes}
use Rattle.theory_explanation.specs.Legend.{legend}
use Rattle.theory_explanation.specs.Steps.{step_line}
use Rattle.theory_walk.specs.Views.{move_lines}
use Rattle.csp_value.specs.Action.{action_of}
use Rattle.csp_moves.specs.Origin.{origin_of}
use Rattle.csp_print.specs.Names.{names_of}
use Rattle.csp_print.proofs.Writing.{comes_to_end, goes_on_bare}
use Rattle.counterexample.specs.PartNames.{part_names_listed}
use Rattle.state_walk.specs.Walks.{moves_listed}
use Rattle.state_walk.specs.declared.menu.Move.{Move}
use Rattle.state_walk.proofs.view.push_moves.Goals as goal

pub loop-place-preserved : goal.loop-place-preserved
loop-place-preserved g c =
    let moves = c.args.moves.now in
    let i = c.loop-place.place in
    let m = c.index-moves-place.result in
    let at = legend (names_of c.args.names.now) (part_names_listed c.args.parts.now) in
    let texts = λ (n : ℕ) (ms : List (Move g.row.A.Denot)). move_lines at n (moves_listed ms) in
    let line = step_line at (i + 1) (action_of m.action) (option_map origin_of m.origin) [] in
    let first : drop i moves ≡ m ∷ drop (i + 1) moves =
    rw add-one (drop-cons moves i m c.loop-place-test.true ∙ ap (λ ms. ms ∷ drop (suc i) moves) (sym c.index-moves-place.is)) in
    let next : suc (i + 1) ≡ i + 1 + 1 = omega arith in
    goes_on_bare (string_bytes c.loop-place.text) (string_bytes c.push_step.new.text) line
    (texts (i + 1) (drop i moves)) (texts (i + 1 + 1) (drop (i + 1) moves)) (string_bytes c.args.text.now ++ texts 1 moves) c.loop-place.invariant
    (ap (texts (i + 1)) first ∙ ap (λ n. line ++ texts n (drop (i + 1) moves)) next) c.in_ok-push_step.ensures

pub returns : goal.returns
returns g c =
    let moves = c.args.moves.now in
    let i = c.loop-place.place in
    let at = legend (names_of c.args.names.now) (part_names_listed c.args.parts.now) in
    let texts = λ (n : ℕ) (ms : List (Move g.row.A.Denot)). move_lines at n (moves_listed ms) in
    comes_to_end (string_bytes c.args.text.now) (string_bytes c.loop-place.text) (texts (i + 1) (drop i moves)) (texts 1 moves)
    c.loop-place.invariant (ap (texts (i + 1)) (drop_all i moves c.loop-place-test.false))
