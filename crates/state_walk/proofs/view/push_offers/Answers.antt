-- Where there is no move, that is told.
use Rattle.std.proofs.Common.{◌∙◌}
use Rattle.std.specs.String.{string_bytes}
use Rattle.theory_explanation.specs.Legend.{legend}
use Rattle.csp_term.specs.Term.{process_of}
use Rattle.csp_print.specs.Names.{names_of}
use Rattle.csp_print.proofs.Writing.{alike}
use Rattle.counterexample.specs.PartNames.{part_names_listed}
use Rattle.state_walk.proofs.Viewing.{no_moves, some_moves}
use Rattle.state_walk.proofs.view.push_offers.Goals as goal

pub returns-then-is_empty : goal.returns-then-is_empty
returns-then-is_empty g c =
    let at = legend (names_of c.args.names.now) (part_names_listed c.args.parts.now) in
    alike c.push_mark.result (string_bytes c.args.text.now) (string_bytes c.push_mark.new.text) c.idle_line.result.now _
    (c.idle_line.ensures ∙ no_moves at (process_of c.args.state.now) c.args.moves.now c.if-is_empty.ensures) c.push_mark.ensures

pub returns : goal.returns
returns g c =
    let at = legend (names_of c.args.names.now) (part_names_listed c.args.parts.now) in
    alike c.push_moves.result (string_bytes c.args.text.now) (string_bytes c.push_moves.new.text) _ _
    (some_moves at (process_of c.args.state.now) c.args.moves.now c.if-is_empty.ensures) c.push_moves.ensures
