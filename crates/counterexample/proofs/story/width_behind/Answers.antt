-- Something of the path is left.
use Rattle.std.proofs.Common.{length, map, sym, arith}
use Rattle.std.proofs.lemmas.List.{length-map}
use Rattle.csp_value.specs.Action.{action_of}
use Rattle.theory_explanation.proofs.Folding.{width_left}
use Rattle.counterexample.specs.Widths.{width_of}
use Rattle.counterexample.proofs.story.width_behind.Goals as goal

pub returns-else-path-count : goal.returns-else-path-count
returns-else-path-count g c =
    let long = length-map c.args.path.now action_of in
    let more = c.if-path-count.false in
    sym (width_left (width_of c.args.width) c.args.count (map action_of c.args.path.now) (omega (arith, long, more)))
