-- One way behind the other.
use Rattle.std.proofs.Common.{List, ◌++◌, map, ◌∙◌, ap}
use Rattle.std.proofs.lemmas.List.{map-append}
use Rattle.csp_moves.specs.Passage.{side_of}
use Rattle.csp_moves.specs.declared.passage.Side.{Side}
use Rattle.counterexample.proofs.ways.joined.Goals as goal

pub returns : goal.returns
returns g c =
    let other = c.args.other.now in
    ap (λ (w : List Side). map side_of w) (c.in_ok-extend_from_slice.ensures.items ∙ ap (λ (w : List Side). w ++ other) c.in_ok-whole.ensures.items) ∙ map-append side_of c.args.way.now other
