use Rattle.csp_inference.specs.Numbering.{numbering_of}
use Rattle.csp_inference.specs.State.{state_in}
use Rattle.csp_parse.specs.Declarations.{script_of}
use Rattle.csp_inference.proofs.OneMore.{known_in_a_row}
use Rattle.csp_inference.proofs.known_kinds.KnownKinds.new.Goals as goal

pub returns : goal.returns
returns g c =
    known_in_a_row (script_of c.args.raw.now) (numbering_of c.in_ok-numbering.numbering) c.in_ok-numbering.equations.next (state_in c.in_ok-numbering.equations.state) c.in_ok-numbering.ensures.numbers c.in_ok-numbering.ensures.next c.in_ok-numbering.ensures.known
