use Rattle.std.proofs.Common.{refl}
use Rattle.csp_term.specs.Script.{assertion_of, script_of_parts}
use Rattle.csp_inference.specs.Numbering.{numbering_of}
use Rattle.csp_inference.specs.Questions.Items.{lent_process}
use Rattle.csp_inference.proofs.AskingScripts.{asked_assertion}
use Rattle.csp_inference.proofs.equations.Equations.ask_assertion.Goals as goal

pub returns : goal.returns
returns g c =
    asked_assertion (script_of_parts c.args.script.now) (numbering_of c.args.numbering.now) c.args.self.now c.ask_specification.new.self c.ask_process.new.self
    (assertion_of c.args.assertion.now) (lent_process c.specification.result) _ c.specification.ensures refl c.in_ok-ask_specification.ensures c.in_ok-ask_process.ensures
