use Rattle.csp_inference.proofs.AskingScripts.{NamesLeft}
use Rattle.csp_inference.proofs.items.number_parameters.Given as goal

abbrev pub invariant-loop-index : goal.invariant-loop-index
invariant-loop-index g l = NamesLeft l.names.items l.parameters l.numbers l.index
