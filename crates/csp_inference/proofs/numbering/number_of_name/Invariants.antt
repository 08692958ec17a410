use Rattle.std.proofs.Common.{◌≡◌, drop}
use Rattle.theory_checking.specs.Inference.Equations.{number_of_name}
use Rattle.csp_inference.specs.Numbering.{names_of}
use Rattle.csp_inference.proofs.numbering.number_of_name.Given as goal

abbrev pub invariant-loop-named : goal.invariant-loop-named
invariant-loop-named l = number_of_name (names_of (drop l.named-index l.names)) l.name.0 ≡ number_of_name (names_of l.names) l.name.0
