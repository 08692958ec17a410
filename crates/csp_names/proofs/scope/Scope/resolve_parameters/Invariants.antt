use Rattle.std.proofs.Common.{map}
use Rattle.csp_parse.specs.Names.{name_of}
use Rattle.csp_names.proofs.Parameters.{ParametersSoFar}
use Rattle.csp_names.proofs.scope.Scope.resolve_parameters.Given as goal

abbrev pub invariant-loop-parameter : goal.invariant-loop-parameter
invariant-loop-parameter g l = ParametersSoFar l.self l.initial.bound l.bound (map name_of l.parameters) l.parameter-index l.names.items
