use Rattle.std.proofs.Common.{length, map}
use Rattle.csp_parse.specs.Declarations.{declaration_of}
use Rattle.csp_parse.specs.Reading.{left_of, standing_of}
use Rattle.csp_parse.proofs.Scripts.{Leads}
use Rattle.csp_parse.proofs.parsers.Parser.script.Given as goal

abbrev pub invariant-script : goal.invariant-script
invariant-script g l = Leads (standing_of l.fn.self) (map declaration_of l.declarations.items) (standing_of l.self)

abbrev pub decreases-script : goal.decreases-script
decreases-script g l = length (left_of l.self)
