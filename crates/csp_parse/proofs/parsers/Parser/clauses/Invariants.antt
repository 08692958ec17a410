use Rattle.std.proofs.Common.{◌≡◌, ◌<◌, length, map}
use Rattle.theory_reader.specs.Forms.{OfClauses, ClausesBehind}
use Rattle.theory_reader.specs.Reader.{reads}
use Rattle.csp_parse.specs.Declarations.{clause_of}
use Rattle.csp_parse.specs.Reading.{left_of, standing_of}
use Rattle.csp_parse.proofs.parsers.Parser.clauses.Given as goal

abbrev pub invariant-loop-self : goal.invariant-loop-self
invariant-loop-self g l = record {
  same : reads OfClauses (standing_of l.fn.self) ≡ reads (ClausesBehind (map clause_of l.clauses.items)) (standing_of l.self);
  shorter : length (left_of l.self) < length (left_of l.fn.self);
}

abbrev pub decreases-loop-self : goal.decreases-loop-self
decreases-loop-self g l = length (left_of l.self)
