use Rattle.std.proofs.Common.{◌≡◌, ◌≤◌, length}
use Rattle.theory_reader.specs.Forms.{HiddenFrom}
use Rattle.theory_reader.specs.Reader.{reads}
use Rattle.csp_parse.specs.Processes.{process_in}
use Rattle.csp_parse.specs.Reading.{left_of, standing_of}
use Rattle.csp_parse.proofs.parsers.Parser.hidden.Given as goal

abbrev pub invariant-loop-self : goal.invariant-loop-self
invariant-loop-self g l = record {
  same : reads (HiddenFrom (process_in l.fn.renamed)) (standing_of l.fn.self) ≡ reads (HiddenFrom (process_in l.process)) (standing_of l.self);
  not_longer : length (left_of l.self) ≤ length (left_of l.fn.self);
}

abbrev pub decreases-loop-self : goal.decreases-loop-self
decreases-loop-self g l = length (left_of l.self)
