use Rattle.std.proofs.Common.{◌≡◌, ◌≤◌, length, map}
use Rattle.theory_reader.specs.Forms.{FieldsBehind}
use Rattle.theory_reader.specs.Reader.{reads}
use Rattle.csp_parse.specs.Processes.{field_of, fields_given}
use Rattle.csp_parse.specs.Reading.{left_of, standing_of}
use Rattle.csp_parse.proofs.parsers.Parser.fields_behind.Given as goal

abbrev pub invariant-loop-self : goal.invariant-loop-self
invariant-loop-self g l = record {
  same : reads (FieldsBehind (fields_given l.fn.values.items)) (standing_of l.fn.self) ≡ reads (FieldsBehind (map field_of l.fields.items)) (standing_of l.self);
  not_longer : length (left_of l.self) ≤ length (left_of l.fn.self);
}

abbrev pub decreases-loop-self : goal.decreases-loop-self
decreases-loop-self g l = length (left_of l.self)
