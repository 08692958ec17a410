use Rattle.std.proofs.Common.{◌≡◌, ◌++◌, length, drop}
use Rattle.theory_shapes.specs.Edits.{edited}
use Rattle.csp_rows.specs.Places.{RiseUpTo, edits_of}
use Rattle.csp_rows.proofs.places.target.Given as goal

abbrev pub invariant-loop-change : goal.invariant-loop-change
invariant-loop-change g l = record {
  rise : RiseUpTo l.copied (length l.bytes) (edits_of l.places l.parts (drop l.change-index l.changes));
  made : l.target.items ++ edited l.bytes l.copied (edits_of l.places l.parts (drop l.change-index l.changes)) ≡ edited l.bytes 0 (edits_of l.places l.parts l.changes);
}
