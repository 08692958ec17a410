-- What is kept is the beginning of what was read, in which no line ends.
use Rattle.std.proofs.Common.{◌≡◌, ℕ, List, take}
use Rattle.std.specs.Io.KnownBytes.{Consumes}
use Rattle.walk_program.specs.Lines.{IsWithin}
use Rattle.walk_program.proofs.lines.read_line.Given as goal

abbrev pub invariant-loop : goal.invariant-loop
invariant-loop g l =
    (line : List ℕ) × IsWithin line × (l.kept.items ≡ take 4097 line) × Consumes (g.I.Read.remaining l.initial.input) (g.I.Read.remaining l.input) line
