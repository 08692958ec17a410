-- What was filled is what the reader gave.
use Rattle.std.proofs.Common.{◌≡◌, ◌≤◌, length, take}
use Rattle.std.specs.Io.KnownBytes.{Consumes}
use Rattle.program.proofs.beginning.fill.Given as goal

abbrev pub invariant-loop : goal.invariant-loop
invariant-loop g l = (length l.room ≡ length l.initial.room) × (l.filled ≤ length l.room) × Consumes (g.R.Read.remaining l.initial.reader) (g.R.Read.remaining l.reader) (take l.filled l.room)
