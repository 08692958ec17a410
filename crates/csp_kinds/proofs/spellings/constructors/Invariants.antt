-- The constructors so far have the spellings of the names so far.
use Rattle.std.proofs.Common.{◌≡◌, take}
use Rattle.csp_kinds.specs.Spellings.{constructor_spellings, encoded}
use Rattle.csp_kinds.proofs.spellings.constructors.Given as goal

abbrev pub invariant-loop-name : goal.invariant-loop-name
invariant-loop-name g l = constructor_spellings l.constructors.items ≡ encoded (take l.name-index l.names)
