-- When a term that is not too deep is within the limits.
use Rattle.std.proofs.Common.{◌≡◌, ◌≤◌, ◌-◌, ℕ, Option, rules}
use Rattle.std.specs.Option.{SomeIff, is_some}
use Rattle.theory_syntax.specs.Process.{Process}
use Rattle.theory_semantics.specs.Meaning.Limits.{size, depth, fits}

pub told_by_room : (p : Process) (r : Option ℕ) → depth p ≤ 256 → SomeIff r (size p ≤ 2000) (2000 - size p) → is_some r ≡ fits p
told_by_room p r low room = search rules
