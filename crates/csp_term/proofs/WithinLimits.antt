-- What the limits say of a term within them.
use Rattle.std.proofs.Common.{◌≡◌, ◌≤◌, Bool, true, false, ◌&&◌, nat_le, refl}
use Rattle.std.proofs.lemmas.Bool.{leb-true}
use Rattle.theory_syntax.specs.Process.{Process}
use Rattle.theory_semantics.specs.Meaning.Limits.{depth, fits, max_depth, max_size, size}

left_true : (a b : Bool) → (a && b) ≡ true → a ≡ true
left_true true b e = refl
left_true false b e = e

pub small : (p : Process) → fits p ≡ true → size p ≤ max_size
small p e = leb-true (size p) max_size (left_true (nat_le (size p) max_size) (nat_le (depth p) max_depth) e)
