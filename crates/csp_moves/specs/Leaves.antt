-- Calls and prefixes.
use Rattle.std.specs.Prelude.{◌≡◌, ℕ, List}
use Rattle.theory_syntax.specs.Expression.{Expressions}
use Rattle.theory_syntax.specs.Process.{Call, Field, Prefix, Process}

abbrev pub IsCallOf : ℕ → Process → Type 0
IsCallOf n p = (es : Expressions) × (p ≡ Call n es)

abbrev pub IsPrefix : Process → Type 0
IsPrefix p = (c : ℕ) × (fs : List Field) × (body : Process) × (p ≡ Prefix c fs body)
