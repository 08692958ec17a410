-- What is told behind a tau of a loop.
use Rattle.std.specs.Prelude.{ℕ, List, Option, Some, None}
use Rattle.theory_syntax.specs.Process.{Process}
use Rattle.theory_explanation.specs.Loops.{back_text}
use Rattle.theory_explanation.specs.Steps.{behind_line, state_line}
use Rattle.theory_explanation.specs.Styles.{Style}

-- what has changed from the state to the next one, or where it leads back to
abbrev pub next_text : Style → ℕ → Process → Option Process → List ℕ
next_text style back s (Some t) = behind_line style.names style.width s t
next_text style back s None = state_line (back_text back)
