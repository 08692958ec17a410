-- What a stack takes.
use Rattle.std.specs.Prelude.{◌≤◌, ℕ, ⊤}
use Rattle.program.specs.declared.stack.Stack.{Stack}
use Rattle.program.specs.declared.stack.Stack.TheVariants as stack

-- A text of so many bytes is read, searched and printed on the stack.
abbrev pub Takes : Stack → ℕ → Type 0
Takes stack.Large bytes = ⊤
Takes stack.Found bytes = bytes ≤ 4096
