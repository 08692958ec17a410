use Rattle.std.proofs.Common.{◌≡◌, [], drop}
use Rattle.diagnostics.specs.Brackets.{open_behind}
use Rattle.diagnostics.proofs.brackets.open_brackets.Given as goal

abbrev pub invariant-loop-token : goal.invariant-loop-token
invariant-loop-token g l = open_behind l.open.items (drop l.token-index l.tokens) ≡ open_behind [] l.tokens
