use Rattle.std.proofs.Common.{◌≡◌, ℕ, List, length, true}
use Rattle.std.specs.List.{list_all}
use Rattle.csp_lex.specs.Classes.{class_test}
use Rattle.csp_lex.specs.Cursors.{left_of, Passes}
use Rattle.csp_lex.proofs.classes.behind_run.Given as goal

abbrev pub invariant-loop-character : goal.invariant-loop-character
invariant-loop-character l = (run : List ℕ) × Passes l.cursor run l.end × (list_all (class_test l.class) run ≡ true)

abbrev pub decreases-loop-character : goal.decreases-loop-character
decreases-loop-character l = length (left_of l.end)
