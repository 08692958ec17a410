use Rattle.std.proofs.Common.{◌≡◌, drop, ◌++◌, map}
use Rattle.std.specs.String.{string_bytes}
use Rattle.theory_explanation.specs.Changing.{spaces_behind}
use Rattle.counterexample.specs.Texts.{texts_of}
use Rattle.counterexample.proofs.changes.push_spaces_behind.Given as goal

abbrev pub invariant-loop-word : goal.invariant-loop-word
invariant-loop-word g l =
    string_bytes l.text ++ spaces_behind (texts_of (drop l.word-index l.words)) ≡ string_bytes l.initial.text ++ spaces_behind (texts_of l.words)
