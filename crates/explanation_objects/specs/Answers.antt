-- Answered assertions and sizes, as the definitions have them.
use Rattle.std.specs.Prelude.{List, [], ◌++◌, Option, None, Some, option_map}
use Rattle.theory_syntax.specs.Process.{Property}
use Rattle.csp_lex.specs.Places.{place_of}
use Rattle.csp_term.specs.Script.{assertion_of}
use Rattle.verdict.specs.Outcome.{outcome_of}
use Rattle.explanation.specs.Accounts.{account_of}
use Rattle.theory_objects.specs.Answers as objects
use Rattle.theory_objects.specs.Answers.{cost_fields, size_fields}
use Rattle.theory_objects.specs.Fields.{Field}
use Rattle.explanation_objects.specs.declared.answers.Answered.{Answered}
use Rattle.explanation_objects.specs.declared.sizes.Size.{Size}

abbrev pub answered_of : {A : Type 0} → Answered A → objects.Answered
answered_of a = record {
  number = a.number;
  place = option_map place_of a.place;
  assertion = assertion_of a.assertion.now;
  found = outcome_of a.found.now;
  account = account_of a.account.now;
  words = a.words.now;
}

-- what is told of the size and the cost, if that is told
abbrev pub sizes_told : Property → Option Size → List Field
sizes_told property (Some size) = size_fields property size.pairs size.nodes ++ cost_fields size.cost.milliseconds size.cost.kilobytes
sizes_told property None = []
