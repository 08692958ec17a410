-- What is told of the end of a path.
use Rattle.std.specs.Prelude.{ℕ, List, ◌++◌, codes}
use Rattle.theory_semantics.specs.Meaning.Violations.{Evidence, ByEvent, ByOffers, ByDeadlock, ByDivergence}
use Rattle.theory_notation.specs.Names.{Names}
use Rattle.theory_explanation.specs.Actions.{action_text, actions_text}

abbrev pub end_text : Names → Evidence → List ℕ
end_text names (ByEvent x) = codes "  then it does " ++ (action_text names x ++ codes ", and the specification cannot\n")
end_text names (ByOffers xs) = codes "  then it may refuse all but {" ++ (actions_text names xs ++ codes "}, and the specification may not\n")
end_text names ByDeadlock = codes "  then it can do nothing\n"
end_text names ByDivergence = codes "  then it goes on with tau for ever:\n"
