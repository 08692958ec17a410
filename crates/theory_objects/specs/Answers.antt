-- The object of an answered assertion.
use Rattle.std.specs.Prelude.{ℕ, List, [], ◌∷◌, ◌++◌, map, codes, Option, None, Some}
use Rattle.theory_syntax.specs.Value.{Action}
use Rattle.theory_syntax.specs.Process.{Assertion, Property, RefinementOf, DeadlockFree, DivergenceFree}
use Rattle.theory_semantics.specs.Meaning.Causes.{cause_word}
use Rattle.theory_semantics.specs.Meaning.Runs.{trace}
use Rattle.theory_semantics.specs.Meaning.Violations.{Evidence, ByEvent, ByOffers, ByDeadlock, ByDivergence}
use Rattle.theory_search.specs.Answer.{as_written}
use Rattle.theory_search.specs.Outcome.{Outcome, Holds, Fails, Unknown, Denied, Why, TooManyPairs, TooManyNodes, LargeTerm, Fault, NoMemory}
use Rattle.theory_text.specs.Place.{Place}
use Rattle.theory_notation.specs.Names.{Names}
use Rattle.theory_explanation.specs.Accounts.{Account}
use Rattle.theory_explanation.specs.Actions.{action_text}
use Rattle.theory_explanation.specs.Headline.{assertion_text, outcome_word}
use Rattle.theory_objects.specs.Accounts.{account_fields}
use Rattle.theory_objects.specs.Fields.{Field, number_field, text_field, texts_field}

-- the line and the column of a place
abbrev pub place_fields : Place → List Field
place_fields p = number_field (codes "line") p.line ∷ number_field (codes "column") p.column ∷ []

-- where it stands in the text, if that is known
abbrev pub placed_fields : Option Place → List Field
placed_fields (Some p) = place_fields p
placed_fields None = []

-- the texts of actions, one each
abbrev pub action_texts : Names → List Action → List (List ℕ)
action_texts names xs = map (action_text names) xs

-- what is wrong at the end of a violation, in a word, and the event or the offers
abbrev pub evidence_fields : Names → Evidence → List Field
evidence_fields names (ByEvent x) = text_field (codes "evidence") (codes "event") ∷ text_field (codes "event") (action_text names x) ∷ []
evidence_fields names (ByOffers xs) = text_field (codes "evidence") (codes "offers") ∷ texts_field (codes "offers") (action_texts names xs) ∷ []
evidence_fields names ByDeadlock = text_field (codes "evidence") (codes "deadlock") ∷ []
evidence_fields names ByDivergence = text_field (codes "evidence") (codes "divergence") ∷ []

-- why there is no answer, in a word, and of a fault the word of its cause
abbrev pub why_fields : Why → List Field
why_fields TooManyPairs = text_field (codes "reason") (codes "pairs") ∷ []
why_fields TooManyNodes = text_field (codes "reason") (codes "nodes") ∷ []
why_fields LargeTerm = text_field (codes "reason") (codes "term") ∷ []
why_fields (Fault c) = text_field (codes "reason") (codes "fault") ∷ text_field (codes "fault") (cause_word c) ∷ []
why_fields NoMemory = text_field (codes "reason") (codes "memory") ∷ []

-- What is found of the assertion but for a `not`: of a violation its trace, the path with its taus, and what is wrong at its
-- end; and where there is no answer the reason.
abbrev pub found_fields : Names → Outcome → List Field
found_fields names Holds = []
found_fields names (Fails v) = texts_field (codes "trace") (action_texts names (trace v.path)) ∷ texts_field (codes "path") (action_texts names v.path) ∷ evidence_fields names v.evidence
found_fields names (Unknown why) = why_fields why
found_fields names Denied = []

-- how large the search was: its pairs, and the nodes of a specification, where there is one
abbrev pub size_fields : Property → (pairs nodes : ℕ) → List Field
size_fields (RefinementOf model spec) pairs nodes = number_field (codes "pairs") pairs ∷ number_field (codes "nodes") nodes ∷ []
size_fields DeadlockFree pairs nodes = number_field (codes "pairs") pairs ∷ []
size_fields DivergenceFree pairs nodes = number_field (codes "pairs") pairs ∷ []

-- a field of the number, if it is known
abbrev pub known_fields : List ℕ → Option ℕ → List Field
known_fields name (Some n) = number_field name n ∷ []
known_fields name None = []

-- what the search took, as far as it is known: the time, and the most memory that the run has had
abbrev pub cost_fields : (milliseconds kilobytes : Option ℕ) → List Field
cost_fields milliseconds kilobytes = known_fields (codes "milliseconds") milliseconds ++ known_fields (codes "kilobytes") kilobytes

-- An answered assertion: its number, where it stands in the text, the assertion, what is found of it but for a `not`, the
-- account of that, and what is told of it in words.
pub record Answered : Type 0 where
  pub number : ℕ
  pub place : Option Place
  pub assertion : Assertion
  pub found : Outcome
  pub account : Account
  pub words : List ℕ

-- the number, the place, the assertion, and its answer as it is written
abbrev pub head_fields : Names → Answered → List Field
head_fields names a =
    number_field (codes "number") a.number ∷ (placed_fields a.place ++ (text_field (codes "assertion") (assertion_text names a.assertion)
    ∷ text_field (codes "answer") (outcome_word (as_written a.assertion.negated a.found)) ∷ []))

-- the object, with these fields on the size of the search and on what it took
abbrev pub answer_fields : Names → Answered → List Field → List Field
answer_fields names a size = head_fields names a ++ (found_fields names a.found ++ (account_fields names a.account ++ (size ++ (text_field (codes "words") a.words ∷ []))))
