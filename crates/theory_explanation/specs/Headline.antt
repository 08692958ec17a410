-- The line that an explanation begins with.
use Rattle.std.specs.Prelude.{ℕ, nat_eq, Bool, true, false, not, List, [], ◌++◌, take, codes, decimal}
use Rattle.std.specs.Cmp.Lexicographic.{pointwise}
use Rattle.theory_syntax.specs.Process.{Process, Model, Traces, Failures, Property, RefinementOf, DeadlockFree, DivergenceFree, Assertion}
use Rattle.theory_search.specs.Outcome.{Outcome, Holds, Fails, Unknown, Denied}
use Rattle.theory_notation.specs.Marks.{bare_or_bracketed}
use Rattle.theory_notation.specs.Names.{Names}
use Rattle.theory_notation.specs.Processes.{process_text}

-- the answer in a word
abbrev pub outcome_word : Outcome → List ℕ
outcome_word Holds = codes "holds"
outcome_word (Fails v) = codes "fails"
outcome_word (Unknown why) = codes "unknown"
outcome_word Denied = codes "fails"

-- what stands between the sides of a refinement
abbrev pub model_text : Model → List ℕ
model_text Traces = codes " [T= "
model_text Failures = codes " [F= "

-- whether a text begins with the word `not`
abbrev pub begins_with_not : List ℕ → Bool
begins_with_not text = pointwise nat_eq (take 4 text) (codes "not ")

-- The side behind `assert`. A `not` there negates, so where the side's own text begins with one, it stands in brackets.
abbrev pub first_side : List ℕ → List ℕ
first_side text = bare_or_bracketed (not (begins_with_not text)) text

abbrev pub property_text : Names → Property → Process → List ℕ
property_text names (RefinementOf model spec) p = first_side (process_text names spec) ++ (model_text model ++ process_text names p)
property_text names DeadlockFree p = first_side (process_text names p) ++ codes " :[deadlock free]"
property_text names DivergenceFree p = first_side (process_text names p) ++ codes " :[divergence free]"

abbrev pub negation_text : Bool → List ℕ
negation_text true = codes "not "
negation_text false = []

abbrev pub assertion_text : Names → Assertion → List ℕ
assertion_text names a = negation_text a.negated ++ property_text names a.property a.implementation

-- the number of the assertion, its answer, and the assertion
abbrev pub headline : Names → ℕ → Assertion → Outcome → List ℕ
headline names n a o = decimal n ++ (codes " " ++ (outcome_word o ++ (codes "  assert " ++ (assertion_text names a ++ codes "\n"))))
