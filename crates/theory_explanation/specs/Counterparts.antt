-- What is told of a specification along a path.
use Rattle.std.specs.Prelude.{ℕ, ◌-◌, List, [], ◌∷◌, ◌++◌, length, take, codes, decimal, nat_le, if◌then◌else◌}
use Rattle.theory_syntax.specs.Value.{Action}
use Rattle.theory_syntax.specs.Process.{Process}
use Rattle.theory_semantics.specs.Meaning.Violations.{Evidence, ByEvent, ByOffers}
use Rattle.theory_notation.specs.Names.{Names}
use Rattle.theory_notation.specs.Processes.{process_text}
use Rattle.theory_explanation.specs.Actions.{actions_text}
use Rattle.theory_explanation.specs.Cutting.{Width, cut}
use Rattle.theory_explanation.specs.Lacking.{lacking}

-- ---- beside a state of the implementation

-- a state of the specification, on a line of its own
abbrev pub specification_line : Names → Width → Process → List ℕ
specification_line names width t = codes "      specification: " ++ (cut width (process_text names t) ++ codes "\n")

abbrev pub specification_lines : Names → Width → List Process → List ℕ
specification_lines names width [] = []
specification_lines names width (t ∷ ts) = specification_line names width t ++ specification_lines names width ts

-- how many of so many states are not among the first few, if any are
abbrev pub more_line : ℕ → ℕ → List ℕ
more_line few all = if nat_le all few then [] else codes "      specification: and " ++ (decimal (all - few) ++ codes " more\n")

-- the first few states of the specification, and how many more there are
abbrev pub specification_text : Names → Width → ℕ → List Process → List ℕ
specification_text names width few states = specification_lines names width (take few states) ++ more_line few (length states)

-- ---- at the end

-- the actions in `{` and `}`
abbrev pub set_text : Names → List Action → List ℕ
set_text names xs = codes "{" ++ (actions_text names xs ++ codes "}")

-- all that the specification can do
abbrev pub initials_line : Names → List Action → List ℕ
initials_line names xs = codes "  there the specification can do no more than " ++ (set_text names xs ++ codes "\n")

-- an acceptance of the specification, and what the offer lacks of it
abbrev pub acceptance_line : Names → List Action → List Action → List ℕ
acceptance_line names offer ys =
    codes "  there the specification may offer " ++ (set_text names ys ++ (codes ", of which " ++ (set_text names (lacking offer ys) ++ codes " is lacking\n")))

abbrev pub acceptance_lines : Names → List Action → List (List Action) → List ℕ
acceptance_lines names offer [] = []
acceptance_lines names offer (ys ∷ all) = acceptance_line names offer ys ++ acceptance_lines names offer all

-- Where there is no acceptance, no state is stable, and none can tick.
abbrev pub acceptances_text : Names → List Action → List (List Action) → List ℕ
acceptances_text names offer [] = codes "  there no state of the specification is stable\n"
acceptances_text names offer (ys ∷ all) = acceptance_lines names offer (ys ∷ all)

-- what the specification has there, by what the evidence asks for
abbrev pub lack_text : Names → Evidence → List Action → List (List Action) → List ℕ
lack_text names (ByEvent x) initials acceptances = initials_line names initials
lack_text names (ByOffers xs) initials acceptances = acceptances_text names xs acceptances
lack_text names evidence initials acceptances = []
