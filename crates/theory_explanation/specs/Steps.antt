-- The states of a path, one after each of its actions, and those of a specification beside them.
use Rattle.std.specs.Prelude.{ℕ, suc, List, [], ◌∷◌, ◌++◌, length, drop, codes, decimal, if◌then◌else◌, Option}
use Rattle.theory_syntax.specs.Value.{Action, Tau, Tick, Ev}
use Rattle.theory_syntax.specs.Process.{Process}
use Rattle.theory_semantics.specs.Meaning.Violations.{Violation}
use Rattle.theory_origins.specs.Origin.{Origin}
use Rattle.theory_notation.specs.Names.{Names}
use Rattle.theory_notation.specs.Processes.{process_text}
use Rattle.theory_explanation.specs.Actions.{action_text}
use Rattle.theory_explanation.specs.Changing.{change_text}
use Rattle.theory_explanation.specs.Counterparts.{specification_text}
use Rattle.theory_explanation.specs.Cutting.{Width, Whole, UpTo, cut, cut_after}
use Rattle.theory_explanation.specs.Ends.{end_text}
use Rattle.theory_explanation.specs.Folding.{ByEvents, EachStep, Folded, Telling, folded, is_event, is_folded, state_behind, then_text}
use Rattle.theory_explanation.specs.Legend.{Legend, legend}
use Rattle.theory_explanation.specs.Origins.{source_text}
use Rattle.theory_explanation.specs.PartNames.{PartName, part_names_behind}
use Rattle.theory_explanation.specs.Styles.{Style}

-- ---- a state

-- what is told of a state, on a line of its own
abbrev pub state_line : List ℕ → List ℕ
state_line told = codes "      " ++ (told ++ codes "\n")

-- how much is told of a state that has such a path before it: the last one is told whole
abbrev pub width_before : Width → List Action → Width
width_before width [] = Whole
width_before width (x ∷ path) = width

-- what is told of a state behind another one: all, or of what has changed as much as is told
abbrev pub told_behind : Width → List ℕ → List ℕ → List ℕ
told_behind Whole old new = new
told_behind (UpTo n) old new = cut_after n (change_text old new)

-- the first of the lists of a specification's states, if there is one
abbrev pub first_text : Style → List (List Process) → List ℕ
first_text style [] = []
first_text style (us ∷ along) = specification_text style.names style.width style.few us

-- Behind a tau the specification is where it was, and is not told again.
abbrev pub beside_text : Style → Action → List (List Process) → List ℕ
beside_text style Tau along = []
beside_text style Tick along = first_text style along
beside_text style (Ev e) along = first_text style along

-- ---- a path

-- the number of a step, its action, where that comes from, and the names that are unfolded behind it
abbrev pub step_line : Legend → ℕ → Action → Option Origin → List ℕ → List ℕ
step_line l n x o ns = codes "  " ++ (decimal n ++ (codes " " ++ (action_text l.names x ++ (source_text l x o ++ (then_text l.names ns ++ codes "\n")))))

-- the state that a step leads to from another one
abbrev pub behind_line : Names → Width → Process → Process → List ℕ
behind_line names width before t = state_line (told_behind width (process_text names before) (process_text names t))

-- A step of parts with such names, with the names that are unfolded behind it, and what has changed then in the state since
-- the one that was told before it. So much of the path is left behind that.
abbrev pub step_text : Style → ℕ → Process → List PartName → Action → Option Origin → List ℕ → List Action → Process → List ℕ
step_text style n told parts x o ns path t = step_line (legend style.names parts) n x o ns ++ behind_line style.names (width_before style.width path) told t

-- The steps of a path, numbered from n, with the states behind them and their origins, and the states of the specification
-- behind each. A step that is told with the one before leads to the state that was told there. Each gives the parts their
-- names for those behind it.
abbrev pub steps_text : Style → ℕ → Process → List PartName → List Action → List Process → List (Option Origin) → List (List Process) → List ℕ
steps_text style n told parts [] states origins along = []
steps_text style n told parts (x ∷ path) [] origins along = []
steps_text style n told parts (x ∷ path) (t ∷ states) [] along = []
steps_text style n told parts (x ∷ path) (t ∷ states) (o ∷ origins) along =
    let ns = folded style.telling origins in
    if is_folded style.telling o then steps_text style (suc n) told (part_names_behind parts o) path states origins (drop 1 along)
    else step_text style n told parts x o ns (drop (length ns) path) (state_behind (length ns) t states)
    ++ (beside_text style x along ++ steps_text style (suc n) (state_behind (length ns) t states) (part_names_behind parts o) path states origins (drop 1 along))

-- the names that are unfolded at the start of the path, and the state behind that
abbrev pub start_line : Style → List ℕ → Process → List Action → List ℕ
start_line style ns t path = codes "  0 start" ++ (then_text style.names ns ++ (codes "\n" ++ state_line (cut (width_before style.width (drop (length ns) path)) (process_text style.names t))))

-- ---- events

-- the steps that are events, seen or hidden
abbrev pub events_text : Names → ℕ → List PartName → List Action → List (Option Origin) → List ℕ
events_text names n parts [] origins = []
events_text names n parts (x ∷ path) [] = []
events_text names n parts (x ∷ path) (o ∷ origins) =
    (if is_event x o then step_line (legend names parts) n x o [] else []) ++ events_text names (suc n) (part_names_behind parts o) path origins

-- the last state, whole
abbrev pub last_line : Names → Process → List Process → List ℕ
last_line names t [] = state_line (process_text names t)
last_line names t (u ∷ states) = last_line names u states

-- ---- a run

-- the states at the start, and the steps with those that they lead to
abbrev pub states_text : Style → List Action → Process → List Process → List (Option Origin) → List (List Process) → List ℕ
states_text style path t states origins along =
    let ns = folded style.telling origins in
    let told = state_behind (length ns) t states in
    start_line style ns told path ++ (first_text style along ++ steps_text style 1 told [] path states origins (drop 1 along))

-- so, or the events alone, and the last state
abbrev pub told_run : Telling → Style → List Action → Process → List Process → List (Option Origin) → List (List Process) → List ℕ
told_run EachStep style path t states origins along = states_text style path t states origins along
told_run Folded style path t states origins along = states_text style path t states origins along
told_run ByEvents style path t states origins along = events_text style.names 1 [] path origins ++ last_line style.names t states

-- a run of a side alone, or beside a specification
abbrev pub path_text : Style → List Action → List Process → List (Option Origin) → List (List Process) → List ℕ
path_text style path [] origins along = []
path_text style path (t ∷ states) origins along = told_run style.telling style path t states origins along

-- the run of a violation, and what is wrong at its end
abbrev pub run_text : Style → Violation → List Process → List (Option Origin) → List (List Process) → List ℕ
run_text style v states origins along = path_text style v.path states origins along ++ end_text style.names v.evidence
