-- What the words ask for.
use Rattle.std.specs.Prelude.{◌≡◌, ◌⊎◌, ◌↔◌, ℕ, Bool, true, false, IsTrue, zero, suc, List, [], Some, codes, take, drop}
use Rattle.theory_syntax.specs.Process.{Unfolding, AtOnce}
use Rattle.theory_search.specs.Outcome.{Bounds}
use Rattle.theory_notation.specs.Names.{Names}
use Rattle.theory_explanation.specs.Cutting.{Width, Whole, UpTo}
use Rattle.theory_explanation.specs.Folding.{ByEvents, EachStep, Folded, Telling}
use Rattle.theory_explanation.specs.Styles.{Style}
use Rattle.settings.specs.CommandLine.{HasNumber}
use Rattle.explain_settings.specs.CommandLine.{IsUsed, format_word, value}
use Rattle.explain_settings.specs.Faults.{AskForHelp, AskForVersion, faults_of}
use Rattle.explain_settings.specs.declared.format.Format.{Format}
use Rattle.explain_settings.specs.declared.options.Settings.{Settings}
use Rattle.program.specs.Running.{names_read}

-- a file, limits, how names are read, how much of a state is told, how steps are, whether it is told how large a search was,
-- in which format, and the number of an assertion, or 0 for each
pub record Request : Type 0 where
  pub name : List ℕ
  pub bounds : Bounds
  pub names : Unfolding
  pub width : Width
  pub telling : Telling
  pub count : Bool
  pub format : Format
  pub number : ℕ

abbrev pub bounds_asked : Settings → Bounds
bounds_asked settings = record { max_pairs = settings.max_pairs; max_nodes = settings.max_nodes }

-- 0 stands for all characters
abbrev pub width_of_number : ℕ → Width
width_of_number zero = Whole
width_of_number (suc n) = UpTo (suc n)

-- where states are told whole, so are loops
abbrev pub taus_told : Width → Width
taus_told Whole = Whole
taus_told (UpTo n) = UpTo 50

-- events alone, or each step, one by one or with the names that it unfolds
abbrev pub telling_for : (events steps : Bool) → Telling
telling_for true steps = ByEvents
telling_for false true = EachStep
telling_for false false = Folded

-- How assertions are told by names: three states of a specification at a time, of which there may be as many as its nodes. Loops
-- are looked for among as many states as there may be pairs.
abbrev pub style_for : Request → Names → Style
style_for request names = record { names = names; width = request.width; few = 3; most = request.bounds.max_nodes; taus = taus_told request.width; reach = request.bounds.max_pairs; telling = request.telling }

-- what the settings ask for
abbrev pub request_of : Settings → Request
request_of settings = record {
  name = settings.file.now;
  bounds = bounds_asked settings;
  names = names_read settings.at_once;
  width = width_of_number settings.width;
  telling = telling_for settings.events settings.steps;
  count = settings.count;
  format = settings.format;
  number = settings.assertion;
}

-- a width of this number
abbrev pub IsWidthOf : Width → ℕ → Type 0
IsWidthOf width n = width ≡ width_of_number n

-- the words ask for the events, or each step, so
pub record AskForTelling (words : List (List ℕ)) (telling : Telling) : Type 0 where
  pub events : Bool
  pub steps : Bool
  pub is : telling ≡ telling_for events steps
  pub events_used : IsTrue events ↔ IsUsed (codes "events") words
  pub steps_used : IsTrue steps ↔ IsUsed (codes "steps") words

-- The words have no fault, and ask for this. A number that no word gives is the default.
pub record AskForExplanation (words : List (List ℕ)) (request : Request) : Type 0 where
  pub taken : faults_of words ≡ []
  pub file : value (codes "file") words ≡ Some request.name
  pub pairs : HasNumber (value (codes "max-pairs") words) request.bounds.max_pairs
  pub nodes : HasNumber (value (codes "max-nodes") words) request.bounds.max_nodes
  pub names : (request.names ≡ AtOnce) ↔ IsUsed (codes "unfold") words
  pub width : (n : ℕ) × HasNumber (value (codes "width") words) n × IsWidthOf request.width n
  pub telling : AskForTelling words request.telling
  pub count : IsTrue request.count ↔ IsUsed (codes "count") words
  pub format : value (codes "format") words ≡ Some (format_word request.format)
  pub number : HasNumber (value (codes "assertion") words) request.number

-- the words ask for a text, the help or the version
abbrev pub AskForText : List (List ℕ) → Type 0
AskForText words = AskForHelp words ⊎ AskForVersion words

-- ---- the assertions that are told of

-- the one at the place, alone
abbrev pub one_at : {X : Type 0} → ℕ → List X → List X
one_at place xs = take 1 (drop place xs)

-- each, or the one of the number
abbrev pub chosen : {X : Type 0} → ℕ → List X → List X
chosen zero xs = xs
chosen (suc place) xs = one_at place xs

-- the number of the first one
abbrev pub first_number : ℕ → ℕ
first_number zero = 1
first_number (suc place) = suc place
