-- What the words ask for.
use Rattle.std.specs.Prelude.{◌≡◌, ◌⊎◌, ◌↔◌, ℕ, suc, Bool, true, false, IsTrue, List, [], Option, Some, codes, slice_get}
use Rattle.theory_syntax.specs.Process.{Process, specification_of, Unfolding, AtOnce, Assertion, Script}
use Rattle.theory_unfolding.specs.Assertions.{settled_assertion}
use Rattle.settings.specs.CommandLine.{HasNumber}
use Rattle.graph_settings.specs.CommandLine.{IsUsed, format_word, value}
use Rattle.graph_settings.specs.Faults.{AskForHelp, AskForVersion, faults_of}
use Rattle.graph_settings.specs.declared.format.Format.{Format}
use Rattle.graph_settings.specs.declared.options.Settings.{Settings}
use Rattle.program.specs.Running.{names_read}

-- a file, the number of an assertion, which side of it, how names are read, a format, and the most states
pub record Request : Type 0 where
  pub name : List ℕ
  pub number : ℕ
  pub specification : Bool
  pub names : Unfolding
  pub format : Format
  pub most : ℕ

-- what the settings ask for
abbrev pub request_of : Settings → Request
request_of settings = record {
  name = settings.file.now;
  number = settings.assertion;
  specification = settings.specification;
  names = names_read settings.at_once;
  format = settings.format;
  most = settings.max_states;
}

-- The words have no fault, and ask for this. What no word gives is the default.
pub record AskForGraph (words : List (List ℕ)) (request : Request) : Type 0 where
  pub taken : faults_of words ≡ []
  pub file : value (codes "file") words ≡ Some request.name
  pub number : HasNumber (value (codes "assertion") words) request.number
  pub specification : IsTrue request.specification ↔ IsUsed (codes "specification") words
  pub names : (request.names ≡ AtOnce) ↔ IsUsed (codes "unfold") words
  pub format : value (codes "format") words ≡ Some (format_word request.format)
  pub most : HasNumber (value (codes "max-states") words) request.most

-- the words ask for a text, the help or the version
abbrev pub AskForText : List (List ℕ) → Type 0
AskForText words = AskForHelp words ⊎ AskForVersion words

-- ---- of a script

-- the assertion has the number that is asked for
pub record IsAsked (request : Request) (script : Script) (assertion : Assertion) : Type 0 where
  pub place : ℕ
  pub is_number : request.number ≡ suc place
  pub stands : slice_get script.assertions place ≡ Some assertion

-- the specification, if there is one, or the implementation
abbrev pub side_of : Bool → Assertion → Option Process
side_of true assertion = specification_of assertion.property
side_of false assertion = Some assertion.implementation

-- The graph begins with the side that is asked for, settled. Where names do a tau that is the side itself.
pub record IsStart (request : Request) (script : Script) (start : Process) : Type 0 where
  pub assertion : Assertion
  pub asked : IsAsked request script assertion
  pub side : side_of request.specification (settled_assertion script assertion) ≡ Some start
