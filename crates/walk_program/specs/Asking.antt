-- What the words ask for.
use Rattle.std.specs.Prelude.{◌≡◌, ◌⊎◌, ◌↔◌, ℕ, zero, suc, Bool, true, false, IsTrue, List, [], Option, Some, codes, slice_get}
use Rattle.theory_syntax.specs.Process.{Process, specification_of, Unfolding, AtOnce, Assertion, Script}
use Rattle.theory_unfolding.specs.Assertions.{settled_assertion}
use Rattle.theory_explanation.specs.Cutting.{Width, Whole, UpTo}
use Rattle.settings.specs.CommandLine.{HasNumber}
use Rattle.walk_settings.specs.CommandLine.{IsUsed, value}
use Rattle.walk_settings.specs.Faults.{AskForHelp, AskForVersion, faults_of}
use Rattle.walk_settings.specs.declared.options.Settings.{Settings}
use Rattle.program.specs.Running.{names_read}

-- a file, the number of an assertion, which side of it, how names are read, and how much is shown of a state
pub record Request : Type 0 where
  pub name : List ℕ
  pub number : ℕ
  pub specification : Bool
  pub names : Unfolding
  pub width : Width

-- 0 stands for all characters
abbrev pub width_of_number : ℕ → Width
width_of_number zero = Whole
width_of_number (suc n) = UpTo (suc n)

-- what the settings ask for
abbrev pub request_of : Settings → Request
request_of settings = record {
  name = settings.file.now;
  number = settings.assertion;
  specification = settings.specification;
  names = names_read settings.at_once;
  width = width_of_number settings.width;
}

-- a width of this number
abbrev pub IsWidthOf : Width → ℕ → Type 0
IsWidthOf width n = width ≡ width_of_number n

-- The words have no fault, and ask for this. A number that no word gives is the default.
pub record AskForWalk (words : List (List ℕ)) (request : Request) : Type 0 where
  pub taken : faults_of words ≡ []
  pub file : value (codes "file") words ≡ Some request.name
  pub number : HasNumber (value (codes "assertion") words) request.number
  pub specification : IsTrue request.specification ↔ IsUsed (codes "specification") words
  pub names : (request.names ≡ AtOnce) ↔ IsUsed (codes "unfold") words
  pub width : (n : ℕ) × HasNumber (value (codes "width") words) n × IsWidthOf request.width n

-- the words ask for a text, the help or the version
abbrev pub AskForText : List (List ℕ) → Type 0
AskForText words = AskForHelp words ⊎ AskForVersion words

-- ---- of a script

-- the assertion has the number that is asked for
pub record IsAsked (request : Request) (script : Script) (assertion : Assertion) : Type 0 where
  pub place : ℕ
  pub is_number : request.number ≡ suc place
  pub stands : slice_get script.assertions place ≡ Some assertion

-- the specification, if there is one, or the implementation
abbrev pub side_of : Bool → Assertion → Option Process
side_of true assertion = specification_of assertion.property
side_of false assertion = Some assertion.implementation

-- The walk begins with the side that is asked for, settled. Where names do a tau that is the side itself.
pub record IsStart (request : Request) (script : Script) (start : Process) : Type 0 where
  pub assertion : Assertion
  pub asked : IsAsked request script assertion
  pub side : side_of request.specification (settled_assertion script assertion) ≡ Some start
