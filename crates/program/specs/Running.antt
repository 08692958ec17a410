-- What a run of the program prints and answers.
use Rattle.std.specs.Prelude.{◌≡◌, ◌↔◌, ℕ, Bool, true, false, max, List, [], ◌∷◌, Some, ◌⊎◌, ⊤, codes, length, map}
use Rattle.std.specs.Borrow.{Bor}
use Rattle.theory_syntax.specs.Process.{Script, Unfolding, ByTau, AtOnce}
use Rattle.theory_search.specs.Outcome.{Bounds, Outcome, Holds, Fails, Unknown, Denied}
use Rattle.theory_search.specs.Printing.{report}
use Rattle.theory_checking.specs.Checked.{IsCheckedText}
use Rattle.report.specs.Sending.{Sends, Breaks}
use Rattle.settings.specs.CommandLine.{IsUsed, chosen, given}
use Rattle.settings.specs.Faults.{AreWrong, AskForHelp, AskForVersion, faults_of}
use Rattle.settings.specs.declared.settings.Settings.{Settings}
use Rattle.program.specs.Answering.{AreRight}
use Rattle.program.specs.Given.{Given, Sent}
use Rattle.program.specs.Reading.{IsRefusalOf}
use Rattle.program.specs.Refusal.{refusal_line}
use Rattle.program.specs.Stack.{Takes}
use Rattle.program.specs.declared.refusal.Refusal.{Refusal}
use Rattle.program.specs.declared.refusal.Refusal.TheVariants as refusal

abbrev pub outcome_status : Outcome → ℕ
outcome_status Holds = 0
outcome_status (Fails v) = 1
outcome_status (Unknown why) = 2
outcome_status Denied = 1

-- the greatest status of an outcome: 2 where any is unknown, else 1 where any fails, else 0
abbrev pub status_of : List Outcome → ℕ
status_of [] = 0
status_of (o ∷ os) = max (outcome_status o) (status_of os)

-- the words of the command line
abbrev pub texts_of : List (Bor (List ℕ)) → List (List ℕ)
texts_of words = map (λ word. word.now) words

-- what is asked of a check: the limits of each search, and how names are read
pub record Check : Type 0 where
  pub bounds : Bounds
  pub names : Unfolding

-- the limits of a search that the settings have
abbrev pub limits_of : Settings → Bounds
limits_of settings = record { max_pairs = settings.max_pairs; max_nodes = settings.max_nodes }

-- names are unfolded at once, or do a tau
abbrev pub names_read : Bool → Unfolding
names_read true = AtOnce
names_read false = ByTau

-- what the settings ask of a check
abbrev pub check_of : Settings → Check
check_of settings = record { bounds = limits_of settings; names = names_read settings.at_once }

-- The words have no fault. They name this file, and choose these limits, by an option or by its default. Names are
-- unfolded at once where they use the flag.
pub record AskForCheck (words : List (List ℕ)) (name : List ℕ) (check : Check) : Type 0 where
  pub taken : faults_of words ≡ []
  pub file : given (codes "file") words ≡ Some name
  pub pairs : check.bounds.max_pairs ≡ chosen (codes "max-pairs") 100000 words
  pub nodes : check.bounds.max_nodes ≡ chosen (codes "max-nodes") 10000 words
  pub names : (check.names ≡ AtOnce) ↔ IsUsed (codes "unfold") words

-- the words ask for a text, the help or the version
abbrev pub AskForText : List (List ℕ) → Type 0
AskForText words = AskForHelp words ⊎ AskForVersion words

-- The file of this name holds a text that is checked, and this is its script.
pub record IsScriptOfFile (may_hold : List ℕ → List ℕ → Type 0) (name : List ℕ) (script : Script) : Type 0 where
  pub text : List ℕ
  pub held : may_hold name text
  pub of_text : IsCheckedText text script

-- The report of right outcomes for the assertions of the file's script, with its names read as is asked, went out, one for
-- each, and the status is that of the outcomes.
pub record IsReported (given : Given) (name : List ℕ) (check : Check) (out : Sent) (status : ℕ) : Type 0 where
  pub script : Script
  pub outcomes : List Outcome
  pub of_file : IsScriptOfFile given.may_hold name script
  pub right : AreRight check.names script check.bounds script.assertions outcomes
  pub bytes : Sends out.old out.new out.failed (report script outcomes)
  pub told : status ≡ status_of outcomes

-- A beginning of such a report went out, and the output has failed.
pub record IsCutOff (given : Given) (name : List ℕ) (check : Check) (out : Sent) : Type 0 where
  pub script : Script
  pub outcomes : List Outcome
  pub of_file : IsScriptOfFile given.may_hold name script
  pub right : AreRight check.names script check.bounds script.assertions outcomes
  pub bytes : Breaks out.old out.new out.failed (report script outcomes)

-- the words ask for a text, which went out; or the words ask for a check, whose report did
pub data IsServed (given : Given) (words : List (List ℕ)) (out : Sent) (status : ℕ) : Type 0 where
  shown : (text : List ℕ) → AskForText words → Sends out.old out.new out.failed text → status ≡ 0 → IsServed given words out status
  checked : (name : List ℕ) (check : Check) → AskForCheck words name check → IsReported given name check out status → IsServed given words out status

-- ---- refusals

-- A refusal of a check leaves the output as it was. Where it is the output that is refused, a report was cut off.
abbrev pub Leaves : Given → List ℕ → Check → Refusal → Sent → Type 0
Leaves given name check refusal.Output out = IsCutOff given name check out
Leaves given name check _ out = out.Unchanged

-- the text of the file of this name is refused so
abbrev pub IsTextRefused : (List ℕ → List ℕ → Type 0) → List ℕ → Refusal → Type 0
IsTextRefused may_hold name why = (text : List ℕ) × may_hold name text × IsRefusalOf text why

-- the text of the file of this name is longer than the stack takes
abbrev pub IsTooLong : Given → List ℕ → Type 0
IsTooLong given name = (text : List ℕ) × given.may_hold name text × (Takes given.stack (length text) → ⊥)

-- Why the check of a file is refused. The output is written only where the file holds a script. Refused memory says
-- nothing of the file.
abbrev pub IsCause : Given → List ℕ → Refusal → Type 0
IsCause given name (refusal.File why) = given.may_lack name why
IsCause given name (refusal.Text f p) = IsTextRefused given.may_hold name (refusal.Text f p)
IsCause given name (refusal.Grammar f p) = IsTextRefused given.may_hold name (refusal.Grammar f p)
IsCause given name (refusal.Kinds f p) = IsTextRefused given.may_hold name (refusal.Kinds f p)
IsCause given name refusal.Memory = ⊤
IsCause given name refusal.Thread = IsTooLong given name
IsCause given name refusal.Output = (script : Script) × IsScriptOfFile given.may_hold name script

-- A text was given to an output: it went out, or a beginning of it did and the output has failed.
abbrev pub IsGiven : Sent → List ℕ → Type 0
IsGiven out text = Sends out.old out.new out.failed text ⊎ Breaks out.old out.new out.failed text

-- A check is refused, with its cause: its line was given to the error output, and to the other nothing, or, where that
-- has failed, the beginning of a report.
pub record IsCheckRefused (given : Given) (name : List ℕ) (check : Check) (out err : Sent) : Type 0 where
  pub why : Refusal
  pub cause : IsCause given name why
  pub output : Leaves given name check why out
  pub line : IsGiven err (refusal_line why)

-- A run is refused: its words are wrong, and the command line's own text was given to the error output; memory was
-- refused for the words; the text that they ask for was cut off; or their check is refused.
pub data IsRefused (given : Given) (words : List (List ℕ)) (out err : Sent) : Type 0 where
  wrong_words : (text : List ℕ) → AreWrong words → out.Unchanged → IsGiven err text → IsRefused given words out err
  no_memory : out.Unchanged → IsGiven err (refusal_line refusal.Memory) → IsRefused given words out err
  cut_text : (text : List ℕ) → AskForText words → Breaks out.old out.new out.failed text → IsGiven err (refusal_line refusal.Output) → IsRefused given words out err
  of_check : (name : List ℕ) (check : Check) → AskForCheck words name check → IsCheckRefused given name check out err → IsRefused given words out err
