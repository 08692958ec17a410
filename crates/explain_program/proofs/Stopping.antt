-- What stops the explanations, and what went out till then.
use Rattle.std.proofs.Common.{◌≡◌, ℕ, suc, ◌<◌, ◌≤◌, Bool, false, List, length, take, drop, sym, ap, subst, inl, inr, arith}
use Rattle.std.specs.Prelude.{Option, Result, Ok, Err, IfOk, IfErr}
use Rattle.std.specs.Result.{IsErr, IsErrAnd}
use Rattle.std.proofs.lemmas.Result.{err_from_is_err_and}
use Rattle.std.proofs.lemmas.List.{take-take, take_all}
use Rattle.theory_syntax.specs.Process.{Script, Assertion}
use Rattle.theory_syntax.specs.Readings.{reading}
use Rattle.theory_search.specs.Outcome.{Outcome}
use Rattle.program.specs.Unread.{IfLacks}
use Rattle.program.specs.declared.files.Unread.{Unread}
use Rattle.program.specs.declared.files.Unread.TheVariants as unread
use Rattle.report.specs.Sending.{Sends, Breaks}
use Rattle.program.specs.Given.{Given, Sent, sent}
use Rattle.program.specs.Reading.{IsRefusalOf}
use Rattle.program.specs.Refusal.{of_file}
use Rattle.program.specs.Running.{IsCause}
use Rattle.program.specs.declared.refusal.Refusal.{Refusal}
use Rattle.program.specs.declared.refusal.Refusal.TheVariants as refusal
use Rattle.explain_program.specs.Asking.{Request, chosen, first_number, one_at}
use Rattle.explain_program.specs.Explaining.{IsBegun, StopsBy, TellsAll, TellsFew}
use Rattle.explain_program.specs.Giving.{AreTold, GoesOut, LeavesText}
use Rattle.named_scripts.specs.Naming.{IsNamedFile, Labels}
use Rattle.explain_program.specs.Refusals.{TellsUnread}
use Rattle.explain_program.specs.Refusals as refusals
use Rattle.explain_program.specs.Running.{IsStopCause, Leaves, TellsStop, of_untold}
use Rattle.explain_program.specs.Running as running
use Rattle.explain_program.specs.declared.untold.Untold.{Untold}
use Rattle.explain_program.specs.declared.untold.Untold.TheVariants as untold
use Rattle.explain_program.specs.declared.stop.Stop.{Stop}
use Rattle.explain_program.specs.declared.stop.Stop.TheVariants as stop
use Rattle.named_scripts.proofs.Beginnings.{script_of_file}
use Rattle.explain_program.proofs.Tellings.{no_text, none_told, one_cut, told_so}

-- ---- of a script

module _ (request : Request) (script : Script) (labels : Labels) where
  -- each assertion was asked for, and all are told
  pub all_told : (out : Sent) (status place : ℕ) → request.number ≡ 0 → length script.assertions ≤ place →
      AreTold request script labels 1 (take place script.assertions) (GoesOut out.old out.new out.failed status) → TellsAll request script labels out status
  all_told out status place each whole told =
      let P : ℕ → List Assertion → Type 0 = λ n xs. AreTold request script labels n xs (GoesOut out.old out.new out.failed status) in
      let all = subst (P 1) (take_all place script.assertions whole) told in
      let Q : ℕ → Type 0 = λ n. P (first_number n) (chosen n script.assertions) in
      record { there = omega (arith, each); told = subst Q (sym each) all }

  -- the one that was asked for is told
  pub asked_told : (out : Sent) (status place : ℕ) → request.number ≡ suc place → place < length script.assertions →
      AreTold request script labels (suc place) (one_at place script.assertions) (GoesOut out.old out.new out.failed status) → TellsAll request script labels out status
  asked_told out status place one within told =
      let Q : ℕ → Type 0 = λ n. AreTold request script labels (first_number n) (chosen n script.assertions) (GoesOut out.old out.new out.failed status) in
      record { there = omega (arith, one, within); told = subst Q (sym one) told }

  -- the first few of each assertion
  few_of_all : (few : ℕ) (P : List ℕ → Type 0) → request.number ≡ 0 → AreTold request script labels 1 (take few script.assertions) (λ os text. P text) → TellsFew request script labels P
  few_of_all few P each told =
      let Q : ℕ → Type 0 = λ n. AreTold request script labels (first_number n) (take few (chosen n script.assertions)) (λ os text. P text) in
      record { few = few; told = subst Q (sym each) told }

  -- the first few of the one that was asked for
  few_of_one : (few place : ℕ) (P : List ℕ → Type 0) → request.number ≡ suc place → AreTold request script labels (suc place) (take few (one_at place script.assertions)) (λ os text. P text) → TellsFew request script labels P
  few_of_one few place P one told =
      let Q : ℕ → Type 0 = λ n. AreTold request script labels (first_number n) (take few (chosen n script.assertions)) (λ os text. P text) in
      record { few = few; told = subst Q (sym one) told }

  -- one of all assertions was not told
  pub stops_in_all : {S : Type 0} (why : Untold) (taken : S → Option (List ℕ)) (has_failed : S → Bool) (old now new : S) (status place : ℕ) → request.number ≡ 0 → place < length script.assertions →
      AreTold request script labels 1 (take place script.assertions) (GoesOut (taken old) (taken now) (has_failed now) status) →
      LeavesText why (λ WentOut. AreTold request script labels (suc place) (one_at place script.assertions) (λ os text. WentOut text)) (sent taken has_failed now new) → StopsBy request script labels (of_untold why) (sent taken has_failed old new)
  stops_in_all untold.Memory taken has_failed old now new status place each within told same =
      let P : List Outcome → List ℕ → Type 0 = λ os text. Sends (taken old) (taken now) (has_failed now) text in
      let out = told_so request script labels 1 (take place script.assertions) (GoesOut (taken old) (taken now) (has_failed now) status) P told (λ os text gone. gone.bytes) in
      rw same (few_of_all place (Sends (taken old) (taken now) (has_failed now)) each out)
  stops_in_all untold.Output taken has_failed old now new status place each within told cut =
      few_of_all (suc place) (Breaks (taken old) (taken new) (has_failed new)) each
      (one_cut request script labels place (taken old) (taken now) (taken new) (has_failed now) (has_failed new) status within told cut)

  -- the one that was asked for was not told
  pub stops_in_one : {S : Type 0} (why : Untold) (taken : S → Option (List ℕ)) (has_failed : S → Bool) (old new : S) (place : ℕ) → has_failed old ≡ false → request.number ≡ suc place →
      LeavesText why (λ WentOut. AreTold request script labels (suc place) (one_at place script.assertions) (λ os text. WentOut text)) (sent taken has_failed old new) → StopsBy request script labels (of_untold why) (sent taken has_failed old new)
  stops_in_one untold.Memory taken has_failed old new place works one same =
      rw same (few_of_one 0 place (Sends (taken old) (taken old) (has_failed old)) one
      (none_told request script labels (suc place) (λ os text. Sends (taken old) (taken old) (has_failed old) text) (no_text (taken old) (has_failed old) works)))
  stops_in_one untold.Output taken has_failed old new place works one cut =
      let P : List Assertion → Type 0 = λ xs. AreTold request script labels (suc place) xs (λ os text. Breaks (taken old) (taken new) (has_failed new) text) in
      few_of_one 1 place (Breaks (taken old) (taken new) (has_failed new)) one (subst P (sym (take-take 1 1 (drop place script.assertions) (omega arith))) cut)

-- ---- of a file

module _ (given : Given) (request : Request) (script : Script) (labels : Labels) (file : IsNamedFile given.may_hold request.name script labels) where
  begun : (P : List ℕ → Type 0) → TellsFew request (reading request.names script) labels P → IsBegun given request P
  begun P told = record { script = script; labels = labels; of_file = file; told = told }

  -- what stops the explanations of the file's script stops those of the file
  pub stop_cause : (why : Stop) (out : Sent) → StopsBy request (reading request.names script) labels why out → IsStopCause given request why
  stop_cause stop.NoAssertion out stops = record { script = script; labels = labels; of_file = file; fewer = stops.0 }
  stop_cause (stop.Refused (refusal.File f)) out stops = absurd stops
  stop_cause (stop.Refused (refusal.Text f p)) out stops = absurd stops
  stop_cause (stop.Refused (refusal.Grammar f p)) out stops = absurd stops
  stop_cause (stop.Refused (refusal.Kinds f p)) out stops = absurd stops
  stop_cause (stop.Refused refusal.Memory) out stops = tt
  stop_cause (stop.Refused refusal.Thread) out stops = absurd stops
  stop_cause (stop.Refused refusal.Output) out stops = (script, script_of_file given.may_hold request.name script labels file)

  pub stop_leaves : (why : Stop) (out : Sent) → StopsBy request (reading request.names script) labels why out → Leaves given request why out
  stop_leaves stop.NoAssertion out stops = stops.1
  stop_leaves (stop.Refused (refusal.File f)) out stops = absurd stops
  stop_leaves (stop.Refused (refusal.Text f p)) out stops = absurd stops
  stop_leaves (stop.Refused (refusal.Grammar f p)) out stops = absurd stops
  stop_leaves (stop.Refused (refusal.Kinds f p)) out stops = absurd stops
  stop_leaves (stop.Refused refusal.Memory) out stops = inr (begun (Sends out.old out.new out.failed) stops)
  stop_leaves (stop.Refused refusal.Thread) out stops = absurd stops
  stop_leaves (stop.Refused refusal.Output) out stops = begun (Breaks out.old out.new out.failed) stops

-- ---- before anything is told

-- a text that is refused leaves the output as it was
pub untouched : (given : Given) (request : Request) (bytes : List ℕ) (why : Refusal) (out : Sent) → out.Unchanged → IsRefusalOf bytes why → Leaves given request (stop.Refused why) out
untouched given request bytes (refusal.File f) out same is = absurd is
untouched given request bytes (refusal.Text f p) out same is = same
untouched given request bytes (refusal.Grammar f p) out same is = same
untouched given request bytes (refusal.Kinds f p) out same is = same
untouched given request bytes refusal.Memory out same is = inl same
untouched given request bytes refusal.Thread out same is = absurd is
untouched given request bytes refusal.Output out same is = absurd is

-- a file that is not read has its cause
pub unread_cause : (given : Given) (name : List ℕ) (fault : Unread) → IfLacks (given.may_lack name) fault → IsCause given name (of_file fault)
unread_cause given name (unread.File why) lacks = lacks
unread_cause given name unread.Memory lacks = tt

-- and it leaves the output as it was
pub unread_leaves : (given : Given) (request : Request) (fault : Unread) (out : Sent) → out.Unchanged → Leaves given request (stop.Refused (of_file fault)) out
unread_leaves given request (unread.File why) out same = same
unread_leaves given request unread.Memory out same = inl same

-- and is told by its line, or by its name
pub unread_told : (given : Given) (request : Request) (fault : Unread) (err : Sent) → TellsUnread request.format request.name fault err → TellsStop given request (stop.Refused (of_file fault)) err
unread_told given request fault err (refusals.by_line line) = running.by_line line
unread_told given request fault err (refusals.by_name why is line) = running.of_name why (ap (λ f. stop.Refused (of_file f)) is) line

-- ---- what is answered

-- what stops it is handed on
pub handed : {T : Type 0} (r : Result T Stop) {why : Stop} (P : Stop → Type 0) → IsErr r × IsErrAnd r (λ e. e ≡ why) → P why → IfErr r P
handed r P same said = let p = err_from_is_err_and r same.1 in rw (p.1, p.2) said

pub if_ok_so : {T E : Type 0} (r : Result T E) (P Q : T → Type 0) → ((x : T) → P x → Q x) → IfOk r P → IfOk r Q
if_ok_so (Ok x) P Q weaker is = weaker x is
if_ok_so (Err e) P Q weaker is = tt

pub if_err_so : {T E : Type 0} (r : Result T E) (P Q : E → Type 0) → ((e : E) → P e → Q e) → IfErr r P → IfErr r Q
if_err_so (Ok x) P Q weaker is = tt
if_err_so (Err e) P Q weaker is = weaker e is
