-- What is shown of the file's script is shown of the file.
use Rattle.std.proofs.Common.{ℕ, List, ap, subst, refl, rules}
use Rattle.theory_syntax.specs.Process.{Script}
use Rattle.theory_notation.specs.Names.{Names}
use Rattle.csp_term.specs.Script.{script_of}
use Rattle.program.specs.Given.{given_of, sent}
use Rattle.program.specs.Reading.{IsRefusalOf}
use Rattle.program.specs.Refusal.{of_file}
use Rattle.program.specs.declared.refusal.Refusal.TheVariants as refusal
use Rattle.program.proofs.Beginnings.{cause_of_text, too_long}
use Rattle.told_refusals.specs.Refusals.{TellsRefusal}
use Rattle.walk_program.specs.Asking.{request_of}
use Rattle.walk_program.specs.Lines.{left}
use Rattle.named_scripts.specs.Naming.{IsNamedText, labels_of}
use Rattle.walk_program.specs.Running as running
use Rattle.walk_program.specs.Walking.{IsUnwalked, IsWalked}
use Rattle.walk_program.specs.declared.stop.Stop.TheVariants as stop
use Rattle.named_scripts.proofs.Beginnings.{named_file}
use Rattle.walk_program.proofs.Stopping.{so_of_file, stop_cause, stop_leaves, unread_cause, unread_leaves, unread_told, untouched}
use Rattle.walk_program.proofs.running.walk_file.Goals as goal

pub returns-in-Err-clause-stopped : goal.returns-in-Err-clause-stopped
returns-in-Err-clause-stopped g c three =
    let request = request_of c.args.settings.now in
    let given = given_of g.F.Files.may_hold g.F.Files.may_lack c.args.files.now c.args.resources.now.stack in
    let input = left g.I.Read.remaining c.args.input.now c.args.input.now in
    let fault = c.in-Err.fault in
    record {
      why = stop.Refused (of_file fault);
      cause = unread_cause given request.name fault c.in-Err.ensures.lacks;
      output = unread_leaves given request input fault (sent g.O.Sink.taken g.O.Sink.has_failed c.args.out.now c.args.out.now) refl;
      told = unread_told given request.name fault (sent g.E.Sink.taken g.E.Sink.has_failed c.args.err.now c.refuse_unread.new.err) c.refuse_unread.ensures.told;
    }

pub returns-in-Err-read-clause-stopped : goal.returns-in-Err-read-clause-stopped
returns-in-Err-read-clause-stopped g c three =
    let request = request_of c.args.settings.now in
    let given = given_of g.F.Files.may_hold g.F.Files.may_lack c.args.files.now c.args.resources.now.stack in
    let input = left g.I.Read.remaining c.args.input.now c.args.input.now in
    let why = c.in-Err-read.why in
    let bytes = c.in-Ok.text.items in
    let holds = c.in-Ok.ensures.holds in
    let told = c.refuse_text.new.err in
    let is = subst (λ bs. IsRefusalOf bs why) c.deref.ensures.value c.in-Err-read.ensures.refused in
    let T : List ℕ → Type 0 = λ bs. TellsRefusal request.name bs why (sent g.E.Sink.taken g.E.Sink.has_failed c.args.err.now told) in
    record {
      why = stop.Refused why;
      cause = cause_of_text given request.name bytes why holds is;
      output = untouched given request input bytes why (sent g.O.Sink.taken g.O.Sink.has_failed c.args.out.now c.args.out.now) refl is;
      told = running.of_text why bytes refl holds (subst T c.deref-in-Err-read.ensures.value c.refuse_text.ensures.told);
    }

pub returns-then-not-takes-clause-stopped : goal.returns-then-not-takes-clause-stopped
returns-then-not-takes-clause-stopped g c three =
    let request = request_of c.args.settings.now in
    let given = given_of g.F.Files.may_hold g.F.Files.may_lack c.args.files.now c.args.resources.now.stack in
    record {
      why = stop.Refused refusal.Thread;
      cause = too_long given request.name c.in-Ok.text.items c.in-Ok.ensures.holds (search rules);
      output = refl;
      told = running.by_line c.refuse.ensures.line;
    }

pub returns-in-Ok-walk_asked-clause-shown : goal.returns-in-Ok-walk_asked-clause-shown
returns-in-Ok-walk_asked-clause-shown g c zero =
    let request = request_of c.args.settings.now in
    let given = given_of g.F.Files.may_hold g.F.Files.may_lack c.args.files.now c.args.resources.now.stack in
    let script = script_of c.in-Ok-read.named.script in
    let labels = labels_of c.in-Ok-read.named in
    let named = subst (λ bs. IsNamedText bs script labels) c.deref.ensures.value c.in-Ok-read.ensures.named in
    let file = named_file given.may_hold request.name c.in-Ok.text.items script labels c.in-Ok.ensures.holds named in
    let input = left g.I.Read.remaining c.args.input.now c.walk_asked.new.input in
    let out = sent g.O.Sink.taken g.O.Sink.has_failed c.args.out.now c.walk_asked.new.out in
    let N : Names → Type 0 = λ ns. IsWalked request (script_of c.as_asked-named.result.script) ns input out in
    let S : Script → Type 0 = λ s. IsWalked request s labels.names input out in
    so_of_file given request script labels file (λ s ns. IsWalked request s ns input out)
    (subst S (c.as_asked-named.ensures.script named.checked.script_of.unfolds) (subst N (ap (λ l. l.names) c.as_asked-named.ensures.labels) c.in-Ok-walk_asked.ensures.walked))

pub returns-clause-stopped : goal.returns-clause-stopped
returns-clause-stopped g c three =
    let request = request_of c.args.settings.now in
    let given = given_of g.F.Files.may_hold g.F.Files.may_lack c.args.files.now c.args.resources.now.stack in
    let script = script_of c.in-Ok-read.named.script in
    let labels = labels_of c.in-Ok-read.named in
    let why = c.in-Err-walk_asked.why in
    let named = subst (λ bs. IsNamedText bs script labels) c.deref.ensures.value c.in-Ok-read.ensures.named in
    let file = named_file given.may_hold request.name c.in-Ok.text.items script labels c.in-Ok.ensures.holds named in
    let input = left g.I.Read.remaining c.args.input.now c.walk_asked.new.input in
    let out = sent g.O.Sink.taken g.O.Sink.has_failed c.args.out.now c.walk_asked.new.out in
    let N : Names → Type 0 = λ ns. IsUnwalked request (script_of c.as_asked-named.result.script) ns input why out in
    let S : Script → Type 0 = λ s. IsUnwalked request s labels.names input why out in
    let is = subst S (c.as_asked-named.ensures.script named.checked.script_of.unfolds) (subst N (ap (λ l. l.names) c.as_asked-named.ensures.labels) c.in-Err-walk_asked.ensures.stopped) in
    record {
      why = why;
      cause = stop_cause given request script labels file why input out is;
      output = stop_leaves given request script labels file why input out is;
      told = running.by_line c.report_stop.ensures.line;
    }
