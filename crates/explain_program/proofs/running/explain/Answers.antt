-- What is told of the file's script is told of the file.
use Rattle.std.proofs.Common.{ℕ, List, subst, sym, ap, ◌∙◌, refl, rules}
use Rattle.theory_syntax.specs.Process.{Script}
use Rattle.csp_term.specs.Script.{script_of}
use Rattle.program.specs.Given.{given_of, sent}
use Rattle.program.specs.Reading.{IsRefusalOf}
use Rattle.program.specs.Refusal.{of_file}
use Rattle.program.specs.declared.refusal.Refusal.TheVariants as refusal
use Rattle.program.proofs.Beginnings.{cause_of_text, too_long}
use Rattle.explain_program.specs.Asking.{request_of}
use Rattle.explain_program.specs.Explaining.{StopsBy, TellsAll}
use Rattle.named_scripts.specs.Naming.{IsNamedText, Labels, labels_of}
use Rattle.explain_program.specs.Refusals.{TellsRefusal}
use Rattle.explain_program.specs.Running as running
use Rattle.explain_program.specs.declared.stop.Stop.TheVariants as stop
use Rattle.named_scripts.proofs.Beginnings.{named_file}
use Rattle.explain_program.proofs.Stopping.{stop_cause, stop_leaves, unread_cause, unread_leaves, unread_told, untouched}
use Rattle.explain_program.proofs.running.explain.Goals as goal

pub returns-in-Err-clause-stopped : goal.returns-in-Err-clause-stopped
returns-in-Err-clause-stopped g c three =
    let request = request_of c.args.settings.now in
    let given = given_of g.F.Files.may_hold g.F.Files.may_lack c.args.files.now c.args.resources.now.stack in
    let fault = c.in-Err.fault in
    record {
      why = stop.Refused (of_file fault);
      cause = unread_cause given request.name fault c.in-Err.ensures.lacks;
      output = unread_leaves given request fault (sent g.O.Sink.taken g.O.Sink.has_failed c.args.out.now c.args.out.now) refl;
      told = unread_told given request fault (sent g.E.Sink.taken g.E.Sink.has_failed c.args.err.now c.refuse_unread.new.err) c.refuse_unread.ensures.told;
    }

pub returns-in-Err-read-clause-stopped : goal.returns-in-Err-read-clause-stopped
returns-in-Err-read-clause-stopped g c three =
    let request = request_of c.args.settings.now in
    let given = given_of g.F.Files.may_hold g.F.Files.may_lack c.args.files.now c.args.resources.now.stack in
    let why = c.in-Err-read.why in
    let bytes = c.in-Ok.text.items in
    let holds = c.in-Ok.ensures.holds in
    let told = c.refuse_text.new.err in
    let is = subst (λ bs. IsRefusalOf bs why) c.deref.ensures.value c.in-Err-read.ensures.refused in
    let T : List ℕ → Type 0 = λ bs. TellsRefusal request.format request.name bs why (sent g.E.Sink.taken g.E.Sink.has_failed c.args.err.now told) in
    record {
      why = stop.Refused why;
      cause = cause_of_text given request.name bytes why holds is;
      output = untouched given request bytes why (sent g.O.Sink.taken g.O.Sink.has_failed c.args.out.now c.args.out.now) refl is;
      told = running.of_text why bytes refl holds (subst T c.deref-in-Err-read.ensures.value c.refuse_text.ensures.told);
    }

pub returns-then-not-takes-clause-stopped : goal.returns-then-not-takes-clause-stopped
returns-then-not-takes-clause-stopped g c three =
    let request = request_of c.args.settings.now in
    let given = given_of g.F.Files.may_hold g.F.Files.may_lack c.args.files.now c.args.resources.now.stack in
    record {
      why = stop.Refused refusal.Thread;
      cause = too_long given request.name c.in-Ok.text.items c.in-Ok.ensures.holds (search rules);
      output = refl;
      told = running.by_line c.report_stop.ensures.line;
    }

pub returns-in-Ok-explain_script-clause-explained : goal.returns-in-Ok-explain_script-clause-explained
returns-in-Ok-explain_script-clause-explained g c below =
    let request = request_of c.args.settings.now in
    let script = script_of c.in-Ok-read.named.script in
    let labels = labels_of c.in-Ok-read.named in
    let named = subst (λ bs. IsNamedText bs script labels) c.deref.ensures.value c.in-Ok-read.ensures.named in
    let output = sent g.O.Sink.taken g.O.Sink.has_failed c.args.out.now c.explain_script.new.out in
    let N : Labels → Type 0 = λ ns. TellsAll request (script_of c.as_asked-named.result.script) ns output c.in-Ok-explain_script.status in
    let R : Script → Type 0 = λ s. TellsAll request s labels output c.in-Ok-explain_script.status in
    let read = c.as_asked-named.ensures.script named.checked.script_of.unfolds in
    let same = ap (λ (s : Script). s.assertions) read in
    record {
      script = script;
      labels = labels;
      of_file = named_file (g.F.Files.may_hold c.args.files.now) request.name c.in-Ok.text.items script labels c.in-Ok.ensures.holds named;
      told = subst R read (subst N c.as_asked-named.ensures.labels c.in-Ok-explain_script.ensures.told.1);
      noted = record {
        none = λ none. c.note_none.ensures.none (same ∙ none);
        some = λ some. c.note_none.ensures.some (λ none. some (sym same ∙ none));
      };
    }

pub returns-clause-stopped : goal.returns-clause-stopped
returns-clause-stopped g c three =
    let request = request_of c.args.settings.now in
    let given = given_of g.F.Files.may_hold g.F.Files.may_lack c.args.files.now c.args.resources.now.stack in
    let script = script_of c.in-Ok-read.named.script in
    let labels = labels_of c.in-Ok-read.named in
    let why = c.in-Err-explain_script.why in
    let out = c.explain_script.new.out in
    let named = subst (λ bs. IsNamedText bs script labels) c.deref.ensures.value c.in-Ok-read.ensures.named in
    let file = named_file given.may_hold request.name c.in-Ok.text.items script labels c.in-Ok.ensures.holds named in
    let output = sent g.O.Sink.taken g.O.Sink.has_failed c.args.out.now out in
    let N : Labels → Type 0 = λ ns. StopsBy request (script_of c.as_asked-named.result.script) ns why output in
    let R : Script → Type 0 = λ s. StopsBy request s labels why output in
    let stops = subst R (c.as_asked-named.ensures.script named.checked.script_of.unfolds) (subst N c.as_asked-named.ensures.labels c.in-Err-explain_script.ensures.stopped) in
    record {
      why = why;
      cause = stop_cause given request script labels file why (sent g.O.Sink.taken g.O.Sink.has_failed c.args.out.now out) stops;
      output = stop_leaves given request script labels file why (sent g.O.Sink.taken g.O.Sink.has_failed c.args.out.now out) stops;
      told = running.by_line c.report_stop-in-Err-explain_script.ensures.line;
    }
