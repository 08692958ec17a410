-- What is printed of the file's script is printed of the file.
use Rattle.std.proofs.Common.{ℕ, List, subst, refl, rules}
use Rattle.theory_syntax.specs.Process.{Script}
use Rattle.theory_checking.specs.Checked.{IsCheckedText}
use Rattle.csp_term.specs.Script.{script_of}
use Rattle.program.specs.Given.{given_of, sent}
use Rattle.program.specs.Reading.{IsRefusalOf}
use Rattle.program.specs.Refusal.{of_file}
use Rattle.program.specs.declared.refusal.Refusal.TheVariants as refusal
use Rattle.program.proofs.Beginnings.{cause_of_text, too_long}
use Rattle.program.proofs.Beginnings as beginnings
use Rattle.told_refusals.specs.Refusals.{TellsRefusal}
use Rattle.graph_program.specs.Asking.{request_of}
use Rattle.graph_program.specs.Giving.{IsPrinted, IsUnprinted}
use Rattle.graph_program.specs.Running as running
use Rattle.graph_program.specs.declared.stop.Stop.TheVariants as stop
use Rattle.graph_program.proofs.Stopping.{so_of_file, stop_cause, stop_leaves, unread_cause, unread_leaves, unread_told, untouched}
use Rattle.graph_program.proofs.running.draw.Goals as goal

pub returns-in-Err-clause-stopped : goal.returns-in-Err-clause-stopped
returns-in-Err-clause-stopped g c three =
    let request = request_of c.args.settings.now in
    let given = given_of g.F.Files.may_hold g.F.Files.may_lack c.args.files.now c.args.resources.now.stack in
    let fault = c.in-Err.fault in
    record {
      why = stop.Refused (of_file fault);
      cause = unread_cause given request.name fault c.in-Err.ensures.lacks;
      output = unread_leaves given request fault (sent g.O.Sink.taken g.O.Sink.has_failed c.args.out.now c.args.out.now) refl;
      told = unread_told given request.name fault (sent g.E.Sink.taken g.E.Sink.has_failed c.args.err.now c.refuse_unread.new.err) c.refuse_unread.ensures.told;
    }

pub returns-in-Err-read-clause-stopped : goal.returns-in-Err-read-clause-stopped
returns-in-Err-read-clause-stopped g c three =
    let request = request_of c.args.settings.now in
    let given = given_of g.F.Files.may_hold g.F.Files.may_lack c.args.files.now c.args.resources.now.stack in
    let why = c.in-Err-read.why in
    let bytes = c.in-Ok.text.items in
    let holds = c.in-Ok.ensures.holds in
    let told = c.refuse_text.new.err in
    let is = subst (λ bs. IsRefusalOf bs why) c.deref.ensures.value c.in-Err-read.ensures.refused in
    let T : List ℕ → Type 0 = λ bs. TellsRefusal request.name bs why (sent g.E.Sink.taken g.E.Sink.has_failed c.args.err.now told) in
    record {
      why = stop.Refused why;
      cause = cause_of_text given request.name bytes why holds is;
      output = untouched given request bytes why (sent g.O.Sink.taken g.O.Sink.has_failed c.args.out.now c.args.out.now) refl is;
      told = running.of_text why bytes refl holds (subst T c.deref-in-Err-read.ensures.value c.refuse_text.ensures.told);
    }

pub returns-then-not-takes-clause-stopped : goal.returns-then-not-takes-clause-stopped
returns-then-not-takes-clause-stopped g c three =
    let request = request_of c.args.settings.now in
    let given = given_of g.F.Files.may_hold g.F.Files.may_lack c.args.files.now c.args.resources.now.stack in
    record {
      why = stop.Refused refusal.Thread;
      cause = too_long given request.name c.in-Ok.text.items c.in-Ok.ensures.holds (search rules);
      output = refl;
      told = running.by_line c.refuse.ensures.line;
    }

pub returns-in-Ok-print_graph-clause-drawn : goal.returns-in-Ok-print_graph-clause-drawn
returns-in-Ok-print_graph-clause-drawn g c zero =
    let request = request_of c.args.settings.now in
    let given = given_of g.F.Files.may_hold g.F.Files.may_lack c.args.files.now c.args.resources.now.stack in
    let script = script_of c.in-Ok-read.script in
    let checked = subst (λ bs. IsCheckedText bs script) c.deref.ensures.value c.in-Ok-read.ensures.script in
    let file = beginnings.of_file given.may_hold request.name c.in-Ok.text.items script c.in-Ok.ensures.holds checked in
    let out = sent g.O.Sink.taken g.O.Sink.has_failed c.args.out.now c.print_graph.new.out in
    let P : Script → Type 0 = λ s. IsPrinted request s out in
    so_of_file given request script file P (subst P (c.as_asked-script.ensures checked.2.script_of.unfolds) c.in-Ok-print_graph.ensures.printed)

pub returns-clause-stopped : goal.returns-clause-stopped
returns-clause-stopped g c three =
    let request = request_of c.args.settings.now in
    let given = given_of g.F.Files.may_hold g.F.Files.may_lack c.args.files.now c.args.resources.now.stack in
    let script = script_of c.in-Ok-read.script in
    let why = c.in-Err-print_graph.why in
    let checked = subst (λ bs. IsCheckedText bs script) c.deref.ensures.value c.in-Ok-read.ensures.script in
    let file = beginnings.of_file given.may_hold request.name c.in-Ok.text.items script c.in-Ok.ensures.holds checked in
    let out = sent g.O.Sink.taken g.O.Sink.has_failed c.args.out.now c.print_graph.new.out in
    let P : Script → Type 0 = λ s. IsUnprinted request s why out in
    let is = subst P (c.as_asked-script.ensures checked.2.script_of.unfolds) c.in-Err-print_graph.ensures.unprinted in
    record {
      why = why;
      cause = stop_cause given request script file why out is;
      output = stop_leaves given request script file why out is;
      told = running.by_line c.report_stop.ensures.line;
    }
