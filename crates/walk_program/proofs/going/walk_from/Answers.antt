-- The walk is one of the script that is named.
use Rattle.std.proofs.Common.{ap, inl, inr, lit<, subst, sym}
use Rattle.std.specs.Prelude.{IfErr, IfOk}
use Rattle.theory_syntax.specs.Process.{Process, Script}
use Rattle.csp_print.specs.Names.{names_of}
use Rattle.csp_term.specs.Script.{script_of}
use Rattle.csp_term.specs.Term.{process_of}
use Rattle.program.specs.Given.{sent}
use Rattle.walk_program.specs.Asking.{IsStart, request_of}
use Rattle.walk_program.specs.Lines.{left}
use Rattle.walk_program.specs.Walking.{IsUnwalked, IsWalked}
use Rattle.walk_program.proofs.going.walk_from.Goals as goal

pub follow-requires-clause-begun : goal.follow-requires-clause-begun
follow-requires-clause-begun g c = ap (λ t. t.taken) c.in_ok-walk.ensures.begun

pub follow-requires-clause-asked : goal.follow-requires-clause-asked
follow-requires-clause-asked g c =
    let request = request_of c.args.settings.now in
    let S : Script → Type 0 = λ s. IsStart request s (process_of c.args.start.now) in
    let T : Process → Type 0 = λ t. IsStart request (script_of c.in_ok-walk.walk.script.now) t in
    subst T (sym (ap (λ t. t.start) c.in_ok-walk.ensures.begun)) (subst S (sym c.in_ok-walk.ensures.script) c.requires.asked)

pub returns-clause-walked : goal.returns-clause-walked
returns-clause-walked g c =
    let request = request_of c.args.settings.now in
    let names = names_of c.args.named.now.names in
    let read = left g.I.Read.remaining c.args.input.now c.follow.new.input in
    let output = sent g.O.Sink.taken g.O.Sink.has_failed c.args.out.now c.follow.new.out in
    let S : Script → Type 0 = λ s. IfOk c.follow.result (λ x. IsWalked request s names read output) in
    subst S c.in_ok-walk.ensures.script c.follow.ensures.walked

pub returns-clause-stopped : goal.returns-clause-stopped
returns-clause-stopped g c =
    let request = request_of c.args.settings.now in
    let names = names_of c.args.named.now.names in
    let read = left g.I.Read.remaining c.args.input.now c.follow.new.input in
    let output = sent g.O.Sink.taken g.O.Sink.has_failed c.args.out.now c.follow.new.out in
    let S : Script → Type 0 = λ s. IfErr c.follow.result (λ why. IsUnwalked request s names read why output) in
    subst S c.in_ok-walk.ensures.script c.follow.ensures.stopped

pub drop-walk-requires-2-room-T-Destruct : goal.drop-walk-requires-2-room-T-Destruct
drop-walk-requires-2-room-T-Destruct g c κs within = elim g.met.A.AllocHandle.small [ inl e ↦ rw (e.0, e.1) (lit< tt) | inr e ↦ rw (e.0, e.1) (lit< tt) ]

pub drop-walk-requires-3-room-T-Destruct : goal.drop-walk-requires-3-room-T-Destruct
drop-walk-requires-3-room-T-Destruct g c κs within = elim g.met.A.AllocHandle.small [ inl e ↦ rw (e.0, e.1) (lit< tt) | inr e ↦ rw (e.0, e.1) (lit< tt) ]
