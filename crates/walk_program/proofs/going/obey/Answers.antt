-- What does not go out is the answer to the command.
use Rattle.std.proofs.Common.{subst}
use Rattle.std.specs.Prelude.{Option}
use Rattle.theory_syntax.specs.Process.{Script}
use Rattle.theory_walk.specs.Moves.{IsMenu}
use Rattle.theory_walk.specs.Trails.{here}
use Rattle.theory_walk.specs.Walks.{Place, answer_to, shown}
use Rattle.csp_print.specs.Names.{names_of}
use Rattle.csp_term.specs.Script.{script_of}
use Rattle.counterexample.specs.Widths.{width_of}
use Rattle.state_walk.specs.Answers.{Follows}
use Rattle.state_walk.specs.Walks.{menu_of, place_of, trail_of}
use Rattle.state_walk.specs.declared.answer.Answer.{Answer}
use Rattle.program.specs.Given.{sent}
use Rattle.walk_program.specs.Stops.{LeavesText}
use Rattle.walk_program.specs.Walking.{IsAnswered}
use Rattle.walk_program.specs.declared.stop.Stop.{Stop}
use Rattle.walk_program.proofs.Steps.{answered_by, given_said, given_shown}
use Rattle.walk_program.proofs.Stopping.{handed}
use Rattle.walk_program.proofs.going.obey.Goals as goal

pub returns-in_err-show-in-Shown-clause-cut : goal.returns-in_err-show-in-Shown-clause-cut
returns-in_err-show-in-Shown-clause-cut g c =
    let script = script_of c.args.walk.now.script.now in
    let names = names_of c.args.view.now.names.now in
    let width = width_of c.args.view.now.width in
    let p = place_of c.args.walk.now in
    let q = place_of c.answer.new.self in
    let command = c.args.command.now in
    let asked = answer_to names p command in
    let out = sent g.O.Sink.taken g.O.Sink.has_failed c.args.out.now c.show.new.out in
    let F : Answer → Type 0 = λ a. Follows asked p a q in
    let M : Script → Type 0 = λ s. IsMenu s (here (trail_of c.answer.new.self)) (menu_of c.answer.new.self.menu) in
    let given = given_shown script names width asked p q (subst F c.in-Shown.is c.in_ok-answer.ensures.follows) (subst M c.answer.ensures.script c.answer.ensures.kept.menu) in
    let L : Stop → Type 0 = λ why. LeavesText why (λ WentOut. (x : Option Place) × IsAnswered script names width p command x WentOut) out in
    handed c.from_residual-in_err-show-in-Shown.result L c.from_residual-in_err-show-in-Shown.ensures
    (answered_by c.in_err-show-in-Shown.field-0.0 script names width p command (shown names width q) _ out given c.in_err-show-in-Shown.ensures.cut)

pub returns-in_err-say-in-Said-clause-cut : goal.returns-in_err-say-in-Said-clause-cut
returns-in_err-say-in-Said-clause-cut g c =
    let script = script_of c.args.walk.now.script.now in
    let names = names_of c.args.view.now.names.now in
    let width = width_of c.args.view.now.width in
    let p = place_of c.args.walk.now in
    let q = place_of c.answer.new.self in
    let command = c.args.command.now in
    let asked = answer_to names p command in
    let out = sent g.O.Sink.taken g.O.Sink.has_failed c.args.out.now c.say.new.out in
    let F : Answer → Type 0 = λ a. Follows asked p a q in
    let given = given_said script names width asked p q c.in-Said.text (subst F c.in-Said.is c.in_ok-answer.ensures.follows) in
    let L : Stop → Type 0 = λ why. LeavesText why (λ WentOut. (x : Option Place) × IsAnswered script names width p command x WentOut) out in
    handed c.from_residual-in_err-say-in-Said.result L c.from_residual-in_err-say-in-Said.ensures
    (answered_by c.in_err-say-in-Said.field-0.0 script names width p command c.in-Said.text.now _ out given c.in_err-say-in-Said.ensures.cut)
