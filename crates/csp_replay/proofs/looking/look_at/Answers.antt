-- The form shows whether the term is stuck so, and tells all steps.
use Rattle.std.proofs.Common.{List, sym, subst}
use Rattle.theory_syntax.specs.Value as pure
use Rattle.theory_syntax.specs.Process.{Process}
use Rattle.theory_runs.specs.Layers.{AreSteps}
use Rattle.theory_runs.proofs.Forms.{form_steps, shown, shows}
use Rattle.csp_term.specs.Script.{script_of}
use Rattle.csp_term.specs.Term.{process_of}
use Rattle.csp_fire.specs.Form.{form_of}
use Rattle.csp_replay.specs.Hindrance.{hindrance_of}
use Rattle.csp_replay.proofs.FiredOnce.{form_at}
use Rattle.csp_replay.proofs.looking.look_at.Goals as goal

pub returns-then-is_shown_by : goal.returns-then-is_shown_by
returns-then-is_shown_by g c =
    let script = script_of c.args.script.now in
    let t = process_of c.args.term.now in
    let fired = c.in_ok-fire.ensures in
    let form = form_at c.in_ok-fire.field-0 script t _ fired.script fired.term c.into_form-form.ensures fired.exact in
    shown script t (hindrance_of c.args.hindrance) (form_of c.into_form-form.result) form (c.is_shown_by.ensures.0 c.if-is_shown_by.true)

pub returns : goal.returns
returns g c =
    let script = script_of c.args.script.now in
    let t = process_of c.args.term.now in
    let h = hindrance_of c.args.hindrance in
    let fired = c.in_ok-fire.ensures in
    let form = form_at c.in_ok-fire.field-0 script t _ fired.script fired.term c.into_form-form.ensures fired.exact in
    let S : List (pure.Action × Process) → Type 0 = λ ss. AreSteps script t ss in (
      subst S (sym c.steps_of_form.ensures) (form_steps script t (form_of c.into_form-form.result) form),
      λ stuck. let yes = c.is_shown_by.ensures.1 (shows script t h (form_of c.into_form-form.result) form stuck) in let no = c.if-is_shown_by.false in cc (yes, no),
    )
