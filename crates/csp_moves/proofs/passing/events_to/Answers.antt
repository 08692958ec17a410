-- The events of all steps, and none of a body with a fault.
use Rattle.std.proofs.Common.{List, [], map, Err, inl, inr, lit<, sym, ◌∙◌, ap, subst}
use Rattle.theory_syntax.specs.Process.{Process}
use Rattle.theory_syntax.specs.Value as pure
use Rattle.theory_semantics.specs.Meaning.Faults.{cause_in}
use Rattle.theory_semantics.specs.Meaning.Substitution.{put}
use Rattle.theory_semantics.proofs.Putting.{put_nothing}
use Rattle.csp_expression.specs.declared.no_value.NoValue.{NoValue}
use Rattle.csp_value.specs.Action.{event_of}
use Rattle.theory_origins.specs.Ways.{AreEventsTo}
use Rattle.csp_term.specs.Script.{script_of_parts}
use Rattle.csp_term.specs.Term.{process_of}
use Rattle.csp_steps.specs.declared.rule_step.RuleStep.{RuleStep}
use Rattle.csp_steps.specs.Answering.{Answers, IsAnswered, answered_of, answers_of}
use Rattle.csp_moves.specs.Passing.{IsPassing}
use Rattle.csp_moves.proofs.Found.{if_so}
use Rattle.csp_moves.proofs.Events.{events_are, no_events}
use Rattle.csp_moves.proofs.passing.events_to.Goals as goal

pub returns-in-Ok : goal.returns-in-Ok
returns-in-Ok g c =
    let s = script_of_parts c.args.script.now in
    let p = process_of c.args.body.now in
    let u = process_of c.args.target.now in
    let P : Process → Type 0 = λ q. IsAnswered s q (answers_of c.in-Ok.steps) in
    let Q : List (RuleStep g.row.A.Denot) → Type 0 = λ ss. IsAnswered s p (map answered_of ss) in
    if_so c.all_passing.result c.all_passing.ensures
    (λ events are. events_are s p u (IsPassing c.args.passing.now) (map answered_of c.deref.result.now) (map event_of events.items) (subst Q (sym c.deref.ensures.value) (subst P (put_nothing p) c.in-Ok.ensures)) are)

pub returns-in-Err-Cause : goal.returns-in-Err-Cause
returns-in-Err-Cause g c =
    let s = script_of_parts c.args.script.now in
    let p = process_of c.args.body.now in
    let u = process_of c.args.target.now in
    let P : List pure.Event → Type 0 = λ es. AreEventsTo s p u (IsPassing c.args.passing.now) es in
    let Q : NoValue → Type 0 = λ why. Answers {A = g.row.A.Denot} s (put [] p) (Err why) in
    let given = subst Q c.in-Err-Cause.field-0-is c.in-Err-Cause.ensures in
    subst P (sym (ap (map event_of) c.new.ensures.items)) (no_events s p u (IsPassing c.args.passing.now) _ (ap (cause_in s) (sym (put_nothing p)) ∙ given))

pub steps-requires : goal.steps-requires
steps-requires g c = elim g.met.A.AllocHandle.small [ inl e ↦ rw (e.0, e.1) (lit< tt) | inr e ↦ rw (e.0, e.1) (lit< tt) ]

pub all_passing-requires : goal.all_passing-requires
all_passing-requires g c = elim g.met.A.AllocHandle.small [ inl e ↦ rw (e.0, e.1) (lit< tt, (lit< tt, c.requires)) | inr e ↦ rw (e.0, e.1) (lit< tt, (lit< tt, c.requires)) ]

pub drop-steps-requires-room-T-Destruct : goal.drop-steps-requires-room-T-Destruct
drop-steps-requires-room-T-Destruct g c κs within = elim g.met.A.AllocHandle.small [ inl e ↦ rw (e.0, e.1) (lit< tt) | inr e ↦ rw (e.0, e.1) (lit< tt) ]
