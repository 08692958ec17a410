-- Tau stays under the operator, tick ends all, and an event is done as each of its images.
use Rattle.std.proofs.Common.{◌≡◌, List, [], ◌∷◌, ◌++◌, map, OnOk, Option, sym, ◌∙◌, ap, subst, inl, inr, lit<}
use Rattle.theory_syntax.specs.Value.{Action, Tau, Tick}
use Rattle.theory_syntax.specs.Process.{Process}
use Rattle.theory_semantics.specs.Meaning.Events.{or_itself}
use Rattle.csp_value.specs.Action.{action_of}
use Rattle.csp_steps.specs.Answering.{Answered, answered_of, target_of}
use Rattle.csp_steps.specs.Composing.{frame_of, rename_answer, under_limits}
use Rattle.csp_events.specs.Imaging.{found_images}
use Rattle.csp_steps.proofs.renaming.add_one.Goals as goal

abbrev one_step : Action → Option Process → List Answered
one_step x t = (x, t) ∷ []

pub returns-in_ok-omega-in-Tick : goal.returns-in_ok-omega-in-Tick
returns-in_ok-omega-in-Tick g c =
    let f = rename_answer (λ e. or_itself e (found_images c.args.images.now e)) (under_limits (frame_of c.args.frame.now)) in
    let t = target_of c.args.of_body.target in
    let P : List Answered → Type 0 = λ bs. OnOk c.add_step.result (map answered_of c.add_step.new.steps.items ≡ map answered_of c.args.steps.now.items ++ bs) in
    subst P (ap (one_step Tick) c.in_ok-omega-in-Tick.ensures ∙ sym (ap (λ x. f (action_of x) t) c.in-Tick.is)) c.add_step.ensures

pub returns-in_ok-of-in-Tau : goal.returns-in_ok-of-in-Tau
returns-in_ok-of-in-Tau g c =
    let f = rename_answer (λ e. or_itself e (found_images c.args.images.now e)) (under_limits (frame_of c.args.frame.now)) in
    let t = target_of c.args.of_body.target in
    let P : List Answered → Type 0 = λ bs. OnOk c.add_step-in-Tau.result (map answered_of c.add_step-in-Tau.new.steps.items ≡ map answered_of c.args.steps.now.items ++ bs) in
    subst P (ap (one_step Tau) c.in_ok-of-in-Tau.ensures ∙ sym (ap (λ x. f (action_of x) t) c.in-Tau.is)) c.add_step-in-Tau.ensures

pub returns-in-Event : goal.returns-in-Event
returns-in-Event g c =
    let f = rename_answer (λ e. or_itself e (found_images c.args.images.now e)) (under_limits (frame_of c.args.frame.now)) in
    let t = target_of c.args.of_body.target in
    let P : List Answered → Type 0 = λ bs. OnOk c.add_event.result (map answered_of c.add_event.new.steps.items ≡ map answered_of c.args.steps.now.items ++ bs) in
    subst P (sym (ap (λ x. f (action_of x) t) c.in-Event.is)) c.add_event.ensures

pub add_step-requires : goal.add_step-requires
add_step-requires g c = elim g.met.A.AllocHandle.small [ inl e ↦ rw (e.0, e.1) (lit< tt, lit< tt) | inr e ↦ rw (e.0, e.1) (lit< tt, lit< tt) ]

pub add_step-requires-in-Tau : goal.add_step-requires-in-Tau
add_step-requires-in-Tau g c = elim g.met.A.AllocHandle.small [ inl e ↦ rw (e.0, e.1) (lit< tt, lit< tt) | inr e ↦ rw (e.0, e.1) (lit< tt, lit< tt) ]

pub add_event-requires : goal.add_event-requires
add_event-requires g c = elim g.met.A.AllocHandle.small [ inl e ↦ rw (e.0, e.1) (lit< tt, (lit< tt, c.requires)) | inr e ↦ rw (e.0, e.1) (lit< tt, (lit< tt, c.requires)) ]
