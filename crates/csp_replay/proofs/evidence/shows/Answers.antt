-- Each kind of evidence by the steps, or by the offers; none where the term is stuck.
use Rattle.std.proofs.Common.{◌↔◌, List, Vec, IsTrue, Contains, map, refl, sym, ◌∙◌, ap, subst, inl, inr, lit≤}
use Rattle.theory_runs.specs.States.{Shows}
use Rattle.theory_runs.proofs.Firing.{not_both, not_large}
use Rattle.theory_runs.proofs.Showing.{shows_step, shows_offer, shows_deadlock, stuck_shows_none}
use Rattle.theory_syntax.specs.Process.{Process}
use Rattle.csp_value.specs.declared.action.Action.{Action}
use Rattle.csp_value.specs.Action.{action_of}
use Rattle.csp_fire.specs.declared.form.Step.{Step}
use Rattle.csp_fire.specs.Form.{form_of, step_of}
use Rattle.verdict.specs.declared.shown.Evidence.{Evidence}
use Rattle.verdict.specs.Outcome.{evidence_of}
use Rattle.csp_replay.specs.Ends.{HasStepBy, IsDead}
use Rattle.csp_replay.proofs.Fired.{form_at}
use Rattle.csp_replay.proofs.evidence.shows.Goals as goal

pub returns-in-Event : goal.returns-in-Event
returns-in-Event g c =
    let e = c.args.expansion.now in
    let form = form_at e e.script e.term _ refl refl (ap form_of (sym c.in-Steps.is) ∙ c.form.ensures.value) c.form.ensures.exact in
    let S : List (Step g.row.A.Denot) → Type 0 = λ ss. IsTrue c.has_step_by.result ↔ HasStepBy (map step_of ss) (action_of c.in-Event.action) in
    let P : Evidence g.row.A.Denot → Type 0 = λ v. IsTrue c.has_step_by.result ↔ Shows e.script e.term (evidence_of v) in
    subst P (sym c.in-Event.is) (shows_step e.script e.term (map step_of c.in-Steps.steps.items) _ form (action_of c.in-Event.action) c.has_step_by.result (subst S c.deref.ensures.value c.has_step_by.ensures))

pub returns-in-Offers : goal.returns-in-Offers
returns-in-Offers g c =
    let e = c.args.expansion.now in
    let form = form_at e e.script e.term _ refl refl (ap form_of (sym c.in-Steps.is) ∙ c.form.ensures.value) c.form.ensures.exact in
    let O : List (Vec (Action g.row.A.Denot) g.row.A.Denot) → Type 0 = λ os. IsTrue c.has_offer.result ↔ Contains (map (λ offer. map action_of offer.items) os) (map action_of c.deref-in-Offers-2.result.now) in
    let A : List (Action g.row.A.Denot) → Type 0 = λ xs. IsTrue c.has_offer.result ↔ Contains (map (λ offer. map action_of offer.items) c.in-Steps.offers.items) (map action_of xs) in
    let P : Evidence g.row.A.Denot → Type 0 = λ v. IsTrue c.has_offer.result ↔ Shows e.script e.term (evidence_of v) in
    let told = subst A c.deref-in-Offers-2.ensures.value (subst O c.deref-in-Offers.ensures.value c.has_offer.ensures) in
    subst P (sym c.in-Offers.is) (shows_offer e.script e.term (map step_of c.in-Steps.steps.items) _ form (map action_of c.in-Offers.actions.items) c.has_offer.result told)

pub returns-in-Deadlock : goal.returns-in-Deadlock
returns-in-Deadlock g c =
    let e = c.args.expansion.now in
    let form = form_at e e.script e.term _ refl refl (ap form_of (sym c.in-Steps.is) ∙ c.form.ensures.value) c.form.ensures.exact in
    let S : List (Step g.row.A.Denot) → Type 0 = λ ss. IsTrue c.is_dead.result ↔ IsDead e.term (map step_of ss) in
    let T : Process → Type 0 = λ t. IsTrue c.is_dead.result ↔ IsDead t (map step_of c.deref-in-Deadlock.result.now) in
    let P : Evidence g.row.A.Denot → Type 0 = λ v. IsTrue c.is_dead.result ↔ Shows e.script e.term (evidence_of v) in
    let told = subst S c.deref-in-Deadlock.ensures.value (subst T c.term.ensures.value c.is_dead.ensures) in
    subst P (sym c.in-Deadlock.is) (shows_deadlock e.script e.term (map step_of c.in-Steps.steps.items) _ form c.is_dead.result told)

pub returns-in-Divergence : goal.returns-in-Divergence
returns-in-Divergence g c = absurd (c.requires (ap evidence_of c.in-Divergence.is))

pub returns-in-Faulty : goal.returns-in-Faulty
returns-in-Faulty g c =
    let e = c.args.expansion.now in
    let faulty = form_at e e.script e.term _ refl refl (ap form_of (sym c.in-Faulty.is) ∙ c.form.ensures.value) c.form.ensures.exact in
    (λ told. absurd (cc told), λ shows. absurd (stuck_shows_none e.script e.term (evidence_of c.args.evidence.now) (not_both e.script e.term _ faulty) shows))

pub returns-in-Large : goal.returns-in-Large
returns-in-Large g c =
    let e = c.args.expansion.now in
    let large = form_at e e.script e.term _ refl refl (ap form_of (sym c.in-Large.is) ∙ c.form.ensures.value) c.form.ensures.exact in
    (λ told. absurd (cc told), λ shows. absurd (stuck_shows_none e.script e.term (evidence_of c.args.evidence.now) (not_large e.script e.term large) shows))

pub has_step_by-requires : goal.has_step_by-requires
has_step_by-requires g c = elim g.met.A.AllocHandle.small [ inl e ↦ rw (e.0, e.1) (lit≤ tt, lit≤ tt) | inr e ↦ rw (e.0, e.1) (lit≤ tt, lit≤ tt) ]

pub is_dead-requires : goal.is_dead-requires
is_dead-requires g c = elim g.met.A.AllocHandle.small [ inl e ↦ rw (e.0, e.1) (search (lit≤)) | inr e ↦ rw (e.0, e.1) (search (lit≤)) ]
