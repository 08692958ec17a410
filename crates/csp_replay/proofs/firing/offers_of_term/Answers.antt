-- The form tells all acceptances.
use Rattle.std.proofs.Common.{List, Vec, sym, ◌∙◌, ap, subst, inl, inr, lit<}
use Rattle.theory_runs.specs.Acceptances.{AreOffers}
use Rattle.theory_runs.proofs.Acceptances.{fired_offers, no_offers}
use Rattle.theory_runs.proofs.Firing.{not_both, not_large}
use Rattle.csp_value.specs.declared.action.Action.{Action}
use Rattle.csp_term.specs.Script.{script_of}
use Rattle.csp_term.specs.Term.{process_of}
use Rattle.csp_fire.specs.Form.{form_of}
use Rattle.csp_replay.specs.Offers.{offers_listed}
use Rattle.csp_replay.proofs.Fired.{form_at}
use Rattle.csp_replay.proofs.firing.offers_of_term.Goals as goal

pub returns-in-Steps : goal.returns-in-Steps
returns-in-Steps g c =
    let script = script_of c.args.script.now in
    let t = process_of c.args.term.now in
    let fired = c.in_ok-fire.ensures in
    let form = form_at c.in_ok-fire.field-0 script t _ fired.script fired.term (ap form_of (sym c.in-Steps.is) ∙ c.into_form.ensures) fired.exact in
    fired_offers script t _ (offers_listed c.in-Steps.offers.items) form

pub returns-in-Faulty : goal.returns-in-Faulty
returns-in-Faulty g c =
    let script = script_of c.args.script.now in
    let t = process_of c.args.term.now in
    let fired = c.in_ok-fire.ensures in
    let form = form_at c.in_ok-fire.field-0 script t _ fired.script fired.term (ap form_of (sym c.in-Faulty.is) ∙ c.into_form.ensures) fired.exact in
    let P : List (Vec (Action g.row.A.Denot) g.row.A.Denot) → Type 0 = λ os. AreOffers script t (offers_listed os) in
    subst P (sym c.new.ensures.items) (no_offers script t (not_both script t _ form))

pub returns : goal.returns
returns g c =
    let script = script_of c.args.script.now in
    let t = process_of c.args.term.now in
    let fired = c.in_ok-fire.ensures in
    let form = form_at c.in_ok-fire.field-0 script t _ fired.script fired.term (ap form_of (sym c.in-Large.is) ∙ c.into_form.ensures) fired.exact in
    let P : List (Vec (Action g.row.A.Denot) g.row.A.Denot) → Type 0 = λ os. AreOffers script t (offers_listed os) in
    subst P (sym c.new-in-Large.ensures.items) (no_offers script t (not_large script t form))

pub drop-into_form-requires-room-T-Destruct : goal.drop-into_form-requires-room-T-Destruct
drop-into_form-requires-room-T-Destruct g c κs within = elim g.met.A.AllocHandle.small [ inl e ↦ rw (e.0, e.1) (lit< tt) | inr e ↦ rw (e.0, e.1) (lit< tt) ]
