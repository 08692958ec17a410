-- A tau or a tick is no event.
use Rattle.std.proofs.Common.{◌≡◌, true, false, sym, ◌∙◌, ap, ap₂}
use Rattle.theory_syntax.specs.Value.{Ev, Tau, Tick}
use Rattle.csp_value.specs.Action.{action_of}
use Rattle.csp_moves.proofs.passing.event_to.Goals as goal

pub returns-then-not-leads_to : goal.returns-then-not-leads_to
returns-then-not-leads_to g c = λ e same. let h : true ≡ false = sym (c.leads_to.ensures.1 (ap (λ s. s.1) same)) ∙ c.if-not-leads_to.true in cc h

pub returns-in-Tau : goal.returns-in-Tau
returns-in-Tau g c = λ e same. let h : Tau ≡ Ev e = sym (ap action_of c.in-Tau.is) ∙ ap (λ s. s.0) same in cc h

pub returns-in-Tick : goal.returns-in-Tick
returns-in-Tick g c = λ e same. let h : Tick ≡ Ev e = sym (ap action_of c.in-Tick.is) ∙ ap (λ s. s.0) same in cc h

pub returns-in-Event : goal.returns-in-Event
returns-in-Event g c = ap₂ (λ x o. (x, o)) (ap action_of c.in-Event.is) (c.leads_to.ensures.0 c.if-not-leads_to.false)
