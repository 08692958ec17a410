-- Tick alone, and all actions.
use Rattle.std.proofs.Common.{◌≡◌, ◌&&◌, map, nat_eq, arith, ◌∙◌, true, false, length, ap, sym}
use Rattle.std.proofs.lemmas.Bool.{eq-eqb, ne_eqb}
use Rattle.csp_value.specs.Action.{action_of}
use Rattle.csp_fire.specs.Form.{step_of}
use Rattle.csp_fire.specs.Offering.{actions_of, has_tau, has_tick, tick_offer}
use Rattle.std.proofs.lemmas.List.{length-map}
use Rattle.csp_fire.proofs.Offered.{with_tick, without_tick, unstable, only_tick, stable}
use Rattle.csp_fire.proofs.offers.offers.Goals as goal
use Rattle.csp_fire.proofs.offers.offers.Goals.{then-ticks+in_ok-tick_alone+in_ok-push, else-ticks}
use Rattle.csp_fire.proofs.offers.offers.Goals.{then-not-ticks+in_ok-push-2, then-not-ticks-via-then-not-ticks, then-not-ticks-via-else-not-ticks+then-len-ne1, else-not-ticks+else-len-ne1}

pub returns-then-has_tau : goal.returns-then-has_tau
returns-then-has_tau g c =
    let ss = map step_of c.args.steps.now in
    let tick : has_tick ss ≡ c.has_tick-ticks.result = sym c.has_tick-ticks.ensures in
    let ticks : map (λ xs. map action_of xs.items) c.if-ticks.offers.items ≡ tick_offer ss = elim c.if-ticks.branch [
      | then-ticks+in_ok-tick_alone+in_ok-push w ↦ with_tick (λ xs. map action_of xs.items) ss c.if-ticks.offers.items c.new-offers.result.items w.in_ok-tick_alone.field-0 (tick ∙ w.if-ticks.true) c.new-offers.ensures.items (ap (λ v. v.items) w.offers-is ∙ w.in_ok-push.ensures.items) w.in_ok-tick_alone.ensures
      | else-ticks w ↦ without_tick (λ xs. map action_of xs.items) ss c.if-ticks.offers.items (tick ∙ w.if-ticks.false) (ap (λ v. v.items) w.offers-is ∙ c.new-offers.ensures.items)
    ] in
    unstable (λ xs. map action_of xs.items) ss c.if-ticks.offers.items ticks (sym c.has_tau.ensures ∙ c.if-has_tau.true)

pub returns : goal.returns
returns g c =
    let ss = map step_of c.args.steps.now in
    let offers = c.if-ticks.offers.items in
    let tick : has_tick ss ≡ c.has_tick-ticks.result = sym c.has_tick-ticks.ensures in
    let ticks : map (λ xs. map action_of xs.items) offers ≡ tick_offer ss = elim c.if-ticks.branch [
      | then-ticks+in_ok-tick_alone+in_ok-push w ↦ with_tick (λ xs. map action_of xs.items) ss offers c.new-offers.result.items w.in_ok-tick_alone.field-0 (tick ∙ w.if-ticks.true) c.new-offers.ensures.items (ap (λ v. v.items) w.offers-is ∙ w.in_ok-push.ensures.items) w.in_ok-tick_alone.ensures
      | else-ticks w ↦ without_tick (λ xs. map action_of xs.items) ss offers (tick ∙ w.if-ticks.false) (ap (λ v. v.items) w.offers-is ∙ c.new-offers.ensures.items)
    ] in
    let unstable : has_tau ss ≡ false = sym c.has_tau.ensures ∙ c.if-has_tau.false in
    let many : length c.in_ok-all.all.items ≡ length (actions_of ss) = sym (length-map c.in_ok-all.all.items action_of) ∙ ap length c.in_ok-all.ensures in
    elim c.if-not-ticks.branch [
      | then-not-ticks+in_ok-push-2 w ↦
          let only : has_tick ss && nat_eq (length (actions_of ss)) 1 ≡ false = elim w.then-not-ticks.branch [
            | then-not-ticks-via-then-not-ticks v ↦ ap (λ b. b && nat_eq (length (actions_of ss)) 1) (tick ∙ v.if-not-ticks.true)
            | then-not-ticks-via-else-not-ticks+then-len-ne1 v ↦ ap (λ b. b && nat_eq (length (actions_of ss)) 1) (tick ∙ v.if-not-ticks.false) ∙ ne_eqb (length (actions_of ss)) 1 (λ e. omega (e, arith, many, v.len.ensures, c.in_ok-all.all.ok.0, v.if-len-ne1.true))
          ] in
          ap (λ v. map (λ xs. map action_of xs.items) v.items) w.offers-is ∙ stable (λ xs. map action_of xs.items) ss offers ticks c.in_ok-all.all w.push-then-not-ticks.new.self.items unstable only c.in_ok-all.ensures w.in_ok-push-2.ensures.items
      | else-not-ticks+else-len-ne1 w ↦
          let only : has_tick ss && nat_eq (length (actions_of ss)) 1 ≡ true =
          ap (λ b. b && nat_eq (length (actions_of ss)) 1) (tick ∙ w.if-not-ticks.false) ∙ eq-eqb (length (actions_of ss)) 1 (omega (arith, many, w.len.ensures, c.in_ok-all.all.ok.0, w.if-len-ne1.false)) in
          ap (λ v. map (λ xs. map action_of xs.items) v.items) w.offers-is ∙ only_tick (λ xs. map action_of xs.items) ss offers ticks unstable only
    ]
