-- The first tau is found, or there is none.
use Rattle.std.proofs.Common.{◌≡◌, ◌∷◌, ◌+◌, [], zero, suc, List, Contains, refl, sym, ap, arith, drop, map, subst, take, ⊎_elim}
use Rattle.std.proofs.lemmas.List.{take_all}
use Rattle.std.proofs.lemmas.List.Elements.{Contains-append_cases, Contains-append_right}
use Rattle.theory_syntax.specs.Value.{Tau}
use Rattle.csp_steps.specs.declared.rule_step.RuleStep.{RuleStep}
use Rattle.csp_steps.specs.Answering.{Answered, answered_of, target_of}
use Rattle.csp_steps.specs.Repeating.{HasTau}
use Rattle.csp_steps.proofs.Replicating.{mapped_more, mapped_split}
use Rattle.csp_steps.proofs.rules.repeated.has_tau.Goals as goal

the_only : (a b : Answered) → Contains (a ∷ []) b → a ≡ b
the_only a b (zero, h, e) = e
the_only a b (suc k, h, e) = absurd (omega arith)

pub returns-then-is_tau : goal.returns-then-is_tau
returns-then-is_tau g c =
    let items = c.args.steps.now in
    let i = c.loop-step.step-index in
    let item = c.step-item.result in
    let is = c.is_tau.ensures.0 c.if-is_tau.true in
    let P : List Answered → Type 0 = λ bs. HasTau bs in
    let there = Contains-append_right (map answered_of (take i items)) (answered_of item ∷ map answered_of (drop (i + 1) items)) (Tau, target_of item.target) (0, omega arith, λ j. (is j, target_of item.target)) in
    (λ found. subst P (sym (mapped_split answered_of items i item c.loop-step-test.true c.step-item.is)) (target_of item.target, there), λ has. refl)

pub loop-step-preserved : goal.loop-step-preserved
loop-step-preserved g c =
    let items = c.args.steps.now in
    let i = c.loop-step.step-index in
    let item = c.step-item.result in
    let before = map answered_of (take i items) in
    let P : List Answered → Type 0 = λ bs. HasTau bs → ⊥ in
    subst P (sym (mapped_more answered_of items i item c.loop-step-test.true c.step-item.is))
    (λ has. ⊎_elim
    (λ k. c.loop-step.invariant (has.0, k))
    (λ k. let is = c.is_tau.ensures.1 (ap (λ b. b.0) (the_only (answered_of item) (Tau, has.0) k)) in let no = c.if-is_tau.false in cc (is, no))
    (Contains-append_cases before (answered_of item ∷ []) (Tau, has.0) has.1))

pub returns : goal.returns
returns g c =
    let items = c.args.steps.now in
    let P : List (RuleStep g.row.A.Denot) → Type 0 = λ ss. HasTau (map answered_of ss) → ⊥ in
    let none = subst P (take_all c.loop-step.step-index items (omega arith)) c.loop-step.invariant in
    (λ found. absurd (cc found), λ has. absurd (none has))
