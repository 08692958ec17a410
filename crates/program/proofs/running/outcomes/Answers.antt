use denote.Param.Send.{sendable}
use Rattle.std.proofs.Common.{◌≡◌, ◌∙◌, List, map, ap, sym, subst, inl, inr, lit<}
use Rattle.std.proofs.lemmas.List.{take_all}
use Rattle.theory_syntax.specs.Process as pure
use Rattle.csp_term.specs.declared.assertion.Assertion.{Assertion}
use Rattle.csp_term.specs.Script.{HasSidesOf, assertion_of, script_of}
use Rattle.pair_store.specs.Bounds.{bounds_of}
use Rattle.verdict.specs.Outcome.{outcome_of}
use Rattle.theory_search.specs.Terms.{IsAssertionOf}
use Rattle.theory_search.specs.Truth.{IsRightAsWritten}
use Rattle.theory_unfolding.specs.Assertions.{settled_assertion}
use Rattle.theory_unfolding.proofs.SettledSides.{sides_stay}
use Rattle.program.specs.Answering.{AreRightSettled}
use Rattle.program.proofs.Answering.{is_right, one_more, sides_at}
use Rattle.program.proofs.running.outcomes.Goals as goal

pub explore-requires : goal.explore-requires
explore-requires g c =
    let script = script_of c.args.script.now in
    let sides = sides_at assertion_of (HasSidesOf script) script c.assertions-assertion-items.result.now c.loop-assertion.assertion-index c.assertion-item.result c.assertions-assertion-items.ensures.sides c.loop-assertion-test.true c.assertion-item.is
    (λ b sides. record { specification = sides.0; implementation = sides.1 }) in
    let is : assertion_of c.in_ok-settled.settled ≡ settled_assertion script (assertion_of c.assertion-item.result) =
    c.in_ok-settled.ensures ∙ ap (λ s. settled_assertion s (assertion_of c.assertion-item.result)) c.parts.ensures.value in
    let settled_sides = subst (IsAssertionOf script) (sym is) (sides_stay script (assertion_of c.assertion-item.result) sides) in
    let sa = c.type_bounds.send-A in
    let ya = c.type_bounds.sync-A in
    let sr = c.type_bounds.sync-R in
    let small = (g.met.A.AllocHandle g.world.𝓛 g.world.𝓜 g.world.𝓡 ((λ s x. x), (λ x. x), (λ x. x), λ x. x)).small in (
      search sendable depth 20,
      (
        search sendable depth 20,
        (
          search sendable depth 20,
          (
            search sendable depth 20,
            (
              c.type_bounds.frees-A-Allocator,
              (
                elim small [
                  | inl e ↦ rw (e.0, e.1) (lit< tt)
                  | inr e ↦ rw (e.0, e.1) (lit< tt)
                ],
                (settled_sides, c.requires),
              ),
            ),
          ),
        ),
      ),
    )

pub loop-assertion-preserved : goal.loop-assertion-preserved
loop-assertion-preserved g c =
    let script = script_of c.args.script.now in
    let a = assertion_of c.assertion-item.result in
    let bounds = bounds_of c.args.limits in
    let says = c.explore.ensures in
    let is : assertion_of c.in_ok-settled.settled ≡ settled_assertion script a =
    c.in_ok-settled.ensures ∙ ap (λ s. settled_assertion s a) c.parts.ensures.value in
    let R : pure.Assertion → Type 0 = λ b. IsRightAsWritten script b bounds (outcome_of c.explore.result) in
    let right = is_right script (assertion_of c.in_ok-settled.settled) bounds (outcome_of c.explore.result) says.answer says.soundly says.denied says.fails says.pairs says.nodes says.term says.fault in
    one_more (λ b o. IsRightAsWritten script (settled_assertion script b) bounds o) assertion_of outcome_of c.assertions-assertion-items.result.now c.loop-assertion.outcomes.items c.push.new.self.items c.loop-assertion.assertion-index
    c.assertion-item.result c.explore.result c.loop-assertion.invariant c.loop-assertion-test.true c.assertion-item.is c.in_ok-push.ensures.items (subst R is right)

pub returns : goal.returns
returns g c =
    let script = script_of c.args.script.now in
    let items = c.assertions-assertion-items.result.now in
    let says = map outcome_of c.loop-assertion.outcomes.items in
    let P : List (Assertion g.row.A.Denot) → Type 0 = λ xs. AreRightSettled script (bounds_of c.args.limits) (map assertion_of xs) says in
    let Q : List pure.Assertion → Type 0 = λ xs. AreRightSettled script (bounds_of c.args.limits) xs says in
    subst Q c.assertions-assertion-items.ensures.value (subst P (take_all c.loop-assertion.assertion-index items c.loop-assertion-test.false) c.loop-assertion.invariant)
