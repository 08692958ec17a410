-- One more list is the actions, or lies within them, or does not.
use Rattle.std.proofs.Common.{◌≡◌, ◌↔◌, List, map, Some, IsTrue, refl, sym, ◌∙◌, ap, subst, arith}
use Rattle.std.proofs.lemmas.List.{length-map}
use Rattle.std.proofs.lemmas.Option.{slice_get-get_or}
use Rattle.theory_syntax.specs.Value as pure
use Rattle.theory_syntax.proofs.Places.{get_some}
use Rattle.theory_semantics.proofs.Rising.{Contains-from_stands}
use Rattle.theory_search.specs.Acceptances.{IsWithin}
use Rattle.theory_runs.proofs.Scanning.{each_zero, each_more, each_at_all}
use Rattle.csp_value.specs.Action.{action_of}
use Rattle.csp_value.specs.declared.action.Action.{Action}
use Rattle.csp_value.proofs.ActionEquality.{action_tells}
use Rattle.csp_value.proofs.Sameness.{lists_tell, decided}
use Rattle.csp_replay.specs.Offers.{offers_listed}
use Rattle.csp_replay.proofs.least.lies_alone.Goals as goal

-- it is xs where it lies within
abbrev IsOrIsNotWithin : List pure.Action → List pure.Action → Type 0
IsOrIsNotWithin xs ys = IsWithin ys xs → ys ≡ xs

pub loop-offer-init : goal.loop-offer-init
loop-offer-init g c = each_zero (IsOrIsNotWithin (map action_of c.args.actions.now)) (offers_listed c.args.offers.now)

pub loop-offer-preserved-then-eq : goal.loop-offer-preserved-then-eq
loop-offer-preserved-then-eq g c =
    let offers = c.args.offers.now in
    let i = c.loop-offer.offer-index in
    let offer = c.offer-item.result in
    let xs = map action_of c.args.actions.now in
    let tells = lists_tell _ action_of (action_tells g.row.A g.A.AllocHandle g.A.AllocHandle-dict g.A.Allocator g.A.Allocator-dict g.A.Clone g.A.Clone-dict) in
    let at = get_some (λ one. map action_of one.items) offers i offer (slice_get-get_or offers i offer c.loop-offer-test.true ∙ ap Some (sym c.offer-item.is)) in
    let same = ap (map action_of) (sym c.as_slice.ensures.value) ∙ (decided tells c.as_slice.result.now c.args.actions.now c.eq.result c.eq.ensures).0 c.if-eq.true in
    each_more (IsOrIsNotWithin xs) (offers_listed offers) i (map action_of offer.items) at (λ within. same) c.loop-offer.invariant

pub returns-then-is_within : goal.returns-then-is_within
returns-then-is_within g c =
    let offers = c.args.offers.now in
    let i = c.loop-offer.offer-index in
    let offer = c.offer-item.result in
    let xs = map action_of c.args.actions.now in
    let tells = lists_tell _ action_of (action_tells g.row.A g.A.AllocHandle g.A.AllocHandle-dict g.A.Allocator g.A.Allocator-dict g.A.Clone g.A.Clone-dict) in
    let at = get_some (λ one. map action_of one.items) offers i offer (slice_get-get_or offers i offer c.loop-offer-test.true ∙ ap Some (sym c.offer-item.is)) in
    let T : List (Action g.row.A.Denot) → Type 0 = λ ys. IsTrue c.is_within.result ↔ IsWithin (map action_of ys) xs in
    let within = (subst T c.deref.ensures.value c.is_within.ensures).0 c.if-is_within.true in (
      λ told. absurd (cc told),
      λ alone.
          let same = alone (map action_of offer.items) (Contains-from_stands (offers_listed offers) (map action_of offer.items) (i, at)) within in
          let yes = (decided tells c.as_slice.result.now c.args.actions.now c.eq.result c.eq.ensures).1 (ap (map action_of) c.as_slice.ensures.value ∙ same) in
          absurd (cc (yes, c.if-eq.false)),
    )

pub loop-offer-preserved : goal.loop-offer-preserved
loop-offer-preserved g c =
    let offers = c.args.offers.now in
    let i = c.loop-offer.offer-index in
    let offer = c.offer-item.result in
    let xs = map action_of c.args.actions.now in
    let at = get_some (λ one. map action_of one.items) offers i offer (slice_get-get_or offers i offer c.loop-offer-test.true ∙ ap Some (sym c.offer-item.is)) in
    let T : List (Action g.row.A.Denot) → Type 0 = λ ys. IsTrue c.is_within.result ↔ IsWithin (map action_of ys) xs in
    let told = subst T c.deref.ensures.value c.is_within.ensures in
    each_more (IsOrIsNotWithin xs) (offers_listed offers) i (map action_of offer.items) at (λ within. let yes = told.1 within in absurd (cc (yes, c.if-is_within.false))) c.loop-offer.invariant

pub returns : goal.returns
returns g c =
    let offers = offers_listed c.args.offers.now in
    let long = length-map c.args.offers.now (λ offer. map action_of offer.items) in
    let past = c.loop-offer-test.false in (
      λ told. λ ys has within. each_at_all (IsOrIsNotWithin (map action_of c.args.actions.now)) offers c.loop-offer.offer-index (omega (arith, long, past)) c.loop-offer.invariant ys has within,
      λ alone. refl,
    )
