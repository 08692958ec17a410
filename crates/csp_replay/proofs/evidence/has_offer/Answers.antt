-- One more offer is the actions, or is not.
use Rattle.std.proofs.Common.{◌≡◌, map, Some, refl, sym, ◌∙◌, ap, arith}
use Rattle.std.proofs.lemmas.List.{length-map}
use Rattle.std.proofs.lemmas.Option.{slice_get-get_or}
use Rattle.theory_semantics.proofs.Rising.{Contains-from_stands}
use Rattle.theory_syntax.proofs.Places.{get_some}
use Rattle.theory_runs.proofs.Scanning.{none_zero, none_more, none_at_all}
use Rattle.csp_value.specs.Action.{action_of}
use Rattle.csp_value.proofs.ActionEquality.{action_tells}
use Rattle.csp_value.proofs.Sameness.{lists_tell, decided}
use Rattle.csp_replay.proofs.evidence.has_offer.Goals as goal

pub loop-offer-init : goal.loop-offer-init
loop-offer-init g c = none_zero (λ xs. xs ≡ map action_of c.args.actions.now) (map (λ offer. map action_of offer.items) c.args.offers.now)

pub returns-then-eq : goal.returns-then-eq
returns-then-eq g c =
    let offers = c.args.offers.now in
    let i = c.loop-offer.offer-index in
    let offer = c.offer-item.result in
    let xs = map action_of c.args.actions.now in
    let tells = lists_tell _ action_of (action_tells g.row.A g.A.AllocHandle g.A.AllocHandle-dict g.A.Allocator g.A.Allocator-dict g.A.Clone g.A.Clone-dict) in
    let at = get_some (λ one. map action_of one.items) offers i offer (slice_get-get_or offers i offer c.loop-offer-test.true ∙ ap Some (sym c.offer-item.is)) in
    let same = ap (map action_of) (sym c.as_slice.ensures.value) ∙ (decided tells c.as_slice.result.now c.args.actions.now c.eq.result c.eq.ensures).0 c.if-eq.true in (
      λ told. Contains-from_stands (map (λ one. map action_of one.items) offers) xs (i, at ∙ ap Some same),
      λ some. refl,
    )

pub loop-offer-preserved : goal.loop-offer-preserved
loop-offer-preserved g c =
    let offers = c.args.offers.now in
    let i = c.loop-offer.offer-index in
    let offer = c.offer-item.result in
    let tells = lists_tell _ action_of (action_tells g.row.A g.A.AllocHandle g.A.AllocHandle-dict g.A.Allocator g.A.Allocator-dict g.A.Clone g.A.Clone-dict) in
    let at = get_some (λ one. map action_of one.items) offers i offer (slice_get-get_or offers i offer c.loop-offer-test.true ∙ ap Some (sym c.offer-item.is)) in
    none_more (λ ys. ys ≡ map action_of c.args.actions.now) (map (λ one. map action_of one.items) offers) i (map action_of offer.items) at
    (λ same.
    let told = (decided tells c.as_slice.result.now c.args.actions.now c.eq.result c.eq.ensures).1 (ap (map action_of) c.as_slice.ensures.value ∙ same) in
    let no = c.if-eq.false in cc (told, no)) c.loop-offer.invariant

pub returns : goal.returns
returns g c =
    let offers = c.args.offers.now in
    let xs = map action_of c.args.actions.now in
    let long = length-map offers (λ offer. map action_of offer.items) in
    let past = c.loop-offer-test.false in
    let none = none_at_all (λ ys. ys ≡ xs) (map (λ offer. map action_of offer.items) offers) c.loop-offer.offer-index (omega (arith, long, past)) c.loop-offer.invariant in (
      λ told. absurd (cc told),
      λ some. absurd (none xs some refl),
    )
