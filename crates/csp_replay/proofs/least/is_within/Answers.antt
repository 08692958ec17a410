-- One more action is one of the others, or is not.
use Rattle.std.proofs.Common.{map, Contains, Some, refl, sym, ◌∙◌, ap, arith}
use Rattle.std.proofs.lemmas.List.{length-map}
use Rattle.std.proofs.lemmas.Option.{slice_get-get_or}
use Rattle.theory_syntax.proofs.Places.{get_some}
use Rattle.theory_semantics.proofs.Rising.{Contains-from_stands}
use Rattle.theory_runs.proofs.Acceptances.{members_within, within_by_members}
use Rattle.theory_runs.proofs.Scanning.{each_zero, each_more, each_at_all}
use Rattle.csp_value.specs.Action.{action_of}
use Rattle.csp_value.proofs.ActionEquality.{action_tells}
use Rattle.csp_replay.proofs.Within.{told_there, told_missing}
use Rattle.csp_replay.proofs.least.is_within.Goals as goal

pub loop-action-init : goal.loop-action-init
loop-action-init g c = each_zero (Contains (map action_of c.args.actions.now)) (map action_of c.args.offer.now)

pub returns-then-not-contains : goal.returns-then-not-contains
returns-then-not-contains g c =
    let offer = c.args.offer.now in
    let i = c.loop-action.action-index in
    let x = c.action-item.result in
    let tells = action_tells g.row.A g.A.AllocHandle g.A.AllocHandle-dict g.A.Allocator g.A.Allocator-dict g.A.Clone g.A.Clone-dict in
    let at = get_some action_of offer i x (slice_get-get_or offer i x c.loop-action-test.true ∙ ap Some (sym c.action-item.is)) in (
      λ told. absurd (cc told),
      λ within.
          absurd (told_missing tells c.args.actions.now x c.contains.result c.contains.ensures.value c.if-not-contains.true
          (members_within (map action_of offer) (map action_of c.args.actions.now) within (action_of x) (Contains-from_stands (map action_of offer) (action_of x) (i, at)))),
    )

pub loop-action-preserved : goal.loop-action-preserved
loop-action-preserved g c =
    let offer = c.args.offer.now in
    let i = c.loop-action.action-index in
    let x = c.action-item.result in
    let tells = action_tells g.row.A g.A.AllocHandle g.A.AllocHandle-dict g.A.Allocator g.A.Allocator-dict g.A.Clone g.A.Clone-dict in
    let at = get_some action_of offer i x (slice_get-get_or offer i x c.loop-action-test.true ∙ ap Some (sym c.action-item.is)) in
    each_more (Contains (map action_of c.args.actions.now)) (map action_of offer) i (action_of x) at (told_there tells c.args.actions.now x c.contains.result c.contains.ensures.value c.if-not-contains.false) c.loop-action.invariant

pub returns : goal.returns
returns g c =
    let offer = map action_of c.args.offer.now in
    let actions = map action_of c.args.actions.now in
    let long = length-map c.args.offer.now action_of in
    let past = c.loop-action-test.false in (
      λ told. within_by_members offer actions (each_at_all (Contains actions) offer c.loop-action.action-index (omega (arith, long, past)) c.loop-action.invariant),
      λ within. refl,
    )
