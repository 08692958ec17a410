use Rattle.std.proofs.Common.{length, inl, inr, lit≤, refl}
use Rattle.csp_value.specs.Action.{action_of as action_told}
use Rattle.csp_rows.specs.Numbering.{IsNumbered}
use Rattle.kept_parts.specs.Places.{action_in}
use Rattle.kept_parts.proofs.Counting.{holds_at, map_push}
use Rattle.kept_parts.proofs.packing.actions_of.Goals as goal

pub action_of-requires : goal.action_of-requires
action_of-requires g c =
    let l = c.loop-number in
    let here = holds_at (IsNumbered (length c.args.alphabet.now)) c.args.numbers.now l.number-index _ _ c.requires c.loop-number-test.true refl in
    elim g.met.A.AllocHandle.small [
      | inl e ↦ rw (e.0, e.1) (lit≤ tt, here)
      | inr e ↦ rw (e.0, e.1) (lit≤ tt, here)
    ]

pub loop-number-preserved : goal.loop-number-preserved
loop-number-preserved g c =
    let l = c.loop-number in
    map_push action_told (action_in c.args.alphabet.now) l.actions.items c.push.new.self.items c.in_ok-action.action c.args.numbers.now l.number-index _ _ l.invariant c.loop-number-test.true refl c.in_ok-action.ensures c.in_ok-push.ensures.items
