-- A turn of the search: the name is nearer than those before it, or it is not.
use Rattle.std.proofs.Common.{◌+◌, map, take, ℕ, List, [], Bor, get_or}
use Rattle.diagnostics.proofs.NearestSoFar.{one_more, turn_nearer, turn_passed}
use Rattle.diagnostics.proofs.nearest_names.nearest.Goals as goal
use Rattle.diagnostics.proofs.nearest_names.nearest.Goals.{then-edits-least, else-edits-least}

pub loop-name-preserved : goal.loop-name-preserved
loop-name-preserved g c =
    let word = c.args.word.now in
    let names = c.args.names.now in
    let i = c.loop-name.name-index in
    let other : Bor (List ℕ) = record { ref_ptr = (0, 0); now = [] } in
    let before = map (λ (n : Bor (List ℕ)). n.now) (take i names) in
    let all = map (λ (n : Bor (List ℕ)). n.now) (take (i + 1) names) in
    elim c.if-edits-least.branch [
      | then-edits-least w ↦ turn_nearer word before all c.loop-name.nearest c.if-edits-least.nearest c.loop-name.least c.if-edits-least.least (get_or names i other) c.in_ok-edits.edits c.loop-name.invariant
          c.in_ok-edits.ensures.value w.if-edits-least.true (one_more names i other c.loop-name-test.true) w.nearest-is w.least-is
      | else-edits-least w ↦ turn_passed word before all c.loop-name.nearest c.if-edits-least.nearest c.loop-name.least c.if-edits-least.least (get_or names i other) c.in_ok-edits.edits c.loop-name.invariant
          c.in_ok-edits.ensures.value w.if-edits-least.false (one_more names i other c.loop-name-test.true) w.nearest-is w.least-is
    ]
