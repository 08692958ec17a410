-- Each call unfolds fewer names in a row, or looks at a part.
use Rattle.std.proofs.Common.{◌+◌, max}
use Rattle.csp_settling.proofs.Measured.{counted, depth_in}
use Rattle.csp_settling.proofs.calls.+unfold.Given as goal

abbrev pub decreases-unfold : goal.decreases-unfold
decreases-unfold g l = 3 + counted l.most (depth_in l.term.now)

abbrev pub decreases-unfold_calls : goal.decreases-unfold_calls
decreases-unfold_calls g l = 2 + counted (l.more + 1) (depth_in l.term.now)

abbrev pub decreases-sides : goal.decreases-sides
decreases-sides g l = 3 + counted (l.more + 1) (max (depth_in l.left.now) (depth_in l.right.now))

abbrev pub decreases-binary : goal.decreases-binary
decreases-binary g l = 4 + counted (l.more + 1) (max (depth_in l.left.now) (depth_in l.right.now))

abbrev pub decreases-call : goal.decreases-call
decreases-call g l = 2 + counted (l.more + 1) 0

abbrev pub decreases-in_call : goal.decreases-in_call
decreases-in_call g l = 1 + counted (l.more + 1) 0

abbrev pub decreases-in_body : goal.decreases-in_body
decreases-in_body g l = counted (l.more + 1) 0

abbrev pub decreases-guarded : goal.decreases-guarded
decreases-guarded g l = 2 + counted (l.more + 1) 0

abbrev pub decreases-conditional : goal.decreases-conditional
decreases-conditional g l = 2 + counted (l.more + 1) 0

abbrev pub decreases-replicated : goal.decreases-replicated
decreases-replicated g l = 2 + counted (l.more + 1) 0

abbrev pub decreases-in_chain : goal.decreases-in_chain
decreases-in_chain g l = 1 + counted (l.more + 1) 0

abbrev pub decreases-seen_through : goal.decreases-seen_through
decreases-seen_through g l = counted (l.more + 1) 0
