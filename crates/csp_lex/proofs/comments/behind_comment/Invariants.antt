use Rattle.std.proofs.Common.{length}
use Rattle.csp_lex.specs.Cursors.{left_of}
use Rattle.csp_lex.proofs.Commenting.{CommentSoFar}
use Rattle.csp_lex.proofs.comments.behind_comment.Given as goal

abbrev pub invariant-loop-character : goal.invariant-loop-character
invariant-loop-character l = CommentSoFar l.cursor l.here

abbrev pub decreases-loop-character : goal.decreases-loop-character
decreases-loop-character l = length (left_of l.here)
