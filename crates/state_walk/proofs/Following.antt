-- What an answer gives.
use Rattle.std.proofs.Common.{◌≡◌, List, Option, Some, refl, ap, subst}
use Rattle.theory_syntax.specs.Process.{Script}
use Rattle.theory_notation.specs.Names.{Names}
use Rattle.theory_explanation.specs.Cutting.{Width}
use Rattle.theory_walk.specs.Answers as pure
use Rattle.theory_walk.specs.Moves.{IsMenu}
use Rattle.theory_walk.specs.Trails.{here}
use Rattle.theory_walk.specs.Walks.{IsGiven, Place}
use Rattle.state_walk.specs.Answers.{Follows, next_of, text_of}
use Rattle.state_walk.specs.declared.answer.Answer.{Answer}
use Rattle.state_walk.specs.declared.answer.Answer.TheVariants as answer

-- An answer of the code gives its text, where the menu at the place behind it is that of the state there.
pub gives : (script : Script) (names : Names) (width : Width) (p q : Place) (asked : pure.Answer) (given : Answer) → Follows asked p given q → IsMenu script (here q.trail) q.menu →
    IsGiven script names width p asked (text_of names width given q) (next_of given q)
gives script names width p q (pure.Shows trail) answer.Shown follows menu = (q, record { there = follows; menu = subst (λ t. IsMenu script (here t) q.menu) follows menu }, refl, refl)
gives script names width p q (pure.Says text) (answer.Said words) follows menu = (follows.0, ap (λ (r : Place). Some r) follows.1)
gives script names width p q pure.Ends answer.Ended follows menu = (refl, refl)
gives script names width p q (pure.Shows trail) (answer.Said words) follows menu = absurd follows
gives script names width p q (pure.Shows trail) answer.Ended follows menu = absurd follows
gives script names width p q (pure.Says text) answer.Shown follows menu = absurd follows
gives script names width p q (pure.Says text) answer.Ended follows menu = absurd follows
gives script names width p q pure.Ends answer.Shown follows menu = absurd follows
gives script names width p q pure.Ends (answer.Said words) follows menu = absurd follows
