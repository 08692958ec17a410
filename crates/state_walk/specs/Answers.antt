-- Answers, as the code gives them.
use Rattle.std.specs.Prelude.{◌≡◌, ℕ, List, [], Option, Some, None}
use Rattle.theory_notation.specs.Names.{Names}
use Rattle.theory_explanation.specs.Cutting.{Width}
use Rattle.theory_walk.specs.Answers as pure
use Rattle.theory_walk.specs.Walks.{Place, shown}
use Rattle.state_walk.specs.declared.answer.Answer.{Answer}
use Rattle.state_walk.specs.declared.answer.Answer.TheVariants as answer

-- It is this answer that is given, and it leads from the one place to the other.
abbrev pub Follows : pure.Answer → Place → Answer → Place → Type 0
Follows (pure.Shows trail) p answer.Shown q = q.trail ≡ trail
Follows (pure.Says text) p (answer.Said words) q = (words.now ≡ text) × (q ≡ p)
Follows pure.Ends p answer.Ended q = q ≡ p
Follows asked p given q = ⊥

-- the text that is to be shown behind it, where the walk is at this place then
abbrev pub text_of : Names → Width → Answer → Place → List ℕ
text_of names width answer.Shown q = shown names width q
text_of names width (answer.Said words) q = words.now
text_of names width answer.Ended q = []

-- the place, if the walk goes on
abbrev pub next_of : Answer → Place → Option Place
next_of answer.Shown q = Some q
next_of (answer.Said words) q = Some q
next_of answer.Ended q = None
