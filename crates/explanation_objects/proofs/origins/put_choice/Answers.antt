-- The way, and behind it the side.
use Rattle.std.proofs.Common.{ℕ, List, [], ◌∷◌, map, subst}
use Rattle.std.specs.Prelude.{codes}
use Rattle.theory_explanation.specs.Legend.{side_text}
use Rattle.theory_objects.specs.Accounts.{moved_fields}
use Rattle.theory_objects.specs.Fields.{text_field}
use Rattle.csp_moves.specs.Passage.{side_of}
use Rattle.explanation_objects.specs.Putting.{Puts}
use Rattle.explanation_objects.proofs.Putting.{both}
use Rattle.explanation_objects.proofs.origins.put_choice.Goals as goal

pub returns : goal.returns
returns g c =
    let r = c.put_text.result in
    let one = c.put_moved.new.writer in
    let new = c.put_text.new.writer in
    let said = λ (t : List ℕ). text_field (codes "side") t ∷ [] in
    let last = subst (λ (t : List ℕ). Puts r one new (said t)) c.side_word.ensures c.put_text.ensures in
    both r c.args.writer.now one new (moved_fields (map side_of c.args.way.now) (codes "chooses")) (said (side_text (side_of c.args.side))) c.in_ok-put_moved.ensures last
