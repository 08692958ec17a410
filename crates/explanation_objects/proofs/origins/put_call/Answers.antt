-- The way, and behind it the name.
use Rattle.std.proofs.Common.{◌≡◌, ℕ, List, [], ◌∷◌, ◌++◌, map, ap, subst, ◌∙◌}
use Rattle.std.specs.Prelude.{codes}
use Rattle.theory_search.specs.Printing.{name_at}
use Rattle.theory_objects.specs.Accounts.{moved_fields}
use Rattle.theory_objects.specs.Fields.{text_field}
use Rattle.csp_moves.specs.Passage.{side_of}
use Rattle.csp_print.specs.Names.{names_of}
use Rattle.explanation_objects.specs.Putting.{Puts}
use Rattle.explanation_objects.proofs.Putting.{both}
use Rattle.explanation_objects.proofs.origins.put_call.Goals as goal

pub returns : goal.returns
returns g c =
    let r = c.put_text.result in
    let one = c.put_moved.new.writer in
    let new = c.put_text.new.writer in
    let name = name_at (names_of c.args.names.now).equations c.args.equation.0 in
    let said = λ (t : List ℕ). text_field (codes "name") t ∷ [] in
    let written : c.as_str.result.now ≡ name = c.as_str.ensures.value ∙ c.in_ok-push_equation.ensures ∙ ap (λ ts. ts ++ name) c.new-text.ensures.bytes in
    let last = subst (λ (t : List ℕ). Puts r one new (said t)) written c.put_text.ensures in
    both r c.args.writer.now one new (moved_fields (map side_of c.args.way.now) (codes "unfolds")) (said name) c.in_ok-put_moved.ensures last
