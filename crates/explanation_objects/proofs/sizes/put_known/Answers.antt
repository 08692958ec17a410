-- The pairs, and behind them the nodes of a specification.
use Rattle.std.proofs.Common.{[], ◌∷◌, sym, subst}
use Rattle.std.specs.Prelude.{codes}
use Rattle.theory_objects.specs.Answers.{size_fields}
use Rattle.theory_objects.specs.Fields.{number_field}
use Rattle.csp_term.specs.Script.{property_of}
use Rattle.csp_term.specs.declared.property.Property.{Property}
use Rattle.explanation_objects.specs.Putting.{Puts}
use Rattle.explanation_objects.proofs.Putting.{both}
use Rattle.explanation_objects.proofs.sizes.put_known.Goals as goal

pub returns-in_ok-put_number-in-Refinement : goal.returns-in_ok-put_number-in-Refinement
returns-in_ok-put_number-in-Refinement g c =
    let r = c.put_number-in-Refinement.result in
    let one = c.put_number.new.writer in
    let new = c.put_number-in-Refinement.new.writer in
    let pairs = number_field (codes "pairs") c.args.size.pairs ∷ [] in
    let nodes = number_field (codes "nodes") c.args.size.nodes ∷ [] in
    let P : Property g.row.A.Denot → Type 0 = λ p. Puts r c.args.writer.now new (size_fields (property_of p) c.args.size.pairs c.args.size.nodes) in
    subst P (sym c.in-Refinement.is) (both r c.args.writer.now one new pairs nodes c.in_ok-put_number-in-Refinement.ensures c.put_number-in-Refinement.ensures)
