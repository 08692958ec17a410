-- The size, and behind it the cost.
use Rattle.std.proofs.Common.{◌++◌, Option, sym, subst}
use Rattle.theory_objects.specs.Answers.{cost_fields, size_fields}
use Rattle.csp_term.specs.Script.{property_of}
use Rattle.explanation_objects.specs.Answers.{sizes_told}
use Rattle.explanation_objects.specs.Putting.{Puts}
use Rattle.explanation_objects.specs.declared.sizes.Size.{Size}
use Rattle.explanation_objects.proofs.Putting.{both}
use Rattle.explanation_objects.proofs.sizes.put_size.Goals as goal

pub returns-in_ok-put_known-in-Some : goal.returns-in_ok-put_known-in-Some
returns-in_ok-put_known-in-Some g c =
    let r = c.put_cost.result in
    let property = property_of c.args.property.now in
    let size = c.in-Some.size in
    let P : Option Size → Type 0 = λ s. Puts r c.args.writer.now c.put_cost.new.writer (sizes_told property s) in
    subst P (sym c.in-Some.is)
    (both r c.args.writer.now c.put_known.new.writer c.put_cost.new.writer (size_fields property size.pairs size.nodes) (cost_fields size.cost.milliseconds size.cost.kilobytes)
    c.in_ok-put_known-in-Some.ensures c.put_cost.ensures)
