use Rattle.std.proofs.Common.{ap, refl, sym, Some}
use Rattle.std.proofs.lemmas.Option.{slice_get_past}
use Rattle.csp_expression.specs.Evaluation.{table_of}
use Rattle.csp_expression.specs.Expression.{expression_of}
use Rattle.csp_inference.proofs.Asking.{found_at}
use Rattle.csp_inference.specs.Solving.{lent_expression}
use Rattle.csp_inference.proofs.SetsInTurn.{clause_field_fits, no_clause_set, no_place, no_row}
use Rattle.csp_inference.proofs.known_kinds.KnownKinds.add_clause_field.Goals as goal

pub returns-in_default : goal.returns-in_default
returns-in_default g c =
    no_clause_set (table_of c.args.types.now) c.args.constructor c.args.field (lent_expression c.args.set) c.args.self.now (ap lent_expression c.in_default.is)

pub returns-in_default-get : goal.returns-in_default-get
returns-in_default-get g c =
    let rows = c.deref.result.now in
    no_row (table_of c.args.types.now) c.args.constructor c.args.field (lent_expression c.args.set) c.args.self.now rows c.deref.ensures.value c.args.self.now
    (sym (slice_get_past rows c.args.constructor c.in_default-get.ensures.lookup.3))

pub returns-in_default-number_at : goal.returns-in_default-number_at
returns-in_default-number_at g c =
    let rows = c.deref.result.now in
    let row = c.in-Some-get.numbers.now in
    let there = sym (found_at rows rows c.args.constructor row refl c.in-Some-get.ensures.lookup.3.0 c.in-Some-get.ensures.lookup.1) in
    no_place (table_of c.args.types.now) c.args.constructor c.args.field (lent_expression c.args.set) c.args.self.now rows c.deref.ensures.value row there
    c.deref-2.result.now c.deref-2.ensures.value c.args.self.now c.in_default-number_at.ensures

pub returns : goal.returns
returns g c =
    let rows = c.deref.result.now in
    let row = c.in-Some-get.numbers.now in
    let there = sym (found_at rows rows c.args.constructor row refl c.in-Some-get.ensures.lookup.3.0 c.in-Some-get.ensures.lookup.1) in
    clause_field_fits (table_of c.args.types.now) c.args.constructor c.args.field (lent_expression c.args.set) c.args.self.now rows c.deref.ensures.value row there
    c.deref-2.result.now c.deref-2.ensures.value c.solve_set.new.self c.in-Some-number_at.members c.in-Some-number_at.ensures (Some (expression_of c.in-Some.set.now))
    (ap lent_expression c.in-Some.is) c.solve_set.result c.solve_set.ensures
