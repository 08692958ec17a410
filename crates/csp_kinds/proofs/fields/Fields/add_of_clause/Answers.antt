-- The field is read, its set is taken up, and its fault is kept if it is the first.
use Rattle.std.proofs.Common.{refl, subst}
use Rattle.csp_parse.specs.Declarations.{domain_of}
use Rattle.csp_expression.specs.Evaluation.{table_of}
use Rattle.csp_kinds.specs.Fit.{TakesClauseField}
use Rattle.csp_kinds.proofs.ClauseSteps.{adds_clause_field}
use Rattle.csp_kinds.proofs.FieldsInTurn.{on_ok}
use Rattle.csp_kinds.proofs.fields.Fields.add_of_clause.Goals as goal

pub returns : goal.returns
returns g c =
    on_ok c.take.result
    (λ takes.
    adds_clause_field c.args.above.now c.args.constructor c.args.field (domain_of c.args.domain.now) c.args.self.now c.args.fit.now c.take.new.self c.add_clause_field.new.self c.in_ok-looked.looked
    (λ raw above below over stands. c.in_ok-looked.ensures raw above below (domain_of c.args.domain.now) over stands refl)
    (subst (λ e. TakesClauseField (table_of c.args.above.now.table.now.types) c.args.constructor c.args.field e c.args.fit.now c.add_clause_field.new.self)
    c.expression.ensures c.in_ok-add_clause_field.ensures) takes)
    c.take.ensures
