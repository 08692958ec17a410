use Rattle.std.proofs.Common.{ap}
use Rattle.csp_expression.specs.Evaluation.{table_of}
use Rattle.csp_expression.specs.Expression.{expression_of}
use Rattle.csp_term.specs.Field.{field_of}
use Rattle.csp_inference.specs.Numbering.{names_of, numbering_of}
use Rattle.csp_inference.proofs.Adding.{if_ok}
use Rattle.csp_inference.proofs.AskingFields.{given_asked, input_asked, input_from_asked}
use Rattle.csp_inference.proofs.equations.Equations.ask_field.Goals as goal

pub returns-in-Given-clause-asks : goal.returns-in-Given-clause-asks
returns-in-Given-clause-asks g c =
    if_ok c.ask_expression.result
    (λ _. given_asked (table_of c.args.types.now) (numbering_of c.args.numbering.now) c.args.self.now c.ask_expression.new.self
    (names_of c.args.names.now.items) (names_of c.deref.result.now) (field_of c.args.field.now) c.args.number.0 (ap names_of c.deref.ensures.value)
    (expression_of c.in-Given.value) (ap field_of c.in-Given.is)) c.ask_expression.ensures

pub returns-in-Input-clause-asks : goal.returns-in-Input-clause-asks
returns-in-Input-clause-asks g c =
    if_ok c.bind_name.result
    (λ _ h. input_asked (table_of c.args.types.now) (numbering_of c.args.numbering.now) c.args.self.now (names_of c.args.names.now.items)
    (field_of c.args.field.now) c.args.number.0 c.in-Input.name.0 (ap field_of c.in-Input.is)) c.bind_name.ensures

pub returns-in_ok-ask_expression-in-InputFrom-clause-asks : goal.returns-in_ok-ask_expression-in-InputFrom-clause-asks
returns-in_ok-ask_expression-in-InputFrom-clause-asks g c =
    if_ok c.bind_name-in-InputFrom.result
    (λ _ h. input_from_asked (table_of c.args.types.now) (numbering_of c.args.numbering.now) c.args.self.now c.ask_expression-in-InputFrom.new.self
    (names_of c.args.names.now.items) (names_of c.deref-in-InputFrom.result.now) (field_of c.args.field.now) c.args.number.0
    (ap names_of c.deref-in-InputFrom.ensures.value) c.in-InputFrom.name.0 (expression_of c.in-InputFrom.set) (ap field_of c.in-InputFrom.is)
    c.in_ok-ask_expression-in-InputFrom.ensures) c.bind_name-in-InputFrom.ensures
