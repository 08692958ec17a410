use Rattle.std.proofs.Common.{map}
use Rattle.std.specs.Prelude.{slice_get}
use Rattle.theory_syntax.specs.Expression.{to_expressions}
use Rattle.theory_checking.specs.Inference.Expressions.{behind_expressions, of_all}
use Rattle.csp_expression.specs.Expression.{expressions_of}
use Rattle.csp_expression.specs.Evaluation.{table_of}
use Rattle.csp_inference.specs.Numbering.{names_of, numbering_of}
use Rattle.csp_inference.proofs.Asking.{found_at, none_asks, not_found}
use Rattle.csp_inference.proofs.AskingFields.{asked_arguments}
use Rattle.csp_inference.proofs.equations.Equations.ask_call.Goals as goal

pub returns : goal.returns
returns g c =
    let found = found_at c.deref.result.now c.args.numbering.now.parameters.items c.args.called.0 c.in-Some.numbers.now c.deref.ensures.value c.in-Some.ensures.lookup.3.0 c.in-Some.ensures.lookup.1 in
    asked_arguments (table_of c.args.types.now) (names_of c.args.names.now) c.args.self.now c.ask_all.new.self c.args.numbering.now c.args.called.0
    c.in-Some.numbers.now c.args.arguments.now c.deref-2.result.now found c.deref-2.ensures.value c.in_ok-ask_all.ensures

pub returns-in_default : goal.returns-in_default
returns-in_default g c =
    let none = not_found (λ ns. map (λ n. n.0) ns.items) c.deref.result.now c.args.numbering.now.parameters.items c.args.called.0 c.deref.ensures.value c.in_default.ensures.lookup.3 in
    none_asks c.args.self.now c.push_never.new.self (slice_get (numbering_of c.args.numbering.now).parameters c.args.called.0)
    (of_all (table_of c.args.types.now) (numbering_of c.args.numbering.now) c.args.self.now.next (names_of c.args.names.now) (to_expressions (expressions_of c.args.arguments.now)))
    c.args.self.now.next (behind_expressions c.args.self.now.next (to_expressions (expressions_of c.args.arguments.now))) none c.in_ok-push_never.ensures
