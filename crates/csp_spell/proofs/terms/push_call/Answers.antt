-- The spelling of a call.
use Rattle.std.proofs.Common.{rules, List, [], ℕ, ◌∷◌, ◌++◌, ap}
use Rattle.theory_syntax.specs.Expression.{to_expressions}
use Rattle.theory_syntax.specs.Process.{Call}
use Rattle.theory_spelling.specs.Spelling.{spelling, expression_spelling, number_spelling, list_spelling}
use Rattle.theory_spelling.proofs.Taking.{arguments}
use Rattle.csp_expression.specs.Expression.{expressions_of}
use Rattle.csp_spell.proofs.Pushing.{behind_part, two_parts, also_ok}
use Rattle.csp_spell.proofs.PushingExpressions.{packable_arguments, ranged_each}
use Rattle.csp_spell.proofs.terms.push_call.Goals as goal

pub returns : goal.returns
returns g c =
    let part0 = two_parts c.args.bytes.now.items c.push.new.self.items c.push_number.new.bytes.items (0x04 ∷ []) (number_spelling c.args.equation.0) c.in_ok-push.ensures.items c.in_ok-push_number.ensures in
    record {
      spelled = behind_part c.push_expressions.result c.args.bytes.now.items c.push_number.new.bytes.items c.push_expressions.new.bytes.items (0x04 ∷ (number_spelling c.args.equation.0)) (list_spelling expression_spelling (expressions_of c.args.arguments.now)) (spelling (Call c.args.equation.0 (to_expressions (expressions_of c.args.arguments.now)))) part0 (ap (λ (bytes : List ℕ). 0x04 ∷ (number_spelling c.args.equation.0 ++ bytes)) (arguments (expressions_of c.args.arguments.now))) c.push_expressions.ensures.spelled;
      range = also_ok c.push_expressions.result c.push_expressions.ensures.range (λ h. ((search rules), ranged_each (expressions_of c.args.arguments.now) h));
    }

pub push_expressions-requires : goal.push_expressions-requires
push_expressions-requires g c = packable_arguments (expressions_of c.args.arguments.now) c.requires
