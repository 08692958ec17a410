-- An event is spelled by its channel and its fields.
use Rattle.std.proofs.Common.{rules, ◌++◌, sym, ap, ◌∙◌, subst}
use Rattle.theory_spelling.specs.Spelling.{event_spelling, expression_spelling, list_spelling, number_spelling}
use Rattle.theory_spelling.specs.Packable.{IsPackableExpression, IsPackableList}
use Rattle.theory_spelling.specs.Ranges.{IsInRangeExpression}
use Rattle.std.specs.List.{AllByRecursion}
use Rattle.csp_expression.specs.Expression.{expressions_of}
use Rattle.csp_events.specs.Events.{event_expression_of}
use Rattle.csp_spell.proofs.Pushing.{behind_part, also_ok}
use Rattle.csp_spell.proofs.PushingExpressions.{packable_arguments, spelled_event, ranged_each}
use Rattle.csp_spell.proofs.events.push_event.Goals as goal

pub push_expressions-requires : goal.push_expressions-requires
push_expressions-requires g c =
    subst (λ es. IsPackableList IsPackableExpression (expressions_of es)) (sym c.deref.ensures.value) (packable_arguments (expressions_of c.args.event.now.fields.items) c.requires)

pub returns : goal.returns
returns g c =
    let n = number_spelling c.args.event.now.channel.0 in
    let whole = spelled_event c.args.event.now.channel.0 (expressions_of c.args.event.now.fields.items) ∙ ap (λ es. n ++ list_spelling expression_spelling (expressions_of es)) (sym c.deref.ensures.value) in
    record {
      spelled = behind_part c.push_expressions.result c.args.bytes.now.items c.push_number.new.bytes.items c.push_expressions.new.bytes.items n (list_spelling expression_spelling (expressions_of c.deref.result.now)) (event_spelling (event_expression_of c.args.event.now)) c.in_ok-push_number.ensures whole c.push_expressions.ensures.spelled;
      range = also_ok c.push_expressions.result c.push_expressions.ensures.range (λ h. ((search rules), ranged_each (expressions_of c.args.event.now.fields.items) (subst (λ es. AllByRecursion IsInRangeExpression (expressions_of es)) c.deref.ensures.value h)));
    }
