-- An event has a value for each field where the numbers are the same.
use Rattle.std.proofs.Common.{◌≡◌, length, Ok, sym, ◌∙◌, ap, subst, arith}
use Rattle.std.proofs.lemmas.List.{length-map}
use Rattle.theory_semantics.specs.Meaning.Events.{field_sets}
use Rattle.theory_faults.specs.Culprit.{over_sets}
use Rattle.theory_faults.specs.Events.{count_misfit}
use Rattle.csp_events.specs.Events.{event_expression_of}
use Rattle.csp_term.specs.Script.{script_of_parts}
use Rattle.csp_value.specs.Fields.{field_values, sets_of}
use Rattle.csp_faults.specs.Known.{AreDeclared}
use Rattle.csp_faults.proofs.Found.{as_many, expressions_count, not_as_many}
use Rattle.csp_faults.proofs.events.count_misfit.Goals as goal

pub returns-then-len-sets : goal.returns-then-len-sets
returns-then-len-sets g c =
    let e = c.args.event.now in
    let sets = c.in-Some.sets.now in
    let r = field_sets (script_of_parts c.args.script.now) e.channel.0 in
    let is : r ≡ Ok (sets_of sets) = subst (λ o. AreDeclared o r) c.in-Some.is c.channel_sets.ensures in
    let given = expressions_count e.fields.items in
    let wanted = length-map sets field_values in
    as_many _ (length (sets_of sets)) (omega (arith, c.if-len-sets.true, e.fields.ok.0, given, wanted)) ∙ ap (λ q. over_sets q (count_misfit (event_expression_of e))) (sym is)

pub returns-else-len-sets : goal.returns-else-len-sets
returns-else-len-sets g c =
    let e = c.args.event.now in
    let sets = c.in-Some.sets.now in
    let r = field_sets (script_of_parts c.args.script.now) e.channel.0 in
    let is : r ≡ Ok (sets_of sets) = subst (λ o. AreDeclared o r) c.in-Some.is c.channel_sets.ensures in
    let given = expressions_count e.fields.items in
    let wanted = length-map sets field_values in
    not_as_many _ (length (sets_of sets)) (λ same. c.if-len-sets.false (omega (arith, same, e.fields.ok.0, given, wanted))) ∙ ap (λ q. over_sets q (count_misfit (event_expression_of e))) (sym is)
