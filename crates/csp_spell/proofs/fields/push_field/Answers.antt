-- The spelling of each form of field.
use Rattle.std.proofs.Common.{rules, OnOk, [], ◌≡◌, ◌∷◌, ◌++◌, sym, ap, subst}
use Rattle.theory_spelling.specs.Spelling.{expression_spelling, field_spelling, number_spelling}
use Rattle.theory_spelling.specs.Ranges.{IsInRangeField}
use Rattle.csp_expression.specs.Expression.{expression_of}
use Rattle.csp_term.specs.Field.{field_of}
use Rattle.csp_spell.proofs.Pushing.{behind_tag, behind_part, two_parts, where_ok, also_ok}
use Rattle.csp_spell.proofs.fields.push_field.Goals as goal

pub returns-in_ok-push-in-Given : goal.returns-in_ok-push-in-Given
returns-in_ok-push-in-Given g c =
    record {
      spelled = behind_tag c.push_expression.result c.args.bytes.now.items c.push.new.self.items c.push_expression.new.bytes.items (expression_spelling (expression_of c.in-Given.value)) (field_spelling (field_of c.args.field.now)) 0x20 c.in_ok-push-in-Given.ensures.items (ap (λ f. field_spelling (field_of f)) c.in-Given.is) c.push_expression.ensures.spelled;
      range = also_ok c.push_expression.result c.push_expression.ensures.range (λ h. subst (λ f. IsInRangeField (field_of f)) (sym c.in-Given.is) h);
    }

pub returns-in-Input : goal.returns-in-Input
returns-in-Input g c =
    record {
      spelled = subst (λ f. OnOk c.push_tagged.result (c.push_tagged.new.bytes.items ≡ c.args.bytes.now.items ++ field_spelling (field_of f))) (sym c.in-Input.is) c.push_tagged.ensures;
      range = where_ok c.push_tagged.result (subst (λ f. IsInRangeField (field_of f)) (sym c.in-Input.is) (search rules));
    }

pub returns-in_ok-push_number-in-InputFrom : goal.returns-in_ok-push_number-in-InputFrom
returns-in_ok-push_number-in-InputFrom g c =
    let n = number_spelling c.in-InputFrom.name.0 in
    let first = two_parts c.args.bytes.now.items c.push-in-InputFrom.new.self.items c.push_number.new.bytes.items (0x22 ∷ []) n c.in_ok-push-in-InputFrom.ensures.items c.in_ok-push_number-in-InputFrom.ensures in
    record {
      spelled = behind_part c.push_expression-in-InputFrom.result c.args.bytes.now.items c.push_number.new.bytes.items c.push_expression-in-InputFrom.new.bytes.items (0x22 ∷ n) (expression_spelling (expression_of c.in-InputFrom.set)) (field_spelling (field_of c.args.field.now)) first (ap (λ f. field_spelling (field_of f)) c.in-InputFrom.is) c.push_expression-in-InputFrom.ensures.spelled;
      range = also_ok c.push_expression-in-InputFrom.result c.push_expression-in-InputFrom.ensures.range (λ h. subst (λ f. IsInRangeField (field_of f)) (sym c.in-InputFrom.is) ((search rules), h));
    }
