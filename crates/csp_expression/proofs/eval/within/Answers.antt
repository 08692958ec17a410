-- The test of the set decides.
use Rattle.std.proofs.Common.{Ok, Err, cond, sym, ◌∙◌, ap}
use Rattle.theory_syntax.specs.Value.{has_value}
use Rattle.theory_semantics.specs.Meaning.Evaluation.{OutOfRange}
use Rattle.csp_value.specs.Fields.{field_values}
use Rattle.csp_expression.specs.Evaluation.{seen_value}
use Rattle.csp_expression.proofs.eval.within.Goals as goal

pub returns-then-contains : goal.returns-then-contains
returns-then-contains g c =
    let set = field_values c.args.set.now in
    let v = seen_value c.args.seen in
    ap (λ b. cond b (Ok v) (Err OutOfRange)) (sym (c.contains.ensures ∙ ap (has_value set) c.value.ensures) ∙ c.if-contains.true)

pub returns : goal.returns
returns g c =
    let set = field_values c.args.set.now in
    let v = seen_value c.args.seen in
    ap (λ b. cond b (Ok v) (Err OutOfRange)) (sym (c.contains.ensures ∙ ap (has_value set) c.value.ensures) ∙ c.if-contains.false)
