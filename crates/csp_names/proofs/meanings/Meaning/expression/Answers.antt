-- A constructor alone is its value without fields.
use Rattle.std.proofs.Common.{◌≡◌, ◌∙◌, Some, ap, rules, sym}
use Rattle.theory_syntax.specs.Expression as pure
use Rattle.theory_syntax.specs.Value as value
use Rattle.csp_value.proofs.Forms.{value_of_con}
use Rattle.csp_value.specs.Value.{values_of}
use Rattle.csp_expression.proofs.ExpressionForms as forms
use Rattle.theory_checking.specs.Resolving.{as_expression}
use Rattle.csp_names.specs.Meanings.{meaning_of}
use Rattle.csp_names.proofs.meanings.Meaning.expression.Goals as goal

pub returns-in-Declared-Constructor : goal.returns-in-Declared-Constructor
returns-in-Declared-Constructor g c =
    let k = c.in-Declared-Constructor.constructor.0 in
    let means : as_expression (Some (meaning_of c.args.self)) ≡ Some (pure.Literal (value.Constructor k value.no_values)) = search rules in
    ap Some (forms.of_literal g.row.A.Denot _ ∙ ap pure.Literal (value_of_con g.row.A.Denot c.in-Declared-Constructor.constructor c.new.result ∙ ap (λ vs. value.Constructor k (value.to_values (values_of vs))) c.new.ensures.items))
    ∙ sym means
