-- Where the left value of `and` decides.
use Rattle.std.proofs.Common.{◌≡◌, Bool, true, false, not, refl, sym, ◌∙◌, ap, ap₂}
use Rattle.theory_syntax.specs.Expression.{And}
use Rattle.theory_syntax.specs.Value.{Truth}
use Rattle.theory_syntax.specs.Operators.{binary_of}
use Rattle.theory_semantics.specs.Meaning.Evaluation.{decides}
use Rattle.csp_value.specs.Value.{value_of}
use Rattle.csp_value.proofs.Forms.{value_of_bool}
use Rattle.csp_expression.proofs.connectives.decides.Goals as goal

and_decides : (b : Bool) → not b ≡ decides And (Truth b)
and_decides true = refl
and_decides false = refl

pub returns-in-And-Bool : goal.returns-in-And-Bool
returns-in-And-Bool g c =
    and_decides c.in-And-Bool.truth ∙ ap (decides And) (sym (value_of_bool g.row.A.Denot c.in-And-Bool.truth)) ∙ ap₂ (λ op v. decides (binary_of op) (value_of v)) (sym c.in-And-Bool.is-0) (sym c.in-And-Bool.is-1)
