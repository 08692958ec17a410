-- The field that one of the code stands for.
use Rattle.std.specs.Prelude.{List, map}
use Rattle.theory_syntax.specs.Process as pure
use Rattle.csp_term.specs.declared.field.Field.{Field}
use Rattle.csp_term.specs.declared.field.Field.TheVariants as variant
use Rattle.csp_expression.specs.Expression.{expression_of}

abbrev pub field_of : {A : Type 0} → Field A → pure.Field
field_of (variant.Given e) = pure.Given (expression_of e)
field_of (variant.Input n) = pure.Input n.0
field_of (variant.InputFrom n e) = pure.InputFrom n.0 (expression_of e)

abbrev pub fields_of : {A : Type 0} → List (Field A) → List pure.Field
fields_of fs = map field_of fs
