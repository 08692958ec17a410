-- Fields that are given with a dot.
use Rattle.std.proofs.Common.{◌≡◌, ◌∙◌, List, [], ◌∷◌, ◌++◌, map, sym, ap}
use Rattle.std.proofs.lemmas.List.{map-append}
use Rattle.theory_text.specs.Raw.{RawGiven}
use Rattle.csp_parse.specs.declared.expressions.Expression.{Expression}
use Rattle.csp_parse.specs.declared.processes.Field.{Field}
use Rattle.csp_parse.specs.Expressions.{expression_of}
use Rattle.csp_parse.specs.Processes.{field_of, fields_given}

-- one more given field
pub more_given : {A : Type 0} (e : Expression A) (es : List (Expression A)) (x : Field A) (xs ys : List (Field A)) → field_of x ≡ RawGiven (expression_of e) → map field_of xs ≡ fields_given es → ys ≡ xs ++ x ∷ [] → map field_of ys ≡ fields_given (es ++ e ∷ [])
more_given e es x xs ys told so_far is = ap (map field_of) is ∙ map-append field_of xs (x ∷ []) ∙ rw (so_far, told) (sym (map-append (λ v. RawGiven (expression_of v)) es (e ∷ [])))
