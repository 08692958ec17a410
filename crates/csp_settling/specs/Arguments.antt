-- The values of arguments and conditions, or the first cause.
use Rattle.std.specs.Prelude.{◌≡◌, ⊤, Bool, List, map, Result, Ok, Err}
use Rattle.std.specs.declared.vec.Vec.{Vec}
use Rattle.theory_syntax.specs.Value as pure
use Rattle.theory_semantics.specs.Meaning.Evaluation.{Cause}
use Rattle.theory_semantics.specs.Meaning.Substitution.{Bindings}
use Rattle.csp_expression.specs.declared.seen.Seen.{Seen}
use Rattle.csp_expression.specs.declared.substitution.Binding.{Binding}
use Rattle.csp_expression.specs.Bindings.{bindings_of}
use Rattle.csp_expression.specs.Evaluation.{seen_value}
use Rattle.csp_expression.specs.Agreement.{AgreesWith}
use Rattle.csp_expression.specs.declared.no_value.NoValue.{NoValue}

-- the values that are seen
abbrev pub seen_values : {A : Type 0} → List (Seen A) → List pure.Value
seen_values xs = map seen_value xs

abbrev pub SeesAll : {A : Type 0} → Result (Vec (Seen A) A) NoValue → Result (List pure.Value) Cause → Type 0
SeesAll = AgreesWith (λ xs. seen_values xs.items)

abbrev pub Binds : {A : Type 0} → Result (Vec (Binding A) A) NoValue → Result Bindings Cause → Type 0
Binds = AgreesWith (λ bs. bindings_of bs.items)

abbrev pub Decides : Result Bool NoValue → Result Bool Cause → Type 0
Decides = AgreesWith (λ b. b)
