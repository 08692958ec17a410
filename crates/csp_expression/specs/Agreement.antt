-- What an answer says of what is meant, where memory may be refused.
use Rattle.std.specs.Prelude.{◌≡◌, ⊤, Result, Ok, Err}
use Rattle.theory_semantics.specs.Meaning.Evaluation.{Cause}
use Rattle.csp_expression.specs.declared.no_value.NoValue.{NoValue}
use Rattle.csp_expression.specs.declared.no_value.NoValue.TheVariants as eval
use Rattle.csp_expression.specs.Cause.{cause_of}

-- What is answered agrees with what is meant, and a cause is that of the definitions. Refused memory says nothing.
abbrev pub Agrees : {X M : Type 0} → (X → M → Type 0) → (Cause → M → Type 0) → Result X NoValue → M → Type 0
Agrees is_so is_its_cause (Ok x) m = is_so x m
Agrees is_so is_its_cause (Err (eval.Cause c)) m = is_its_cause (cause_of c) m
Agrees is_so is_its_cause (Err eval.Memory) m = ⊤

-- so where what is meant is a result
abbrev pub AgreesBy : {X Y : Type 0} → (X → Result Y Cause → Type 0) → Result X NoValue → Result Y Cause → Type 0
AgreesBy is_so = Agrees is_so (λ c r. r ≡ Err c)

-- so where what is answered stands for a value
abbrev pub AgreesWith : {X Y : Type 0} → (X → Y) → Result X NoValue → Result Y Cause → Type 0
AgreesWith meaning = AgreesBy (λ x r. r ≡ Ok (meaning x))
