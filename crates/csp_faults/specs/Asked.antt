-- What is asked of an expression: its value, and of that a truth value or the members.
use Rattle.std.specs.Prelude.{◌≡◌, Bool, List, Option, Some, None, Result, Ok, Err}
use Rattle.std.specs.declared.vec.Vec.{Vec}
use Rattle.theory_syntax.specs.Value as pure
use Rattle.theory_semantics.specs.Meaning.Evaluation.{Cause}
use Rattle.csp_value.specs.declared.value.Value.{Value}
use Rattle.csp_value.specs.Value.{value_of, values_of}

-- what it is, or that there is none
abbrev pub Asked : {X Y : Type 0} → (X → Y) → Option X → Result Y Cause → Type 0
Asked meaning (Some x) r = r ≡ Ok (meaning x)
Asked meaning None r = (c : Cause) × (r ≡ Err c)

abbrev pub IsPicked : Option Bool → Result Bool Cause → Type 0
IsPicked = Asked (λ b. b)

abbrev pub IsFound : {A : Type 0} → Option (Value A) → Result pure.Value Cause → Type 0
IsFound = Asked value_of

abbrev pub AreElements : {A : Type 0} → Option (Vec (Value A) A) → Result (List pure.Value) Cause → Type 0
AreElements = Asked (λ vs. values_of vs.items)
