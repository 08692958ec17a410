-- What an answer of an evaluation says, and what the types of the code stand for.
use Rattle.std.specs.Prelude.{◌≡◌, ⊤, Bool, true, false, ℕ, zero, suc, List, [], ◌∷◌, map, Result, Ok, Err}
use Rattle.std.specs.declared.vec.Vec.{Vec}
use Rattle.theory_syntax.specs.Value as pure
use Rattle.theory_syntax.specs.Expression as expression
use Rattle.theory_syntax.specs.Types.{Types}
use Rattle.theory_semantics.specs.Meaning.Evaluation.{Cause}
use Rattle.csp_value.specs.declared.set.SetOf.{SetOf}
use Rattle.csp_value.specs.declared.value.Value.{Value}
use Rattle.csp_value.specs.Value.{value_of, values_of, members_of}
use Rattle.csp_value.specs.Fields.{sets_of}
use Rattle.csp_expression.specs.declared.cause.Cause as code
use Rattle.csp_expression.specs.declared.no_value.NoValue.{NoValue}
use Rattle.csp_expression.specs.declared.eval_fault.EvalFault.{EvalFault}
use Rattle.csp_expression.specs.declared.eval_fault.EvalFault.TheVariants as eval
use Rattle.csp_expression.specs.declared.seen.Seen.{Seen}
use Rattle.csp_expression.specs.declared.seen.Seen.TheVariants as seen
use Rattle.csp_expression.specs.declared.types.Constructors.{Constructors}
use Rattle.csp_expression.specs.declared.types.TypeTable.{TypeTable}
use Rattle.csp_expression.specs.Cause.{cause_of}
use Rattle.csp_expression.specs.Fault as fault
use Rattle.csp_expression.specs.Agreement.{AgreesWith}

-- the answer is this value, or this cause
abbrev pub IsAnswer : {A : Type 0} → Result (Value A) code.Cause → Result pure.Value Cause → Type 0
IsAnswer (Ok v) r = r ≡ Ok (value_of v)
IsAnswer (Err c) r = r ≡ Err (cause_of c)

-- the same where memory is needed
abbrev pub Gives : {A : Type 0} → Result (Value A) NoValue → Result pure.Value Cause → Type 0
Gives = AgreesWith value_of

-- the answer is this value or fault, where nothing is of a wrong kind. Refused memory says nothing.
abbrev pub Answers : {A : Type 0} → Result (Value A) EvalFault → Result pure.Value Cause → Type 0
Answers (Ok v) r = r ≡ Ok (value_of v)
Answers (Err (eval.Fault f)) r = r ≡ Err (fault.cause_of f)
Answers (Err eval.Memory) r = ⊤

-- the value that is seen
abbrev pub seen_value : {A : Type 0} → Seen A → pure.Value
seen_value (seen.Lent v) = value_of v.now
seen_value (seen.Made v) = value_of v

-- the same of a value that is seen
abbrev pub IsSeen : {A : Type 0} → Result (Seen A) code.Cause → Result pure.Value Cause → Type 0
IsSeen (Ok v) r = r ≡ Ok (seen_value v)
IsSeen (Err c) r = r ≡ Err (cause_of c)

abbrev pub Sees : {A : Type 0} → Result (Seen A) NoValue → Result pure.Value Cause → Type 0
Sees = AgreesWith seen_value

-- and of several values
abbrev pub GivesAll : {A : Type 0} → Result (Vec (Value A) A) NoValue → Result (List pure.Value) Cause → Type 0
GivesAll = AgreesWith (λ vs. values_of vs.items)

-- the operator makes its value of its operands without a part of them
abbrev pub only_reads : expression.Binary → Bool
only_reads expression.Concatenate = false
only_reads expression.Union = false
only_reads expression.Intersection = false
only_reads expression.Difference = false
only_reads _ = true

-- the operator makes its value of its operand without a part of it
abbrev pub only_reads_operand : expression.Unary → Bool
only_reads_operand expression.Head = false
only_reads_operand expression.Tail = false
only_reads_operand _ = true

-- so many numbers, from the first one on
abbrev pub numbers_up : ℕ → ℕ → List ℕ
numbers_up first zero = []
numbers_up first (suc n) = first ∷ numbers_up (suc first) n

abbrev pub constructors_of : Constructors → List ℕ
constructors_of c = numbers_up c.first.0 (suc c.following)

abbrev pub members_listed : {A : Type 0} → SetOf A → List pure.Value
members_listed s = pure.values_list (members_of s)

abbrev pub table_of : {A : Type 0} → TypeTable A → Types
table_of t = record {
  datatypes = map constructors_of t.datatypes.items;
  nametypes = map members_listed t.nametypes.items;
  constructors = map (λ c. sets_of c.sets.items) t.constructors.items;
}
