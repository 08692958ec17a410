-- The number and the word of a cause.
use Rattle.std.specs.Prelude.{ℕ, List, codes}
use Rattle.std.specs.declared.cmp.Ordering.{Ordering}
use Rattle.std.specs.Ordering.{nat_cmp}
use Rattle.theory_semantics.specs.Meaning.Evaluation.{Cause, OutOfRange, Overflow, EmptySequence, BadModulus, EmptyChoice, IllKinded}

abbrev pub cause_number : Cause → ℕ
cause_number OutOfRange = 1
cause_number Overflow = 2
cause_number EmptySequence = 3
cause_number BadModulus = 4
cause_number EmptyChoice = 5
cause_number IllKinded = 6

abbrev pub cause_cmp : Cause → Cause → Ordering
cause_cmp c d = nat_cmp (cause_number c) (cause_number d)

-- the word for a cause; no line ever has the last one
abbrev pub cause_word : Cause → List ℕ
cause_word OutOfRange = codes "range"
cause_word Overflow = codes "overflow"
cause_word EmptySequence = codes "empty"
cause_word BadModulus = codes "modulus"
cause_word EmptyChoice = codes "choice"
cause_word IllKinded = codes "kind"
