-- Why an assertion has no answer, in words.
use Rattle.std.specs.Prelude.{ℕ, List, [], codes}
use Rattle.theory_semantics.specs.Meaning.Evaluation.{Cause, OutOfRange, Overflow, EmptySequence, BadModulus, EmptyChoice, IllKinded}
use Rattle.theory_search.specs.Outcome.{Why, TooManyPairs, TooManyNodes, LargeTerm, Fault, NoMemory}

-- what a side comes to that has no value; a checked script has no value of a wrong kind
abbrev pub cause_sentence : Cause → List ℕ
cause_sentence OutOfRange = codes "  a side comes to a value that lies outside of the set of its field\n"
cause_sentence Overflow = codes "  a side comes to a number outside of 32 bits, or to a set or sequence that is too long\n"
cause_sentence EmptySequence = codes "  a side comes to the head or tail of an empty sequence\n"
cause_sentence BadModulus = codes "  a side comes to a remainder by a number that is not positive\n"
cause_sentence EmptyChoice = codes "  a side comes to an internal choice over the empty set\n"
cause_sentence IllKinded = []

abbrev pub reason : Why → List ℕ
reason TooManyPairs = codes "  more pairs are reachable, of a node of the specification and a process of the implementation, than --max-pairs allows\n"
reason TooManyNodes = codes "  the specification has more nodes, or more states in one of them, than --max-nodes allows\n"
reason LargeTerm = codes "  a side comes to a process that is too large, and no option allows more\n"
reason (Fault c) = cause_sentence c
reason NoMemory = codes "  memory was refused\n"
