-- Small scripts and terms, for the worked rows.
use Rattle.std.specs.Prelude.{ℕ, true, false, List, [], ◌∷◌, pos, codes}
use Rattle.theory_syntax.specs.Value.{Value, Integer, Truth, Constructor, no_values, value_and, Action, Tau, Ev}
use Rattle.theory_syntax.specs.Expression.{Expression, Literal, Name, Apply, SequenceOf, SetOf, Range, ConstructorOf, Head, no_expressions, expression_and, to_expressions}
use Rattle.theory_syntax.specs.Types.{Types}
use Rattle.theory_syntax.specs.Process.{EventExpression, EventSet, Enumeration, RenamingPair, Given, Input, InputFrom, Process, Stop, Call, Prefix, ExternalChoice, SlidingChoice, AlphabetisedParallel, GeneralisedParallel, Guard, Hiding, Skip, Renaming, ReplicatedInternalChoice, Model, Traces, Failures, RefinementOf, DeadlockFree, DivergenceFree, Assertion, Equation, ByTau, Script}
use Rattle.theory_semantics.specs.Meaning.Stepping.{rule_steps}
use Rattle.theory_semantics.specs.Meaning.Violations.{Evidence, Violation}

abbrev pub no_types : Types
no_types = record { datatypes = []; nametypes = []; constructors = [] }

-- an expression for a number, and a negative one
abbrev pub num : ℕ → Expression
num n = Literal (Integer (pos n))

abbrev pub number : ℕ → Value
number n = Integer (pos n)

-- `<1,true>`
abbrev pub one_and_true : Expression
one_and_true = SequenceOf (expression_and (num 1) (expression_and (Literal (Truth true)) no_expressions))

-- `head(<>)`
abbrev pub head_of_empty : Expression
head_of_empty = Apply Head (SequenceOf no_expressions)

-- `{}` and `{e}`
abbrev pub empty_set : Expression
empty_set = SetOf no_expressions

abbrev pub singleton : Expression → Expression
singleton e = SetOf (to_expressions (e ∷ []))

-- `channel a, b, c` and some equations
abbrev pub letters : List Equation → Script
letters equations = record {
  types = no_types;
  channels = [] ∷ [] ∷ [] ∷ [];
  equations = equations;
  assertions = [];
  channel_names = codes "a" ∷ codes "b" ∷ codes "c" ∷ [];
  constructor_names = [];
  unfolds = ByTau;
}

-- the events a, b, c by their numbers, and a prefix over one of them
abbrev pub letter : ℕ → Action
letter n = Ev (record { channel = n; fields = [] })

abbrev pub plain : ℕ → Process → Process
plain n p = Prefix n [] p

-- `a -> STOP`, and `p [] a -> STOP`
abbrev pub a_stop : Process
a_stop = plain 0 Stop

abbrev pub or_a : Process → Process
or_a p = ExternalChoice p a_stop

-- `b -> STOP`, `a -> STOP [] b -> STOP`, and `a -> STOP [> b -> STOP`
abbrev pub b_stop : Process
b_stop = plain 1 Stop

abbrev pub a_or_b : Process
a_or_b = ExternalChoice a_stop b_stop

abbrev pub slides : Process
slides = SlidingChoice a_stop b_stop

-- the sets of one of them
abbrev pub just : ℕ → EventSet
just n = Enumeration (record { channel = n; fields = no_expressions } ∷ [])

abbrev pub letter_expression : ℕ → EventExpression
letter_expression n = record { channel = n; fields = no_expressions }

-- `m <- n` over them
abbrev pub renamed : ℕ → ℕ → RenamingPair
renamed m n = record { from = letter_expression m; to = letter_expression n }

-- `p [{a} || {b}] q`, and `p[[a <- m, a <- n]]`
abbrev pub a_beside_b : Process → Process → Process
a_beside_b p q = AlphabetisedParallel p (just 0) (just 1) q

abbrev pub a_renamed : ℕ → ℕ → Process → Process
a_renamed m n p = Renaming p (renamed 0 m ∷ renamed 0 n ∷ [])

-- the rule steps of a term over them, without equations
abbrev pub letter_steps : Process → List (Action × Process)
letter_steps p = rule_steps (letters []) p

-- `channel c : {0..1}` and `channel d : {0..1}.{0..1}`
abbrev pub bits : List Value
bits = number 0 ∷ number 1 ∷ []

abbrev pub digits : Script
digits = record {
  types = no_types;
  channels = (bits ∷ []) ∷ (bits ∷ bits ∷ []) ∷ [];
  equations = [];
  assertions = [];
  channel_names = codes "c" ∷ codes "d" ∷ [];
  constructor_names = [];
  unfolds = ByTau;
}

-- `datatype D = N | B.{0..1}`: the constructors 0 and 1
abbrev pub some_bit : Types
some_bit = record { datatypes = (0 ∷ 1 ∷ []) ∷ []; nametypes = []; constructors = [] ∷ (bits ∷ []) ∷ [] }

-- the values `N` and `B.n`, and the expression `(B.n)`
abbrev pub no_bit : Value
no_bit = Constructor 0 no_values

abbrev pub bit : ℕ → Value
bit n = Constructor 1 (value_and (number n) no_values)

abbrev pub the_bit : ℕ → Expression
the_bit n = ConstructorOf 1 (expression_and (num n) no_expressions)

-- with `channel d : D`
abbrev pub bit_script : Script
bit_script = record {
  types = some_bit;
  channels = ((no_bit ∷ bit 0 ∷ bit 1 ∷ []) ∷ []) ∷ [];
  equations = [];
  assertions = [];
  channel_names = codes "d" ∷ [];
  constructor_names = codes "N" ∷ codes "B" ∷ [];
  unfolds = ByTau;
}

-- the event `c.n`
abbrev pub on_c : ℕ → Action
on_c n = Ev (record { channel = 0; fields = number n ∷ [] })

-- the event `d.v` of that script
abbrev pub on_d : Value → Action
on_d v = Ev (record { channel = 0; fields = v ∷ [] })

-- `c!e -> p`
abbrev pub send : Expression → Process → Process
send e p = Prefix 0 (Given e ∷ []) p

-- `c!x -> STOP`, where the name 7 is x
abbrev pub send_x : Process
send_x = send (Name 7) Stop

-- `c?x -> p` and `c?x:e -> p`
abbrev pub receive : Process → Process
receive p = Prefix 0 (Input 7 ∷ []) p

abbrev pub receive_from : Expression → Process → Process
receive_from e p = Prefix 0 (InputFrom 7 e ∷ []) p

-- the beginning `d.n` of events
abbrev pub beginning_on_d : ℕ → EventExpression
beginning_on_d n = record { channel = 1; fields = expression_and (num n) no_expressions }

-- `P(e)`, and `|~| x:{0..2} @ P(x)`
abbrev pub call_with : Expression → Process
call_with e = Call 0 (expression_and e no_expressions)

abbrev pub choice_of_calls : Process
choice_of_calls = ReplicatedInternalChoice 7 (Range (num 0) (num 2)) (call_with (Name 7))

-- refinement in the model, without `not`
abbrev pub refining : Model → Process → Process → Assertion
refining model p q = record { negated = false; property = RefinementOf model p; implementation = q }

-- `p [T= q` and `p [F= q`
abbrev pub in_traces : Process → Process → Assertion
in_traces p q = refining Traces p q

abbrev pub in_failures : Process → Process → Assertion
in_failures p q = refining Failures p q

-- `p :[deadlock free]` and `p :[divergence free]`
abbrev pub deadlock_free : Process → Assertion
deadlock_free p = record { negated = false; property = DeadlockFree; implementation = p }

abbrev pub divergence_free : Process → Assertion
divergence_free p = record { negated = false; property = DivergenceFree; implementation = p }

-- the assertion with `not`
abbrev pub negation_of : Assertion → Assertion
negation_of a = record { negated = true; property = a.property; implementation = a.implementation }

-- `true & STOP`
abbrev pub guarded_stop : Process
guarded_stop = Guard (Literal (Truth true)) Stop

-- the violation by this evidence before any step
abbrev pub at_once : Evidence → Violation
at_once e = record { path = []; evidence = e }

-- and behind one tau
abbrev pub after_tau : Evidence → Violation
after_tau e = record { path = Tau ∷ []; evidence = e }

-- n prefixes over the event a before STOP
abbrev pub prefixes : ℕ → Process
prefixes ℕ.zero = Stop
prefixes (ℕ.suc n) = plain 0 (prefixes n)

-- `P = a -> P`, with `P`, `a -> P`, and `p \ {a}`
abbrev pub repeating : Script
repeating = letters (record { parameters = []; body = plain 0 (Call 0 no_expressions) } ∷ [])

abbrev pub repeated : Process
repeated = Call 0 no_expressions

abbrev pub without_a : Process → Process
without_a p = Hiding p (just 0)

-- `(a -> SKIP) [| {a} |] (b -> SKIP)`
abbrev pub a_waits : Process
a_waits = GeneralisedParallel (plain 0 Skip) (just 0) (plain 1 Skip)

-- the violation by this evidence after a path
abbrev pub after_path : List Action → Evidence → Violation
after_path path e = record { path = path; evidence = e }

-- `P = P`
abbrev pub looping : Script
looping = letters (record { parameters = []; body = Call 0 no_expressions } ∷ [])
