-- Small trees, for the worked rows. Each is given with the text that has it; `;;` ends a line.
use Rattle.std.specs.Prelude.{ℕ, true, false, List, [], ◌∷◌, codes}
use Rattle.theory_syntax.specs.Expression.{Name, no_expressions, expression_and}
use Rattle.theory_syntax.specs.Process.{Given, Input, Stop, Call, Prefix, Traces, RefinementOf, Script, ByTau}
use Rattle.theory_text.specs.Place.{Place}
use Rattle.theory_text.specs.Raw.{RawName, RawExpression, RawNumber, RawTruth, RawUse, RawSequence, RawSet, RawRange, RawConstructor, RawExpressions, no_raw_expressions, raw_expression_and, RawGiven, RawInput, RawEvent, RawStop, RawCall, RawPrefix, RawRenaming, RawDomain, RawClause, RawDatatype, RawNametype, RawChannels, RawEquation, RawRefinementOf, RawDivergenceFree, RawAssertion, RawScript}
use Rattle.theory_semantics.specs.Laws.Terms.{no_types, num, bits, some_bit, no_bit, bit, the_bit}

abbrev pub at : ℕ → ℕ → Place
at line column = record { line = line; column = column }

abbrev pub named : List ℕ → ℕ → ℕ → RawName
named spelling line column = record { spelling = spelling; place = at line column }

abbrev pub one : RawExpression → RawExpressions
one e = raw_expression_and e no_raw_expressions

abbrev pub domain : ℕ → ℕ → RawExpression → RawDomain
domain line column e = record { place = at line column; set = e }

-- `{0..n}`
abbrev pub up_to : ℕ → RawExpression
up_to n = RawRange (RawNumber 0) (RawNumber n)

-- `assert P [T= STOP`
abbrev pub unknown_process : RawScript
unknown_process = RawAssertion (at 1 1) false (RawRefinementOf Traces (RawCall (named (codes "P") 1 8) no_raw_expressions)) RawStop ∷ []

-- `assert not P :[divergence free]`
abbrev pub unknown_in_freedom : RawScript
unknown_in_freedom = RawAssertion (at 1 1) true RawDivergenceFree (RawCall (named (codes "P") 1 12) no_raw_expressions) ∷ []

-- `channel n` ;; `P(n) = STOP`
abbrev pub declared_parameter : RawScript
declared_parameter = RawChannels (named (codes "n") 1 9 ∷ []) [] ∷ RawEquation (named (codes "P") 2 1) (named (codes "n") 2 3 ∷ []) RawStop ∷ []

-- `channel c` ;; `P = c`
abbrev pub channel_as_process : RawScript
channel_as_process =
    RawChannels (named (codes "c") 1 9 ∷ []) []
    ∷ RawEquation (named (codes "P") 2 1) [] (RawCall (named (codes "c") 2 5) no_raw_expressions) ∷ []

-- `P(n) = STOP` ;; `assert P [T= STOP`
abbrev pub too_few_arguments : RawScript
too_few_arguments =
    RawEquation (named (codes "P") 1 1) (named (codes "n") 1 3 ∷ []) RawStop
    ∷ RawAssertion (at 2 1) false (RawRefinementOf Traces (RawCall (named (codes "P") 2 8) no_raw_expressions)) RawStop ∷ []

-- `channel c : {}`
abbrev pub empty_field_set : RawScript
empty_field_set = RawChannels (named (codes "c") 1 9 ∷ []) (domain 1 13 (RawSet no_raw_expressions) ∷ []) ∷ []

-- `channel a` ;; `channel a`
abbrev pub channel_twice : RawScript
channel_twice = RawChannels (named (codes "a") 1 9 ∷ []) [] ∷ RawChannels (named (codes "a") 2 9 ∷ []) [] ∷ []

-- `P(n) = P(<n>)`
abbrev pub growing_parameter : RawScript
growing_parameter =
    RawEquation (named (codes "P") 1 1) (named (codes "n") 1 3 ∷ [])
    (RawCall (named (codes "P") 1 8) (one (RawSequence (one (RawUse (named (codes "n") 1 11)))))) ∷ []

-- `channel c : {0..1023}.{0..4}`
abbrev pub many_events : RawScript
many_events = RawChannels (named (codes "c") 1 9 ∷ []) (domain 1 13 (up_to 1023) ∷ domain 1 23 (up_to 4) ∷ []) ∷ []

-- `channel c : {0..1024}`
abbrev pub large_field_set : RawScript
large_field_set = RawChannels (named (codes "c") 1 9 ∷ []) (domain 1 13 (up_to 1024) ∷ []) ∷ []

-- `channel c : c`
abbrev pub channel_of_itself : RawScript
channel_of_itself = RawChannels (named (codes "c") 1 9 ∷ []) (domain 1 13 (RawUse (named (codes "c") 1 13)) ∷ []) ∷ []

-- `P(n,n) = STOP`
abbrev pub parameter_twice : RawScript
parameter_twice = RawEquation (named (codes "P") 1 1) (named (codes "n") 1 3 ∷ named (codes "n") 1 5 ∷ []) RawStop ∷ []

-- a channel without fields in a renaming
abbrev pub bare : List ℕ → ℕ → ℕ → RawEvent
bare spelling line column = record { channel = named spelling line column; fields = no_raw_expressions }

-- `channel c : {0}` ;; `channel d : {1}` ;; `P = STOP[[c <- d]]`
abbrev pub unlike_channels : RawScript
unlike_channels =
    RawChannels (named (codes "c") 1 9 ∷ []) (domain 1 13 (RawSet (one (RawNumber 0))) ∷ [])
    ∷ RawChannels (named (codes "d") 2 9 ∷ []) (domain 2 13 (RawSet (one (RawNumber 1))) ∷ [])
    ∷ RawEquation (named (codes "P") 3 1) [] (RawRenaming RawStop (record { from = bare (codes "c") 3 11; to = bare (codes "d") 3 16 } ∷ [])) ∷ []

-- `channel c : {0}` ;; `P = STOP[[c <- x]]`
abbrev pub bare_and_unknown : RawScript
bare_and_unknown =
    RawChannels (named (codes "c") 1 9 ∷ []) (domain 1 13 (RawSet (one (RawNumber 0))) ∷ [])
    ∷ RawEquation (named (codes "P") 2 1) [] (RawRenaming RawStop (record { from = bare (codes "c") 2 11; to = bare (codes "x") 2 16 } ∷ [])) ∷ []

-- `nametype N = {1, true}`
abbrev pub mixed_nametype : RawScript
mixed_nametype = RawNametype (named (codes "N") 1 10) (domain 1 14 (RawSet (raw_expression_and (RawNumber 1) (one (RawTruth true))))) ∷ []

-- `channel c : {0..1023}` ;; `channel d : {0..1023}.{0..2}` ;; `channel e`
abbrev pub one_event_too_many : RawScript
one_event_too_many =
    RawChannels (named (codes "c") 1 9 ∷ []) (domain 1 13 (up_to 1023) ∷ [])
    ∷ RawChannels (named (codes "d") 2 9 ∷ []) (domain 2 13 (up_to 1023) ∷ domain 2 23 (up_to 2) ∷ [])
    ∷ RawChannels (named (codes "e") 3 9 ∷ []) [] ∷ []

-- `channel c : {0..1}` ;; `P(n) = c!n -> P(n)` ;; `assert P(0) [T= c?x -> STOP`
abbrev pub outputs : RawScript
outputs =
    RawChannels (named (codes "c") 1 9 ∷ []) (domain 1 13 (up_to 1) ∷ [])
    ∷ RawEquation (named (codes "P") 2 1) (named (codes "n") 2 3 ∷ [])
    (RawPrefix (named (codes "c") 2 8) (RawGiven (RawUse (named (codes "n") 2 10)) ∷ [])
    (RawCall (named (codes "P") 2 15) (one (RawUse (named (codes "n") 2 17)))))
    ∷ RawAssertion (at 3 1) false (RawRefinementOf Traces (RawCall (named (codes "P") 3 8) (one (RawNumber 0))))
    (RawPrefix (named (codes "c") 3 17) (RawInput (named (codes "x") 3 19) ∷ []) RawStop) ∷ []

-- its script: `n` and `x` are the bound names 0 and 1
abbrev pub outputs_script : Script
outputs_script = record {
  types = no_types;
  channels = (bits ∷ []) ∷ [];
  equations = record { parameters = 0 ∷ []; body = Prefix 0 (Given (Name 0) ∷ []) (Call 0 (expression_and (Name 0) no_expressions)) } ∷ [];
  assertions = record {
    negated = false;
    property = RefinementOf Traces (Call 0 (expression_and (num 0) no_expressions));
    implementation = Prefix 0 (Input 1 ∷ []) Stop;
  } ∷ [];
  channel_names = codes "c" ∷ [];
  constructor_names = [];
  unfolds = ByTau;
}

-- ---- constructors with fields

abbrev pub clause : List ℕ → ℕ → ℕ → List RawDomain → RawClause
clause spelling line column fields = record { name = named spelling line column; fields = fields }

-- `datatype D = N | B.D`
abbrev pub datatype_of_itself : RawScript
datatype_of_itself = RawDatatype (named (codes "D") 1 10) (clause (codes "N") 1 14 [] ∷ clause (codes "B") 1 18 (domain 1 20 (RawUse (named (codes "D") 1 20)) ∷ []) ∷ []) ∷ []

-- `datatype D = N | B.{0..1}` ;; `channel d : D`, and more
abbrev pub with_datatype : RawScript → RawScript
with_datatype more =
    RawDatatype (named (codes "D") 1 10) (clause (codes "N") 1 14 [] ∷ clause (codes "B") 1 18 (domain 1 20 (up_to 1) ∷ []) ∷ [])
    ∷ RawChannels (named (codes "d") 2 9 ∷ []) (domain 2 13 (RawUse (named (codes "D") 2 13)) ∷ [])
    ∷ more

-- `assert STOP [T= d!B -> STOP`
abbrev pub bare_constructor_sent : RawScript
bare_constructor_sent = with_datatype
    (RawAssertion (at 3 1) false (RawRefinementOf Traces RawStop) (RawPrefix (named (codes "d") 3 17) (RawGiven (RawUse (named (codes "B") 3 19)) ∷ []) RawStop) ∷ [])

-- `P = d!(B.1) -> STOP`
abbrev pub constructor_sent : RawScript
constructor_sent = with_datatype
    (RawEquation (named (codes "P") 3 1) [] (RawPrefix (named (codes "d") 3 5) (RawGiven (RawConstructor (named (codes "B") 3 8) (one (RawNumber 1))) ∷ []) RawStop) ∷ [])

-- its script
abbrev pub constructor_sent_script : Script
constructor_sent_script = record {
  types = some_bit;
  channels = ((no_bit ∷ bit 0 ∷ bit 1 ∷ []) ∷ []) ∷ [];
  equations = record { parameters = []; body = Prefix 0 (Given (the_bit 1) ∷ []) Stop } ∷ [];
  assertions = [];
  channel_names = codes "d" ∷ [];
  constructor_names = codes "N" ∷ codes "B" ∷ [];
  unfolds = ByTau;
}
