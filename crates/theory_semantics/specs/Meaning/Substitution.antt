-- Putting values in for names. Nothing is evaluated.
use Rattle.std.specs.Prelude.{ℕ, nat_eq, cond, List, [], ◌∷◌, Option, Some, None}
use Rattle.theory_syntax.specs.Value.{Value}
use Rattle.theory_syntax.specs.Expression.{Expression, Literal, Name, Apply, Combine, SequenceOf, SetOf, Range, Booleans, Datatype, Nametype, ConstructorOf, Expressions, no_expressions, expression_and}
use Rattle.theory_syntax.specs.Process.{Field, Given, Input, InputFrom, EventExpression, EventSet, Enumeration, Productions, EventUnion, EventIntersection, EventDifference, RenamingPair, Process, Stop, Skip, Omega, Call, Prefix, Guard, If, ExternalChoice, InternalChoice, Sequential, Interleaving, Interrupt, GeneralisedParallel, AlphabetisedParallel, Hiding, Renaming, ReplicatedExternalChoice, ReplicatedInternalChoice, ReplicatedInterleaving, SlidingChoice}

-- names with their values; a list that is put in names no name twice
abbrev pub Bindings : Type 0
Bindings = List (ℕ × Value)

-- the value that a name stands for, if any
abbrev pub bound : Bindings → ℕ → Option Value
bound [] n = None
bound (b ∷ bs) n = cond (nat_eq b.0 n) (Some b.1) (bound bs n)

-- the list without a name, which a binder of that name hides
abbrev pub without : ℕ → Bindings → Bindings
without n [] = []
without n (b ∷ bs) = cond (nat_eq b.0 n) (without n bs) (b ∷ without n bs)

-- the list with a name's value given anew
abbrev pub bind : ℕ → Value → Bindings → Bindings
bind n v bs = (n, v) ∷ without n bs

abbrev pub name_or : Option Value → ℕ → Expression
name_or (Some v) n = Literal v
name_or None n = Name n

abbrev mutual
  pub put_expression : Bindings → Expression → Expression
  put_expression bs (Literal v) = Literal v
  put_expression bs (Name n) = name_or (bound bs n) n
  put_expression bs (Apply op e) = Apply op (put_expression bs e)
  put_expression bs (Combine op e f) = Combine op (put_expression bs e) (put_expression bs f)
  put_expression bs (SequenceOf es) = SequenceOf (put_expressions bs es)
  put_expression bs (SetOf es) = SetOf (put_expressions bs es)
  put_expression bs (Range e f) = Range (put_expression bs e) (put_expression bs f)
  put_expression bs Booleans = Booleans
  put_expression bs (Datatype d) = Datatype d
  put_expression bs (Nametype n) = Nametype n
  put_expression bs (ConstructorOf k es) = ConstructorOf k (put_expressions bs es)

  pub put_expressions : Bindings → Expressions → Expressions
  put_expressions bs no_expressions = no_expressions
  put_expressions bs (expression_and e es) = expression_and (put_expression bs e) (put_expressions bs es)

-- An input binds its name in the fields after it and in the body, and not in its own set.
abbrev pub put_fields : Bindings → List Field → List Field
put_fields bs [] = []
put_fields bs (Given e ∷ fs) = Given (put_expression bs e) ∷ put_fields bs fs
put_fields bs (Input n ∷ fs) = Input n ∷ put_fields (without n bs) fs
put_fields bs (InputFrom n e ∷ fs) = InputFrom n (put_expression bs e) ∷ put_fields (without n bs) fs

-- what is left of the list behind the inputs of a prefix
abbrev pub behind : Bindings → List Field → Bindings
behind bs [] = bs
behind bs (Given e ∷ fs) = behind bs fs
behind bs (Input n ∷ fs) = behind (without n bs) fs
behind bs (InputFrom n e ∷ fs) = behind (without n bs) fs

abbrev pub put_event : Bindings → EventExpression → EventExpression
put_event bs e = record { channel = e.channel; fields = put_expressions bs e.fields }

abbrev pub put_events : Bindings → List EventExpression → List EventExpression
put_events bs [] = []
put_events bs (e ∷ es) = put_event bs e ∷ put_events bs es

abbrev pub put_event_set : Bindings → EventSet → EventSet
put_event_set bs (Enumeration es) = Enumeration (put_events bs es)
put_event_set bs (Productions es) = Productions (put_events bs es)
put_event_set bs (EventUnion a b) = EventUnion (put_event_set bs a) (put_event_set bs b)
put_event_set bs (EventIntersection a b) = EventIntersection (put_event_set bs a) (put_event_set bs b)
put_event_set bs (EventDifference a b) = EventDifference (put_event_set bs a) (put_event_set bs b)

abbrev pub put_pairs : Bindings → List RenamingPair → List RenamingPair
put_pairs bs [] = []
put_pairs bs (r ∷ rs) = record { from = put_event bs r.from; to = put_event bs r.to } ∷ put_pairs bs rs

-- The process with each free name of the list replaced by its value. A bound name hides an outer one.
abbrev pub put : Bindings → Process → Process
put bs Stop = Stop
put bs Skip = Skip
put bs Omega = Omega
put bs (Call n es) = Call n (put_expressions bs es)
put bs (Prefix c fs p) = Prefix c (put_fields bs fs) (put (behind bs fs) p)
put bs (Guard e p) = Guard (put_expression bs e) (put bs p)
put bs (If e p q) = If (put_expression bs e) (put bs p) (put bs q)
put bs (ExternalChoice p q) = ExternalChoice (put bs p) (put bs q)
put bs (InternalChoice p q) = InternalChoice (put bs p) (put bs q)
put bs (Sequential p q) = Sequential (put bs p) (put bs q)
put bs (Interleaving p q) = Interleaving (put bs p) (put bs q)
put bs (Interrupt p q) = Interrupt (put bs p) (put bs q)
put bs (GeneralisedParallel p a q) = GeneralisedParallel (put bs p) (put_event_set bs a) (put bs q)
put bs (AlphabetisedParallel p a b q) = AlphabetisedParallel (put bs p) (put_event_set bs a) (put_event_set bs b) (put bs q)
put bs (Hiding p a) = Hiding (put bs p) (put_event_set bs a)
put bs (Renaming p rs) = Renaming (put bs p) (put_pairs bs rs)
put bs (ReplicatedExternalChoice n e p) = ReplicatedExternalChoice n (put_expression bs e) (put (without n bs) p)
put bs (ReplicatedInternalChoice n e p) = ReplicatedInternalChoice n (put_expression bs e) (put (without n bs) p)
put bs (ReplicatedInterleaving n e p) = ReplicatedInterleaving n (put_expression bs e) (put (without n bs) p)
put bs (SlidingChoice p q) = SlidingChoice (put bs p) (put bs q)
