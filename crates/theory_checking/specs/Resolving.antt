-- The term that an expression or a process as it is written stands for, where each of its names means something that fits.
use Rattle.std.specs.Prelude.{ℕ, suc, nat_eq, Bool, false, not, cond, List, [], ◌∷◌, pos, Option, Some, None, option_map, option_and_then}
use Rattle.theory_syntax.specs.Value.{Integer, Truth, Constructor, no_values}
use Rattle.theory_syntax.specs.Expression.{Expression, Literal, Name, Apply, Combine, SequenceOf, SetOf, Range, Booleans, Datatype, Nametype, ConstructorOf, Expressions, no_expressions, expression_and}
use Rattle.theory_syntax.specs.Process.{Field, Given, Input, InputFrom, EventExpression, EventSet, Enumeration, Productions, EventUnion, EventIntersection, EventDifference, RenamingPair, Process, Stop, Skip, Call, Prefix, Guard, If, ExternalChoice, InternalChoice, Sequential, Interleaving, Interrupt, GeneralisedParallel, AlphabetisedParallel, Hiding, Renaming, ReplicatedExternalChoice, ReplicatedInternalChoice, ReplicatedInterleaving, SlidingChoice, Equation, Property, RefinementOf, DeadlockFree, DivergenceFree, Assertion}
use Rattle.theory_text.specs.Raw.{RawName, RawExpression, RawNumber, RawTruth, RawBooleans, RawUse, RawApply, RawCombine, RawSequence, RawSet, RawRange, RawConstructor, RawExpressions, no_raw_expressions, raw_expression_and, RawField, RawGiven, RawInput, RawInputFrom, RawEvent, RawEventSet, RawEnumeration, RawProductions, RawEventUnion, RawEventIntersection, RawEventDifference, RawPair, Infix, ExternalInfix, InternalInfix, SequentialInfix, InterleavingInfix, InterruptInfix, SlidingInfix, Replicator, ExternalReplicator, InternalReplicator, InterleavingReplicator, RawProcess, RawStop, RawSkip, RawCall, RawPrefix, RawGuard, RawIf, RawInfix, RawGeneralisedParallel, RawAlphabetisedParallel, RawHiding, RawRenaming, RawReplicated, RawProperty, RawRefinementOf, RawDeadlockFree, RawDivergenceFree}
use Rattle.theory_checking.specs.Names.{DatatypeName, ConstructorName, NametypeName, ChannelName, EquationName, Meaning, Declared, Bound, number_in, Environment, binding, bound_by_fields, meaning, fields_of_constructor}

-- a form of several parts, where each part is there
abbrev pub of_two : {A B C : Type 0} → (A → B → C) → Option A → Option B → Option C
of_two f (Some x) (Some y) = Some (f x y)
of_two f _ _ = None

abbrev pub of_three : {A B C D : Type 0} → (A → B → C → D) → Option A → Option B → Option C → Option D
of_three f (Some x) y z = of_two (f x) y z
of_three f None y z = None

abbrev pub of_four : {A B C D E : Type 0} → (A → B → C → D → E) → Option A → Option B → Option C → Option D → Option E
of_four f (Some w) x y z = of_three (f w) x y z
of_four f None x y z = None

-- what f makes of each, where it makes something of all
abbrev pub every : {A B : Type 0} → (A → Option B) → List A → Option (List B)
every f [] = Some []
every f (x ∷ xs) = of_two ◌∷◌ (f x) (every f xs)

abbrev pub as_expression : Option Meaning → Option Expression
as_expression (Some (Bound n)) = Some (Name n)
as_expression (Some (Declared ConstructorName k)) = Some (Literal (Constructor k no_values))
as_expression (Some (Declared DatatypeName d)) = Some (Datatype d)
as_expression (Some (Declared NametypeName n)) = Some (Nametype n)
as_expression _ = None

abbrev pub as_constructor : Option Meaning → Option ℕ
as_constructor (Some (Declared ConstructorName k)) = Some k
as_constructor _ = None

abbrev pub as_channel : Option Meaning → Option ℕ
as_channel (Some (Declared ChannelName c)) = Some c
as_channel _ = None

abbrev pub as_equation : Option Meaning → Option ℕ
as_equation (Some (Declared EquationName n)) = Some n
as_equation _ = None

-- how many fields the constructor has that a name means; none where it means no constructor
abbrev pub constructor_count : Environment → RawName → Option ℕ
constructor_count env n = option_and_then (fields_of_constructor env.declarations) (as_constructor (meaning env n))

abbrev pub is_count : ℕ → Option ℕ → Bool
is_count k (Some p) = nat_eq p k
is_count k None = false

-- a constructor with fields, which cannot stand alone
abbrev pub lacks_fields : Option ℕ → Bool
lacks_fields (Some p) = not (nat_eq p 0)
lacks_fields None = false

-- the number of the constructor that a name means, if that has so many fields
abbrev pub constructor_with : Environment → RawName → ℕ → Option ℕ
constructor_with env n k = cond (is_count k (constructor_count env n)) (as_constructor (meaning env n)) None

abbrev pub number_of : RawExpressions → ℕ
number_of no_raw_expressions = 0
number_of (raw_expression_and e es) = suc (number_of es)

-- A literal number, a truth value and a constructor's name are values. A constructor has as many fields as its clause.
abbrev mutual
  pub expression_of : Environment → RawExpression → Option Expression
  expression_of env (RawNumber n) = Some (Literal (Integer (pos n)))
  expression_of env (RawTruth b) = Some (Literal (Truth b))
  expression_of env RawBooleans = Some Booleans
  expression_of env (RawUse n) = cond (lacks_fields (constructor_count env n)) None (as_expression (meaning env n))
  expression_of env (RawApply op e) = option_map (Apply op) (expression_of env e)
  expression_of env (RawCombine op e f) = of_two (Combine op) (expression_of env e) (expression_of env f)
  expression_of env (RawSequence es) = option_map SequenceOf (expressions_of env es)
  expression_of env (RawSet es) = option_map SetOf (expressions_of env es)
  expression_of env (RawRange e f) = of_two Range (expression_of env e) (expression_of env f)
  expression_of env (RawConstructor n es) = of_two ConstructorOf (constructor_with env n (number_of es)) (expressions_of env es)

  pub expressions_of : Environment → RawExpressions → Option Expressions
  expressions_of env no_raw_expressions = Some no_expressions
  expressions_of env (raw_expression_and e es) = of_two expression_and (expression_of env e) (expressions_of env es)

-- the number of a bound name
abbrev pub bound_number : Environment → RawName → Option ℕ
bound_number env n = number_in env.numbered n.spelling

-- An input's set stands outside its name's scope; the fields behind it stand inside.
abbrev pub fields_of : Environment → List RawField → Option (List Field)
fields_of env [] = Some []
fields_of env (RawGiven e ∷ fs) = of_two (λ v rest. Given v ∷ rest) (expression_of env e) (fields_of env fs)
fields_of env (RawInput n ∷ fs) = of_two (λ x rest. Input x ∷ rest) (bound_number env n) (fields_of (binding env (n ∷ [])) fs)
fields_of env (RawInputFrom n e ∷ fs) =
    of_three (λ x s rest. InputFrom x s ∷ rest) (bound_number env n) (expression_of env e) (fields_of (binding env (n ∷ [])) fs)

abbrev pub event_of : Environment → RawEvent → Option EventExpression
event_of env e = of_two (λ c es. record { channel = c; fields = es }) (as_channel (meaning env e.channel)) (expressions_of env e.fields)

abbrev pub event_set_of : Environment → RawEventSet → Option EventSet
event_set_of env (RawEnumeration es) = option_map Enumeration (every (event_of env) es)
event_set_of env (RawProductions es) = option_map Productions (every (event_of env) es)
event_set_of env (RawEventUnion a b) = of_two EventUnion (event_set_of env a) (event_set_of env b)
event_set_of env (RawEventIntersection a b) = of_two EventIntersection (event_set_of env a) (event_set_of env b)
event_set_of env (RawEventDifference a b) = of_two EventDifference (event_set_of env a) (event_set_of env b)

abbrev pub pair_of : Environment → RawPair → Option RenamingPair
pair_of env r = of_two (λ c d. record { from = c; to = d }) (event_of env r.from) (event_of env r.to)

abbrev pub infix_process : Infix → Process → Process → Process
infix_process ExternalInfix = ExternalChoice
infix_process InternalInfix = InternalChoice
infix_process SequentialInfix = Sequential
infix_process InterleavingInfix = Interleaving
infix_process InterruptInfix = Interrupt
infix_process SlidingInfix = SlidingChoice

abbrev pub replicated_process : Replicator → ℕ → Expression → Process → Process
replicated_process ExternalReplicator = ReplicatedExternalChoice
replicated_process InternalReplicator = ReplicatedInternalChoice
replicated_process InterleavingReplicator = ReplicatedInterleaving

abbrev pub process_of : Environment → RawProcess → Option Process
process_of env RawStop = Some Stop
process_of env RawSkip = Some Skip
process_of env (RawCall n es) = of_two Call (as_equation (meaning env n)) (expressions_of env es)
process_of env (RawPrefix c fs p) = of_three Prefix (as_channel (meaning env c)) (fields_of env fs) (process_of (binding env (bound_by_fields fs)) p)
process_of env (RawGuard e p) = of_two Guard (expression_of env e) (process_of env p)
process_of env (RawIf e p q) = of_three If (expression_of env e) (process_of env p) (process_of env q)
process_of env (RawInfix op p q) = of_two (infix_process op) (process_of env p) (process_of env q)
process_of env (RawGeneralisedParallel p a q) = of_three GeneralisedParallel (process_of env p) (event_set_of env a) (process_of env q)
process_of env (RawAlphabetisedParallel p a b q) = of_four AlphabetisedParallel (process_of env p) (event_set_of env a) (event_set_of env b) (process_of env q)
process_of env (RawHiding p a) = of_two Hiding (process_of env p) (event_set_of env a)
process_of env (RawRenaming p rs) = of_two Renaming (process_of env p) (every (pair_of env) rs)
process_of env (RawReplicated op n e p) = of_three (replicated_process op) (bound_number env n) (expression_of env e) (process_of (binding env (n ∷ [])) p)

-- an equation, whose parameters are bound in its body, and an assertion
abbrev pub equation_of : Environment → List RawName → RawProcess → Option Equation
equation_of env ns p = of_two (λ xs body. record { parameters = xs; body = body }) (every (bound_number env) ns) (process_of (binding env ns) p)

abbrev pub property_of : Environment → RawProperty → Option Property
property_of env (RawRefinementOf model spec) = option_map (RefinementOf model) (process_of env spec)
property_of env RawDeadlockFree = Some DeadlockFree
property_of env RawDivergenceFree = Some DivergenceFree

abbrev pub assertion_of : Environment → Bool → RawProperty → RawProcess → Option Assertion
assertion_of env n a p = of_two (λ x i. record { negated = n; property = x; implementation = i }) (property_of env a) (process_of env p)
