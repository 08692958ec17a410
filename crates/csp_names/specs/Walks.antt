-- What a walk answers.
use Rattle.std.specs.declared.vec.Vec.{Vec}
use Rattle.std.specs.Prelude.{◌≡◌, ℕ, Bool, true, false, List, [], ◌∷◌, ◌++◌, map, flat_map, Option, Some, Result, Ok, Err, IsTrue, ◌↔◌, ⊤}
use Rattle.theory_text.specs.Raw.{RawName, RawExpression, RawExpressions, RawField, RawEvent, RawEventSet, RawPair, RawProcess, RawProperty}
use Rattle.theory_syntax.specs.Expression as pure
use Rattle.theory_syntax.specs.Process as process
use Rattle.csp_lex.specs.Places.{place_of}
use Rattle.theory_checking.specs.Names.{Environment, Declared, ChannelName, EquationName, binding, bound_by_fields, bound_in, bound_in_property, meaning, spellings, with_spellings}
use Rattle.theory_checking.specs.Resolving as resolving
use Rattle.theory_checking.specs.Rules.{field_count}
use Rattle.theory_checking.specs.Sites.{Use, AsExpression, AsConstructor, AsEquation, AsEvent, AsProductions, AsBareLeft, AsBareRight, Site, Used, BoundThere, Parameter, in_expression, in_expressions, in_fields, in_event, in_production, in_event_set, in_pair, in_process, in_property, in_parameters}
use Rattle.theory_checking.specs.Walks.{AllFine, IsFine, IsStoppedAt}
use Rattle.csp_value.specs.declared.name.ChannelId.{ChannelId}
use Rattle.csp_value.specs.declared.name.ConId.{ConId}
use Rattle.csp_expression.specs.declared.expr.Expr.{Expr}
use Rattle.csp_expression.specs.declared.name.Name.{Name}
use Rattle.csp_expression.specs.Expression.{expression_of, expressions_of}
use Rattle.csp_events.specs.declared.event_expression.EventExpression.{EventExpression}
use Rattle.csp_events.specs.declared.event_set.EventSet.{EventSet}
use Rattle.csp_events.specs.declared.renaming_pair.RenamingPair.{RenamingPair}
use Rattle.csp_events.specs.Events.{event_expression_of, event_expressions_of, event_set_of, renaming_pair_of, renaming_pairs_of}
use Rattle.csp_term.specs.declared.assertion.Assertion.{Assertion}
use Rattle.csp_term.specs.declared.field.Field.{Field}
use Rattle.csp_term.specs.declared.name.EquationId.{EquationId}
use Rattle.csp_term.specs.declared.script.Equation.{Equation}
use Rattle.csp_term.specs.declared.term.Term.{Term}
use Rattle.csp_term.specs.Field.{field_of, fields_of}
use Rattle.csp_term.specs.declared.property.Property.{Property}
use Rattle.csp_term.specs.Script.{assertion_of, equation_of, property_of}
use Rattle.csp_term.specs.Term.{process_of}
use Rattle.csp_names.specs.declared.bound_names.BoundNames.{BoundNames}
use Rattle.csp_names.specs.declared.refusals.Refused.{Refused}
use Rattle.csp_names.specs.declared.refusals.Refused.TheVariants as refused
use Rattle.csp_names.specs.declared.scope.Scope.{Scope}
use Rattle.csp_names.specs.declared.meanings.Meaning.{Meaning}
use Rattle.csp_names.specs.Meanings.{meaning_of}
use Rattle.csp_names.specs.Refusals.{fault_of}
use Rattle.csp_names.specs.Names.{fields_agree}
use Rattle.csp_names.specs.Scopes.{AreUnlike, Binds, bound_spellings, HaveNumbersIn, IsInOrder, KnowsScript, sets_at, StandsFor}

-- This is the first of the sites that is refused. Where there is no room, nothing is said.
abbrev pub Stops : List Site → Refused → Type 0
Stops sites (refused.Fault fault place) = IsStoppedAt sites (fault_of fault) (place_of place)
Stops sites refused.Memory = ⊤

-- The sites are all fine, and what is answered is what they stand for. Or the first of them is answered that is
-- refused.
abbrev pub Walked : {T X : Type 0} → List Site → Option X → (T → X) → Result T Refused → Type 0
Walked sites meaning of (Ok t) = AllFine sites × (meaning ≡ Some (of t))
Walked sites meaning of (Err refused) = Stops sites refused

abbrev pub ResolvesExpression : {A : Type 0} → Scope A → BoundNames A → RawExpression → Result (Expr A) Refused → Type 0
ResolvesExpression scope bound e result = (env : Environment) → StandsFor scope bound env → Walked (in_expression env e) (resolving.expression_of env e) expression_of result

abbrev pub ResolvesExpressions : {A : Type 0} → Scope A → BoundNames A → RawExpressions → Result (Vec (Expr A) A) Refused → Type 0
ResolvesExpressions scope bound es result = (env : Environment) → StandsFor scope bound env → Walked (in_expressions env es) (resolving.expressions_of env es) (λ v. pure.to_expressions (expressions_of v.items)) result

-- ---- names of channels and equations

-- the uses of a channel's name
abbrev pub uses_channel : Use → Bool
uses_channel AsExpression = false
uses_channel (AsConstructor n) = false
uses_channel (AsEquation n) = false
uses_channel (AsEvent n) = true
uses_channel (AsProductions n) = true
uses_channel (AsBareLeft n) = true
uses_channel (AsBareRight n) = true

-- The name means the channel. Or it means none, so that each use of it as one is refused.
abbrev pub IsChannelNamed : Environment → RawName → Result ChannelId Refused → Type 0
IsChannelNamed env n (Ok c) = meaning env n ≡ Some (Declared ChannelName c.0)
IsChannelNamed env n (Err f) = (u : Use) → uses_channel u ≡ true → Stops (Used env u n ∷ []) f

abbrev pub IsEquationNamed : Environment → RawName → Result EquationId Refused → Type 0
IsEquationNamed env n (Ok q) = meaning env n ≡ Some (Declared EquationName q.0)
IsEquationNamed env n (Err f) = (k : ℕ) → Stops (Used env (AsEquation k) n ∷ []) f

abbrev pub NamesChannel : {A : Type 0} → Scope A → BoundNames A → RawName → Result ChannelId Refused → Type 0
NamesChannel scope bound n result = (env : Environment) → StandsFor scope bound env → IsChannelNamed env n result

abbrev pub NamesEquation : {A : Type 0} → Scope A → BoundNames A → RawName → Result EquationId Refused → Type 0
NamesEquation scope bound n result = (env : Environment) → StandsFor scope bound env → IsEquationNamed env n result

abbrev pub CountsFields : {A : Type 0} → Scope A → BoundNames A → RawName → Option ℕ → Type 0
CountsFields scope bound n result = (env : Environment) → StandsFor scope bound env → KnowsScript scope env.declarations → result ≡ field_count env n

-- ---- constructors
abbrev pub ResolvesConstructor : {A : Type 0} → Scope A → BoundNames A → ℕ → RawName → Result ConId Refused → Type 0
ResolvesConstructor scope bound k n result = (env : Environment) → StandsFor scope bound env → Walked (Used env (AsConstructor k) n ∷ []) (resolving.constructor_with env n k) (λ c. c.0) result

-- whether a name that means this is a constructor with fields
abbrev pub LacksFields : {A : Type 0} → Scope A → Meaning → Bool → Type 0
LacksFields {A} scope m result = (bound : BoundNames A) (env : Environment) (n : RawName) → StandsFor scope bound env → meaning env n ≡ Some (meaning_of m) → result ≡ resolving.lacks_fields (resolving.constructor_count env n)

-- ---- walks in the whole script that bind no name

abbrev pub Resolves : {A T X : Type 0} → Scope A → BoundNames A → (Environment → List Site) → (Environment → Option X) → (T → X) → Result T Refused → Type 0
Resolves scope bound sites meaning of result = (env : Environment) → StandsFor scope bound env → KnowsScript scope env.declarations → Walked (sites env) (meaning env) of result

abbrev pub ResolvesChannel : {A : Type 0} → Scope A → BoundNames A → Use → RawName → Result ChannelId Refused → Type 0
ResolvesChannel scope bound u n = Resolves scope bound (λ env. Used env u n ∷ []) (λ env. resolving.as_channel (meaning env n)) (λ c. c.0)

abbrev pub ResolvesEquation : {A : Type 0} → Scope A → BoundNames A → ℕ → RawName → Result EquationId Refused → Type 0
ResolvesEquation scope bound k n = Resolves scope bound (λ env. Used env (AsEquation k) n ∷ []) (λ env. resolving.as_equation (meaning env n)) (λ q. q.0)

-- the pair of two channels without fields
abbrev pub bare_pair : ℕ → ℕ → process.RenamingPair
bare_pair c d = record { from = record { channel = c; fields = pure.no_expressions }; to = record { channel = d; fields = pure.no_expressions } }

abbrev pub ResolvesEvent : {A : Type 0} → Scope A → BoundNames A → RawEvent → Result (EventExpression A) Refused → Type 0
ResolvesEvent scope bound e = Resolves scope bound (λ env. in_event env e) (λ env. resolving.event_of env e) event_expression_of

abbrev pub ResolvesProduction : {A : Type 0} → Scope A → BoundNames A → RawEvent → Result (EventExpression A) Refused → Type 0
ResolvesProduction scope bound e = Resolves scope bound (λ env. in_production env e) (λ env. resolving.event_of env e) event_expression_of

abbrev pub ResolvesEvents : {A : Type 0} → Scope A → BoundNames A → List RawEvent → Result (Vec (EventExpression A) A) Refused → Type 0
ResolvesEvents scope bound es = Resolves scope bound (λ env. flat_map (in_event env) es) (λ env. resolving.every (resolving.event_of env) es) (λ v. event_expressions_of v.items)

abbrev pub ResolvesProductions : {A : Type 0} → Scope A → BoundNames A → List RawEvent → Result (Vec (EventExpression A) A) Refused → Type 0
ResolvesProductions scope bound es = Resolves scope bound (λ env. flat_map (in_production env) es) (λ env. resolving.every (resolving.event_of env) es) (λ v. event_expressions_of v.items)

abbrev pub ResolvesEventSet : {A : Type 0} → Scope A → BoundNames A → RawEventSet → Result (EventSet A) Refused → Type 0
ResolvesEventSet scope bound a = Resolves scope bound (λ env. in_event_set env a) (λ env. resolving.event_set_of env a) event_set_of

abbrev pub ResolvesPair : {A : Type 0} → Scope A → BoundNames A → RawPair → Result (RenamingPair A) Refused → Type 0
ResolvesPair scope bound r = Resolves scope bound (λ env. in_pair env r) (λ env. resolving.pair_of env r) renaming_pair_of

-- The first has no fields, or as many as the second.
abbrev pub AgreesInFields : {A : Type 0} → Scope A → BoundNames A → RawName → RawName → Bool → Type 0
AgreesInFields scope bound n other result = (env : Environment) → StandsFor scope bound env → KnowsScript scope env.declarations → result ≡ fields_agree (field_count env n) (field_count env other)

-- what is known of the field sets of two channels: both have some, as many, and not equal in turn
abbrev pub HasOtherSets : {A : Type 0} → Scope A → ChannelId → ChannelId → Bool → Type 0
HasOtherSets scope left right result = IsTrue result ↔ AreUnlike (sets_at scope left.0) (sets_at scope right.0)

-- the right channel of two bare ones, where the left one names this channel
abbrev pub ResolvesBareRight : {A : Type 0} → Scope A → BoundNames A → ChannelId → RawName → RawName → Result ChannelId Refused → Type 0
ResolvesBareRight scope bound left other n result = (env : Environment) → StandsFor scope bound env → KnowsScript scope env.declarations → resolving.as_channel (meaning env other) ≡ Some left.0 →
    Walked (Used env (AsBareRight other) n ∷ []) (resolving.as_channel (meaning env n)) (λ c. c.0) result

abbrev pub ResolvesBarePair : {A : Type 0} → Scope A → BoundNames A → RawName → RawName → Result (RenamingPair A) Refused → Type 0
ResolvesBarePair scope bound m n = Resolves scope bound (λ env. Used env (AsBareLeft n) m ∷ Used env (AsBareRight m) n ∷ []) (λ env. resolving.of_two bare_pair (resolving.as_channel (meaning env m)) (resolving.as_channel (meaning env n))) renaming_pair_of

abbrev pub ResolvesPairs : {A : Type 0} → Scope A → BoundNames A → List RawPair → Result (Vec (RenamingPair A) A) Refused → Type 0
ResolvesPairs scope bound rs = Resolves scope bound (λ env. flat_map (in_pair env) rs) (λ env. resolving.every (resolving.pair_of env) rs) (λ v. renaming_pairs_of v.items)

-- ---- walks in which names are bound

-- The environment, and the numbers of the names that the walk meets.
pub record Serves {A : Type 0} (scope : Scope A) (old : BoundNames A) (met : List (List ℕ)) (env : Environment) : Type 0 where
  pub stands : StandsFor scope old env
  pub knows : KnowsScript scope env.declarations
  pub numbers : HaveNumbersIn (with_spellings (bound_spellings old) met) env.numbered

-- All sites are fine, and this is what they stand for. The names that were met have their numbers, and the inner ones
-- of them are still bound.
pub record Done {A X : Type 0} (scope : Scope A) (old new : BoundNames A) (sites : Environment → List Site) (meaning : Environment → Option X) (met inner : List (List ℕ)) (x : X) : Type 0 where
  pub fine : (env : Environment) → Serves scope old met env → AllFine (sites env) × (meaning env ≡ Some x)
  pub bound : IsInOrder old → Binds old new met inner

abbrev pub Halts : {A : Type 0} → Scope A → BoundNames A → (Environment → List Site) → List (List ℕ) → Refused → Type 0
Halts scope old sites met refused = (env : Environment) → Serves scope old met env → Stops (sites env) refused

abbrev pub Goes : {A T X : Type 0} → Scope A → BoundNames A → BoundNames A → (Environment → List Site) → (Environment → Option X) → List (List ℕ) → List (List ℕ) → (T → X) → Result T Refused → Type 0
Goes scope old new sites meaning met inner of (Ok t) = Done scope old new sites meaning met inner (of t)
Goes scope old new sites meaning met inner of (Err refused) = Halts scope old sites met refused

-- Where the scope stands for an environment, the name may be bound; or that is its fault.
abbrev pub ChecksUndeclared : {A T : Type 0} → Scope A → RawName → Result T Refused → Type 0
ChecksUndeclared {A} scope n (Ok t) = (bound : BoundNames A) (env : Environment) → StandsFor scope bound env → IsFine (BoundThere env n)
ChecksUndeclared {A} scope n (Err f) = (bound : BoundNames A) (env : Environment) → StandsFor scope bound env → Stops (BoundThere env n ∷ []) f

abbrev pub BindsName : {A : Type 0} → Scope A → BoundNames A → BoundNames A → RawName → Result Name Refused → Type 0
BindsName scope old new n = Goes scope old new (λ env. BoundThere env n ∷ []) (λ env. resolving.bound_number env n) (n.spelling ∷ []) (n.spelling ∷ []) (λ x. x.0)

abbrev pub BindsParameter : {A : Type 0} → Scope A → BoundNames A → BoundNames A → RawName → Result Name Refused → Type 0
BindsParameter scope old new n = Goes scope old new (λ env. Parameter env n ∷ []) (λ env. resolving.bound_number env n) (n.spelling ∷ []) (n.spelling ∷ []) (λ x. x.0)

abbrev pub BindsParameters : {A : Type 0} → Scope A → BoundNames A → BoundNames A → List RawName → Result (Vec Name A) Refused → Type 0
BindsParameters scope old new ns = Goes scope old new (λ env. in_parameters env ns) (λ env. resolving.every (resolving.bound_number env) ns) (spellings ns) (spellings ns) (λ v. map (λ x. x.0) v.items)

abbrev pub BindsFields : {A : Type 0} → Scope A → BoundNames A → BoundNames A → List RawField → Result (Vec (Field A) A) Refused → Type 0
BindsFields scope old new fs = Goes scope old new (λ env. in_fields env fs) (λ env. resolving.fields_of env fs) (spellings (bound_by_fields fs)) (spellings (bound_by_fields fs)) (λ v. fields_of v.items)

-- one field
abbrev pub BindsField : {A : Type 0} → Scope A → BoundNames A → BoundNames A → RawField → Result (Field A) Refused → Type 0
BindsField scope old new f = Goes scope old new (λ env. in_fields env (f ∷ [])) (λ env. resolving.fields_of env (f ∷ [])) (spellings (bound_by_fields (f ∷ []))) (spellings (bound_by_fields (f ∷ []))) (λ x. field_of x ∷ [])

abbrev pub ResolvesProcess : {A : Type 0} → Scope A → BoundNames A → BoundNames A → RawProcess → Result (Term A) Refused → Type 0
ResolvesProcess scope old new p = Goes scope old new (λ env. in_process env p) (λ env. resolving.process_of env p) (spellings (bound_in p)) [] process_of

abbrev pub ResolvesDefinition : {A : Type 0} → Scope A → BoundNames A → BoundNames A → List RawName → RawProcess → Result (Equation A) Refused → Type 0
ResolvesDefinition scope old new ns p = Goes scope old new (λ env. in_parameters env ns ++ in_process (binding env ns) p) (λ env. resolving.equation_of env ns p) (spellings (ns ++ bound_in p)) [] equation_of

abbrev pub ResolvesProperty : {A : Type 0} → Scope A → BoundNames A → BoundNames A → RawProperty → Result (Property A) Refused → Type 0
ResolvesProperty scope old new a = Goes scope old new (λ env. in_property env a) (λ env. resolving.property_of env a) (spellings (bound_in_property a)) [] property_of

abbrev pub ResolvesAssertion : {A : Type 0} → Scope A → BoundNames A → BoundNames A → Bool → RawProperty → RawProcess → Result (Assertion A) Refused → Type 0
ResolvesAssertion scope old new n a p = Goes scope old new (λ env. in_property env a ++ in_process env p) (λ env. resolving.assertion_of env n a p) (spellings (bound_in_property a ++ bound_in p)) [] assertion_of
