-- Putting no value in changes nothing.
use Rattle.std.proofs.Common.{◌≡◌, List, [], ◌∷◌, refl, ap, ap₂, ◌∙◌}
use Rattle.theory_syntax.specs.Expression.{Expression, Apply, Combine, SequenceOf, SetOf, Range, ConstructorOf, Expressions, no_expressions, expression_and}
use Rattle.theory_syntax.specs.Process.{Field, Given, Input, InputFrom, EventExpression, EventSet, Enumeration, Productions, EventUnion, EventIntersection, EventDifference, RenamingPair, Process, Call, Prefix, Guard, If, ExternalChoice, InternalChoice, Sequential, Interleaving, Interrupt, GeneralisedParallel, AlphabetisedParallel, Hiding, Renaming, ReplicatedExternalChoice, ReplicatedInternalChoice, ReplicatedInterleaving, SlidingChoice}
use Rattle.theory_semantics.specs.Meaning.Substitution.{Bindings, put_expression, put_expressions, put_fields, behind, put_event, put_events, put_event_set, put_pairs, put}

mutual
  pub put_nothing_in_expression : (e : Expression) → put_expression [] e ≡ e
  put_nothing_in_expression (Apply op e) = ap (Apply op) (put_nothing_in_expression e)
  put_nothing_in_expression (Combine op e f) = ap₂ (Combine op) (put_nothing_in_expression e) (put_nothing_in_expression f)
  put_nothing_in_expression (SequenceOf es) = ap SequenceOf (put_nothing_in_expressions es)
  put_nothing_in_expression (SetOf es) = ap SetOf (put_nothing_in_expressions es)
  put_nothing_in_expression (ConstructorOf k es) = ap (ConstructorOf k) (put_nothing_in_expressions es)
  put_nothing_in_expression (Range e f) = ap₂ Range (put_nothing_in_expression e) (put_nothing_in_expression f)
  put_nothing_in_expression _ = refl

  put_nothing_in_expressions : (es : Expressions) → put_expressions [] es ≡ es
  put_nothing_in_expressions no_expressions = refl
  put_nothing_in_expressions (expression_and e es) = ap₂ expression_and (put_nothing_in_expression e) (put_nothing_in_expressions es)

put_nothing_in_fields : (fs : List Field) → put_fields [] fs ≡ fs
put_nothing_in_fields [] = refl
put_nothing_in_fields (Given e ∷ fs) = ap₂ (λ f gs. Given f ∷ gs) (put_nothing_in_expression e) (put_nothing_in_fields fs)
put_nothing_in_fields (Input n ∷ fs) = ap (λ gs. Input n ∷ gs) (put_nothing_in_fields fs)
put_nothing_in_fields (InputFrom n e ∷ fs) = ap₂ (λ f gs. InputFrom n f ∷ gs) (put_nothing_in_expression e) (put_nothing_in_fields fs)

nothing_behind : (fs : List Field) → behind [] fs ≡ []
nothing_behind [] = refl
nothing_behind (Given e ∷ fs) = nothing_behind fs
nothing_behind (Input n ∷ fs) = nothing_behind fs
nothing_behind (InputFrom n e ∷ fs) = nothing_behind fs

pub put_nothing_in_event : (e : EventExpression) → put_event [] e ≡ e
put_nothing_in_event e = λ i. record { channel = e.channel; fields = put_nothing_in_expressions e.fields i }

put_nothing_in_events : (es : List EventExpression) → put_events [] es ≡ es
put_nothing_in_events [] = refl
put_nothing_in_events (e ∷ es) = ap₂ (λ f fs. f ∷ fs) (put_nothing_in_event e) (put_nothing_in_events es)

pub put_nothing_in_set : (a : EventSet) → put_event_set [] a ≡ a
put_nothing_in_set (Enumeration es) = ap Enumeration (put_nothing_in_events es)
put_nothing_in_set (Productions es) = ap Productions (put_nothing_in_events es)
put_nothing_in_set (EventUnion a b) = ap₂ EventUnion (put_nothing_in_set a) (put_nothing_in_set b)
put_nothing_in_set (EventIntersection a b) = ap₂ EventIntersection (put_nothing_in_set a) (put_nothing_in_set b)
put_nothing_in_set (EventDifference a b) = ap₂ EventDifference (put_nothing_in_set a) (put_nothing_in_set b)

put_nothing_in_pairs : (rs : List RenamingPair) → put_pairs [] rs ≡ rs
put_nothing_in_pairs [] = refl
put_nothing_in_pairs (r ∷ rs) = λ i. record { from = put_nothing_in_event r.from i; to = put_nothing_in_event r.to i } ∷ put_nothing_in_pairs rs i

pub put_nothing : (p : Process) → put [] p ≡ p
put_nothing (Call n es) = ap (Call n) (put_nothing_in_expressions es)
put_nothing (Prefix c fs p) = ap₂ (λ gs q. Prefix c gs q) (put_nothing_in_fields fs) (ap (λ (bs : Bindings). put bs p) (nothing_behind fs) ∙ put_nothing p)
put_nothing (Guard e p) = ap₂ Guard (put_nothing_in_expression e) (put_nothing p)
put_nothing (If e p q) = λ i. If (put_nothing_in_expression e i) (put_nothing p i) (put_nothing q i)
put_nothing (ExternalChoice p q) = ap₂ ExternalChoice (put_nothing p) (put_nothing q)
put_nothing (InternalChoice p q) = ap₂ InternalChoice (put_nothing p) (put_nothing q)
put_nothing (Sequential p q) = ap₂ Sequential (put_nothing p) (put_nothing q)
put_nothing (Interleaving p q) = ap₂ Interleaving (put_nothing p) (put_nothing q)
put_nothing (Interrupt p q) = ap₂ Interrupt (put_nothing p) (put_nothing q)
put_nothing (GeneralisedParallel p a q) = λ i. GeneralisedParallel (put_nothing p i) (put_nothing_in_set a i) (put_nothing q i)
put_nothing (AlphabetisedParallel p a b q) = λ i. AlphabetisedParallel (put_nothing p i) (put_nothing_in_set a i) (put_nothing_in_set b i) (put_nothing q i)
put_nothing (Hiding p a) = ap₂ Hiding (put_nothing p) (put_nothing_in_set a)
put_nothing (Renaming p rs) = ap₂ Renaming (put_nothing p) (put_nothing_in_pairs rs)
put_nothing (ReplicatedExternalChoice n e p) = ap₂ (ReplicatedExternalChoice n) (put_nothing_in_expression e) (put_nothing p)
put_nothing (ReplicatedInternalChoice n e p) = ap₂ (ReplicatedInternalChoice n) (put_nothing_in_expression e) (put_nothing p)
put_nothing (ReplicatedInterleaving n e p) = ap₂ (ReplicatedInterleaving n) (put_nothing_in_expression e) (put_nothing p)
put_nothing (SlidingChoice p q) = ap₂ SlidingChoice (put_nothing p) (put_nothing q)
put_nothing _ = refl
