-- The equations that fields, sets of events, renamings and processes ask for.
use Rattle.std.specs.Prelude.{ℕ, suc, Bool, false, ◌&&◌, cond, List, [], ◌∷◌, ◌++◌, slice_get, Option, Some}
use Rattle.theory_syntax.specs.Value.{Value}
use Rattle.theory_syntax.specs.Process.{Field, Given, Input, InputFrom, EventExpression, EventSet, Enumeration, Productions, EventUnion, EventIntersection, EventDifference, RenamingPair, Process, Stop, Skip, Omega, Call, Prefix, Guard, If, ExternalChoice, InternalChoice, Sequential, Interleaving, Interrupt, GeneralisedParallel, AlphabetisedParallel, Hiding, Renaming, ReplicatedExternalChoice, ReplicatedInternalChoice, ReplicatedInterleaving, SlidingChoice, Script}
use Rattle.theory_syntax.specs.Types.{Types}
use Rattle.theory_semantics.specs.Meaning.Events.{is_bare, same_sets}
use Rattle.theory_checking.specs.Inference.Chain.{BoolEnd, OpenEnd, SetOver}
use Rattle.theory_checking.specs.Inference.State.{KindEquation}
use Rattle.theory_checking.specs.Inference.Equations.{never, when, Numbering, Numbered}
use Rattle.theory_checking.specs.Inference.Expressions.{behind_expression, behind_expressions, of_expression, of_all, of_first}

-- ---- the next number behind a part

abbrev pub behind_fields : ℕ → List Field → ℕ
behind_fields n [] = n
behind_fields n (Given e ∷ fs) = behind_fields (behind_expression n e) fs
behind_fields n (Input x ∷ fs) = behind_fields n fs
behind_fields n (InputFrom x e ∷ fs) = behind_fields (behind_expression n e) fs

abbrev pub behind_event : ℕ → EventExpression → ℕ
behind_event n e = behind_expressions n e.fields

abbrev pub behind_events : ℕ → List EventExpression → ℕ
behind_events n [] = n
behind_events n (e ∷ es) = behind_events (behind_event n e) es

abbrev pub behind_event_set : ℕ → EventSet → ℕ
behind_event_set n (Enumeration es) = behind_events n es
behind_event_set n (Productions es) = behind_events n es
behind_event_set n (EventUnion a b) = behind_event_set (behind_event_set n a) b
behind_event_set n (EventIntersection a b) = behind_event_set (behind_event_set n a) b
behind_event_set n (EventDifference a b) = behind_event_set (behind_event_set n a) b

abbrev pub behind_pairs : ℕ → List RenamingPair → ℕ
behind_pairs n [] = n
behind_pairs n (r ∷ rs) = behind_pairs (behind_event (behind_event n r.from) r.to) rs

-- A replicated name has a number of its own.
abbrev pub behind_process : ℕ → Process → ℕ
behind_process n Stop = n
behind_process n Skip = n
behind_process n Omega = n
behind_process n (Call m es) = behind_expressions n es
behind_process n (Prefix c fs p) = behind_process (behind_fields n fs) p
behind_process n (Guard e p) = behind_process (behind_expression n e) p
behind_process n (If e p q) = behind_process (behind_process (behind_expression n e) p) q
behind_process n (ExternalChoice p q) = behind_process (behind_process n p) q
behind_process n (InternalChoice p q) = behind_process (behind_process n p) q
behind_process n (Sequential p q) = behind_process (behind_process n p) q
behind_process n (Interleaving p q) = behind_process (behind_process n p) q
behind_process n (Interrupt p q) = behind_process (behind_process n p) q
behind_process n (GeneralisedParallel p a q) = behind_process (behind_event_set (behind_process n p) a) q
behind_process n (AlphabetisedParallel p a b q) = behind_process (behind_event_set (behind_event_set (behind_process n p) a) b) q
behind_process n (Hiding p a) = behind_event_set (behind_process n p) a
behind_process n (Renaming p rs) = behind_pairs (behind_process n p) rs
behind_process n (ReplicatedExternalChoice x e p) = behind_process (behind_expression (suc n) e) p
behind_process n (ReplicatedInternalChoice x e p) = behind_process (behind_expression (suc n) e) p
behind_process n (ReplicatedInterleaving x e p) = behind_process (behind_expression (suc n) e) p
behind_process n (SlidingChoice p q) = behind_process (behind_process n p) q

-- ---- the equations of a part, in its order; n is the next number

-- An input takes the number of its field.
abbrev pub of_fields : Types → Numbering → ℕ → Numbered → List Field → List ℕ → List KindEquation
of_fields types o n names [] [] = []
of_fields types o n names (Given e ∷ fs) (m ∷ ms) = of_expression types o n names e (OpenEnd m) ++ of_fields types o (behind_expression n e) names fs ms
of_fields types o n names (Input x ∷ fs) (m ∷ ms) = of_fields types o n ((x, m) ∷ names) fs ms
of_fields types o n names (InputFrom x e ∷ fs) (m ∷ ms) =
    of_expression types o n names e (SetOver (OpenEnd m)) ++ of_fields types o (behind_expression n e) ((x, m) ∷ names) fs ms
of_fields types o n names fs ms = never

-- the names behind the inputs of a prefix
abbrev pub names_behind : Numbered → List Field → List ℕ → Numbered
names_behind names (Given e ∷ fs) (m ∷ ms) = names_behind names fs ms
names_behind names (Input x ∷ fs) (m ∷ ms) = names_behind ((x, m) ∷ names) fs ms
names_behind names (InputFrom x e ∷ fs) (m ∷ ms) = names_behind ((x, m) ∷ names) fs ms
names_behind names fs ms = names

abbrev pub of_event : Types → Numbering → ℕ → Numbered → EventExpression → List KindEquation
of_event types o n names e = when (slice_get o.channels e.channel) (of_all types o n names e.fields)

abbrev pub of_beginning : Types → Numbering → ℕ → Numbered → EventExpression → List KindEquation
of_beginning types o n names e = when (slice_get o.channels e.channel) (of_first types o n names e.fields)

abbrev pub of_events : Types → Numbering → ℕ → Numbered → List EventExpression → List KindEquation
of_events types o n names [] = []
of_events types o n names (e ∷ es) = of_event types o n names e ++ of_events types o (behind_event n e) names es

abbrev pub of_beginnings : Types → Numbering → ℕ → Numbered → List EventExpression → List KindEquation
of_beginnings types o n names [] = []
of_beginnings types o n names (e ∷ es) = of_beginning types o n names e ++ of_beginnings types o (behind_event n e) names es

abbrev pub of_event_set : Types → Numbering → ℕ → Numbered → EventSet → List KindEquation
of_event_set types o n names (Enumeration es) = of_events types o n names es
of_event_set types o n names (Productions es) = of_beginnings types o n names es
of_event_set types o n names (EventUnion a b) = of_event_set types o n names a ++ of_event_set types o (behind_event_set n a) names b
of_event_set types o n names (EventIntersection a b) = of_event_set types o n names a ++ of_event_set types o (behind_event_set n a) names b
of_event_set types o n names (EventDifference a b) = of_event_set types o n names a ++ of_event_set types o (behind_event_set n a) names b

abbrev pub are_same_sets : Option (List (List Value)) → Option (List (List Value)) → Bool
are_same_sets (Some s) (Some t) = same_sets s t
are_same_sets _ _ = false

-- two bare channels with the same field sets
abbrev pub are_bare_alike : Script → RenamingPair → Bool
are_bare_alike script r = is_bare r.from && is_bare r.to && are_same_sets (slice_get script.channels r.from.channel) (slice_get script.channels r.to.channel)

abbrev pub of_pair : Script → Numbering → ℕ → Numbered → RenamingPair → List KindEquation
of_pair script o n names r =
    cond (are_bare_alike script r) [] (of_event script.types o n names r.from ++ of_event script.types o (behind_event n r.from) names r.to)

abbrev pub of_pairs : Script → Numbering → ℕ → Numbered → List RenamingPair → List KindEquation
of_pairs script o n names [] = []
of_pairs script o n names (r ∷ rs) = of_pair script o n names r ++ of_pairs script o (behind_event (behind_event n r.from) r.to) names rs

abbrev pub of_process : Script → Numbering → ℕ → Numbered → Process → List KindEquation
of_process script o n names Stop = []
of_process script o n names Skip = []
of_process script o n names Omega = []
of_process script o n names (Call m es) = when (slice_get o.parameters m) (of_all script.types o n names es)
of_process script o n names (Prefix c fs p) =
    when (slice_get o.channels c) (λ ms. of_fields script.types o n names fs ms ++ of_process script o (behind_fields n fs) (names_behind names fs ms) p)
of_process script o n names (Guard e p) = of_expression script.types o n names e BoolEnd ++ of_process script o (behind_expression n e) names p
of_process script o n names (If e p q) =
    of_expression script.types o n names e BoolEnd ++ of_process script o (behind_expression n e) names p
    ++ of_process script o (behind_process (behind_expression n e) p) names q
of_process script o n names (ExternalChoice p q) = of_process script o n names p ++ of_process script o (behind_process n p) names q
of_process script o n names (InternalChoice p q) = of_process script o n names p ++ of_process script o (behind_process n p) names q
of_process script o n names (Sequential p q) = of_process script o n names p ++ of_process script o (behind_process n p) names q
of_process script o n names (Interleaving p q) = of_process script o n names p ++ of_process script o (behind_process n p) names q
of_process script o n names (Interrupt p q) = of_process script o n names p ++ of_process script o (behind_process n p) names q
of_process script o n names (GeneralisedParallel p a q) =
    of_process script o n names p ++ of_event_set script.types o (behind_process n p) names a
    ++ of_process script o (behind_event_set (behind_process n p) a) names q
of_process script o n names (AlphabetisedParallel p a b q) =
    of_process script o n names p ++ of_event_set script.types o (behind_process n p) names a
    ++ of_event_set script.types o (behind_event_set (behind_process n p) a) names b
    ++ of_process script o (behind_event_set (behind_event_set (behind_process n p) a) b) names q
of_process script o n names (Hiding p a) = of_process script o n names p ++ of_event_set script.types o (behind_process n p) names a
of_process script o n names (Renaming p rs) = of_process script o n names p ++ of_pairs script o (behind_process n p) names rs
of_process script o n names (ReplicatedExternalChoice x e p) =
    of_expression script.types o (suc n) names e (SetOver (OpenEnd n)) ++ of_process script o (behind_expression (suc n) e) ((x, n) ∷ names) p
of_process script o n names (ReplicatedInternalChoice x e p) =
    of_expression script.types o (suc n) names e (SetOver (OpenEnd n)) ++ of_process script o (behind_expression (suc n) e) ((x, n) ∷ names) p
of_process script o n names (ReplicatedInterleaving x e p) =
    of_expression script.types o (suc n) names e (SetOver (OpenEnd n)) ++ of_process script o (behind_expression (suc n) e) ((x, n) ∷ names) p
of_process script o n names (SlidingChoice p q) = of_process script o n names p ++ of_process script o (behind_process n p) names q
