-- Putting values in twice is putting in both lists at once, where the first one goes before.
use Rattle.std.proofs.Common.{◌≡◌, ℕ, nat_eq, Bool, true, false, cond, List, [], ◌∷◌, Option, Some, None, refl, sym, ◌∙◌, ap, ap₂}
use Rattle.std.specs.Option.{option_or}
use Rattle.theory_syntax.specs.Value.{Value}
use Rattle.theory_syntax.specs.Expression.{Expression, Literal, Name, Apply, Combine, SequenceOf, SetOf, Range, Booleans, Datatype, Nametype, ConstructorOf, Expressions, no_expressions, expression_and}
use Rattle.theory_syntax.specs.Process.{Field, Given, Input, InputFrom, EventExpression, EventSet, Enumeration, Productions, EventUnion, EventIntersection, EventDifference, RenamingPair, Process, Stop, Skip, Omega, Call, Prefix, Guard, If, ExternalChoice, InternalChoice, Sequential, Interleaving, Interrupt, GeneralisedParallel, AlphabetisedParallel, Hiding, Renaming, ReplicatedExternalChoice, ReplicatedInternalChoice, ReplicatedInterleaving, SlidingChoice}
use Rattle.theory_semantics.proofs.KindedPutting.{bound_without}
use Rattle.theory_semantics.specs.Meaning.Substitution.{Bindings, bound, without, bind, name_or, put_expression, put_expressions, put_fields, behind, put_event, put_events, put_event_set, put_pairs, put}

-- The last list gives each name what the first one gives it, or else the second.
abbrev pub IsBoth : Bindings → Bindings → Bindings → Type 0
IsBoth first second both = (n : ℕ) → bound both n ≡ option_or (bound first n) (bound second n)

-- ---- names that are hidden, or given anew

both_hidden : (n : ℕ) (bs cs ds : Bindings) → IsBoth bs cs ds → IsBoth (without n bs) (without n cs) (without n ds)
both_hidden n bs cs ds both m =
    bound_without n m ds ∙ by_test (nat_eq n m) ∙ sym (ap₂ option_or (bound_without n m bs) (bound_without n m cs))
  where
    by_test : (t : Bool) → cond t None (bound ds m) ≡ option_or (cond t None (bound bs m)) (cond t None (bound cs m))
    by_test true = refl
    by_test false = both m

-- a name that the first list does not give is given anew
pub both_bound : (n : ℕ) (v : Value) (bs cs ds : Bindings) → IsBoth bs cs ds → IsBoth (without n bs) (bind n v cs) (bind n v ds)
both_bound n v bs cs ds both m =
    ap (λ o. cond (nat_eq n m) (Some v) o) (bound_without n m ds) ∙ by_test (nat_eq n m)
    ∙ sym (ap₂ (λ o q. option_or o (cond (nat_eq n m) (Some v) q)) (bound_without n m bs) (bound_without n m cs))
  where
    by_test : (t : Bool) → cond t (Some v) (cond t None (bound ds m)) ≡ option_or (cond t None (bound bs m)) (cond t (Some v) (cond t None (bound cs m)))
    by_test true = refl
    by_test false = both m

-- nothing goes behind
pub both_nothing : (bs : Bindings) → IsBoth bs [] bs
both_nothing bs n = by_value (bound bs n)
  where
    by_value : (o : Option Value) → o ≡ option_or o None
    by_value (Some v) = refl
    by_value None = refl

behind_put : (bs cs : Bindings) (fs : List Field) → behind cs (put_fields bs fs) ≡ behind cs fs
behind_put bs cs [] = refl
behind_put bs cs (Given e ∷ fs) = behind_put bs cs fs
behind_put bs cs (Input n ∷ fs) = behind_put (without n bs) (without n cs) fs
behind_put bs cs (InputFrom n e ∷ fs) = behind_put (without n bs) (without n cs) fs

both_behind : (bs cs ds : Bindings) (fs : List Field) → IsBoth bs cs ds → IsBoth (behind bs fs) (behind cs fs) (behind ds fs)
both_behind bs cs ds [] both = both
both_behind bs cs ds (Given e ∷ fs) both = both_behind bs cs ds fs both
both_behind bs cs ds (Input n ∷ fs) both = both_behind (without n bs) (without n cs) (without n ds) fs (both_hidden n bs cs ds both)
both_behind bs cs ds (InputFrom n e ∷ fs) both = both_behind (without n bs) (without n cs) (without n ds) fs (both_hidden n bs cs ds both)

-- ---- what binds no name

module _ (bs cs ds : Bindings) (both : IsBoth bs cs ds) where
  named_twice : (o : Option Value) (n : ℕ) → put_expression cs (name_or o n) ≡ name_or (option_or o (bound cs n)) n
  named_twice (Some v) n = refl
  named_twice None n = refl

  mutual
    pub put_twice_in_expression : (e : Expression) → put_expression cs (put_expression bs e) ≡ put_expression ds e
    put_twice_in_expression (Literal v) = refl
    put_twice_in_expression (Name n) = named_twice (bound bs n) n ∙ ap (λ o. name_or o n) (sym (both n))
    put_twice_in_expression (Apply op e) = ap (Apply op) (put_twice_in_expression e)
    put_twice_in_expression (Combine op e f) = ap₂ (Combine op) (put_twice_in_expression e) (put_twice_in_expression f)
    put_twice_in_expression (SequenceOf es) = ap SequenceOf (put_twice_in_expressions es)
    put_twice_in_expression (SetOf es) = ap SetOf (put_twice_in_expressions es)
    put_twice_in_expression (Range e f) = ap₂ Range (put_twice_in_expression e) (put_twice_in_expression f)
    put_twice_in_expression Booleans = refl
    put_twice_in_expression (Datatype d) = refl
    put_twice_in_expression (Nametype n) = refl
    put_twice_in_expression (ConstructorOf k es) = ap (ConstructorOf k) (put_twice_in_expressions es)

    put_twice_in_expressions : (es : Expressions) → put_expressions cs (put_expressions bs es) ≡ put_expressions ds es
    put_twice_in_expressions no_expressions = refl
    put_twice_in_expressions (expression_and e es) = ap₂ expression_and (put_twice_in_expression e) (put_twice_in_expressions es)

  put_twice_in_event : (e : EventExpression) → put_event cs (put_event bs e) ≡ put_event ds e
  put_twice_in_event e = λ i. record { channel = e.channel; fields = put_twice_in_expressions e.fields i }

  put_twice_in_events : (es : List EventExpression) → put_events cs (put_events bs es) ≡ put_events ds es
  put_twice_in_events [] = refl
  put_twice_in_events (e ∷ es) = ap₂ (λ f fs. f ∷ fs) (put_twice_in_event e) (put_twice_in_events es)

  put_twice_in_set : (a : EventSet) → put_event_set cs (put_event_set bs a) ≡ put_event_set ds a
  put_twice_in_set (Enumeration es) = ap Enumeration (put_twice_in_events es)
  put_twice_in_set (Productions es) = ap Productions (put_twice_in_events es)
  put_twice_in_set (EventUnion a b) = ap₂ EventUnion (put_twice_in_set a) (put_twice_in_set b)
  put_twice_in_set (EventIntersection a b) = ap₂ EventIntersection (put_twice_in_set a) (put_twice_in_set b)
  put_twice_in_set (EventDifference a b) = ap₂ EventDifference (put_twice_in_set a) (put_twice_in_set b)

  put_twice_in_pairs : (rs : List RenamingPair) → put_pairs cs (put_pairs bs rs) ≡ put_pairs ds rs
  put_twice_in_pairs [] = refl
  put_twice_in_pairs (r ∷ rs) = λ i. record { from = put_twice_in_event r.from i; to = put_twice_in_event r.to i } ∷ put_twice_in_pairs rs i

-- ---- what binds names

put_twice_in_fields : (bs cs ds : Bindings) → IsBoth bs cs ds → (fs : List Field) → put_fields cs (put_fields bs fs) ≡ put_fields ds fs
put_twice_in_fields bs cs ds both [] = refl
put_twice_in_fields bs cs ds both (Given e ∷ fs) = ap₂ (λ f gs. Given f ∷ gs) (put_twice_in_expression bs cs ds both e) (put_twice_in_fields bs cs ds both fs)
put_twice_in_fields bs cs ds both (Input n ∷ fs) = ap (λ gs. Input n ∷ gs) (put_twice_in_fields (without n bs) (without n cs) (without n ds) (both_hidden n bs cs ds both) fs)
put_twice_in_fields bs cs ds both (InputFrom n e ∷ fs) =
    ap₂ (λ f gs. InputFrom n f ∷ gs) (put_twice_in_expression bs cs ds both e) (put_twice_in_fields (without n bs) (without n cs) (without n ds) (both_hidden n bs cs ds both) fs)

pub put_twice : (bs cs ds : Bindings) → IsBoth bs cs ds → (p : Process) → put cs (put bs p) ≡ put ds p
put_twice bs cs ds both Stop = refl
put_twice bs cs ds both Skip = refl
put_twice bs cs ds both Omega = refl
put_twice bs cs ds both (Call n es) = ap (Call n) (put_twice_in_expressions bs cs ds both es)
put_twice bs cs ds both (Prefix c fs p) =
    ap₂ (λ gs q. Prefix c gs q) (put_twice_in_fields bs cs ds both fs)
    (ap (λ (es : Bindings). put es (put (behind bs fs) p)) (behind_put bs cs fs) ∙ put_twice (behind bs fs) (behind cs fs) (behind ds fs) (both_behind bs cs ds fs both) p)
put_twice bs cs ds both (Guard e p) = ap₂ Guard (put_twice_in_expression bs cs ds both e) (put_twice bs cs ds both p)
put_twice bs cs ds both (If e p q) = λ i. If (put_twice_in_expression bs cs ds both e i) (put_twice bs cs ds both p i) (put_twice bs cs ds both q i)
put_twice bs cs ds both (ExternalChoice p q) = ap₂ ExternalChoice (put_twice bs cs ds both p) (put_twice bs cs ds both q)
put_twice bs cs ds both (InternalChoice p q) = ap₂ InternalChoice (put_twice bs cs ds both p) (put_twice bs cs ds both q)
put_twice bs cs ds both (Sequential p q) = ap₂ Sequential (put_twice bs cs ds both p) (put_twice bs cs ds both q)
put_twice bs cs ds both (Interleaving p q) = ap₂ Interleaving (put_twice bs cs ds both p) (put_twice bs cs ds both q)
put_twice bs cs ds both (Interrupt p q) = ap₂ Interrupt (put_twice bs cs ds both p) (put_twice bs cs ds both q)
put_twice bs cs ds both (GeneralisedParallel p a q) = λ i. GeneralisedParallel (put_twice bs cs ds both p i) (put_twice_in_set bs cs ds both a i) (put_twice bs cs ds both q i)
put_twice bs cs ds both (AlphabetisedParallel p a b q) =
    λ i. AlphabetisedParallel (put_twice bs cs ds both p i) (put_twice_in_set bs cs ds both a i) (put_twice_in_set bs cs ds both b i) (put_twice bs cs ds both q i)
put_twice bs cs ds both (Hiding p a) = ap₂ Hiding (put_twice bs cs ds both p) (put_twice_in_set bs cs ds both a)
put_twice bs cs ds both (Renaming p rs) = ap₂ Renaming (put_twice bs cs ds both p) (put_twice_in_pairs bs cs ds both rs)
put_twice bs cs ds both (ReplicatedExternalChoice n e p) =
    ap₂ (ReplicatedExternalChoice n) (put_twice_in_expression bs cs ds both e) (put_twice (without n bs) (without n cs) (without n ds) (both_hidden n bs cs ds both) p)
put_twice bs cs ds both (ReplicatedInternalChoice n e p) =
    ap₂ (ReplicatedInternalChoice n) (put_twice_in_expression bs cs ds both e) (put_twice (without n bs) (without n cs) (without n ds) (both_hidden n bs cs ds both) p)
put_twice bs cs ds both (ReplicatedInterleaving n e p) =
    ap₂ (ReplicatedInterleaving n) (put_twice_in_expression bs cs ds both e) (put_twice (without n bs) (without n cs) (without n ds) (both_hidden n bs cs ds both) p)
put_twice bs cs ds both (SlidingChoice p q) = ap₂ SlidingChoice (put_twice bs cs ds both p) (put_twice bs cs ds both q)
