-- Each form of process is resolved by its parts.
use Rattle.std.specs.Prelude.{flat_map, IfOk, IfErr}
use Rattle.std.proofs.Common.{◌≡◌, ℕ, List, [], ◌++◌, Option, Some, Result, Ok, Err, refl, sym, ◌∙◌, subst}
use Rattle.std.specs.declared.vec.Vec.{Vec}
use Rattle.theory_syntax.specs.declared.process_operator.ProcessOperator.{ProcessOperator}
use Rattle.theory_syntax.specs.declared.process_operator.ProcessOperator.TheVariants as chaining
use Rattle.theory_syntax.specs.declared.process_operator.ReplicatedOperator.{ReplicatedOperator}
use Rattle.theory_syntax.specs.declared.process_operator.ReplicatedOperator.TheVariants as replicator
use Rattle.theory_syntax.specs.Expression as pure
use Rattle.theory_syntax.specs.Operators as operators
use Rattle.theory_syntax.specs.Process as process
use Rattle.theory_text.specs.Raw.{RawName, RawExpression, RawEventSet, RawPair, Infix, RawProcess, RawStop, RawSkip, RawGuard, RawIf, RawInfix, RawGeneralisedParallel, RawAlphabetisedParallel, RawHiding, RawRenaming}
use Rattle.theory_checking.specs.Names.{Environment, bound_in, spellings}
use Rattle.theory_checking.specs.Resolving as resolving
use Rattle.theory_checking.specs.Resolving.{of_two}
use Rattle.theory_checking.specs.Sites.{Site, in_event_set, in_expression, in_pair, in_process}
use Rattle.csp_parse.specs.declared.processes.Infix.TheVariants as joining
use Rattle.csp_parse.specs.Processes.{infix_of, replicator_of}
use Rattle.csp_expression.specs.declared.expr.Expr.{Expr}
use Rattle.csp_expression.specs.Expression as terms
use Rattle.csp_events.specs.declared.event_set.EventSet.{EventSet}
use Rattle.csp_events.specs.declared.renaming_pair.RenamingPair.{RenamingPair}
use Rattle.csp_events.specs.Events as sets
use Rattle.csp_term.specs.declared.term.Term.{Term}
use Rattle.csp_term.specs.declared.term.TermForm.{TermForm}
use Rattle.csp_term.specs.Term.{process_of, process_of_form}
use Rattle.csp_names.specs.declared.bound_names.BoundNames.{BoundNames}
use Rattle.csp_names.specs.declared.refusals.Refused.{Refused}
use Rattle.csp_names.specs.declared.refusals.Refused.TheVariants as refused
use Rattle.csp_names.specs.declared.scope.Scope.{Scope}
use Rattle.csp_names.specs.Walks.{Done, Goes, Halts, ResolvesEventSet, ResolvesExpression, ResolvesPairs, ResolvesProcess}
use Rattle.csp_names.proofs.Going.{done_both, halts_behind, halts_first, still_done, still_halts}
use Rattle.csp_names.proofs.Processes.{done_as_meant, done_as_met, done_then_still, four_as_two, halts_as_met, halts_before_still, halts_in_still, spellings_in_turn, three_as_two}
use Rattle.csp_names.proofs.Resolves.{goes_made, goes_still}
use Rattle.csp_names.proofs.Walking.{made, stops_for_room}

-- what was made of a form
pub made_of_form : {A : Type 0} (r : Result (Term A) Refused) (form : TermForm A) (p : process.Process) → process_of_form form ≡ p → IfOk r (λ t. process_of t ≡ process_of_form form) → IfOk r (λ t. process_of t ≡ p)
made_of_form (Ok t) form p is makes = makes ∙ is
made_of_form (Err f) form p is makes = makes

-- the operators of the code and of the definitions
pub infix_term : (op : ProcessOperator) (p q : process.Process) → operators.binary_process op p q ≡ resolving.infix_process (infix_of (joining.Operator op)) p q
infix_term chaining.ExternalChoice p q = refl
infix_term chaining.InternalChoice p q = refl
infix_term chaining.Sequential p q = refl
infix_term chaining.Interleaving p q = refl
infix_term chaining.Interrupt p q = refl

pub replicated_term : (op : ReplicatedOperator) (n : ℕ) (e : pure.Expression) (p : process.Process) → operators.replicated_process op n e p ≡ resolving.replicated_process (replicator_of op) n e p
replicated_term replicator.ExternalChoice n e p = refl
replicated_term replicator.InternalChoice n e p = refl
replicated_term replicator.Interleaving n e p = refl

-- forms as functions of their parts
abbrev if_of : pure.Expression → process.Process → process.Process → process.Process
if_of e p q = process.If e p q

abbrev generalised_of : process.Process → process.EventSet → process.Process → process.Process
generalised_of p a q = process.GeneralisedParallel p a q

abbrev alphabetised_of : process.Process → process.EventSet → process.EventSet → process.Process → process.Process
alphabetised_of p a b q = process.AlphabetisedParallel p a b q

abbrev pub sites_in : RawProcess → Environment → List Site
sites_in p = λ env. in_process env p

abbrev pub meant : RawProcess → Environment → Option process.Process
meant p = λ env. resolving.process_of env p

abbrev pub sites_of : RawExpression → Environment → List Site
sites_of e = λ env. in_expression env e

abbrev pub value_of : RawExpression → Environment → Option pure.Expression
value_of e = λ env. resolving.expression_of env e

abbrev pub sites_of_set : RawEventSet → Environment → List Site
sites_of_set a = λ env. in_event_set env a

abbrev pub set_of : RawEventSet → Environment → Option process.EventSet
set_of a = λ env. resolving.event_set_of env a

abbrev pub sites_of_pairs : List RawPair → Environment → List Site
sites_of_pairs rs = λ env. flat_map (in_pair env) rs

abbrev pub pairs_of : List RawPair → Environment → Option (List process.RenamingPair)
pairs_of rs = λ env. resolving.every (resolving.pair_of env) rs

module _ {A : Type 0} (scope : Scope A) where
  abbrev pub IsResolved : BoundNames A → BoundNames A → RawProcess → process.Process → Type 0
  IsResolved old new p t = Done scope old new (sites_in p) (meant p) (spellings (bound_in p)) [] t

  abbrev pub IsStopped : BoundNames A → RawProcess → Refused → Type 0
  IsStopped old p f = Halts scope old (sites_in p) (spellings (bound_in p)) f

  abbrev pub IsExpression : BoundNames A → RawExpression → pure.Expression → Type 0
  IsExpression b e x = Done scope b b (sites_of e) (value_of e) [] [] x

  abbrev pub IsEventSet : BoundNames A → RawEventSet → process.EventSet → Type 0
  IsEventSet b a x = Done scope b b (sites_of_set a) (set_of a) [] [] x

  -- the term of a form whose parts are resolved
  pub term_made : (old new : BoundNames A) (p : RawProcess) (t : process.Process) (form : TermForm A) (r : Result (Term A) Refused) → IsResolved old new p t → process_of_form form ≡ t → IfOk r (λ u. process_of u ≡ process_of_form form) → IfErr r (λ e. e ≡ refused.Memory) →
      Goes scope old new (sites_in p) (meant p) (spellings (bound_in p)) [] process_of r
  term_made old new p t form r h is makes stops = goes_made scope old new (sites_in p) (meant p) (spellings (bound_in p)) [] process_of t r h (made_of_form r form t is makes) stops

  pub no_room : (old new : BoundNames A) (p : RawProcess) (f : Refused) → f ≡ refused.Memory → ResolvesProcess scope old new p (Err f)
  no_room old new p f is env serves = stops_for_room (in_process env p) f is

  pub as_written : (old new : BoundNames A) (p q : RawProcess) (r : Result (Term A) Refused) → p ≡ q → ResolvesProcess scope old new q r → ResolvesProcess scope old new p r
  as_written old new p q r is h = let P : RawProcess → Type 0 = λ x. ResolvesProcess scope old new x r in subst P (sym is) h

  -- ---- forms without parts

  pub stop_resolved : (b : BoundNames A) (p : RawProcess) (form : TermForm A) (r : Result (Term A) Refused) → p ≡ RawStop → process_of_form form ≡ process.Stop → IfOk r (λ u. process_of u ≡ process_of_form form) → IfErr r (λ e. e ≡ refused.Memory) → ResolvesProcess scope b b p r
  stop_resolved b p form r is makes_form makes stops =
      as_written b b p RawStop r is (goes_still scope b (sites_in RawStop) (meant RawStop) (process_of {A = A}) r
      (λ env stands knows. made [] (Some process.Stop) (process_of {A = A}) process.Stop r tt refl (made_of_form r form process.Stop makes_form makes) stops))

  pub skip_resolved : (b : BoundNames A) (p : RawProcess) (form : TermForm A) (r : Result (Term A) Refused) → p ≡ RawSkip → process_of_form form ≡ process.Skip → IfOk r (λ u. process_of u ≡ process_of_form form) → IfErr r (λ e. e ≡ refused.Memory) → ResolvesProcess scope b b p r
  skip_resolved b p form r is makes_form makes stops =
      as_written b b p RawSkip r is (goes_still scope b (sites_in RawSkip) (meant RawSkip) (process_of {A = A}) r
      (λ env stands knows. made [] (Some process.Skip) (process_of {A = A}) process.Skip r tt refl (made_of_form r form process.Skip makes_form makes) stops))

  -- ---- parts that bind no name

  module _ (b : BoundNames A) where
    pub expression_there : (e : RawExpression) (x : Expr A) → ResolvesExpression scope b e (Ok x) → IsExpression b e (terms.expression_of x)
    expression_there e x h = still_done scope b (sites_of e) (value_of e) (terms.expression_of x) (λ env stands knows. h env stands)

    pub expression_stops : (e : RawExpression) (f : Refused) → ResolvesExpression scope b e (Err f) → Halts scope b (sites_of e) [] f
    expression_stops e f h = still_halts scope b (sites_of e) f (λ env stands knows. h env stands)

    pub set_there : (a : RawEventSet) (x : EventSet A) → ResolvesEventSet scope b a (Ok x) → IsEventSet b a (sets.event_set_of x)
    set_there a x h = still_done scope b (sites_of_set a) (set_of a) (sets.event_set_of x) h

    pub set_stops : (a : RawEventSet) (f : Refused) → ResolvesEventSet scope b a (Err f) → Halts scope b (sites_of_set a) [] f
    set_stops a f h = still_halts scope b (sites_of_set a) f h

    pub pairs_there : (rs : List RawPair) (v : Vec (RenamingPair A) A) → ResolvesPairs scope b rs (Ok v) → Done scope b b (sites_of_pairs rs) (pairs_of rs) [] [] (sets.renaming_pairs_of v.items)
    pairs_there rs v h = still_done scope b (sites_of_pairs rs) (pairs_of rs) (sets.renaming_pairs_of v.items) h

    pub pairs_stop : (rs : List RawPair) (f : Refused) → ResolvesPairs scope b rs (Err f) → Halts scope b (sites_of_pairs rs) [] f
    pairs_stop rs f h = still_halts scope b (sites_of_pairs rs) f h

  -- ---- parts in turn, by the names that are bound in them

  pub halts_before : (r : BoundNames A) (xs ys : Environment → List Site) (ms ns : List RawName) (f : Refused) → Halts scope r xs (spellings ms) f → Halts scope r (λ env. xs env ++ ys env) (spellings (ms ++ ns)) f
  halts_before r xs ys ms ns f h = halts_as_met scope r (λ env. xs env ++ ys env) (spellings ms ++ spellings ns) (spellings (ms ++ ns)) f (sym (spellings_in_turn ms ns)) (halts_first scope r xs ys (spellings ms) (spellings ns) f h)

  pub halts_after : {X : Type 0} (r s : BoundNames A) (xs ys : Environment → List Site) (m : Environment → Option X) (ms ns : List RawName) (x : X) (f : Refused) → Done scope r s xs m (spellings ms) [] x → Halts scope s ys (spellings ns) f → Halts scope r (λ env. xs env ++ ys env) (spellings (ms ++ ns)) f
  halts_after r s xs ys m ms ns x f h k = halts_as_met scope r (λ env. xs env ++ ys env) (spellings ms ++ spellings ns) (spellings (ms ++ ns)) f (sym (spellings_in_turn ms ns)) (halts_behind scope r s xs m (spellings ms) x ys (spellings ns) f h k)

  pub done_in_turn : {X Y Z : Type 0} (f : X → Y → Z) (r s t : BoundNames A) (xs ys : Environment → List Site) (m : Environment → Option X) (m' : Environment → Option Y) (ms ns : List RawName) (x : X) (y : Y) → Done scope r s xs m (spellings ms) [] x → Done scope s t ys m' (spellings ns) [] y →
      Done scope r t (λ env. xs env ++ ys env) (λ env. of_two f (m env) (m' env)) (spellings (ms ++ ns)) [] (f x y)
  done_in_turn f r s t xs ys m m' ms ns x y h k =
      done_as_met scope r t (λ env. xs env ++ ys env) (λ env. of_two f (m env) (m' env)) (spellings ms ++ spellings ns) (spellings (ms ++ ns)) (f x y) (sym (spellings_in_turn ms ns))
      (done_both scope r s xs m (spellings ms) x f t ys m' (spellings ns) y h k)

  -- ---- a condition and one or two processes

  module _ (old mid new : BoundNames A) (e : RawExpression) (p q : RawProcess) where
    pub guard_condition_stops : (f : Refused) → Halts scope old (sites_of e) [] f → IsStopped old (RawGuard e p) f
    guard_condition_stops f h = halts_before old (sites_of e) (sites_in p) [] (bound_in p) f h

    pub guard_body_stops : (x : pure.Expression) (f : Refused) → IsExpression old e x → IsStopped old p f → IsStopped old (RawGuard e p) f
    guard_body_stops x f h k = halts_after old old (sites_of e) (sites_in p) (value_of e) [] (bound_in p) x f h k

    pub guard_done : (x : pure.Expression) (t : process.Process) → IsExpression old e x → IsResolved old new p t → IsResolved old new (RawGuard e p) (process.Guard x t)
    guard_done x t h k = done_in_turn process.Guard old old new (sites_of e) (sites_in p) (value_of e) (meant p) [] (bound_in p) x t h k

    pub if_condition_stops : (f : Refused) → Halts scope old (sites_of e) [] f → IsStopped old (RawIf e p q) f
    if_condition_stops f h = halts_before old (λ env. in_expression env e ++ in_process env p) (sites_in q) (bound_in p) (bound_in q) f (guard_condition_stops f h)

    pub if_first_stops : (x : pure.Expression) (f : Refused) → IsExpression old e x → IsStopped old p f → IsStopped old (RawIf e p q) f
    if_first_stops x f h k = halts_before old (λ env. in_expression env e ++ in_process env p) (sites_in q) (bound_in p) (bound_in q) f (guard_body_stops x f h k)

    condition_and_first : (x : pure.Expression) (t : process.Process) → IsExpression old e x → IsResolved old mid p t → Done scope old mid (λ env. in_expression env e ++ in_process env p) (λ env. of_two if_of (resolving.expression_of env e) (resolving.process_of env p)) (spellings (bound_in p)) [] (if_of x t)
    condition_and_first x t h k = done_in_turn if_of old old mid (sites_of e) (sites_in p) (value_of e) (meant p) [] (bound_in p) x t h k

    pub if_second_stops : (x : pure.Expression) (t : process.Process) (f : Refused) → IsExpression old e x → IsResolved old mid p t → IsStopped mid q f → IsStopped old (RawIf e p q) f
    if_second_stops x t f h k stops =
        halts_after old mid (λ env. in_expression env e ++ in_process env p) (sites_in q) (λ env. of_two if_of (resolving.expression_of env e) (resolving.process_of env p)) (bound_in p) (bound_in q) (if_of x t) f (condition_and_first x t h k) stops

    pub if_done : (x : pure.Expression) (t u : process.Process) → IsExpression old e x → IsResolved old mid p t → IsResolved mid new q u → IsResolved old new (RawIf e p q) (process.If x t u)
    if_done x t u h k l =
        let m : Environment → Option (process.Process → process.Process) = λ env. of_two if_of (resolving.expression_of env e) (resolving.process_of env p) in
        done_as_meant scope old new (sites_in (RawIf e p q)) (λ env. of_two (λ g w. g w) (m env) (resolving.process_of env q)) (meant (RawIf e p q)) (spellings (bound_in p ++ bound_in q)) (if_of x t u)
        (λ env. three_as_two if_of (resolving.expression_of env e) (resolving.process_of env p) (resolving.process_of env q))
        (done_in_turn (λ g w. g w) old mid new (λ env. in_expression env e ++ in_process env p) (sites_in q) m (meant q) (bound_in p) (bound_in q) (if_of x t) u (condition_and_first x t h k) l)

  -- ---- two processes

  module _ (old mid new : BoundNames A) (p q : RawProcess) where
    pub infix_left_stops : (op : Infix) (f : Refused) → IsStopped old p f → IsStopped old (RawInfix op p q) f
    infix_left_stops op f h = halts_before old (sites_in p) (sites_in q) (bound_in p) (bound_in q) f h

    pub infix_right_stops : (op : Infix) (t : process.Process) (f : Refused) → IsResolved old mid p t → IsStopped mid q f → IsStopped old (RawInfix op p q) f
    infix_right_stops op t f h k = halts_after old mid (sites_in p) (sites_in q) (meant p) (bound_in p) (bound_in q) t f h k

    pub infix_done : (op : Infix) (t u : process.Process) → IsResolved old mid p t → IsResolved mid new q u → IsResolved old new (RawInfix op p q) (resolving.infix_process op t u)
    infix_done op t u h k = done_in_turn (resolving.infix_process op) old mid new (sites_in p) (sites_in q) (meant p) (meant q) (bound_in p) (bound_in q) t u h k

    module _ (a : RawEventSet) where
      abbrev left_and_set : Environment → List Site
      left_and_set env = in_process env p ++ in_event_set env a

      left_and_set_stops : (f : Refused) → Halts scope old left_and_set (spellings (bound_in p)) f → IsStopped old (RawGeneralisedParallel p a q) f
      left_and_set_stops f h = halts_before old left_and_set (sites_in q) (bound_in p) (bound_in q) f h

      pub generalised_left_stops : (f : Refused) → IsStopped old p f → IsStopped old (RawGeneralisedParallel p a q) f
      generalised_left_stops f h = left_and_set_stops f (halts_before_still scope old (sites_in p) (sites_of_set a) (spellings (bound_in p)) f h)

      pub generalised_set_stops : (t : process.Process) (f : Refused) → IsResolved old mid p t → Halts scope mid (sites_of_set a) [] f → IsStopped old (RawGeneralisedParallel p a q) f
      generalised_set_stops t f h k = left_and_set_stops f (halts_in_still scope old mid (sites_in p) (sites_of_set a) (meant p) (spellings (bound_in p)) t f h k)

      with_set : (t : process.Process) (x : process.EventSet) → IsResolved old mid p t → IsEventSet mid a x → Done scope old mid left_and_set (λ env. of_two generalised_of (resolving.process_of env p) (resolving.event_set_of env a)) (spellings (bound_in p)) [] (generalised_of t x)
      with_set t x h k = done_then_still scope generalised_of old mid (sites_in p) (sites_of_set a) (meant p) (set_of a) (spellings (bound_in p)) t x h k

      pub generalised_right_stops : (t : process.Process) (x : process.EventSet) (f : Refused) → IsResolved old mid p t → IsEventSet mid a x → IsStopped mid q f → IsStopped old (RawGeneralisedParallel p a q) f
      generalised_right_stops t x f h k stops =
          halts_after old mid left_and_set (sites_in q) (λ env. of_two generalised_of (resolving.process_of env p) (resolving.event_set_of env a)) (bound_in p) (bound_in q) (generalised_of t x) f (with_set t x h k) stops

      pub generalised_done : (t u : process.Process) (x : process.EventSet) → IsResolved old mid p t → IsEventSet mid a x → IsResolved mid new q u → IsResolved old new (RawGeneralisedParallel p a q) (process.GeneralisedParallel t x u)
      generalised_done t u x h k l =
          let m : Environment → Option (process.Process → process.Process) = λ env. of_two generalised_of (resolving.process_of env p) (resolving.event_set_of env a) in
          done_as_meant scope old new (sites_in (RawGeneralisedParallel p a q)) (λ env. of_two (λ g w. g w) (m env) (resolving.process_of env q)) (meant (RawGeneralisedParallel p a q)) (spellings (bound_in p ++ bound_in q)) (generalised_of t x u)
          (λ env. three_as_two generalised_of (resolving.process_of env p) (resolving.event_set_of env a) (resolving.process_of env q))
          (done_in_turn (λ g w. g w) old mid new left_and_set (sites_in q) m (meant q) (bound_in p) (bound_in q) (generalised_of t x) u (with_set t x h k) l)

      module _ (b : RawEventSet) where
        abbrev left_and_sets : Environment → List Site
        left_and_sets env = in_process env p ++ in_event_set env a ++ in_event_set env b

        left_and_sets_stop : (f : Refused) → Halts scope old left_and_sets (spellings (bound_in p)) f → IsStopped old (RawAlphabetisedParallel p a b q) f
        left_and_sets_stop f h = halts_before old left_and_sets (sites_in q) (bound_in p) (bound_in q) f h

        first_set_stops : (f : Refused) → Halts scope old left_and_set (spellings (bound_in p)) f → IsStopped old (RawAlphabetisedParallel p a b q) f
        first_set_stops f h = left_and_sets_stop f (halts_before_still scope old left_and_set (sites_of_set b) (spellings (bound_in p)) f h)

        pub alphabetised_left_stops : (f : Refused) → IsStopped old p f → IsStopped old (RawAlphabetisedParallel p a b q) f
        alphabetised_left_stops f h = first_set_stops f (halts_before_still scope old (sites_in p) (sites_of_set a) (spellings (bound_in p)) f h)

        pub alphabetised_own_stops : (t : process.Process) (f : Refused) → IsResolved old mid p t → Halts scope mid (sites_of_set a) [] f → IsStopped old (RawAlphabetisedParallel p a b q) f
        alphabetised_own_stops t f h k = first_set_stops f (halts_in_still scope old mid (sites_in p) (sites_of_set a) (meant p) (spellings (bound_in p)) t f h k)

        with_own : (t : process.Process) (x : process.EventSet) → IsResolved old mid p t → IsEventSet mid a x → Done scope old mid left_and_set (λ env. of_two alphabetised_of (resolving.process_of env p) (resolving.event_set_of env a)) (spellings (bound_in p)) [] (alphabetised_of t x)
        with_own t x h k = done_then_still scope alphabetised_of old mid (sites_in p) (sites_of_set a) (meant p) (set_of a) (spellings (bound_in p)) t x h k

        abbrev with_own_meant : Environment → Option (process.EventSet → process.Process → process.Process)
        with_own_meant env = of_two alphabetised_of (resolving.process_of env p) (resolving.event_set_of env a)

        pub alphabetised_other_stops : (t : process.Process) (x : process.EventSet) (f : Refused) → IsResolved old mid p t → IsEventSet mid a x → Halts scope mid (sites_of_set b) [] f → IsStopped old (RawAlphabetisedParallel p a b q) f
        alphabetised_other_stops t x f h k stops = left_and_sets_stop f (halts_in_still scope old mid left_and_set (sites_of_set b) with_own_meant (spellings (bound_in p)) (alphabetised_of t x) f (with_own t x h k) stops)

        abbrev with_both_meant : Environment → Option (process.Process → process.Process)
        with_both_meant env = of_two (λ g v. g v) (with_own_meant env) (resolving.event_set_of env b)

        with_both : (t : process.Process) (x y : process.EventSet) → IsResolved old mid p t → IsEventSet mid a x → IsEventSet mid b y → Done scope old mid left_and_sets with_both_meant (spellings (bound_in p)) [] (alphabetised_of t x y)
        with_both t x y h k l = done_then_still scope (λ g v. g v) old mid left_and_set (sites_of_set b) with_own_meant (set_of b) (spellings (bound_in p)) (alphabetised_of t x) y (with_own t x h k) l

        pub alphabetised_right_stops : (t : process.Process) (x y : process.EventSet) (f : Refused) → IsResolved old mid p t → IsEventSet mid a x → IsEventSet mid b y → IsStopped mid q f → IsStopped old (RawAlphabetisedParallel p a b q) f
        alphabetised_right_stops t x y f h k l stops = halts_after old mid left_and_sets (sites_in q) with_both_meant (bound_in p) (bound_in q) (alphabetised_of t x y) f (with_both t x y h k l) stops

        pub alphabetised_done : (t u : process.Process) (x y : process.EventSet) → IsResolved old mid p t → IsEventSet mid a x → IsEventSet mid b y → IsResolved mid new q u → IsResolved old new (RawAlphabetisedParallel p a b q) (process.AlphabetisedParallel t x y u)
        alphabetised_done t u x y h k l r =
            done_as_meant scope old new (sites_in (RawAlphabetisedParallel p a b q)) (λ env. of_two (λ g w. g w) (with_both_meant env) (resolving.process_of env q)) (meant (RawAlphabetisedParallel p a b q)) (spellings (bound_in p ++ bound_in q)) (alphabetised_of t x y u)
            (λ env. four_as_two alphabetised_of (resolving.process_of env p) (resolving.event_set_of env a) (resolving.event_set_of env b) (resolving.process_of env q))
            (done_in_turn (λ g w. g w) old mid new left_and_sets (sites_in q) with_both_meant (meant q) (bound_in p) (bound_in q) (alphabetised_of t x y) u (with_both t x y h k l) r)

  -- ---- a process and what stands behind it

  module _ (old new : BoundNames A) (p : RawProcess) where
    module _ (a : RawEventSet) where
      pub hiding_body_stops : (f : Refused) → IsStopped old p f → IsStopped old (RawHiding p a) f
      hiding_body_stops f h = halts_before_still scope old (sites_in p) (sites_of_set a) (spellings (bound_in p)) f h

      pub hiding_set_stops : (t : process.Process) (f : Refused) → IsResolved old new p t → Halts scope new (sites_of_set a) [] f → IsStopped old (RawHiding p a) f
      hiding_set_stops t f h k = halts_in_still scope old new (sites_in p) (sites_of_set a) (meant p) (spellings (bound_in p)) t f h k

      pub hiding_done : (t : process.Process) (x : process.EventSet) → IsResolved old new p t → IsEventSet new a x → IsResolved old new (RawHiding p a) (process.Hiding t x)
      hiding_done t x h k = done_then_still scope process.Hiding old new (sites_in p) (sites_of_set a) (meant p) (set_of a) (spellings (bound_in p)) t x h k

    module _ (rs : List RawPair) where
      pub renaming_body_stops : (f : Refused) → IsStopped old p f → IsStopped old (RawRenaming p rs) f
      renaming_body_stops f h = halts_before_still scope old (sites_in p) (sites_of_pairs rs) (spellings (bound_in p)) f h

      pub renaming_pairs_stop : (t : process.Process) (f : Refused) → IsResolved old new p t → Halts scope new (sites_of_pairs rs) [] f → IsStopped old (RawRenaming p rs) f
      renaming_pairs_stop t f h k = halts_in_still scope old new (sites_in p) (sites_of_pairs rs) (meant p) (spellings (bound_in p)) t f h k

      pub renaming_done : (t : process.Process) (xs : List process.RenamingPair) → IsResolved old new p t → Done scope new new (sites_of_pairs rs) (pairs_of rs) [] [] xs → IsResolved old new (RawRenaming p rs) (process.Renaming t xs)
      renaming_done t xs h k = done_then_still scope process.Renaming old new (sites_in p) (sites_of_pairs rs) (meant p) (pairs_of rs) (spellings (bound_in p)) t xs h k
