-- The forms that bind names are resolved by their parts: prefixes, replicated forms and equations.
use Rattle.std.specs.Prelude.{map}
use Rattle.std.proofs.lemmas.List.{length-map}
use Rattle.std.proofs.Common.{◌≡◌, ℕ, List, [], ◌∷◌, ◌++◌, length, Option, Some, Result, Ok, Err, sym, ap, ap₂, ◌∙◌, subst}
use Rattle.theory_syntax.specs.Expression as pure
use Rattle.theory_syntax.specs.Process as process
use Rattle.theory_syntax.specs.Process.{Field}
use Rattle.theory_text.specs.Raw.{RawName, RawExpression, RawField, Replicator, RawProcess, RawPrefix, RawReplicated}
use Rattle.theory_checking.specs.Names.{Environment, binding, bound_by_fields, bound_in, meaning, number_in, spellings}
use Rattle.theory_checking.specs.Resolving as resolving
use Rattle.theory_checking.specs.Resolving.{bound_number, of_two}
use Rattle.theory_checking.specs.Sites.{AsEvent, BoundThere, Site, Used, in_expression, in_fields, in_process}
use Rattle.theory_checking.specs.Walks.{IsFine}
use Rattle.csp_parse.specs.declared.processes.Field as parsed
use Rattle.csp_parse.specs.Processes.{field_of}
use Rattle.csp_value.specs.declared.name.ChannelId.{ChannelId}
use Rattle.csp_names.specs.declared.bound_names.BoundNames.{BoundNames}
use Rattle.csp_names.specs.declared.refusals.Refused.{Refused}
use Rattle.csp_names.specs.declared.scope.Scope.{Scope}
use Rattle.csp_names.specs.Scopes.{Binds, bound_spellings, IsInOrder, Releases, StandsFor}
use Rattle.csp_names.specs.Walks.{Done, Halts, ResolvesChannel, Serves, Stops}
use Rattle.csp_names.proofs.Forms.{halts_before, IsExpression, IsResolved, IsStopped, meant, sites_in, sites_of}
use Rattle.csp_names.proofs.Going.{halts_behind, serves_first, still_done, still_halts}
use Rattle.csp_names.proofs.Inside.{done_inside, done_then_binds, halts_inside}
use Rattle.csp_names.proofs.Processes.{done_as_meant, done_as_met, halts_as_met, spellings_in_turn, three_as_two}
use Rattle.csp_names.proofs.Walking.{stops_behind, stops_first}

-- a name that is bound has its number
pub number_of_bound : {A : Type 0} (scope : Scope A) (old new : BoundNames A) (n : RawName) (k : ℕ) → (IsInOrder old → number_in (bound_spellings new) n.spelling ≡ Some k) → (IsInOrder old → Binds old new (n.spelling ∷ []) (n.spelling ∷ [])) →
    (env : Environment) → Serves scope old (n.spelling ∷ []) env → bound_number env n ≡ Some k
number_of_bound scope old new n k number binds env serves =
    let in_order = serves.stands.in_order in
    serves.numbers n.spelling k (ap (λ ss. number_in ss n.spelling) (sym (binds in_order).spellings) ∙ number in_order)

-- a prefix as a function of its parts
abbrev prefix_of : ℕ → List Field → process.Process → process.Process
prefix_of c fs p = process.Prefix c fs p

module _ {A : Type 0} (scope : Scope A) where
  -- ---- a body behind names that are bound for it

  module _ {X : Type 0} (old mid last new : BoundNames A) (ns : List RawName) (p : RawProcess) (xs : Environment → List Site) (m : Environment → Option X) (x : X) (before : Done scope old mid xs m (spellings ns) (spellings ns) x) where
    pub body_stops : (f : Refused) → IsStopped scope mid p f → Halts scope old (λ env. xs env ++ in_process (binding env ns) p) (spellings (ns ++ bound_in p)) f
    body_stops f h =
        halts_as_met scope old (λ env. xs env ++ in_process (binding env ns) p) (spellings ns ++ spellings (bound_in p)) (spellings (ns ++ bound_in p)) f (sym (spellings_in_turn ns (bound_in p)))
        (halts_inside scope ns old mid xs m x before (sites_in p) (spellings (bound_in p)) f h)

    pub body_done : {Z : Type 0} (g : X → process.Process → Z) (t : process.Process) → IsResolved scope mid last p t → (IsInOrder last → Releases last new (spellings ns)) →
        Done scope old new (λ env. xs env ++ in_process (binding env ns) p) (λ env. of_two g (m env) (resolving.process_of (binding env ns) p)) (spellings (ns ++ bound_in p)) [] (g x t)
    body_done g t h ends =
        done_as_met scope old new (λ env. xs env ++ in_process (binding env ns) p) (λ env. of_two g (m env) (resolving.process_of (binding env ns) p)) (spellings ns ++ spellings (bound_in p)) (spellings (ns ++ bound_in p)) (g x t) (sym (spellings_in_turn ns (bound_in p)))
        (done_inside scope ns old mid xs m x before g last new (sites_in p) (meant p) (spellings (bound_in p)) t h ends)

  -- ---- prefixes

  -- the channel, whose fields are counted as they are written
  module _ (b : BoundNames A) (n : RawName) (fs : List (parsed.Field A)) where
    abbrev channel_site_of : Environment → List Site
    channel_site_of env = Used env (AsEvent (length (map field_of fs))) n ∷ []

    abbrev channel_of : Environment → Option ℕ
    channel_of env = resolving.as_channel (meaning env n)

    counted : (r : Result ChannelId Refused) → ResolvesChannel scope b (AsEvent (length fs)) n r → ResolvesChannel scope b (AsEvent (length (map field_of fs))) n r
    counted r h = let P : ℕ → Type 0 = λ k. ResolvesChannel scope b (AsEvent k) n r in subst P (sym (length-map fs field_of)) h

    pub channel_there : (c : ChannelId) → ResolvesChannel scope b (AsEvent (length fs)) n (Ok c) → Done scope b b channel_site_of channel_of [] [] c.0
    channel_there c h = still_done scope b channel_site_of channel_of c.0 (counted (Ok c) h)

    pub channel_stops : (f : Refused) → ResolvesChannel scope b (AsEvent (length fs)) n (Err f) → Halts scope b channel_site_of [] f
    channel_stops f h = still_halts scope b channel_site_of f (counted (Err f) h)

  module _ (old mid : BoundNames A) (c : RawName) (fs : List RawField) (p : RawProcess) where
    abbrev channel_site : Environment → List Site
    channel_site env = Used env (AsEvent (length fs)) c ∷ []

    abbrev channel_meant : Environment → Option ℕ
    channel_meant env = resolving.as_channel (meaning env c)

    abbrev met : List (List ℕ)
    met = spellings (bound_by_fields fs)

    abbrev pub IsChannel : ℕ → Type 0
    IsChannel k = Done scope old old channel_site channel_meant [] [] k

    abbrev pub AreFields : List Field → Type 0
    AreFields xs = Done scope old mid (λ env. in_fields env fs) (λ env. resolving.fields_of env fs) met met xs

    pub prefix_channel_stops : (f : Refused) → Halts scope old channel_site [] f → IsStopped scope old (RawPrefix c fs p) f
    prefix_channel_stops f h = halts_before scope old channel_site (λ env. in_fields env fs ++ in_process (binding env (bound_by_fields fs)) p) [] (bound_by_fields fs ++ bound_in p) f h

    pub prefix_fields_stop : (k : ℕ) (f : Refused) → IsChannel k → Halts scope old (λ env. in_fields env fs) met f → IsStopped scope old (RawPrefix c fs p) f
    prefix_fields_stop k f h stops =
        halts_before scope old (λ env. channel_site env ++ in_fields env fs) (λ env. in_process (binding env (bound_by_fields fs)) p) (bound_by_fields fs) (bound_in p) f
        (halts_behind scope old old channel_site channel_meant [] k (λ env. in_fields env fs) met f h stops)

    abbrev head_meant : Environment → Option (process.Process → process.Process)
    head_meant env = of_two prefix_of (channel_meant env) (resolving.fields_of env fs)

    head_done : (k : ℕ) (xs : List Field) → IsChannel k → AreFields xs → Done scope old mid (λ env. channel_site env ++ in_fields env fs) head_meant met met (prefix_of k xs)
    head_done k xs h fields = done_then_binds scope prefix_of old old mid channel_site (λ env. in_fields env fs) channel_meant (λ env. resolving.fields_of env fs) [] met met k xs h fields

    pub prefix_body_stops : (k : ℕ) (xs : List Field) (f : Refused) → IsChannel k → AreFields xs → IsStopped scope mid p f → IsStopped scope old (RawPrefix c fs p) f
    prefix_body_stops k xs f h fields stops =
        body_stops old mid mid mid (bound_by_fields fs) p (λ env. channel_site env ++ in_fields env fs) head_meant (prefix_of k xs) (head_done k xs h fields) f stops

    pub prefix_done : (last new : BoundNames A) (k : ℕ) (xs : List Field) (t : process.Process) → IsChannel k → AreFields xs → IsResolved scope mid last p t → (IsInOrder last → Releases last new met) → IsResolved scope old new (RawPrefix c fs p) (process.Prefix k xs t)
    prefix_done last new k xs t h fields body ends =
        done_as_meant scope old new (sites_in (RawPrefix c fs p)) (λ env. of_two (λ g w. g w) (head_meant env) (resolving.process_of (binding env (bound_by_fields fs)) p)) (meant (RawPrefix c fs p)) (spellings (bound_by_fields fs ++ bound_in p)) (prefix_of k xs t)
        (λ env. three_as_two prefix_of (channel_meant env) (resolving.fields_of env fs) (resolving.process_of (binding env (bound_by_fields fs)) p))
        (body_done old mid last new (bound_by_fields fs) p (λ env. channel_site env ++ in_fields env fs) head_meant (prefix_of k xs) (head_done k xs h fields) (λ g w. g w) t body ends)

  -- ---- replicated forms

  module _ (old mid : BoundNames A) (op : Replicator) (n : RawName) (e : RawExpression) (p : RawProcess) where
    abbrev name_site : Environment → List Site
    name_site env = BoundThere env n ∷ []

    abbrev name_and_set : Environment → List Site
    name_and_set env = name_site env ++ in_expression env e

    abbrev inside : Environment → List Site
    inside env = in_process (binding env (n ∷ [])) p

    -- the name may be bound
    abbrev pub IsUndeclared : Type 0
    IsUndeclared = (b : BoundNames A) (env : Environment) → StandsFor scope b env → IsFine (BoundThere env n)

    pub replicated_name_stops : (f : Refused) → ((b : BoundNames A) (env : Environment) → StandsFor scope b env → Stops (name_site env) f) → IsStopped scope old (RawReplicated op n e p) f
    replicated_name_stops f h = halts_before scope old name_site (λ env. in_expression env e ++ inside env) [] (n ∷ bound_in p) f (λ env serves. h old env serves.stands)

    pub replicated_set_stops : (f : Refused) → IsUndeclared → Halts scope old (sites_of e) [] f → IsStopped scope old (RawReplicated op n e p) f
    replicated_set_stops f fine h env serves =
        stops_first (name_and_set env) (inside env) f
        (stops_behind (name_site env) (in_expression env e) f (fine old env serves.stands, tt) (h env (serves_first scope env old [] (spellings (n ∷ bound_in p)) serves)))

    abbrev set_meant : Environment → Option (process.Process → process.Process)
    set_meant env = of_two (resolving.replicated_process op) (bound_number env n) (resolving.expression_of env e)

    module _ (k : ℕ) (x : pure.Expression) (fine : IsUndeclared) (h : IsExpression scope old e x) (number : IsInOrder old → number_in (bound_spellings mid) n.spelling ≡ Some k) (binds : IsInOrder old → Binds old mid (n.spelling ∷ []) (n.spelling ∷ [])) where
      name_and_set_done : Done scope old mid name_and_set set_meant (n.spelling ∷ []) (n.spelling ∷ []) (resolving.replicated_process op k x)
      name_and_set_done = record {
        fine = λ env serves.
            let set = h.fine env (serves_first scope env old [] (n.spelling ∷ []) serves) in
            ((fine old env serves.stands, set.0), ap₂ (of_two (resolving.replicated_process op)) (number_of_bound scope old mid n k number binds env serves) set.1);
        bound = binds;
      }

      pub replicated_body_stops : (f : Refused) → IsStopped scope mid p f → IsStopped scope old (RawReplicated op n e p) f
      replicated_body_stops f stops = body_stops old mid mid mid (n ∷ []) p name_and_set set_meant (resolving.replicated_process op k x) name_and_set_done f stops

      pub replicated_done : (last new : BoundNames A) (t : process.Process) → IsResolved scope mid last p t → (IsInOrder last → Releases last new (n.spelling ∷ [])) → IsResolved scope old new (RawReplicated op n e p) (resolving.replicated_process op k x t)
      replicated_done last new t body ends =
          done_as_meant scope old new (sites_in (RawReplicated op n e p)) (λ env. of_two (λ g w. g w) (set_meant env) (resolving.process_of (binding env (n ∷ [])) p)) (meant (RawReplicated op n e p)) (spellings (n ∷ bound_in p)) (resolving.replicated_process op k x t)
          (λ env. three_as_two (resolving.replicated_process op) (bound_number env n) (resolving.expression_of env e) (resolving.process_of (binding env (n ∷ [])) p))
          (body_done old mid last new (n ∷ []) p name_and_set set_meant (resolving.replicated_process op k x) name_and_set_done (λ g w. g w) t body ends)
