-- Parameters that are bound, one by one.
use Rattle.std.specs.Prelude.{take, drop, is_some, nat_lt, option_map, IfErr, IfOk, OnOk}
use Rattle.std.proofs.lemmas.List.{drop_more, get_or-map, length-map, take_more, take_all, take-append-drop, map-append}
use Rattle.std.proofs.Common.{◌≡◌, ◌<◌, ◌≤◌, ℕ, ◌+◌, Bool, true, false, List, [], ◌∷◌, ◌++◌, get_or, length, map, Option, Some, None, Result, Ok, Err, sym, ap, ◌∙◌, subst, arith}
use Rattle.theory_text.specs.Raw.{RawName}
use Rattle.theory_checking.specs.Names.{Environment, binding, has_spelling, number_in, spellings}
use Rattle.theory_checking.specs.Resolving.{bound_number, every}
use Rattle.theory_checking.specs.Sites.{Site, Parameter, in_parameters}
use Rattle.theory_checking.specs.Walks.{AllFine, IsFine, IsStoppedAt}
use Rattle.theory_checking.specs.Faults.{DeclaredTwice}
use Rattle.theory_checking.proofs.FineSites.{parameter_fine}
use Rattle.theory_checking.proofs.OneMore.{every_one_more, in_more_parameters}
use Rattle.theory_checking.proofs.Resolving.{same_table}
use Rattle.theory_checking.proofs.SingleSites.{declared_parameter_stops, parameter_again_stops}
use Rattle.theory_checking.proofs.Walking.{fine_both}
use Rattle.csp_expression.specs.declared.name.Name.{Name}
use Rattle.csp_parse.specs.declared.names.Name as parsed
use Rattle.csp_parse.specs.Names.{name_of}
use Rattle.csp_names.specs.declared.bound_names.BoundNames.{BoundNames}
use Rattle.csp_names.specs.declared.meanings.Declared.{Declared}
use Rattle.csp_names.specs.declared.refusals.Refused.{Refused}
use Rattle.csp_names.specs.declared.refusals.Refused.TheVariants as refused
use Rattle.csp_names.specs.declared.scope.Scope.{Scope}
use Rattle.csp_names.specs.Meanings.{declared_of}
use Rattle.csp_names.specs.Scopes.{Binds, bound_spellings, declared_at, IsInOrder, Releases, StandsFor, times_at}
use Rattle.csp_names.specs.Walks.{BindsParameter, Done, Halts, Serves, Stops}
use Rattle.csp_names.proofs.BindingForms.{number_of_bound}
use Rattle.csp_names.proofs.Fields.{serves_inside}
use Rattle.csp_names.proofs.Going.{binds_both, binds_nothing, releases_both, serves_first}
use Rattle.csp_names.proofs.NameMeanings.{has_occurring}
use Rattle.csp_names.proofs.Processes.{spellings_in_turn}
use Rattle.csp_names.proofs.Walking.{stops_behind, stops_first, stops_for_room}

-- ---- one parameter: neither declared nor among the parameters before it

module _ {A : Type 0} (scope : Scope A) (bound : BoundNames A) (env : Environment) (stands : StandsFor scope bound env) (n : RawName) where
  among : (b : Bool) → b ≡ nat_lt 0 (times_at bound n.spelling) → has_spelling env.bound n.spelling ≡ b
  among b is = has_occurring env.bound n.spelling ∙ ap (nat_lt 0) (sym (stands.times n.spelling)) ∙ sym is

  pub parameter_before_stops : true ≡ nat_lt 0 (times_at bound n.spelling) → IsStoppedAt (Parameter env n ∷ []) DeclaredTwice n.place
  parameter_before_stops is = parameter_again_stops env n (among true is)

  pub parameter_declared_stops : (o : Option Declared) → option_map declared_of o ≡ declared_at scope.names.now scope.visible n.spelling → is_some o ≡ true → IsStoppedAt (Parameter env n ∷ []) DeclaredTwice n.place
  parameter_declared_stops (Some d) is there = declared_parameter_stops env n (declared_of d) (stands.declared n.spelling ∙ sym is)
  parameter_declared_stops None is there = absurd (cc there)

  pub new_parameter_fine : (o : Option Declared) → option_map declared_of o ≡ declared_at scope.names.now scope.visible n.spelling → is_some o ≡ false → false ≡ nat_lt 0 (times_at bound n.spelling) → IsFine (Parameter env n)
  new_parameter_fine None is there unbound = parameter_fine env n (stands.declared n.spelling ∙ sym is) (among false unbound)
  new_parameter_fine (Some d) is there unbound = absurd (cc there)

-- a parameter that may be bound is
pub bound_parameter : {A : Type 0} (scope : Scope A) (old new : BoundNames A) (n : RawName) (r : Result Name Refused) → ((env : Environment) → StandsFor scope old env → IsFine (Parameter env n)) →
    IfOk r (λ x. IsInOrder old → number_in (bound_spellings new) n.spelling ≡ Some x.0) → OnOk r (IsInOrder old → Binds old new (n.spelling ∷ []) (n.spelling ∷ [])) → IfErr r (λ f. f ≡ refused.Memory) → BindsParameter scope old new n r
bound_parameter scope old new n (Ok x) fine number binds stops = record { fine = λ env serves. ((fine env serves.stands, tt), number_of_bound scope old new n x.0 number binds env serves); bound = binds }
bound_parameter scope old new n (Err f) fine number binds stops = λ env serves. stops_for_room (Parameter env n ∷ []) f stops

-- ---- the parameters as they are written

module _ (ps : List parsed.Name) (i : ℕ) where
  pub within_names : i < length ps → i < length (map name_of ps)
  within_names lt = let same = length-map ps name_of in omega (arith, same, lt)

  pub name_read : (d : parsed.Name) → i < length ps → name_of (get_or ps i d) ≡ get_or (map name_of ps) i (name_of (get_or ps i d))
  name_read d lt = sym (get_or-map name_of ps i d (name_of (get_or ps i d)) lt)

  pub over_names : length ps ≤ i → length (map name_of ps) ≤ i
  over_names over = let same = length-map ps name_of in omega (arith, same, over)

-- ---- the first of the parameters are fine

pub record ParametersSoFar {A : Type 0} (scope : Scope A) (old now : BoundNames A) (ns : List RawName) (i : ℕ) (done : List Name) : Type 0 where
  pub fine : (env : Environment) → Serves scope old (spellings ns) env → AllFine (in_parameters env (take i ns)) × (every (bound_number env) (take i ns) ≡ Some (map (λ x. x.0) done))
  pub bound : IsInOrder old → Binds old now (spellings (take i ns)) (spellings (take i ns))

module _ (ns : List RawName) (i : ℕ) (n : RawName) (within : i < length ns) (read : n ≡ get_or ns i n) where
  cut : take (i + 1) ns ≡ take i ns ++ n ∷ []
  cut = take_more ns i n within ∙ ap (λ y. take i ns ++ y ∷ []) (sym read)

  whole : ns ≡ take i ns ++ n ∷ drop (i + 1) ns
  whole = sym (take-append-drop i ns) ∙ ap (λ ys. take i ns ++ ys) (drop_more ns i n within ∙ ap (λ y. y ∷ drop (i + 1) ns) (sym read))

  met : spellings ns ≡ spellings (take i ns) ++ (spellings (n ∷ []) ++ spellings (drop (i + 1) ns))
  met = ap spellings whole ∙ spellings_in_turn (take i ns) (n ∷ drop (i + 1) ns)

  module _ {A : Type 0} (scope : Scope A) (old now : BoundNames A) (done : List Name) (so_far : ParametersSoFar scope old now ns i done) where
    inside : (env : Environment) → Serves scope old (spellings ns) env → Serves scope now (spellings (n ∷ [])) (binding env (take i ns))
    inside env h =
        let P : List (List ℕ) → Type 0 = λ ms. Serves scope old ms env in
        serves_first scope (binding env (take i ns)) now (spellings (n ∷ [])) (spellings (drop (i + 1) ns))
        (serves_inside scope env old now (take i ns) (spellings (n ∷ []) ++ spellings (drop (i + 1) ns)) (subst P met h) (so_far.bound h.stands.in_order))

    pub one_parameter_more : (new : BoundNames A) (x : Name) (more : List Name) → BindsParameter scope now new n (Ok x) → more ≡ done ++ x ∷ [] → ParametersSoFar scope old new ns (i + 1) more
    one_parameter_more new x more one pushed = record {
      fine = λ env serves.
          let env' = binding env (take i ns) in
          let first = so_far.fine env serves in
          let second = one.fine env' (inside env serves) in
          let number : bound_number env n ≡ Some x.0 = ap (λ t. number_in t n.spelling) (sym (same_table env (take i ns))) ∙ second.1 in
          let P : List RawName → Type 0 = λ ms. AllFine (in_parameters env ms) × (every (bound_number env) ms ≡ Some (map (λ y. y.0) more)) in
          let Q : List Site → Type 0 = AllFine in
          subst P (sym cut) (
            subst Q (sym (in_more_parameters env (take i ns) (n ∷ []))) (fine_both (in_parameters env (take i ns)) (Parameter env' n ∷ []) first.0 second.0),
            every_one_more (bound_number env) (take i ns) n (map (λ y. y.0) done) x.0 first.1 number ∙ ap Some (sym (map-append (λ y. y.0) done (x ∷ []))) ∙ ap (λ xs. Some (map (λ y. y.0) xs)) (sym pushed),
          );
      bound = λ in_order.
          let first = so_far.bound in_order in
          let P : List (List ℕ) → Type 0 = λ ms. Binds old new ms ms in
          subst P (sym (ap spellings cut ∙ spellings_in_turn (take i ns) (n ∷ []))) (binds_both old now new (spellings (take i ns)) (spellings (n ∷ [])) (spellings (take i ns)) (spellings (n ∷ [])) first (one.bound first.in_order));
    }

    pub parameter_halts : (r : Refused) → Halts scope now (λ env. Parameter env n ∷ []) (spellings (n ∷ [])) r → Halts scope old (λ env. in_parameters env ns) (spellings ns) r
    parameter_halts r h env serves =
        let P : List RawName → Type 0 = λ ms. Stops (in_parameters env ms) r in
        let Q : List Site → Type 0 = λ xs. Stops xs r in
        let env' = binding env (take i ns) in
        let behind = binding env' (n ∷ []) in
        subst P (sym whole) (subst Q (sym (in_more_parameters env (take i ns) (n ∷ drop (i + 1) ns)))
        (stops_behind (in_parameters env (take i ns)) (in_parameters env' (n ∷ drop (i + 1) ns)) r (so_far.fine env serves).0
        (stops_first (Parameter env' n ∷ []) (in_parameters behind (drop (i + 1) ns)) r (h env' (inside env serves)))))

  -- one binding more has ended
  pub one_released : {A : Type 0} (old now new : BoundNames A) → (IsInOrder old → Releases old now (spellings (take i ns))) → (IsInOrder now → Releases now new (n.spelling ∷ [])) → IsInOrder old → Releases old new (spellings (take (i + 1) ns))
  one_released old now new h k in_order =
      let first = h in_order in
      let P : List (List ℕ) → Type 0 = Releases old new in
      subst P (sym (ap spellings cut ∙ spellings_in_turn (take i ns) (n ∷ []))) (releases_both old now new (spellings (take i ns)) (n.spelling ∷ []) first (k first.in_order))

pub no_parameters_yet : {A : Type 0} (scope : Scope A) (b : BoundNames A) (ns : List RawName) (done : List Name) → done ≡ [] → ParametersSoFar scope b b ns 0 done
no_parameters_yet scope b ns done empty = record { fine = λ env serves. (tt, ap (λ xs. Some (map (λ x. x.0) xs)) (sym empty)); bound = λ in_order. binds_nothing b in_order }

pub all_parameters : {A : Type 0} (scope : Scope A) (old now : BoundNames A) (ns : List RawName) (i : ℕ) (done : List Name) → length ns ≤ i → ParametersSoFar scope old now ns i done →
    Done scope old now (λ env. in_parameters env ns) (λ env. every (bound_number env) ns) (spellings ns) (spellings ns) (map (λ x. x.0) done)
all_parameters scope old now ns i done over so_far =
    let all = take_all i ns over in
    record {
      fine = λ env serves. let P : List RawName → Type 0 = λ ms. AllFine (in_parameters env ms) × (every (bound_number env) ms ≡ Some (map (λ x. x.0) done)) in subst P all (so_far.fine env serves);
      bound = λ in_order. let P : List RawName → Type 0 = λ ms. Binds old now (spellings ms) (spellings ms) in subst P all (so_far.bound in_order);
    }

pub all_released : {A : Type 0} (old now : BoundNames A) (ns : List RawName) (i : ℕ) → length ns ≤ i → (IsInOrder old → Releases old now (spellings (take i ns))) → IsInOrder old → Releases old now (spellings ns)
all_released old now ns i over h in_order = let P : List RawName → Type 0 = λ ms. Releases old now (spellings ms) in subst P (take_all i ns over) (h in_order)
