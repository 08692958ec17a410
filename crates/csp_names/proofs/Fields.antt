-- Fields that bind names, one by one.
use Rattle.std.specs.Prelude.{cond, take, drop, option_map, IfOk, IfErr, OnOk}
use Rattle.std.specs.Str.{bytes_eq}
use Rattle.std.proofs.lemmas.List.{drop_more, get_or-map, length-map, take_more, take_all, take-append-drop, map-append}
use Rattle.std.proofs.Common.{◌≡◌, ◌<◌, ◌≤◌, ℕ, suc, ◌+◌, Bool, true, false, List, [], ◌∷◌, ◌++◌, get_or, length, map, Option, Some, None, Result, Ok, Err, refl, sym, ap, ap₂, ◌∙◌, subst, arith}
use Rattle.theory_syntax.specs.Process as pure
use Rattle.theory_text.specs.Raw.{RawName, RawExpression, RawField, RawGiven, RawInput, RawInputFrom}
use Rattle.theory_checking.specs.Names.{Environment, binding, bound_by_fields, declared_meaning, fields_of_constructor, number_in, spellings, with_spellings}
use Rattle.theory_checking.specs.Resolving as resolving
use Rattle.theory_checking.specs.Sites.{BoundThere, Site, in_expression, in_fields}
use Rattle.theory_checking.specs.Walks.{AllFine, IsFine, IsStoppedAt}
use Rattle.theory_checking.proofs.FineSites.{bound_fine}
use Rattle.theory_checking.proofs.OneMore.{bound_by_more, fields_of_more, in_more_fields, same_declarations}
use Rattle.theory_checking.proofs.Resolving.{same_table}
use Rattle.theory_checking.proofs.SingleSites.{bound_stops}
use Rattle.theory_checking.proofs.Walking.{fine_both}
use Rattle.csp_parse.specs.declared.processes.Field as raw
use Rattle.csp_parse.specs.Processes as written
use Rattle.csp_expression.specs.declared.expr.Expr.{Expr}
use Rattle.csp_expression.specs.declared.name.Name.{Name}
use Rattle.csp_expression.specs.Expression.{expression_of}
use Rattle.csp_term.specs.declared.field.Field.{Field}
use Rattle.csp_term.specs.Field.{field_of, fields_of}
use Rattle.csp_names.specs.declared.bound_names.BoundNames.{BoundNames}
use Rattle.csp_names.specs.declared.meanings.Declared.{Declared}
use Rattle.csp_names.specs.declared.refusals.KindFault.TheVariants as fault
use Rattle.csp_names.specs.declared.refusals.Refused.{Refused}
use Rattle.csp_names.specs.declared.refusals.Refused.TheVariants as refused
use Rattle.csp_names.specs.declared.scope.Scope.{Scope}
use Rattle.csp_names.specs.Meanings.{declared_of}
use Rattle.csp_names.specs.Refusals.{fault_of}
use Rattle.csp_names.specs.Rows.{AreTexts}
use Rattle.csp_names.specs.Scopes.{Binds, bound_spellings, declared_at, HaveNumbersIn, IsInOrder, KnowsScript, occurrences, Releases, StandsFor}
use Rattle.csp_names.specs.Walks.{BindsField, BindsName, ChecksUndeclared, Done, Halts, ResolvesExpression, Serves, Stops}
use Rattle.csp_names.proofs.Going.{binds_both, binds_nothing, numbers_behind, numbers_of_first, releases_both, serves_first}
use Rattle.csp_names.proofs.Walking.{stops_behind, stops_first, stops_for_room}

-- ---- environments in which names are bound

pub bound_inside : (env : Environment) (ns : List RawName) (s : List ℕ) → occurrences (binding env ns).bound s ≡ occurrences (spellings ns) s + occurrences env.bound s
bound_inside env [] s = omega arith
bound_inside env (n ∷ ns) s = bound_inside (record { declarations = env.declarations; numbered = env.numbered; bound = n.spelling ∷ env.bound }) ns s ∙ go (bytes_eq n.spelling s)
  where
    go : (b : Bool) → occurrences (spellings ns) s + cond b (suc (occurrences env.bound s)) (occurrences env.bound s) ≡ cond b (suc (occurrences (spellings ns) s)) (occurrences (spellings ns) s) + occurrences env.bound s
    go true = omega arith
    go false = refl

module _ {A : Type 0} (scope : Scope A) (env : Environment) (old new : BoundNames A) (ns : List RawName) where
  pub serves_inside : (bs : List (List ℕ)) → Serves scope old (spellings ns ++ bs) env → Binds old new (spellings ns) (spellings ns) → Serves scope new bs (binding env ns)
  serves_inside bs h binds =
      let P : List (List ℕ) → List (List ℕ) → Type 0 = λ ss table. HaveNumbersIn ss table in
      let D = same_declarations env ns in
      record {
        stands = record {
          texts = h.stands.texts;
          declared = λ s. ap (λ ds. declared_meaning ds s) D ∙ h.stands.declared s;
          constructors = λ s k means. ap (λ ds. fields_of_constructor ds k) D ∙ h.stands.constructors s k (sym (ap (λ ds. declared_meaning ds s) D) ∙ means);
          in_order = binds.in_order;
          numbered = λ s i e. ap (λ t. number_in t s) (same_table env ns) ∙ numbers_of_first (bound_spellings old) (spellings ns) bs env.numbered h.numbers s i (sym (ap (λ ss. number_in ss s) binds.spellings) ∙ e);
          times = λ s. binds.times s ∙ ap (λ k. occurrences (spellings ns) s + k) (h.stands.times s) ∙ sym (bound_inside env ns s);
        };
        knows = subst (KnowsScript scope) (sym D) h.knows;
        numbers = λ s i e. ap (λ t. number_in t s) (same_table env ns) ∙ numbers_behind (bound_spellings old) (spellings ns) bs env.numbered h.numbers s i (sym (ap (λ ss. number_in (with_spellings ss bs) s) binds.spellings) ∙ e);
      }

-- ---- the first of the fields are fine

abbrev pub met_by : List RawField → List (List ℕ)
met_by fs = spellings (bound_by_fields fs)

pub met_by_more : (fs gs : List RawField) → met_by (fs ++ gs) ≡ met_by fs ++ met_by gs
met_by_more fs gs = ap spellings (bound_by_more fs gs) ∙ map-append (λ n. n.spelling) (bound_by_fields fs) (bound_by_fields gs)

pub record FieldsSoFar {A : Type 0} (scope : Scope A) (old now : BoundNames A) (fs : List RawField) (i : ℕ) (done : List (Field A)) : Type 0 where
  pub fine : (env : Environment) → Serves scope old (met_by fs) env → AllFine (in_fields env (take i fs)) × (resolving.fields_of env (take i fs) ≡ Some (fields_of done))
  pub bound : IsInOrder old → Binds old now (met_by (take i fs)) (met_by (take i fs))

module _ {A : Type 0} (scope : Scope A) (old now : BoundNames A) (fs : List RawField) (i : ℕ) (done : List (Field A)) (f : RawField) (within : i < length fs) (read : f ≡ get_or fs i f) (so_far : FieldsSoFar scope old now fs i done) where
  cut : take (i + 1) fs ≡ take i fs ++ f ∷ []
  cut = take_more fs i f within ∙ ap (λ y. take i fs ++ y ∷ []) (sym read)

  whole : fs ≡ take i fs ++ f ∷ drop (i + 1) fs
  whole = sym (take-append-drop i fs) ∙ ap (λ ys. take i fs ++ ys) (drop_more fs i f within ∙ ap (λ y. y ∷ drop (i + 1) fs) (sym read))

  met : met_by fs ≡ met_by (take i fs) ++ (met_by (f ∷ []) ++ met_by (drop (i + 1) fs))
  met = ap met_by whole ∙ met_by_more (take i fs) (f ∷ drop (i + 1) fs) ∙ ap (λ z. met_by (take i fs) ++ z) (met_by_more (f ∷ []) (drop (i + 1) fs))

  inside : (env : Environment) → Serves scope old (met_by fs) env → Serves scope now (met_by (f ∷ [])) (binding env (bound_by_fields (take i fs)))
  inside env h =
      let P : List (List ℕ) → Type 0 = λ ms. Serves scope old ms env in
      serves_first scope (binding env (bound_by_fields (take i fs))) now (met_by (f ∷ [])) (met_by (drop (i + 1) fs))
      (serves_inside scope env old now (bound_by_fields (take i fs)) (met_by (f ∷ []) ++ met_by (drop (i + 1) fs)) (subst P met h) (so_far.bound h.stands.in_order))

  pub one_field_more : (new : BoundNames A) (x : Field A) (more : List (Field A)) → BindsField scope now new f (Ok x) → more ≡ done ++ x ∷ [] → FieldsSoFar scope old new fs (i + 1) more
  one_field_more new x more one pushed = record {
    fine = λ env serves.
        let first = so_far.fine env serves in
        let second = one.fine (binding env (bound_by_fields (take i fs))) (inside env serves) in
        let P : List RawField → Type 0 = λ gs. AllFine (in_fields env gs) × (resolving.fields_of env gs ≡ Some (fields_of more)) in
        let Q : List Site → Type 0 = AllFine in
        subst P (sym cut) (
          subst Q (sym (in_more_fields env (take i fs) (f ∷ []))) (fine_both (in_fields env (take i fs)) (in_fields (binding env (bound_by_fields (take i fs))) (f ∷ [])) first.0 second.0),
          fields_of_more env (take i fs) (f ∷ []) (fields_of done) (field_of x ∷ []) first.1 second.1 ∙ ap Some (sym (map-append field_of done (x ∷ []))) ∙ ap (λ xs. Some (fields_of xs)) (sym pushed),
        );
    bound = λ in_order.
        let first = so_far.bound in_order in
        let P : List (List ℕ) → Type 0 = λ ms. Binds old new ms ms in
        subst P (sym (ap met_by cut ∙ met_by_more (take i fs) (f ∷ []))) (binds_both old now new (met_by (take i fs)) (met_by (f ∷ [])) (met_by (take i fs)) (met_by (f ∷ [])) first (one.bound first.in_order));
  }

  pub field_halts : (r : Refused) → Halts scope now (λ env. in_fields env (f ∷ [])) (met_by (f ∷ [])) r → Halts scope old (λ env. in_fields env fs) (met_by fs) r
  field_halts r h env serves =
      let P : List RawField → Type 0 = λ gs. Stops (in_fields env gs) r in
      let Q : List Site → Type 0 = λ xs. Stops xs r in
      let env' = binding env (bound_by_fields (take i fs)) in
      subst P (sym whole) (subst Q (sym (in_more_fields env (take i fs) (f ∷ drop (i + 1) fs)))
      (stops_behind (in_fields env (take i fs)) (in_fields env' (f ∷ drop (i + 1) fs)) r (so_far.fine env serves).0
      (subst Q (sym (in_more_fields env' (f ∷ []) (drop (i + 1) fs))) (stops_first (in_fields env' (f ∷ [])) (in_fields (binding env' (bound_by_fields (f ∷ []))) (drop (i + 1) fs)) r (h env' (inside env serves))))))

pub no_fields_yet : {A : Type 0} (scope : Scope A) (b : BoundNames A) (fs : List RawField) → FieldsSoFar scope b b fs 0 []
no_fields_yet scope b fs = record { fine = λ env serves. (tt, refl); bound = λ in_order. binds_nothing b in_order }

pub all_fields : {A : Type 0} (scope : Scope A) (old now : BoundNames A) (fs : List RawField) (i : ℕ) (done : List (Field A)) → length fs ≤ i → FieldsSoFar scope old now fs i done → Done scope old now (λ env. in_fields env fs) (λ env. resolving.fields_of env fs) (met_by fs) (met_by fs) (fields_of done)
all_fields scope old now fs i done over so_far =
    let all = take_all i fs over in
    record {
      fine = λ env serves. let P : List RawField → Type 0 = λ gs. AllFine (in_fields env gs) × (resolving.fields_of env gs ≡ Some (fields_of done)) in subst P all (so_far.fine env serves);
      bound = λ in_order. let P : List RawField → Type 0 = λ gs. Binds old now (met_by gs) (met_by gs) in subst P all (so_far.bound in_order);
    }

-- ---- one field

module _ {A : Type 0} (scope : Scope A) (old : BoundNames A) where
  -- the field that is written
  pub for_field : (new : BoundNames A) (f g : RawField) (r : Result (Field A) Refused) → f ≡ g → BindsField scope old new g r → BindsField scope old new f r
  for_field new f g r is h = let P : RawField → Type 0 = λ x. BindsField scope old new x r in subst P (sym is) h

  pub no_room_halts : (sites : Environment → List Site) (ms : List (List ℕ)) (f : Refused) → f ≡ refused.Memory → Halts scope old sites ms f
  no_room_halts sites ms f is env serves = stops_for_room (sites env) f is

  pub given_halts : (e : RawExpression) (f : Refused) → ResolvesExpression scope old e (Err f) → Halts scope old (λ env. in_fields env (RawGiven e ∷ [])) [] f
  given_halts e f h env serves = stops_first (in_expression env e) [] f (h env serves.stands)

  pub given_done : (e : RawExpression) (x : Expr A) → ResolvesExpression scope old e (Ok x) → Done scope old old (λ env. in_fields env (RawGiven e ∷ [])) (λ env. resolving.fields_of env (RawGiven e ∷ [])) [] [] (pure.Given (expression_of x) ∷ [])
  given_done e x h = record {
    fine = λ env serves.
        let part = h env serves.stands in
        (fine_both (in_expression env e) [] part.0 tt, ap (λ o. resolving.of_two (λ v rest. pure.Given v ∷ rest) o (Some [])) part.1);
    bound = binds_nothing old;
  }

  module _ (n : RawName) where
    pub input_done : (new : BoundNames A) (x : Name) → BindsName scope old new n (Ok x) → Done scope old new (λ env. in_fields env (RawInput n ∷ [])) (λ env. resolving.fields_of env (RawInput n ∷ [])) (n.spelling ∷ []) (n.spelling ∷ []) (pure.Input x.0 ∷ [])
    input_done new x h = record {
      fine = λ env serves.
          let part = h.fine env serves in
          (part.0, ap (λ o. resolving.of_two (λ i rest. pure.Input i ∷ rest) o (Some [])) part.1);
      bound = h.bound;
    }

    pub declared_halts : (T : Type 0) (e : RawExpression) (f : Refused) → ChecksUndeclared {T = T} scope n (Err f) → Halts scope old (λ env. in_fields env (RawInputFrom n e ∷ [])) (n.spelling ∷ []) f
    declared_halts T e f h env serves = stops_first (BoundThere env n ∷ []) (in_expression env e ++ []) f (h old env serves.stands)

    pub set_halts : {T : Type 0} (t : T) (e : RawExpression) (f : Refused) → ChecksUndeclared scope n (Ok t) → ResolvesExpression scope old e (Err f) → Halts scope old (λ env. in_fields env (RawInputFrom n e ∷ [])) (n.spelling ∷ []) f
    set_halts t e f h k env serves = stops_behind (BoundThere env n ∷ []) (in_expression env e ++ []) f (h old env serves.stands, tt) (stops_first (in_expression env e) [] f (k env serves.stands))

    -- what `BoundNames::bind` promises
    abbrev pub IsNumbered : BoundNames A → Name → Type 0
    IsNumbered new x = IsInOrder old → number_in (bound_spellings new) n.spelling ≡ Some x.0

    abbrev pub IsBound : BoundNames A → Type 0
    IsBound new = IsInOrder old → Binds old new (n.spelling ∷ []) (n.spelling ∷ [])

    number_known : (new : BoundNames A) (x : Name) → IsNumbered new x → IsBound new → (env : Environment) → Serves scope old (n.spelling ∷ []) env → resolving.bound_number env n ≡ Some x.0
    number_known new x number binds env serves =
        let in_order = serves.stands.in_order in
        serves.numbers n.spelling x.0 (sym (ap (λ ss. number_in ss n.spelling) (binds in_order).spellings) ∙ number in_order)

    pub input_from_done : {T : Type 0} (t : T) (e : RawExpression) (s : Expr A) (new : BoundNames A) (x : Name) → ChecksUndeclared scope n (Ok t) → ResolvesExpression scope old e (Ok s) → IsNumbered new x → IsBound new →
        Done scope old new (λ env. in_fields env (RawInputFrom n e ∷ [])) (λ env. resolving.fields_of env (RawInputFrom n e ∷ [])) (n.spelling ∷ []) (n.spelling ∷ []) (pure.InputFrom x.0 (expression_of s) ∷ [])
    input_from_done t e s new x h k number binds = record {
      fine = λ env serves.
          let set = k env serves.stands in (
            (h old env serves.stands, fine_both (in_expression env e) [] set.0 tt),
            ap₂ (λ i v. resolving.of_three (λ y z rest. pure.InputFrom y z ∷ rest) i v (Some [])) (number_known new x number binds env serves) set.1,
          );
      bound = binds;
    }

    -- a name alone
    pub name_bound : {T : Type 0} (t : T) (new : BoundNames A) (r : Result Name Refused) → ChecksUndeclared scope n (Ok t) → IfOk r (IsNumbered new) → OnOk r (IsBound new) → IfErr r (λ f. f ≡ refused.Memory) → BindsName scope old new n r
    name_bound t new (Ok x) h number binds stops = record { fine = λ env serves. ((h old env serves.stands, tt), number_known new x number binds env serves); bound = binds }
    name_bound t new (Err f) h number binds stops = no_room_halts (λ env. BoundThere env n ∷ []) (n.spelling ∷ []) f stops

    pub name_halts : (T : Type 0) (f : Refused) → ChecksUndeclared {T = T} scope n (Err f) → Halts scope old (λ env. BoundThere env n ∷ []) (n.spelling ∷ []) f
    name_halts T f h env serves = h old env serves.stands

-- ---- a name that is declared, or not

module _ {A : Type 0} (scope : Scope A) (n : RawName) (found : Option Declared) (finds : AreTexts scope.names.now.table.entries → option_map declared_of found ≡ declared_at scope.names.now scope.visible n.spelling) where
  means : (bound : BoundNames A) (env : Environment) → StandsFor scope bound env → declared_meaning env.declarations n.spelling ≡ option_map declared_of found
  means bound env stands = stands.declared n.spelling ∙ sym (finds stands.texts)

  pub declared_stops : (d : Declared) → found ≡ Some d → (bound : BoundNames A) (env : Environment) → StandsFor scope bound env → IsStoppedAt (BoundThere env n ∷ []) (fault_of fault.DeclaredTwice) n.place
  declared_stops d is bound env stands = bound_stops env n (declared_of d) (means bound env stands ∙ ap (option_map declared_of) is)

  pub undeclared_fine : found ≡ None → (bound : BoundNames A) (env : Environment) → StandsFor scope bound env → IsFine (BoundThere env n)
  undeclared_fine is bound env stands = bound_fine env n (means bound env stands ∙ ap (option_map declared_of) is)

-- ---- bindings that end field by field

module _ {A : Type 0} (old now : BoundNames A) (fs : List RawField) (i : ℕ) where
  abbrev pub ReleasedSoFar : Type 0
  ReleasedSoFar = IsInOrder old → Releases old now (met_by (take i fs))

  pub one_more_released : (new : BoundNames A) (f : RawField) → i < length fs → f ≡ get_or fs i f → ReleasedSoFar → (IsInOrder now → Releases now new (met_by (f ∷ []))) → IsInOrder old → Releases old new (met_by (take (i + 1) fs))
  one_more_released new f within read so_far one in_order =
      let first = so_far in_order in
      let cut : take (i + 1) fs ≡ take i fs ++ f ∷ [] = take_more fs i f within ∙ ap (λ y. take i fs ++ y ∷ []) (sym read) in
      let P : List (List ℕ) → Type 0 = λ ms. Releases old new ms in
      subst P (sym (ap met_by cut ∙ met_by_more (take i fs) (f ∷ []))) (releases_both old now new (met_by (take i fs)) (met_by (f ∷ [])) first (one first.in_order))

  pub all_released : length fs ≤ i → ReleasedSoFar → IsInOrder old → Releases old now (met_by fs)
  all_released over so_far in_order = let P : List RawField → Type 0 = λ gs. Releases old now (met_by gs) in subst P (take_all i fs over) (so_far in_order)

-- the field of a list that is read
pub field_read : {A : Type 0} (fs : List (raw.Field A)) (i : ℕ) (f : raw.Field A) → i < length fs → f ≡ get_or fs i f → (i < length (map written.field_of fs)) × (written.field_of f ≡ get_or (map written.field_of fs) i (written.field_of f))
field_read fs i f within read = (within_map, same)
  where
    within_map : i < length (map written.field_of fs)
    within_map = let counted = length-map fs written.field_of in omega (arith, counted, within)

    same : written.field_of f ≡ get_or (map written.field_of fs) i (written.field_of f)
    same = ap written.field_of read ∙ sym (get_or-map written.field_of fs i f (written.field_of f) within)
