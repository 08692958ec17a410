-- A tree without a refusal is not unchecked.
use Rattle.std.specs.Prelude.{flat_map, replicate, slice_get}
use Rattle.std.proofs.Common.{◌≡◌, ℕ, zero, suc, List, [], ◌∷◌, ◌++◌, append-nil, length, map, Option, Some, None, refl, sym, ap, ◌∙◌, subst, inl, inr, ◌⊎◌}
use Rattle.std.proofs.lemmas.List.{append_assoc, map-append}
use Rattle.theory_syntax.specs.Value.{Value}
use Rattle.theory_syntax.specs.Expression.{Expression}
use Rattle.theory_syntax.specs.Process.{Script}
use Rattle.theory_syntax.specs.Types.{Types}
use Rattle.theory_semantics.specs.Kinds.Kind.{Kind, SetKind, Kinds, InTurn, Each}
use Rattle.theory_text.specs.Place.{Place}
use Rattle.theory_text.specs.Raw.{RawName, RawDomain, RawClause, RawDeclaration, RawDatatype, RawNametype, RawChannels, RawEquation, RawAssertion, RawScript}
use Rattle.theory_checking.specs.Names.{environment_above}
use Rattle.theory_checking.specs.Sets.{behind_each, set_expression, clause_sets, nametypes_declared, clauses_declared, channels_declared, nametype_sets, constructor_sets, channel_sets, datatypes_of, types_of, nametypes_in, constructors_in, field_members_with, members_above, IsSetOf, FitSets, field_members}
use Rattle.theory_checking.specs.Scripts.{IsScriptOf}
use Rattle.theory_checking.specs.Sites.{NametypeSet, FieldSet, in_expression, in_heads, in_field_sets, with_clause, in_clause_sets, in_clauses, in_declaration, sites}
use Rattle.theory_checking.specs.Faults.{KindFault, WrongKind, NoneRefused}
use Rattle.theory_checking.specs.Rules.{IsRefusedSite, nametype_kind, field_kind, SomeFit, parameters_declared}
use Rattle.theory_checking.specs.Fitting.{Item, item_declared, items, FitsItem, FitKinds, IsMisfit, misfit, item_place}
use Rattle.theory_checking.specs.Refusals.{IsRefusedAt, PassesNames, IsKindRefusal, in_third_pass}
use Rattle.theory_checking.specs.Checked.{IsCheckedTree}
use Rattle.theory_checking.proofs.FirstRefused.{each_of_none, none_at_all, unrefused_passes}
use Rattle.theory_checking.proofs.Resolving.{AllFine, all_fine, fine_left, fine_right, IsThere, expression_there}
use Rattle.theory_checking.proofs.ScriptThere.{behind_one_more, has_script}
use Rattle.theory_checking.proofs.WellKinded.{Agrees, AgreesOn, expression_moves}

-- ---- kinds that fit still fit below

each_of : (P : ℕ → Type 0) → ((n : ℕ) → P n) → (ns : List ℕ) → Each P ns
each_of P all [] = tt
each_of P all (n ∷ ns) = (all n, each_of P all ns)

-- only the kinds of nametypes and of the fields of constructors count
pub set_kept : (types : Types) (a b : Kinds) → ((n : ℕ) → Agrees a b n) → ((c : ℕ) → AgreesOn a b c) → (e : Option Expression) (k : Kind) → IsSetOf types a e k → IsSetOf types b e k
set_kept types a b same likewise None k h = tt
set_kept types a b same likewise (Some e) k h =
    expression_moves types types (λ d cs is. is) a b e (SetKind k) (each_of (Agrees a b) same (nametypes_in e), each_of (AgreesOn a b) likewise (constructors_in e)) h

pub turn_map : {A B : Type 0} (R S : A → B → Type 0) → ((x : A) (y : B) → R x y → S x y) → (xs : List A) (ys : List B) → InTurn R xs ys → InTurn S xs ys
turn_map R S f [] [] h = tt
turn_map R S f (x ∷ xs) (y ∷ ys) h = (f x y h.0, turn_map R S f xs ys h.1)
turn_map R S f [] (y ∷ ys) h = absurd h
turn_map R S f (x ∷ xs) [] h = absurd h

turn_append : {A B : Type 0} (R : A → B → Type 0) (xs : List A) (ys : List B) (vs : List A) (ws : List B) → InTurn R xs ys → InTurn R vs ws → InTurn R (xs ++ vs) (ys ++ ws)
turn_append R [] [] vs ws h k = k
turn_append R (x ∷ xs) (y ∷ ys) vs ws h k = (h.0, turn_append R xs ys vs ws h.1 k)
turn_append R [] (y ∷ ys) vs ws h k = absurd h
turn_append R (x ∷ xs) [] vs ws h k = absurd h

pub got_more : {A : Type 0} (xs ys : List A) (n : ℕ) (x : A) → slice_get xs n ≡ Some x → slice_get (xs ++ ys) n ≡ Some x
got_more [] ys n x e = absurd (cc e)
got_more (y ∷ xs) ys zero x e = e
got_more (y ∷ xs) ys (suc n) x e = got_more xs ys n x e

-- some more constructors and channels without fields
module _ (types : Types) (a : Kinds) (m n : ℕ) where
  longer : Kinds
  longer = record { nametypes = a.nametypes; constructors = a.constructors ++ replicate m []; channels = a.channels ++ replicate n []; parameters = a.parameters }

  kept_set : (e : Option Expression) (k : Kind) → IsSetOf types a e k → IsSetOf types longer e k
  unfolding longer
  kept_set e k h = set_kept types a longer (λ i j s. s) (λ c ks s. got_more a.constructors (replicate m []) c ks s) e k h

  kept : (es : List (Option Expression)) (ks : List Kind) → InTurn (IsSetOf types a) es ks → InTurn (IsSetOf types longer) es ks
  kept es ks h = turn_map (IsSetOf types a) (IsSetOf types longer) kept_set es ks h

  all_bare : (r : ℕ) → InTurn (InTurn (IsSetOf types longer)) (replicate r []) (replicate r [])
  all_bare zero = tt
  all_bare (suc r) = (tt, all_bare r)

  longer_fits : (old new : RawScript) → nametype_sets new ≡ nametype_sets old → constructor_sets new ≡ constructor_sets old ++ replicate m [] →
      channel_sets new ≡ channel_sets old ++ replicate n [] → FitSets types old a → SomeFit types new
  unfolding longer
  longer_fits old new none bare free fit =
      let P : List (Option Expression) → Type 0 = λ es. InTurn (IsSetOf types longer) es a.nametypes in
      let Q : List (List (Option Expression)) → Type 0 = λ es. InTurn (InTurn (IsSetOf types longer)) es (a.constructors ++ replicate m []) in
      let R : List (List (Option Expression)) → Type 0 = λ es. InTurn (InTurn (IsSetOf types longer)) es (a.channels ++ replicate n []) in (
        longer,
        record {
          nametypes = subst P (sym none) (kept (nametype_sets old) a.nametypes fit.nametypes);
          constructors = subst Q (sym bare)
              (turn_append (InTurn (IsSetOf types longer)) (constructor_sets old) a.constructors (replicate m []) (replicate m [])
              (turn_map (InTurn (IsSetOf types a)) (InTurn (IsSetOf types longer)) kept (constructor_sets old) a.constructors fit.constructors) (all_bare m));
          channels = subst R (sym free)
              (turn_append (InTurn (IsSetOf types longer)) (channel_sets old) a.channels (replicate n []) (replicate n [])
              (turn_map (InTurn (IsSetOf types a)) (InTurn (IsSetOf types longer)) kept (channel_sets old) a.channels fit.channels) (all_bare n));
        },
      )

-- a declaration without sets
fit_kept : (types : Types) (above : RawScript) (d : RawDeclaration) (n : ℕ) → nametypes_declared above d ≡ [] → clauses_declared above d ≡ [] → channels_declared above d ≡ replicate n [] →
    SomeFit types above → SomeFit types (above ++ d ∷ [])
fit_kept types above d n none bare free fit =
    longer_fits types fit.0 0 n above (above ++ d ∷ []) (behind_one_more nametypes_declared above d ∙ ap (λ z. nametype_sets above ++ z) none ∙ append-nil (nametype_sets above))
    (behind_one_more clauses_declared above d ∙ ap (λ z. constructor_sets above ++ z) bare) (behind_one_more channels_declared above d ∙ ap (λ z. channel_sets above ++ z) free) fit.1

-- a clause without sets
clause_kept : (types : Types) (above : RawScript) (name : RawName) (cs : List RawClause) (c : RawClause) → c.fields ≡ [] →
    SomeFit types (above ++ RawDatatype name cs ∷ []) → SomeFit types (above ++ RawDatatype name (cs ++ c ∷ []) ∷ [])
clause_kept types above name cs c bare fit =
    longer_fits types fit.0 1 0 (above ++ RawDatatype name cs ∷ []) (above ++ RawDatatype name (cs ++ c ∷ []) ∷ [])
    (behind_one_more nametypes_declared above (RawDatatype name (cs ++ c ∷ [])) ∙ sym (behind_one_more nametypes_declared above (RawDatatype name cs)))
    (behind_one_more clauses_declared above (RawDatatype name (cs ++ c ∷ []))
    ∙ ap (λ z. constructor_sets above ++ z) (map-append (clause_sets above) cs (c ∷ []) ∙ ap (λ z. map (clause_sets above) cs ++ map (set_expression above) z ∷ []) bare)
    ∙ sym (append_assoc (constructor_sets above) (map (clause_sets above) cs) ([] ∷ []))
    ∙ ap (λ z. z ++ [] ∷ []) (sym (behind_one_more clauses_declared above (RawDatatype name cs))))
    (behind_one_more channels_declared above (RawDatatype name (cs ++ c ∷ [])) ∙ sym (append-nil (channel_sets above ++ []))
    ∙ ap (λ z. z ++ []) (sym (behind_one_more channels_declared above (RawDatatype name cs)))) fit.1

-- ---- kinds fit all sets, though they are not written down

abbrev NotNone : Type 0 → Type 0
NotNone A = ¬ (¬ A)

set_fits : (p : Place) (types : Types) (so_far : RawScript) (e : Option Expression) (ms : Option (List Value)) → IsThere e →
    ((f : KindFault) → ¬ (IsRefusedSite (NametypeSet p types so_far e ms) f)) → NotNone (SomeFit types so_far)
set_fits p types so_far (Some e) ms there fine = λ none. fine WrongKind (nametype_kind none)
set_fits p types so_far None ms there fine = absurd (let e = there.1 in cc e)

field_fits : (p : Place) (types : Types) (so_far : RawScript) (e : Option Expression) (ms : Option (List Value)) → IsThere e →
    ((f : KindFault) → ¬ (IsRefusedSite (FieldSet p types so_far e ms) f)) → NotNone (SomeFit types so_far)
field_fits p types so_far (Some e) ms there fine = λ none. fine WrongKind (field_kind none)
field_fits p types so_far None ms there fine = absurd (let e = there.1 in cc e)

fields_fit : (raw above : RawScript) (names : List RawName) (before : List RawDomain) (d : RawDomain) (ds : List RawDomain) → AllFine (in_field_sets raw above names before (d ∷ ds)) →
    NotNone (SomeFit (types_of raw) (above ++ RawChannels names (before ++ d ∷ ds) ∷ []))
fields_fit raw above names before d [] fine =
    field_fits d.place (types_of raw) (above ++ RawChannels names (before ++ d ∷ []) ∷ []) (set_expression above d) (field_members raw (set_expression above d))
    (expression_there (environment_above above) d.set (fine_left (in_expression (environment_above above) d.set) (in_field_sets raw above names (before ++ d ∷ []) []) fine.1)) fine.0
fields_fit raw above names before d (x ∷ xs) fine =
    let P : List RawDomain → Type 0 = λ z. NotNone (SomeFit (types_of raw) (above ++ RawChannels names z ∷ [])) in
    subst P (append_assoc before (d ∷ []) (x ∷ xs))
    (fields_fit raw above names (before ++ d ∷ []) x xs (fine_right (in_expression (environment_above above) d.set) (in_field_sets raw above names (before ++ d ∷ []) (x ∷ xs)) fine.1))

clause_fits : (raw above : RawScript) (name : RawName) (clauses : List RawClause) (constructor : RawName) (before : List RawDomain) (d : RawDomain) (ds : List RawDomain) →
    AllFine (in_clause_sets raw above name clauses constructor before (d ∷ ds)) → NotNone (SomeFit (types_of raw) (with_clause above name clauses constructor (before ++ d ∷ ds)))
clause_fits raw above name clauses constructor before d [] fine =
    field_fits d.place (types_of raw) (with_clause above name clauses constructor (before ++ d ∷ [])) (set_expression above d)
    (field_members_with (datatypes_of raw) (members_above raw above) (set_expression above d))
    (expression_there (environment_above above) d.set (fine_left (in_expression (environment_above above) d.set) (in_clause_sets raw above name clauses constructor (before ++ d ∷ []) []) fine.1)) fine.0
clause_fits raw above name clauses constructor before d (x ∷ xs) fine =
    let P : List RawDomain → Type 0 = λ z. NotNone (SomeFit (types_of raw) (with_clause above name clauses constructor z)) in
    subst P (append_assoc before (d ∷ []) (x ∷ xs))
    (clause_fits raw above name clauses constructor (before ++ d ∷ []) x xs
    (fine_right (in_expression (environment_above above) d.set) (in_clause_sets raw above name clauses constructor (before ++ d ∷ []) (x ∷ xs)) fine.1))

one_clause_fits : (raw above : RawScript) (name : RawName) (before : List RawClause) (c : RawClause) → AllFine (in_clause_sets raw above name before c.name [] c.fields) →
    NotNone (SomeFit (types_of raw) (above ++ RawDatatype name before ∷ [])) → NotNone (SomeFit (types_of raw) (above ++ RawDatatype name (before ++ c ∷ []) ∷ []))
one_clause_fits raw above name before c fine some = go c.fields refl fine
  where
    go : (fs : List RawDomain) → c.fields ≡ fs → AllFine (in_clause_sets raw above name before c.name [] fs) → NotNone (SomeFit (types_of raw) (above ++ RawDatatype name (before ++ c ∷ []) ∷ []))
    go [] e f = λ none. some (λ fit. none (clause_kept (types_of raw) above name before c e fit))
    go (d ∷ ds) e f =
        let P : List RawDomain → Type 0 = λ z. NotNone (SomeFit (types_of raw) (with_clause above name before c.name z)) in
        subst P (sym e) (clause_fits raw above name before c.name [] d ds f)

clauses_fit : (raw above : RawScript) (name : RawName) (before cs : List RawClause) → AllFine (in_clauses raw above name before cs) →
    NotNone (SomeFit (types_of raw) (above ++ RawDatatype name before ∷ [])) → NotNone (SomeFit (types_of raw) (above ++ RawDatatype name (before ++ cs) ∷ []))
clauses_fit raw above name before [] fine some =
    let P : List RawClause → Type 0 = λ z. NotNone (SomeFit (types_of raw) (above ++ RawDatatype name z ∷ [])) in subst P (sym (append-nil before)) some
clauses_fit raw above name before (c ∷ cs) fine some =
    let P : List RawClause → Type 0 = λ z. NotNone (SomeFit (types_of raw) (above ++ RawDatatype name z ∷ [])) in
    subst P (append_assoc before (c ∷ []) cs)
    (clauses_fit raw above name (before ++ c ∷ []) cs (fine_right (in_clause_sets raw above name before c.name [] c.fields) (in_clauses raw above name (before ++ c ∷ []) cs) fine)
    (one_clause_fits raw above name before c (fine_left (in_clause_sets raw above name before c.name [] c.fields) (in_clauses raw above name (before ++ c ∷ []) cs) fine) some))

one_fits : (raw above : RawScript) (d : RawDeclaration) → AllFine (in_declaration raw above d) → NotNone (SomeFit (types_of raw) above) → NotNone (SomeFit (types_of raw) (above ++ d ∷ []))
one_fits raw above (RawDatatype name cs) fine some = clauses_fit raw above name [] cs fine (λ none. some (λ fit. none (fit_kept (types_of raw) above (RawDatatype name []) 0 refl refl refl fit)))
one_fits raw above (RawEquation name ns p) fine some = λ none. some (λ fit. none (fit_kept (types_of raw) above (RawEquation name ns p) 0 refl refl refl fit))
one_fits raw above (RawAssertion place n a p) fine some = λ none. some (λ fit. none (fit_kept (types_of raw) above (RawAssertion place n a p) 0 refl refl refl fit))
one_fits raw above (RawChannels names []) fine some = λ none. some (λ fit. none (fit_kept (types_of raw) above (RawChannels names []) (length names) refl refl refl fit))
one_fits raw above (RawChannels names (d ∷ ds)) fine some =
    fields_fit raw above names [] d ds (fine_right (in_heads raw (above ++ RawChannels names (d ∷ ds) ∷ []) (length (channel_sets above)) names) (in_field_sets raw above names [] (d ∷ ds)) fine)
one_fits raw above (RawNametype name domain) fine some =
    set_fits domain.place (types_of raw) (above ++ RawNametype name domain ∷ []) (set_expression above domain) _ (expression_there (environment_above above) domain.set fine.1) fine.0

all_fit : (raw above ds : RawScript) → AllFine (behind_each (in_declaration raw) above ds) → NotNone (SomeFit (types_of raw) above) → NotNone (SomeFit (types_of raw) (above ++ ds))
all_fit raw above [] fine some = let P : RawScript → Type 0 = λ z. NotNone (SomeFit (types_of raw) z) in subst P (sym (append-nil above)) some
all_fit raw above (d ∷ ds) fine some =
    let P : RawScript → Type 0 = λ z. NotNone (SomeFit (types_of raw) z) in
    subst P (append_assoc above (d ∷ []) ds)
    (all_fit raw (above ++ d ∷ []) ds (fine_right (in_declaration raw above d) (behind_each (in_declaration raw) (above ++ d ∷ []) ds) fine)
    (one_fits raw above d (fine_left (in_declaration raw above d) (behind_each (in_declaration raw) (above ++ d ∷ []) ds) fine) some))

-- ---- and all equations and assertions

ends : {A : Type 0} (xs : List A) → (xs ≡ []) ⊎ ((before : List A) × (x : A) × (xs ≡ before ++ x ∷ []))
ends [] = inl refl
ends (x ∷ xs) = inr (go x (ends xs))
  where
    go : (y : _) → (xs ≡ []) ⊎ ((before : List _) × (z : _) × (xs ≡ before ++ z ∷ [])) → (before : List _) × (z : _) × (y ∷ xs ≡ before ++ z ∷ [])
    go y (inl e) = ([], y, ap (λ w. y ∷ w) e)
    go y (inr h) = (y ∷ h.0, h.1, ap (λ w. y ∷ w) h.2)

no_parameters : (above ds : RawScript) → behind_each item_declared above ds ≡ [] → flat_map parameters_declared ds ≡ []
no_parameters above [] e = refl
no_parameters above (RawDatatype name cs ∷ ds) e = no_parameters (above ++ RawDatatype name cs ∷ []) ds e
no_parameters above (RawNametype name domain ∷ ds) e = no_parameters (above ++ RawNametype name domain ∷ []) ds e
no_parameters above (RawChannels names domains ∷ ds) e = no_parameters (above ++ RawChannels names domains ∷ []) ds e
no_parameters above (RawEquation name ns p ∷ ds) e = absurd (cc e)
no_parameters above (RawAssertion place n a p ∷ ds) e = absurd (cc e)

-- without equations the parameters' kinds do not matter
without_parameters : (raw : RawScript) → SomeFit (types_of raw) raw → (kinds : Kinds) × FitSets (types_of raw) raw kinds × (kinds.parameters ≡ [])
without_parameters raw fit = (b fit.0, record { nametypes = moved_sets; constructors = moved_fields (constructor_sets raw) fit.0.constructors fit.1.constructors; channels = moved_fields (channel_sets raw) fit.0.channels fit.1.channels }, refl)
  where
    b : Kinds → Kinds
    b a = record { nametypes = a.nametypes; constructors = a.constructors; channels = a.channels; parameters = [] }

    one : (e : Option Expression) (k : Kind) → IsSetOf (types_of raw) fit.0 e k → IsSetOf (types_of raw) (b fit.0) e k
    one e k h = set_kept (types_of raw) fit.0 (b fit.0) (λ n j s. s) (λ c ks s. s) e k h

    moved_sets : InTurn (IsSetOf (types_of raw) (b fit.0)) (nametype_sets raw) fit.0.nametypes
    moved_sets = turn_map (IsSetOf (types_of raw) fit.0) (IsSetOf (types_of raw) (b fit.0)) one (nametype_sets raw) fit.0.nametypes fit.1.nametypes

    moved_fields : (es : List (List (Option Expression))) (ks : List (List Kind)) → InTurn (InTurn (IsSetOf (types_of raw) fit.0)) es ks → InTurn (InTurn (IsSetOf (types_of raw) (b fit.0))) es ks
    moved_fields es ks h = turn_map (InTurn (IsSetOf (types_of raw) fit.0)) (InTurn (IsSetOf (types_of raw) (b fit.0)))
        (λ e k i. turn_map (IsSetOf (types_of raw) fit.0) (IsSetOf (types_of raw) (b fit.0)) one e k i) es ks h

pub not_unchecked : (raw : RawScript) → ((f : KindFault) (p : Place) → ¬ (IsKindRefusal raw f p)) → ¬ ((s : Script) → ¬ (IsCheckedTree raw s))
not_unchecked raw unrefused unchecked = by_end (ends (items raw))
  where
    passes : PassesNames raw
    passes = unrefused_passes raw unrefused

    has : (script : Script) × IsScriptOf raw script
    has = has_script raw passes

    none_fits : (kinds : Kinds) → ¬ (FitKinds raw has.0 kinds (items raw))
    none_fits kinds fit = unchecked has.0 (record { names = passes; script_of = has.1; kinds = kinds; fit = fit })

    no_misfits : NoneRefused (IsMisfit raw has.0) (items raw)
    no_misfits = none_at_all (IsMisfit raw has.0) (items raw) (λ x f first. unrefused f (item_place x) (in_third_pass passes has.1 first))

    by_end : (items raw ≡ []) ⊎ ((before : List Item) × (x : Item) × (items raw ≡ before ++ x ∷ [])) → ⊥
    by_end (inl e) = all_fit raw [] raw (all_fine [] (sites raw) (each_of_none IsRefusedAt [] (sites raw) passes.fine))
        (λ none. none (record { nametypes = []; constructors = []; channels = []; parameters = [] }, record { nametypes = tt; constructors = tt; channels = tt })) (λ fit.
        let some = without_parameters raw fit in
        let P : List Item → Type 0 = λ all. Each (FitsItem has.0 some.0) all in
        none_fits some.0 (record { sets = some.1; parameters = ap (map length) some.2 ∙ sym (no_parameters [] raw e); each = subst P (sym e) tt }))
    by_end (inr h) =
        let P : Kinds → List Item → Type 0 = λ kinds all. FitKinds raw has.0 kinds all in
        no_misfits h.0 [] h.1 WrongKind h.2 (misfit (λ kinds fit. none_fits kinds (let Q : List Item → Type 0 = λ all. FitKinds raw has.0 kinds all in subst Q (sym h.2) fit)))
