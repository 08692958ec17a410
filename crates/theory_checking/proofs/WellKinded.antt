-- The script of a tree whose kinds fit is well-kinded.
use Rattle.std.specs.Prelude.{flat_map, filter_map, slice_get, drop, unwrap_or, option_and_then}
use Rattle.std.specs.Result.{result_ok}
use Rattle.std.proofs.Common.{◌≡◌, ℕ, zero, suc, ◌+◌, ◌<◌, Bool, true, false, cond, List, [], ◌∷◌, ◌++◌, append-nil, length, length-append, map, Option, Some, None, Result, Ok, Err, refl, sym, ap, ap₂, ◌∙◌, subst, arith}
use Rattle.std.proofs.lemmas.List.{append_assoc, map-append, length-map}
use Rattle.std.proofs.lemmas.Grind.{flat_map-append}
use Rattle.std.proofs.lemmas.Option.{slice_get_within}
use Rattle.theory_syntax.specs.Value.{Value, Integer, Truth, Constructor, Sequence, Set, Values, no_values, value_and}
use Rattle.theory_syntax.specs.Expression.{Expression, Literal, Name, Apply, Combine, SequenceOf, SetOf, Range, Booleans, Datatype, Nametype, ConstructorOf, Expressions, no_expressions, expression_and}
use Rattle.theory_syntax.specs.Process.{Equation, Assertion, Script}
use Rattle.theory_syntax.specs.Types.{Types}
use Rattle.theory_semantics.specs.Meaning.Evaluation.{Cause}
use Rattle.theory_semantics.specs.Meaning.Events.{elements}
use Rattle.theory_semantics.specs.Kinds.Kind.{Kind, IntKind, BoolKind, DatatypeKind, SequenceKind, SetKind, Kinds, InTurn, BeginsInTurn, Each}
use Rattle.theory_semantics.specs.Kinds.Values.{IsConstructorOf, IsValueOf, AreValuesOf, AreValuesInTurn, AreMembersOf, DatatypesRise}
use Rattle.theory_semantics.specs.Kinds.Expressions.{HasKind, AllHaveKind, HaveKinds}
use Rattle.theory_semantics.specs.Kinds.Scripts.{SetsHaveTheirKinds, HaveFieldSets, TypesHaveKinds, TypesHaveFirstKinds, IsWellKindedEquation, IsWellKindedAssertion, SetsHaveKinds, IsWellKindedScript, IsCheckedScript}
use Rattle.theory_text.specs.Place.{Place}
use Rattle.theory_text.specs.Raw.{RawDeclaration, RawDatatype, RawNametype, RawChannels, RawEquation, RawAssertion, RawScript}
use Rattle.theory_checking.specs.Names.{ConstructorName, EquationName, clause_names, declared_as, names_of, spellings, number_in}
use Rattle.theory_checking.specs.Resolving.{of_two, every}
use Rattle.theory_checking.specs.Sets.{behind_each, in_order, set_expression, clause_sets, nametypes_declared, clauses_declared, nametypes_in, nametypes_in_all, constructors_of, constructors_of_all, constructors_in, constructors_in_all, Members, no_members, has_members, types_with, members_with, datatype_of, datatypes_of, with_some, field_members_with, types_declared, with_nametype, with_constructors, with_members, members_above, all_members, nametype_members, constructor_members, types_of, nametype_sets, constructor_sets, channel_sets, IsSetOf, FitSets}
use Rattle.theory_checking.specs.Scripts.{IsScriptOf, equation_declared, assertion_declared}
use Rattle.theory_checking.specs.Faults.{NoneRefused}
use Rattle.theory_checking.specs.Rules.{all_declared, IsRedeclared, parameters_declared}
use Rattle.theory_checking.specs.Fitting.{Item, EquationItem, AssertionItem, one_assertion, item_declared, items, FitsItem, FitKinds}
use Rattle.theory_checking.specs.Checked.{IsCheckedTree}
use Rattle.theory_semantics.proofs.KindedSets.{same_expression, same_members, same_sets, elements_ok, next_set, all_sets}
use Rattle.theory_semantics.proofs.KindedSteps.{each_member}
use Rattle.theory_semantics.proofs.Misfits.{each_got, in_turn_length, begins, begins_has}
use Rattle.theory_checking.proofs.Resolving.{IsThere}
use Rattle.theory_checking.proofs.ScriptThere.{behind-append, behind_one_more, at_its_place, table_begins, with_more, members_one_more}
use Rattle.theory_checking.proofs.Meant.{number_within, constructors_counted, at_place}
use Rattle.theory_checking.proofs.Sizes.{sizes_of_constructors}
use Rattle.theory_checking.proofs.ConstructorRows.{datatypes_rise}

-- ---- kinds under other types that have the datatypes

each_left : {A : Type 0} (P : A → Type 0) (xs ys : List A) → Each P (xs ++ ys) → Each P xs
each_left P [] ys h = tt
each_left P (x ∷ xs) ys h = (h.0, each_left P xs ys h.1)

each_right : {A : Type 0} (P : A → Type 0) (xs ys : List A) → Each P (xs ++ ys) → Each P ys
each_right P [] ys h = h
each_right P (x ∷ xs) ys h = each_right P xs ys h.1

-- a nametype has the same kind in both, and a constructor the same kinds of fields
abbrev pub Agrees : Kinds → Kinds → ℕ → Type 0
Agrees a b n = (k : Kind) → slice_get a.nametypes n ≡ Some k → slice_get b.nametypes n ≡ Some k

abbrev pub AgreesOn : Kinds → Kinds → ℕ → Type 0
AgreesOn a b c = (ks : List Kind) → slice_get a.constructors c ≡ Some ks → slice_get b.constructors c ≡ Some ks

-- so it is with all that an expression uses
abbrev pub AgreeIn : Kinds → Kinds → List ℕ → List ℕ → Type 0
AgreeIn a b ns cs = Each (Agrees a b) ns × Each (AgreesOn a b) cs

agree_left : (a b : Kinds) (ms ns cs ds : List ℕ) → AgreeIn a b (ms ++ ns) (cs ++ ds) → AgreeIn a b ms cs
agree_left a b ms ns cs ds h = (each_left (Agrees a b) ms ns h.0, each_left (AgreesOn a b) cs ds h.1)

agree_right : (a b : Kinds) (ms ns cs ds : List ℕ) → AgreeIn a b (ms ++ ns) (cs ++ ds) → AgreeIn a b ns ds
agree_right a b ms ns cs ds h = (each_right (Agrees a b) ms ns h.0, each_right (AgreesOn a b) cs ds h.1)

module _ (t u : Types) (within : (d : ℕ) (cs : List ℕ) → slice_get t.datatypes d ≡ Some cs → slice_get u.datatypes d ≡ Some cs) (a b : Kinds) where
  constructor_moves : (d c : ℕ) → IsConstructorOf t d c → IsConstructorOf u d c
  constructor_moves d c is = (is.0, within d is.0 is.1, is.2)

  mutual
    pub value_moves : (v : Value) (k : Kind) → Each (AgreesOn a b) (constructors_of v) → IsValueOf t a v k → IsValueOf u b v k
    value_moves (Integer z) IntKind agree h = tt
    value_moves (Truth x) BoolKind agree h = tt
    value_moves (Constructor c vs) (DatatypeKind d) agree h = (constructor_moves d c h.0, (h.1.0, agree.0 h.1.0 h.1.1, turn_moves vs h.1.0 agree.1 h.1.2))
    value_moves (Sequence vs) (SequenceKind k) agree h = values_move vs k agree h
    value_moves (Set vs) (SetKind k) agree h = (values_move vs k agree h.0, h.1)
    value_moves _ _ agree h = absurd h

    pub values_move : (vs : Values) (k : Kind) → Each (AgreesOn a b) (constructors_of_all vs) → AreValuesOf t a vs k → AreValuesOf u b vs k
    values_move no_values k agree h = tt
    values_move (value_and v vs) k agree h =
        (value_moves v k (each_left (AgreesOn a b) (constructors_of v) (constructors_of_all vs) agree) h.0, values_move vs k (each_right (AgreesOn a b) (constructors_of v) (constructors_of_all vs) agree) h.1)

    turn_moves : (vs : Values) (ks : List Kind) → Each (AgreesOn a b) (constructors_of_all vs) → AreValuesInTurn t a vs ks → AreValuesInTurn u b vs ks
    turn_moves no_values [] agree h = tt
    turn_moves (value_and v vs) (k ∷ ks) agree h =
        (value_moves v k (each_left (AgreesOn a b) (constructors_of v) (constructors_of_all vs) agree) h.0, turn_moves vs ks (each_right (AgreesOn a b) (constructors_of v) (constructors_of_all vs) agree) h.1)
    turn_moves _ _ agree h = absurd h

  -- what two expressions use
  left_of : (e f : Expression) → AgreeIn a b (nametypes_in e ++ nametypes_in f) (constructors_in e ++ constructors_in f) → AgreeIn a b (nametypes_in e) (constructors_in e)
  left_of e f h = agree_left a b (nametypes_in e) (nametypes_in f) (constructors_in e) (constructors_in f) h

  right_of : (e f : Expression) → AgreeIn a b (nametypes_in e ++ nametypes_in f) (constructors_in e ++ constructors_in f) → AgreeIn a b (nametypes_in f) (constructors_in f)
  right_of e f h = agree_right a b (nametypes_in e) (nametypes_in f) (constructors_in e) (constructors_in f) h

  first_of : (e : Expression) (es : Expressions) → AgreeIn a b (nametypes_in e ++ nametypes_in_all es) (constructors_in e ++ constructors_in_all es) → AgreeIn a b (nametypes_in e) (constructors_in e)
  first_of e es h = agree_left a b (nametypes_in e) (nametypes_in_all es) (constructors_in e) (constructors_in_all es) h

  rest_of : (e : Expression) (es : Expressions) → AgreeIn a b (nametypes_in e ++ nametypes_in_all es) (constructors_in e ++ constructors_in_all es) → AgreeIn a b (nametypes_in_all es) (constructors_in_all es)
  rest_of e es h = agree_right a b (nametypes_in e) (nametypes_in_all es) (constructors_in e) (constructors_in_all es) h

  mutual
    pub expression_moves : (e : Expression) (k : Kind) → AgreeIn a b (nametypes_in e) (constructors_in e) → HasKind t a [] e k → HasKind u b [] e k
    expression_moves (Literal v) k agree h = value_moves v k agree.1 h
    expression_moves (Name n) k agree h = h
    expression_moves (Apply op e) k agree h = (h.0, h.1, expression_moves e h.0 agree h.2)
    expression_moves (Combine op e f) k agree h = (h.0, h.1, h.2, expression_moves e h.0 (left_of e f agree) h.3, expression_moves f h.1 (right_of e f agree) h.4)
    expression_moves (SequenceOf es) (SequenceKind k) agree h = expressions_move es k agree h
    expression_moves (SetOf es) (SetKind k) agree h = expressions_move es k agree h
    expression_moves (Range e f) (SetKind IntKind) agree h = (expression_moves e IntKind (left_of e f agree) h.0, expression_moves f IntKind (right_of e f agree) h.1)
    expression_moves Booleans (SetKind BoolKind) agree h = tt
    expression_moves (Datatype d) (SetKind (DatatypeKind c)) agree h = (h.0, (h.1.0, within d h.1.0 h.1.1))
    expression_moves (Nametype n) (SetKind k) agree h = agree.0.0 k h
    expression_moves (ConstructorOf c es) (DatatypeKind d) agree h = (constructor_moves d c h.0, (h.1.0, agree.1.0 h.1.0 h.1.1, given_move es h.1.0 (agree.0, agree.1.1) h.1.2))
    expression_moves _ _ agree h = absurd h

    pub expressions_move : (es : Expressions) (k : Kind) → AgreeIn a b (nametypes_in_all es) (constructors_in_all es) → AllHaveKind t a [] es k → AllHaveKind u b [] es k
    expressions_move no_expressions k agree h = tt
    expressions_move (expression_and e es) k agree h = (expression_moves e k (first_of e es agree) h.0, expressions_move es k (rest_of e es agree) h.1)

    given_move : (es : Expressions) (ks : List Kind) → AgreeIn a b (nametypes_in_all es) (constructors_in_all es) → HaveKinds t a [] es ks → HaveKinds u b [] es ks
    given_move no_expressions [] agree h = tt
    given_move (expression_and e es) (k ∷ ks) agree h = (expression_moves e k (first_of e es agree) h.0, given_move es ks (rest_of e es agree) h.1)
    given_move _ _ agree h = absurd h

-- ---- the members of a set

pub members_are : (dts : List (List ℕ)) (ms : Members) (e : Expression) (vs : List Value) → members_with dts ms e ≡ Some vs → elements (types_with dts ms) e ≡ Ok vs
members_are dts ms e vs is = go (has_members dts ms e) (elements (types_with dts ms) e) refl is
  where
    go : (b : Bool) (r : Result (List Value) Cause) → elements (types_with dts ms) e ≡ r → cond b (result_ok r) None ≡ Some vs → elements (types_with dts ms) e ≡ Ok vs
    go true (Ok xs) el i = let same : xs ≡ vs = cc i in el ∙ ap Ok same
    go true (Err c) el i = absurd (cc i)
    go false r el i = absurd (cc i)

abbrev pub lists_of : {A : Type 0} → List (Option (List A)) → List (List A)
lists_of ms = map (λ m. unwrap_or m []) ms

pub lists_of_some : {A : Type 0} (vss : List (List A)) → lists_of (map Some vss) ≡ vss
lists_of_some [] = refl
lists_of_some (vs ∷ vss) = ap (λ z. vs ∷ z) (lists_of_some vss)

-- ---- lists in step

turn_drop : {A B : Type 0} (R : A → B → Type 0) (xs ys : List A) (zs : List B) → InTurn R (xs ++ ys) zs → InTurn R ys (drop (length xs) zs)
turn_drop R [] ys zs h = h
turn_drop R (x ∷ xs) ys [] h = absurd h
turn_drop R (x ∷ xs) ys (z ∷ zs) h = turn_drop R xs ys zs h.1

turn_begins : {A B : Type 0} (R : A → B → Type 0) (xs ys : List A) (zs : List B) → InTurn R (xs ++ ys) zs → BeginsInTurn R xs zs
turn_begins R [] ys zs h = tt
turn_begins R (x ∷ xs) ys [] h = absurd h
turn_begins R (x ∷ xs) ys (z ∷ zs) h = (h.0, turn_begins R xs ys zs h.1)

begins_append : {A B : Type 0} (R : A → B → Type 0) (xs vs : List A) (ys : List B) → BeginsInTurn R xs ys → BeginsInTurn R vs (drop (length xs) ys) → BeginsInTurn R (xs ++ vs) ys
begins_append R [] vs ys h k = k
begins_append R (x ∷ xs) vs [] h k = absurd h
begins_append R (x ∷ xs) vs (y ∷ ys) h k = (h.0, begins_append R xs vs ys h.1 k)

begins_other : {A B : Type 0} (R S : A → B → Type 0) (xs : List A) (ys : List B) → ((x : A) (y : B) → R x y → S x y) → BeginsInTurn R xs ys → BeginsInTurn S xs ys
begins_other R S [] ys f h = tt
begins_other R S (x ∷ xs) [] f h = absurd h
begins_other R S (x ∷ xs) (y ∷ ys) f h = (f x y h.0, begins_other R S xs ys f h.1)

-- the first of lists that are there are there
pub there_front : {A : Type 0} (os ps : List (Option A)) (all : List A) → map Some all ≡ os ++ ps → (xs : List A) × (map Some xs ≡ os)
there_front [] ps all e = ([], refl)
there_front (o ∷ os) ps [] e = absurd (cc e)
there_front (o ∷ os) ps (x ∷ all) e =
    let head : Some x ≡ o = cc e in let tail : map Some all ≡ os ++ ps = cc e in
    let rest = there_front os ps all tail in (x ∷ rest.0, ap₂ ◌∷◌ head rest.1)

parts_there : {A B C : Type 0} (f : A → B → C) (o : Option A) (p : Option B) (z : C) → of_two f o p ≡ Some z → (x : A) × (y : B) × (o ≡ Some x) × (p ≡ Some y) × (f x y ≡ z)
parts_there f (Some x) (Some y) z e = (x, y, refl, refl, cc e)
parts_there f None p z e = absurd (cc e)
parts_there f (Some x) None z e = absurd (cc e)

some_member : (vs ws : List Value) → with_some vs ≡ Some ws → vs ≡ ws
some_member [] ws e = absurd (cc e)
some_member (v ∷ vs) ws e = cc e

-- ---- sets over some members, where kinds fit the sets

module _ (dts : List (List ℕ)) (types : Types) (same : types.datatypes ≡ dts) (kinds : Kinds) (ms : Members) (good : TypesHaveFirstKinds (types_with dts ms) kinds) where
  set_kinded : (e : Option Expression) (k : Kind) (vs : List Value) → IsSetOf types kinds e k → option_and_then (members_with dts ms) e ≡ Some vs → AreMembersOf (types_with dts ms) kinds vs k
  set_kinded None k vs fits is = absurd (cc is)
  set_kinded (Some e) k vs fits is =
      elements_ok (types_with dts ms) kinds good e k vs (same_expression types (types_with dts ms) kinds same [] e (SetKind k) fits) (members_are dts ms e vs is)

  field_kinded : (e : Option Expression) (k : Kind) (vs : List Value) → IsSetOf types kinds e k → field_members_with dts ms e ≡ Some vs → AreMembersOf (types_with dts ms) kinds vs k
  field_kinded e k vs fits is = go (option_and_then (members_with dts ms) e) refl is
    where
      go : (o : Option (List Value)) → option_and_then (members_with dts ms) e ≡ o → option_and_then with_some o ≡ Some vs → AreMembersOf (types_with dts ms) kinds vs k
      go None m i = absurd (cc i)
      go (Some ws) m i = let P : List Value → Type 0 = λ xs. AreMembersOf (types_with dts ms) kinds xs k in subst P (some_member ws vs i) (set_kinded e k ws fits m)

  fields_kinded : (es : List (Option Expression)) (ks : List Kind) (vss : List (List Value)) → InTurn (IsSetOf types kinds) es ks →
      every (field_members_with dts ms) es ≡ Some vss → SetsHaveTheirKinds (types_with dts ms) kinds vss ks
  fields_kinded [] [] vss fits is = let none : [] ≡ vss = cc is in let P : List (List Value) → Type 0 = λ z. SetsHaveTheirKinds (types_with dts ms) kinds z [] in subst P none tt
  fields_kinded [] (k ∷ ks) vss fits is = absurd fits
  fields_kinded (e ∷ es) [] vss fits is = absurd fits
  fields_kinded (e ∷ es) (k ∷ ks) vss fits is =
      let parts = parts_there ◌∷◌ (field_members_with dts ms e) (every (field_members_with dts ms) es) vss is in
      let P : List (List Value) → Type 0 = λ z. SetsHaveTheirKinds (types_with dts ms) kinds z (k ∷ ks) in
      subst P parts.4 (field_kinded e k parts.0 fits.0 parts.2, fields_kinded es ks parts.1 fits.1 parts.3)

  -- those of constructors, of which more may follow, and of channels
  clauses_kinded : (css : List (List (Option Expression))) (kss : List (List Kind)) (cs : List (List (List Value))) → BeginsInTurn (InTurn (IsSetOf types kinds)) css kss →
      map Some cs ≡ map (every (field_members_with dts ms)) css → BeginsInTurn (SetsHaveTheirKinds (types_with dts ms) kinds) cs kss
  clauses_kinded [] kss [] fits is = tt
  clauses_kinded [] kss (c ∷ cs) fits is = absurd (cc is)
  clauses_kinded (e ∷ css) [] cs fits is = absurd fits
  clauses_kinded (e ∷ css) (k ∷ kss) [] fits is = absurd (cc is)
  clauses_kinded (e ∷ css) (k ∷ kss) (c ∷ cs) fits is =
      let first : Some c ≡ every (field_members_with dts ms) e = cc is in let tail : map Some cs ≡ map (every (field_members_with dts ms)) css = cc is in
      (fields_kinded e k c fits.0 (sym first), clauses_kinded css kss cs fits.1 tail)

  pub channels_kinded : (css : List (List (Option Expression))) (kss : List (List Kind)) (cs : List (List (List Value))) → InTurn (InTurn (IsSetOf types kinds)) css kss →
      map Some cs ≡ map (every (field_members_with dts ms)) css → InTurn (SetsHaveTheirKinds (types_with dts ms) kinds) cs kss
  channels_kinded [] [] [] fits is = tt
  channels_kinded [] [] (c ∷ cs) fits is = absurd (cc is)
  channels_kinded [] (k ∷ kss) cs fits is = absurd fits
  channels_kinded (e ∷ css) [] cs fits is = absurd fits
  channels_kinded (e ∷ css) (k ∷ kss) [] fits is = absurd (cc is)
  channels_kinded (e ∷ css) (k ∷ kss) (c ∷ cs) fits is =
      let first : Some c ≡ every (field_members_with dts ms) e = cc is in let tail : map Some cs ≡ map (every (field_members_with dts ms)) css = cc is in
      (fields_kinded e k c fits.0 (sym first), channels_kinded css kss cs fits.1 tail)

  -- with the members of one more nametype
  nametype_more : (e : Option Expression) (k : Kind) (vs : List Value) → slice_get kinds.nametypes (length ms.nametypes) ≡ Some k → IsSetOf types kinds e k →
      option_and_then (members_with dts ms) e ≡ Some vs → TypesHaveFirstKinds (types_with dts (with_nametype (option_and_then (members_with dts ms) e) ms)) kinds
  nametype_more e k vs at fits is =
      let here : slice_get kinds.nametypes (length (lists_of ms.nametypes)) ≡ Some k = ap (slice_get kinds.nametypes) (length-map ms.nametypes (λ m. unwrap_or m [])) ∙ at in
      let P : List (List Value) → Type 0 = λ z. TypesHaveFirstKinds (record { datatypes = dts; nametypes = z; constructors = lists_of ms.constructors }) kinds in
      let Q : Option (List Value) → Type 0 = λ m. TypesHaveFirstKinds (types_with dts (with_nametype m ms)) kinds in
      subst Q (sym is) (subst P (sym (map-append (λ m. unwrap_or m []) ms.nametypes (Some vs ∷ []))) (next_set (types_with dts ms) kinds good vs k here (set_kinded e k vs fits is)))

  -- and of the fields of more constructors
  constructors_more : (css : List (List (Option Expression))) (cs : List (List (List Value))) → BeginsInTurn (InTurn (IsSetOf types kinds)) css (drop (length ms.constructors) kinds.constructors) →
      map Some cs ≡ map (every (field_members_with dts ms)) css → TypesHaveFirstKinds (types_with dts (with_constructors (map (every (field_members_with dts ms)) css) ms)) kinds
  constructors_more css cs fits is =
      let longer : Types = types_with dts (with_constructors (map (every (field_members_with dts ms)) css) ms) in
      let new : lists_of (ms.constructors ++ map (every (field_members_with dts ms)) css) ≡ lists_of ms.constructors ++ cs =
      map-append (λ m. unwrap_or m []) ms.constructors (map (every (field_members_with dts ms)) css) ∙ ap (λ z. lists_of ms.constructors ++ z) (ap lists_of (sym is) ∙ lists_of_some cs) in
      let size : length ms.constructors ≡ length (lists_of ms.constructors) = sym (length-map ms.constructors (λ m. unwrap_or m [])) in
      let D : ℕ → Type 0 = λ n. BeginsInTurn (SetsHaveTheirKinds (types_with dts ms) kinds) cs (drop n kinds.constructors) in
      let L : List (List (List Value)) → Type 0 = λ z. BeginsInTurn (SetsHaveTheirKinds longer kinds) z kinds.constructors in
      record {
        nametypes = begins_other (AreMembersOf (types_with dts ms) kinds) (AreMembersOf longer kinds) (lists_of ms.nametypes) kinds.nametypes
            (λ vs k h. same_members (types_with dts ms) longer kinds refl vs k h) good.nametypes;
        constructors = subst L (sym new) (begins_other (SetsHaveTheirKinds (types_with dts ms) kinds) (SetsHaveTheirKinds longer kinds) (lists_of ms.constructors ++ cs) kinds.constructors
            (λ vss ks h. same_sets (types_with dts ms) longer kinds refl vss ks h)
            (begins_append (SetsHaveTheirKinds (types_with dts ms) kinds) (lists_of ms.constructors) cs kinds.constructors good.constructors
            (subst D size (clauses_kinded css (drop (length ms.constructors) kinds.constructors) cs fits is))));
        datatypes = good.datatypes;
      }

-- ---- as many members as sets

pub record AreCountedFor (ms : Members) (above : RawScript) : Type 0 where
  pub nametypes : length ms.nametypes ≡ length (nametype_sets above)
  pub constructors : length ms.constructors ≡ length (constructor_sets above)

longer_by : {A B : Type 0} (xs : List A) (ys : List B) (vs : List A) (ws : List B) → length xs ≡ length ys → length vs ≡ length ws → length (xs ++ vs) ≡ length (ys ++ ws)
longer_by xs ys vs ws e f = length-append xs vs ∙ ap₂ ◌+◌ e f ∙ sym (length-append ys ws)

none_longer : {A B : Type 0} (xs : List A) (ys : List B) → length xs ≡ length ys → length xs ≡ length (ys ++ [])
none_longer xs ys e = e ∙ sym (ap length (append-nil ys))

one_counted : (raw above : RawScript) (d : RawDeclaration) (ms : Members) → AreCountedFor ms above → AreCountedFor (with_members (datatypes_of raw) ms (types_declared above d)) (above ++ d ∷ [])
one_counted raw above d ms counted =
    let N : List (Option Expression) → Type 0 = λ z. length (with_members (datatypes_of raw) ms (types_declared above d)).nametypes ≡ length z in
    let C : List (List (Option Expression)) → Type 0 = λ z. length (with_members (datatypes_of raw) ms (types_declared above d)).constructors ≡ length z in
    record { nametypes = subst N (sym (behind_one_more nametypes_declared above d)) (names d); constructors = subst C (sym (behind_one_more clauses_declared above d)) (fields d) }
  where
    names : (x : RawDeclaration) → length (with_members (datatypes_of raw) ms (types_declared above x)).nametypes ≡ length (nametype_sets above ++ nametypes_declared above x)
    names (RawNametype name domain) = longer_by ms.nametypes (nametype_sets above) (option_and_then (members_with (datatypes_of raw) ms) (set_expression above domain) ∷ []) (set_expression above domain ∷ []) counted.nametypes refl
    names (RawDatatype name cs) = none_longer ms.nametypes (nametype_sets above) counted.nametypes
    names (RawChannels ns domains) = none_longer ms.nametypes (nametype_sets above) counted.nametypes
    names (RawEquation name ns p) = none_longer ms.nametypes (nametype_sets above) counted.nametypes
    names (RawAssertion place n a p) = none_longer ms.nametypes (nametype_sets above) counted.nametypes

    fields : (x : RawDeclaration) → length (with_members (datatypes_of raw) ms (types_declared above x)).constructors ≡ length (constructor_sets above ++ clauses_declared above x)
    fields (RawNametype name domain) = none_longer ms.constructors (constructor_sets above) counted.constructors
    fields (RawDatatype name cs) =
        longer_by ms.constructors (constructor_sets above) (map (every (field_members_with (datatypes_of raw) ms)) (map (clause_sets above) cs)) (map (clause_sets above) cs) counted.constructors
        (length-map (map (clause_sets above) cs) (every (field_members_with (datatypes_of raw) ms)))
    fields (RawChannels ns domains) = none_longer ms.constructors (constructor_sets above) counted.constructors
    fields (RawEquation name ns p) = none_longer ms.constructors (constructor_sets above) counted.constructors
    fields (RawAssertion place n a p) = none_longer ms.constructors (constructor_sets above) counted.constructors

pub all_counted : (raw above ds : RawScript) → AreCountedFor (members_above raw above) above → AreCountedFor (members_above raw (above ++ ds)) (above ++ ds)
all_counted raw above [] counted = let P : RawScript → Type 0 = λ z. AreCountedFor (members_above raw z) z in subst P (sym (append-nil above)) counted
all_counted raw above (d ∷ ds) counted =
    let P : RawScript → Type 0 = λ z. AreCountedFor (members_above raw z) z in
    let Q : Members → Type 0 = λ ms. AreCountedFor ms (above ++ d ∷ []) in
    subst P (append_assoc above (d ∷ []) ds) (all_counted raw (above ++ d ∷ []) ds (subst Q (sym (members_one_more raw above d)) (one_counted raw above d (members_above raw above) counted)))

pub members_counted : (raw above : RawScript) → AreCountedFor (members_above raw above) above
members_counted raw above = all_counted raw [] above (record { nametypes = refl; constructors = refl })

-- what is in a list whose members are all there is there, at its end
last_there : {A : Type 0} (os : List (Option A)) (o : Option A) (all : List A) → map Some all ≡ os ++ o ∷ [] → IsThere o
last_there [] o [] e = absurd (cc e)
last_there [] o (x ∷ all) e = let same : Some x ≡ o = cc e in (x, sym same)
last_there (q ∷ os) o [] e = absurd (cc e)
last_there (q ∷ os) o (x ∷ all) e = let tail : map Some all ≡ os ++ o ∷ [] = cc e in last_there os o all tail

there_back : {A : Type 0} (os ps : List (Option A)) (all : List A) → map Some all ≡ os ++ ps → (xs : List A) × (map Some xs ≡ ps)
there_back [] ps all e = (all, e)
there_back (o ∷ os) ps [] e = absurd (cc e)
there_back (o ∷ os) ps (x ∷ all) e = let tail : map Some all ≡ os ++ ps = cc e in there_back os ps all tail

-- the table of a tree, by one of its declarations and those behind it
whole_table : (raw above : RawScript) (d : RawDeclaration) (ds : RawScript) → raw ≡ above ++ d ∷ ds →
    all_members raw ≡ with_members (datatypes_of raw) (with_members (datatypes_of raw) (members_above raw above) (types_declared above d)) (behind_each types_declared (above ++ d ∷ []) ds)
whole_table raw above d ds stands =
    ap (λ z. with_members (datatypes_of raw) no_members (in_order types_declared z)) stands
    ∙ ap (with_members (datatypes_of raw) no_members) (behind-append types_declared [] above (d ∷ ds))
    ∙ with_more (datatypes_of raw) no_members (in_order types_declared above) (types_declared above d ++ behind_each types_declared (above ++ d ∷ []) ds)
    ∙ with_more (datatypes_of raw) (members_above raw above) (types_declared above d) (behind_each types_declared (above ++ d ∷ []) ds)

-- ---- the constructors of datatypes have their fields

within_numbers : (names : List (List ℕ)) (ss : List (List ℕ)) → Each (λ k. k < length names) (filter_map (number_in names) ss)
within_numbers names [] = tt
within_numbers names (s ∷ ss) = go (number_in names s) refl (within_numbers names ss)
  where
    P : ℕ → Type 0
    P k = k < length names

    go : (o : Option ℕ) → number_in names s ≡ o → Each (λ k. k < length names) (filter_map (number_in names) ss) → Each (λ k. k < length names) (filter_map (number_in names) (s ∷ ss))
    go None e rest = rw e rest
    go (Some k) e rest = rw e (number_within names s k e, rest)

within_datatypes : (raw ds : RawScript) → Each (Each (λ k. k < length (names_of ConstructorName raw))) (flat_map (datatype_of raw) ds)
within_datatypes raw [] = tt
within_datatypes raw (RawDatatype name cs ∷ ds) = (within_numbers (names_of ConstructorName raw) (spellings (clause_names cs)), within_datatypes raw ds)
within_datatypes raw (RawNametype name domain ∷ ds) = within_datatypes raw ds
within_datatypes raw (RawChannels ns domains ∷ ds) = within_datatypes raw ds
within_datatypes raw (RawEquation name ns p ∷ ds) = within_datatypes raw ds
within_datatypes raw (RawAssertion place n a p ∷ ds) = within_datatypes raw ds

pub constructors_have_fields : (raw : RawScript) → HaveFieldSets (types_of raw)
constructors_have_fields raw d c is =
    let all = each_got (Each (λ k. k < length (names_of ConstructorName raw))) (datatypes_of raw) d is.0 (within_datatypes raw raw) is.1 in
    let small : c < length (names_of ConstructorName raw) = each_member (λ k. k < length (names_of ConstructorName raw)) is.0 c all is.2 in
    let size : length (types_of raw).constructors ≡ length (names_of ConstructorName raw) =
    length-map (constructor_members raw) (λ m. unwrap_or m []) ∙ (members_counted raw raw).constructors ∙ sym (length-map (constructor_sets raw) length) ∙ ap length (sizes_of_constructors raw) ∙ constructors_counted raw in
    at_place (types_of raw).constructors c (subst (λ n. c < n) (sym size) small)

-- ---- the types of a tree

module _ (raw : RawScript) (kinds : Kinds) (fit : FitSets (types_of raw) raw kinds) (names : List (List Value)) (fields : List (List (List Value)))
    (are_names : map Some names ≡ nametype_members raw) (are_fields : map Some fields ≡ constructor_members raw) (rise : DatatypesRise (types_of raw)) where
  -- kinds fit the sets of a declaration of the tree, behind those above it
  name_fits : (above : RawScript) (e : Option Expression) (rest : List (Option Expression)) → nametype_sets raw ≡ nametype_sets above ++ e ∷ rest →
      (k : Kind) × (slice_get kinds.nametypes (length (nametype_sets above)) ≡ Some k) × IsSetOf (types_of raw) kinds e k
  name_fits above e rest is =
      begins_has (IsSetOf (types_of raw) kinds) (nametype_sets raw) kinds.nametypes (length (nametype_sets above)) e (begins (IsSetOf (types_of raw) kinds) (nametype_sets raw) kinds.nametypes fit.nametypes)
      (ap (λ z. slice_get z (length (nametype_sets above))) is ∙ at_its_place (nametype_sets above) rest e)

  clauses_fit : (above : RawScript) (css rest : List (List (Option Expression))) → constructor_sets raw ≡ constructor_sets above ++ (css ++ rest) →
      BeginsInTurn (InTurn (IsSetOf (types_of raw) kinds)) css (drop (length (constructor_sets above)) kinds.constructors)
  clauses_fit above css rest is =
      let P : List (List (Option Expression)) → Type 0 = λ z. InTurn (InTurn (IsSetOf (types_of raw) kinds)) z kinds.constructors in
      turn_begins (InTurn (IsSetOf (types_of raw) kinds)) css rest (drop (length (constructor_sets above)) kinds.constructors)
      (turn_drop (InTurn (IsSetOf (types_of raw) kinds)) (constructor_sets above) (css ++ rest) kinds.constructors (subst P is fit.constructors))

  -- one declaration more
  one_kinded : (above : RawScript) (d : RawDeclaration) (ds : RawScript) → raw ≡ above ++ d ∷ ds → TypesHaveFirstKinds (types_with (datatypes_of raw) (members_above raw above)) kinds →
      TypesHaveFirstKinds (types_with (datatypes_of raw) (with_members (datatypes_of raw) (members_above raw above) (types_declared above d))) kinds
  one_kinded above (RawNametype name domain) ds stands good =
      let ms = members_above raw above in
      let e = set_expression above domain in
      let m = option_and_then (members_with (datatypes_of raw) ms) e in
      let in_sets : nametype_sets raw ≡ nametype_sets above ++ e ∷ behind_each nametypes_declared (above ++ RawNametype name domain ∷ []) ds =
      ap nametype_sets stands ∙ behind-append nametypes_declared [] above (RawNametype name domain ∷ ds) in
      let table : all_members raw ≡ with_members (datatypes_of raw) (with_nametype m ms) (behind_each types_declared (above ++ RawNametype name domain ∷ []) ds) = whole_table raw above (RawNametype name domain) ds stands in
      let begins_so = table_begins (datatypes_of raw) (with_nametype m ms) (behind_each types_declared (above ++ RawNametype name domain ∷ []) ds) in
      let there = there_front (ms.nametypes ++ m ∷ []) begins_so.0.nametypes names (are_names ∙ ap (λ z. z.nametypes) (table ∙ begins_so.1)) in
      let last = last_there ms.nametypes m there.0 there.1 in
      let fits = name_fits above e (behind_each nametypes_declared (above ++ RawNametype name domain ∷ []) ds) in_sets in
      nametype_more (datatypes_of raw) (types_of raw) refl kinds ms good e fits.0 last.0 (ap (slice_get kinds.nametypes) (members_counted raw above).nametypes ∙ fits.1) fits.2 last.1
  one_kinded above (RawDatatype name cs) ds stands good =
      let ms = members_above raw above in
      let css = map (clause_sets above) cs in
      let new = map (every (field_members_with (datatypes_of raw) ms)) css in
      let in_sets : constructor_sets raw ≡ constructor_sets above ++ (css ++ behind_each clauses_declared (above ++ RawDatatype name cs ∷ []) ds) =
      ap constructor_sets stands ∙ behind-append clauses_declared [] above (RawDatatype name cs ∷ ds) in
      let table : all_members raw ≡ with_members (datatypes_of raw) (with_constructors new ms) (behind_each types_declared (above ++ RawDatatype name cs ∷ []) ds) = whole_table raw above (RawDatatype name cs) ds stands in
      let begins_so = table_begins (datatypes_of raw) (with_constructors new ms) (behind_each types_declared (above ++ RawDatatype name cs ∷ []) ds) in
      let there = there_front (ms.constructors ++ new) begins_so.0.constructors fields (are_fields ∙ ap (λ z. z.constructors) (table ∙ begins_so.1)) in
      let back = there_back ms.constructors new there.0 there.1 in
      let P : ℕ → Type 0 = λ n. BeginsInTurn (InTurn (IsSetOf (types_of raw) kinds)) css (drop n kinds.constructors) in
      constructors_more (datatypes_of raw) (types_of raw) refl kinds ms good css back.0
      (subst P (sym (members_counted raw above).constructors) (clauses_fit above css (behind_each clauses_declared (above ++ RawDatatype name cs ∷ []) ds) in_sets)) back.1
  one_kinded above (RawChannels ns domains) ds stands good = good
  one_kinded above (RawEquation name ns p) ds stands good = good
  one_kinded above (RawAssertion place n a p) ds stands good = good

  first_kinded : (above ds : RawScript) → raw ≡ above ++ ds → TypesHaveFirstKinds (types_with (datatypes_of raw) (members_above raw above)) kinds →
      TypesHaveFirstKinds (types_with (datatypes_of raw) (members_above raw (above ++ ds))) kinds
  first_kinded above [] stands good =
      let P : RawScript → Type 0 = λ z. TypesHaveFirstKinds (types_with (datatypes_of raw) (members_above raw z)) kinds in subst P (sym (append-nil above)) good
  first_kinded above (d ∷ ds) stands good =
      let P : RawScript → Type 0 = λ z. TypesHaveFirstKinds (types_with (datatypes_of raw) (members_above raw z)) kinds in
      let Q : Members → Type 0 = λ ms. TypesHaveFirstKinds (types_with (datatypes_of raw) ms) kinds in
      subst P (append_assoc above (d ∷ []) ds)
      (first_kinded (above ++ d ∷ []) ds (stands ∙ sym (append_assoc above (d ∷ []) ds)) (subst Q (sym (members_one_more raw above d)) (one_kinded above d ds stands good)))

  pub types_kinded : TypesHaveKinds (types_of raw) kinds
  types_kinded =
      let good : TypesHaveFirstKinds (types_of raw) kinds = first_kinded [] raw refl (record { nametypes = tt; constructors = tt; datatypes = rise }) in
      let counted = members_counted raw raw in
      all_sets (types_of raw) kinds good (
        length-map (nametype_members raw) (λ m. unwrap_or m []) ∙ counted.nametypes ∙ in_turn_length (IsSetOf (types_of raw) kinds) (nametype_sets raw) kinds.nametypes fit.nametypes,
        length-map (constructor_members raw) (λ m. unwrap_or m []) ∙ counted.constructors ∙ in_turn_length (InTurn (IsSetOf (types_of raw) kinds)) (constructor_sets raw) kinds.constructors fit.constructors,
      )
      (constructors_have_fields raw)

-- ---- equations and assertions

abbrev equations_in : RawScript → ℕ
equations_in ds = length (names_of EquationName ds)

abbrev assertions_in : RawScript → ℕ
assertions_in ds = length (flat_map one_assertion ds)

equations_more : (above : RawScript) (d : RawDeclaration) → equations_in (above ++ d ∷ []) ≡ equations_in above + equations_in (d ∷ [])
equations_more above d =
    ap length (ap (map (λ n. n.spelling)) (flat_map-append (declared_as EquationName) above (d ∷ []))
    ∙ map-append (λ n. n.spelling) (flat_map (declared_as EquationName) above) (flat_map (declared_as EquationName) (d ∷ [])))
    ∙ length-append (names_of EquationName above) (names_of EquationName (d ∷ []))

assertions_more : (above : RawScript) (d : RawDeclaration) → assertions_in (above ++ d ∷ []) ≡ assertions_in above + assertions_in (d ∷ [])
assertions_more above d = ap length (flat_map-append one_assertion above (d ∷ [])) ∙ length-append (flat_map one_assertion above) (flat_map one_assertion (d ∷ []))

equation_item : (F : Item → Type 0) (above ds : RawScript) → Each F (behind_each item_declared above ds) → (j : ℕ) → j < equations_in ds → (p : Place) × F (EquationItem p (equations_in above + j))
equation_item F above [] each j h = absurd (omega arith)
equation_item F above (RawEquation name ns p ∷ ds) each zero h =
    let e : equations_in above ≡ equations_in above + 0 = omega arith in let P : ℕ → Type 0 = λ n. F (EquationItem name.place n) in (name.place, subst P e each.0)
equation_item F above (RawEquation name ns p ∷ ds) each (suc j) h =
    let rest = equation_item F (above ++ RawEquation name ns p ∷ []) ds each.1 j (omega arith) in
    let more : equations_in (above ++ RawEquation name ns p ∷ []) ≡ equations_in above + 1 = equations_more above (RawEquation name ns p) in
    let e : equations_in (above ++ RawEquation name ns p ∷ []) + j ≡ equations_in above + suc j = omega arith in
    let P : ℕ → Type 0 = λ n. F (EquationItem rest.0 n) in (rest.0, subst P e rest.1)
equation_item F above (RawAssertion place n a p ∷ ds) each j h =
    let rest = equation_item F (above ++ RawAssertion place n a p ∷ []) ds each.1 j h in
    let more : equations_in (above ++ RawAssertion place n a p ∷ []) ≡ equations_in above + 0 = equations_more above (RawAssertion place n a p) in
    let e : equations_in (above ++ RawAssertion place n a p ∷ []) + j ≡ equations_in above + j = omega arith in
    let P : ℕ → Type 0 = λ n. F (EquationItem rest.0 n) in (rest.0, subst P e rest.1)
equation_item F above (RawDatatype name cs ∷ ds) each j h =
    let rest = equation_item F (above ++ RawDatatype name cs ∷ []) ds each j h in
    let more : equations_in (above ++ RawDatatype name cs ∷ []) ≡ equations_in above + 0 = equations_more above (RawDatatype name cs) in
    let e : equations_in (above ++ RawDatatype name cs ∷ []) + j ≡ equations_in above + j = omega arith in
    let P : ℕ → Type 0 = λ n. F (EquationItem rest.0 n) in (rest.0, subst P e rest.1)
equation_item F above (RawNametype name domain ∷ ds) each j h =
    let rest = equation_item F (above ++ RawNametype name domain ∷ []) ds each j h in
    let more : equations_in (above ++ RawNametype name domain ∷ []) ≡ equations_in above + 0 = equations_more above (RawNametype name domain) in
    let e : equations_in (above ++ RawNametype name domain ∷ []) + j ≡ equations_in above + j = omega arith in
    let P : ℕ → Type 0 = λ n. F (EquationItem rest.0 n) in (rest.0, subst P e rest.1)
equation_item F above (RawChannels names domains ∷ ds) each j h =
    let rest = equation_item F (above ++ RawChannels names domains ∷ []) ds each j h in
    let more : equations_in (above ++ RawChannels names domains ∷ []) ≡ equations_in above + 0 = equations_more above (RawChannels names domains) in
    let e : equations_in (above ++ RawChannels names domains ∷ []) + j ≡ equations_in above + j = omega arith in
    let P : ℕ → Type 0 = λ n. F (EquationItem rest.0 n) in (rest.0, subst P e rest.1)

assertion_item : (F : Item → Type 0) (above ds : RawScript) → Each F (behind_each item_declared above ds) → (j : ℕ) → j < assertions_in ds → (p : Place) × F (AssertionItem p (assertions_in above + j))
assertion_item F above [] each j h = absurd (omega arith)
assertion_item F above (RawAssertion place n a p ∷ ds) each zero h =
    let e : assertions_in above ≡ assertions_in above + 0 = omega arith in let P : ℕ → Type 0 = λ n. F (AssertionItem place n) in (place, subst P e each.0)
assertion_item F above (RawAssertion place n a p ∷ ds) each (suc j) h =
    let rest = assertion_item F (above ++ RawAssertion place n a p ∷ []) ds each.1 j (omega arith) in
    let more : assertions_in (above ++ RawAssertion place n a p ∷ []) ≡ assertions_in above + 1 = assertions_more above (RawAssertion place n a p) in
    let e : assertions_in (above ++ RawAssertion place n a p ∷ []) + j ≡ assertions_in above + suc j = omega arith in
    let P : ℕ → Type 0 = λ n. F (AssertionItem rest.0 n) in (rest.0, subst P e rest.1)
assertion_item F above (RawEquation name ns p ∷ ds) each j h =
    let rest = assertion_item F (above ++ RawEquation name ns p ∷ []) ds each.1 j h in
    let more : assertions_in (above ++ RawEquation name ns p ∷ []) ≡ assertions_in above + 0 = assertions_more above (RawEquation name ns p) in
    let e : assertions_in (above ++ RawEquation name ns p ∷ []) + j ≡ assertions_in above + j = omega arith in
    let P : ℕ → Type 0 = λ n. F (AssertionItem rest.0 n) in (rest.0, subst P e rest.1)
assertion_item F above (RawDatatype name cs ∷ ds) each j h =
    let rest = assertion_item F (above ++ RawDatatype name cs ∷ []) ds each j h in
    let more : assertions_in (above ++ RawDatatype name cs ∷ []) ≡ assertions_in above + 0 = assertions_more above (RawDatatype name cs) in
    let e : assertions_in (above ++ RawDatatype name cs ∷ []) + j ≡ assertions_in above + j = omega arith in
    let P : ℕ → Type 0 = λ n. F (AssertionItem rest.0 n) in (rest.0, subst P e rest.1)
assertion_item F above (RawNametype name domain ∷ ds) each j h =
    let rest = assertion_item F (above ++ RawNametype name domain ∷ []) ds each j h in
    let more : assertions_in (above ++ RawNametype name domain ∷ []) ≡ assertions_in above + 0 = assertions_more above (RawNametype name domain) in
    let e : assertions_in (above ++ RawNametype name domain ∷ []) + j ≡ assertions_in above + j = omega arith in
    let P : ℕ → Type 0 = λ n. F (AssertionItem rest.0 n) in (rest.0, subst P e rest.1)
assertion_item F above (RawChannels names domains ∷ ds) each j h =
    let rest = assertion_item F (above ++ RawChannels names domains ∷ []) ds each j h in
    let more : assertions_in (above ++ RawChannels names domains ∷ []) ≡ assertions_in above + 0 = assertions_more above (RawChannels names domains) in
    let e : assertions_in (above ++ RawChannels names domains ∷ []) + j ≡ assertions_in above + j = omega arith in
    let P : ℕ → Type 0 = λ n. F (AssertionItem rest.0 n) in (rest.0, subst P e rest.1)

-- how many there are
many_equations : (raw ds : RawScript) → length (flat_map (equation_declared raw) ds) ≡ equations_in ds
many_equations raw [] = refl
many_equations raw (RawEquation name ns p ∷ ds) = ap suc (many_equations raw ds)
many_equations raw (RawDatatype name cs ∷ ds) = many_equations raw ds
many_equations raw (RawNametype name domain ∷ ds) = many_equations raw ds
many_equations raw (RawChannels names domains ∷ ds) = many_equations raw ds
many_equations raw (RawAssertion place n a p ∷ ds) = many_equations raw ds

many_parameters : (ds : RawScript) → length (flat_map parameters_declared ds) ≡ equations_in ds
many_parameters [] = refl
many_parameters (RawEquation name ns p ∷ ds) = ap suc (many_parameters ds)
many_parameters (RawDatatype name cs ∷ ds) = many_parameters ds
many_parameters (RawNametype name domain ∷ ds) = many_parameters ds
many_parameters (RawChannels names domains ∷ ds) = many_parameters ds
many_parameters (RawAssertion place n a p ∷ ds) = many_parameters ds

many_assertions : (raw ds : RawScript) → length (flat_map (assertion_declared raw) ds) ≡ assertions_in ds
many_assertions raw [] = refl
many_assertions raw (RawAssertion place n a p ∷ ds) = ap suc (many_assertions raw ds)
many_assertions raw (RawDatatype name cs ∷ ds) = many_assertions raw ds
many_assertions raw (RawNametype name domain ∷ ds) = many_assertions raw ds
many_assertions raw (RawChannels names domains ∷ ds) = many_assertions raw ds
many_assertions raw (RawEquation name ns p ∷ ds) = many_assertions raw ds

in_turn_at : {A B : Type 0} (R : A → B → Type 0) (xs : List A) (ys : List B) → length xs ≡ length ys →
    ((n : ℕ) (x : A) (y : B) → slice_get xs n ≡ Some x → slice_get ys n ≡ Some y → R x y) → InTurn R xs ys
in_turn_at R [] [] size at = tt
in_turn_at R (x ∷ xs) (y ∷ ys) size at = (at 0 x y refl refl, in_turn_at R xs ys (omega arith) (λ n v w e f. at (suc n) v w e f))
in_turn_at R [] (y ∷ ys) size at = absurd (cc size)
in_turn_at R (x ∷ xs) [] size at = absurd (cc size)

each_at : {A : Type 0} (P : A → Type 0) (xs : List A) → ((n : ℕ) (x : A) → slice_get xs n ≡ Some x → P x) → Each P xs
each_at P [] at = tt
each_at P (x ∷ xs) at = (at 0 x refl, each_at P xs (λ n v e. at (suc n) v e))

module _ (raw : RawScript) (s : Script) (once : NoneRefused IsRedeclared (all_declared raw)) (is : IsScriptOf raw s) (kinds : Kinds) (fit : FitKinds raw s kinds (items raw)) where
  size_of_equations : length s.equations ≡ equations_in raw
  size_of_equations = sym (length-map s.equations Some) ∙ ap length is.equations ∙ many_equations raw raw

  size_of_parameters : length kinds.parameters ≡ equations_in raw
  size_of_parameters = sym (length-map kinds.parameters length) ∙ ap length fit.parameters ∙ many_parameters raw

  size_of_assertions : length s.assertions ≡ assertions_in raw
  size_of_assertions = sym (length-map s.assertions Some) ∙ ap length is.assertions ∙ many_assertions raw raw

  equations_kinded : InTurn (IsWellKindedEquation s kinds) s.equations kinds.parameters
  equations_kinded = in_turn_at (IsWellKindedEquation s kinds) s.equations kinds.parameters (size_of_equations ∙ sym size_of_parameters) at
    where
      at : (n : ℕ) (q : Equation) (ks : List Kind) → slice_get s.equations n ≡ Some q → slice_get kinds.parameters n ≡ Some ks → IsWellKindedEquation s kinds q ks
      at n q ks e f =
          let within : n < length s.equations = slice_get_within s.equations n q e in
          let item = equation_item (FitsItem s kinds) [] raw fit.each n (omega (arith, within, size_of_equations)) in
          let z : 0 + n ≡ n = omega arith in
          let P : ℕ → Type 0 = λ m. FitsItem s kinds (EquationItem item.0 m) in
          let h : FitsItem s kinds (EquationItem item.0 n) = subst P z item.1 in
          let same : h.0 ≡ q = (let both : Some h.0 ≡ Some q = sym h.2 ∙ e in cc both) in
          let those : h.1 ≡ ks = (let both : Some h.1 ≡ Some ks = sym h.3 ∙ f in cc both) in
          let Q : Equation → Type 0 = λ x. IsWellKindedEquation s kinds x h.1 in
          let R : List Kind → Type 0 = λ x. IsWellKindedEquation s kinds q x in
          subst R those (subst Q same h.4)

  assertions_kinded : Each (IsWellKindedAssertion s kinds) s.assertions
  assertions_kinded = each_at (IsWellKindedAssertion s kinds) s.assertions at
    where
      at : (n : ℕ) (a : Assertion) → slice_get s.assertions n ≡ Some a → IsWellKindedAssertion s kinds a
      at n a e =
          let within : n < length s.assertions = slice_get_within s.assertions n a e in
          let item = assertion_item (FitsItem s kinds) [] raw fit.each n (omega (arith, within, size_of_assertions)) in
          let z : 0 + n ≡ n = omega arith in
          let P : ℕ → Type 0 = λ m. FitsItem s kinds (AssertionItem item.0 m) in
          let h : FitsItem s kinds (AssertionItem item.0 n) = subst P z item.1 in
          let same : h.0 ≡ a = (let both : Some h.0 ≡ Some a = sym h.1 ∙ e in cc both) in
          let Q : Assertion → Type 0 = IsWellKindedAssertion s kinds in
          subst Q same h.2

  types_are : types_of raw ≡ s.types
  types_are =
      let ns : lists_of (nametype_members raw) ≡ s.types.nametypes = ap lists_of (sym is.nametypes) ∙ lists_of_some s.types.nametypes in
      let cs : lists_of (constructor_members raw) ≡ s.types.constructors = ap lists_of (sym is.constructors) ∙ lists_of_some s.types.constructors in
      λ i. record { datatypes = sym is.datatypes i; nametypes = ns i; constructors = cs i }

  types_at_all : TypesHaveKinds (types_of raw) kinds
  types_at_all = types_kinded raw kinds fit.sets s.types.nametypes s.types.constructors is.nametypes is.constructors (datatypes_rise raw once)

  sets_kinded : SetsHaveKinds s kinds
  sets_kinded =
      let P : Types → Type 0 = λ t. TypesHaveKinds t kinds in
      let Q : Types → Type 0 = λ t. InTurn (SetsHaveTheirKinds t kinds) s.channels kinds.channels in
      let first : TypesHaveFirstKinds (types_of raw) kinds = record {
        nametypes = begins (AreMembersOf (types_of raw) kinds) (types_of raw).nametypes kinds.nametypes types_at_all.nametypes;
        constructors = begins (SetsHaveTheirKinds (types_of raw) kinds) (types_of raw).constructors kinds.constructors types_at_all.constructors;
        datatypes = types_at_all.datatypes;
      } in
      record {
        types = subst P types_are types_at_all;
        channels = subst Q types_are (channels_kinded (datatypes_of raw) (types_of raw) refl kinds (all_members raw) first (channel_sets raw) kinds.channels s.channels fit.sets.channels is.channels);
      }

  pub well_kinded : IsWellKindedScript s kinds
  well_kinded = record { sets = sets_kinded; equations = equations_kinded; assertions = assertions_kinded }

pub checked_script : (raw : RawScript) (s : Script) → IsCheckedTree raw s → IsCheckedScript s
checked_script raw s checked = (checked.kinds, well_kinded raw s checked.names.once checked.script_of checked.kinds checked.fit)
