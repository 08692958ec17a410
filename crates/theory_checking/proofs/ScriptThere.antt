-- A tree of which the first two passes refuse nothing has its script.
use Rattle.std.specs.Prelude.{flat_map, replicate, slice_get, option_and_then}
use Rattle.std.specs.Str.{encode_utf8_all}
use Rattle.std.proofs.Common.{◌≡◌, ℕ, List, [], ◌∷◌, ◌++◌, append-nil, length, map, Option, Some, None, refl, sym, ap, ◌∙◌, subst}
use Rattle.std.proofs.lemmas.List.{append_assoc, map-append}
use Rattle.theory_syntax.specs.Value.{Value}
use Rattle.theory_syntax.specs.Expression.{Expression}
use Rattle.theory_syntax.specs.Process.{Script, ByTau}
use Rattle.theory_syntax.specs.Types.{Types}
use Rattle.theory_text.specs.Place.{Place}
use Rattle.theory_text.specs.Raw.{RawName, RawDomain, RawClause, RawDeclaration, RawDatatype, RawNametype, RawChannels, RawEquation, RawAssertion, RawScript}
use Rattle.theory_checking.specs.Names.{bound_in_property, ConstructorName, ChannelName, names_of, bound_in_declaration, bound_in, bound_spellings, environment_of, environment_above}
use Rattle.theory_checking.specs.Resolving.{every, equation_of, assertion_of}
use Rattle.theory_checking.specs.Sets.{behind_each, types_of, in_order, set_expression, clause_sets, channels_declared, channel_sets, datatypes_of, Members, no_members, members_with, field_members_with, TypeItem, NametypeItem, DatatypeItem, types_declared, with_nametype, with_constructors, with_members, members_above, field_members}
use Rattle.theory_checking.specs.Scripts.{equation_declared, assertion_declared, IsScriptOf}
use Rattle.theory_checking.specs.Sites.{NametypeSet, FieldSet, in_expression, in_heads, in_field_sets, with_clause, in_clause_sets, in_clauses, in_declaration, sites}
use Rattle.theory_checking.specs.Faults.{KindFault, WrongKind, BadFieldSet}
use Rattle.theory_checking.specs.Rules.{IsRefusedSite, nametype_kind, field_kind, no_value, no_member}
use Rattle.theory_checking.specs.Refusals.{IsRefusedAt, PassesNames}
use Rattle.theory_checking.proofs.FirstRefused.{each_of_none}
use Rattle.theory_checking.proofs.Resolving.{AllFine, all_fine, fine_left, fine_right, IsThere, there_two, expression_there, AreNumbered, numbered_left, numbered_right, equation_there, assertion_there, all_numbered}

-- ---- lists of options

-- a list whose members are all there
abbrev pub AllThere : {A : Type 0} → List (Option A) → Type 0
AllThere {A} os = (xs : List A) × (map Some xs ≡ os)

pub none_more : {A : Type 0} → AllThere {A = A} []
none_more = ([], refl)

pub one_more : {A : Type 0} (o : Option A) (os : List (Option A)) → IsThere o → AllThere os → AllThere (o ∷ os)
one_more o os h all = (h.0 ∷ all.0, rw (h.1, all.1) refl)

pub joined : {A : Type 0} (os ps : List (Option A)) → AllThere os → AllThere ps → AllThere (os ++ ps)
joined os ps h k = (h.0 ++ k.0, rw (map-append, h.1, k.1) refl)

-- ---- equations and assertions

pub equations_there : (raw above ds : RawScript) → AllFine (behind_each (in_declaration raw) above ds) →
    AreNumbered (bound_spellings raw) (flat_map bound_in_declaration ds) → AllThere (flat_map (equation_declared raw) ds)
equations_there raw above [] fine numbered = none_more
equations_there raw above (RawEquation name ns p ∷ ds) fine numbered =
    one_more (equation_of (environment_of raw) ns p) (flat_map (equation_declared raw) ds)
    (equation_there (environment_of raw) ns p
    (fine_left (in_declaration raw above (RawEquation name ns p)) (behind_each (in_declaration raw) (above ++ RawEquation name ns p ∷ []) ds) fine)
    (numbered_left (bound_spellings raw) (ns ++ bound_in p) (flat_map bound_in_declaration ds) numbered))
    (equations_there raw (above ++ RawEquation name ns p ∷ []) ds
    (fine_right (in_declaration raw above (RawEquation name ns p)) (behind_each (in_declaration raw) (above ++ RawEquation name ns p ∷ []) ds) fine)
    (numbered_right (bound_spellings raw) (ns ++ bound_in p) (flat_map bound_in_declaration ds) numbered))
equations_there raw above (RawAssertion place n a p ∷ ds) fine numbered =
    equations_there raw (above ++ RawAssertion place n a p ∷ []) ds
    (fine_right (in_declaration raw above (RawAssertion place n a p)) (behind_each (in_declaration raw) (above ++ RawAssertion place n a p ∷ []) ds) fine)
    (numbered_right (bound_spellings raw) (bound_in_property a ++ bound_in p) (flat_map bound_in_declaration ds) numbered)
equations_there raw above (RawDatatype name cs ∷ ds) fine numbered =
    equations_there raw (above ++ RawDatatype name cs ∷ []) ds
    (fine_right (in_declaration raw above (RawDatatype name cs)) (behind_each (in_declaration raw) (above ++ RawDatatype name cs ∷ []) ds) fine) numbered
equations_there raw above (RawNametype name domain ∷ ds) fine numbered =
    equations_there raw (above ++ RawNametype name domain ∷ []) ds
    (fine_right (in_declaration raw above (RawNametype name domain))
    (behind_each (in_declaration raw) (above ++ RawNametype name domain ∷ []) ds) fine) numbered
equations_there raw above (RawChannels names domains ∷ ds) fine numbered =
    equations_there raw (above ++ RawChannels names domains ∷ []) ds
    (fine_right (in_declaration raw above (RawChannels names domains))
    (behind_each (in_declaration raw) (above ++ RawChannels names domains ∷ []) ds) fine) numbered

pub assertions_there : (raw above ds : RawScript) → AllFine (behind_each (in_declaration raw) above ds) →
    AreNumbered (bound_spellings raw) (flat_map bound_in_declaration ds) → AllThere (flat_map (assertion_declared raw) ds)
assertions_there raw above [] fine numbered = none_more
assertions_there raw above (RawAssertion place n a p ∷ ds) fine numbered =
    one_more (assertion_of (environment_of raw) n a p) (flat_map (assertion_declared raw) ds)
    (assertion_there (environment_of raw) n a p
    (fine_left (in_declaration raw above (RawAssertion place n a p)) (behind_each (in_declaration raw) (above ++ RawAssertion place n a p ∷ []) ds) fine)
    (numbered_left (bound_spellings raw) (bound_in_property a ++ bound_in p) (flat_map bound_in_declaration ds) numbered))
    (assertions_there raw (above ++ RawAssertion place n a p ∷ []) ds
    (fine_right (in_declaration raw above (RawAssertion place n a p)) (behind_each (in_declaration raw) (above ++ RawAssertion place n a p ∷ []) ds) fine)
    (numbered_right (bound_spellings raw) (bound_in_property a ++ bound_in p) (flat_map bound_in_declaration ds) numbered))
assertions_there raw above (RawEquation name ns p ∷ ds) fine numbered =
    assertions_there raw (above ++ RawEquation name ns p ∷ []) ds
    (fine_right (in_declaration raw above (RawEquation name ns p)) (behind_each (in_declaration raw) (above ++ RawEquation name ns p ∷ []) ds) fine)
    (numbered_right (bound_spellings raw) (ns ++ bound_in p) (flat_map bound_in_declaration ds) numbered)
assertions_there raw above (RawDatatype name cs ∷ ds) fine numbered =
    assertions_there raw (above ++ RawDatatype name cs ∷ []) ds
    (fine_right (in_declaration raw above (RawDatatype name cs)) (behind_each (in_declaration raw) (above ++ RawDatatype name cs ∷ []) ds) fine) numbered
assertions_there raw above (RawNametype name domain ∷ ds) fine numbered =
    assertions_there raw (above ++ RawNametype name domain ∷ []) ds
    (fine_right (in_declaration raw above (RawNametype name domain))
    (behind_each (in_declaration raw) (above ++ RawNametype name domain ∷ []) ds) fine) numbered
assertions_there raw above (RawChannels names domains ∷ ds) fine numbered =
    assertions_there raw (above ++ RawChannels names domains ∷ []) ds
    (fine_right (in_declaration raw above (RawChannels names domains))
    (behind_each (in_declaration raw) (above ++ RawChannels names domains ∷ []) ds) fine) numbered

-- ---- the sets of fields

pub field_there : (raw above : RawScript) (names : List RawName) (before : List RawDomain) (d : RawDomain) (ds : List RawDomain) →
    AllFine (in_field_sets raw above names before (d ∷ ds)) → IsThere (field_members raw (set_expression above d))
field_there raw above names before d ds fine = go (set_expression above d) (field_members raw (set_expression above d)) refl refl
  where
    so_far : RawScript
    so_far = above ++ RawChannels names (before ++ d ∷ []) ∷ []

    set : IsThere (set_expression above d)
    set = expression_there (environment_above above) d.set (fine_left (in_expression (environment_above above) d.set) (in_field_sets raw above names (before ++ d ∷ []) ds) fine.1)

    go : (e : Option Expression) (ms : Option (List Value)) → set_expression above d ≡ e → field_members raw (set_expression above d) ≡ ms → IsThere (field_members raw (set_expression above d))
    go e (Some vs) is members = (vs, members)
    go None None is members = absurd (let both = sym is ∙ set.1 in cc both)
    go (Some e) None is members =
        let here : (f : KindFault) → ¬ (IsRefusedSite (FieldSet d.place (types_of raw) so_far (Some e) None) f) =
        λ f. let P : Option Expression → Type 0 = λ x. ¬ (IsRefusedSite (FieldSet d.place (types_of raw) so_far x (field_members raw (set_expression above d))) f) in
        let Q : Option (List Value) → Type 0 = λ x. ¬ (IsRefusedSite (FieldSet d.place (types_of raw) so_far (Some e) x) f) in subst Q members (subst P is (fine.0 f)) in
        absurd (here WrongKind (field_kind (λ some. here BadFieldSet (no_member some))))

pub fields_there : (raw above : RawScript) (names : List RawName) (before ds : List RawDomain) → AllFine (in_field_sets raw above names before ds) →
    IsThere (every (field_members raw) (map (set_expression above) ds))
fields_there raw above names before [] fine = (_, refl)
fields_there raw above names before (d ∷ ds) fine =
    there_two _ (field_members raw (set_expression above d)) (every (field_members raw) (map (set_expression above) ds)) (field_there raw above names before d ds fine)
    (fields_there raw above names (before ++ d ∷ []) ds (fine_right (in_expression (environment_above above) d.set) (in_field_sets raw above names (before ++ d ∷ []) ds) fine.1))

pub copies_there : {A B : Type 0} (f : A → Option B) (x : A) (names : List RawName) → IsThere (f x) → AllThere (map f (replicate (length names) x))
copies_there f x [] h = none_more
copies_there f x (n ∷ ns) h = one_more (f x) (map f (replicate (length ns) x)) h (copies_there f x ns h)

pub channels_there : (raw above ds : RawScript) → AllFine (behind_each (in_declaration raw) above ds) → AllThere (map (every (field_members raw)) (behind_each channels_declared above ds))
channels_there raw above [] fine = none_more
channels_there raw above (RawChannels names domains ∷ ds) fine =
    let so_far = above ++ RawChannels names domains ∷ [] in
    let own = fine_left (in_declaration raw above (RawChannels names domains)) (behind_each (in_declaration raw) (above ++ RawChannels names domains ∷ []) ds) fine in
    let P : List (Option (List (List Value))) → Type 0 = AllThere in
    subst P (sym (map-append (every (field_members raw)) (replicate (length names) (map (set_expression above) domains)) (behind_each channels_declared (above ++ RawChannels names domains ∷ []) ds)))
    (joined (map (every (field_members raw)) (replicate (length names) (map (set_expression above) domains)))
    (map (every (field_members raw)) (behind_each channels_declared (above ++ RawChannels names domains ∷ []) ds))
    (copies_there (every (field_members raw)) (map (set_expression above) domains) names
    (fields_there raw above names [] domains (fine_right (in_heads raw (above ++ RawChannels names domains ∷ []) (length (channel_sets above)) names) (in_field_sets raw above names [] domains) own)))
    (channels_there raw (above ++ RawChannels names domains ∷ []) ds
    (fine_right (in_declaration raw above (RawChannels names domains))
    (behind_each (in_declaration raw) (above ++ RawChannels names domains ∷ []) ds) fine)))
channels_there raw above (RawDatatype name cs ∷ ds) fine =
    channels_there raw (above ++ RawDatatype name cs ∷ []) ds
    (fine_right (in_declaration raw above (RawDatatype name cs)) (behind_each (in_declaration raw) (above ++ RawDatatype name cs ∷ []) ds) fine)
channels_there raw above (RawNametype name domain ∷ ds) fine =
    channels_there raw (above ++ RawNametype name domain ∷ []) ds
    (fine_right (in_declaration raw above (RawNametype name domain)) (behind_each (in_declaration raw) (above ++ RawNametype name domain ∷ []) ds) fine)
channels_there raw above (RawEquation name ns p ∷ ds) fine =
    channels_there raw (above ++ RawEquation name ns p ∷ []) ds
    (fine_right (in_declaration raw above (RawEquation name ns p)) (behind_each (in_declaration raw) (above ++ RawEquation name ns p ∷ []) ds) fine)
channels_there raw above (RawAssertion place n a p ∷ ds) fine =
    channels_there raw (above ++ RawAssertion place n a p ∷ []) ds
    (fine_right (in_declaration raw above (RawAssertion place n a p)) (behind_each (in_declaration raw) (above ++ RawAssertion place n a p ∷ []) ds) fine)

-- ---- the sets of nametypes

pub behind-append : {A : Type 0} (f : RawScript → RawDeclaration → List A) (above xs ys : RawScript) → behind_each f above (xs ++ ys) ≡ behind_each f above xs ++ behind_each f (above ++ xs) ys
behind-append f above [] ys = rw append-nil refl
behind-append f above (x ∷ xs) ys =
    rw (behind-append f (above ++ x ∷ []) xs ys, append_assoc above (x ∷ []) xs) (sym (append_assoc (f above x) (behind_each f (above ++ x ∷ []) xs) (behind_each f (above ++ x ∷ xs) ys)))

-- what is behind one more declaration
pub behind_one_more : {A : Type 0} (f : RawScript → RawDeclaration → List A) (above : RawScript) (d : RawDeclaration) → in_order f (above ++ d ∷ []) ≡ in_order f above ++ f above d
behind_one_more f above d = behind-append f [] above (d ∷ []) ∙ ap (λ z. in_order f above ++ z) (append-nil (f above d))

pub at_its_place : {A : Type 0} (xs ys : List A) (x : A) → slice_get (xs ++ x ∷ ys) (length xs) ≡ Some x
at_its_place [] ys x = refl
at_its_place (z ∷ xs) ys x = at_its_place xs ys x

-- ---- the sets of constructors

set_there : (p : Place) (types : Types) (so_far : RawScript) (e : Option Expression) (ms : Option (List Value)) → IsThere e →
    ((f : KindFault) → ¬ (IsRefusedSite (FieldSet p types so_far e ms) f)) → IsThere ms
set_there p types so_far e (Some vs) set fine = (vs, refl)
set_there p types so_far None None set fine = absurd (let both = set.1 in cc both)
set_there p types so_far (Some e) None set fine = absurd (fine WrongKind (field_kind (λ some. fine BadFieldSet (no_member some))))

-- the members of a set over those of the declarations above
abbrev pub above_it : RawScript → RawScript → Option Expression → Option (List Value)
above_it raw above e = field_members_with (datatypes_of raw) (members_above raw above) e

pub clause_there : (raw above : RawScript) (name : RawName) (clauses : List RawClause) (constructor : RawName) (before ds : List RawDomain) →
    AllFine (in_clause_sets raw above name clauses constructor before ds) → IsThere (every (above_it raw above) (map (set_expression above) ds))
clause_there raw above name clauses constructor before [] fine = (_, refl)
clause_there raw above name clauses constructor before (d ∷ ds) fine =
    let sites_left = in_expression (environment_above above) d.set in
    let rest = in_clause_sets raw above name clauses constructor (before ++ d ∷ []) ds in
    there_two _ (above_it raw above (set_expression above d)) (every (above_it raw above) (map (set_expression above) ds))
    (set_there d.place (types_of raw) (with_clause above name clauses constructor (before ++ d ∷ [])) (set_expression above d) (above_it raw above (set_expression above d))
    (expression_there (environment_above above) d.set (fine_left (in_expression (environment_above above) d.set) (in_clause_sets raw above name clauses constructor (before ++ d ∷ []) ds) fine.1)) fine.0)
    (clause_there raw above name clauses constructor (before ++ d ∷ []) ds
    (fine_right (in_expression (environment_above above) d.set) (in_clause_sets raw above name clauses constructor (before ++ d ∷ []) ds) fine.1))

pub clauses_there : (raw above : RawScript) (name : RawName) (before cs : List RawClause) → AllFine (in_clauses raw above name before cs) →
    AllThere (map (every (above_it raw above)) (map (clause_sets above) cs))
clauses_there raw above name before [] fine = none_more
clauses_there raw above name before (c ∷ cs) fine =
    one_more (every (above_it raw above) (clause_sets above c)) (map (every (above_it raw above)) (map (clause_sets above) cs))
    (clause_there raw above name before c.name [] c.fields (fine_left (in_clause_sets raw above name before c.name [] c.fields) (in_clauses raw above name (before ++ c ∷ []) cs) fine))
    (clauses_there raw above name (before ++ c ∷ []) cs (fine_right (in_clause_sets raw above name before c.name [] c.fields) (in_clauses raw above name (before ++ c ∷ []) cs) fine))

-- ---- the members of all sets of types

pub with_more : (dts : List (List ℕ)) (ms : Members) (xs ys : List TypeItem) → with_members dts ms (xs ++ ys) ≡ with_members dts (with_members dts ms xs) ys
with_more dts ms [] ys = refl
with_more dts ms (NametypeItem e ∷ xs) ys = with_more dts (with_nametype (option_and_then (members_with dts ms) e) ms) xs ys
with_more dts ms (DatatypeItem cs ∷ xs) ys = with_more dts (with_constructors (map (every (field_members_with dts ms)) cs) ms) xs ys

-- members, and more behind them
abbrev pub followed : Members → Members → Members
followed ms more = record { nametypes = ms.nametypes ++ more.nametypes; constructors = ms.constructors ++ more.constructors }

-- the table begins with the members so far
pub table_begins : (dts : List (List ℕ)) (ms : Members) (xs : List TypeItem) → (more : Members) × (with_members dts ms xs ≡ followed ms more)
table_begins dts ms [] = (no_members, λ i. record { nametypes = sym (append-nil ms.nametypes) i; constructors = sym (append-nil ms.constructors) i })
table_begins dts ms (NametypeItem e ∷ xs) =
    let m = option_and_then (members_with dts ms) e in
    let rest = table_begins dts (with_nametype m ms) xs in (
      record { nametypes = m ∷ rest.0.nametypes; constructors = rest.0.constructors },
      rest.1 ∙ (λ i. record { nametypes = append_assoc ms.nametypes (m ∷ []) rest.0.nametypes i; constructors = ms.constructors ++ rest.0.constructors }),
    )
table_begins dts ms (DatatypeItem cs ∷ xs) =
    let new = map (every (field_members_with dts ms)) cs in
    let rest = table_begins dts (with_constructors new ms) xs in (
      record { nametypes = rest.0.nametypes; constructors = new ++ rest.0.constructors },
      rest.1 ∙ (λ i. record { nametypes = ms.nametypes ++ rest.0.nametypes; constructors = append_assoc ms.constructors new rest.0.constructors i }),
    )

-- those of one more declaration, over those above
pub members_one_more : (raw above : RawScript) (d : RawDeclaration) → members_above raw (above ++ d ∷ []) ≡ with_members (datatypes_of raw) (members_above raw above) (types_declared above d)
members_one_more raw above d =
    ap (with_members (datatypes_of raw) no_members) (behind_one_more types_declared above d) ∙ with_more (datatypes_of raw) no_members (in_order types_declared above) (types_declared above d)

-- each is there
pub record AllMembersThere (ms : Members) : Type 0 where
  pub nametypes : AllThere ms.nametypes
  pub constructors : AllThere ms.constructors

pub nametype_there : (p : Place) (types : Types) (so_far : RawScript) (e : Option Expression) (ms : Option (List Value)) → IsThere e →
    ((f : KindFault) → ¬ (IsRefusedSite (NametypeSet p types so_far e ms) f)) → IsThere ms
nametype_there p types so_far e (Some vs) set fine = (vs, refl)
nametype_there p types so_far None None set fine = absurd (let both = set.1 in cc both)
nametype_there p types so_far (Some e) None set fine = absurd (fine WrongKind (nametype_kind (λ some. fine BadFieldSet (no_value some))))

one_there : (raw above : RawScript) (d : RawDeclaration) → AllFine (in_declaration raw above d) → AllMembersThere (members_above raw above) →
    AllMembersThere (with_members (datatypes_of raw) (members_above raw above) (types_declared above d))
one_there raw above (RawNametype name domain) fine all =
    let ms = members_above raw above in
    let m = option_and_then (members_with (datatypes_of raw) (members_above raw above)) (set_expression above domain) in
    let there : IsThere m =
    nametype_there domain.place (types_of raw) (above ++ RawNametype name domain ∷ []) (set_expression above domain) m (expression_there (environment_above above) domain.set fine.1) fine.0 in
    record { nametypes = joined ms.nametypes (m ∷ []) all.nametypes (one_more m [] there none_more); constructors = all.constructors }
one_there raw above (RawDatatype name cs) fine all =
    let ms = members_above raw above in
    record { nametypes = all.nametypes; constructors = joined ms.constructors (map (every (above_it raw above)) (map (clause_sets above) cs)) all.constructors (clauses_there raw above name [] cs fine) }
one_there raw above (RawChannels names domains) fine all = all
one_there raw above (RawEquation name ns p) fine all = all
one_there raw above (RawAssertion place n a p) fine all = all

pub members_there : (raw above ds : RawScript) → AllFine (behind_each (in_declaration raw) above ds) → AllMembersThere (members_above raw above) → AllMembersThere (members_above raw (above ++ ds))
members_there raw above [] fine all = let P : RawScript → Type 0 = λ z. AllMembersThere (members_above raw z) in subst P (sym (append-nil above)) all
members_there raw above (d ∷ ds) fine all =
    let P : RawScript → Type 0 = λ z. AllMembersThere (members_above raw z) in
    subst P (append_assoc above (d ∷ []) ds)
    (members_there raw (above ++ d ∷ []) ds (fine_right (in_declaration raw above d) (behind_each (in_declaration raw) (above ++ d ∷ []) ds) fine)
    (subst AllMembersThere (sym (members_one_more raw above d)) (one_there raw above d (fine_left (in_declaration raw above d) (behind_each (in_declaration raw) (above ++ d ∷ []) ds) fine) all)))

-- ---- the script

pub has_script : (raw : RawScript) → PassesNames raw → (script : Script) × IsScriptOf raw script
has_script raw passes =
    let fine = all_fine [] (sites raw) (each_of_none IsRefusedAt [] (sites raw) passes.fine) in
    let numbered = all_numbered [] (flat_map bound_in_declaration raw) in
    let ms = members_there raw [] raw fine (record { nametypes = none_more; constructors = none_more }) in
    let cs = channels_there raw [] raw fine in
    let es = equations_there raw [] raw fine numbered in
    let as_ = assertions_there raw [] raw fine numbered in (
      record {
        types = record { datatypes = datatypes_of raw; nametypes = ms.nametypes.0; constructors = ms.constructors.0 };
        channels = cs.0;
        equations = es.0;
        assertions = as_.0;
        channel_names = map encode_utf8_all (names_of ChannelName raw);
        constructor_names = map encode_utf8_all (names_of ConstructorName raw);
        unfolds = ByTau;
      },
      record { datatypes = refl; nametypes = ms.nametypes.1; constructors = ms.constructors.1; channels = cs.1; equations = es.1; assertions = as_.1; channel_names = refl; constructor_names = refl; unfolds = refl },
    )
