-- Tables of the names of declarations, with one declaration more.
use Rattle.std.specs.Prelude.{replicate, take, drop, map, get_or, Result, Ok, Err, IsErr, IsErrAnd, OnOk}
use Rattle.std.proofs.lemmas.List.{length-map, map-append, take_all, take_more, take-append-drop}
use Rattle.std.proofs.Common.{Bool, ◌≡◌, ◌<◌, ◌≤◌, ℕ, ◌+◌, List, [], ◌∷◌, ◌++◌, append-nil, length, Vec, Box, vec_len, sym, ap, ap₂, ◌∙◌, subst, arith}
use Rattle.theory_text.specs.Raw.{RawName, RawClause, RawDeclaration, RawDatatype, RawNametype, RawChannels, RawEquation, RawAssertion, RawScript}
use Rattle.theory_checking.specs.DeclaredRows.{Row, numbered_rows, row_spellings, rows_declared}
use Rattle.theory_checking.specs.Faults.{NoneRefused}
use Rattle.theory_checking.specs.Names.{Class, DatatypeName, ConstructorName, NametypeName, ChannelName, EquationName, Declared, clause_names, constructor_fields, declared, declared_as, names_of}
use Rattle.theory_checking.specs.Rules.{all_declared, fields_declared, IsRedeclared, parameters_declared}
use Rattle.theory_checking.proofs.Counts.{channels_counted, equations_counted}
use Rattle.theory_checking.proofs.Meant.{constructors_counted}
use Rattle.theory_checking.proofs.DeclaredRows.{class_counts, rows_have_spellings, rows_of_one_more}
use Rattle.theory_checking.proofs.OneMore.{flat_map_one_more}
use Rattle.csp_parse.specs.declared.declarations.Declaration.{Declaration}
use Rattle.csp_parse.specs.declared.declarations.Declaration.TheVariants as forms
use Rattle.csp_parse.specs.declared.declarations.Clause.{Clause}
use Rattle.csp_parse.specs.declared.declarations.Domain.{Domain}
use Rattle.csp_parse.specs.declared.names.Name.{Name}
use Rattle.csp_parse.specs.declared.processes.Process.{Process}
use Rattle.csp_parse.specs.Declarations.{clause_of, declaration_of, domain_of, property_of}
use Rattle.csp_parse.specs.declared.declarations.Property.{Property}
use Rattle.csp_parse.specs.Names.{name_of}
use Rattle.csp_parse.specs.Processes.{process_in}
use Rattle.csp_lex.specs.declared.places.Place.{Place}
use Rattle.csp_lex.specs.Places.{place_of}
use Rattle.csp_names.specs.declared.name_table.NameTable.{NameTable}
use Rattle.csp_names.specs.declared.names.Names.{Names}
use Rattle.csp_names.specs.declared.refusals.Refused.{Refused}
use Rattle.csp_names.specs.FirstPass.{Adds, AddsDeclaration, AddsNames, AreNamesOf, Holds, IsFirstPassRefusal, IsRedeclaration, IsTableOf, Redeclares, clause_counts}
use Rattle.csp_names.specs.Rows.{AreTexts}
use Rattle.csp_names.proofs.NamesAdded.{added_both, nothing_added, redeclares_behind, redeclares_in_first, refusal_goes_on, row_of_entry}
use Rattle.csp_names.proofs.Walking.{handed_on}

-- ---- names that are added behind others

pub adds_behind : {A T : Type 0} (a b c : Names A) (rs ss : List Row) (ns ms : List RawName) (ps qs ks ls fs gs : List ℕ) (result : Result T Refused) → Adds a b rs ns ps ks fs → AddsNames b c ss ms qs ls gs result →
    AddsNames a c (rs ++ ss) (ns ++ ms) (ps ++ qs) (ks ++ ls) (fs ++ gs) result
adds_behind a b c rs ss ns ms ps qs ks ls fs gs (Ok t) first h = added_both a b c rs ss ns ms ps qs ks ls fs gs first h
adds_behind a b c rs ss ns ms ps qs ks ls fs gs (Err r) first h = redeclares_behind a b rs ns ms ps ks fs r first h

none_in_nothing : NoneRefused IsRedeclared []
none_in_nothing [] after x f e = absurd (cc e)
none_in_nothing (y ∷ before) after x f e = absurd (cc e)

grown : (class : Class) (above : RawScript) (d : RawDeclaration) (k m : ℕ) → m ≡ k + length (declared_as class d) → k ≡ length (names_of class above) → m ≡ length (names_of class (above ++ d ∷ []))
grown class above d k m more is = more ∙ ap (λ n. n + length (declared_as class d)) is ∙ sym (class_counts class above d)

pub always : {T E P : Type 0} (result : Result T E) → P → OnOk result P
always (Ok t) h = h
always (Err e) h = tt

module _ {A : Type 0} where
  names_held : (names : Names A) (above : RawScript) → AreNamesOf names above → Holds names (all_declared above)
  names_held names above h = record { texts = h.texts; spelled = ap row_spellings h.rows ∙ rows_have_spellings above; once = h.once }

  -- the names of one declaration more
  pub with_declaration : (old new : Names A) (above : RawScript) (d : RawDeclaration) → AreNamesOf old above → Adds old new (rows_declared above d) (declared d) (parameters_declared d) (constructor_fields d) (fields_declared d) → AreNamesOf new (above ++ d ∷ [])
  with_declaration old new above d h adds =
      let held = adds.held (all_declared above) (names_held old above h) in
      let P : List RawName → Type 0 = NoneRefused IsRedeclared in
      record {
        texts = held.texts;
        rows = adds.rows ∙ ap (λ rs. rs ++ rows_declared above d) h.rows ∙ sym (rows_of_one_more above d);
        once = subst P (sym (flat_map_one_more declared above d)) held.once;
        parameters = adds.parameters ∙ ap (λ ps. ps ++ parameters_declared d) h.parameters ∙ sym (flat_map_one_more parameters_declared above d);
        constructors = adds.constructors ∙ ap (λ ks. ks ++ constructor_fields d) h.constructors ∙ sym (flat_map_one_more constructor_fields above d);
        fields = adds.fields ∙ ap (λ fs. fs ++ fields_declared d) h.fields ∙ sym (flat_map_one_more fields_declared above d);
      }

  pub declaration_refused : (old : Names A) (above : RawScript) (d : RawDeclaration) (r : Refused) → AreNamesOf old above → Redeclares old (declared d) r → IsFirstPassRefusal (above ++ d ∷ []) r
  declaration_refused old above d r h redeclares =
      let P : List RawName → Type 0 = λ ns. IsRedeclaration ns r in subst P (sym (flat_map_one_more declared above d)) (redeclares (all_declared above) (names_held old above h))

  -- ---- the numbers of constructors, channels and equations

  pub next_constructor : (names : Names A) (above : RawScript) → AreNamesOf names above → length names.constructors.items ≡ length (names_of ConstructorName above)
  next_constructor names above h = ap length h.constructors ∙ constructors_counted above

  pub next_channel : (names : Names A) (above : RawScript) → AreNamesOf names above → length names.fields.items ≡ length (names_of ChannelName above)
  next_channel names above h = ap length h.fields ∙ channels_counted above

  pub next_equation : (names : Names A) (above : RawScript) → AreNamesOf names above → length names.parameters.items ≡ length (names_of EquationName above)
  next_equation names above h = ap length h.parameters ∙ equations_counted above

  -- ---- tables

  -- so many names of each class are in the declaration
  pub record Grows (old new : NameTable A) (d : RawDeclaration) : Type 0 where
    pub datatypes : new.datatypes ≡ old.datatypes + length (declared_as DatatypeName d)
    pub nametypes : new.nametypes ≡ old.nametypes + length (declared_as NametypeName d)

  pub with_one_more : (old new : NameTable A) (above : RawScript) (d : RawDeclaration) → Grows old new d → IsTableOf old above → Adds old.names new.names (rows_declared above d) (declared d) (parameters_declared d) (constructor_fields d) (fields_declared d) → IsTableOf new (above ++ d ∷ [])
  with_one_more old new above d grows h adds = record {
    names = with_declaration old.names new.names above d h.names adds;
    datatypes = grown DatatypeName above d old.datatypes new.datatypes grows.datatypes h.datatypes;
    nametypes = grown NametypeName above d old.nametypes new.nametypes grows.nametypes h.nametypes;
  }

  declares : {B T : Type 0} (old new : NameTable A) (written : Declaration B) (d : RawDeclaration) (result : Result T Refused) → declaration_of written ≡ d → OnOk result (Grows old new d) →
      ((above : RawScript) → IsTableOf old above → AddsNames old.names new.names (rows_declared above d) (declared d) (parameters_declared d) (constructor_fields d) (fields_declared d) result) → AddsDeclaration old new (declaration_of written) result
  declares {B} {T} old new written d result is grows h = let P : RawDeclaration → Type 0 = λ e. AddsDeclaration old new e result in subst P (sym is) (go result grows h)
    where
      go : (r : Result T Refused) → OnOk r (Grows old new d) → ((above : RawScript) → IsTableOf old above → AddsNames old.names new.names (rows_declared above d) (declared d) (parameters_declared d) (constructor_fields d) (fields_declared d) r) → AddsDeclaration old new d r
      go (Ok t) grows h = λ above table. with_one_more old new above d grows table (h above table)
      go (Err r) grows h = λ above table. declaration_refused old.names above d r table.names (h above table)

  -- ---- each form of declaration, as it is written

  module _ {B : Type 0} (old new : NameTable A) (written : Declaration B) where
    pub datatype_declared : {T : Type 0} (mid : Names A) (name : Name) (read : Vec (Clause B) B) (clauses : List (Clause B)) (k : ℕ) (result : Result T Refused) →
        written ≡ forms.Datatype name read → clauses ≡ read.items → k ≡ old.datatypes → new.datatypes ≡ old.datatypes + 1 → new.nametypes ≡ old.nametypes →
        Adds old.names mid (((name_of name).spelling, Declared DatatypeName k) ∷ []) (name_of name ∷ []) [] [] [] →
        AddsNames mid new.names (numbered_rows ConstructorName (length mid.constructors.items) (clause_names (map clause_of clauses))) (clause_names (map clause_of clauses)) [] (clause_counts (map clause_of clauses)) [] result →
        AddsDeclaration old new (declaration_of written) result
    datatype_declared mid name read clauses k result is same number datatypes nametypes first rest =
        let cs : List RawClause = map clause_of clauses in
        declares old new written (RawDatatype (name_of name) (map clause_of clauses)) result (ap declaration_of is ∙ ap (λ xs. RawDatatype (name_of name) (map clause_of xs)) (sym same))
        (always result (record { datatypes = datatypes; nametypes = omega (arith, nametypes) }))
        (λ above table.
        let P : List Row → Type 0 = λ rs. AddsNames old.names new.names rs (name_of name ∷ clause_names cs) [] (clause_counts cs) [] result in
        let next : length mid.constructors.items ≡ length (names_of ConstructorName above) =
        ap length (first.constructors ∙ append-nil old.names.constructors.items) ∙ next_constructor old.names above table.names in
        subst P (ap₂ (λ i j. ((name_of name).spelling, Declared DatatypeName i) ∷ numbered_rows ConstructorName j (clause_names cs)) (number ∙ table.datatypes) next)
        (adds_behind old.names mid new.names _ _ _ _ [] [] [] (clause_counts cs) [] [] result first rest))

    pub datatype_refused : {T : Type 0} (name : Name) (read : Vec (Clause B) B) (result : Result T Refused) (r : Refused) → written ≡ forms.Datatype name read → IsErr result × IsErrAnd result (λ x. x ≡ r) →
        Redeclares old.names (name_of name ∷ []) r → AddsDeclaration old new (declaration_of written) result
    datatype_refused name read result r is same h =
        let P : RawDeclaration → Type 0 = λ d. AddsDeclaration old new d result in
        let cs : List RawClause = map clause_of read.items in
        subst P (sym (ap declaration_of is))
        (handed_on (AddsDeclaration old new (RawDatatype (name_of name) cs)) result r same
        (λ above table. declaration_refused old.names above (RawDatatype (name_of name) cs) r table.names (redeclares_in_first old.names (name_of name ∷ []) (clause_names cs) r h)))

    pub nametype_declared : {T : Type 0} (name : Name) (domain : Domain B) (k : ℕ) (result : Result T Refused) → written ≡ forms.Nametype name domain → k ≡ old.nametypes → new.datatypes ≡ old.datatypes →
        new.nametypes ≡ old.nametypes + 1 → AddsNames old.names new.names (((name_of name).spelling, Declared NametypeName k) ∷ []) (name_of name ∷ []) [] [] [] result → AddsDeclaration old new (declaration_of written) result
    nametype_declared name domain k result is number datatypes nametypes one =
        declares old new written (RawNametype (name_of name) (domain_of domain)) result (ap declaration_of is)
        (always result (record { datatypes = omega (arith, datatypes); nametypes = nametypes }))
        (λ above table.
        let P : ℕ → Type 0 = λ i. AddsNames old.names new.names (((name_of name).spelling, Declared NametypeName i) ∷ []) (name_of name ∷ []) [] [] [] result in
        subst P (number ∙ table.nametypes) one)

    -- the numbers that the table keeps are as they were
    pub record Keeps : Type 0 where
      pub datatypes : new.datatypes ≡ old.datatypes
      pub nametypes : new.nametypes ≡ old.nametypes

    pub channels_declared : {T : Type 0} (read : Vec Name B) (domains : Vec (Domain B) B) (items : List Name) (k : ℕ) (result : Result T Refused) → written ≡ forms.Channels read domains → items ≡ read.items → k ≡ vec_len domains → Keeps →
        AddsNames old.names new.names (numbered_rows ChannelName (length old.names.fields.items) (map name_of items)) (map name_of items) [] [] (replicate (length items) k) result → AddsDeclaration old new (declaration_of written) result
    channels_declared read domains items k result is same count keeps all =
        declares old new written (RawChannels (map name_of items) (map domain_of domains.items)) result (ap declaration_of is ∙ ap (λ ns. RawChannels (map name_of ns) (map domain_of domains.items)) (sym same))
        (always result (record { datatypes = omega (arith, keeps.datatypes); nametypes = omega (arith, keeps.nametypes) }))
        (λ above table.
        let P : ℕ → Type 0 = λ i. AddsNames old.names new.names (numbered_rows ChannelName i (map name_of items)) (map name_of items) [] [] (replicate (length (map name_of items)) (length (map domain_of domains.items))) result in
        let Q : List ℕ → Type 0 = λ fs. AddsNames old.names new.names (numbered_rows ChannelName (length old.names.fields.items) (map name_of items)) (map name_of items) [] [] fs result in
        subst P (next_channel old.names above table.names)
        (subst Q (ap₂ replicate (sym (length-map items name_of)) (count ∙ domains.ok.0 ∙ sym (length-map domains.items domain_of))) all))

    pub equation_declared : {T : Type 0} (name : Name) (parameters : Vec Name B) (body : Box (Process B) B) (k : ℕ) (result : Result T Refused) → written ≡ forms.Equation name parameters body → k ≡ vec_len parameters → Keeps →
        AddsNames old.names new.names (numbered_rows EquationName (length old.names.parameters.items) (name_of name ∷ [])) (name_of name ∷ []) (k ∷ []) [] [] result → AddsDeclaration old new (declaration_of written) result
    equation_declared name parameters body k result is count keeps one =
        declares old new written (RawEquation (name_of name) (map name_of parameters.items) (process_in body)) result (ap declaration_of is)
        (always result (record { datatypes = omega (arith, keeps.datatypes); nametypes = omega (arith, keeps.nametypes) }))
        (λ above table.
        let P : ℕ → Type 0 = λ i. AddsNames old.names new.names (numbered_rows EquationName i (name_of name ∷ [])) (name_of name ∷ []) (length (map name_of parameters.items) ∷ []) [] [] result in
        let Q : ℕ → Type 0 = λ n. AddsNames old.names new.names (numbered_rows EquationName (length old.names.parameters.items) (name_of name ∷ [])) (name_of name ∷ []) (n ∷ []) [] [] result in
        subst P (next_equation old.names above table.names) (subst Q (count ∙ parameters.ok.0 ∙ sym (length-map parameters.items name_of)) one))

  pub assertion_declared : {B : Type 0} (table : NameTable A) (written : Declaration B) (place : Place) (n : Bool) (a : Property B) (p : Box (Process B) B) → written ≡ forms.Assertion place n a p →
      (above : RawScript) → IsTableOf table above → IsTableOf table (above ++ declaration_of written ∷ [])
  assertion_declared table written place n a p is above h =
      let P : RawDeclaration → Type 0 = λ d. IsTableOf table (above ++ d ∷ []) in
      subst P (sym (ap declaration_of is))
      (with_one_more table table above (RawAssertion (place_of place) n (property_of a) (process_in p)) (record { datatypes = omega arith; nametypes = omega arith }) h (nothing_added table.names))

  -- ---- the declarations of a list, one behind the other

  pub no_declarations : (table : NameTable A) → table.names.table.entries ≡ [] → table.names.parameters.items ≡ [] → table.names.constructors.items ≡ [] → table.names.fields.items ≡ [] →
      table.datatypes ≡ 0 → table.nametypes ≡ 0 → IsTableOf table []
  no_declarations table entries parameters constructors fields datatypes nametypes = record {
    names = record {
      texts = subst AreTexts (sym entries) tt;
      rows = ap (map row_of_entry) entries;
      once = none_in_nothing;
      parameters = parameters;
      constructors = constructors;
      fields = fields;
    };
    datatypes = datatypes;
    nametypes = nametypes;
  }

module _ {B : Type 0} (items : List (Declaration B)) (i : ℕ) where
  pub one_more_declared : {A : Type 0} (table : NameTable A) (d : Declaration B) → i < length items → d ≡ get_or items i d → IsTableOf table (map declaration_of (take i items) ++ declaration_of d ∷ []) → IsTableOf table (map declaration_of (take (i + 1) items))
  one_more_declared table d within read h =
      let P : RawScript → Type 0 = IsTableOf table in
      subst P (sym (ap (map declaration_of) (take_more items i d within ∙ ap (λ x. take i items ++ x ∷ []) (sym read)) ∙ map-append declaration_of (take i items) (d ∷ []))) h

  pub one_refused : (d : Declaration B) (r : Refused) → i < length items → d ≡ get_or items i d → IsFirstPassRefusal (map declaration_of (take i items) ++ declaration_of d ∷ []) r → IsFirstPassRefusal (map declaration_of items) r
  one_refused d r within read h =
      let cut : map declaration_of items ≡ (map declaration_of (take i items) ++ declaration_of d ∷ []) ++ map declaration_of (drop (i + 1) items) =
      ap (map declaration_of) (sym (take-append-drop (i + 1) items)) ∙ map-append declaration_of (take (i + 1) items) (drop (i + 1) items)
      ∙ ap (λ ds. ds ++ map declaration_of (drop (i + 1) items)) (ap (map declaration_of) (take_more items i d within ∙ ap (λ x. take i items ++ x ∷ []) (sym read)) ∙ map-append declaration_of (take i items) (d ∷ [])) in
      let P : RawScript → Type 0 = λ ds. IsFirstPassRefusal ds r in
      subst P (sym cut) (refusal_goes_on (map declaration_of (take i items) ++ declaration_of d ∷ []) (map declaration_of (drop (i + 1) items)) r h)

  pub all_declarations : {A : Type 0} (table : NameTable A) → length items ≤ i → IsTableOf table (map declaration_of (take i items)) → AreNamesOf table.names (map declaration_of items)
  all_declarations table over h = let P : List (Declaration B) → Type 0 = λ ds. AreNamesOf table.names (map declaration_of ds) in subst P (take_all i items over) h.names
