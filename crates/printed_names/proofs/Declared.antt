-- Names that are listed declaration by declaration.
use Rattle.std.specs.Prelude.{flat_map, take, option_map}
use Rattle.std.specs.Borrow.{Bor}
use Rattle.std.proofs.lemmas.Grind.{flat_map-append}
use Rattle.std.proofs.lemmas.List.{map-append}
use Rattle.std.proofs.Common.{◌≡◌, ◌∙◌, ◌≤◌, ◌+◌, ℕ, List, [], ◌∷◌, ◌++◌, length, map, Option, None, Vec, ap, subst, sym, append-nil, append_assoc}
use Rattle.theory_syntax.specs.Types.{Types}
use Rattle.theory_text.specs.Raw.{RawName, RawDeclaration, RawScript}
use Rattle.theory_checking.specs.Names as checking
use Rattle.theory_checking.specs.Names.{Class, DatatypeName, ConstructorName, NametypeName, ChannelName, EquationName, bound_in_declaration, bound_spellings, clause_names, declared_as, spellings, with_spellings}
use Rattle.theory_checking.proofs.Spellings.{with_more}
use Rattle.theory_notation.specs.Names as notation
use Rattle.theory_notation.specs.Names.{in_bytes, names_in}
use Rattle.csp_expression.specs.Evaluation.{table_of}
use Rattle.csp_parse.specs.declared.declarations.Clause.{Clause}
use Rattle.csp_parse.specs.declared.declarations.Declaration.{Declaration}
use Rattle.csp_parse.specs.declared.names.Name.{Name}
use Rattle.csp_parse.specs.Declarations.{clause_of, declaration_of}
use Rattle.csp_parse.specs.Names.{name_of}
use Rattle.csp_print.specs.declared.names.Names.{Names}
use Rattle.csp_print.specs.Names.{names_of, spellings_of}
use Rattle.printed_names.specs.declared.bound_names.BoundNames.{BoundNames}
use Rattle.printed_names.specs.Binding.{met}
use Rattle.printed_names.specs.Declaring.{AreDeclaredIn, Declares, listed}
use Rattle.printed_names.proofs.Turns.{all_added, one_more}

-- texts behind texts
pub texts_in_turn : (ss ts us : List (List ℕ)) → ss ++ (ts ++ us) ≡ (ss ++ ts) ++ us
texts_in_turn ss ts us = sym (append_assoc ss ts us)

texts_in_parts : (ns ms : List RawName) → in_bytes (spellings (ns ++ ms)) ≡ in_bytes (spellings ns) ++ in_bytes (spellings ms)
texts_in_parts ns ms = simp map-append

-- the texts of names, of clauses and of declarations, the last ones by parts
abbrev pub texts_of_names : List Name → List (List ℕ)
texts_of_names ns = in_bytes (spellings (map name_of ns))

abbrev pub texts_of_clauses : {A : Type 0} → List (Clause A) → List (List ℕ)
texts_of_clauses cs = in_bytes (spellings (clause_names (map clause_of cs)))

abbrev pub texts_of_declarations : {A : Type 0} → Class → List (Declaration A) → List (List ℕ)
texts_of_declarations class ds = in_bytes (checking.names_of class (map declaration_of ds))

pub declarations_in_parts : {A : Type 0} (class : Class) (ds es : List (Declaration A)) → texts_of_declarations class (ds ++ es) ≡ texts_of_declarations class ds ++ texts_of_declarations class es
declarations_in_parts class ds es =
    ap (λ xs. in_bytes (checking.names_of class xs)) (map-append declaration_of ds es) ∙ ap (λ xs. in_bytes (spellings xs)) (flat_map-append (declared_as class) (map declaration_of ds) (map declaration_of es))
    ∙ texts_in_parts (flat_map (declared_as class) (map declaration_of ds)) (flat_map (declared_as class) (map declaration_of es))

-- what declarations bind, by parts
abbrev pub bound_by : {A : Type 0} → List (Declaration A) → List (List ℕ)
bound_by ds = spellings (flat_map bound_in_declaration (map declaration_of ds))

pub bound_in_parts : {A : Type 0} (ds es : List (Declaration A)) → bound_by (ds ++ es) ≡ bound_by ds ++ bound_by es
bound_in_parts ds es =
    ap (λ xs. spellings (flat_map bound_in_declaration xs)) (map-append declaration_of ds es) ∙ ap spellings (flat_map-append bound_in_declaration (map declaration_of ds) (map declaration_of es))
    ∙ map-append (λ n. n.spelling) (flat_map bound_in_declaration (map declaration_of ds)) (flat_map bound_in_declaration (map declaration_of es))

-- all classes together
abbrev gathered : (channels constructors datatypes nametypes equations bound : List (List ℕ)) → Option Types → notation.Names
gathered channels constructors datatypes nametypes equations bound types = record {
  channels = channels;
  constructors = constructors;
  datatypes = datatypes;
  nametypes = nametypes;
  equations = equations;
  bound = bound;
  types = types;
}

module _ {A : Type 0} (names : Names A) where
  -- where no names are listed, they are those of no declarations
  pub none_declared : names.channels.items ≡ [] → names.constructors.items ≡ [] → names.datatypes.items ≡ [] → names.nametypes.items ≡ [] → names.equations.items ≡ [] → AreDeclaredIn [] names
  none_declared channels constructors datatypes nametypes equations DatatypeName = ap spellings_of datatypes
  none_declared channels constructors datatypes nametypes equations ConstructorName = ap spellings_of constructors
  none_declared channels constructors datatypes nametypes equations NametypeName = ap spellings_of nametypes
  none_declared channels constructors datatypes nametypes equations ChannelName = ap spellings_of channels
  none_declared channels constructors datatypes nametypes equations EquationName = ap spellings_of equations

  -- the names with their bound ones
  abbrev pub with_bound : Vec (Bor (List ℕ)) A → Names A
  with_bound list = record {
    channels = names.channels;
    constructors = names.constructors;
    datatypes = names.datatypes;
    nametypes = names.nametypes;
    equations = names.equations;
    bound = list;
    types = names.types;
  }

  pub all_classes : (list : Vec (Bor (List ℕ)) A) (raw : RawScript) → names.types ≡ None → AreDeclaredIn raw names → spellings_of list.items ≡ in_bytes (bound_spellings raw) → names_of (with_bound list) ≡ names_in raw
  all_classes list raw none declared bound =
      let of : Class → List (List ℕ) = λ class. in_bytes (checking.names_of class raw) in
      let channels = spellings_of names.channels.items in
      let constructors = spellings_of names.constructors.items in
      let datatypes = spellings_of names.datatypes.items in
      let nametypes = spellings_of names.nametypes.items in
      let equations = spellings_of names.equations.items in
      let all = in_bytes (bound_spellings raw) in
      ap (λ x. gathered channels constructors datatypes nametypes equations (spellings_of list.items) (option_map table_of x)) none
      ∙ ap (λ x. gathered channels constructors datatypes nametypes equations x None) bound
      ∙ ap (λ x. gathered channels constructors datatypes nametypes x all None) (declared EquationName)
      ∙ ap (λ x. gathered channels constructors datatypes x (of EquationName) all None) (declared NametypeName)
      ∙ ap (λ x. gathered channels constructors x (of NametypeName) (of EquationName) all None) (declared DatatypeName)
      ∙ ap (λ x. gathered channels x (of DatatypeName) (of NametypeName) (of EquationName) all None) (declared ConstructorName)
      ∙ ap (λ x. gathered x (of ConstructorName) (of DatatypeName) (of NametypeName) (of EquationName) all None) (declared ChannelName)

-- ---- the declarations of a list, one behind the other

declares_one : (class : Class) (d : RawDeclaration) → in_bytes (spellings (declared_as class d)) ≡ in_bytes (checking.names_of class (d ∷ []))
declares_one class d = ap (λ ns. in_bytes (spellings ns)) (sym (append-nil (declared_as class d)))

binds_one : (d : RawDeclaration) → spellings (bound_in_declaration d) ≡ spellings (flat_map bound_in_declaration (d ∷ []))
binds_one d = ap spellings (sym (append-nil (bound_in_declaration d)))

module _ {A B : Type 0} (items : List (Declaration B)) (i : ℕ) where
  pub one_more_declared : (now new : Names A) (d : Declaration B) → take (i + 1) items ≡ take i items ++ d ∷ [] → AreDeclaredIn (map declaration_of (take i items)) now → Declares now new (declaration_of d) → AreDeclaredIn (map declaration_of (take (i + 1) items)) new
  one_more_declared now new d cut so_far one class =
      one_more (λ ss ts. ss ++ ts) texts_in_turn (texts_of_declarations class) (declarations_in_parts class) items i [] (listed class now) (listed class new) d cut (so_far class)
      (one class ∙ ap (λ ts. listed class now ++ ts) (declares_one class (declaration_of d)))

  pub one_more_bound : (now new : BoundNames A) (d : Declaration B) → take (i + 1) items ≡ take i items ++ d ∷ [] → met now ≡ bound_spellings (map declaration_of (take i items)) → met new ≡ with_spellings (met now) (spellings (bound_in_declaration (declaration_of d))) →
      met new ≡ bound_spellings (map declaration_of (take (i + 1) items))
  one_more_bound now new d cut so_far one =
      one_more with_spellings with_more bound_by bound_in_parts items i [] (met now) (met new) d cut so_far (one ∙ ap (with_spellings (met now)) (binds_one (declaration_of d)))

  -- behind the last one, the names are those of the tree
  pub all_named : (names : Names A) (bound : BoundNames A) (list : Vec (Bor (List ℕ)) A) (all : List (Declaration B)) → length items ≤ i → items ≡ all → names.types ≡ None →
      AreDeclaredIn (map declaration_of (take i items)) names → met bound ≡ bound_spellings (map declaration_of (take i items)) → spellings_of list.items ≡ in_bytes (met bound) →
      names_of (with_bound names list) ≡ names_in (map declaration_of all)
  all_named names bound list all over same none declared met_all written =
      let P : List (Declaration B) → Type 0 = λ ds. names_of (with_bound names list) ≡ names_in (map declaration_of ds) in
      subst P same (all_classes names list (map declaration_of items) none
      (λ class. all_added (λ ss ts. ss ++ ts) texts_in_turn (texts_of_declarations class) (declarations_in_parts class) items i [] (listed class names) over (declared class))
      (written ∙ ap in_bytes (all_added with_spellings with_more bound_by bound_in_parts items i [] (met bound) over met_all)))
