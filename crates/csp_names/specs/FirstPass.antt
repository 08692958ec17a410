-- What the first pass makes of the declared names of a tree.
use Rattle.std.specs.Prelude.{◌≡◌, ℕ, List, [], ◌∷◌, ◌++◌, length, map, flat_map, Result, Ok, Err, ⊤}
use Rattle.std.specs.Str.{chars}
use Rattle.theory_text.specs.Raw.{RawName, RawClause, RawDeclaration, RawScript}
use Rattle.csp_lex.specs.Places.{place_of}
use Rattle.theory_checking.specs.DeclaredRows.{Row, declared_rows, row_spellings}
use Rattle.theory_checking.specs.Faults.{IsFirstRefused, NoneRefused}
use Rattle.theory_checking.specs.Names.{DatatypeName, NametypeName, constructor_fields, names_of, spellings}
use Rattle.theory_checking.specs.Rules.{all_declared, fields_declared, IsRedeclared, parameters_declared}
use Rattle.csp_names.specs.declared.meanings.Declared.{Declared}
use Rattle.csp_names.specs.declared.name_table.NameTable.{NameTable}
use Rattle.csp_names.specs.declared.names.Names.{Names}
use Rattle.csp_names.specs.declared.refusals.Refused.{Refused}
use Rattle.csp_names.specs.declared.refusals.Refused.TheVariants as refused
use Rattle.csp_names.specs.Meanings.{declared_of}
use Rattle.csp_names.specs.Refusals.{fault_of}
use Rattle.csp_names.specs.Rows.{AreTexts}

-- the row of a name
abbrev pub row_of : RawName → Declared → Row
row_of n d = (n.spelling, declared_of d)

-- the rows of the names in a table
abbrev pub rows_of : {A : Type 0} → Names A → List Row
rows_of names = map (λ e. (chars e.0.now, declared_of e.1)) names.table.entries

-- the names are those of the tree, each declared once
pub record AreNamesOf {A : Type 0} (names : Names A) (raw : RawScript) : Type 0 where
  pub texts : AreTexts names.table.entries
  pub rows : rows_of names ≡ declared_rows raw
  pub once : NoneRefused IsRedeclared (all_declared raw)
  pub parameters : names.parameters.items ≡ flat_map parameters_declared raw
  pub constructors : names.constructors.items ≡ flat_map constructor_fields raw
  pub fields : names.fields.items ≡ flat_map fields_declared raw

-- this is the first of the names that is declared again; where there is no room, nothing is said
abbrev pub IsRedeclaration : List RawName → Refused → Type 0
IsRedeclaration ns (refused.Fault f p) = (n : RawName) × IsFirstRefused IsRedeclared ns n (fault_of f) × (place_of p ≡ n.place)
IsRedeclaration ns refused.Memory = ⊤

abbrev pub IsFirstPassRefusal : RawScript → Refused → Type 0
IsFirstPassRefusal raw r = IsRedeclaration (all_declared raw) r

-- ---- names that are added

-- The table holds these names, each declared once.
pub record Holds {A : Type 0} (names : Names A) (ns : List RawName) : Type 0 where
  pub texts : AreTexts names.table.entries
  pub spelled : row_spellings (rows_of names) ≡ spellings ns
  pub once : NoneRefused IsRedeclared ns

-- how many fields the constructors of clauses have
abbrev pub clause_counts : List RawClause → List ℕ
clause_counts cs = map (λ c. length c.fields) cs

-- Between the two, names were added: their rows, and so many parameters, fields of constructors and fields of channels.
-- Behind any names that the table held, each was declared for the first time.
pub record Adds {A : Type 0} (old new : Names A) (rs : List Row) (added : List RawName) (ps ks fs : List ℕ) : Type 0 where
  pub rows : rows_of new ≡ rows_of old ++ rs
  pub parameters : new.parameters.items ≡ old.parameters.items ++ ps
  pub constructors : new.constructors.items ≡ old.constructors.items ++ ks
  pub fields : new.fields.items ≡ old.fields.items ++ fs
  pub held : (ns : List RawName) → Holds old ns → Holds new (ns ++ added)

-- behind any names that the table holds, the first of these that is declared again
abbrev pub Redeclares : {A : Type 0} → Names A → List RawName → Refused → Type 0
Redeclares old added r = (ns : List RawName) → Holds old ns → IsRedeclaration (ns ++ added) r

abbrev pub AddsNames : {A T : Type 0} → Names A → Names A → List Row → List RawName → List ℕ → List ℕ → List ℕ → Result T Refused → Type 0
AddsNames old new rs added ps ks fs (Ok t) = Adds old new rs added ps ks fs
AddsNames old new rs added ps ks fs (Err r) = Redeclares old added r

-- ---- declaration by declaration

-- The names are those of the declarations so far, and the numbers of each class go on behind those of its names.
pub record IsTableOf {A : Type 0} (table : NameTable A) (above : RawScript) : Type 0 where
  pub names : AreNamesOf table.names above
  pub datatypes : table.datatypes ≡ length (names_of DatatypeName above)
  pub nametypes : table.nametypes ≡ length (names_of NametypeName above)

-- The table of any declarations above is then that of one more, or a name of it is the first that is declared again.
abbrev pub AddsDeclaration : {A T : Type 0} → NameTable A → NameTable A → RawDeclaration → Result T Refused → Type 0
AddsDeclaration old new d (Ok t) = (above : RawScript) → IsTableOf old above → IsTableOf new (above ++ d ∷ [])
AddsDeclaration old new d (Err r) = (above : RawScript) → IsTableOf old above → IsFirstPassRefusal (above ++ d ∷ []) r
