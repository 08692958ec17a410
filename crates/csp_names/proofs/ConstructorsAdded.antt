-- The constructors of a datatype's clauses that are added to a table, one behind the other.
use Rattle.std.specs.Prelude.{get_or, map, take}
use Rattle.std.proofs.lemmas.List.{get_or-map, length-map, length-take-le, map-append, take_all, take_more}
use Rattle.std.proofs.Common.{vec_len, ◌≡◌, ◌<◌, ◌≤◌, ℕ, ◌+◌, List, [], ◌∷◌, ◌++◌, append-nil, arith, length, length-append, sym, ap, ◌∙◌, subst}
use Rattle.theory_text.specs.Raw.{RawClause, RawName}
use Rattle.theory_checking.specs.DeclaredRows.{numbered_rows}
use Rattle.theory_checking.specs.Names.{ConstructorName, Declared, clause_names}
use Rattle.csp_parse.specs.declared.declarations.Clause.{Clause}
use Rattle.csp_parse.specs.Declarations.{clause_of, domain_of}
use Rattle.csp_parse.specs.Names.{name_of}
use Rattle.csp_names.specs.declared.names.Names.{Names}
use Rattle.csp_names.specs.declared.refusals.Refused.{Refused}
use Rattle.csp_names.specs.FirstPass.{Adds, Redeclares, clause_counts}
use Rattle.csp_names.proofs.NamesAdded.{AddsFirst, added_both, counts_added, one_more_added, one_redeclares}

abbrev pub clause_name : RawClause → RawName
clause_name c = c.name

-- the clauses so far have been added, behind the constructors that the table held
abbrev pub AddsClauses : {A B : Type 0} → List (Clause B) → ℕ → Names A → Names A → Type 0
AddsClauses cs i a b = AddsFirst clause_name ConstructorName (length a.constructors.items) (map clause_of cs) i a b (clause_counts (take i (map clause_of cs))) []

module _ {B : Type 0} (cs : List (Clause B)) (i : ℕ) (x : Clause B) (within : i < length cs) (read : x ≡ get_or cs i x) where
  there : i < length (map clause_of cs)
  there = let P : ℕ → Type 0 = λ n. i < n in subst P (sym (length-map cs clause_of)) within

  this : clause_of x ≡ get_or (map clause_of cs) i (clause_of x)
  this = ap clause_of read ∙ sym (get_or-map clause_of cs i x (clause_of x) within)

  -- one constructor more, with its number of fields
  pub one_more_constructor : {A : Type 0} (a b m c : Names A) (k count : ℕ) → AddsClauses cs i a b → k ≡ vec_len b.constructors →
      Adds b m (((name_of x.name).spelling, Declared ConstructorName k) ∷ []) (name_of x.name ∷ []) [] [] [] → count ≡ vec_len x.fields →
      c.table ≡ m.table → c.parameters.items ≡ m.parameters.items → c.constructors.items ≡ m.constructors.items ++ count ∷ [] → c.fields.items ≡ m.fields.items → AddsClauses cs (i + 1) a c
  one_more_constructor a b m c k count so_far number one counted same parameters pushed fields =
      let items : List RawClause = map clause_of cs in
      let so_many : length (clause_counts (take i items)) ≡ i = length-map (take i items) (λ y. length y.fields) ∙ length-take-le i items (omega (arith, there)) in
      let first : vec_len b.constructors ≡ length a.constructors.items + i =
      b.constructors.ok.0 ∙ ap length so_far.constructors ∙ length-append a.constructors.items (clause_counts (take i items)) ∙ ap (λ n. length a.constructors.items + n) so_many in
      let counts : clause_counts (take (i + 1) items) ≡ clause_counts (take i items) ++ count ∷ [] =
      ap clause_counts (take_more items i (clause_of x) there ∙ ap (λ y. take i items ++ y ∷ []) (sym this)) ∙ map-append (λ y. length y.fields) (take i items) (clause_of x ∷ [])
      ∙ ap (λ n. clause_counts (take i items) ++ n ∷ []) (length-map x.fields.items domain_of ∙ sym (counted ∙ x.fields.ok.0)) in
      let added : Adds m c [] [] [] (count ∷ []) [] =
      counts_added m c [] (count ∷ []) [] same (parameters ∙ sym (append-nil m.parameters.items)) pushed (fields ∙ sym (append-nil m.fields.items)) in
      let P : RawClause → Type 0 = λ y. Adds b c ((y.name.spelling, Declared ConstructorName k) ∷ []) (y.name ∷ []) [] (count ∷ []) [] in
      let Q : List ℕ → Type 0 = λ ks. AddsFirst clause_name ConstructorName (length a.constructors.items) items (i + 1) a c ks [] in
      subst Q (sym counts)
      (one_more_added clause_name ConstructorName (length a.constructors.items) items i (clause_of x) there a b (clause_counts (take i items)) [] c k (count ∷ []) [] so_far (number ∙ first)
      (subst P this (added_both b m c _ _ _ _ [] [] [] (count ∷ []) [] [] one added)))

  -- one that is declared again
  pub constructor_redeclared : {A : Type 0} (a b : Names A) (r : Refused) → AddsClauses cs i a b → Redeclares b (name_of x.name ∷ []) r → Redeclares a (clause_names (map clause_of cs)) r
  constructor_redeclared a b r so_far h =
      let P : RawClause → Type 0 = λ y. Redeclares b (y.name ∷ []) r in
      one_redeclares clause_name ConstructorName (length a.constructors.items) (map clause_of cs) i (clause_of x) there a b (clause_counts (take i (map clause_of cs))) [] r so_far (subst P this h)

pub all_constructors : {A B : Type 0} (cs : List (Clause B)) (i : ℕ) (a b : Names A) → length cs ≤ i → AddsClauses cs i a b →
    Adds a b (numbered_rows ConstructorName (length a.constructors.items) (clause_names (map clause_of cs))) (clause_names (map clause_of cs)) [] (clause_counts (map clause_of cs)) []
all_constructors cs i a b over so_far =
    let P : List RawClause → Type 0 = λ zs. Adds a b (numbered_rows ConstructorName (length a.constructors.items) (clause_names zs)) (clause_names zs) [] (clause_counts zs) [] in
    let Q : ℕ → Type 0 = λ n. n ≤ i in
    subst P (take_all i (map clause_of cs) (subst Q (sym (length-map cs clause_of)) over)) so_far
