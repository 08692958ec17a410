-- The environments that a scope stands for, by the names of a script, and what the walks of its declarations leave.
use Rattle.std.specs.Prelude.{cond, flat_map, option_map, take, slice_get, Ok, Err, ◌↔◌}
use Rattle.std.specs.Borrow.{Bor}
use Rattle.std.specs.Option.{option_map_or}
use Rattle.std.specs.Str.{bytes_eq, chars}
use Rattle.std.proofs.lemmas.Grind.{flat_map-append}
use Rattle.std.proofs.lemmas.List.{append_assoc, length-map, map-append}
use Rattle.std.proofs.Common.{◌≡◌, ℕ, zero, suc, ◌+◌, ◌<◌, ◌≤◌, Bool, true, false, List, [], ◌∷◌, ◌++◌, append-nil, arith, length, length-append, map, Some, None, refl, sym, ap, ◌∙◌, subst}
use Rattle.theory_syntax.specs.Value.{Value}
use Rattle.theory_text.specs.Place.{Place}
use Rattle.theory_text.specs.Raw.{RawName, RawDeclaration, RawEquation, RawAssertion, RawProcess, RawProperty, RawScript}
use Rattle.theory_checking.specs.DeclaredRows.{meaning_in}
use Rattle.theory_checking.specs.Names as checking
use Rattle.theory_checking.specs.Names.{bound_in_declaration, ConstructorName, constructor_fields, Declared, declared, declared_meaning, Environment, environment_above, environment_of, fields_of_constructor, names_of, number_in, spellings, with_spellings}
use Rattle.theory_checking.specs.Resolving as resolving
use Rattle.theory_checking.specs.Rules.{all_declared, HasFieldSets}
use Rattle.theory_checking.specs.Sites.{in_declaration}
use Rattle.theory_checking.specs.Walks.{AllFine}
use Rattle.theory_checking.proofs.DeclaredRows.{rows_counted}
use Rattle.theory_checking.proofs.Meant.{at_place, class_number, constructors_counted, number_within}
use Rattle.theory_checking.proofs.OneMore.{flat_map_one_more}
use Rattle.theory_checking.proofs.RowMeanings.{meaning_above_is_row}
use Rattle.theory_checking.proofs.Spellings.{number_stays_in_tree, with_more}
use Rattle.theory_checking.proofs.Unrefused.{got_more}
use Rattle.csp_term.specs.declared.assertion.Assertion.{Assertion}
use Rattle.csp_term.specs.declared.script.Equation.{Equation}
use Rattle.csp_term.specs.Script.{assertion_of, equation_of}
use Rattle.csp_names.specs.declared.bound_names.BoundNames.{BoundNames}
use Rattle.csp_names.specs.declared.meanings.Declared as meanings
use Rattle.csp_names.specs.declared.names.Names.{Names}
use Rattle.csp_names.specs.declared.refusals.Refused.{Refused}
use Rattle.csp_names.specs.declared.scope.Scope.{Scope}
use Rattle.csp_names.specs.FirstPass.{AreNamesOf}
use Rattle.csp_names.specs.Meanings.{declared_of}
use Rattle.csp_names.specs.Rows.{AreTexts, row_at, spelled}
use Rattle.csp_names.specs.Scopes.{Binds, bound_rows, bound_spellings, declared_at, HaveNumbersIn, IsBetween, IsInOrder, known_sets, KnowsScript, StandsFor, times_at}
use Rattle.csp_names.specs.Walks.{ResolvesAssertion, ResolvesDefinition, Serves, Stops}
use Rattle.csp_names.proofs.NamesAdded.{row_of_entry}

-- ---- what the first names mean is what their rows say

said : (es : List (Bor (List ℕ) × meanings.Declared)) (n : ℕ) (s : List ℕ) → option_map declared_of (row_at (take n (spelled es)) s) ≡ meaning_in (take n (map row_of_entry es)) s
said es zero s = refl
said [] (suc n) s = refl
said (e ∷ es) (suc n) s = go (bytes_eq (chars e.0.now) s) (said es n s)
  where
    go : (b : Bool) → option_map declared_of (row_at (take n (spelled es)) s) ≡ meaning_in (take n (map row_of_entry es)) s →
        option_map declared_of (cond b (Some e.1) (row_at (take n (spelled es)) s)) ≡ cond b (Some (declared_of e.1)) (meaning_in (take n (map row_of_entry es)) s)
    go true rest = refl
    go false rest = rest

-- one declaration more
pub count_next : (above : RawScript) (d : RawDeclaration) → length (all_declared (above ++ d ∷ [])) ≡ length (all_declared above) + length (declared d)
count_next above d = ap length (flat_map_one_more declared above d) ∙ length-append (all_declared above) (declared d)

module _ {A : Type 0} (names : Names A) (raw : RawScript) (are : AreNamesOf names raw) where
  -- as many names are in the table as are declared
  pub names_counted : length names.table.entries ≡ length (all_declared raw)
  names_counted = sym (length-map names.table.entries row_of_entry) ∙ ap length are.rows ∙ rows_counted raw

  -- the declarations above declare the first of them
  pub count_within : (above below : RawScript) → raw ≡ above ++ below → length (all_declared above) ≤ length names.table.entries
  count_within above below is =
      let e : length names.table.entries ≡ length (all_declared above) + length (all_declared below) =
      names_counted ∙ ap (λ ds. length (all_declared ds)) is ∙ ap length (flat_map-append declared above below) ∙ length-append (all_declared above) (all_declared below) in
      omega (arith, e)

  pub declared_above : (above below : RawScript) (s : List ℕ) → raw ≡ above ++ below → declared_meaning above s ≡ declared_at names (length (all_declared above)) s
  declared_above above below s is =
      meaning_above_is_row raw above below s are.once is ∙ ap (λ rows. meaning_in (take (length (all_declared above)) rows) s) (sym are.rows) ∙ sym (said names.table.entries (length (all_declared above)) s)

  pub declared_in_all : (s : List ℕ) → declared_meaning raw s ≡ declared_at names (length names.table.entries) s
  declared_in_all s = declared_above raw [] s (sym (append-nil raw)) ∙ ap (λ n. declared_at names n s) (sym names_counted)

  -- a constructor above has the number of fields that the table tells
  pub fields_above : (above below : RawScript) (s : List ℕ) (k : ℕ) → raw ≡ above ++ below → declared_meaning above s ≡ Some (Declared ConstructorName k) →
      fields_of_constructor above k ≡ slice_get names.constructors.items k
  fields_above above below s k is means =
      let small : k < length (names_of ConstructorName above) = number_within (names_of ConstructorName above) s k (class_number above s ConstructorName k means) in
      let P : ℕ → Type 0 = λ n. k < n in
      let there = at_place (flat_map constructor_fields above) k (subst P (sym (constructors_counted above)) small) in
      let all : names.constructors.items ≡ flat_map constructor_fields above ++ flat_map constructor_fields below =
      are.constructors ∙ ap (flat_map constructor_fields) is ∙ flat_map-append constructor_fields above below in
      there.1 ∙ sym (ap (λ xs. slice_get xs k) all ∙ got_more (flat_map constructor_fields above) (flat_map constructor_fields below) k there.0 there.1)

-- ---- the environments that a scope stands for

module _ {A : Type 0} (scope : Scope A) (raw : RawScript) (are : AreNamesOf scope.names.now raw) where
  pub knows_script : ((c : ℕ) (sets : List (List Value)) → (slice_get (map known_sets scope.field_sets.now) c ≡ Some (Some sets)) ↔ HasFieldSets raw c sets) → KnowsScript scope raw
  knows_script sets = record { parameters = sym are.parameters; fields = sym are.fields; field_sets = sets }

  module _ (bound : BoundNames A) (in_order : IsInOrder bound) (unbound : (s : List ℕ) → times_at bound s ≡ 0) where
    -- where the names of the declarations above can be used
    pub stands_above : (above below : RawScript) → raw ≡ above ++ below → scope.visible ≡ length (all_declared above) → HaveNumbersIn (bound_spellings bound) (environment_above above).numbered → StandsFor scope bound (environment_above above)
    stands_above above below is visible numbered = record {
      texts = are.texts;
      declared = λ s. declared_above scope.names.now raw are above below s is ∙ ap (λ n. declared_at scope.names.now n s) (sym visible);
      constructors = λ s k means. fields_above scope.names.now raw are above below s k is means;
      in_order = in_order;
      numbered = numbered;
      times = unbound;
    }

    -- where those of the whole script can be used
    pub stands_in_script : scope.visible ≡ length scope.names.now.table.entries → HaveNumbersIn (bound_spellings bound) (environment_of raw).numbered → StandsFor scope bound (environment_of raw)
    stands_in_script visible numbered = record {
      texts = are.texts;
      declared = λ s. declared_in_all scope.names.now raw are s ∙ ap (λ n. declared_at scope.names.now n s) (sym visible);
      constructors = λ s k means. fields_above scope.names.now raw are raw [] s k (sym (append-nil raw)) means;
      in_order = in_order;
      numbered = numbered;
      times = unbound;
    }

-- ---- no names are bound yet

module _ {A : Type 0} (bound : BoundNames A) (none : bound.table.entries ≡ []) where
  no_rows : bound_rows bound ≡ []
  no_rows = ap spelled none

  pub none_in_order : IsInOrder bound
  none_in_order = record {
    texts = subst AreTexts (sym none) tt;
    numbers = λ s. ap (λ rows. option_map (λ r. r.name.0) (row_at rows s)) no_rows ∙ sym (ap (λ rows. number_in (map (λ r. r.0) rows) s) no_rows);
  }

  pub none_bound : (s : List ℕ) → times_at bound s ≡ 0
  none_bound s = ap (λ rows. option_map_or (λ r. r.times) (row_at rows s) 0) no_rows

  pub none_numbered : (table : List (List ℕ)) → HaveNumbersIn (bound_spellings bound) table
  none_numbered table s i e = let some : None ≡ Some i = sym (ap (λ rows. number_in (map (λ r. r.0) rows) s) no_rows) ∙ e in absurd (cc some)

  pub between_start : IsBetween bound []
  between_start = record { in_order = none_in_order; spellings = ap (map (λ r. r.0)) no_rows; unbound = none_bound }

  -- the scope of a set of a nametype or field
  pub set_stands : (scope : Scope A) (raw above below : RawScript) → AreNamesOf scope.names.now raw → raw ≡ above ++ below → scope.visible ≡ length (all_declared above) → StandsFor scope bound (environment_above above)
  set_stands scope raw above below are is visible = stands_above scope raw are bound none_in_order none_bound above below is visible (none_numbered (environment_above above).numbered)

-- ---- from one declaration to the next

-- the spellings that one declaration more binds
bound_in_one_more : (above : RawScript) (d : RawDeclaration) → checking.bound_spellings (above ++ d ∷ []) ≡ with_spellings (checking.bound_spellings above) (spellings (bound_in_declaration d))
bound_in_one_more above d =
    ap (λ ns. with_spellings [] (spellings ns)) (flat_map_one_more bound_in_declaration above d) ∙ ap (with_spellings []) (map-append (λ n. n.spelling) (flat_map bound_in_declaration above) (bound_in_declaration d))
    ∙ with_more [] (spellings (flat_map bound_in_declaration above)) (spellings (bound_in_declaration d))

-- each of them has its number in the whole script
numbers_above : (raw above below : RawScript) → raw ≡ above ++ below → HaveNumbersIn (checking.bound_spellings above) (checking.bound_spellings raw)
numbers_above raw above below is s i e =
    number_stays_in_tree raw (flat_map bound_in_declaration above) (flat_map bound_in_declaration below) s i (ap (flat_map bound_in_declaration) is ∙ flat_map-append bound_in_declaration above below) e

module _ {A : Type 0} (old new : BoundNames A) (above : RawScript) (d : RawDeclaration) (between : IsBetween old above) where
  -- behind a declaration whose names were met, and none of which is still bound
  pub between_next : Binds old new (spellings (bound_in_declaration d)) [] → IsBetween new (above ++ d ∷ [])
  between_next binds = record {
    in_order = binds.in_order;
    spellings = binds.spellings ∙ ap (λ ss. with_spellings ss (spellings (bound_in_declaration d))) between.spellings ∙ sym (bound_in_one_more above d);
    unbound = λ s. binds.times s ∙ ap (λ n. 0 + n) (between.unbound s);
  }

-- behind one that binds no names
pub between_same : {A : Type 0} (bound : BoundNames A) (above : RawScript) (d : RawDeclaration) → IsBetween bound above → bound_in_declaration d ≡ [] → IsBetween bound (above ++ d ∷ [])
between_same bound above d between none = record {
  in_order = between.in_order;
  spellings = between.spellings ∙ sym (bound_in_one_more above d ∙ ap (λ ns. with_spellings (checking.bound_spellings above) (spellings ns)) none);
  unbound = between.unbound;
}

-- ---- the walk of a declaration, between two

module _ {A : Type 0} (scope : Scope A) (raw above below : RawScript) (d : RawDeclaration) (are : AreNamesOf scope.names.now raw) (knows : KnowsScript scope raw) (visible : scope.visible ≡ length scope.names.now.table.entries)
    (is : raw ≡ above ++ d ∷ below) (old : BoundNames A) (between : IsBetween old above) where
  behind_this : raw ≡ (above ++ d ∷ []) ++ below
  behind_this = is ∙ sym (append_assoc above (d ∷ []) below)

  pub serves_between : Serves scope old (spellings (bound_in_declaration d)) (environment_of raw)
  serves_between =
      let P : List (List ℕ) → Type 0 = λ ss. HaveNumbersIn ss (checking.bound_spellings raw) in
      record {
        stands = stands_in_script scope raw are old between.in_order between.unbound visible (subst P (sym between.spellings) (numbers_above raw above (d ∷ below) is));
        knows = knows;
        numbers = subst P (bound_in_one_more above d ∙ sym (ap (λ ss. with_spellings ss (spellings (bound_in_declaration d))) between.spellings)) (numbers_above raw (above ++ d ∷ []) below behind_this);
      }

-- A definition that is resolved: its sites are fine, it stands for this equation, and behind it stands the next declaration.
module _ {A : Type 0} (scope : Scope A) (raw above below : RawScript) (n : RawName) (ns : List RawName) (p : RawProcess) (are : AreNamesOf scope.names.now raw) (knows : KnowsScript scope raw) (visible : scope.visible ≡ length scope.names.now.table.entries)
    (is : raw ≡ above ++ RawEquation n ns p ∷ below) (old new : BoundNames A) (between : IsBetween old above) where
  pub definition_resolved : (x : Equation A) → ResolvesDefinition scope old new ns p (Ok x) → AllFine (in_declaration raw above (RawEquation n ns p)) × (resolving.equation_of (environment_of raw) ns p ≡ Some (equation_of x))
  definition_resolved x done = done.fine (environment_of raw) (serves_between scope raw above below (RawEquation n ns p) are knows visible is old between)

  pub behind_definition : (x : Equation A) → ResolvesDefinition scope old new ns p (Ok x) → IsBetween new (above ++ RawEquation n ns p ∷ [])
  behind_definition x done = between_next old new above (RawEquation n ns p) between (done.bound between.in_order)

  -- or it is refused
  pub definition_refused : (r : Refused) → ResolvesDefinition scope old new ns p (Err r) → Stops (in_declaration raw above (RawEquation n ns p)) r
  definition_refused r halts = halts (environment_of raw) (serves_between scope raw above below (RawEquation n ns p) are knows visible is old between)

-- an assertion likewise
module _ {A : Type 0} (scope : Scope A) (raw above below : RawScript) (t : Place) (n : Bool) (a : RawProperty) (p : RawProcess) (are : AreNamesOf scope.names.now raw) (knows : KnowsScript scope raw) (visible : scope.visible ≡ length scope.names.now.table.entries)
    (is : raw ≡ above ++ RawAssertion t n a p ∷ below) (old new : BoundNames A) (between : IsBetween old above) where
  pub assertion_resolved : (x : Assertion A) → ResolvesAssertion scope old new n a p (Ok x) → AllFine (in_declaration raw above (RawAssertion t n a p)) × (resolving.assertion_of (environment_of raw) n a p ≡ Some (assertion_of x))
  assertion_resolved x done = done.fine (environment_of raw) (serves_between scope raw above below (RawAssertion t n a p) are knows visible is old between)

  pub behind_assertion : (x : Assertion A) → ResolvesAssertion scope old new n a p (Ok x) → IsBetween new (above ++ RawAssertion t n a p ∷ [])
  behind_assertion x done = between_next old new above (RawAssertion t n a p) between (done.bound between.in_order)

  pub assertion_refused : (r : Refused) → ResolvesAssertion scope old new n a p (Err r) → Stops (in_declaration raw above (RawAssertion t n a p)) r
  assertion_refused r halts = halts (environment_of raw) (serves_between scope raw above below (RawAssertion t n a p) are knows visible is old between)
