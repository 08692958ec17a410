-- The environment that a scope stands for.
use Rattle.std.specs.Prelude.{◌≡◌, ◌≢◌, ◌↔◌, ℕ, suc, ◌+◌, cond, List, [], ◌∷◌, length, map, flat_map, take, slice_get, Option, Some, option_and_then, option_map}
use Rattle.std.specs.Option.{option_map_or}
use Rattle.std.specs.Str.{bytes_eq}
use Rattle.theory_text.specs.Raw.{RawScript}
use Rattle.theory_checking.specs.Names as checking
use Rattle.theory_checking.specs.Names.{Environment, declared_meaning, number_in, with_spellings}
use Rattle.theory_checking.specs.Rules.{HasFieldSets, fields_declared, parameters_declared}
use Rattle.csp_value.specs.Fields.{field_values}
use Rattle.theory_syntax.specs.Value.{Value}
use Rattle.csp_value.specs.declared.field_set.FieldSet.{FieldSet}
use Rattle.std.specs.declared.vec.Vec.{Vec}
use Rattle.csp_names.specs.declared.bound_names.BoundName.{BoundName}
use Rattle.csp_names.specs.declared.bound_names.BoundNames.{BoundNames}
use Rattle.csp_names.specs.declared.names.Names.{Names}
use Rattle.csp_names.specs.declared.scope.Scope.{Scope}
use Rattle.csp_names.specs.Meanings.{declared_of}
use Rattle.csp_names.specs.Rows.{AreTexts, put_row, row_at, spelled}

-- ---- declared names

-- what a spelling means as one of so many first declared names
abbrev pub declared_at : {A : Type 0} → Names A → ℕ → List ℕ → Option checking.Meaning
declared_at names visible s = option_map declared_of (row_at (take visible (spelled names.table.entries)) s)

-- ---- bound names

-- how often the spelling is one of them
abbrev pub occurrences : List (List ℕ) → List ℕ → ℕ
occurrences [] s = 0
occurrences (t ∷ ts) s = cond (bytes_eq t s) (suc (occurrences ts s)) (occurrences ts s)

abbrev pub bound_rows : {A : Type 0} → BoundNames A → List (List ℕ × BoundName)
bound_rows bound = spelled bound.table.entries

-- the spellings so far
abbrev pub bound_spellings : {A : Type 0} → BoundNames A → List (List ℕ)
bound_spellings bound = map (λ r. r.0) (bound_rows bound)

-- the number of a spelling, and how often it is bound here
abbrev pub number_at : {A : Type 0} → BoundNames A → List ℕ → Option ℕ
number_at bound s = option_map (λ r. r.name.0) (row_at (bound_rows bound) s)

abbrev pub times_at : {A : Type 0} → BoundNames A → List ℕ → ℕ
times_at bound s = option_map_or (λ r. r.times) (row_at (bound_rows bound) s) 0

-- a row was put
pub record IsPut {A : Type 0} (old new : BoundNames A) (s : List ℕ) (row : BoundName) : Type 0 where
  pub texts : AreTexts new.table.entries
  pub rows : bound_rows new ≡ put_row (bound_rows old) s row

-- each spelling has the number of its place
pub record IsInOrder {A : Type 0} (bound : BoundNames A) : Type 0 where
  pub texts : AreTexts bound.table.entries
  pub numbers : (s : List ℕ) → number_at bound s ≡ number_in (bound_spellings bound) s

-- the numbers of these spellings are their numbers in the table
abbrev pub HaveNumbersIn : List (List ℕ) → List (List ℕ) → Type 0
HaveNumbersIn ss table = (s : List ℕ) (i : ℕ) → number_in ss s ≡ Some i → number_in table s ≡ Some i

-- Between the two, these spellings were met as bound names, and those of the inner ones are still bound, each once more
-- for each time that it is one of them.
pub record Binds {A : Type 0} (old new : BoundNames A) (met inner : List (List ℕ)) : Type 0 where
  pub in_order : IsInOrder new
  pub spellings : bound_spellings new ≡ with_spellings (bound_spellings old) met
  pub times : (s : List ℕ) → times_at new s ≡ occurrences inner s + times_at old s

-- These bindings have ended between the two: a name that was bound for each time that it is one of them, and some times
-- more, is bound so many times now.
pub record Releases {A : Type 0} (old new : BoundNames A) (inner : List (List ℕ)) : Type 0 where
  pub in_order : IsInOrder new
  pub spellings : bound_spellings new ≡ bound_spellings old
  pub times : (s : List ℕ) (k : ℕ) → times_at old s ≡ occurrences inner s + k → times_at new s ≡ k

-- Between two declarations: the names so far are those that the declarations above bind, and none of them is bound
-- here.
pub record IsBetween {A : Type 0} (bound : BoundNames A) (above : RawScript) : Type 0 where
  pub in_order : IsInOrder bound
  pub spellings : bound_spellings bound ≡ checking.bound_spellings above
  pub unbound : (s : List ℕ) → times_at bound s ≡ 0

-- ---- both

-- The scope, with the names that are bound here, is the environment.
pub record StandsFor {A : Type 0} (scope : Scope A) (bound : BoundNames A) (env : Environment) : Type 0 where
  pub texts : AreTexts scope.names.now.table.entries
  pub declared : (s : List ℕ) → declared_meaning env.declarations s ≡ declared_at scope.names.now scope.visible s
  pub constructors : (s : List ℕ) (k : ℕ) → declared_meaning env.declarations s ≡ Some (checking.Declared checking.ConstructorName k) →
      checking.fields_of_constructor env.declarations k ≡ slice_get scope.names.now.constructors.items k
  pub in_order : IsInOrder bound
  pub numbered : HaveNumbersIn (bound_spellings bound) env.numbered
  pub times : (s : List ℕ) → times_at bound s ≡ occurrences env.bound s

-- the field sets of a channel, if they are known
abbrev pub known_sets : {A : Type 0} → Option (Vec (FieldSet A) A) → Option (List (List Value))
known_sets o = option_map (λ sets. map field_values sets.items) o

-- The scope has the numbers of parameters and fields of the whole script, and the field sets of each channel of which
-- no rule refuses one.
pub record KnowsScript {A : Type 0} (scope : Scope A) (raw : RawScript) : Type 0 where
  pub parameters : flat_map parameters_declared raw ≡ scope.names.now.parameters.items
  pub fields : flat_map fields_declared raw ≡ scope.names.now.fields.items
  pub field_sets : (c : ℕ) (sets : List (List Value)) → (slice_get (map known_sets scope.field_sets.now) c ≡ Some (Some sets)) ↔ HasFieldSets raw c sets

-- those of this channel
abbrev pub sets_at : {A : Type 0} → Scope A → ℕ → Option (List (List Value))
sets_at scope c = option_and_then (λ o. o) (slice_get (map known_sets scope.field_sets.now) c)

-- both are known, as many, and not equal in turn
abbrev pub AreUnlike : Option (List (List Value)) → Option (List (List Value)) → Type 0
AreUnlike (Some s) (Some t) = (length s ≡ length t) × (s ≢ t)
AreUnlike _ _ = ⊥
