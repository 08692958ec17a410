-- What the names stand for behind an input.
use Rattle.std.specs.Prelude.{ℕ, List, [], ◌∷◌, map, Option, Some, None}
use Rattle.theory_syntax.specs.Value.{Value}
use Rattle.theory_syntax.specs.Process.{Field}
use Rattle.theory_syntax.specs.Types.{Types}
use Rattle.theory_semantics.specs.Meaning.Substitution.{Bindings, bind}
use Rattle.theory_faults.specs.Culprit.{Culprit, first_found}
use Rattle.theory_faults.specs.Events.{fields_culprit}
use Rattle.csp_value.specs.Value.{values_of}
use Rattle.csp_faults.specs.declared.fields.Taken.{Taken}

-- what the names stand for behind a field: an input gives its name each of its values; else nothing is bound
abbrev pub behind_of : {A : Type 0} → Bindings → Option (Taken A) → List Bindings
behind_of bs (Some t) = map (λ v. bind t.name.0 v bs) (values_of t.values.items)
behind_of bs None = bs ∷ []

-- what is to blame in fields, for one of these bindings
abbrev pub culprit_behind : Types → ℕ → ℕ → List Bindings → List Field → List (List Value) → Option Culprit
culprit_behind types c i dss fs sets = first_found (λ ds. fields_culprit types c i ds fs sets) dss
