-- Bound names that are met.
use Rattle.std.specs.Prelude.{◌≡◌, ℕ, List, Result, OnOk}
use Rattle.theory_checking.specs.Names.{with_spellings}
use Rattle.printed_names.specs.declared.bound_names.BoundNames.{BoundNames}
use Rattle.printed_names.specs.Texts.{spelled}

-- the spellings that were met
abbrev pub met : {A : Type 0} → BoundNames A → List (List ℕ)
met bound = spelled bound.spellings.keys

-- Between the two these spellings were met. Where memory was refused, nothing is said.
abbrev pub Meets : {T E A : Type 0} → Result T E → BoundNames A → BoundNames A → List (List ℕ) → Type 0
Meets result old new ss = OnOk result (met new ≡ with_spellings (met old) ss)
