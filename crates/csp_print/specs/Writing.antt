-- What is written into a text.
use Rattle.std.specs.Prelude.{◌≡◌, ℕ, List, ◌++◌, Result, OnOk}
use Rattle.std.specs.String.{string_bytes}
use Rattle.std.specs.declared.string.String.{String}

-- These bytes were put behind what stood there. Where memory was refused, nothing is said.
abbrev pub Writes : {T E A : Type 0} → Result T E → String A → String A → List ℕ → Type 0
Writes result old new bytes = OnOk result (string_bytes new ≡ string_bytes old ++ bytes)
