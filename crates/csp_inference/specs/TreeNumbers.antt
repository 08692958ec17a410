-- The numbers of the kinds of a tree's parts.
use Rattle.std.specs.Prelude.{◌≡◌, ℕ, ◌+◌, ◌≤◌, List, length, map, take, drop, Option, option_map}
use Rattle.std.specs.declared.vec.Vec.{Vec}
use Rattle.csp_expression.specs.declared.name.DatatypeId.{DatatypeId}
use Rattle.csp_inference.specs.declared.chain.KindNumber.{KindNumber}
use Rattle.csp_inference.specs.declared.fitted_sets.Column.{Column}
use Rattle.csp_inference.specs.Known.{column_of}

abbrev pub owner_numbers : List DatatypeId → List ℕ
owner_numbers ds = map (λ d. d.0) ds

abbrev pub row_numbers : List KindNumber → List ℕ
row_numbers ns = map (λ n. n.0) ns

abbrev pub number_rows : {A : Type 0} → List (Vec KindNumber A) → List (List ℕ)
number_rows rows = map (λ ns. map (λ n. n.0) ns.items) rows

-- What is found of a field in rows: its numbers, if each has it.
abbrev pub IsFound : {A : Type 0} → ℕ → List (List ℕ) → Option (Vec KindNumber A) → Type 0
IsFound field rows found = option_map (λ ns. row_numbers ns.items) found ≡ column_of field rows

-- What is found of a column, where there are its channels.
abbrev pub IsColumnFound : {A : Type 0} → Column → List (Vec KindNumber A) → Option (Vec KindNumber A) → Type 0
IsColumnFound column channels found = column.first + column.channels ≤ length channels → IsFound column.field (take column.channels (drop column.first (number_rows channels))) found
