-- What a search took, in words.
use Rattle.std.specs.Prelude.{ℕ, List, [], ◌++◌, Option, Some, None, codes}
use Rattle.std.specs.Int.{div_ceil}
use Rattle.theory_explanation.specs.Counting.{number_text}
use Rattle.watch.specs.declared.cost.Cost.{Cost}

abbrev pub time_text : ℕ → List ℕ
time_text milliseconds = number_text milliseconds (codes "millisecond")

-- whole megabytes, of which the last one may be begun
abbrev pub memory_text : ℕ → List ℕ
memory_text kilobytes = number_text (div_ceil kilobytes 1024) (codes "megabyte") ++ codes " at most"

-- the time and the memory, as far as they are known, in a line; or nothing
abbrev pub amounts_text : (milliseconds kilobytes : Option ℕ) → List ℕ
amounts_text (Some milliseconds) (Some kilobytes) = codes "  " ++ (time_text milliseconds ++ (codes ", " ++ (memory_text kilobytes ++ codes "\n")))
amounts_text (Some milliseconds) None = codes "  " ++ (time_text milliseconds ++ codes "\n")
amounts_text None (Some kilobytes) = codes "  " ++ (memory_text kilobytes ++ codes "\n")
amounts_text None None = []

abbrev pub cost_text : Cost → List ℕ
cost_text cost = amounts_text cost.milliseconds cost.kilobytes
