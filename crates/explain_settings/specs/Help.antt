-- What the help tells of refusals.
use Rattle.std.specs.Prelude.{ℕ, ◌++◌, List, codes, flat_map}
use Rattle.diagnostics.specs.Faults.{list_line}
use Rattle.diagnostics.specs.declared.faults.TheConstants.Fault.{ALL}

-- a line for each refusal of a script
abbrev pub refusals : List ℕ
refusals = codes "\nRefusals of a script, each told with its place, the line there and what may be meant:\n" ++ flat_map list_line ALL
