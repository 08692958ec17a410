use Rattle.std.proofs.Common.{◌≡◌, take}
use Rattle.std.specs.Prelude.{flat_map}
use Rattle.std.specs.String.{string_bytes}
use Rattle.diagnostics.specs.declared.faults.TheConstants.Fault.{ALL}
use Rattle.diagnostics.specs.Faults.{list_line}
use Rattle.diagnostics.proofs.faults.refusal_list.Given as goal

abbrev pub invariant-loop-fault : goal.invariant-loop-fault
invariant-loop-fault g l = string_bytes l.list ≡ flat_map list_line (take l.fault-index ALL)
