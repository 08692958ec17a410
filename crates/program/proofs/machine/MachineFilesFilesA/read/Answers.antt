use Rattle.std.proofs.Common.{ℕ, ◌≤◌, Result, Ok, Err, IfOk, length}
use Rattle.std.specs.Prelude.{⊤}
use Rattle.std.specs.declared.vec.Vec.{Vec}
use Rattle.program.specs.Beginning.{IsBeginning}
use Rattle.program.proofs.FileBeginnings.{of_itself}
use Rattle.program.proofs.machine.MachineFilesFilesA.read.Goals as goal

-- what is read is short enough
of_short : {A E : Type 0} (r : Result (Vec ℕ A) E) → IfOk r (λ bytes. length bytes.items ≤ 65537) → IfOk r (λ bytes. IsBeginning (λ x. ⊤) bytes.items)
of_short (Ok bytes) few = of_itself (λ x. ⊤) bytes.items tt few
of_short (Err e) few = tt

pub returns-clause-holds : goal.returns-clause-holds
returns-clause-holds g c = of_short c.read_named.result c.read_named.ensures
