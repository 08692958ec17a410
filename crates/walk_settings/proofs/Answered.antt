-- The fault of a parse that fails.
use Rattle.std.proofs.Common.{◌≡◌, ◌⊎◌, List, subst, inl, inr}
use Rattle.clap.specs.Walk.{Text}
use Rattle.clap.specs.Kinds.{IsAmong}
use Rattle.clap.specs.declared.error.kind.ErrorKind.{ErrorKind}
use Rattle.clap.specs.declared.error.kind.ErrorKind.TheVariants.{OutOfMemory}
use Rattle.settings.specs.Faults.{IsAnswerOf}
use Rattle.settings.specs.declared.fault.CommandLineFault.{CommandLineFault}
use Rattle.settings.specs.declared.fault.CommandLineFault.TheVariants.{Help, Memory, Refused, Version}
use Rattle.walk_settings.specs.Faults.{IsFaultOf, faults_of}

pub answered : (words : List Text) (kind : ErrorKind) (fault : CommandLineFault) → (kind ≡ OutOfMemory) ⊎ IsAmong kind (faults_of words) → IsAnswerOf kind fault → IsFaultOf words fault
answered words kind (Help text) (inl memory) is = cc
answered words kind (Help text) (inr among) is = subst (λ k. IsAmong k (faults_of words)) is among
answered words kind (Version text) (inl memory) is = cc
answered words kind (Version text) (inr among) is = subst (λ k. IsAmong k (faults_of words)) is among
answered words kind (Refused text) (inl memory) is = absurd (is.2 memory)
answered words kind (Refused text) (inr among) is = (kind, among, is.0, is.1)
answered words kind Memory found is = tt
