-- The fault of a parse that fails, and of a format that there is not.
use Rattle.std.proofs.Common.{◌≡◌, ◌⊎◌, List, Option, Some, None, refl, subst, inl, inr}
use Rattle.clap.specs.Walk.{Text}
use Rattle.clap.specs.Kinds.{IsAmong}
use Rattle.clap.specs.declared.error.kind.ErrorKind.{ErrorKind}
use Rattle.clap.specs.declared.error.kind.ErrorKind.TheVariants.{OutOfMemory}
use Rattle.settings.specs.Faults.{IsAnswerOf}
use Rattle.settings.specs.declared.fault.CommandLineFault.{CommandLineFault}
use Rattle.settings.specs.declared.fault.CommandLineFault.TheVariants.{Help, Memory, Refused, Version}
use Rattle.graph_settings.specs.Faults.{IsFaultOf, LackFormat, Refuses, faults_of}

pub answered : (words : List Text) (kind : ErrorKind) (fault : CommandLineFault) → (kind ≡ OutOfMemory) ⊎ IsAmong kind (faults_of words) → IsAnswerOf kind fault → IsFaultOf words fault
answered words kind (Help text) (inl memory) is = cc
answered words kind (Help text) (inr among) is = subst (λ k. IsAmong k (faults_of words)) is among
answered words kind (Version text) (inl memory) is = cc
answered words kind (Version text) (inr among) is = subst (λ k. IsAmong k (faults_of words)) is among
answered words kind (Refused text) (inl memory) is = absurd (is.2 memory)
answered words kind (Refused text) (inr among) is = inl (kind, among, is.0, is.1)
answered words kind Memory found is = tt

pub refused : (words : List Text) (fault : CommandLineFault) → LackFormat words → Refuses fault → IsFaultOf words fault
refused words (Help text) lacks is = absurd is
refused words (Version text) lacks is = absurd is
refused words (Refused text) lacks is = inr lacks
refused words Memory lacks is = tt

-- an option that is no value is none
pub none_of : {X : Type 0} (o : Option X) → ((x : X) → o ≡ Some x → ⊥) → o ≡ None
none_of None never = refl
none_of (Some x) never = absurd (never x refl)
