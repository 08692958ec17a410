-- Which fault a command line gives.
use Rattle.std.specs.Prelude.{◌≢◌, ⊤, List}
use Rattle.clap.specs.Walk.{Text}
use Rattle.clap.specs.Faults.{fault_of}
use Rattle.clap.specs.Kinds.{IsAmong, Kinds}
use Rattle.clap.specs.declared.error.kind.ErrorKind.{ErrorKind}
use Rattle.clap.specs.declared.error.kind.ErrorKind.TheVariants.{DisplayHelp, DisplayVersion}
use Rattle.settings.specs.declared.fault.CommandLineFault.{CommandLineFault}
use Rattle.settings.specs.declared.fault.CommandLineFault.TheVariants.{Help, Memory, Refused, Version}
use Rattle.walk_settings.specs.CommandLine.{command_line}

-- what `clap` finds wrong with the words: no kind where it takes them
abbrev pub faults_of : List Text → Kinds
faults_of = fault_of command_line

-- the words ask for the help
abbrev pub AskForHelp : List Text → Type 0
AskForHelp words = IsAmong DisplayHelp (faults_of words)

-- the words ask for the version
abbrev pub AskForVersion : List Text → Type 0
AskForVersion words = IsAmong DisplayVersion (faults_of words)

-- something is wrong with the words, and not that they ask for the help or the version
abbrev pub AreWrong : List Text → Type 0
AreWrong words = (kind : ErrorKind) × IsAmong kind (faults_of words) × (kind ≢ DisplayHelp) × (kind ≢ DisplayVersion)

-- the fault is one of the words, or memory was refused
abbrev pub IsFaultOf : List Text → CommandLineFault → Type 0
IsFaultOf words (Help text) = AskForHelp words
IsFaultOf words (Version text) = AskForVersion words
IsFaultOf words (Refused text) = AreWrong words
IsFaultOf words Memory = ⊤
