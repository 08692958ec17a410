-- The definitions at words that are written out.
use Rattle.std.proofs.Common.{◌≡◌, refl, codes, List, [], ◌∷◌, Some, None}
use Rattle.clap.specs.declared.error.kind.ErrorKind.TheVariants as kind
use Rattle.clap.proofs.OnLiterals.{clap_on_literals}
use Rattle.settings.specs.CommandLine.{IsUsed, chosen, given}
use Rattle.settings.specs.Faults.{faults_of}

file_alone : faults_of (codes "f" ∷ []) ≡ []
unfolding clap_on_literals
file_alone = refl

no_words : faults_of [] ≡ kind.MissingRequiredArgument ∷ []
unfolding clap_on_literals
no_words = refl

asks_for_help : faults_of (codes "--help" ∷ []) ≡ kind.DisplayHelp ∷ []
unfolding clap_on_literals
asks_for_help = refl

asks_for_version : faults_of (codes "--version" ∷ []) ≡ kind.DisplayVersion ∷ []
unfolding clap_on_literals
asks_for_version = refl

two_files : faults_of (codes "f" ∷ codes "g" ∷ []) ≡ kind.UnknownArgument ∷ []
unfolding clap_on_literals
two_files = refl

too_many_workers : faults_of (codes "--workers" ∷ codes "65" ∷ codes "f" ∷ []) ≡ kind.ValueValidation ∷ []
unfolding clap_on_literals
too_many_workers = refl

most_workers : faults_of (codes "--workers=64" ∷ codes "f" ∷ []) ≡ []
unfolding clap_on_literals
most_workers = refl

workers_twice : faults_of (codes "--workers" ∷ codes "8" ∷ codes "--workers" ∷ codes "9" ∷ codes "f" ∷ []) ≡ kind.ArgumentConflict ∷ []
unfolding clap_on_literals
workers_twice = refl

workers_given : chosen (codes "workers") 1 (codes "f" ∷ codes "--workers" ∷ codes "8" ∷ []) ≡ 8
unfolding clap_on_literals
workers_given = refl

workers_left : chosen (codes "workers") 1 (codes "f" ∷ codes "--max-pairs" ∷ codes "8" ∷ []) ≡ 1
unfolding clap_on_literals
workers_left = refl

file_after_dashes : given (codes "file") (codes "--" ∷ codes "-f" ∷ []) ≡ Some (codes "-f")
unfolding clap_on_literals
file_after_dashes = refl

names_at_once : IsUsed (codes "unfold") (codes "--unfold" ∷ codes "f" ∷ [])
unfolding clap_on_literals
names_at_once = refl

unfold_twice : faults_of (codes "--unfold" ∷ codes "f" ∷ codes "--unfold" ∷ []) ≡ kind.ArgumentConflict ∷ []
unfolding clap_on_literals
unfold_twice = refl
