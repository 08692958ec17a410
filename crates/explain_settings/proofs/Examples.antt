-- The definitions at words that are written out.
use Rattle.std.proofs.Common.{◌≡◌, refl, codes, [], ◌∷◌, Some}
use Rattle.clap.specs.declared.error.kind.ErrorKind.TheVariants as kind
use Rattle.clap.proofs.OnLiterals.{clap_on_literals}
use Rattle.explain_settings.specs.CommandLine.{value}
use Rattle.explain_settings.specs.Faults.{faults_of}

file_alone : faults_of (codes "f" ∷ []) ≡ []
unfolding clap_on_literals
file_alone = refl

file_and_assertion : faults_of (codes "f" ∷ codes "3" ∷ []) ≡ []
unfolding clap_on_literals
file_and_assertion = refl

three_words : faults_of (codes "f" ∷ codes "3" ∷ codes "4" ∷ []) ≡ kind.UnknownArgument ∷ []
unfolding clap_on_literals
three_words = refl

assertion_given : value (codes "assertion") (codes "f" ∷ codes "3" ∷ []) ≡ Some (codes "3")
unfolding clap_on_literals
assertion_given = refl

each_assertion : value (codes "assertion") (codes "f" ∷ []) ≡ Some (codes "0")
unfolding clap_on_literals
each_assertion = refl

width_given : value (codes "width") (codes "--width" ∷ codes "0" ∷ codes "f" ∷ []) ≡ Some (codes "0")
unfolding clap_on_literals
width_given = refl

count_given : value (codes "count") (codes "--count" ∷ codes "f" ∷ []) ≡ Some (codes "true")
unfolding clap_on_literals
count_given = refl

no_count : value (codes "count") (codes "f" ∷ []) ≡ Some (codes "false")
unfolding clap_on_literals
no_count = refl

events_given : value (codes "events") (codes "f" ∷ codes "--events" ∷ []) ≡ Some (codes "true")
unfolding clap_on_literals
events_given = refl

no_steps : value (codes "steps") (codes "--events" ∷ codes "f" ∷ []) ≡ Some (codes "false")
unfolding clap_on_literals
no_steps = refl

progress_asked : value (codes "progress") (codes "--progress" ∷ codes "f" ∷ []) ≡ Some (codes "true")
unfolding clap_on_literals
progress_asked = refl

no_progress : value (codes "progress") (codes "--count" ∷ codes "f" ∷ []) ≡ Some (codes "false")
unfolding clap_on_literals
no_progress = refl

names_at_once : value (codes "unfold") (codes "--unfold" ∷ codes "f" ∷ codes "2" ∷ []) ≡ Some (codes "true")
unfolding clap_on_literals
names_at_once = refl

names_by_tau : value (codes "unfold") (codes "--count" ∷ codes "f" ∷ []) ≡ Some (codes "false")
unfolding clap_on_literals
names_by_tau = refl

format_given : value (codes "format") (codes "--format" ∷ codes "json" ∷ codes "f" ∷ []) ≡ Some (codes "json")
unfolding clap_on_literals
format_given = refl

format_by_default : value (codes "format") (codes "f" ∷ []) ≡ Some (codes "text")
unfolding clap_on_literals
format_by_default = refl

standard_input : value (codes "file") (codes "-" ∷ []) ≡ Some (codes "-")
unfolding clap_on_literals
standard_input = refl

hyphen_taken : faults_of (codes "-" ∷ []) ≡ []
unfolding clap_on_literals
hyphen_taken = refl
