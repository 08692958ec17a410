-- The definitions at words that are written out.
use Rattle.std.proofs.Common.{◌≡◌, refl, codes, [], ◌∷◌, Some}
use Rattle.clap.specs.declared.error.kind.ErrorKind.TheVariants as kind
use Rattle.clap.proofs.OnLiterals.{clap_on_literals}
use Rattle.walk_settings.specs.CommandLine.{value}
use Rattle.walk_settings.specs.Faults.{faults_of}

file_and_assertion : faults_of (codes "f" ∷ codes "3" ∷ []) ≡ []
unfolding clap_on_literals
file_and_assertion = refl

no_assertion : faults_of (codes "f" ∷ []) ≡ kind.MissingRequiredArgument ∷ []
unfolding clap_on_literals
no_assertion = refl

three_words : faults_of (codes "f" ∷ codes "3" ∷ codes "4" ∷ []) ≡ kind.UnknownArgument ∷ []
unfolding clap_on_literals
three_words = refl

standard_input : value (codes "file") (codes "-" ∷ codes "3" ∷ []) ≡ Some (codes "-")
unfolding clap_on_literals
standard_input = refl

width_left : value (codes "width") (codes "f" ∷ codes "1" ∷ []) ≡ Some (codes "200")
unfolding clap_on_literals
width_left = refl

width_given : value (codes "width") (codes "--width" ∷ codes "0" ∷ codes "f" ∷ codes "1" ∷ []) ≡ Some (codes "0")
unfolding clap_on_literals
width_given = refl

side_given : value (codes "specification") (codes "--specification" ∷ codes "f" ∷ codes "2" ∷ []) ≡ Some (codes "true")
unfolding clap_on_literals
side_given = refl

side_left : value (codes "specification") (codes "--unfold" ∷ codes "f" ∷ codes "2" ∷ []) ≡ Some (codes "false")
unfolding clap_on_literals
side_left = refl

number_given : value (codes "assertion") (codes "f" ∷ codes "--unfold" ∷ codes "2" ∷ []) ≡ Some (codes "2")
unfolding clap_on_literals
number_given = refl
