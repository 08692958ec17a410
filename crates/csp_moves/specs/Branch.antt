-- The truth of a condition, if it has one.
use Rattle.std.specs.Prelude.{◌≡◌, Bool, Option, Some, None, Result, Ok, Err}
use Rattle.theory_semantics.specs.Meaning.Evaluation.{Cause}

abbrev pub IsTruthOf : Option Bool → Result Bool Cause → Type 0
IsTruthOf (Some b) r = r ≡ Ok b
IsTruthOf None r = (c : Cause) × (r ≡ Err c)
