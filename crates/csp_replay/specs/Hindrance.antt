-- What a term is stuck by, as the code says it.
use Rattle.csp_expression.specs.Fault.{cause_of}
use Rattle.theory_runs.specs.Stuck as pure
use Rattle.csp_replay.specs.declared.hindrance.Hindrance.{Hindrance}
use Rattle.csp_replay.specs.declared.hindrance.Hindrance.TheVariants as variant

abbrev pub hindrance_of : Hindrance → pure.Hindrance
hindrance_of (variant.Fault f) = pure.ByCause (cause_of f)
hindrance_of variant.Size = pure.BySize
