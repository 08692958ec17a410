-- What the model of an assertion stands for, and the reading of names.
use Rattle.theory_syntax.specs.Process as pure
use Rattle.theory_syntax.specs.declared.model.Model.{Model}
use Rattle.theory_syntax.specs.declared.model.Model.TheVariants as model
use Rattle.theory_syntax.specs.declared.reading.Unfolding.{Unfolding}
use Rattle.theory_syntax.specs.declared.reading.Unfolding.TheVariants as reading

abbrev pub model_of : Model → pure.Model
model_of model.Traces = pure.Traces
model_of model.Failures = pure.Failures

abbrev pub unfolding_of : Unfolding → pure.Unfolding
unfolding_of reading.ByTau = pure.ByTau
unfolding_of reading.AtOnce = pure.AtOnce
