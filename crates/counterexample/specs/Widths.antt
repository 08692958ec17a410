-- The width that one of the code stands for.
use Rattle.theory_explanation.specs.Cutting as pure
use Rattle.counterexample.specs.declared.width.Width.{Width}
use Rattle.counterexample.specs.declared.width.Width.TheVariants as width

abbrev pub width_of : Width → pure.Width
width_of width.Whole = pure.Whole
width_of (width.UpTo n) = pure.UpTo n
