-- Shapes as terms.
use Rattle.std.specs.Prelude.{[]}
use Rattle.theory_syntax.specs.Process.{Process}
use Rattle.theory_shapes.specs.Shape.{Shape, fill}

-- the shape with `STOP` in each hole
abbrev pub bare : Shape → Process
bare s = fill s []
