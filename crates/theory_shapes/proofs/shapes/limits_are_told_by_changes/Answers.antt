use Rattle.theory_shapes.proofs.Measured.{fit_after, fit_before, size_changed}
use Rattle.theory_shapes.proofs.shapes.limits_are_told_by_changes.Goals as goal

pub returns : goal.returns
returns c = record {
  size = λ s parts cs long rise. size_changed s parts long cs rise;
  fits = λ s parts cs long rise fit. (fit_before s parts cs long rise fit, fit_after s parts cs long rise fit);
}
