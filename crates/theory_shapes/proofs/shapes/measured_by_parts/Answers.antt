use Rattle.theory_shapes.proofs.Measured.{depth_by_parts, level_count, parts_fit, size_by_parts}
use Rattle.theory_shapes.proofs.shapes.measured_by_parts.Goals as goal

pub returns : goal.returns
returns c = record { size = size_by_parts; depth = depth_by_parts; levels = level_count; parts = parts_fit }
