use Rattle.std.proofs.Common.{◌≡◌, ◌++◌, take}
use Rattle.csp_rows.specs.Framed.{image_steps}
use Rattle.csp_rows.proofs.framed.add_images.Given as goal

abbrev pub invariant-loop-image : goal.invariant-loop-image
invariant-loop-image g l = l.all.items ≡ l.fn.all.items ++ image_steps l.changes (take l.image-index l.images)
