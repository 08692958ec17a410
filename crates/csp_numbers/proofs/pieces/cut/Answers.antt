use Rattle.csp_numbers.proofs.Cutting.{start_within}
use Rattle.csp_numbers.proofs.pieces.cut.Goals as goal

pub slice_bounds-from_slice-end : goal.slice_bounds-from_slice-end
slice_bounds-from_slice-end g c = start_within c.args.bytes.now c.args.places.now c.loop-place.from c.loop-place.place-index c.loop-place-test.true c.loop-place.invariant.rise
