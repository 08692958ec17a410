use Rattle.std.proofs.Common.{◌≡◌, ◌++◌, length, drop}
use Rattle.csp_numbers.specs.Cut.{ArePlacesIn, cut_from}
use Rattle.csp_numbers.specs.Lists.{items_of}
use Rattle.csp_numbers.proofs.pieces.cut.Given as goal

abbrev pub invariant-loop-place : goal.invariant-loop-place
invariant-loop-place g l = record {
  rise : ArePlacesIn l.from (length l.bytes) (drop l.place-index l.places);
  made : items_of l.cut.items ++ cut_from l.from l.bytes (drop l.place-index l.places) ≡ cut_from 0 l.bytes l.places;
}
