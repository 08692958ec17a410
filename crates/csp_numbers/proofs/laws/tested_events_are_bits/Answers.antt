use Rattle.std.proofs.Common.{map, refl}
use Rattle.csp_numbers.proofs.Numbered.{bits_by}
use Rattle.csp_numbers.proofs.laws.tested_events_are_bits.Goals as goal

pub returns : goal.returns
returns c = λ es z test numbers. bits_by es z test (map test es) numbers refl
