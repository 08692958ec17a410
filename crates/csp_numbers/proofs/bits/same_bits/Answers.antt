use Rattle.std.proofs.Common.{replicate, ◌∙◌, ap}
use Rattle.csp_numbers.proofs.Marks.{same_marks}
use Rattle.csp_numbers.proofs.bits.same_bits.Goals as goal

pub returns : goal.returns
returns g c = c.in_ok-marks.ensures.items_if_clones_equal (λ y h. h) ∙ ap (λ n. replicate n c.args.mark) c.len-count.ensures ∙ same_marks c.args.mark c.args.alphabet.now
