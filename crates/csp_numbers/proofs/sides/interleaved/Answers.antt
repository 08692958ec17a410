use Rattle.csp_numbers.proofs.OperatorsByNumbers.{interleaved_sides}
use Rattle.csp_numbers.proofs.sides.interleaved.Goals as goal

pub returns : goal.returns
returns g c = λ script.
    interleaved_sides c.args.alphabet.now script (record { left_free = c.in_ok-left_free.left_free; right_free = c.in_ok-right_free.right_free; shared = c.in_ok-shared.shared })
    (record { left_free = c.in_ok-left_free.ensures; right_free = c.in_ok-right_free.ensures; shared = c.in_ok-shared.ensures })
