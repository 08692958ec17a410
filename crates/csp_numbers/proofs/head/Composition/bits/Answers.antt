use Rattle.std.proofs.Common.{sym, ap, subst}
use Rattle.csp_term.specs.Script.{script_of_parts}
use Rattle.csp_numbers.specs.Operators.{AreSides}
use Rattle.csp_numbers.specs.Heads.{composition_of}
use Rattle.csp_numbers.proofs.head.Composition.bits.Goals as goal

pub returns-in_ok-interleaved-in-Interleaved : goal.returns-in_ok-interleaved-in-Interleaved
returns-in_ok-interleaved-in-Interleaved g c =
    let script = script_of_parts c.args.script.now in
    subst (λ k. AreSides {A = g.row.A.Denot} c.args.alphabet.now script k c.in_ok-interleaved-in-Interleaved.field-0) (sym (ap composition_of c.in-Interleaved.is)) (c.in_ok-interleaved-in-Interleaved.ensures script)
