use Rattle.std.proofs.Common.{◌<◌, subst, arith}
use Rattle.theory_text.specs.Token.{greatest_number}
use Rattle.csp_lex.proofs.Wording.{large_already}
use Rattle.csp_lex.proofs.numbers.value_of.Goals as goal

pub returns-then-value-from : goal.returns-then-value-from
returns-then-value-from c =
    subst (λ v. greatest_number < v) c.loop-digit.invariant.same
    (large_already greatest_number c.loop-digit.value c.loop-digit.digit-index c.args.digits.now (omega arith) (omega (arith, c.if-value-from.true, c.from.ensures, c.from-in-loop-digit.ensures)))
