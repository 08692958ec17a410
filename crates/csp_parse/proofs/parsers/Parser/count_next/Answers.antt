use Rattle.std.proofs.Common.{◌∙◌, ap, arith}
use Rattle.std.specs.Str.{chars}
use Rattle.theory_text.specs.Height.{after_token}
use Rattle.csp_lex.specs.Tokens.{placed_token}
use Rattle.csp_parse.specs.Nests.{nesting_is, nest_of}
use Rattle.csp_parse.specs.Reading.{left_of}
use Rattle.csp_parse.proofs.Counting.{small_enough, none_counted, low_counted, high_counted}
use Rattle.csp_parse.proofs.parsers.Parser.count_next.Goals as goal

pub invariant_of-self-else-height-gt-GREATEST_HEIGHT : goal.invariant_of-self-else-height-gt-GREATEST_HEIGHT
invariant_of-self-else-height-gt-GREATEST_HEIGHT g c =
    let low = c.args.self.now.low in
    let height = c.height.ensures (small_enough (nesting_is c.nesting_of.result) _ _ low (c.in_ok-count.ensures.counts low)) in
    record { low = omega (arith, height, c.if-height-gt-GREATEST_HEIGHT.false) }

pub returns-in_default-clause-reads : goal.returns-in_default-clause-reads
returns-in_default-clause-reads g c = none_counted (nest_of c.args.self.now.nest) (left_of c.args.self.now) c.in_default.ensures

pub returns-clause-reads : goal.returns-clause-reads
returns-clause-reads g c =
    let low = c.args.self.now.low in
    let height = c.height.ensures (small_enough (nesting_is c.nesting_of.result) _ _ low (c.in_ok-count.ensures.counts low)) in
    low_counted _ _ (placed_token c.in-Some.token) (left_of c.args.self.now) c.in-Some.ensures
    (c.in_ok-count.ensures.counts low ∙ ap (λ x. after_token x (nest_of c.args.self.now.nest)) (c.nesting_of.ensures (chars c.in-Some.token.text.now)))
    (omega (arith, height, c.if-height-gt-GREATEST_HEIGHT.false))

pub returns-then-height-gt-GREATEST_HEIGHT-clause-reads : goal.returns-then-height-gt-GREATEST_HEIGHT-clause-reads
returns-then-height-gt-GREATEST_HEIGHT-clause-reads g c =
    let low = c.args.self.now.low in
    let height = c.height.ensures (small_enough (nesting_is c.nesting_of.result) _ _ low (c.in_ok-count.ensures.counts low)) in
    high_counted _ _ (placed_token c.in-Some.token) (left_of c.args.self.now) c.in-Some.ensures
    (c.in_ok-count.ensures.counts low ∙ ap (λ x. after_token x (nest_of c.args.self.now.nest)) (c.nesting_of.ensures (chars c.in-Some.token.text.now)))
    (omega (arith, height, c.if-height-gt-GREATEST_HEIGHT.true))
