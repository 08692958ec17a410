-- It ends where both sides have ended.
use Rattle.std.proofs.Common.{◌≡◌, true, false, sym, ◌∙◌, inl, inr}
use Rattle.csp_moves.proofs.Found.{if_so}
use Rattle.csp_moves.proofs.together.by_tick.Goals as goal

pub returns-then-have_ended : goal.returns-then-have_ended
returns-then-have_ended g c = if_so c.one_way.result c.one_way.ensures (λ ways is. inl (c.have_ended.ensures.0 c.if-have_ended.true, is))

pub returns : goal.returns
returns g c = if_so c.no_ways.result c.no_ways.ensures (λ ways is. inr (λ ended. let e : true ≡ false = sym (c.have_ended.ensures.1 ended) ∙ c.if-have_ended.false in absurd (cc e), is))
