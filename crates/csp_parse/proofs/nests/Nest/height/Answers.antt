use Rattle.std.proofs.Common.{◌≡◌, ◌∙◌, ◌∷◌, map, reverse, sym, ap, arith}
use Rattle.theory_text.specs.Height.{ended_height, nest_height}
use Rattle.csp_parse.specs.Nests.{group_of, nest_of}
use Rattle.csp_parse.proofs.Rising.{no_lower, innermost_first}
use Rattle.csp_parse.proofs.nests.Nest.height.Goals as goal

pub loop-around-preserved : goal.loop-around-preserved
loop-around-preserved g c = λ bound.
    let around = c.in-Some.around.now in
    let rest = reverse (map group_of c.next.new.self.iter.rest.now) in
    let inner = group_of c.loop-around.group in
    let first = innermost_first c.next.new.self.iter.rest.now c.loop-around.around-iterator.iter.rest.now around c.in-Some.ensures.steps in
    let same : ended_height inner (group_of around ∷ rest) ≡ nest_height (nest_of c.args.self.now) = ap (ended_height inner) (sym first) ∙ c.loop-around.invariant bound in
    let below = no_lower inner (group_of around ∷ rest) in
    ap (λ h. ended_height h rest) (c.with_group-group.ensures (omega (arith, bound, same, below))) ∙ same
