-- Where names are unfolded at once, a run is looked for.
use Rattle.std.proofs.Common.{◌∙◌, sym, ap}
use Rattle.theory_syntax.specs.Models.{unfolding_of}
use Rattle.theory_syntax.specs.Process.{Script}
use Rattle.explanation.proofs.spread_sides.spread_side.Goals as goal

pub spread_at_once-requires-clause-at_once : goal.spread_at_once-requires-clause-at_once
spread_at_once-requires-clause-at_once g c = ap (λ (s : Script). s.unfolds) (sym c.parts.ensures.value) ∙ ap unfolding_of c.in-AtOnce.is
