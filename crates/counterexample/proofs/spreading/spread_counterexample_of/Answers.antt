-- Where names are unfolded at once, a run is looked for.
use Rattle.std.proofs.Common.{◌≡◌, sym, ◌∙◌, ap, inl, inr, lit≤}
use Rattle.theory_syntax.specs.Models.{unfolding_of}
use Rattle.theory_syntax.specs.Process.{AtOnce, Script}
use Rattle.csp_term.specs.Script.{script_of}
use Rattle.counterexample.proofs.spreading.spread_counterexample_of.Goals as goal

pub spread_at_once-requires : goal.spread_at_once-requires
spread_at_once-requires g c =
    let read : (script_of c.args.script.now).unfolds ≡ AtOnce = ap (λ (s : Script). s.unfolds) (sym c.parts.ensures.value) ∙ ap unfolding_of c.in-AtOnce.is in
    elim g.met.A.AllocHandle.small [
      | inl e ↦ rw (e.0, e.1) (search (lit≤, read))
      | inr e ↦ rw (e.0, e.1) (search (lit≤, read))
    ]
