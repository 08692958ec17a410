-- The one step is by tick.
use Rattle.std.proofs.Common.{List, [], ◌∷◌, Some, sym, ◌∙◌, ap, subst, inl, inr, lit<}
use Rattle.theory_syntax.specs.Process.{Skip}
use Rattle.theory_syntax.specs.Value.{Tick}
use Rattle.csp_term.specs.Script.{script_of_parts}
use Rattle.csp_term.proofs.Forms.{of_omega_term}
use Rattle.csp_steps.specs.Answering.{Answered, IsAnswered}
use Rattle.csp_steps.proofs.Ruling.{skipped}
use Rattle.csp_steps.proofs.rules.skip.steps.Goals as goal

pub returns : goal.returns
returns g c =
    let script = script_of_parts c.args.script.now in
    let ended = c.in_ok-new.ensures ∙ of_omega_term g.row.A.Denot in
    let is = c.in_ok-one_step.ensures ∙ ap (λ p. (Tick, Some p) ∷ []) ended in
    let P : List Answered → Type 0 = λ ss. IsAnswered script Skip ss in
    subst P (sym is) (skipped script)

pub one_step-requires : goal.one_step-requires
one_step-requires g c = elim g.met.A.AllocHandle.small [ inl e ↦ rw (e.0, e.1) (lit< tt, lit< tt) | inr e ↦ rw (e.0, e.1) (lit< tt, lit< tt) ]
