-- The action that is seen, and the target under the operator.
use Rattle.std.proofs.Common.{Option, ap, inl, inr, lit<}
use Rattle.theory_syntax.specs.Process.{Process}
use Rattle.csp_value.specs.Action.{action_of}
use Rattle.csp_steps.specs.Answering.{Answered}
use Rattle.csp_steps.proofs.hiding.under.Goals as goal

pub returns : goal.returns
returns g c =
    let seen : Option Process → Answered = λ t. (action_of c.args.action, t) in
    ap seen c.in_ok-target.ensures

-- an action is of a known size
pub array_drop-action-requires : goal.array_drop-action-requires
array_drop-action-requires g c = elim g.met.A.AllocHandle.small [ inl e ↦ rw (e.0, e.1) (lit< tt) | inr e ↦ rw (e.0, e.1) (lit< tt) ]
