-- The step of the side, in the composition.
use Rattle.std.proofs.Common.{◌≡◌, ◌∷◌, ◌++◌, [], Option, map, subst, inl, inr, lit<}
use Rattle.std.specs.Result.{OnOk}
use Rattle.theory_syntax.specs.Process.{Process}
use Rattle.csp_value.specs.Action.{action_of}
use Rattle.csp_steps.specs.Answering.{answered_of}
use Rattle.csp_steps.proofs.stay.add_around.Goals as goal

pub returns : goal.returns
returns g c =
    let P : Option Process → Type 0 = λ t. OnOk c.add_step.result (map answered_of c.add_step.new.steps.items ≡ map answered_of c.args.steps.now.items ++ (action_of c.args.action, t) ∷ []) in
    subst P c.in_ok-target.ensures c.add_step.ensures

-- an action is of a known size
pub array_drop-action-requires : goal.array_drop-action-requires
array_drop-action-requires g c = elim g.met.A.AllocHandle.small [ inl e ↦ rw (e.0, e.1) (lit< tt) | inr e ↦ rw (e.0, e.1) (lit< tt) ]
