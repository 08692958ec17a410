use Rattle.theory_semantics.proofs.refinements_hold_as_written.Goals as goal

pub returns : goal.returns
returns c = λ script model spec impl. (λ h. h, λ h. h)
