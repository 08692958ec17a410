-- Processes that are the same term, and steps that are taus.
use Rattle.std.specs.Prelude.{◌≡◌, List, Contains, Option, Some}
use Rattle.theory_syntax.specs.Value.{Tau}
use Rattle.theory_syntax.specs.Process.{Process}
use Rattle.csp_steps.specs.Answering.{Answered}

-- one of the steps is a tau
abbrev pub HasTau : List Answered → Type 0
HasTau steps = (t : Option Process) × Contains steps (Tau, t)

-- both are of one term, which is within the limits
abbrev pub AreSameTerm : Option Process → Option Process → Type 0
AreSameTerm o r = (p : Process) × (o ≡ Some p) × (r ≡ Some p)
