-- What parts of a script ask of kinds.
use Rattle.std.specs.Prelude.{ℕ, List}
use Rattle.theory_checking.specs.Inference.State.{KindEquation}
use Rattle.csp_inference.specs.declared.equations.Equations.{Equations}
use Rattle.csp_inference.specs.Equations.{Adds, Asks}

-- What a part asks, for each next number: its equations, and the next number behind it.
pub record Question : Type 0 where
  pub equations : ℕ → List KindEquation
  pub behind : ℕ → ℕ

-- Behind the equations so far stand those of the question.
abbrev pub AddsQuestion : {A : Type 0} → Equations A → Equations A → Question → Type 0
AddsQuestion old new q = Adds old new (q.equations old.next) (q.behind old.next)

-- They do, or there is no solution anyway: neither of those so far with the question's, nor of those that stand there
-- now.
abbrev pub AsksQuestion : {A : Type 0} → Equations A → Equations A → Question → Type 0
AsksQuestion old new q = Asks old new (q.equations old.next) (q.behind old.next)
