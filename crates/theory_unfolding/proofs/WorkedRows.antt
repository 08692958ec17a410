-- `P = P` diverges at once too.
use Rattle.std.proofs.Common.{ℕ, zero, suc, replicate, inl, refl}
use Rattle.theory_syntax.specs.Value.{Tau}
use Rattle.theory_syntax.specs.Process.{Process}
use Rattle.theory_semantics.specs.Meaning.Runs.{Run}
use Rattle.theory_semantics.proofs.Stepping.{exact}
use Rattle.theory_semantics.proofs.Offering.{free}
use Rattle.theory_unfolding.specs.Worked.{p_is_p, call}

pub nothing_diverges : (n : ℕ) → (u : Process) × Run p_is_p (call 0) (replicate n Tau) u
nothing_diverges zero = (call 0, refl)
nothing_diverges (suc n) =
    let rest = nothing_diverges n in
    (rest.0, (call 0, (free p_is_p (call 0) refl, (exact p_is_p (call 0) Tau (call 0)).1 (inl (refl, refl))), rest.1))
