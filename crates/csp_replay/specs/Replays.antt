-- What a replay tells.
use Rattle.std.specs.Prelude.{◌≡◌, ℕ, map}
use Rattle.theory_syntax.specs.Process.{Process, Script}
use Rattle.theory_semantics.specs.Meaning.Runs.{Run}
use Rattle.theory_semantics.specs.Meaning.Violations.{ByDivergence, Violation}
use Rattle.theory_search.specs.Counting.{AreMoreThan}
use Rattle.theory_search.specs.Subsets.{IsByTaus}
use Rattle.theory_runs.specs.States.{HasNoReplay, IsReplay}
use Rattle.csp_term.specs.Term.{process_of}
use Rattle.csp_replay.specs.Endings.{IsLassoFor}
use Rattle.csp_replay.specs.declared.replaying.Replay.{Replay}
use Rattle.csp_replay.specs.declared.replaying.Replay.TheVariants as variant

-- the path of a divergence has more than n states behind it, by taus
pub record IsWide (script : Script) (t : Process) (v : Violation) (n : ℕ) : Type 0 where
  pub diverges : v.evidence ≡ ByDivergence
  pub many : AreMoreThan ◌≡◌ n (IsByTaus script (λ u. Run script t v.path u))

-- the states on the way with a lasso where it diverges; or that there are none, or too many to look at
abbrev pub TellsReplay : {A : Type 0} → Script → Process → Violation → ℕ → Replay A → Type 0
TellsReplay script t v n (variant.States states lasso) = (replay : IsReplay script t v (map process_of states.items)) × IsLassoFor script v.evidence replay.end lasso
TellsReplay script t v n variant.Nowhere = HasNoReplay script t v
TellsReplay script t v n variant.TooMany = IsWide script t v n
