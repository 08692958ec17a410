-- Which terms diverge, by the numbers of those that taus lead to.
use Rattle.std.proofs.Common.{◌≡◌, ◌≢◌, ℕ, List, length, slice_get, Some, arith}
use Rattle.theory_syntax.specs.Process.{Process, Script}
use Rattle.theory_semantics.specs.Meaning.Divergence.{Diverges}
use Rattle.theory_search.specs.Counting.{AreMoreThan}
use Rattle.theory_search.specs.Subsets.{IsByTaus}
use Rattle.theory_search.specs.TauRanks.{number_at}
use Rattle.theory_runs.proofs.Lassos.{left_terms, numbered_terms}
use Rattle.tau_numbers.specs.Numbering.{IsNumbering}
use Rattle.csp_replay.specs.Lassos.{HasTausOf}
use Rattle.csp_replay.proofs.TausOfTerms.{taus_among}

module _ (script : Script) (terms : List Process) (taus : List (List ℕ)) (numbers : List ℕ) (has : HasTausOf script terms taus) (long : length numbers ≡ length terms) (is : IsNumbering taus numbers) where
  pub ends_by_number : (i : ℕ) (t : Process) → slice_get terms i ≡ Some t → number_at numbers i ≢ 0 → ¬ Diverges script t
  ends_by_number i t at some = numbered_terms script terms taus numbers is.0 i t (taus_among script terms taus numbers has long) is.1 at (omega (arith, some))

  pub diverges_left : (i : ℕ) (t : Process) → slice_get terms i ≡ Some t → number_at numbers i ≡ 0 → Diverges script t
  diverges_left i t at none = left_terms script terms taus numbers i t (taus_among script terms taus numbers has long) is.2 at none

-- what more than n terms that taus lead to are of, where those that they start from are of another kind too
pub many_from : (script : Script) (n : ℕ) (P Q : Process → Type 0) → ((u : Process) → P u → Q u) → AreMoreThan ◌≡◌ n (IsByTaus script P) → AreMoreThan ◌≡◌ n (IsByTaus script Q)
many_from script n P Q to more = (more.0, more.1, record { each = λ i u at. let by = more.2.each i u at in (by.0, to by.0 by.1, by.2); apart = more.2.apart })
