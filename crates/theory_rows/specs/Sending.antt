-- Steps of a row that lead to pairs that are known.
use Rattle.std.specs.Prelude.{◌≡◌, ◌≤◌, ℕ, slice_get, Some}
use Rattle.theory_syntax.specs.Value.{Action}
use Rattle.theory_syntax.specs.Process.{Process}
use Rattle.theory_search.specs.Search.{LeadsToNode, Row, Search}

-- the pair to which the step x to u of the row r leads is that of the row q, which stands at i
pub record IsKnownAt (s : Search) (r : Row) (x : Action) (u : Process) (i : ℕ) (q : Row) : Type 0 where
  pub at : slice_get s.rows i ≡ Some q
  pub term : q.term ≡ u
  pub leads : LeadsToNode s.normal r.node x q.node

-- it is one of the level in work, or of a level before
abbrev pub IsKnownByThen : Search → Row → Action → Process → Type 0
IsKnownByThen s r x u = (i : ℕ) × (q : Row) × IsKnownAt s r x u i q × (q.level ≤ s.level)
