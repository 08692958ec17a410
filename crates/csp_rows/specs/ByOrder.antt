-- The order of steps by an order of parts.
use Rattle.std.specs.Prelude.{◌≡◌, ◌<◌, ℕ, List, [], ◌∷◌, set, Option, Some, None}
use Rattle.std.specs.declared.cmp.Ordering.{Ordering}
use Rattle.std.specs.Cmp.Lexicographic.{slice_cmp}
use Rattle.std.specs.List.{AllByRecursion}
use Rattle.std.specs.Ordering.{ordering_then}
use Rattle.theory_syntax.specs.Order.{process_cmp}
use Rattle.csp_rows.specs.declared.changes.Change.{Change}
use Rattle.csp_rows.specs.declared.changes.Run.{Run}
use Rattle.csp_rows.specs.declared.numbers.PartId.{PartId}
use Rattle.csp_rows.specs.declared.step.Step.{Step}
use Rattle.csp_rows.specs.Numbering.{Numbering}
use Rattle.csp_rows.specs.Runs.{AreAmong, run_of}
use Rattle.csp_rows.specs.InOrder.{AreInOrder}
use Rattle.csp_rows.specs.Numbers.{number_cmp}

-- it is the order of the processes that so many parts are
abbrev pub IsOrderOf : Numbering → ℕ → (PartId → PartId → Ordering) → Type 0
IsOrderOf z count order = (p q : PartId) → p.0 < count → q.0 < count → order p q ≡ process_cmp (z.part p.0) (z.part q.0)

-- the parts of a row, and those that changes bring, are among so many
pub record AreRowAmong (count : ℕ) (row : List PartId) (pool : List Change) : Type 0 where
  pub standing : AllByRecursion (λ n. n.0 < count) row
  pub coming : AreAmong count pool

-- the row after changes
abbrev pub row_after : List Change → List PartId → List PartId
row_after [] row = row
row_after (c ∷ cs) row = row_after cs (set row c.hole c.part)

-- the changes of a step, of which there are none where none are told
abbrev pub changes_at : List Change → Option Run → List Change
changes_at pool None = []
changes_at pool (Some r) = run_of pool r

-- two lists of changes, by the parts that they make of a row, from the left
abbrev pub changes_cmp : (PartId → PartId → Ordering) → List PartId → List Change → List Change → Ordering
changes_cmp order row cs ds = slice_cmp order (row_after cs row) (row_after ds row)

-- two steps, by action and then by their changes
abbrev pub step_order : (PartId → PartId → Ordering) → List PartId → List Change → Step → Step → Ordering
step_order order row pool s t = ordering_then (number_cmp s.action t.action) (changes_cmp order row (changes_at pool s.changes) (changes_at pool t.changes))

-- The steps are put in order, each target once, whatever the numbers stand for, where the order of parts is that of the
-- processes.
abbrev pub ArePutInOrder : (PartId → PartId → Ordering) → List PartId → List Change → List Step → List Step → Type 0
ArePutInOrder order row pool steps sorted = (z : Numbering) (count : ℕ) → IsOrderOf z count order → AreRowAmong count row pool → AreInOrder z row pool steps sorted
