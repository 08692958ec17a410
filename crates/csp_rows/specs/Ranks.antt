-- Parts by their ranks.
use Rattle.std.specs.Prelude.{ℕ, List, get_or}
use Rattle.std.specs.declared.cmp.Ordering.{Ordering}
use Rattle.std.specs.Ordering.{nat_cmp}
use Rattle.csp_rows.specs.declared.numbers.PartId.{PartId}

-- the rank of the part of this number, 0 where it has none
abbrev pub rank_at : List ℕ → ℕ → ℕ
rank_at ranks n = get_or ranks n 0

-- the order of two parts by their ranks
abbrev pub rank_cmp : List ℕ → PartId → PartId → Ordering
rank_cmp ranks p q = nat_cmp (rank_at ranks p.0) (rank_at ranks q.0)
