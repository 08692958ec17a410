-- The order of parts by the processes that their numbers stand for.
use Rattle.std.specs.Prelude.{◌≡◌, Option, Some, None, refl, slice_get}
use Rattle.std.specs.Cmp.{IsTotalOrder}
use Rattle.std.specs.Ordering.{ordering_reverse}
use Rattle.std.specs.declared.cmp.Ordering.{Ordering}
use Rattle.std.specs.declared.cmp.Ordering.TheVariants.{Less, Equal}
use Rattle.std.proofs.lemmas.Cmp.{on_total}
use Rattle.theory_syntax.specs.Process.{Process}
use Rattle.theory_syntax.proofs.Processes.{process_total}
use Rattle.csp_rows.specs.declared.numbers.PartId.{PartId}
use Rattle.kept_parts.specs.declared.parts.Parts.{Parts}
use Rattle.kept_parts.specs.KnownSteps.{found_cmp, part_cmp, processes_of}

abbrev pub by_process : {A : Type 0} → Parts A → PartId → PartId → Ordering
by_process k p q = part_cmp (processes_of k) p.0 q.0

-- ---- it is total

reversed : (a b : Option Process) → found_cmp a b ≡ ordering_reverse (found_cmp b a)
reversed None None = refl
reversed None (Some q) = refl
reversed (Some p) None = refl
reversed (Some p) (Some q) = process_total.antisymm p q

chained : (a b c : Option Process) → found_cmp a b ≡ Less → found_cmp b c ≡ Less → found_cmp a c ≡ Less
chained None None c e f = absurd (cc e)
chained None (Some q) None e f = absurd (cc f)
chained None (Some q) (Some r) e f = refl
chained (Some p) None c e f = absurd (cc e)
chained (Some p) (Some q) None e f = absurd (cc f)
chained (Some p) (Some q) (Some r) e f = process_total.trans p q r e f

alike : (a b c : Option Process) → found_cmp a b ≡ Equal → found_cmp a c ≡ found_cmp b c
alike None None c e = refl
alike None (Some q) c e = absurd (cc e)
alike (Some p) None c e = absurd (cc e)
alike (Some p) (Some q) None e = refl
alike (Some p) (Some q) (Some r) e = process_total.congr p q r e

found_total : IsTotalOrder found_cmp
found_total = record { antisymm = reversed; trans = chained; congr = alike }

pub by_process_total : {A : Type 0} (k : Parts A) → IsTotalOrder (by_process k)
by_process_total k = on_total (λ (p : PartId). slice_get (processes_of k) p.0) found_total
