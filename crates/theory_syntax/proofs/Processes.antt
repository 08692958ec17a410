-- The order of processes is total.
use Rattle.std.proofs.Common.{◌≡◌, ◌<◌, refl, sym, ap, inl, inr, ◌⊎◌, ⊎_elim, arith}
use Rattle.std.specs.declared.cmp.Ordering.TheVariants.{Less}
use Rattle.std.specs.Ordering.{nat_cmp, ordering_then, ordering_reverse}
use Rattle.std.specs.Cmp.{IsTotalOrder, nat_cmp_is}
use Rattle.std.specs.FinMap.{nat_cmp-IsAntisymmetric}
use Rattle.std.proofs.lemmas.Cmp.{ranked, nat_cmp_total}
use Rattle.std.specs.Cmp.Lexicographic.{slice_cmp}
use Rattle.theory_syntax.specs.Process.{Process, Stop, Skip, Omega, Call, Prefix, Guard, If, ExternalChoice, InternalChoice, Sequential, Interleaving, Interrupt, GeneralisedParallel, AlphabetisedParallel, Hiding, Renaming, ReplicatedExternalChoice, ReplicatedInternalChoice, ReplicatedInterleaving, SlidingChoice}
use Rattle.theory_syntax.specs.Order.{event_set_cmp, expression_cmp, expressions_cmp, field_cmp, pair_cmp, process_cmp, process_place}
use Rattle.theory_syntax.proofs.Orders.{then_reverse, then_trans}
use Rattle.theory_syntax.proofs.ProcessOrder.{event_set_same, expression_same, process_same}
use Rattle.theory_syntax.proofs.Expressions.{expression_total, expressions_total}
use Rattle.theory_syntax.proofs.EventSets.{event_set_total, fields_same, fields_total, pairs_total}

process_reverse : (v w : Process) → process_cmp v w ≡ ordering_reverse (process_cmp w v)
process_reverse Stop Stop = refl
process_reverse Skip Skip = refl
process_reverse Omega Omega = refl
process_reverse (Call x1 x2) (Call y1 y2) = then_reverse (nat_cmp x1 y1) (expressions_cmp x2 y2) (nat_cmp y1 x1) (expressions_cmp y2 x2) (nat_cmp_total.antisymm x1 y1) (expressions_total.antisymm x2 y2)
process_reverse (Prefix x1 x2 x3) (Prefix y1 y2 y3) = then_reverse (nat_cmp x1 y1) (ordering_then ((slice_cmp field_cmp) x2 y2) (process_cmp x3 y3)) (nat_cmp y1 x1) (ordering_then ((slice_cmp field_cmp) y2 x2) (process_cmp y3 x3)) (nat_cmp_total.antisymm x1 y1) (then_reverse ((slice_cmp field_cmp) x2 y2) (process_cmp x3 y3) ((slice_cmp field_cmp) y2 x2) (process_cmp y3 x3) (fields_total.antisymm x2 y2) (process_reverse x3 y3))
process_reverse (Guard x1 x2) (Guard y1 y2) = then_reverse (expression_cmp x1 y1) (process_cmp x2 y2) (expression_cmp y1 x1) (process_cmp y2 x2) (expression_total.antisymm x1 y1) (process_reverse x2 y2)
process_reverse (If x1 x2 x3) (If y1 y2 y3) = then_reverse (expression_cmp x1 y1) (ordering_then (process_cmp x2 y2) (process_cmp x3 y3)) (expression_cmp y1 x1) (ordering_then (process_cmp y2 x2) (process_cmp y3 x3)) (expression_total.antisymm x1 y1) (then_reverse (process_cmp x2 y2) (process_cmp x3 y3) (process_cmp y2 x2) (process_cmp y3 x3) (process_reverse x2 y2) (process_reverse x3 y3))
process_reverse (ExternalChoice x1 x2) (ExternalChoice y1 y2) = then_reverse (process_cmp x1 y1) (process_cmp x2 y2) (process_cmp y1 x1) (process_cmp y2 x2) (process_reverse x1 y1) (process_reverse x2 y2)
process_reverse (InternalChoice x1 x2) (InternalChoice y1 y2) = then_reverse (process_cmp x1 y1) (process_cmp x2 y2) (process_cmp y1 x1) (process_cmp y2 x2) (process_reverse x1 y1) (process_reverse x2 y2)
process_reverse (Sequential x1 x2) (Sequential y1 y2) = then_reverse (process_cmp x1 y1) (process_cmp x2 y2) (process_cmp y1 x1) (process_cmp y2 x2) (process_reverse x1 y1) (process_reverse x2 y2)
process_reverse (Interleaving x1 x2) (Interleaving y1 y2) = then_reverse (process_cmp x1 y1) (process_cmp x2 y2) (process_cmp y1 x1) (process_cmp y2 x2) (process_reverse x1 y1) (process_reverse x2 y2)
process_reverse (Interrupt x1 x2) (Interrupt y1 y2) = then_reverse (process_cmp x1 y1) (process_cmp x2 y2) (process_cmp y1 x1) (process_cmp y2 x2) (process_reverse x1 y1) (process_reverse x2 y2)
process_reverse (GeneralisedParallel x1 x2 x3) (GeneralisedParallel y1 y2 y3) = then_reverse (process_cmp x1 y1) (ordering_then (event_set_cmp x2 y2) (process_cmp x3 y3)) (process_cmp y1 x1) (ordering_then (event_set_cmp y2 x2) (process_cmp y3 x3)) (process_reverse x1 y1) (then_reverse (event_set_cmp x2 y2) (process_cmp x3 y3) (event_set_cmp y2 x2) (process_cmp y3 x3) (event_set_total.antisymm x2 y2) (process_reverse x3 y3))
process_reverse (AlphabetisedParallel x1 x2 x3 x4) (AlphabetisedParallel y1 y2 y3 y4) = then_reverse (process_cmp x1 y1) (ordering_then (event_set_cmp x2 y2) (ordering_then (event_set_cmp x3 y3) (process_cmp x4 y4))) (process_cmp y1 x1) (ordering_then (event_set_cmp y2 x2) (ordering_then (event_set_cmp y3 x3) (process_cmp y4 x4))) (process_reverse x1 y1) (then_reverse (event_set_cmp x2 y2) (ordering_then (event_set_cmp x3 y3) (process_cmp x4 y4)) (event_set_cmp y2 x2) (ordering_then (event_set_cmp y3 x3) (process_cmp y4 x4)) (event_set_total.antisymm x2 y2) (then_reverse (event_set_cmp x3 y3) (process_cmp x4 y4) (event_set_cmp y3 x3) (process_cmp y4 x4) (event_set_total.antisymm x3 y3) (process_reverse x4 y4)))
process_reverse (Hiding x1 x2) (Hiding y1 y2) = then_reverse (process_cmp x1 y1) (event_set_cmp x2 y2) (process_cmp y1 x1) (event_set_cmp y2 x2) (process_reverse x1 y1) (event_set_total.antisymm x2 y2)
process_reverse (Renaming x1 x2) (Renaming y1 y2) = then_reverse (process_cmp x1 y1) ((slice_cmp pair_cmp) x2 y2) (process_cmp y1 x1) ((slice_cmp pair_cmp) y2 x2) (process_reverse x1 y1) (pairs_total.antisymm x2 y2)
process_reverse (ReplicatedExternalChoice x1 x2 x3) (ReplicatedExternalChoice y1 y2 y3) = then_reverse (nat_cmp x1 y1) (ordering_then (expression_cmp x2 y2) (process_cmp x3 y3)) (nat_cmp y1 x1) (ordering_then (expression_cmp y2 x2) (process_cmp y3 x3)) (nat_cmp_total.antisymm x1 y1) (then_reverse (expression_cmp x2 y2) (process_cmp x3 y3) (expression_cmp y2 x2) (process_cmp y3 x3) (expression_total.antisymm x2 y2) (process_reverse x3 y3))
process_reverse (ReplicatedInternalChoice x1 x2 x3) (ReplicatedInternalChoice y1 y2 y3) = then_reverse (nat_cmp x1 y1) (ordering_then (expression_cmp x2 y2) (process_cmp x3 y3)) (nat_cmp y1 x1) (ordering_then (expression_cmp y2 x2) (process_cmp y3 x3)) (nat_cmp_total.antisymm x1 y1) (then_reverse (expression_cmp x2 y2) (process_cmp x3 y3) (expression_cmp y2 x2) (process_cmp y3 x3) (expression_total.antisymm x2 y2) (process_reverse x3 y3))
process_reverse (ReplicatedInterleaving x1 x2 x3) (ReplicatedInterleaving y1 y2 y3) = then_reverse (nat_cmp x1 y1) (ordering_then (expression_cmp x2 y2) (process_cmp x3 y3)) (nat_cmp y1 x1) (ordering_then (expression_cmp y2 x2) (process_cmp y3 x3)) (nat_cmp_total.antisymm x1 y1) (then_reverse (expression_cmp x2 y2) (process_cmp x3 y3) (expression_cmp y2 x2) (process_cmp y3 x3) (expression_total.antisymm x2 y2) (process_reverse x3 y3))
process_reverse (SlidingChoice x1 x2) (SlidingChoice y1 y2) = then_reverse (process_cmp x1 y1) (process_cmp x2 y2) (process_cmp y1 x1) (process_cmp y2 x2) (process_reverse x1 y1) (process_reverse x2 y2)
process_reverse _ _ = refl

-- terms of different forms are ordered by their forms
process_less : (v w : Process) → process_cmp v w ≡ Less → (process_place v < process_place w) ⊎ (process_place v ≡ process_place w)
process_less (Call x1 x2) (Call y1 y2) e = inr refl
process_less (Prefix x1 x2 x3) (Prefix y1 y2 y3) e = inr refl
process_less (Guard x1 x2) (Guard y1 y2) e = inr refl
process_less (If x1 x2 x3) (If y1 y2 y3) e = inr refl
process_less (ExternalChoice x1 x2) (ExternalChoice y1 y2) e = inr refl
process_less (InternalChoice x1 x2) (InternalChoice y1 y2) e = inr refl
process_less (Sequential x1 x2) (Sequential y1 y2) e = inr refl
process_less (Interleaving x1 x2) (Interleaving y1 y2) e = inr refl
process_less (Interrupt x1 x2) (Interrupt y1 y2) e = inr refl
process_less (GeneralisedParallel x1 x2 x3) (GeneralisedParallel y1 y2 y3) e = inr refl
process_less (AlphabetisedParallel x1 x2 x3 x4) (AlphabetisedParallel y1 y2 y3 y4) e = inr refl
process_less (Hiding x1 x2) (Hiding y1 y2) e = inr refl
process_less (Renaming x1 x2) (Renaming y1 y2) e = inr refl
process_less (ReplicatedExternalChoice x1 x2 x3) (ReplicatedExternalChoice y1 y2 y3) e = inr refl
process_less (ReplicatedInternalChoice x1 x2 x3) (ReplicatedInternalChoice y1 y2 y3) e = inr refl
process_less (ReplicatedInterleaving x1 x2 x3) (ReplicatedInterleaving y1 y2 y3) e = inr refl
process_less (SlidingChoice x1 x2) (SlidingChoice y1 y2) e = inr refl
process_less v w e = inl (ranked (process_place v) (process_place w) Less (sym e))

process_apart : (v w : Process) → process_place v < process_place w → process_cmp v w ≡ Less
process_apart (Call x1 x2) (Call y1 y2) h = absurd (omega (arith, h))
process_apart (Prefix x1 x2 x3) (Prefix y1 y2 y3) h = absurd (omega (arith, h))
process_apart (Guard x1 x2) (Guard y1 y2) h = absurd (omega (arith, h))
process_apart (If x1 x2 x3) (If y1 y2 y3) h = absurd (omega (arith, h))
process_apart (ExternalChoice x1 x2) (ExternalChoice y1 y2) h = absurd (omega (arith, h))
process_apart (InternalChoice x1 x2) (InternalChoice y1 y2) h = absurd (omega (arith, h))
process_apart (Sequential x1 x2) (Sequential y1 y2) h = absurd (omega (arith, h))
process_apart (Interleaving x1 x2) (Interleaving y1 y2) h = absurd (omega (arith, h))
process_apart (Interrupt x1 x2) (Interrupt y1 y2) h = absurd (omega (arith, h))
process_apart (GeneralisedParallel x1 x2 x3) (GeneralisedParallel y1 y2 y3) h = absurd (omega (arith, h))
process_apart (AlphabetisedParallel x1 x2 x3 x4) (AlphabetisedParallel y1 y2 y3 y4) h = absurd (omega (arith, h))
process_apart (Hiding x1 x2) (Hiding y1 y2) h = absurd (omega (arith, h))
process_apart (Renaming x1 x2) (Renaming y1 y2) h = absurd (omega (arith, h))
process_apart (ReplicatedExternalChoice x1 x2 x3) (ReplicatedExternalChoice y1 y2 y3) h = absurd (omega (arith, h))
process_apart (ReplicatedInternalChoice x1 x2 x3) (ReplicatedInternalChoice y1 y2 y3) h = absurd (omega (arith, h))
process_apart (ReplicatedInterleaving x1 x2 x3) (ReplicatedInterleaving y1 y2 y3) h = absurd (omega (arith, h))
process_apart (SlidingChoice x1 x2) (SlidingChoice y1 y2) h = absurd (omega (arith, h))
process_apart v w h = sym (nat_cmp_is (process_place v) (process_place w) Less h)

process_mixed : (u v w : Process) → (process_place u ≡ process_place v → process_place v ≡ process_place w → ⊥) → process_cmp u v ≡ Less → process_cmp v w ≡ Less → process_cmp u w ≡ Less
process_mixed u v w other e f =
    process_apart u w
    (⊎_elim (λ p. ⊎_elim (λ q. omega (arith, p, q)) (λ q. omega (arith, p, q)) (process_less v w f)) (λ p. ⊎_elim (λ q. omega (arith, p, q)) (λ q. absurd (other p q)) (process_less v w f)) (process_less u v e))

process_trans : (u v w : Process) → process_cmp u v ≡ Less → process_cmp v w ≡ Less → process_cmp u w ≡ Less
process_trans Stop Stop w e f = absurd (cc e)
process_trans Skip Skip w e f = absurd (cc e)
process_trans Omega Omega w e f = absurd (cc e)
process_trans (Call x1 x2) (Call y1 y2) (Call z1 z2) e f = then_trans nat_cmp nat_cmp-IsAntisymmetric x1 y1 z1 (nat_cmp_total.trans x1 y1 z1) (expressions_cmp x2 y2) (expressions_cmp y2 z2) (expressions_cmp x2 z2) (expressions_total.trans x2 y2 z2) e f
process_trans (Prefix x1 x2 x3) (Prefix y1 y2 y3) (Prefix z1 z2 z3) e f = then_trans nat_cmp nat_cmp-IsAntisymmetric x1 y1 z1 (nat_cmp_total.trans x1 y1 z1) (ordering_then ((slice_cmp field_cmp) x2 y2) (process_cmp x3 y3)) (ordering_then ((slice_cmp field_cmp) y2 z2) (process_cmp y3 z3)) (ordering_then ((slice_cmp field_cmp) x2 z2) (process_cmp x3 z3)) (then_trans (slice_cmp field_cmp) fields_same x2 y2 z2 (fields_total.trans x2 y2 z2) (process_cmp x3 y3) (process_cmp y3 z3) (process_cmp x3 z3) (process_trans x3 y3 z3)) e f
process_trans (Guard x1 x2) (Guard y1 y2) (Guard z1 z2) e f = then_trans expression_cmp expression_same x1 y1 z1 (expression_total.trans x1 y1 z1) (process_cmp x2 y2) (process_cmp y2 z2) (process_cmp x2 z2) (process_trans x2 y2 z2) e f
process_trans (If x1 x2 x3) (If y1 y2 y3) (If z1 z2 z3) e f = then_trans expression_cmp expression_same x1 y1 z1 (expression_total.trans x1 y1 z1) (ordering_then (process_cmp x2 y2) (process_cmp x3 y3)) (ordering_then (process_cmp y2 z2) (process_cmp y3 z3)) (ordering_then (process_cmp x2 z2) (process_cmp x3 z3)) (then_trans process_cmp process_same x2 y2 z2 (process_trans x2 y2 z2) (process_cmp x3 y3) (process_cmp y3 z3) (process_cmp x3 z3) (process_trans x3 y3 z3)) e f
process_trans (ExternalChoice x1 x2) (ExternalChoice y1 y2) (ExternalChoice z1 z2) e f = then_trans process_cmp process_same x1 y1 z1 (process_trans x1 y1 z1) (process_cmp x2 y2) (process_cmp y2 z2) (process_cmp x2 z2) (process_trans x2 y2 z2) e f
process_trans (InternalChoice x1 x2) (InternalChoice y1 y2) (InternalChoice z1 z2) e f = then_trans process_cmp process_same x1 y1 z1 (process_trans x1 y1 z1) (process_cmp x2 y2) (process_cmp y2 z2) (process_cmp x2 z2) (process_trans x2 y2 z2) e f
process_trans (Sequential x1 x2) (Sequential y1 y2) (Sequential z1 z2) e f = then_trans process_cmp process_same x1 y1 z1 (process_trans x1 y1 z1) (process_cmp x2 y2) (process_cmp y2 z2) (process_cmp x2 z2) (process_trans x2 y2 z2) e f
process_trans (Interleaving x1 x2) (Interleaving y1 y2) (Interleaving z1 z2) e f = then_trans process_cmp process_same x1 y1 z1 (process_trans x1 y1 z1) (process_cmp x2 y2) (process_cmp y2 z2) (process_cmp x2 z2) (process_trans x2 y2 z2) e f
process_trans (Interrupt x1 x2) (Interrupt y1 y2) (Interrupt z1 z2) e f = then_trans process_cmp process_same x1 y1 z1 (process_trans x1 y1 z1) (process_cmp x2 y2) (process_cmp y2 z2) (process_cmp x2 z2) (process_trans x2 y2 z2) e f
process_trans (GeneralisedParallel x1 x2 x3) (GeneralisedParallel y1 y2 y3) (GeneralisedParallel z1 z2 z3) e f = then_trans process_cmp process_same x1 y1 z1 (process_trans x1 y1 z1) (ordering_then (event_set_cmp x2 y2) (process_cmp x3 y3)) (ordering_then (event_set_cmp y2 z2) (process_cmp y3 z3)) (ordering_then (event_set_cmp x2 z2) (process_cmp x3 z3)) (then_trans event_set_cmp event_set_same x2 y2 z2 (event_set_total.trans x2 y2 z2) (process_cmp x3 y3) (process_cmp y3 z3) (process_cmp x3 z3) (process_trans x3 y3 z3)) e f
process_trans (AlphabetisedParallel x1 x2 x3 x4) (AlphabetisedParallel y1 y2 y3 y4) (AlphabetisedParallel z1 z2 z3 z4) e f = then_trans process_cmp process_same x1 y1 z1 (process_trans x1 y1 z1) (ordering_then (event_set_cmp x2 y2) (ordering_then (event_set_cmp x3 y3) (process_cmp x4 y4))) (ordering_then (event_set_cmp y2 z2) (ordering_then (event_set_cmp y3 z3) (process_cmp y4 z4))) (ordering_then (event_set_cmp x2 z2) (ordering_then (event_set_cmp x3 z3) (process_cmp x4 z4))) (then_trans event_set_cmp event_set_same x2 y2 z2 (event_set_total.trans x2 y2 z2) (ordering_then (event_set_cmp x3 y3) (process_cmp x4 y4)) (ordering_then (event_set_cmp y3 z3) (process_cmp y4 z4)) (ordering_then (event_set_cmp x3 z3) (process_cmp x4 z4)) (then_trans event_set_cmp event_set_same x3 y3 z3 (event_set_total.trans x3 y3 z3) (process_cmp x4 y4) (process_cmp y4 z4) (process_cmp x4 z4) (process_trans x4 y4 z4))) e f
process_trans (Hiding x1 x2) (Hiding y1 y2) (Hiding z1 z2) e f = then_trans process_cmp process_same x1 y1 z1 (process_trans x1 y1 z1) (event_set_cmp x2 y2) (event_set_cmp y2 z2) (event_set_cmp x2 z2) (event_set_total.trans x2 y2 z2) e f
process_trans (Renaming x1 x2) (Renaming y1 y2) (Renaming z1 z2) e f = then_trans process_cmp process_same x1 y1 z1 (process_trans x1 y1 z1) ((slice_cmp pair_cmp) x2 y2) ((slice_cmp pair_cmp) y2 z2) ((slice_cmp pair_cmp) x2 z2) (pairs_total.trans x2 y2 z2) e f
process_trans (ReplicatedExternalChoice x1 x2 x3) (ReplicatedExternalChoice y1 y2 y3) (ReplicatedExternalChoice z1 z2 z3) e f = then_trans nat_cmp nat_cmp-IsAntisymmetric x1 y1 z1 (nat_cmp_total.trans x1 y1 z1) (ordering_then (expression_cmp x2 y2) (process_cmp x3 y3)) (ordering_then (expression_cmp y2 z2) (process_cmp y3 z3)) (ordering_then (expression_cmp x2 z2) (process_cmp x3 z3)) (then_trans expression_cmp expression_same x2 y2 z2 (expression_total.trans x2 y2 z2) (process_cmp x3 y3) (process_cmp y3 z3) (process_cmp x3 z3) (process_trans x3 y3 z3)) e f
process_trans (ReplicatedInternalChoice x1 x2 x3) (ReplicatedInternalChoice y1 y2 y3) (ReplicatedInternalChoice z1 z2 z3) e f = then_trans nat_cmp nat_cmp-IsAntisymmetric x1 y1 z1 (nat_cmp_total.trans x1 y1 z1) (ordering_then (expression_cmp x2 y2) (process_cmp x3 y3)) (ordering_then (expression_cmp y2 z2) (process_cmp y3 z3)) (ordering_then (expression_cmp x2 z2) (process_cmp x3 z3)) (then_trans expression_cmp expression_same x2 y2 z2 (expression_total.trans x2 y2 z2) (process_cmp x3 y3) (process_cmp y3 z3) (process_cmp x3 z3) (process_trans x3 y3 z3)) e f
process_trans (ReplicatedInterleaving x1 x2 x3) (ReplicatedInterleaving y1 y2 y3) (ReplicatedInterleaving z1 z2 z3) e f = then_trans nat_cmp nat_cmp-IsAntisymmetric x1 y1 z1 (nat_cmp_total.trans x1 y1 z1) (ordering_then (expression_cmp x2 y2) (process_cmp x3 y3)) (ordering_then (expression_cmp y2 z2) (process_cmp y3 z3)) (ordering_then (expression_cmp x2 z2) (process_cmp x3 z3)) (then_trans expression_cmp expression_same x2 y2 z2 (expression_total.trans x2 y2 z2) (process_cmp x3 y3) (process_cmp y3 z3) (process_cmp x3 z3) (process_trans x3 y3 z3)) e f
process_trans (SlidingChoice x1 x2) (SlidingChoice y1 y2) (SlidingChoice z1 z2) e f = then_trans process_cmp process_same x1 y1 z1 (process_trans x1 y1 z1) (process_cmp x2 y2) (process_cmp y2 z2) (process_cmp x2 z2) (process_trans x2 y2 z2) e f
process_trans u v w e f = process_mixed u v w (λ p q. omega (arith, p, q)) e f

pub process_total : IsTotalOrder process_cmp
process_total = record { antisymm = process_reverse; trans = process_trans; congr = λ x y z e. ap (λ w. process_cmp w z) (process_same x y e) }
