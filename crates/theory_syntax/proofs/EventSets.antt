-- The orders of sets of events, of fields and of renamings are total.
use Rattle.std.proofs.Common.{◌≡◌, ◌<◌, ℕ, List, [], ◌∷◌, refl, sym, ap, inl, inr, ◌⊎◌, ⊎_elim, arith}
use Rattle.std.specs.declared.cmp.Ordering.TheVariants.{Less, Equal}
use Rattle.std.specs.Ordering.{nat_cmp, ordering_then, ordering_reverse}
use Rattle.std.specs.Cmp.{IsTotalOrder, nat_cmp_is}
use Rattle.std.specs.FinMap.{nat_cmp-IsAntisymmetric}
use Rattle.std.proofs.lemmas.Cmp.{ranked, nat_cmp_total, lists_total, on_total, then_total}
use Rattle.std.specs.Cmp.Lexicographic.{slice_cmp}
use Rattle.theory_syntax.specs.Process.{EventSet, Enumeration, Productions, EventUnion, EventIntersection, EventDifference, Field, Given, Input, InputFrom, Prefix, Process, Renaming, RenamingPair, Stop}
use Rattle.theory_syntax.specs.Order.{event_expression_cmp, event_set_cmp, event_set_place, expression_cmp, field_cmp, pair_cmp}
use Rattle.theory_syntax.proofs.Orders.{then_reverse, then_trans}
use Rattle.theory_syntax.proofs.ProcessOrder.{event_set_same, process_same}
use Rattle.theory_syntax.proofs.Expressions.{expression_total, expressions_total}

-- ---- what ties is the same

abbrev fields_of : Process → List Field
fields_of (Prefix c fs p) = fs
fields_of p = []

abbrev pairs_of : Process → List RenamingPair
pairs_of (Renaming p rs) = rs
pairs_of p = []

abbrev first_of_fields : List Field → Field
first_of_fields [] = Input 0
first_of_fields (f ∷ fs) = f

pub fields_same : (fs gs : List Field) → slice_cmp field_cmp fs gs ≡ Equal → fs ≡ gs
fields_same fs gs e = ap fields_of (process_same (Prefix 0 fs Stop) (Prefix 0 gs Stop) (ap (λ r. ordering_then r Equal) e))

field_same : (f g : Field) → field_cmp f g ≡ Equal → f ≡ g
field_same f g e = ap first_of_fields (fields_same (f ∷ []) (g ∷ []) (ap (λ r. ordering_then r Equal) e))

pub pairs_same : (rs ss : List RenamingPair) → slice_cmp pair_cmp rs ss ≡ Equal → rs ≡ ss
pairs_same rs ss e = ap pairs_of (process_same (Renaming Stop rs) (Renaming Stop ss) e)

-- ---- fields

-- given fields, then inputs, then inputs from a set
abbrev field_place : Field → ℕ
field_place (Given e) = 0
field_place (Input n) = 1
field_place (InputFrom n e) = 2

field_reverse : (v w : Field) → field_cmp v w ≡ ordering_reverse (field_cmp w v)
field_reverse (Given x1) (Given y1) = expression_total.antisymm x1 y1
field_reverse (Input x1) (Input y1) = nat_cmp_total.antisymm x1 y1
field_reverse (InputFrom x1 x2) (InputFrom y1 y2) = then_reverse (nat_cmp x1 y1) (expression_cmp x2 y2) (nat_cmp y1 x1) (expression_cmp y2 x2) (nat_cmp_total.antisymm x1 y1) (expression_total.antisymm x2 y2)
field_reverse _ _ = refl

-- terms of different forms are ordered by their forms
field_less : (v w : Field) → field_cmp v w ≡ Less → (field_place v < field_place w) ⊎ (field_place v ≡ field_place w)
field_less (Given x1) (Given y1) e = inr refl
field_less (Input x1) (Input y1) e = inr refl
field_less (InputFrom x1 x2) (InputFrom y1 y2) e = inr refl
field_less v w e = inl (ranked (field_place v) (field_place w) Less (sym e))

field_apart : (v w : Field) → field_place v < field_place w → field_cmp v w ≡ Less
field_apart (Given x1) (Given y1) h = absurd (omega (arith, h))
field_apart (Input x1) (Input y1) h = absurd (omega (arith, h))
field_apart (InputFrom x1 x2) (InputFrom y1 y2) h = absurd (omega (arith, h))
field_apart v w h = sym (nat_cmp_is (field_place v) (field_place w) Less h)

field_mixed : (u v w : Field) → (field_place u ≡ field_place v → field_place v ≡ field_place w → ⊥) → field_cmp u v ≡ Less → field_cmp v w ≡ Less → field_cmp u w ≡ Less
field_mixed u v w other e f =
    field_apart u w
    (⊎_elim (λ p. ⊎_elim (λ q. omega (arith, p, q)) (λ q. omega (arith, p, q)) (field_less v w f)) (λ p. ⊎_elim (λ q. omega (arith, p, q)) (λ q. absurd (other p q)) (field_less v w f)) (field_less u v e))

field_trans : (u v w : Field) → field_cmp u v ≡ Less → field_cmp v w ≡ Less → field_cmp u w ≡ Less
field_trans (Given x1) (Given y1) (Given z1) e f = expression_total.trans x1 y1 z1 e f
field_trans (Input x1) (Input y1) (Input z1) e f = nat_cmp_total.trans x1 y1 z1 e f
field_trans (InputFrom x1 x2) (InputFrom y1 y2) (InputFrom z1 z2) e f = then_trans nat_cmp nat_cmp-IsAntisymmetric x1 y1 z1 (nat_cmp_total.trans x1 y1 z1) (expression_cmp x2 y2) (expression_cmp y2 z2) (expression_cmp x2 z2) (expression_total.trans x2 y2 z2) e f
field_trans u v w e f = field_mixed u v w (λ p q. omega (arith, p, q)) e f

pub field_total : IsTotalOrder field_cmp
field_total = record { antisymm = field_reverse; trans = field_trans; congr = λ x y z e. ap (λ w. field_cmp w z) (field_same x y e) }

pub fields_total : IsTotalOrder (slice_cmp field_cmp)
fields_total = lists_total field_total

-- ---- events as they are written

event_expression_total : IsTotalOrder event_expression_cmp
event_expression_total = then_total (on_total (λ e. e.channel) nat_cmp_total) (on_total (λ e. e.fields) expressions_total)

event_expressions_total : IsTotalOrder (slice_cmp event_expression_cmp)
event_expressions_total = lists_total event_expression_total

pair_total : IsTotalOrder pair_cmp
pair_total = then_total (on_total (λ r. r.from) event_expression_total) (on_total (λ r. r.to) event_expression_total)

pub pairs_total : IsTotalOrder (slice_cmp pair_cmp)
pairs_total = lists_total pair_total

-- ---- sets of events

event_set_reverse : (v w : EventSet) → event_set_cmp v w ≡ ordering_reverse (event_set_cmp w v)
event_set_reverse (Enumeration x1) (Enumeration y1) = event_expressions_total.antisymm x1 y1
event_set_reverse (Productions x1) (Productions y1) = event_expressions_total.antisymm x1 y1
event_set_reverse (EventUnion x1 x2) (EventUnion y1 y2) = then_reverse (event_set_cmp x1 y1) (event_set_cmp x2 y2) (event_set_cmp y1 x1) (event_set_cmp y2 x2) (event_set_reverse x1 y1) (event_set_reverse x2 y2)
event_set_reverse (EventIntersection x1 x2) (EventIntersection y1 y2) = then_reverse (event_set_cmp x1 y1) (event_set_cmp x2 y2) (event_set_cmp y1 x1) (event_set_cmp y2 x2) (event_set_reverse x1 y1) (event_set_reverse x2 y2)
event_set_reverse (EventDifference x1 x2) (EventDifference y1 y2) = then_reverse (event_set_cmp x1 y1) (event_set_cmp x2 y2) (event_set_cmp y1 x1) (event_set_cmp y2 x2) (event_set_reverse x1 y1) (event_set_reverse x2 y2)
event_set_reverse _ _ = refl

-- terms of different forms are ordered by their forms
event_set_less : (v w : EventSet) → event_set_cmp v w ≡ Less → (event_set_place v < event_set_place w) ⊎ (event_set_place v ≡ event_set_place w)
event_set_less (Enumeration x1) (Enumeration y1) e = inr refl
event_set_less (Productions x1) (Productions y1) e = inr refl
event_set_less (EventUnion x1 x2) (EventUnion y1 y2) e = inr refl
event_set_less (EventIntersection x1 x2) (EventIntersection y1 y2) e = inr refl
event_set_less (EventDifference x1 x2) (EventDifference y1 y2) e = inr refl
event_set_less v w e = inl (ranked (event_set_place v) (event_set_place w) Less (sym e))

event_set_apart : (v w : EventSet) → event_set_place v < event_set_place w → event_set_cmp v w ≡ Less
event_set_apart (Enumeration x1) (Enumeration y1) h = absurd (omega (arith, h))
event_set_apart (Productions x1) (Productions y1) h = absurd (omega (arith, h))
event_set_apart (EventUnion x1 x2) (EventUnion y1 y2) h = absurd (omega (arith, h))
event_set_apart (EventIntersection x1 x2) (EventIntersection y1 y2) h = absurd (omega (arith, h))
event_set_apart (EventDifference x1 x2) (EventDifference y1 y2) h = absurd (omega (arith, h))
event_set_apart v w h = sym (nat_cmp_is (event_set_place v) (event_set_place w) Less h)

event_set_mixed : (u v w : EventSet) → (event_set_place u ≡ event_set_place v → event_set_place v ≡ event_set_place w → ⊥) → event_set_cmp u v ≡ Less → event_set_cmp v w ≡ Less → event_set_cmp u w ≡ Less
event_set_mixed u v w other e f =
    event_set_apart u w
    (⊎_elim (λ p. ⊎_elim (λ q. omega (arith, p, q)) (λ q. omega (arith, p, q)) (event_set_less v w f)) (λ p. ⊎_elim (λ q. omega (arith, p, q)) (λ q. absurd (other p q)) (event_set_less v w f)) (event_set_less u v e))

event_set_trans : (u v w : EventSet) → event_set_cmp u v ≡ Less → event_set_cmp v w ≡ Less → event_set_cmp u w ≡ Less
event_set_trans (Enumeration x1) (Enumeration y1) (Enumeration z1) e f = event_expressions_total.trans x1 y1 z1 e f
event_set_trans (Productions x1) (Productions y1) (Productions z1) e f = event_expressions_total.trans x1 y1 z1 e f
event_set_trans (EventUnion x1 x2) (EventUnion y1 y2) (EventUnion z1 z2) e f = then_trans event_set_cmp event_set_same x1 y1 z1 (event_set_trans x1 y1 z1) (event_set_cmp x2 y2) (event_set_cmp y2 z2) (event_set_cmp x2 z2) (event_set_trans x2 y2 z2) e f
event_set_trans (EventIntersection x1 x2) (EventIntersection y1 y2) (EventIntersection z1 z2) e f = then_trans event_set_cmp event_set_same x1 y1 z1 (event_set_trans x1 y1 z1) (event_set_cmp x2 y2) (event_set_cmp y2 z2) (event_set_cmp x2 z2) (event_set_trans x2 y2 z2) e f
event_set_trans (EventDifference x1 x2) (EventDifference y1 y2) (EventDifference z1 z2) e f = then_trans event_set_cmp event_set_same x1 y1 z1 (event_set_trans x1 y1 z1) (event_set_cmp x2 y2) (event_set_cmp y2 z2) (event_set_cmp x2 z2) (event_set_trans x2 y2 z2) e f
event_set_trans u v w e f = event_set_mixed u v w (λ p q. omega (arith, p, q)) e f

pub event_set_total : IsTotalOrder event_set_cmp
event_set_total = record { antisymm = event_set_reverse; trans = event_set_trans; congr = λ x y z e. ap (λ w. event_set_cmp w z) (event_set_same x y e) }
