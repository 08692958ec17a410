-- One word after the other.
use Rattle.std.proofs.Common.{◌≡◌, ℕ, ◌+◌, Bool, true, false, not, List, [], Bor, refl, sym, ◌∙◌, ap, nat_eq, arith}
use Rattle.std.specs.Cmp.Lexicographic.{pointwise}
use Rattle.counterexample.proofs.Parts.{none_left, none_new, one_other, one_same, same_from}
use Rattle.counterexample.proofs.changes.same_words.Goals as goal

no_of : (b : Bool) → not b ≡ true → b ≡ false
no_of true is = absurd (cc is)
no_of false is = refl

yes_of : (b : Bool) → not b ≡ false → b ≡ true
yes_of true is = refl
yes_of false is = absurd (cc is)

abbrev nothing : Bor (List ℕ)
nothing = record { ref_ptr = (0, 0); now = [] }

pub returns-then-ne-clause-count : goal.returns-then-ne-clause-count
returns-then-ne-clause-count c =
    let old = c.args.old.now in
    let new = c.args.new.now in
    let i = c.loop-count.count in
    let other = one_other old new i nothing nothing c.loop-count-test.true c.if-count-new.true (no_of _ (sym c.ne.ensures ∙ c.if-ne.true)) in
    let so_far = c.loop-count.invariant.2 in
    omega (arith, so_far, other)

pub loop-count-preserved : goal.loop-count-preserved
loop-count-preserved c =
    let old = c.args.old.now in
    let new = c.args.new.now in
    let i = c.loop-count.count in
    let in_old = c.loop-count-test.true in
    let in_new = c.if-count-new.true in
    let same = one_same old new i nothing nothing in_old in_new (yes_of _ (sym c.ne.ensures ∙ c.if-ne.false)) in
    let so_far = c.loop-count.invariant.2 in
    (omega (arith, in_old), omega (arith, in_new), omega (arith, so_far, same))

pub returns-else-count-new-clause-count : goal.returns-else-count-new-clause-count
returns-else-count-new-clause-count c =
    let none = none_new c.args.old.now c.args.new.now c.loop-count.count c.if-count-new.false in
    let so_far = c.loop-count.invariant.2 in
    omega (arith, so_far, none)
