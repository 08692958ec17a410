-- The bytes of a room that was filled are a beginning of those that there were.
use Rattle.std.proofs.Common.{◌≡◌, ℕ, ◌+◌, ◌-◌, ◌≤◌, ◌<◌, List, [], ◌++◌, Option, None, Some, IfSome, arith, length, take, slice_range, sym, ap, ◌∙◌, append-nil, drop_at, length-take-le, take_all, ◌⊎◌, inl, inr, min}
use Rattle.std.specs.Io.KnownBytes.{Consumes, IsAtEnd}
use Rattle.program.specs.Beginning.{IsBeginning}
use Rattle.std.proofs.lemmas.List.{take_at, take_min}
use Rattle.std.proofs.Math.Nat.{eq-or-lt_of_le}
use borrow.Rule.Slice.PartMut.{put_mid, post_of}
use lib.Seq.{take-add, take-append-le}

-- what was read behind the first a bytes of a room
pub take_split : (a b : ℕ) (old new : List ℕ) → a ≤ b → take a new ≡ take a old → take a old ++ slice_range new a b ≡ take b new
take_split a b old new h front =
    let same : a + (b - a) ≡ b = omega arith in
    ap (λ l. l ++ slice_range new a b) (sym front) ∙ sym (take-add a (b - a) new) ∙ ap (λ n. take n new) same

pub slice_range-put_mid : (a k n : ℕ) (xs ys : List ℕ) → a ≤ length xs → n ≤ length ys → slice_range (put_mid a k xs ys) a (a + n) ≡ take n ys
slice_range-put_mid a k n xs ys within fits =
    let same : (a + n) - a ≡ n = omega arith in
    let after = post_of a k xs in
    ap (take ((a + n) - a)) (drop_at (take a xs) (ys ++ after) a (length-take-le a xs within)) ∙ ap (λ m. take m (ys ++ after)) same ∙ take-append-le n ys after fits

-- The room is full, or nothing is left.
full_or_ended : (all left room : List ℕ) (n most : ℕ) → all ≡ take n room ++ left → length room ≡ most → n ≤ length room → (n ≡ length room) ⊎ (n < length room) → (n < length room → left ≡ []) → take n room ≡ take most all
full_or_ended all left room n most split long within (inl full) end =
    let enough : length (take n room) ≡ most = length-take-le n room within ∙ full ∙ long in
    sym (take_at (take n room) left most enough) ∙ ap (take most) (sym split)
full_or_ended all left room n most split long within (inr short) end =
    let whole : all ≡ take n room = split ∙ ap (λ ys. take n room ++ ys) (end short) ∙ append-nil (take n room) in
    let size = ap length whole in
    let few : length (take n room) ≡ n = length-take-le n room within in
    sym whole ∙ sym (take_all most all (omega (arith, size, few, long, within)))

-- what was filled is a beginning of what there was
pub beginning : (before after : Option (List ℕ)) (room : List ℕ) (n most : ℕ) → length room ≡ most → n ≤ length room → Consumes before after (take n room) → (n < length room → IsAtEnd after) →
    IfSome before (λ all. take n room ≡ take most all)
beginning None after room n most long within gave end = tt
beginning (Some all) None room n most long within gave end = absurd gave
beginning (Some all) (Some left) room n most long within gave end = full_or_ended all left room n most gave long within (eq-or-lt_of_le within) end

-- bytes that are few enough are a beginning of themselves
pub of_itself : (may_hold : List ℕ → Type 0) (bytes : List ℕ) → may_hold bytes → length bytes ≤ 65537 → IsBeginning may_hold bytes
of_itself may_hold bytes held few = record { text = bytes; held = held; is = sym (take_all 65537 bytes few) }

-- no more is taken than there is
pub take_least : (n : ℕ) (xs : List ℕ) → slice_range xs 0 (min (length xs) n) ≡ take n xs
take_least n xs =
    let same : min (length xs) n - 0 ≡ min n (length xs) = omega arith in
    ap (λ k. take k xs) same ∙ take_min n xs
