-- A settled term is no smaller than the term, where it is within the limits.
use Rattle.std.proofs.Common.{ℕ, zero, suc, ◌≤◌, nat_le, cond, ◌&&◌, Bool, true, false, IsTrue, refl, arith, Option, Some, None, Result, Ok, Err}
use Rattle.std.specs.Ordering.{is_eq}
use Rattle.std.proofs.lemmas.Bool.{and_from, le-leb, leb-true}
use Rattle.theory_syntax.specs.Process.{Process, Call, ExternalChoice, Sequential, Interleaving, Interrupt, GeneralisedParallel, AlphabetisedParallel, Hiding, Renaming, SlidingChoice, Unfolding, ByTau, AtOnce, Script}
use Rattle.theory_syntax.specs.Order.{process_cmp}
use Rattle.theory_syntax.proofs.Truths.{and_first, and_second}
use Rattle.theory_semantics.specs.Meaning.Evaluation.{Cause}
use Rattle.theory_semantics.specs.Meaning.Limits.{size, depth, max_size, max_depth, fits}
use Rattle.theory_semantics.specs.Meaning.Events.{called}
use Rattle.theory_semantics.specs.Meaning.Unfolding.{is_no_larger, in_place_of, body_or, unless_called, changed_or, stands_for, unfolded_or, unfold_calls, settled_within, settled_by, settled, most_unfoldings}

-- the first of two terms is neither larger nor deeper
pub record Within (p v : Process) : Type 0 where
  pub sizes : size p ≤ size v
  pub depths : depth p ≤ depth v

pub within_itself : (p : Process) → Within p p
within_itself p = record { sizes = omega arith; depths = omega arith }

within_both : (p q v : Process) → Within p q → Within q v → Within p v
within_both p q v h g = record { sizes = omega (arith, h.sizes, g.sizes); depths = omega (arith, h.depths, g.depths) }

-- a part of a term within the limits is within them
pub fits_part : (t v : Process) → size t ≤ size v → depth t ≤ depth v → IsTrue (fits v) → IsTrue (fits t)
fits_part t v in_size in_depth h =
    let most = leb-true (size v) max_size (and_first (nat_le (size v) max_size) (nat_le (depth v) max_depth) h) in
    let deepest = leb-true (depth v) max_depth (and_second (nat_le (size v) max_size) (nat_le (depth v) max_depth) h) in
    and_from (nat_le (size t) max_size) (nat_le (depth t) max_depth) (le-leb (size t) max_size (omega (arith, in_size, most))) (le-leb (depth t) max_depth (omega (arith, in_depth, deepest)))

where_it_is : (b c : Bool) → IsTrue b → IsTrue (cond b c true) → IsTrue c
where_it_is true c h g = g
where_it_is false c h g = absurd (cc h)

pub within_of : (p v : Process) → IsTrue (is_no_larger p v) → IsTrue (fits v) → Within p v
within_of p v h fit =
    let g = where_it_is (fits v) (nat_le (size p) (size v) && nat_le (depth p) (depth v)) fit h in
    record {
      sizes = leb-true (size p) (size v) (and_first (nat_le (size p) (size v)) (nat_le (depth p) (depth v)) g);
      depths = leb-true (depth p) (depth v) (and_second (nat_le (size p) (size v)) (nat_le (depth p) (depth v)) g);
    }

pub no_larger_of : (p v : Process) → (IsTrue (fits v) → Within p v) → IsTrue (is_no_larger p v)
no_larger_of p v h = by_fit (fits v) h
  where
    by_fit : (b : Bool) → (IsTrue b → Within p v) → IsTrue (cond b (nat_le (size p) (size v) && nat_le (depth p) (depth v)) true)
    by_fit true g = and_from (nat_le (size p) (size v)) (nat_le (depth p) (depth v)) (le-leb (size p) (size v) (g refl).sizes) (le-leb (depth p) (depth v) (g refl).depths)
    by_fit false g = refl

-- what is no larger than a term is no larger than what the term grows to
pub no_larger_grown : (p t v : Process) → IsTrue (is_no_larger p t) → (IsTrue (fits v) → Within t v) → IsTrue (is_no_larger p v)
no_larger_grown p t v h grown = no_larger_of p v (λ fit. let g = grown fit in within_both p t v (within_of p t h (fits_part t v g.sizes g.depths fit)) g)

-- it is no smaller, if it is within the limits
abbrev Grows : Process → Process → Type 0
Grows p v = IsTrue (fits v) → Within p v

either_grows : (p v : Process) (b : Bool) → (IsTrue b → Grows p v) → Grows p (cond b v p)
either_grows p v true h fit = h refl fit
either_grows p v false h fit = within_itself p

or_grows : (p v : Process) (b : Bool) → Grows p v → Grows p (cond b p v)
or_grows p v true h fit = within_itself p
or_grows p v false h fit = h fit

unless_grows : (c : Option Process) (p v : Process) → Grows p v → Grows p (unless_called c p v)
unless_grows (Some c) p v h fit = or_grows p v (is_eq (process_cmp c p)) h fit
unless_grows None p v h fit = h fit

place_grows : (p v : Process) → Grows p (in_place_of p v)
place_grows p v fit = either_grows p v (is_no_larger p v) (λ h g. within_of p v h g) fit

unfolded_grows : (go_on : Process → Process) (p : Process) (o : Option Process) → Grows p (unfolded_or go_on p o)
unfolded_grows go_on p (Some q) fit = either_grows p (changed_or p q (go_on q)) (fits q) (λ _. or_grows p (in_place_of p (go_on q)) (is_eq (process_cmp q (go_on q))) (place_grows p (go_on q))) fit
unfolded_grows go_on p None fit = within_itself p

body_grows : (go_on : Process → Process) (on : (t : Process) → Grows t (go_on t)) (p : Process) (r : Result Process Cause) → Grows p (body_or go_on p r)
body_grows go_on on p (Ok t) fit =
    either_grows p (go_on t) (is_no_larger p t) (λ h g. within_of p (go_on t) (no_larger_grown p t (go_on t) h (on t)) g) fit
body_grows go_on on p (Err c) fit = within_itself p

module _ (s : Script) where
  module _ (go_on : Option Process → Process → Process) (on : (c : Option Process) (t : Process) → Grows t (go_on c t)) (c : Option Process) where
    calls_grow : (p : Process) → Grows p (unfold_calls s go_on c p)
    calls_grow (Call n es) fit = unless_grows c (Call n es) (body_or (go_on (Some (Call n es))) (Call n es) (called s n es))
        (body_grows (go_on (Some (Call n es))) (on (Some (Call n es))) (Call n es) (called s n es)) fit
    calls_grow (ExternalChoice p q) fit =
        let v = unfold_calls s go_on c p in let w = unfold_calls s go_on c q in
        let l = calls_grow p (fits_part v (ExternalChoice v w) (omega arith) (omega arith) fit) in
        let r = calls_grow q (fits_part w (ExternalChoice v w) (omega arith) (omega arith) fit) in
        record { sizes = omega (arith, l.sizes, r.sizes); depths = omega (arith, l.depths, r.depths) }
    calls_grow (Sequential p q) fit =
        let v = unfold_calls s go_on c p in
        let l = calls_grow p (fits_part v (Sequential v q) (omega arith) (omega arith) fit) in record { sizes = omega (arith, l.sizes); depths = omega (arith, l.depths) }
    calls_grow (Interleaving p q) fit =
        let v = unfold_calls s go_on c p in let w = unfold_calls s go_on c q in
        let l = calls_grow p (fits_part v (Interleaving v w) (omega arith) (omega arith) fit) in
        let r = calls_grow q (fits_part w (Interleaving v w) (omega arith) (omega arith) fit) in
        record { sizes = omega (arith, l.sizes, r.sizes); depths = omega (arith, l.depths, r.depths) }
    calls_grow (Interrupt p q) fit =
        let v = unfold_calls s go_on c p in let w = unfold_calls s go_on c q in
        let l = calls_grow p (fits_part v (Interrupt v w) (omega arith) (omega arith) fit) in
        let r = calls_grow q (fits_part w (Interrupt v w) (omega arith) (omega arith) fit) in
        record { sizes = omega (arith, l.sizes, r.sizes); depths = omega (arith, l.depths, r.depths) }
    calls_grow (GeneralisedParallel p a q) fit =
        let v = unfold_calls s go_on c p in let w = unfold_calls s go_on c q in
        let l = calls_grow p (fits_part v (GeneralisedParallel v a w) (omega arith) (omega arith) fit) in
        let r = calls_grow q (fits_part w (GeneralisedParallel v a w) (omega arith) (omega arith) fit) in
        record { sizes = omega (arith, l.sizes, r.sizes); depths = omega (arith, l.depths, r.depths) }
    calls_grow (AlphabetisedParallel p a b q) fit =
        let v = unfold_calls s go_on c p in let w = unfold_calls s go_on c q in
        let l = calls_grow p (fits_part v (AlphabetisedParallel v a b w) (omega arith) (omega arith) fit) in
        let r = calls_grow q (fits_part w (AlphabetisedParallel v a b w) (omega arith) (omega arith) fit) in
        record { sizes = omega (arith, l.sizes, r.sizes); depths = omega (arith, l.depths, r.depths) }
    calls_grow (Hiding p a) fit =
        let v = unfold_calls s go_on c p in
        let l = calls_grow p (fits_part v (Hiding v a) (omega arith) (omega arith) fit) in record { sizes = omega (arith, l.sizes); depths = omega (arith, l.depths) }
    calls_grow (Renaming p rs) fit =
        let v = unfold_calls s go_on c p in
        let l = calls_grow p (fits_part v (Renaming v rs) (omega arith) (omega arith) fit) in record { sizes = omega (arith, l.sizes); depths = omega (arith, l.depths) }
    calls_grow (SlidingChoice p q) fit =
        let v = unfold_calls s go_on c p in
        let l = calls_grow p (fits_part v (SlidingChoice v q) (omega arith) (omega arith) fit) in record { sizes = omega (arith, l.sizes); depths = omega (arith, l.depths) }
    calls_grow p fit = unfolded_grows (go_on c) p (stands_for s p) fit

  pub settled_grows : (n : ℕ) (c : Option Process) (p : Process) → Grows p (settled_within n s c p)
  settled_grows zero c p fit = within_itself p
  settled_grows (suc n) c p fit = calls_grow (settled_within n s) (settled_grows n) c p fit

  by_grows : (u : Unfolding) (p : Process) → Grows p (settled_by u s p)
  by_grows ByTau p fit = within_itself p
  by_grows AtOnce p fit = settled_grows most_unfoldings None p fit

  pub settled_is_no_smaller : (p : Process) → Grows p (settled s p)
  settled_is_no_smaller p fit = by_grows s.unfolds p fit

  pub fits_before_settling : (p : Process) → IsTrue (fits (settled s p)) → IsTrue (fits p)
  fits_before_settling p fit = let g = settled_is_no_smaller p fit in fits_part p (settled s p) g.sizes g.depths fit
