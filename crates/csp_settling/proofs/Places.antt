-- What stands in the place of a term.
use Rattle.std.proofs.Common.{◌≡◌, ◌≤◌, ◌↔◌, nat_le, cond, ◌&&◌, Bool, true, false, IsTrue, IsFalse, refl, sym, ◌∙◌, ap, ap₂, arith}
use Rattle.std.specs.Ordering.{is_eq}
use Rattle.theory_syntax.specs.Process.{Process}
use Rattle.theory_syntax.specs.Order.{process_cmp}
use Rattle.theory_syntax.proofs.ProcessOrder.{process_refl, process_same}
use Rattle.theory_syntax.proofs.Equalities.{is_eq-Equal}
use Rattle.theory_semantics.specs.Meaning.Limits.{size, depth, fits}
use Rattle.theory_semantics.specs.Meaning.Unfolding.{changed_or, in_place_of, is_no_larger}
use Rattle.theory_semantics.proofs.Sizes.{Within, within_of, fits_part, no_larger_of}
use Rattle.csp_settling.specs.declared.unfolded.Unfolded.{Unfolded}
use Rattle.csp_settling.specs.declared.unfolded.Unfolded.TheVariants as unfolded
use Rattle.csp_settling.specs.Settling.{TellsUnfolded}

-- ---- sizes

module _ (p v : Process) (fit : IsTrue (fits v)) where
  pub no_larger_is : is_no_larger p v ≡ nat_le (size p) (size v) && nat_le (depth p) (depth v)
  no_larger_is = ap (λ b. cond b (nat_le (size p) (size v) && nat_le (depth p) (depth v)) true) fit

  -- what is past the limits is larger than a term within them
  pub larger_past : IsFalse (fits p) → is_no_larger p v ≡ false
  larger_past past = by_test (is_no_larger p v) refl
    where
      by_test : (b : Bool) → is_no_larger p v ≡ b → b ≡ false
      by_test true is = absurd (let w = within_of p v is fit in let e = sym past ∙ fits_part p v w.sizes w.depths fit in cc e)
      by_test false is = refl

-- ---- places

-- what is past the limits stands in the place of any term
pub place_past : (p v : Process) → IsFalse (fits v) → in_place_of p v ≡ v
place_past p v past = ap (λ b. cond (cond b (nat_le (size p) (size v) && nat_le (depth p) (depth v)) true) v p) past

pub place_taken : (p v : Process) → is_no_larger p v ≡ true → in_place_of p v ≡ v
place_taken p v is = ap (λ b. cond b v p) is

pub place_kept : (p v : Process) → is_no_larger p v ≡ false → in_place_of p v ≡ p
place_kept p v is = ap (λ b. cond b v p) is

-- ---- what stands for a process

pub changed_same : (p q v : Process) → v ≡ q → changed_or p q v ≡ p
changed_same p q v same = ap (λ u. cond (is_eq (process_cmp q u)) p (in_place_of p u)) same ∙ ap (λ o. cond (is_eq o) p (in_place_of p q)) (process_refl q)

pub changed_other : (p q v : Process) → (q ≡ v → ⊥) → changed_or p q v ≡ in_place_of p v
changed_other p q v differ = by_test (is_eq (process_cmp q v)) refl
  where
    by_test : (b : Bool) → is_eq (process_cmp q v) ≡ b → cond b p (in_place_of p v) ≡ in_place_of p v
    by_test true is = absurd (differ (process_same q v (is_eq-Equal (process_cmp q v) is)))
    by_test false is = refl

pub changed_past : (p q v : Process) → IsTrue (fits q) → IsFalse (fits v) → IsFalse (fits (changed_or p q v))
changed_past p q v fit past =
    let differ : q ≡ v → ⊥ = λ e. let f = sym past ∙ sym (ap fits e) ∙ fit in cc f in
    ap fits (changed_other p q v differ ∙ place_past p v past) ∙ past

-- ---- sides

pub side_kept : (p v : Process) → v ≡ p → cond (fits v) v p ≡ p
side_kept p v same = either (fits v)
  where
    either : (b : Bool) → cond b v p ≡ p
    either true = same
    either false = refl

pub side_taken : (p v : Process) → IsTrue (fits v) → cond (fits v) v p ≡ v
side_taken p v fit = ap (λ b. cond b v p) fit

pub side_past : (p v : Process) → IsFalse (fits v) → cond (fits v) v p ≡ p
side_past p v past = ap (λ b. cond b v p) past

-- ---- the same term

pub same_term : (c p : Process) (b : Bool) → IsTrue b ↔ (c ≡ p) → is_eq (process_cmp c p) ≡ b
same_term c p true same = ap (λ q. is_eq (process_cmp c q)) (sym (same.0 refl)) ∙ ap is_eq (process_refl c)
same_term c p false same = by_test (is_eq (process_cmp c p)) refl
  where
    by_test : (b : Bool) → is_eq (process_cmp c p) ≡ b → b ≡ false
    by_test true is = absurd (let e = same.1 (process_same c p (is_eq-Equal (process_cmp c p) is)) in cc e)
    by_test false is = refl
