-- Where a step leads, settled.
use Rattle.std.proofs.Common.{◌≡◌, Bool, true, false, cond, IsTrue, IsFalse, Option, Some, None, refl, sym, ◌∙◌, ap}
use Rattle.theory_syntax.specs.Process.{Process, Script}
use Rattle.theory_semantics.specs.Meaning.Limits.{fits}
use Rattle.theory_semantics.specs.Meaning.Unfolding.{settled}
use Rattle.theory_semantics.proofs.Sizes.{fits_before_settling}
use Rattle.csp_steps.specs.Answering.{within_limits}

pub is_within : (p : Process) → IsTrue (fits p) → Some p ≡ within_limits p
is_within p fit = sym (ap (λ b. cond b (Some p) None) fit)

pub is_past : (p : Process) → IsFalse (fits p) → None ≡ within_limits p
is_past p past = sym (ap (λ b. cond b (Some p) None) past)

pub within_of : (t p : Process) → Some t ≡ within_limits p → (t ≡ p) × IsTrue (fits t)
within_of t p is = by_fit (fits p) refl is
  where
    by_fit : (b : Bool) → fits p ≡ b → Some t ≡ cond b (Some p) None → (t ≡ p) × IsTrue (fits t)
    by_fit true fit e = let same : t ≡ p = cc e in (same, ap fits same ∙ fit)
    by_fit false fit e = absurd (cc e)

pub past_of : (p : Process) → None ≡ within_limits p → IsFalse (fits p)
past_of p is = by_fit (fits p) refl is
  where
    by_fit : (b : Bool) → fits p ≡ b → None ≡ cond b (Some p) None → b ≡ false
    by_fit true fit e = absurd (cc e)
    by_fit false fit e = refl

-- what is past the limits is settled past them
pub stays_past : (s : Script) (p : Process) → IsFalse (fits p) → IsFalse (fits (settled s p))
stays_past s p past = by_fit (fits (settled s p)) refl
  where
    by_fit : (b : Bool) → fits (settled s p) ≡ b → b ≡ false
    by_fit true fit = absurd (let e = sym past ∙ fits_before_settling s p fit in cc e)
    by_fit false fit = refl
