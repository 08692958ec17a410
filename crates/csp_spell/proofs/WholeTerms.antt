-- What is read of all of the bytes, and what the bytes spell.
use Rattle.std.proofs.Common.{◌≡◌, ℕ, List, [], Bool, Some, Result, Ok, Err, IfOk, IsTrue, ◌↔◌, sym, ap, subst, ◌∙◌}
use Rattle.theory_syntax.specs.Process.{Process}
use Rattle.theory_spelling.specs.Spelling.{spelling}
use Rattle.theory_semantics.specs.Kinds.Scripts.{IsTermOf}
use Rattle.theory_spelling.specs.Spellable.{IsSpellable}
use Rattle.theory_spelling.specs.Packable.{IsPackable}
use Rattle.theory_spelling.specs.Ranges.{IsInRange}
use Rattle.theory_spelling.specs.Reading.{IsBytes, term_of}
use Rattle.theory_spelling.proofs.Laws.{same_spelling, term_again, term_takes}
use Rattle.theory_spelling.proofs.ShortLists.{within_is_short}
use Rattle.theory_spelling.proofs.KindedSpelling.{spellable}
use Rattle.csp_spell.specs.declared.fault.UnpackFault.{UnpackFault}
use Rattle.csp_spell.specs.Gives.{Gives}
use Rattle.csp_spell.specs.WithinLimits.{IsTermWithinLimits}

module _ {X : Type 0} (view : X → Process) where
  -- what is answered is spelled by the bytes
  pub found_is_spelled : (r : Result X UnpackFault) (bytes : List ℕ) → IsBytes bytes → Gives view r (term_of bytes) → IfOk r (λ x. (spelling (view x) ≡ bytes) × IsSpellable (view x))
  found_is_spelled (Ok x) bytes fits given = term_takes bytes (view x) fits given
  found_is_spelled (Err e) bytes fits given = tt

  -- what the bytes spell is answered
  pub spelled_is_found : (r : Result X UnpackFault) (bytes : List ℕ) → Gives view r (term_of bytes) → (p : Process) → IsSpellable p → spelling p ≡ bytes → Gives view r (Some p)
  spelled_is_found r bytes given p fits e = subst (λ f. Gives view r f) (ap term_of (sym e) ∙ term_again p fits) given

-- a test of the bytes is one of the terms
pub alike : (p q : Process) → IsSpellable p → IsSpellable q → (bytes others : List ℕ) → bytes ≡ spelling p → others ≡ spelling q → (b : Bool) → IsTrue b ↔ (bytes ≡ others) → IsTrue b ↔ (p ≡ q)
alike p q fits fits_too bytes others one two b same = (λ t. same_spelling p q fits fits_too (sym one ∙ same.0 t ∙ two), λ e. same.1 (one ∙ ap spelling e ∙ sym two))

-- ---- terms within the limits

pub term_is_short : (p : Process) → IsTermWithinLimits p → IsPackable p
term_is_short p h = within_is_short p h.1

pub term_is_spellable : (p : Process) → IsTermWithinLimits p → IsInRange p → IsSpellable p
term_is_spellable p h range =
    let is : IsTermOf h.0.0 p = h.0.1 in
    spellable h.0.0 is.0 [] p is.2 (within_is_short p h.1) range
