-- Bytes that spell a term within the limits, and that term.
use Rattle.std.proofs.Common.{◌≡◌, ℕ, List, [], ◌∷◌, Bool, true, IsTrue, ◌↔◌, Option, Some, None, refl, sym, ap, subst, ◌∙◌}
use Rattle.theory_syntax.specs.Process.{Process, Omega}
use Rattle.theory_semantics.specs.Meaning.Limits.{fits}
use Rattle.theory_spelling.specs.Spelling.{spelling}
use Rattle.theory_spelling.specs.Ranges.{IsInRange}
use Rattle.theory_spelling.specs.Reading as reading
use Rattle.theory_spelling.specs.Reading.{term_of}
use Rattle.theory_spelling.proofs.Laws.{term_again}
use Rattle.csp_spell.specs.WithinLimits.{IsTermWithinLimits}
use Rattle.csp_spell.proofs.WholeTerms.{term_is_spellable}
use Rattle.csp_spell.specs.declared.fault.UnpackFault.{UnpackFault}
use Rattle.csp_spell.specs.declared.fault.UnpackFault.TheVariants as fault
use Rattle.csp_spell.specs.Gives.{Fails}
use Rattle.csp_packed.specs.Within.{is_within, or_stop, term_spelled, SpellsWithin}

some_there : (o : Option Process) → is_within o ≡ true → o ≡ Some (or_stop o)
some_there None e = absurd (cc e)
some_there (Some p) e = refl

fits_there : (o : Option Process) → is_within o ≡ true → fits (or_stop o) ≡ true
fits_there None e = absurd (cc e)
fits_there (Some p) e = e

-- the term is read again, and within the limits
pub read_there : (bytes : List ℕ) → SpellsWithin bytes → term_of bytes ≡ Some (term_spelled bytes)
read_there bytes h = some_there (term_of bytes) h.0

pub within_there : (bytes : List ℕ) → SpellsWithin bytes → IsTrue (fits (term_spelled bytes))
within_there bytes h = fits_there (term_of bytes) h.0

-- what the spelling of such a term is
pub read_of_spelling : (p : Process) (bytes : List ℕ) → IsTermWithinLimits p → IsInRange p → bytes ≡ spelling p → term_of bytes ≡ Some p
read_of_spelling p bytes h range is = ap term_of is ∙ term_again p (term_is_spellable p h range)

pub spelled_of_spelling : (p : Process) (bytes : List ℕ) → IsTermWithinLimits p → IsInRange p → bytes ≡ spelling p → term_spelled bytes ≡ p
spelled_of_spelling p bytes h range is = ap or_stop (read_of_spelling p bytes h range is)

pub spells_of_spelling : (p : Process) (bytes : List ℕ) → IsTermWithinLimits p → IsInRange p → bytes ≡ spelling p → SpellsWithin bytes
spells_of_spelling p bytes h range is = (
  ap is_within (read_of_spelling p bytes h range is) ∙ h.1,
  ap spelling (spelled_of_spelling p bytes h range is) ∙ sym is,
)

-- the process that has ended is spelled by one byte
omega_read : term_spelled (3 ∷ []) ≡ Omega
unfolding term_of reading.process_at reading.process_behind
omega_read = refl

omega_spelling : spelling Omega ≡ 3 ∷ []
omega_spelling = refl

-- so a test for that byte tells whether it has
pub omega_told : (bytes seen single : List ℕ) (b : Bool) → SpellsWithin bytes → seen ≡ bytes → single ≡ 3 ∷ [] → IsTrue b ↔ (seen ≡ single) → IsTrue b ↔ (term_spelled bytes ≡ Omega)
omega_told bytes seen single b h same one told = (
  λ t. ap term_spelled (sym same ∙ (told.0 t ∙ one)) ∙ omega_read,
  λ e. told.1 (same ∙ (sym h.1 ∙ (ap spelling e ∙ (omega_spelling ∙ sym one)))),
)

-- what is read of the bytes is that term
pub read_is : (bytes seen : List ℕ) (p : Process) → SpellsWithin bytes → seen ≡ bytes → term_of seen ≡ Some p → p ≡ term_spelled bytes
read_is bytes seen p h same is = let f : Some p ≡ Some (term_spelled bytes) = sym is ∙ (ap term_of same ∙ read_there bytes h) in cc f

-- and they are the spelling of one
pub never_unread : (bytes seen : List ℕ) (e : UnpackFault) → SpellsWithin bytes → seen ≡ bytes → e ≡ fault.NotATerm → Fails e (term_of seen) → ⊥
never_unread bytes seen e h same is fails =
    let F : UnpackFault → Type 0 = λ z. Fails z (term_of seen) in
    let none : term_of seen ≡ None = subst F is fails in
    let g : Some (term_spelled bytes) ≡ None = sym (read_there bytes h) ∙ (ap term_of (sym same) ∙ none) in cc g
