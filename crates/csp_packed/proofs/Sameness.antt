-- The comparisons tell exactly whether two stand for the same process.
use denote.RattleType
use mir.Syntax
use Rattle.std.proofs.Common.{◌≡◌, ℕ, List, Bool, true, false, nat_eq, IsTrue, IsFalse, sym, ap, ◌∙◌}
use Rattle.std.specs.declared.alloc.Allocator as allocator
use lib.Pointwise.{pointwise}
use Rattle.theory_syntax.specs.Process.{Process}
use Rattle.theory_semantics.specs.Meaning.Limits.{fits}
use Rattle.theory_spelling.specs.Spelling.{spelling}
use Rattle.csp_value.proofs.Sameness.{Tells, text_tells}
use Rattle.csp_term.specs.Term.{process_of}
use Rattle.csp_term.proofs.Equality.{term_tells}
use Rattle.csp_packed.specs.Within.{term_spelled}
use Rattle.csp_packed.specs.Packed.{kept_process, packed_process}
use Rattle.csp_packed.specs.declared.packed_term.PackedTerm.{PackedTerm}
use Rattle.csp_packed.specs.declared.large_term.LargeTerm.{LargeTerm}
use Rattle.csp_packed.specs.declared.kept_term.KeptTerm.{KeptTerm}
use Rattle.csp_packed.specs.declared.kept_term.KeptTerm.TheVariants as kept
use Rattle.csp_packed.specs.contracts.packed_term.PackedTermPartialEq.TheImpl as packed_impl
use Rattle.csp_packed.specs.contracts.kept_term.KeptTermPartialEq.TheImpl as kept_impl
use Rattle.csp_packed.proofs.Spelled.{within_there}

-- one term is not both within the limits and past them
apart : (p q : Process) → IsTrue (fits p) → IsFalse (fits q) → p ≡ q → ⊥
apart p q within past same = let e : true ≡ false = sym within ∙ (ap fits same ∙ past) in cc e

module _ (R : RattleType.RattleType) (A : allocator.Ghosts R.Denot) (ad dd : Syntax.Dict) where
  abbrev pub packed_eq : PackedTerm R.Denot → PackedTerm R.Denot → Bool
  packed_eq = (packed_impl.ghosts R A ad dd).eq

  pub packed_tells : Tells packed_eq (packed_process {A = R.Denot})
  packed_tells = record {
    sound = λ x y e. ap term_spelled (text_tells.sound x.bytes.items y.bytes.items e);
    complete = λ x y e. text_tells.complete x.bytes.items y.bytes.items (sym x.spells.1 ∙ (ap spelling e ∙ y.spells.1));
  }

  abbrev pub kept_eq : KeptTerm R.Denot → KeptTerm R.Denot → Bool
  kept_eq = (kept_impl.ghosts R A ad dd).eq

  kept_sound : (x y : KeptTerm R.Denot) → kept_eq x y ≡ true → kept_process x ≡ kept_process y
  kept_sound (kept.Packed s) (kept.Packed t) e = packed_tells.sound s t e
  kept_sound (kept.Packed s) (kept.Large t) e = absurd (cc e)
  kept_sound (kept.Large s) (kept.Packed t) e = absurd (cc e)
  kept_sound (kept.Large s) (kept.Large t) e = (term_tells R A ad dd).sound s.term t.term e

  kept_complete : (x y : KeptTerm R.Denot) → kept_process x ≡ kept_process y → kept_eq x y ≡ true
  kept_complete (kept.Packed s) (kept.Packed t) e = packed_tells.complete s t e
  kept_complete (kept.Packed s) (kept.Large t) e = absurd (apart (packed_process s) (process_of t.term) (within_there s.bytes.items s.spells) t.past e)
  kept_complete (kept.Large s) (kept.Packed t) e = absurd (apart (packed_process t) (process_of s.term) (within_there t.bytes.items t.spells) s.past (sym e))
  kept_complete (kept.Large s) (kept.Large t) e = (term_tells R A ad dd).complete s.term t.term e

  pub kept_tells : Tells kept_eq (kept_process {A = R.Denot})
  kept_tells = record { sound = kept_sound; complete = kept_complete }
