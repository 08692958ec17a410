-- The small datatype of worked examples is well-kinded.
use Rattle.std.proofs.Common.{◌≡◌, ℕ, zero, suc, List, [], ◌∷◌, slice_get, Some, refl, sym, subst, Contains, ⊎_elim, arith}
use Rattle.theory_syntax.specs.Value.{Value}
use Rattle.theory_syntax.proofs.Members.{contains_cases, contains_none}
use Rattle.theory_semantics.specs.Kinds.Kind.{IntKind}
use Rattle.theory_semantics.specs.Kinds.Values.{IsConstructorOf}
use Rattle.theory_semantics.specs.Kinds.Scripts.{HaveFieldSets, IsWellKindedScript}
use Rattle.theory_semantics.specs.Laws.Terms.{bits, some_bit, bit_script}
use Rattle.theory_semantics.specs.Laws.Kinds.{kinds_of_bits}

pub second_is_one : IsConstructorOf some_bit 0 1
second_is_one = (0 ∷ 1 ∷ [], refl, (1, omega arith, refl))

first_is_one : IsConstructorOf some_bit 0 0
first_is_one = (0 ∷ 1 ∷ [], refl, (0, omega arith, refl))

-- both constructors have their fields
abbrev HasSets : ℕ → Type 0
HasSets c = (sets : List (List Value)) × (slice_get some_bit.constructors c ≡ Some sets)

one_of_two : (c : ℕ) → Contains (0 ∷ 1 ∷ []) c → HasSets c
one_of_two c has = ⊎_elim (λ e. subst HasSets e ([], refl)) (λ h. ⊎_elim (λ e. subst HasSets e (bits ∷ [], refl)) (λ g. absurd (contains_none c g)) (contains_cases 1 [] c h)) (contains_cases 0 (1 ∷ []) c has)

have_sets : HaveFieldSets some_bit
have_sets zero c is = let same : 0 ∷ 1 ∷ [] ≡ is.0 = let both : Some (0 ∷ 1 ∷ []) ≡ Some is.0 = is.1 in cc both in one_of_two c (subst (λ cs. Contains cs c) (sym same) is.2)
have_sets (suc d) c is = absurd (cc is.1)

pub well_kinded : IsWellKindedScript bit_script kinds_of_bits
well_kinded = record {
  sets = record {
    types = record { nametypes = tt; constructors = (tt, ((((tt, (tt, tt)), (refl, tt)), tt), tt)); fields = have_sets; datatypes = ((refl, tt), tt) };
    channels = (((((first_is_one, ([], refl, tt)), ((second_is_one, (IntKind ∷ [], refl, (tt, tt))), ((second_is_one, (IntKind ∷ [], refl, (tt, tt))), tt))), (refl, (refl, tt))), tt), tt);
  };
  equations = tt;
  assertions = tt;
}
