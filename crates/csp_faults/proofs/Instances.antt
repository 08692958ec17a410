-- Instances that are made one by one.
use Rattle.std.proofs.Common.{◌≡◌, ℕ, ◌+◌, ◌<◌, ◌≤◌, List, [], ◌∷◌, ◌++◌, length, drop, get_or, map, refl, sym, ◌∙◌, ap, append-nil, append_assoc}
use Rattle.std.proofs.lemmas.List.{drop_all, map-append}
use Rattle.theory_syntax.proofs.Places.{cut}
use Rattle.theory_syntax.specs.Process.{Process}
use Rattle.theory_semantics.specs.Meaning.Events.{instances}
use Rattle.theory_semantics.specs.Meaning.Substitution.{put}
use Rattle.theory_faults.specs.Processes.{only_one}
use Rattle.csp_value.specs.declared.value.Value.{Value}
use Rattle.csp_value.specs.Value.{value_of, values_of}
use Rattle.csp_term.specs.declared.term.Term.{Term}
use Rattle.csp_term.specs.Term.{process_of}

module _ {A : Type 0} (x : ℕ) (p : Process) (values : List (Value A)) (i : ℕ) (made : List (Term A)) where
  -- what was made, and behind it the instances that are left, are all
  abbrev pub AreSoFar : Type 0
  AreSoFar = map process_of made ++ instances x p (values_of (drop i values)) ≡ instances x p (values_of values)

  pub one_more : (more : List (Term A)) (t : Term A) (v : Value A) → i < length values → v ≡ get_or values i v → process_of t ≡ put ((x, value_of v) ∷ []) p → more ≡ made ++ t ∷ [] → AreSoFar →
      map process_of more ++ instances x p (values_of (drop (i + 1) values)) ≡ instances x p (values_of values)
  one_more more t v within read is pushed so_far =
      let rest = instances x p (values_of (drop (i + 1) values)) in
      ap (λ ts. map process_of ts ++ rest) pushed ∙ ap (λ ps. ps ++ rest) (map-append process_of made (t ∷ [])) ∙ append_assoc (map process_of made) (process_of t ∷ []) rest
      ∙ ap (λ q. map process_of made ++ q ∷ rest) is ∙ ap (λ vs. map process_of made ++ instances x p (values_of vs)) (cut values i v within read) ∙ so_far

  pub all_made : length values ≤ i → AreSoFar → map process_of made ≡ instances x p (values_of values)
  all_made past so_far = sym (append-nil (map process_of made)) ∙ ap (λ vs. map process_of made ++ instances x p (values_of vs)) (sym (drop_all i values past)) ∙ so_far

-- one value has an instance alone, and others have none alone
pub alone : {A : Type 0} (x : ℕ) (p : Process) (values : List (Value A)) → length values ≡ 1 → only_one (instances x p (values_of values)) ≡ instances x p (values_of values)
alone x p [] one = refl
alone x p (v ∷ []) one = refl
alone x p (v ∷ w ∷ vs) one = absurd (cc one)

pub not_alone : {A : Type 0} (x : ℕ) (p : Process) (values : List (Value A)) → (length values ≡ 1 → ⊥) → only_one (instances x p (values_of values)) ≡ []
not_alone x p [] many = refl
not_alone x p (v ∷ []) many = absurd (many refl)
not_alone x p (v ∷ w ∷ vs) many = refl
