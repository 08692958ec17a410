-- Values that lie in a set, kept one by one.
use Rattle.std.proofs.Common.{◌≡◌, ℕ, ◌+◌, ◌<◌, ◌≤◌, true, false, cond, List, [], ◌∷◌, ◌++◌, length, drop, get_or, filter, sym, ◌∙◌, ap, append-nil, append_assoc}
use Rattle.std.proofs.lemmas.List.{drop_all, map-append}
use Rattle.theory_syntax.proofs.Places.{cut}
use Rattle.theory_syntax.specs.Value as pure
use Rattle.theory_syntax.specs.Value.{has_value}
use Rattle.csp_value.specs.declared.value.Value.{Value}
use Rattle.csp_value.specs.Value.{value_of, values_of}

module _ {A : Type 0} (set : List pure.Value) (values : List (Value A)) (i : ℕ) (made : List (Value A)) where
  abbrev keep : List pure.Value → List pure.Value
  keep vs = filter (λ v. has_value set v) vs

  -- what was kept, and behind it what is kept of those that are left, are all
  abbrev pub AreSoFar : Type 0
  AreSoFar = values_of made ++ keep (values_of (drop i values)) ≡ keep (values_of values)

  module _ (v : Value A) (within : i < length values) (read : v ≡ get_or values i v) (so_far : AreSoFar) where
    this : values_of made ++ cond (has_value set (value_of v)) (value_of v ∷ keep (values_of (drop (i + 1) values))) (keep (values_of (drop (i + 1) values))) ≡ keep (values_of values)
    this = ap (λ vs. values_of made ++ keep (values_of vs)) (cut values i v within read) ∙ so_far

    pub one_more : (more : List (Value A)) (w : Value A) → has_value set (value_of v) ≡ true → value_of w ≡ value_of v → more ≡ made ++ w ∷ [] →
        values_of more ++ keep (values_of (drop (i + 1) values)) ≡ keep (values_of values)
    one_more more w lies same pushed =
        let left = keep (values_of (drop (i + 1) values)) in
        ap (λ vs. values_of vs ++ left) pushed ∙ ap (λ vs. vs ++ left) (map-append value_of made (w ∷ [])) ∙ append_assoc (values_of made) (value_of w ∷ []) left
        ∙ ap (λ x. values_of made ++ x ∷ left) same
        ∙ sym (ap (λ b. values_of made ++ cond b (value_of v ∷ left) left) lies) ∙ this

    pub left_out : has_value set (value_of v) ≡ false → values_of made ++ keep (values_of (drop (i + 1) values)) ≡ keep (values_of values)
    left_out lies =
        let left = keep (values_of (drop (i + 1) values)) in
        sym (ap (λ b. values_of made ++ cond b (value_of v ∷ left) left) lies) ∙ this

  pub all_kept : length values ≤ i → AreSoFar → values_of made ≡ keep (values_of values)
  all_kept past so_far = sym (append-nil (values_of made)) ∙ ap (λ vs. values_of made ++ keep (values_of vs)) (sym (drop_all i values past)) ∙ so_far
