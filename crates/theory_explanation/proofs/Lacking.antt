-- What an offer lacks, one action at a time.
use Rattle.std.proofs.Common.{◌≡◌, ℕ, ◌+◌, ◌<◌, Bool, true, false, not, cond, List, [], ◌∷◌, ◌++◌, length, get_or, map, take, Contains, refl, sym, ◌∙◌, ap, append-nil}
use Rattle.std.proofs.lemmas.List.Elements.{filter-append}
use Rattle.theory_syntax.specs.Value as pure
use Rattle.theory_search.proofs.Adding.{take_next}
use Rattle.theory_semantics.proofs.Offering.{action_same, action_refl}
use Rattle.theory_semantics.proofs.Rising.{stands_from_Contains, Contains-from_stands, told_stands, stands_told}
use Rattle.theory_explanation.specs.Lacking.{lacking}

-- one of the actions, as the test says
pub has_of : (xs : List pure.Action) (x : pure.Action) → Contains xs x → pure.has_action xs x ≡ true
has_of xs x c = let at = stands_from_Contains xs x c in stands_told pure.action_eq action_refl pure.has_action (λ y ys z. refl) xs x at.0 at.1

pub has_none : (xs : List pure.Action) (x : pure.Action) → (Contains xs x → ⊥) → pure.has_action xs x ≡ false
has_none xs x missing = by (pure.has_action xs x) refl
  where
    by : (b : Bool) → pure.has_action xs x ≡ b → b ≡ false
    by true there = absurd (missing (Contains-from_stands xs x (told_stands pure.action_eq action_same pure.has_action (λ y f. cc f) (λ y ys z. refl) xs x there)))
    by false none = refl

module _ {X : Type 0} (meaning : X → pure.Action) (offer : List pure.Action) (ys : List X) (i : ℕ) (y : X) (inside : i < length ys) (read : y ≡ get_or ys i y) where
  longer : lacking offer (map meaning (take (i + 1) ys)) ≡ lacking offer (map meaning (take i ys)) ++ lacking offer (meaning y ∷ [])
  longer = ap (lacking offer) (take_next meaning ys i y inside read) ∙ filter-append (λ x. not (pure.has_action offer x)) (map meaning (take i ys)) (meaning y ∷ [])

  -- an action that is offered
  pub lacks_no_more : (so_far : List pure.Action) → so_far ≡ lacking offer (map meaning (take i ys)) → Contains offer (meaning y) → so_far ≡ lacking offer (map meaning (take (i + 1) ys))
  lacks_no_more so_far is there =
      let none : lacking offer (meaning y ∷ []) ≡ [] = ap (λ b. cond (not b) (meaning y ∷ []) []) (has_of offer (meaning y) there) in
      is ∙ sym (append-nil (lacking offer (map meaning (take i ys)))) ∙ ap (λ zs. lacking offer (map meaning (take i ys)) ++ zs) (sym none) ∙ sym longer

  -- an action that is not
  pub lacks_one_more : (so_far more : List pure.Action) → so_far ≡ lacking offer (map meaning (take i ys)) → (Contains offer (meaning y) → ⊥) → more ≡ so_far ++ meaning y ∷ [] → more ≡ lacking offer (map meaning (take (i + 1) ys))
  lacks_one_more so_far more is missing pushed =
      let one : lacking offer (meaning y ∷ []) ≡ meaning y ∷ [] = ap (λ b. cond (not b) (meaning y ∷ []) []) (has_none offer (meaning y) missing) in
      pushed ∙ ap (λ zs. zs ++ meaning y ∷ []) is ∙ ap (λ zs. lacking offer (map meaning (take i ys)) ++ zs) (sym one) ∙ sym longer
