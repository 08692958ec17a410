-- What the things of a list add in turn.
use Rattle.std.specs.Prelude.{take, get_or}
use Rattle.std.proofs.lemmas.List.{take_all, take_more}
use Rattle.std.proofs.Common.{◌≡◌, ◌∙◌, ℕ, ◌+◌, ◌<◌, ◌≤◌, List, [], ◌∷◌, ◌++◌, length, ap, sym}

-- the first things of a list with the one that is read next
pub cut_at : {I : Type 0} (items : List I) (i : ℕ) (x : I) → i < length items → x ≡ get_or items i x → take (i + 1) items ≡ take i items ++ x ∷ []
cut_at items i x within read = take_more items i x within ∙ ap (λ y. take i items ++ y ∷ []) (sym read)

-- What is added in two parts is added in turn, and the things of a list add what each of them does.
module _ {S I X : Type 0} (add : S → List X → S) (in_turn : (s : S) (xs ys : List X) → add s (xs ++ ys) ≡ add (add s xs) ys)
    (added : List I → List X) (in_parts : (is js : List I) → added (is ++ js) ≡ added is ++ added js) (items : List I) (i : ℕ) where
  pub one_more : (old now new : S) (x : I) → take (i + 1) items ≡ take i items ++ x ∷ [] → now ≡ add old (added (take i items)) → new ≡ add now (added (x ∷ [])) → new ≡ add old (added (take (i + 1) items))
  one_more old now new x cut so_far one =
      one ∙ ap (λ s. add s (added (x ∷ []))) so_far ∙ sym (in_turn old (added (take i items)) (added (x ∷ [])))
      ∙ ap (add old) (sym (in_parts (take i items) (x ∷ []))) ∙ ap (λ xs. add old (added xs)) (sym cut)

  pub all_added : (old now : S) → length items ≤ i → now ≡ add old (added (take i items)) → now ≡ add old (added items)
  all_added old now over so_far = so_far ∙ ap (λ xs. add old (added xs)) (take_all i items over)
