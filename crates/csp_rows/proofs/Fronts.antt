-- A part at the front of bytes.
use Rattle.std.proofs.Common.{◌≡◌, ◌<◌, ◌≤◌, ◌+◌, ◌++◌, ℕ, List, [], ◌∷◌, length, take, get_or, slice_get, false, Option, Some, None, sym, ap, subst, ◌∙◌, arith}
use Rattle.std.specs.List.{AllByRecursion}
use Rattle.std.specs.Option.{is_some}
use Rattle.std.proofs.lemmas.List.{take_more}
use Rattle.theory_shapes.proofs.Segments.{all_append}
use Rattle.csp_rows.specs.declared.numbers.PartId.{PartId}
use Rattle.csp_rows.specs.declared.part.Part.{Part}
use Rattle.csp_rows.specs.Rows.{spelling_at, spelling_of_part}
use Rattle.csp_rows.specs.declared.splitting.FrontRun.{FrontRun}
use Rattle.csp_rows.specs.Split.{IsInFront, IsNotInFront, IsRunAtFront}

module _ {A : Type 0} (parts : List (Part A)) (bytes : List ℕ) where
  -- the spelling of a part that is kept
  pub spelled_there : (n : ℕ) (part : Part A) → slice_get parts n ≡ Some part → spelling_at parts n ≡ part.spelling.items
  spelled_there n part is = ap spelling_of_part is

  not_one : (n : PartId) (o : Option FrontRun) → IsRunAtFront bytes (n ∷ []) parts o → false ≡ is_some o → IsNotInFront parts bytes n
  not_one n None is none = is.0
  not_one n (Some run) is none = absurd (cc none)

  -- one more that is not
  pub none_more : (tried : List PartId) (i : ℕ) (d : PartId) (o : Option FrontRun) → i < length tried → AllByRecursion (IsNotInFront parts bytes) (take i tried) → IsRunAtFront bytes (get_or tried i d ∷ []) parts o → false ≡ is_some o → AllByRecursion (IsNotInFront parts bytes) (take (i + 1) tried)
  none_more tried i d o within all is none =
      subst (AllByRecursion (IsNotInFront parts bytes)) (sym (take_more tried i d within)) (all_append (IsNotInFront parts bytes) (take i tried) (get_or tried i d ∷ []) all (not_one (get_or tried i d) o is none, tt))

  pub in_front : (n : PartId) (part : Part A) (run behind : List ℕ) → n.0 < length parts → slice_get parts n.0 ≡ Some part → run ≡ part.spelling.items → bytes ≡ run ++ behind → IsInFront parts bytes n behind
  in_front n part run behind within there same is = (within, is ∙ ap (λ (xs : List ℕ). xs ++ behind) (same ∙ sym (spelled_there n.0 part there)))

  pub not_in_front : (n : PartId) (part : Part A) (run : List ℕ) → slice_get parts n.0 ≡ Some part → run ≡ part.spelling.items → ((behind : List ℕ) → bytes ≡ run ++ behind → ⊥) → IsNotInFront parts bytes n
  not_in_front n part run there same never behind front = never behind (front.1 ∙ ap (λ (xs : List ℕ). xs ++ behind) (spelled_there n.0 part there ∙ sym same))

  pub not_kept : (n : PartId) → length parts ≤ n.0 → IsNotInFront parts bytes n
  not_kept n past behind front = let within = front.0 in omega (arith, past, within)
