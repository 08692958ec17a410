-- Items of a list, one after the other.
use Rattle.std.proofs.Common.{◌≡◌, ◌<◌, ◌+◌, ℕ, zero, suc, List, [], ◌∷◌, ◌++◌, length, get_or, map, take, refl, sym, ◌∙◌, ap, ap₂, subst, arith}
use Rattle.std.proofs.lemmas.List.{map-append}
use Rattle.theory_search.proofs.Adding.{take_next}
use Rattle.std.specs.List.{AllByRecursion}

any_default : {Y : Type 0} (ys : List Y) (i : ℕ) (d e : Y) → i < length ys → get_or ys i d ≡ get_or ys i e
any_default [] i d e within = absurd (omega (arith, within))
any_default (y ∷ ys) zero d e within = refl
any_default (y ∷ ys) (suc i) d e within = any_default ys i d e (omega (arith, within))

-- One more item of a loop that pushes: f of what was pushed is g of the item that was read.
pub map_push : {X Y C : Type 0} (f : X → C) (g : Y → C) (xs zs : List X) (x : X) (ys : List Y) (i : ℕ) (y d : Y) → map f xs ≡ map g (take i ys) → i < length ys → y ≡ get_or ys i d → f x ≡ g y → zs ≡ xs ++ x ∷ [] → map f zs ≡ map g (take (i + 1) ys)
map_push f g xs zs x ys i y d same within read one pushed =
    ap (map f) pushed ∙ (map-append f xs (x ∷ []) ∙ (ap₂ (λ cs c. cs ++ c ∷ []) same one ∙ sym (take_next g ys i y within (read ∙ any_default ys i d y within))))

-- what holds of all items holds of the one that is read
pub holds_at : {X : Type 0} (P : X → Type 0) (xs : List X) (i : ℕ) (x d : X) → AllByRecursion P xs → i < length xs → x ≡ get_or xs i d → P x
holds_at P [] i x d all within is = absurd (omega (arith, within))
holds_at P (y ∷ ys) zero x d all within is = subst P (sym is) all.0
holds_at P (y ∷ ys) (suc i) x d all within is = holds_at P ys i x d all.1 (omega (arith, within)) is

-- so for what the items stand for
pub stands_at : {X Y : Type 0} (f : X → Y) (P : Y → Type 0) (xs : List X) (i : ℕ) (x d : X) → AllByRecursion P (map f xs) → i < length xs → x ≡ get_or xs i d → P (f x)
stands_at f P [] i x d all within is = absurd (omega (arith, within))
stands_at f P (y ∷ ys) zero x d all within is = subst (λ z. P (f z)) (sym is) all.0
stands_at f P (y ∷ ys) (suc i) x d all within is = stands_at f P ys i x d all.1 (omega (arith, within)) is
