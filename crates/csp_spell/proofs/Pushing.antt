-- Bytes that are put behind others.
use Rattle.std.proofs.Common.{◌≡◌, ℕ, zero, suc, ◌+◌, ◌<◌, ◌≤◌, List, [], ◌∷◌, ◌++◌, length, map, take, get_or, Result, Ok, Err, OnOk, refl, sym, ap, subst, ◌∙◌, append_assoc, arith}
use Rattle.std.specs.List.{flat_map, AllByRecursion}
use Rattle.std.proofs.lemmas.List.{take_more, take_all, append-nil, map-append}
use Rattle.std.proofs.lemmas.List.Concat.{flat_map-append}
use Rattle.theory_spelling.specs.Spelling.{number_spelling, list_spelling}

-- a part behind its tag
pub behind_tag : {X E : Type 0} (r : Result X E) (old mid new part whole : List ℕ) (k : ℕ) → mid ≡ old ++ k ∷ [] → whole ≡ k ∷ part → OnOk r (new ≡ mid ++ part) → OnOk r (new ≡ old ++ whole)
behind_tag (Ok x) old mid new part whole k tagged is put = put ∙ ap (λ (bytes : List ℕ). bytes ++ part) tagged ∙ append_assoc old (k ∷ []) part ∙ ap (λ (bytes : List ℕ). old ++ bytes) (sym is)
behind_tag (Err e) old mid new part whole k tagged is put = tt

-- a part behind another
pub behind_part : {X E : Type 0} (r : Result X E) (old mid new first part whole : List ℕ) → mid ≡ old ++ first → whole ≡ first ++ part → OnOk r (new ≡ mid ++ part) → OnOk r (new ≡ old ++ whole)
behind_part (Ok x) old mid new first part whole before is put = put ∙ ap (λ (bytes : List ℕ). bytes ++ part) before ∙ append_assoc old first part ∙ ap (λ (bytes : List ℕ). old ++ bytes) (sym is)
behind_part (Err e) old mid new first part whole before is put = tt

-- the same of what was put for certain
pub two_parts : (old mid new first part : List ℕ) → mid ≡ old ++ first → new ≡ mid ++ part → new ≡ old ++ (first ++ part)
two_parts old mid new first part before put = put ∙ ap (λ (bytes : List ℕ). bytes ++ part) before ∙ append_assoc old first part

-- ---- a loop over the items of a list

-- what stands behind the bytes so far: the length of the whole list, and the items that were gone over
abbrev pub Put : {X Y : Type 0} → (Y → List ℕ) → (X → Y) → List X → List ℕ → List ℕ → ℕ → Type 0
Put spelled view xs old now i = now ≡ old ++ (number_spelling (length (map view xs)) ++ flat_map spelled (map view (take i xs)))

pub as_long : {X Y : Type 0} (view : X → Y) (xs : List X) → length xs ≡ length (map view xs)
as_long view [] = refl
as_long view (x ∷ xs) = ap suc (as_long view xs)

module _ {X Y : Type 0} (spelled : Y → List ℕ) (view : X → Y) (xs : List X) (old : List ℕ) where
  pub put_none : (now : List ℕ) → now ≡ old ++ number_spelling (length xs) → Put spelled view xs old now 0
  put_none now put = put ∙ ap (λ (n : ℕ). old ++ number_spelling n) (as_long view xs) ∙ ap (λ (bytes : List ℕ). old ++ bytes) (sym (append-nil (number_spelling (length (map view xs)))))

  pub put_one : (now new : List ℕ) (i : ℕ) (x : X) → i < length xs → x ≡ get_or xs i x → new ≡ now ++ spelled (view x) → Put spelled view xs old now i → Put spelled view xs old new (i + 1)
  put_one now new i x within read put so_far =
      let count = number_spelling (length (map view xs)) in
      let some = flat_map spelled (map view (take i xs)) in
      let more : take (i + 1) xs ≡ take i xs ++ x ∷ [] = take_more xs i x within ∙ ap (λ (y : X). take i xs ++ y ∷ []) (sym read) in
      let items : flat_map spelled (map view (take (i + 1) xs)) ≡ some ++ spelled (view x) =
      ap (λ (ys : List X). flat_map spelled (map view ys)) more ∙ ap (flat_map spelled) (map-append view (take i xs) (x ∷ [])) ∙ flat_map-append spelled (map view (take i xs)) (view x ∷ []) ∙ ap (λ (bytes : List ℕ). some ++ bytes) (append-nil (spelled (view x))) in
      put ∙ ap (λ (bytes : List ℕ). bytes ++ spelled (view x)) so_far ∙ append_assoc old (count ++ some) (spelled (view x)) ∙ ap (λ (bytes : List ℕ). old ++ bytes) (append_assoc count some (spelled (view x)) ∙ ap (λ (bytes : List ℕ). count ++ bytes) (sym items))

  pub put_all : (now : List ℕ) (i : ℕ) → length xs ≤ i → Put spelled view xs old now i → now ≡ old ++ list_spelling spelled (map view xs)
  put_all now i past so_far = so_far ∙ ap (λ (ys : List X). old ++ (number_spelling (length (map view xs)) ++ flat_map spelled (map view ys))) (take_all i xs past)

-- an item of a list of which each item is so
pub item_of : {X Y : Type 0} (P : Y → Type 0) (view : X → Y) (xs : List X) (i : ℕ) (x : X) → i < length xs → x ≡ get_or xs i x → AllByRecursion P (map view xs) → P (view x)
item_of P view [] i x within read each = absurd (omega arith)
item_of P view (y ∷ ys) zero x within read each = subst (λ z. P (view z)) (sym read) each.0
item_of P view (y ∷ ys) (suc i) x within read each = item_of P view ys i x (omega arith) read each.1

-- ---- what holds of each item that was gone over

abbrev pub Gone : {X Y : Type 0} → (Y → Type 0) → (X → Y) → List X → ℕ → Type 0
Gone P view xs i = AllByRecursion P (map view (take i xs))

module _ {X Y : Type 0} (P : Y → Type 0) (view : X → Y) where
  gone_behind : (xs : List X) (x : X) → AllByRecursion P (map view xs) → P (view x) → AllByRecursion P (map view (xs ++ x ∷ []))
  gone_behind [] x h p = (p, tt)
  gone_behind (y ∷ ys) x h p = (h.0, gone_behind ys x h.1 p)

  pub gone_one : (xs : List X) (i : ℕ) (x : X) → i < length xs → x ≡ get_or xs i x → P (view x) → Gone P view xs i → Gone P view xs (i + 1)
  gone_one xs i x within read p so_far =
      let more : take (i + 1) xs ≡ take i xs ++ x ∷ [] = take_more xs i x within ∙ ap (λ (y : X). take i xs ++ y ∷ []) (sym read) in
      subst (λ (ys : List X). AllByRecursion P (map view ys)) (sym more) (gone_behind (take i xs) x so_far p)

  pub gone_all : (xs : List X) (i : ℕ) → length xs ≤ i → Gone P view xs i → AllByRecursion P (map view xs)
  gone_all xs i past so_far = subst (λ (ys : List X). AllByRecursion P (map view ys)) (take_all i xs past) so_far

-- where a call did well
pub where_ok : {X E A : Type 0} (r : Result X E) → A → OnOk r A
where_ok (Ok x) a = a
where_ok (Err e) a = tt

pub also_ok : {X E A B : Type 0} (r : Result X E) → OnOk r A → (A → B) → OnOk r B
also_ok (Ok x) a f = f a
also_ok (Err e) a f = tt
