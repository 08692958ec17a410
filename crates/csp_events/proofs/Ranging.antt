-- In a list that rises the items with a key stand together, from a place that is found by halving.
use Rattle.std.proofs.Common.{◌≡◌, ℕ, zero, suc, ◌+◌, ◌-◌, ◌<◌, ◌≤◌, true, false, List, [], ◌∷◌, ◌++◌, length, map, take, drop, get_or, flat_map, refl, sym, ◌∙◌, ap, ap₂, subst, arith}
use Rattle.std.proofs.lemmas.Grind.{flat_map-append}
use Rattle.std.proofs.lemmas.List.{append-nil, append_assoc, get_or-drop, get_or_default, get_or_read, length-drop, map-append, take-append-drop, take_all, take_more}
use Rattle.std.proofs.lemmas.List.Sorted.{searchable_from_sorted}
use Rattle.std.specs.declared.cmp.Ordering.{Ordering}
use Rattle.std.specs.declared.cmp.Ordering.TheVariants.{Less, Equal, Greater}
use Rattle.std.specs.Cmp.{IsTotalOrder}
use Rattle.std.specs.Ordering.{is_eq, is_lt, ordering_index}
use Rattle.std.specs.List.{AllWithin}
use Rattle.std.specs.List.Sorted.{IsNonDecreasingBy, IsPartitionPoint, IsPartitionedBy, IsSortedBy}
use Rattle.theory_syntax.proofs.Equalities.{is_lt-Less}

-- ---- one more item of which something is made

pub one_made : {X Y Z : Type 0} (meaning : Z → Y) (make : X → List Y) (items : List X) (i : ℕ) (item : X) (before : List Y) (found more : List Z) (z : Z) →
    map meaning found ≡ before ++ flat_map make (take i items) → i < length items → item ≡ get_or items i item → make item ≡ meaning z ∷ [] → more ≡ found ++ z ∷ [] →
    map meaning more ≡ before ++ flat_map make (take (i + 1) items)
one_made meaning make items i item before found more z so_far within read made pushed =
    let longer = take_more items i item within ∙ ap (λ x. take i items ++ x ∷ []) (sym read) in
    let last = sym made ∙ sym (append-nil (make item)) in
    ap (map meaning) pushed ∙ map-append meaning found (z ∷ []) ∙ ap (λ ys. ys ++ meaning z ∷ []) so_far ∙ append_assoc before (flat_map make (take i items)) (meaning z ∷ [])
    ∙ ap (λ ys. before ++ (flat_map make (take i items) ++ ys)) last ∙ ap (λ ys. before ++ ys) (sym (flat_map-append make (take i items) (item ∷ [])) ∙ ap (flat_map make) (sym longer))

-- so for an item that is read with a default
pub one_made_at : {X Y Z : Type 0} (meaning : Z → Y) (make : X → List Y) (items : List X) (i : ℕ) (d : X) (before : List Y) (found more : List Z) (z : Z) →
    map meaning found ≡ before ++ flat_map make (take i items) → i < length items → make (get_or items i d) ≡ meaning z ∷ [] → more ≡ found ++ z ∷ [] → map meaning more ≡ before ++ flat_map make (take (i + 1) items)
one_made_at meaning make items i d before found more z so_far within made pushed =
    let item = get_or items i d in one_made meaning make items i item before found more z so_far within (get_or_default items i d item within) made pushed

-- ---- items of which nothing is made

module _ {X Y : Type 0} (make : X → List Y) where
  nothing_until : (xs : List X) (i : ℕ) → AllWithin (λ x. make x ≡ []) xs 0 i → flat_map make (take i xs) ≡ []
  nothing_until [] zero none = refl
  nothing_until [] (suc i) none = refl
  nothing_until (x ∷ xs) zero none = refl
  nothing_until (x ∷ xs) (suc i) none =
      ap₂ ◌++◌ (none 0 x (omega arith) (omega arith)) (nothing_until xs i (λ j d low high. none (suc j) d (omega arith) (omega (arith, high))))

  nothing_from : (xs : List X) (i : ℕ) → AllWithin (λ x. make x ≡ []) xs i (length xs) → flat_map make (drop i xs) ≡ []
  nothing_from [] zero none = refl
  nothing_from [] (suc i) none = refl
  nothing_from (x ∷ xs) zero none =
      ap₂ ◌++◌ (none 0 x (omega arith) (omega arith)) (nothing_from xs 0 (λ j d low high. none (suc j) d (omega arith) (omega (arith, high))))
  nothing_from (x ∷ xs) (suc i) none = nothing_from xs i (λ j d low high. none (suc j) d (omega (arith, low)) (omega (arith, high)))

-- ---- keys that are compared with one

still_less : (r o : Ordering) → ordering_index r ≤ ordering_index o → is_lt o ≡ true → is_lt r ≡ true
still_less Less o le e = refl
still_less Equal Less le e = absurd (omega (arith, le))
still_less Equal Equal le e = e
still_less Equal Greater le e = absurd (cc e)
still_less Greater Less le e = absurd (omega (arith, le))
still_less Greater Equal le e = absurd (cc e)
still_less Greater Greater le e = e

never_tie : (r o : Ordering) → ordering_index r ≤ ordering_index o → is_lt r ≡ false → is_eq r ≡ false → is_eq o ≡ false
never_tie Less o le less tie = absurd (cc less)
never_tie Equal o le less tie = absurd (cc tie)
never_tie Greater Less le less tie = refl
never_tie Greater Equal le less tie = absurd (omega (arith, le))
never_tie Greater Greater le less tie = refl

module _ {K X : Type 0} {R : K → K → Ordering} (total : IsTotalOrder R) (key : X → K) (k : K) (xs : List X) (rises : IsSortedBy (λ x y. is_lt (R (key x) (key y))) xs) where
  searchable : IsNonDecreasingBy (λ x. ordering_index (R (key x) k)) xs
  searchable = searchable_from_sorted total key xs k rises

  -- the lesser ones come first
  pub lesser_first : IsPartitionedBy (λ x. is_lt (R (key x) k)) xs
  lesser_first i j d le within less = still_less (R (key (get_or xs i d)) k) (R (key (get_or xs j d)) k) (searchable i j d le within) less

  module _ {Y : Type 0} (make : X → List Y) (none : (x : X) → is_eq (R (key x) k) ≡ false → make x ≡ []) (i : ℕ) (parts : IsPartitionPoint (λ x. is_lt (R (key x) k) ≡ true) (λ x. is_lt (R (key x) k) ≡ false) xs i) where
    abbrev pub Rest : List X
    Rest = take (length xs - i) (drop i xs)

    rest_is : Rest ≡ drop i xs
    rest_is = let n = length-drop i xs in take_all (length xs - i) (drop i xs) (omega (arith, n))

    -- nothing is made of the lesser ones
    from_first : flat_map make xs ≡ flat_map make (drop i xs)
    from_first =
        ap (flat_map make) (sym (take-append-drop i xs)) ∙ flat_map-append make (take i xs) (drop i xs)
        ∙ ap (λ ys. ys ++ flat_map make (drop i xs)) (nothing_until make xs i (λ j d low high. none (get_or xs j d) (ap is_eq (is_lt-Less (R (key (get_or xs j d)) k) (parts.0 j d low high)))))

    -- all is made of the others
    pub all_made : (j : ℕ) → length Rest ≤ j → flat_map make (take j Rest) ≡ flat_map make xs
    all_made j past = ap (flat_map make) (take_all j Rest past ∙ rest_is) ∙ sym from_first

    -- up to one with another key
    pub made_until : (j : ℕ) (x : X) → j < length Rest → x ≡ get_or Rest j x → is_eq (R (key x) k) ≡ false → flat_map make (take j Rest) ≡ flat_map make xs
    made_until j x within read other =
        ap (λ ys. flat_map make (take j ys)) rest_is ∙ sym (append-nil (flat_map make (take j ys)))
        ∙ ap (λ zs. flat_map make (take j ys) ++ zs) (sym (nothing_from make ys j past)) ∙ sym (flat_map-append make (take j ys) (drop j ys)) ∙ ap (flat_map make) (take-append-drop j ys) ∙ sym from_first
      where
        ys : List X
        ys = drop i xs

        inside : i + j < length xs
        inside = let n = length-drop i xs in let m = ap length rest_is in omega (arith, within, n, m)

        at : (d : X) → x ≡ get_or xs (i + j) d
        at d = get_or_read xs (i + j) x inside (read ∙ ap (λ zs. get_or zs j x) rest_is ∙ get_or-drop i xs j x) d

        past : AllWithin (λ z. make z ≡ []) ys j (length ys)
        past m d low high =
            let n = length-drop i xs in
            let P : X → Type 0 = λ z. make z ≡ [] in
            let first = R (key (get_or xs (i + j) d)) k in
            let second = R (key (get_or xs (i + m) d)) k in
            subst P (sym (get_or-drop i xs m d))
            (none (get_or xs (i + m) d)
            (never_tie first second (searchable (i + j) (i + m) d (omega (arith, low)) (omega (arith, high, n))) (parts.1 (i + j) d (omega arith) inside) (sym (ap (λ z. is_eq (R (key z) k)) (at d)) ∙ other)))

    -- so for one that is read with a default
    pub made_until_at : (j : ℕ) (d : X) → j < length Rest → is_eq (R (key (get_or Rest j d)) k) ≡ false → flat_map make (take j Rest) ≡ flat_map make xs
    made_until_at j d within other = let x = get_or Rest j d in made_until j x within (get_or_default Rest j d x within) other
