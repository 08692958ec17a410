-- Changes of parts as grafts.
use Rattle.std.proofs.Common.{◌≡◌, ℕ, ◌+◌, ◌-◌, ◌<◌, ◌≤◌, suc, List, [], ◌∷◌, ◌++◌, Option, Some, None, get_or, map, refl, sym, ap, ap₂, subst, ◌∙◌, arith}
use Rattle.std.specs.List.{AllByRecursion}
use Rattle.std.proofs.lemmas.List.{get_or-append-add, get_or-map, get_or_append_left, length-append, map-append}
use Rattle.theory_syntax.specs.Process.{Process}
use Rattle.theory_shapes.specs.Changes.{Change}
use Rattle.theory_shapes.specs.Measures.{levels}
use Rattle.theory_shapes.specs.Moves.{Move, Rests, Becomes, Both, Inside, both_changes, changes_from}
use Rattle.theory_shapes.specs.Shape.{Shape, Hole, Composed, Framed, holes}
use Rattle.theory_shapes.proofs.Measured.{level_count}
use Rattle.theory_shapes.proofs.Segments.{all_append}
use Rattle.theory_rows.specs.Grafts.{Graft, grafts_from}
use Rattle.theory_rows.specs.InPlace.{hole_graft}

both_some : (o r : Option (List Change)) (cs : List Change) → both_changes o r ≡ Some cs → (ys : List Change) × (zs : List Change) × (o ≡ Some ys) × (r ≡ Some zs) × (ys ++ zs ≡ cs)
both_some (Some ys) (Some zs) cs e = (ys, zs, refl, refl, cc e)
both_some (Some ys) None cs e = absurd (cc e)
both_some None r cs e = absurd (cc e)

-- the changes are of holes from this one on and before that one
abbrev Within : ℕ → ℕ → List Change → Type 0
Within n m cs = AllByRecursion (λ c. (n ≤ c.hole) × (c.hole < m)) cs

wider : (n m i j : ℕ) (cs : List Change) → i ≤ n → m ≤ j → Within n m cs → Within i j cs
wider n m i j [] lo hi all = tt
wider n m i j (c ∷ cs) lo hi all = let a = all.0.0 in let b = all.0.1 in ((omega (arith, lo, a), omega (arith, hi, b)), wider n m i j cs lo hi all.1)

changes_within : (d : Move) (n : ℕ) (s : Shape) (cs : List Change) → changes_from d n s ≡ Some cs → Within n (n + holes s) cs
changes_within Rests n s cs e = subst (Within n (n + holes s)) (let is : [] ≡ cs = cc e in is) tt
changes_within (Becomes p) n Hole cs e = subst (Within n (n + 1)) (let is : record { hole = n; part = p } ∷ [] ≡ cs = cc e in is) ((omega arith, omega arith), tt)
changes_within (Becomes p) n (Composed c l r) cs e = absurd (cc e)
changes_within (Becomes p) n (Framed f s) cs e = absurd (cc e)
changes_within (Both d f) n (Composed c l r) cs e =
    let m = n + holes l in
    let end = n + (holes l + holes r) in
    let are = both_some (changes_from d n l) (changes_from f m r) cs e in
    subst (Within n end) are.4
    (all_append (λ (c : Change). (n ≤ c.hole) × (c.hole < end)) are.0 are.1 (wider n m n end are.0 (omega arith) (omega arith) (changes_within d n l are.0 are.2)) (wider m (m + holes r) n end are.1 (omega arith) (omega arith) (changes_within f m r are.1 are.3)))
changes_within (Both d f) n Hole cs e = absurd (cc e)
changes_within (Both d f) n (Framed g s) cs e = absurd (cc e)
changes_within (Inside d) n (Framed f s) cs e = changes_within d n s cs e
changes_within (Inside d) n Hole cs e = absurd (cc e)
changes_within (Inside d) n (Composed c l r) cs e = absurd (cc e)

-- grafts of holes that have the same operators above are the same
same_grafts : (n k m j : ℕ) (over under : List ℕ) (lo hi : ℕ) → ((h : ℕ) → lo ≤ h → h < hi → k + get_or over (h - n) 0 ≡ j + get_or under (h - m) 0) → (cs : List Change) → Within lo hi cs → map (hole_graft n k over) cs ≡ map (hole_graft m j under) cs
same_grafts n k m j over under lo hi same [] all = refl
same_grafts n k m j over under lo hi same (c ∷ cs) all =
    ap₂ (λ (a : ℕ) (gs : List (Graft Process)). record { from = c.hole; to = c.hole + 1; above = a; new = c.part } ∷ gs) (same c.hole all.0.0 all.0.1) (same_grafts n k m j over under lo hi same cs all.1)

level_left : (l r : Shape) (i : ℕ) → i < holes l → get_or (map suc (levels l ++ levels r)) i 0 ≡ suc (get_or (levels l) i 0)
level_left l r i lt =
    let count = level_count l in
    let all = levels l ++ levels r in
    get_or-map suc all i 0 0 (omega (arith, length-append (levels l) (levels r), count, lt)) ∙ ap suc (get_or_append_left (levels l) (levels r) 0 i (omega (arith, count, lt)))

level_right : (l r : Shape) (i : ℕ) → i < holes r → get_or (map suc (levels l ++ levels r)) (holes l + i) 0 ≡ suc (get_or (levels r) i 0)
level_right l r i lt =
    let count = level_count l in
    let more = level_count r in
    let all = levels l ++ levels r in
    get_or-map suc all (holes l + i) 0 0 (omega (arith, length-append (levels l) (levels r), count, more, lt))
    ∙ ap suc (ap (λ (j : ℕ). get_or all (j + i) 0) (sym count) ∙ get_or-append-add (levels l) (levels r) i 0)

level_inside : (s : Shape) (i : ℕ) → i < holes s → get_or (map suc (levels s)) i 0 ≡ suc (get_or (levels s) i 0)
level_inside s i lt = get_or-map suc (levels s) i 0 0 (let count = level_count s in omega (arith, count, lt))

pub changes_grafts : (d : Move) (n k : ℕ) (s : Shape) (cs : List Change) → changes_from d n s ≡ Some cs → grafts_from d n k s ≡ map (hole_graft n k (levels s)) cs
changes_grafts Rests n k s cs e = ap (map (hole_graft n k (levels s))) (let is : [] ≡ cs = cc e in is)
changes_grafts (Becomes p) n k Hole cs e =
    let zero_is : n - n ≡ 0 = omega arith in
    let above : k ≡ k + get_or (0 ∷ []) (n - n) 0 = (let a : k ≡ k + 0 = omega arith in a) ∙ ap (λ (i : ℕ). k + get_or (0 ∷ []) i 0) (sym zero_is) in
    ap (λ (a : ℕ). (record { from = n; to = n + 1; above = a; new = p }) ∷ []) above ∙ ap (map (hole_graft n k (0 ∷ []))) (let is : record { hole = n; part = p } ∷ [] ≡ cs = cc e in is)
changes_grafts (Becomes p) n k (Composed c l r) cs e = absurd (cc e)
changes_grafts (Becomes p) n k (Framed f s) cs e = absurd (cc e)
changes_grafts (Both d f) n k (Composed c l r) cs e =
    let m = n + holes l in
    let all = map suc (levels l ++ levels r) in
    let are = both_some (changes_from d n l) (changes_from f m r) cs e in
    let ys = are.0 in
    let zs = are.1 in
    let left = changes_grafts d n (suc k) l ys are.2
    ∙ same_grafts n (suc k) n k (levels l) all n m (λ h lo hi. let g = level_left l r (h - n) (omega (arith, lo, hi)) in omega (arith, g)) ys (changes_within d n l ys are.2)
    in
    let right = changes_grafts f m (suc k) r zs are.3
    ∙ same_grafts m (suc k) n k (levels r) all m (m + holes r) (λ h lo hi.
    let g = level_right l r (h - m) (omega (arith, lo, hi)) in
    let at : holes l + (h - m) ≡ h - n = omega (arith, lo) in
    let g' = ap (λ (i : ℕ). get_or all i 0) (sym at) ∙ g in
    omega (arith, g')) zs (changes_within f m r zs are.3)
    in
    ap₂ (λ (xs : List (Graft Process)) (gs : List (Graft Process)). xs ++ gs) left right ∙ sym (map-append (hole_graft n k all) ys zs) ∙ ap (map (hole_graft n k all)) are.4
changes_grafts (Both d f) n k Hole cs e = absurd (cc e)
changes_grafts (Both d f) n k (Framed g s) cs e = absurd (cc e)
changes_grafts (Inside d) n k (Framed f s) cs e =
    changes_grafts d n (suc k) s cs e
    ∙ same_grafts n (suc k) n k (levels s) (map suc (levels s)) n (n + holes s) (λ h lo hi. let g = level_inside s (h - n) (omega (arith, lo, hi)) in omega (arith, g)) cs (changes_within d n s cs e)
changes_grafts (Inside d) n k Hole cs e = absurd (cc e)
changes_grafts (Inside d) n k (Composed c l r) cs e = absurd (cc e)
