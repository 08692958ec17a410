-- The shape that a move leads to is that of before, with others in the places of some.
use Rattle.std.proofs.Common.{◌≡◌, ℕ, ◌+◌, ◌<◌, ◌≤◌, suc, Bool, true, false, cond, nat_eq, ◌&&◌, List, [], ◌∷◌, ◌++◌, Option, Some, None, refl, ap, ap₂, ◌∙◌, arith, ◌⊎◌, inl, inr}
use Rattle.std.specs.List.{AllByRecursion}
use Rattle.std.proofs.lemmas.Bool.{eq-eqb, ne_eqb}
use Rattle.theory_syntax.specs.Process.{Process}
use Rattle.theory_shapes.specs.Shape.{Shape, Hole, Composed, Framed, holes}
use Rattle.theory_shapes.specs.Moves.{Move, Rests, Becomes, Both, Inside}
use Rattle.theory_shapes.specs.Parts.{shape_of}
use Rattle.theory_shapes.proofs.ByParts.{all_made}
use Rattle.theory_shapes.proofs.Segments.{all_append}
use Rattle.theory_rows.specs.Grafts.{Graft, graft_at, grafted, grafted_or, grafts_from, shape_to}

pub some_hole : (s : Shape) → 1 ≤ holes s
some_hole Hole = omega arith
some_hole (Composed c l r) = let e = some_hole l in omega (arith, e)
some_hole (Framed f s) = some_hole s

eq_same : (n : ℕ) → nat_eq n n ≡ true
eq_same n = eq-eqb n n refl

eq_apart : (n m : ℕ) → (n ≡ m → ⊥) → nat_eq n m ≡ false
eq_apart n m other = ne_eqb n m other

-- the grafts are of holes from this one on and before that one, and have so many operators above or more
abbrev Within : ℕ → ℕ → ℕ → List (Graft Process) → Type 0
Within n m k gs = AllByRecursion (λ g. (n ≤ g.from) × (g.from < m) × (k ≤ g.above)) gs

wider : (n m k i j h : ℕ) (gs : List (Graft Process)) → i ≤ n → m ≤ j → h ≤ k → Within n m k gs → Within i j h gs
wider n m k i j h gs a b c all =
    all_made (λ (g : Graft Process). (n ≤ g.from) × (g.from < m) × (k ≤ g.above)) (λ (g : Graft Process). (i ≤ g.from) × (g.from < j) × (h ≤ g.above))
    (λ g w. (let u = w.0 in omega (arith, a, u), let u = w.1 in omega (arith, b, u), let u = w.2 in omega (arith, c, u))) gs all

grafts_within : (d : Move) (n k : ℕ) (s : Shape) → Within n (n + holes s) k (grafts_from d n k s)
grafts_within Rests n k s = tt
grafts_within (Becomes p) n k s = let e = some_hole s in ((omega arith, omega (arith, e), omega arith), tt)
grafts_within (Both d e) n k (Composed c l r) =
    let m = n + holes l in
    let end = n + (holes l + holes r) in
    let ls = grafts_from d n (suc k) l in
    let rs = grafts_from e m (suc k) r in
    all_append (λ (g : Graft Process). (n ≤ g.from) × (g.from < end) × (k ≤ g.above)) ls rs
    (wider n m (suc k) n end k ls (omega arith) (omega arith) (omega arith) (grafts_within d n (suc k) l))
    (wider m (m + holes r) (suc k) n end k rs (omega arith) (omega arith) (omega arith) (grafts_within e m (suc k) r))
grafts_within (Both d e) n k Hole = tt
grafts_within (Both d e) n k (Framed f s) = tt
grafts_within (Inside d) n k (Framed f s) = wider n (n + holes s) (suc k) n (n + holes s) k (grafts_from d n (suc k) s) (omega arith) (omega arith) (omega arith) (grafts_within d n (suc k) s)
grafts_within (Inside d) n k Hole = tt
grafts_within (Inside d) n k (Composed c l r) = tt

-- ---- looking up

-- it is of another hole, or under another number of operators
abbrev IsElsewhere : ℕ → ℕ → Graft Process → Type 0
IsElsewhere n k g = (n ≡ g.from → ⊥) ⊎ (k ≡ g.above → ⊥)

not_here : (n k : ℕ) (g : Graft Process) → IsElsewhere n k g → (nat_eq n g.from && nat_eq k g.above) ≡ false
not_here n k g (inl other) = ap (λ b. b && nat_eq k g.above) (eq_apart n g.from other)
not_here n k g (inr other) = ap (λ b. nat_eq n g.from && b) (eq_apart k g.above other) ∙ never (nat_eq n g.from)
  where
    never : (b : Bool) → (b && false) ≡ false
    never true = refl
    never false = refl

passed : (n k : ℕ) (g : Graft Process) (gs : List (Graft Process)) → IsElsewhere n k g → graft_at n k (g ∷ gs) ≡ graft_at n k gs
passed n k g gs other = ap (λ b. cond b (Some g.new) (graft_at n k gs)) (not_here n k g other)

found_none : (n k : ℕ) (gs : List (Graft Process)) → AllByRecursion (IsElsewhere n k) gs → graft_at n k gs ≡ None
found_none n k [] all = refl
found_none n k (g ∷ gs) all = passed n k g gs all.0 ∙ found_none n k gs all.1

found_behind : (n k : ℕ) (gs hs : List (Graft Process)) → AllByRecursion (IsElsewhere n k) gs → graft_at n k (gs ++ hs) ≡ graft_at n k hs
found_behind n k [] hs all = refl
found_behind n k (g ∷ gs) hs all = passed n k g (gs ++ hs) all.0 ∙ found_behind n k gs hs all.1

found_before : (n k : ℕ) (gs hs : List (Graft Process)) → AllByRecursion (IsElsewhere n k) hs → graft_at n k (gs ++ hs) ≡ graft_at n k gs
found_before n k [] hs all = found_none n k hs all
found_before n k (g ∷ gs) hs all = ap (λ (o : Option Process). cond (nat_eq n g.from && nat_eq k g.above) (Some g.new) o) (found_before n k gs hs all)

-- ---- what is found decides

abbrev FindAlike : ℕ → ℕ → ℕ → List (Graft Process) → List (Graft Process) → Type 0
FindAlike n m k gs hs = (i j : ℕ) → n ≤ i → i < m → k ≤ j → graft_at i j gs ≡ graft_at i j hs

grafted_alike : (n k : ℕ) (s : Shape) (gs hs : List (Graft Process)) → FindAlike n (n + holes s) k gs hs → grafted shape_of n k s gs ≡ grafted shape_of n k s hs
grafted_alike n k Hole gs hs same = ap (λ o. grafted_or shape_of o Hole) (same n k (omega arith) (omega arith) (omega arith))
grafted_alike n k (Composed c l r) gs hs same =
    let e = some_hole l in
    let m = n + holes l in
    let left = grafted_alike n (suc k) l gs hs (λ i j a b h. same i j a (omega (arith, b)) (omega (arith, h))) in
    let right = grafted_alike m (suc k) r gs hs (λ i j a b h. same i j (omega (arith, a)) (omega (arith, b)) (omega (arith, h))) in
    ap₂ (λ (o : Option Process) (q : Shape). grafted_or shape_of o q) (same n k (omega arith) (omega (arith, e)) (omega arith)) (ap₂ (Composed c) left right)
grafted_alike n k (Framed f s) gs hs same =
    let e = some_hole s in
    ap₂ (λ (o : Option Process) (q : Shape). grafted_or shape_of o q) (same n k (omega arith) (omega (arith, e)) (omega arith)) (ap (Framed f) (grafted_alike n (suc k) s gs hs (λ i j a b h. same i j a b (omega (arith, h)))))

nothing_grafted : (n k : ℕ) (s : Shape) → grafted shape_of n k s [] ≡ s
nothing_grafted n k Hole = refl
nothing_grafted n k (Composed c l r) = ap₂ (Composed c) (nothing_grafted n (suc k) l) (nothing_grafted (n + holes l) (suc k) r)
nothing_grafted n k (Framed f s) = ap (Framed f) (nothing_grafted n (suc k) s)

here : (n m k : ℕ) (p : Process) → graft_at n k (record { from = n; to = m; above = k; new = p } ∷ []) ≡ Some p
here n m k p = ap₂ (λ a b. cond (a && b) (Some p) None) (eq_same n) (eq_same k)

whole_grafted : (n k : ℕ) (s : Shape) (p : Process) → grafted shape_of n k s (record { from = n; to = n + holes s; above = k; new = p } ∷ []) ≡ shape_of p
whole_grafted n k Hole p = ap (λ o. grafted_or shape_of o Hole) (here n (n + 1) k p)
whole_grafted n k (Composed c l r) p = let gs : List (Graft Process) = record { from = n; to = n + (holes l + holes r); above = k; new = p } ∷ [] in
    ap (λ o. grafted_or shape_of o (Composed c (grafted shape_of n (suc k) l gs) (grafted shape_of (n + holes l) (suc k) r gs))) (here n (n + (holes l + holes r)) k p)
whole_grafted n k (Framed f s) p = let gs : List (Graft Process) = record { from = n; to = n + holes s; above = k; new = p } ∷ [] in
    ap (λ o. grafted_or shape_of o (Framed f (grafted shape_of n (suc k) s gs))) (here n (n + holes s) k p)

-- grafts with more operators above are not here
deeper : (n i m k : ℕ) (gs : List (Graft Process)) → Within i m (suc k) gs → AllByRecursion (IsElsewhere n k) gs
deeper n i m k gs all = all_made (λ (g : Graft Process). (i ≤ g.from) × (g.from < m) × (suc k ≤ g.above)) (IsElsewhere n k) (λ g w. inr (λ e. let u = w.2 in omega (arith, e, u))) gs all

pub shape_grafted : (d : Move) (n k : ℕ) (s : Shape) → grafted shape_of n k s (grafts_from d n k s) ≡ shape_to d s
shape_grafted Rests n k s = nothing_grafted n k s
shape_grafted (Becomes p) n k s = whole_grafted n k s p
shape_grafted (Both d e) n k (Composed c l r) =
    let m = n + holes l in
    let ls = grafts_from d n (suc k) l in
    let rs = grafts_from e m (suc k) r in
    let left_in = grafts_within d n (suc k) l in
    let right_in = grafts_within e m (suc k) r in
    let none : graft_at n k (ls ++ rs) ≡ None = found_behind n k ls rs (deeper n n m k ls left_in) ∙ found_none n k rs (deeper n m (m + holes r) k rs right_in) in
    let left : grafted shape_of n (suc k) l (ls ++ rs) ≡ shape_to d l =
    grafted_alike n (suc k) l (ls ++ rs) ls (λ i j a b h. found_before i j ls rs (all_made (λ (g : Graft Process). (m ≤ g.from) × (g.from < m + holes r) × (suc k ≤ g.above)) (IsElsewhere i j) (λ g w. inl (λ e. let u = w.0 in omega (arith, e, u, b))) rs right_in)) ∙ shape_grafted d n (suc k) l
    in
    let right : grafted shape_of m (suc k) r (ls ++ rs) ≡ shape_to e r =
    grafted_alike m (suc k) r (ls ++ rs) rs (λ i j a b h. found_behind i j ls rs (all_made (λ (g : Graft Process). (n ≤ g.from) × (g.from < m) × (suc k ≤ g.above)) (IsElsewhere i j) (λ g w. inl (λ e. let u = w.1 in omega (arith, e, u, a))) ls left_in)) ∙ shape_grafted e m (suc k) r
    in
    ap₂ (λ (o : Option Process) (q : Shape). grafted_or shape_of o q) none (ap₂ (Composed c) left right)
shape_grafted (Both d e) n k Hole = refl
shape_grafted (Both d e) n k (Framed f s) = nothing_grafted n k (Framed f s)
shape_grafted (Inside d) n k (Framed f s) =
    let gs = grafts_from d n (suc k) s in
    let none : graft_at n k gs ≡ None = found_none n k gs (deeper n n (n + holes s) k gs (grafts_within d n (suc k) s)) in
    ap₂ (λ (o : Option Process) (q : Shape). grafted_or shape_of o q) none (ap (Framed f) (shape_grafted d n (suc k) s))
shape_grafted (Inside d) n k Hole = refl
shape_grafted (Inside d) n k (Composed c l r) = nothing_grafted n k (Composed c l r)
