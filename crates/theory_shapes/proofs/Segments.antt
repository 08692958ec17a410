-- Parts that stand in a row of others.
use Rattle.std.proofs.Common.{◌≡◌, ℕ, ◌+◌, ◌<◌, zero, suc, List, [], ◌∷◌, ◌++◌, length, take, drop, sym, ap, ap₂, subst, ◌∙◌, arith}
use Rattle.std.specs.List.{AllByRecursion}
use Rattle.std.proofs.lemmas.List.{get_or-append-add, get_or_append_left, append-nil}
use Rattle.theory_syntax.specs.Process.{Process, Stop}
use Rattle.theory_shapes.specs.Shape.{Composition, compose, enframe, Shape, Hole, Composed, Framed, holes, part_at, fill_from, fill}

-- parts that are the same where the holes are fill them alike
pub filled_alike : (n m : ℕ) (s : Shape) (ps qs : List Process) → ((i : ℕ) → i < holes s → part_at ps (n + i) ≡ part_at qs (m + i)) → fill_from n s ps ≡ fill_from m s qs
filled_alike n m Hole ps qs same = let e = same 0 (omega arith) in subst (λ (a : ℕ). part_at ps a ≡ part_at qs m) (omega arith) (subst (λ (a : ℕ). part_at ps (n + 0) ≡ part_at qs a) (omega arith) e)
filled_alike n m (Composed c l r) ps qs same =
    ap₂ (compose c) (filled_alike n m l ps qs (λ i lt. same i (omega (arith, lt))))
    (filled_alike (n + holes l) (m + holes l) r ps qs (λ i lt.
    let e = same (holes l + i) (omega (arith, lt)) in
    subst (λ (a : ℕ). part_at ps a ≡ part_at qs (m + holes l + i)) (omega arith) (subst (λ (a : ℕ). part_at ps (n + (holes l + i)) ≡ part_at qs a) (omega arith) e)))
filled_alike n m (Framed f s) ps qs same = ap (enframe f) (filled_alike n m s ps qs same)

-- parts behind others fill as alone
pub filled_behind : (s : Shape) (front mine back : List Process) → length mine ≡ holes s → fill_from (length front) s (front ++ (mine ++ back)) ≡ fill s mine
filled_behind s front mine back long =
    filled_alike (length front) 0 s (front ++ (mine ++ back)) mine (λ i lt.
    get_or-append-add front (mine ++ back) i Stop ∙ get_or_append_left mine back Stop i (omega (arith, long, lt)) ∙ ap (part_at mine) (omega arith))

-- the parts of two shapes side by side
pub filled_both : (c : Composition) (l r : Shape) (ps qs : List Process) → length ps ≡ holes l → length qs ≡ holes r → fill (Composed c l r) (ps ++ qs) ≡ compose c (fill l ps) (fill r qs)
filled_both c l r ps qs first second =
    ap₂ (compose c) (filled_behind l [] ps qs first)
    (subst (λ (n : ℕ). fill_from n r (ps ++ qs) ≡ fill r qs) (omega (arith, first)) (ap (λ (zs : List Process). fill_from (length ps) r (ps ++ zs)) (sym (append-nil qs)) ∙ filled_behind r ps qs [] second))

pub all_append : {X : Type 0} (P : X → Type 0) (xs ys : List X) → AllByRecursion P xs → AllByRecursion P ys → AllByRecursion P (xs ++ ys)
all_append P [] ys first second = second
all_append P (x ∷ xs) ys first second = (first.0, all_append P xs ys first.1 second)

pub all_split : {X : Type 0} (P : X → Type 0) (n : ℕ) (xs : List X) → AllByRecursion P xs → AllByRecursion P (take n xs) × AllByRecursion P (drop n xs)
all_split P zero xs all = (tt, all)
all_split P (suc n) [] all = (tt, tt)
all_split P (suc n) (x ∷ xs) all = let r = all_split P n xs all.1 in ((all.0, r.0), r.1)
