-- The size of a term is a sum over its parts, and its depth a maximum over them.
use Rattle.std.proofs.Common.{◌≡◌, ℕ, ◌+◌, ◌≤◌, ◌<◌, zero, suc, max, nat_le, Bool, true, false, ◌&&◌, List, [], ◌∷◌, ◌++◌, map, length, get_or, set, refl, sym, ap, ap₂, subst, ◌∙◌, inl, inr, arith}
use Rattle.std.specs.List.{AllByRecursion, sum_by}
use Rattle.std.proofs.lemmas.Bool.{cases_lt, leb-true, le-leb}
use Rattle.std.proofs.lemmas.List.{get_or-set_same, get_or-set_other, length-append, length-map, length-set}
use Rattle.std.proofs.lemmas.List.Sums.{sum_by-append, sum_by-cons, sum_by-set}
use Rattle.theory_syntax.specs.Process.{Process, Stop}
use Rattle.theory_semantics.specs.Meaning.Limits.{depth, fits, max_depth, max_size, size}
use Rattle.theory_shapes.specs.Shape.{Composition, Interleaved, Generalised, Alphabetised, compose, Frame, Hidden, Renamed, enframe, Shape, Hole, Composed, Framed, holes, part_at, fill}
use Rattle.theory_shapes.specs.Changes.{Change, RiseWithin, changed}
use Rattle.theory_shapes.specs.Measures.{composition_size, frame_size, composition_depth, frame_depth, own_size, own_depth, levels, deepest, size_put_in, size_taken_out, AreShallow}
use Rattle.theory_shapes.proofs.Changing.{changed_count, first_changed, rise_on}
use Rattle.theory_shapes.proofs.Filling.{by_filling}
use Rattle.theory_shapes.proofs.Segments.{all_append, filled_both}

-- ---- the size

composed_size : (c : Composition) (p q : Process) → size (compose c p q) ≡ 1 + (composition_size c + (size p + size q))
composed_size Interleaved p q = omega arith
composed_size (Generalised a) p q = omega arith
composed_size (Alphabetised a b) p q = omega arith

framed_size : (f : Frame) (p : Process) → size (enframe f p) ≡ 1 + (frame_size f + size p)
framed_size (Hidden a) p = omega arith
framed_size (Renamed rs) p = omega arith

pub size_by_parts : (s : Shape) (parts : List Process) → length parts ≡ holes s → size (fill s parts) ≡ own_size s + sum_by size parts
size_by_parts =
    by_filling (λ s parts. size (fill s parts) ≡ own_size s + sum_by size parts) (λ p. let e = sum_by-cons size p [] in omega (arith, e))
    (λ c l r ps qs few rest first second.
    let whole = ap size (filled_both c l r ps qs few rest) ∙ composed_size c (fill l ps) (fill r qs) in
    let sum = sum_by-append size ps qs in
    omega (arith, whole, sum, first, second))
    (λ f s ps only. let whole = framed_size f (fill s ps) in omega (arith, whole, only))

-- ---- the depth

composed_depth : (c : Composition) (p q : Process) → depth (compose c p q) ≡ 1 + max (composition_depth c) (max (depth p) (depth q))
composed_depth Interleaved p q = omega arith
composed_depth (Generalised a) p q = omega arith
composed_depth (Alphabetised a b) p q = omega arith

framed_depth : (f : Frame) (p : Process) → depth (enframe f p) ≡ 1 + max (frame_depth f) (depth p)
framed_depth (Hidden a) p = omega arith
framed_depth (Renamed rs) p = omega arith

pub level_count : (s : Shape) → length (levels s) ≡ holes s
level_count Hole = refl
level_count (Composed c l r) = length-map (levels l ++ levels r) suc ∙ length-append (levels l) (levels r) ∙ ap₂ ◌+◌ (level_count l) (level_count r)
level_count (Framed f s) = length-map (levels s) suc ∙ level_count s

-- one more operator over all
deeper : (d : ℕ) (ks : List ℕ) (ps : List Process) → max (1 + d) (deepest (map suc ks) ps) ≡ 1 + max d (deepest ks ps)
deeper d [] ps = omega arith
deeper d (k ∷ ks) [] = omega arith
deeper d (k ∷ ks) (p ∷ ps) = let e = deeper d ks ps in omega (arith, e)

deepest_both : (ks js : List ℕ) (ps qs : List Process) → length ps ≡ length ks → deepest (ks ++ js) (ps ++ qs) ≡ max (deepest ks ps) (deepest js qs)
deepest_both [] js [] qs long = omega arith
deepest_both [] js (p ∷ ps) qs long = absurd (omega (arith, long))
deepest_both (k ∷ ks) js [] qs long = absurd (omega (arith, long))
deepest_both (k ∷ ks) js (p ∷ ps) qs long = let e = deepest_both ks js ps qs (omega (arith, long)) in omega (arith, e)

pub depth_by_parts : (s : Shape) (parts : List Process) → length parts ≡ holes s → depth (fill s parts) ≡ max (own_depth s) (deepest (levels s) parts)
depth_by_parts =
    by_filling (λ s parts. depth (fill s parts) ≡ max (own_depth s) (deepest (levels s) parts)) (λ p. omega arith)
    (λ c l r ps qs few rest first second.
    let whole = ap depth (filled_both c l r ps qs few rest) ∙ composed_depth c (fill l ps) (fill r qs) in
    let more = deeper (max (composition_depth c) (max (own_depth l) (own_depth r))) (levels l ++ levels r) (ps ++ qs) in
    let sides = deepest_both (levels l) (levels r) ps qs (few ∙ sym (level_count l)) in
    omega (arith, whole, more, sides, first, second))
    (λ f s ps only.
    let whole = framed_depth f (fill s ps) in
    let more = deeper (max (frame_depth f) (own_depth s)) (levels s) ps in
    omega (arith, whole, more, only))

-- ---- after changes

-- what is taken out is not what was put in before
taken_out_behind : (n m : ℕ) (cs : List Change) (parts : List Process) (h : ℕ) (p : Process) → RiseWithin n m cs → h < n → size_taken_out (set parts h p) cs ≡ size_taken_out parts cs
taken_out_behind n m [] parts h p rise before = refl
taken_out_behind n m (c ∷ cs) parts h p rise before =
    let look : List Process → Change → ℕ = λ ps c. size (part_at ps c.hole) in
    let one : size (part_at (set parts h p) c.hole) ≡ size (part_at parts c.hole) = ap size (get_or-set_other parts h c.hole p Stop (λ e. omega (arith, e, before, rise.0))) in
    let rest = taken_out_behind (suc c.hole) m cs parts h p rise.1 (omega (arith, before, rise.0)) in
    let new = sum_by-cons (look (set parts h p)) c cs in
    let old = sum_by-cons (look parts) c cs in
    omega (arith, one, rest, new, old)

sum_changed : (n m : ℕ) (cs : List Change) (parts : List Process) → m ≤ length parts → RiseWithin n m cs → sum_by size (changed cs parts) + size_taken_out parts cs ≡ sum_by size parts + size_put_in cs
sum_changed n m [] parts long rise = refl
sum_changed n m (c ∷ cs) parts long rise =
    let within : c.hole < length parts = let e = rise_on (suc c.hole) m cs rise.1 in omega (arith, e, long) in
    let ps = set parts c.hole c.part in
    let one = sum_by-set size parts c.hole c.part Stop within in
    let rest = sum_changed (suc c.hole) m cs ps (omega (arith, long, length-set parts c.hole c.part)) rise.1 in
    let same = taken_out_behind (suc c.hole) m cs parts c.hole c.part rise.1 (omega arith) in
    let new = sum_by-cons {X = Change} (λ c. size c.part) c cs in
    let old = sum_by-cons {X = Change} (λ c. size (part_at parts c.hole)) c cs in
    omega (arith, one, rest, same, new, old)

module _ (s : Shape) (parts : List Process) (long : length parts ≡ holes s) where
  pub size_changed : (cs : List Change) → RiseWithin 0 (holes s) cs → size (fill s (changed cs parts)) + size_taken_out parts cs ≡ size (fill s parts) + size_put_in cs
  size_changed cs rise =
      let before = size_by_parts s parts long in
      let after = size_by_parts s (changed cs parts) (changed_count cs parts ∙ long) in
      let sum = sum_changed 0 (holes s) cs parts (omega (arith, long)) rise in
      omega (arith, before, after, sum)

-- no part reaches deeper than the limit
abbrev AreWithin : ℕ → List ℕ → List Process → Type 0
AreWithin limit ks ps = (i : ℕ) → i < length ks → get_or ks i 0 + depth (part_at ps i) ≤ limit

each_within : (limit : ℕ) (ks : List ℕ) (ps : List Process) → length ps ≡ length ks → deepest ks ps ≤ limit → AreWithin limit ks ps
each_within limit [] ps long le i lt = absurd (omega (arith, lt))
each_within limit (k ∷ ks) [] long le i lt = absurd (omega (arith, long))
each_within limit (k ∷ ks) (p ∷ ps) long le zero lt = omega (arith, le)
each_within limit (k ∷ ks) (p ∷ ps) long le (suc i) lt = each_within limit ks ps (omega (arith, long)) (omega (arith, le)) i (omega (arith, lt))

all_within : (limit : ℕ) (ks : List ℕ) (ps : List Process) → AreWithin limit ks ps → deepest ks ps ≤ limit
all_within limit [] ps each = omega arith
all_within limit (k ∷ ks) [] each = omega arith
all_within limit (k ∷ ks) (p ∷ ps) each =
    let one = each 0 (omega arith) in
    let rest = all_within limit ks ps (λ i lt. each (suc i) (omega (arith, lt))) in
    omega (arith, one, rest)

module _ (limit : ℕ) (ks : List ℕ) where
  abbrev AreShallowBelow : List Change → Type 0
  AreShallowBelow cs = AllByRecursion (λ c. get_or ks c.hole 0 + depth c.part ≤ limit) cs

  one_stays : (parts : List Process) (h : ℕ) (p : Process) → h < length parts → AreWithin limit ks parts → get_or ks h 0 + depth p ≤ limit → AreWithin limit ks (set parts h p)
  one_stays parts h p within all new i lt =
      elim (cases_lt i h) [
        | inl before ↦ let e = ap depth (get_or-set_other parts h i p Stop (λ e. omega (arith, e, before))) in let old = all i lt in omega (arith, e, old)
        | inr on ↦ elim (cases_lt h i) [
          | inl behind ↦ let e = ap depth (get_or-set_other parts h i p Stop (λ e. omega (arith, e, behind))) in let old = all i lt in omega (arith, e, old)
          | inr to ↦ let at : h ≡ i = omega (arith, on, to) in
              subst (λ (k : ℕ). get_or ks k 0 + depth (part_at (set parts h p) k) ≤ limit) at (let e = ap depth (get_or-set_same parts h p Stop within) in omega (arith, e, new))
        ]
      ]

  shallow_stay : (n m : ℕ) (cs : List Change) (parts : List Process) → m ≤ length parts → RiseWithin n m cs → AreWithin limit ks parts → AreShallowBelow cs → AreWithin limit ks (changed cs parts)
  shallow_stay n m [] parts long rise all new = all
  shallow_stay n m (c ∷ cs) parts long rise all new =
      let on = rise_on (suc c.hole) m cs rise.1 in
      shallow_stay (suc c.hole) m cs (set parts c.hole c.part) (omega (arith, long, length-set parts c.hole c.part)) rise.1 (one_stays parts c.hole c.part (omega (arith, on, long)) all new.0) new.1

  are_shallow : (n m : ℕ) (cs : List Change) (parts : List Process) → m ≤ length parts → m ≤ length ks → RiseWithin n m cs → AreWithin limit ks (changed cs parts) → AreShallowBelow cs
  are_shallow n m [] parts long few rise all = tt
  are_shallow n m (c ∷ cs) parts long few rise all =
      let on = rise_on (suc c.hole) m cs rise.1 in
      let e = ap depth (first_changed c m cs parts (omega (arith, on, long)) rise.1) in
      let one = all c.hole (omega (arith, on, few)) in
      (omega (arith, e, one), are_shallow (suc c.hole) m cs (set parts c.hole c.part) (omega (arith, long, length-set parts c.hole c.part)) few rise.1 all)

-- ---- the limits

both_true : (a b : Bool) → a ≡ true → b ≡ true → (a && b) ≡ true
both_true true b first second = second
both_true false b first second = first

left_true : (a b : Bool) → (a && b) ≡ true → a ≡ true
left_true true b e = refl
left_true false b e = e

right_true : (a b : Bool) → (a && b) ≡ true → b ≡ true
right_true true b e = e
right_true false b e = absurd (cc e)

fits_by : (p : Process) → size p ≤ max_size → depth p ≤ max_depth → fits p ≡ true
fits_by p small shallow = both_true (nat_le (size p) max_size) (nat_le (depth p) max_depth) (le-leb (size p) max_size small) (le-leb (depth p) max_depth shallow)

fits_small : (p : Process) → fits p ≡ true → size p ≤ max_size
fits_small p e = leb-true (size p) max_size (left_true (nat_le (size p) max_size) (nat_le (depth p) max_depth) e)

fits_shallow : (p : Process) → fits p ≡ true → depth p ≤ max_depth
fits_shallow p e = leb-true (depth p) max_depth (right_true (nat_le (size p) max_size) (nat_le (depth p) max_depth) e)

module _ (s : Shape) (parts : List Process) (cs : List Change) (long : length parts ≡ holes s) (rise : RiseWithin 0 (holes s) cs) (fit : fits (fill s parts) ≡ true) where
  abbrev after : Process
  after = fill s (changed cs parts)

  pub fit_after : (size (fill s parts) + size_put_in cs ≤ max_size + size_taken_out parts cs) × AreShallow s cs → fits after ≡ true
  fit_after small =
      let sum = size_changed s parts long cs rise in
      let before = depth_by_parts s parts long in
      let now = depth_by_parts s (changed cs parts) (changed_count cs parts ∙ long) in
      let old = fits_shallow (fill s parts) fit in
      let all = each_within max_depth (levels s) parts (long ∙ sym (level_count s)) (omega (arith, before, old)) in
      let new = all_within max_depth (levels s) (changed cs parts) (shallow_stay max_depth (levels s) 0 (holes s) cs parts (omega (arith, long)) rise all small.1) in
      fits_by after (let e = small.0 in omega (arith, sum, e)) (omega (arith, before, now, old, new))

  pub fit_before : fits after ≡ true → (size (fill s parts) + size_put_in cs ≤ max_size + size_taken_out parts cs) × AreShallow s cs
  fit_before e =
      let sum = size_changed s parts long cs rise in
      let now = depth_by_parts s (changed cs parts) (changed_count cs parts ∙ long) in
      let small = fits_small after e in
      let shallow = fits_shallow after e in
      let all = each_within max_depth (levels s) (changed cs parts) (changed_count cs parts ∙ long ∙ sym (level_count s)) (omega (arith, now, shallow)) in
      (omega (arith, sum, small), are_shallow max_depth (levels s) 0 (holes s) cs parts (omega (arith, long)) (omega (arith, level_count s)) rise all)

-- ---- a part of a term within the limits is within them

fits_smaller : (part whole : Process) → size part ≤ size whole → depth part ≤ depth whole → fits whole ≡ true → fits part ≡ true
fits_smaller part whole smaller shallower e =
    let small = fits_small whole e in
    let shallow = fits_shallow whole e in
    fits_by part (omega (arith, smaller, small)) (omega (arith, shallower, shallow))

abbrev PartsFit : Shape → List Process → Type 0
PartsFit s parts = fits (fill s parts) ≡ true → AllByRecursion (λ p. fits p ≡ true) parts

pub parts_fit : (s : Shape) (parts : List Process) → length parts ≡ holes s → PartsFit s parts
parts_fit =
    by_filling PartsFit (λ p e. (e, tt))
    (λ c l r ps qs few rest first second e.
    let p = fill l ps in
    let q = fill r qs in
    let whole = subst (λ t. fits t ≡ true) (filled_both c l r ps qs few rest) e in
    let larger = composed_size c p q in
    let deeper = composed_depth c p q in
    all_append (λ p. fits p ≡ true) ps qs (first (fits_smaller p (compose c p q) (omega (arith, larger)) (omega (arith, deeper)) whole)) (second (fits_smaller q (compose c p q) (omega (arith, larger)) (omega (arith, deeper)) whole)))
    (λ f s ps only e.
    let p = fill s ps in
    let larger = framed_size f p in
    let deeper = framed_depth f p in
    only (fits_smaller p (enframe f p) (omega (arith, larger)) (omega (arith, deeper)) e))
