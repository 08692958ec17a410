-- The parts that a move leads to are those of before, with others in their places.
use Rattle.std.proofs.Common.{◌≡◌, ℕ, ◌+◌, ◌-◌, ◌≤◌, suc, List, [], ◌∷◌, ◌++◌, length, take, drop, refl, sym, ap, ap₂, subst, ◌∙◌, arith, append_assoc}
use Rattle.std.specs.List.{AllByRecursion}
use Rattle.std.proofs.Math.Seq.{take-append-add}
use Rattle.std.proofs.lemmas.List.{append-nil, drop-drop, drop_at, length-drop, length-take, take-append-drop}
use Rattle.theory_syntax.specs.Process.{Process}
use Rattle.theory_shapes.specs.Shape.{Composition, Shape, Hole, Composed, Framed, holes}
use Rattle.theory_shapes.specs.Moves.{Move, Rests, Becomes, Both, Inside}
use Rattle.theory_shapes.specs.Parts.{parts_of}
use Rattle.theory_shapes.proofs.ByParts.{all_made}
use Rattle.theory_shapes.proofs.Segments.{all_append}
use Rattle.theory_rows.specs.Grafts.{Graft, grafts_from, parts_by, parts_to, spliced}

-- no graft is before this hole
abbrev StartFrom : ℕ → List (Graft Process) → Type 0
StartFrom k gs = AllByRecursion (λ g. k ≤ g.from) gs

start_sooner : (j k : ℕ) (gs : List (Graft Process)) → j ≤ k → StartFrom k gs → StartFrom j gs
start_sooner j k gs le all = all_made (λ (g : Graft Process). k ≤ g.from) (λ (g : Graft Process). j ≤ g.from) (λ g h. omega (arith, le, h)) gs all

pub grafts_start : (d : Move) (n k : ℕ) (s : Shape) → StartFrom n (grafts_from d n k s)
grafts_start Rests n k s = tt
grafts_start (Becomes p) n k s = (omega arith, tt)
grafts_start (Both d e) n k (Composed c l r) =
    let m = n + holes l in
    all_append (λ (g : Graft Process). n ≤ g.from) (grafts_from d n (suc k) l) (grafts_from e m (suc k) r) (grafts_start d n (suc k) l) (start_sooner n m (grafts_from e m (suc k) r) (omega arith) (grafts_start e m (suc k) r))
grafts_start (Both d e) n k Hole = tt
grafts_start (Both d e) n k (Framed f s) = tt
grafts_start (Inside d) n k (Framed f s) = grafts_start d n (suc k) s
grafts_start (Inside d) n k Hole = tt
grafts_start (Inside d) n k (Composed c l r) = tt

module _ (all : List Process) where
  abbrev after : ℕ → List (Graft Process) → List Process
  after place gs = spliced parts_of all place gs

  -- what is behind the parts at a place
  behind : (place : ℕ) (xs back : List Process) → drop place all ≡ xs ++ back → drop (place + length xs) all ≡ back
  behind place xs back here = sym (drop-drop (length xs) place all) ∙ ap (drop (length xs)) here ∙ drop_at xs back (length xs) refl

  -- parts before all grafts stay
  skipped : (place : ℕ) (xs back : List Process) (gs : List (Graft Process)) → drop place all ≡ xs ++ back → StartFrom (place + length xs) gs → after place gs ≡ xs ++ after (place + length xs) gs
  skipped place xs back [] here from = here ∙ ap (λ (ys : List Process). xs ++ ys) (sym (behind place xs back here))
  skipped place xs back (g ∷ gs) here from =
      let k = g.from - (place + length xs) in
      let more = parts_of g.new ++ after g.to gs in
      let long : g.from - place ≡ length xs + k = let h = from.0 in omega (arith, h) in
      ap (λ (ys : List Process). ys ++ more)
      (ap₂ take long here ∙ take-append-add xs back k ∙ ap (λ (ys : List Process). xs ++ take k ys) (sym (behind place xs back here)))
      ∙ append_assoc xs (take k (drop (place + length xs) all)) more

  abbrev Spliced : Move → ℕ → ℕ → Shape → List Process → Type 0
  Spliced d n k s mine = (back : List Process) (rest : List (Graft Process)) → length mine ≡ holes s → drop n all ≡ mine ++ back → StartFrom (n + holes s) rest →
      after n (grafts_from d n k s ++ rest) ≡ parts_to d s mine ++ after (n + holes s) rest

  rests : (n : ℕ) (s : Shape) (mine back : List Process) (rest : List (Graft Process)) → length mine ≡ holes s → drop n all ≡ mine ++ back → StartFrom (n + holes s) rest → after n rest ≡ mine ++ after (n + holes s) rest
  rests n s mine back rest long here from =
      skipped n mine back rest here (subst (λ (j : ℕ). StartFrom (n + j) rest) (sym long) from) ∙ ap (λ (j : ℕ). mine ++ after (n + j) rest) long

  both : (d e : Move) (n k : ℕ) (c : Composition) (l r : Shape) (mine : List Process) → ((ps : List Process) → Spliced d n (suc k) l ps) → ((qs : List Process) → Spliced e (n + holes l) (suc k) r qs) → Spliced (Both d e) n k (Composed c l r) mine
  both d e n k c l r mine left right back rest long here from =
      let j = holes l in
      let m = n + j in
      let ps = take j mine in
      let qs = drop j mine in
      let few : length ps ≡ j = omega (arith, length-take j mine, long) in
      let few_rest : length qs ≡ holes r = omega (arith, length-drop j mine, long) in
      let ls = grafts_from d n (suc k) l in
      let rs = grafts_from e m (suc k) r in
      let end = m + holes r in
      let last : end ≡ n + (j + holes r) = omega arith in
      let left_here : drop n all ≡ ps ++ (qs ++ back) = here ∙ ap (λ (ys : List Process). ys ++ back) (sym (take-append-drop j mine)) ∙ append_assoc ps qs back in
      let right_here : drop m all ≡ qs ++ back = subst (λ (i : ℕ). drop (n + i) all ≡ qs ++ back) few (behind n ps (qs ++ back) left_here) in
      let rest_from : StartFrom end rest = subst (λ (i : ℕ). StartFrom i rest) (sym last) from in
      let right_from : StartFrom m (rs ++ rest) = all_append (λ (g : Graft Process). m ≤ g.from) rs rest (grafts_start e m (suc k) r) (start_sooner m end rest (omega arith) rest_from) in
      ap (after n) (append_assoc ls rs rest) ∙ left ps (qs ++ back) (rs ++ rest) few left_here right_from
      ∙ ap (λ (ys : List Process). parts_to d l ps ++ ys) (right qs back rest few_rest right_here rest_from)
      ∙ sym (append_assoc (parts_to d l ps) (parts_to e r qs) (after end rest))
      ∙ ap (λ (i : ℕ). (parts_to d l ps ++ parts_to e r qs) ++ after i rest) last

  splices : (d : Move) (n k : ℕ) (s : Shape) (mine : List Process) → Spliced d n k s mine
  splices Rests n k s mine = λ back rest long here from. rests n s mine back rest long here from
  splices (Becomes p) n k s mine = λ back rest long here from. ap (λ (i : ℕ). take i (drop n all) ++ (parts_of p ++ after (n + holes s) rest)) (let e : n - n ≡ 0 = omega arith in e)
  splices (Both d e) n k (Composed c l r) mine = both d e n k c l r mine (λ ps. splices d n (suc k) l ps) (λ qs. splices e (n + holes l) (suc k) r qs)
  splices (Both d e) n k Hole mine = λ back rest long here from. rests n Hole mine back rest long here from
  splices (Both d e) n k (Framed f s) mine = λ back rest long here from. rests n (Framed f s) mine back rest long here from
  splices (Inside d) n k (Framed f s) mine = splices d n (suc k) s mine
  splices (Inside d) n k Hole mine = λ back rest long here from. rests n Hole mine back rest long here from
  splices (Inside d) n k (Composed c l r) mine = λ back rest long here from. rests n (Composed c l r) mine back rest long here from

pub parts_spliced : (d : Move) (s : Shape) (parts : List Process) → length parts ≡ holes s → parts_by parts (grafts_from d 0 0 s) ≡ parts_to d s parts
parts_spliced d s parts long =
    let gs = grafts_from d 0 0 s in
    let new = parts_to d s parts in
    let at_end : drop (0 + holes s) parts ≡ [] = subst (λ (i : ℕ). drop (0 + i) parts ≡ []) long (behind parts 0 parts [] (sym (append-nil parts))) in
    ap (spliced parts_of parts 0) (sym (append-nil gs)) ∙ splices parts d 0 0 s parts [] [] long (sym (append-nil parts)) tt ∙ ap (λ (ys : List Process). new ++ ys) at_end ∙ append-nil new
