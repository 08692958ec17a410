-- What moves is spelled in its place.
use Rattle.std.proofs.Common.{◌≡◌, ℕ, ◌+◌, ◌-◌, ◌≤◌, suc, List, [], ◌∷◌, ◌++◌, length, take, drop, refl, sym, ap, ap₂, subst, ◌∙◌, arith, append_assoc}
use Rattle.std.specs.List.{AllByRecursion}
use Rattle.std.proofs.Math.Seq.{take-append-add}
use Rattle.std.proofs.lemmas.List.{append-nil, drop-drop, drop_at, length-append}
use Rattle.theory_syntax.specs.Process.{Process}
use Rattle.theory_spelling.specs.Spelling.{spelling}
use Rattle.theory_shapes.specs.Shape.{Composition, compose, Frame, enframe, Shape, Hole, Composed, Framed, holes, fill_from, fill}
use Rattle.theory_shapes.specs.Edits.{Edit, edited}
use Rattle.theory_shapes.specs.Pieces.{composition_tag, frame_tag, between_sides, behind_body}
use Rattle.theory_shapes.specs.Moves.{Move, Rests, Becomes, Both, Inside, moved_from}
use Rattle.theory_shapes.specs.MoveEdits.{spelled_length, move_edits}
use Rattle.theory_shapes.proofs.ByParts.{all_made}
use Rattle.theory_shapes.proofs.Segments.{all_append}
use Rattle.theory_shapes.proofs.Spelled.{composed_spelling, framed_spelling}

-- no edit is before this place
abbrev StartFrom : ℕ → List Edit → Type 0
StartFrom k es = AllByRecursion (λ e. k ≤ e.start) es

start_sooner : (j k : ℕ) (es : List Edit) → j ≤ k → StartFrom k es → StartFrom j es
start_sooner j k es le all = all_made (λ e. k ≤ e.start) (λ e. j ≤ e.start) (λ e h. omega (arith, le, h)) es all

edits_start : (d : Move) (place n : ℕ) (s : Shape) (parts : List Process) → StartFrom place (move_edits d place n s parts)
edits_start Rests place n s parts = tt
edits_start (Becomes p) place n s parts = (omega arith, tt)
edits_start (Both d e) place n (Composed c l r) parts =
    let there = suc place + spelled_length n l parts + length (between_sides c) in
    all_append (λ e. place ≤ e.start) (move_edits d (suc place) n l parts) (move_edits e there (n + holes l) r parts)
    (start_sooner place (suc place) (move_edits d (suc place) n l parts) (omega arith) (edits_start d (suc place) n l parts))
    (start_sooner place there (move_edits e there (n + holes l) r parts) (omega arith) (edits_start e there (n + holes l) r parts))
edits_start (Both d e) place n Hole parts = tt
edits_start (Both d e) place n (Framed f s) parts = tt
edits_start (Inside d) place n (Framed f s) parts = start_sooner place (suc place) (move_edits d (suc place) n s parts) (omega arith) (edits_start d (suc place) n s parts)
edits_start (Inside d) place n Hole parts = tt
edits_start (Inside d) place n (Composed c l r) parts = tt

module _ (whole : List ℕ) where
  -- what is behind the bytes at a place
  behind : (place : ℕ) (xs back : List ℕ) → drop place whole ≡ xs ++ back → drop (place + length xs) whole ≡ back
  behind place xs back here = sym (drop-drop (length xs) place whole) ∙ ap (drop (length xs)) here ∙ drop_at xs back (length xs) refl

  -- bytes before all edits stay
  skipped : (place : ℕ) (xs back : List ℕ) (es : List Edit) → drop place whole ≡ xs ++ back → StartFrom (place + length xs) es → edited whole place es ≡ xs ++ edited whole (place + length xs) es
  skipped place xs back [] here all = here ∙ ap (λ (bytes : List ℕ). xs ++ bytes) (sym (behind place xs back here))
  skipped place xs back (e ∷ es) here all =
      let k = e.start - (place + length xs) in
      let more = e.bytes ++ edited whole e.end es in
      let long : e.start - place ≡ length xs + k = let h = all.0 in omega (arith, h) in
      ap (λ (bytes : List ℕ). bytes ++ more)
      (ap₂ take long here ∙ take-append-add xs back k ∙ ap (λ (bytes : List ℕ). xs ++ take k bytes) (sym (behind place xs back here)))
      ∙ append_assoc xs (take k (drop (place + length xs) whole)) more

  abbrev Spelled : Move → ℕ → ℕ → Shape → List Process → Type 0
  Spelled d place n s parts = (back : List ℕ) (rest : List Edit) → drop place whole ≡ spelling (fill_from n s parts) ++ back → StartFrom (place + spelled_length n s parts) rest →
      edited whole place (move_edits d place n s parts ++ rest) ≡ spelling (moved_from d n s parts) ++ edited whole (place + spelled_length n s parts) rest

  rests_spelled : (place n : ℕ) (s : Shape) (parts : List Process) → Spelled Rests place n s parts
  rests_spelled place n s parts back rest here all = skipped place (spelling (fill_from n s parts)) back rest here all

  both_spelled : (d e : Move) (place n : ℕ) (c : Composition) (l r : Shape) (parts : List Process) → ((k : ℕ) → Spelled d k n l parts) → ((k : ℕ) → Spelled e k (n + holes l) r parts) → Spelled (Both d e) place n (Composed c l r) parts
  both_spelled d e place n c l r parts left right back rest here all =
      let m = n + holes l in
      let p = fill_from n l parts in
      let q = fill_from m r parts in
      let sp = spelling p in
      let sq = spelling q in
      let between = between_sides c in
      let tag = composition_tag c ∷ [] in
      let one = suc place in
      let step : place + length tag ≡ one = omega arith in
      let two = one + length sp in
      let three = two + length between in
      let end = three + length sq in
      let ls = move_edits d one n l parts in
      let rs = move_edits e three m r parts in
      let p' = spelling (moved_from d n l parts) in
      let q' = spelling (moved_from e m r parts) in
      let is = composed_spelling c p q in
      let count : length (spelling (compose c p q)) ≡ suc (length sp + (length between + length sq)) =
      ap (λ (bytes : List ℕ). length bytes) is ∙ ap suc (length-append sp (between ++ sq) ∙ ap (λ (k : ℕ). length sp + k) (length-append between sq))
      in
      let last : end ≡ place + length (spelling (compose c p q)) = omega (arith, count) in
      let first_here : drop place whole ≡ tag ++ (sp ++ (between ++ (sq ++ back))) =
      here ∙ ap (λ (bytes : List ℕ). bytes ++ back) is ∙ ap (λ (bytes : List ℕ). composition_tag c ∷ bytes) (append_assoc sp (between ++ sq) back ∙ ap (λ (bytes : List ℕ). sp ++ bytes) (append_assoc between sq back))
      in
      let left_here : drop one whole ≡ sp ++ (between ++ (sq ++ back)) = subst (λ (k : ℕ). drop k whole ≡ sp ++ (between ++ (sq ++ back))) step (behind place tag (sp ++ (between ++ (sq ++ back))) first_here) in
      let between_here : drop two whole ≡ between ++ (sq ++ back) = behind one sp (between ++ (sq ++ back)) left_here in
      let right_here : drop three whole ≡ sq ++ back = behind two between (sq ++ back) between_here in
      let rest_from : StartFrom end rest = subst (λ (k : ℕ). StartFrom k rest) (sym last) all in
      let right_from : StartFrom three (rs ++ rest) = all_append (λ e. three ≤ e.start) rs rest (edits_start e three m r parts) (start_sooner three end rest (omega arith) rest_from) in
      let left_from : StartFrom one (ls ++ (rs ++ rest)) = all_append (λ e. one ≤ e.start) ls (rs ++ rest) (edits_start d one n l parts) (start_sooner one three (rs ++ rest) (omega arith) right_from) in
      let after_tag : edited whole place (ls ++ (rs ++ rest)) ≡ tag ++ edited whole one (ls ++ (rs ++ rest)) =
      skipped place tag (sp ++ (between ++ (sq ++ back))) (ls ++ (rs ++ rest)) first_here (subst (λ (k : ℕ). StartFrom k (ls ++ (rs ++ rest))) (sym step) left_from)
      ∙ ap (λ (k : ℕ). tag ++ edited whole k (ls ++ (rs ++ rest))) step
      in
      let after_left : edited whole one (ls ++ (rs ++ rest)) ≡ p' ++ edited whole two (rs ++ rest) = left one (between ++ (sq ++ back)) (rs ++ rest) left_here (start_sooner two three (rs ++ rest) (omega arith) right_from) in
      let after_between : edited whole two (rs ++ rest) ≡ between ++ edited whole three (rs ++ rest) = skipped two between (sq ++ back) (rs ++ rest) between_here right_from in
      let after_right : edited whole three (rs ++ rest) ≡ q' ++ edited whole end rest = right three back rest right_here rest_from in
      let rest_bytes = edited whole end rest in
      ap (edited whole place) (append_assoc ls rs rest) ∙ after_tag
      ∙ ap (λ (bytes : List ℕ). tag ++ bytes)
      (after_left ∙ ap (λ (bytes : List ℕ). p' ++ bytes) (after_between ∙ ap (λ (bytes : List ℕ). between ++ bytes) after_right ∙ sym (append_assoc between q' rest_bytes)) ∙ sym (append_assoc p' (between ++ q') rest_bytes))
      ∙ ap (λ (bytes : List ℕ). bytes ++ rest_bytes) (sym (composed_spelling c (moved_from d n l parts) (moved_from e m r parts)))
      ∙ ap (λ (k : ℕ). spelling (moved_from (Both d e) n (Composed c l r) parts) ++ edited whole k rest) last

  inside_spelled : (d : Move) (place n : ℕ) (f : Frame) (s : Shape) (parts : List Process) → ((k : ℕ) → Spelled d k n s parts) → Spelled (Inside d) place n (Framed f s) parts
  inside_spelled d place n f s parts body back rest here all =
      let p = fill_from n s parts in
      let sp = spelling p in
      let tag = frame_tag f ∷ [] in
      let set = behind_body f in
      let one = suc place in
      let step : place + length tag ≡ one = omega arith in
      let two = one + length sp in
      let end = two + length set in
      let es = move_edits d one n s parts in
      let p' = spelling (moved_from d n s parts) in
      let is = framed_spelling f p in
      let count : length (spelling (enframe f p)) ≡ suc (length sp + length set) = ap (λ (bytes : List ℕ). length bytes) is ∙ ap suc (length-append sp set) in
      let last : end ≡ place + length (spelling (enframe f p)) = omega (arith, count) in
      let first_here : drop place whole ≡ tag ++ (sp ++ (set ++ back)) = here ∙ ap (λ (bytes : List ℕ). bytes ++ back) is ∙ ap (λ (bytes : List ℕ). frame_tag f ∷ bytes) (append_assoc sp set back) in
      let body_here : drop one whole ≡ sp ++ (set ++ back) = subst (λ (k : ℕ). drop k whole ≡ sp ++ (set ++ back)) step (behind place tag (sp ++ (set ++ back)) first_here) in
      let set_here : drop two whole ≡ set ++ back = behind one sp (set ++ back) body_here in
      let rest_from : StartFrom end rest = subst (λ (k : ℕ). StartFrom k rest) (sym last) all in
      let body_from : StartFrom one (es ++ rest) = all_append (λ e. one ≤ e.start) es rest (edits_start d one n s parts) (start_sooner one end rest (omega arith) rest_from) in
      let after_tag : edited whole place (es ++ rest) ≡ tag ++ edited whole one (es ++ rest) =
      skipped place tag (sp ++ (set ++ back)) (es ++ rest) first_here (subst (λ (k : ℕ). StartFrom k (es ++ rest)) (sym step) body_from) ∙ ap (λ (k : ℕ). tag ++ edited whole k (es ++ rest)) step
      in
      let after_body : edited whole one (es ++ rest) ≡ p' ++ edited whole two rest = body one (set ++ back) rest body_here (start_sooner two end rest (omega arith) rest_from) in
      let after_set : edited whole two rest ≡ set ++ edited whole end rest = skipped two set back rest set_here rest_from in
      after_tag
      ∙ ap (λ (bytes : List ℕ). tag ++ bytes) (after_body ∙ ap (λ (bytes : List ℕ). p' ++ bytes) after_set ∙ sym (append_assoc p' set (edited whole end rest)))
      ∙ ap (λ (bytes : List ℕ). bytes ++ edited whole end rest) (sym (framed_spelling f (moved_from d n s parts)))
      ∙ ap (λ (k : ℕ). spelling (moved_from (Inside d) n (Framed f s) parts) ++ edited whole k rest) last

  move_spelled : (d : Move) (place n : ℕ) (s : Shape) (parts : List Process) → Spelled d place n s parts
  move_spelled Rests place n s parts = rests_spelled place n s parts
  move_spelled (Becomes p) place n s parts = λ back rest here all. ap (λ (k : ℕ). take k (drop place whole) ++ (spelling p ++ edited whole (place + spelled_length n s parts) rest)) (let e : place - place ≡ 0 = omega arith in e)
  move_spelled (Both d e) place n (Composed c l r) parts = both_spelled d e place n c l r parts (λ k. move_spelled d k n l parts) (λ k. move_spelled e k (n + holes l) r parts)
  move_spelled (Both d e) place n Hole parts = rests_spelled place n Hole parts
  move_spelled (Both d e) place n (Framed f s) parts = rests_spelled place n (Framed f s) parts
  move_spelled (Inside d) place n (Framed f s) parts = inside_spelled d place n f s parts (λ k. move_spelled d k n s parts)
  move_spelled (Inside d) place n Hole parts = rests_spelled place n Hole parts
  move_spelled (Inside d) place n (Composed c l r) parts = rests_spelled place n (Composed c l r) parts

pub moved_in_place : (d : Move) (s : Shape) (parts : List Process) → spelling (moved_from d 0 s parts) ≡ edited (spelling (fill s parts)) 0 (move_edits d 0 0 s parts)
moved_in_place d s parts =
    let whole = spelling (fill s parts) in
    let es = move_edits d 0 0 s parts in
    let new = spelling (moved_from d 0 s parts) in
    let at_end : drop (0 + length whole) whole ≡ [] = behind whole 0 whole [] (sym (append-nil whole)) in
    sym (append-nil new) ∙ ap (λ (bytes : List ℕ). new ++ bytes) (sym at_end) ∙ sym (move_spelled whole d 0 0 s parts [] [] (sym (append-nil whole)) tt) ∙ ap (edited whole 0) (append-nil es)
