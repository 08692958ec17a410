-- The steps of a term, each with what takes the places of others.
use Rattle.std.proofs.Common.{◌≡◌, ℕ, ◌+◌, ◌<◌, ◌≤◌, suc, Bool, true, false, ◌&&◌, List, [], ◌∷◌, length, map, refl, sym, ap, ap₂, subst, ◌∙◌, arith}
use Rattle.std.proofs.lemmas.List.{append-nil, map-append}
use Rattle.theory_syntax.specs.Process.{Process, Omega, Script}
use Rattle.theory_semantics.specs.Meaning.Stepping.{Steps, both_ended}
use Rattle.theory_semantics.specs.Laws.Statements.{StepsAre}
use Rattle.theory_shapes.specs.Shape.{Composition, Interleaved, Generalised, Alphabetised, compose, Frame, Hidden, Renamed, enframe, Shape, Hole, Composed, Framed, fill, fill_from, holes, part_at}
use Rattle.theory_shapes.specs.Combining.{StepsTo, composed_steps, framed_steps}
use Rattle.theory_shapes.specs.Moves.{Move, Becomes, Inside, moved_from, moves_from, moving_sides, part_moves, steps_at}
use Rattle.theory_shapes.specs.ShapeSteps.{AreKnown}
use Rattle.theory_shapes.proofs.Combining.{Agree, composed_lead, framed_leads, leading_to}
use Rattle.theory_shapes.proofs.Moving.{moves_exact}
use Rattle.theory_rows.specs.Grafts.{Graft, grafts_from, grafts_of, parts_by, shape_by, whole}
use Rattle.theory_rows.specs.GraftSteps.{both_end, graft_steps, grafting_sides, has_ended, is_hole, led_to, steps_by}
use Rattle.theory_rows.proofs.Grafting.{shape_grafted, some_hole}
use Rattle.theory_rows.proofs.Leading.{to_move}
use Rattle.theory_rows.proofs.Splicing.{parts_spliced}

abbrev Grafts : Type 0
Grafts = List (Graft Process)

-- ---- two sides that have both ended are parts

composed_left : (c : Composition) (p q t : Process) → both_ended (compose c p q) t ≡ []
composed_left Interleaved p q t = refl
composed_left (Generalised a) p q t = refl
composed_left (Alphabetised a b) p q t = refl

framed_left : (f : Frame) (p t : Process) → both_ended (enframe f p) t ≡ []
framed_left (Hidden a) p t = refl
framed_left (Renamed rs) p t = refl

composed_right : (t : Process) (c : Composition) (p q : Process) → both_ended t (compose c p q) ≡ []
composed_right Omega Interleaved p q = refl
composed_right Omega (Generalised a) p q = refl
composed_right Omega (Alphabetised a b) p q = refl
composed_right t c p q = refl

framed_right : (t : Process) (f : Frame) (p : Process) → both_ended t (enframe f p) ≡ []
framed_right Omega (Hidden a) p = refl
framed_right Omega (Renamed rs) p = refl
framed_right t f p = refl

parts_end : (w : Move → Grafts) (p q : Process) → leading_to w (part_moves (both_ended p q)) ≡ both_end (has_ended p && has_ended q) (w (Becomes Omega))
parts_end w Omega Omega = refl
parts_end w Omega q = refl
parts_end w p q = refl

sides_end : (w : Move → Grafts) (n m : ℕ) (l r : Shape) (parts : List Process) → leading_to w (part_moves (both_ended (fill_from n l parts) (fill_from m r parts))) ≡ both_end (is_hole l && is_hole r && has_ended (part_at parts n) && has_ended (part_at parts m)) (w (Becomes Omega))
sides_end w n m Hole Hole parts = parts_end w (part_at parts n) (part_at parts m)
sides_end w n m Hole (Composed c l r) parts = ap (λ (ss : Steps). leading_to w (part_moves ss)) (composed_right (part_at parts n) c (fill_from m l parts) (fill_from (m + holes l) r parts))
sides_end w n m Hole (Framed f s) parts = ap (λ (ss : Steps). leading_to w (part_moves ss)) (framed_right (part_at parts n) f (fill_from m s parts))
sides_end w n m (Composed c l q) r parts = ap (λ (ss : Steps). leading_to w (part_moves ss)) (composed_left c (fill_from n l parts) (fill_from (n + holes l) q parts) (fill_from m r parts))
sides_end w n m (Framed f s) r parts = ap (λ (ss : Steps). leading_to w (part_moves ss)) (framed_left f (fill_from n s parts) (fill_from m r parts))

-- ---- the steps are the moves, with what each puts in the places of others

part_grafts : (n k : ℕ) (ss : Steps) → leading_to (λ d. grafts_from d n k Hole) (part_moves ss) ≡ map (λ s. (s.0, whole n k Hole s.1)) ss
part_grafts n k [] = refl
part_grafts n k (s ∷ ss) = ap (λ (zs : StepsTo Grafts). (s.0, whole n k Hole s.1) ∷ zs) (part_grafts n k ss)

pub moves_as_grafts : (script : Script) (n k : ℕ) (s : Shape) (parts : List Process) (known : List Steps) → leading_to (λ d. grafts_from d n k s) (moves_from script n s parts known) ≡ steps_by script Omega (steps_at known) (λ i. has_ended (part_at parts i)) n k s
moves_as_grafts script n k Hole parts known = part_grafts n k (steps_at known n)
moves_as_grafts script n k (Composed c l r) parts known =
    let m = n + holes l in
    let ls = moves_from script n l parts known in
    let rs = moves_from script m r parts known in
    let all : Move → Grafts = λ d. grafts_from d n k (Composed c l r) in
    let left : Move → Grafts = λ d. grafts_from d n (suc k) l in
    let right : Move → Grafts = λ d. grafts_from d m (suc k) r in
    let sides = grafting_sides Omega n k l r in
    let agree : Agree all left right moving_sides sides = record {
      on_left = λ t. append-nil (left t);
      on_right = λ u. refl;
      together = λ t u. refl;
      left_ended = refl;
      right_ended = refl;
    } in
    let end = both_end (is_hole l && is_hole r && has_ended (part_at parts n) && has_ended (part_at parts m)) (whole n k (Composed c l r) Omega) in
    composed_lead all left right moving_sides sides agree script c ls rs (part_moves (both_ended (fill_from n l parts) (fill_from m r parts)))
    ∙ ap (composed_steps script c sides (leading_to left ls) (leading_to right rs)) (sides_end all n m l r parts)
    ∙ ap₂ (λ (ys : StepsTo Grafts) (zs : StepsTo Grafts). composed_steps script c sides ys zs end) (moves_as_grafts script n (suc k) l parts known) (moves_as_grafts script m (suc k) r parts known)
moves_as_grafts script n k (Framed f s) parts known =
    framed_leads script f (λ d. grafts_from d n k (Framed f s)) (λ d. grafts_from d n (suc k) s) Inside (Becomes Omega) (λ gs. gs) (whole n k (Framed f s) Omega) (λ t. refl) refl (moves_from script n s parts known)
    ∙ ap (λ (ss : StepsTo Grafts). framed_steps script f (λ gs. gs) (whole n k (Framed f s) Omega) ss) (moves_as_grafts script n (suc k) s parts known)

-- ---- they lead to all that the term does

-- what a move leads to is what its grafts make
pub graft_leads : (d : Move) (s : Shape) (parts : List Process) → length parts ≡ holes s → fill (shape_by s (grafts_from d 0 0 s)) (parts_by parts (grafts_from d 0 0 s)) ≡ moved_from d 0 s parts
graft_leads d s parts long = ap₂ fill (shape_grafted d 0 0 s) (parts_spliced d s parts long) ∙ sym (to_move d s parts long).1

all_lead : (s : Shape) (parts : List Process) → length parts ≡ holes s → (ms : StepsTo Move) → led_to s parts (leading_to (λ d. grafts_from d 0 0 s) ms) ≡ leading_to (λ d. moved_from d 0 s parts) ms
all_lead s parts long [] = refl
all_lead s parts long (m ∷ ms) = ap₂ (λ (p : Process) (ss : Steps). (m.0, p) ∷ ss) (graft_leads m.1 s parts long) (all_lead s parts long ms)

pub grafts_are_steps : (script : Script) (s : Shape) (parts : List Process) (known : List Steps) → length parts ≡ holes s → AreKnown script s parts known → StepsAre script (fill s parts) (led_to s parts (graft_steps script s parts known))
grafts_are_steps script s parts known long are =
    let ms = moves_from script 0 s parts known in
    let same : led_to s parts (graft_steps script s parts known) ≡ leading_to (λ d. moved_from d 0 s parts) ms =
    ap (led_to s parts) (sym (moves_as_grafts script 0 0 s parts known)) ∙ all_lead s parts long ms
    in
    subst (StepsAre script (fill s parts)) (sym same) (moves_exact script 0 s parts known (λ i lo hi. are i (omega (arith, hi))))

-- ---- they are made in one way, whatever they lead to

ends_made : {X Y : Type 0} (f : X → Y) (b : Bool) (gs : List (Graft X)) → leading_to (grafts_of f) (both_end b gs) ≡ both_end b (grafts_of f gs)
ends_made f true gs = refl
ends_made f false gs = refl

parts_made : {X Y : Type 0} (f : X → Y) (n k : ℕ) (ss : StepsTo X) → leading_to (grafts_of f) (map (λ s. (s.0, whole n k Hole s.1)) ss) ≡ map (λ s. (s.0, whole n k Hole s.1)) (leading_to f ss)
parts_made f n k [] = refl
parts_made f n k (s ∷ ss) = ap (λ (zs : StepsTo (List (Graft _))). (s.0, whole n k Hole (f s.1)) ∷ zs) (parts_made f n k ss)

pub steps_made : {X Y : Type 0} (f : X → Y) (script : Script) (o : X) (known : ℕ → StepsTo X) (ended : ℕ → Bool) (n k : ℕ) (s : Shape) → leading_to (grafts_of f) (steps_by script o known ended n k s) ≡ steps_by script (f o) (λ i. leading_to f (known i)) ended n k s
steps_made f script o known ended n k Hole = parts_made f n k (known n)
steps_made {X} {Y} f script o known ended n k (Composed c l r) =
    let m = n + holes l in
    let ls = steps_by script o known ended n (suc k) l in
    let rs = steps_by script o known ended m (suc k) r in
    let end = is_hole l && is_hole r && ended n && ended m in
    let h : List (Graft X) → List (Graft Y) = grafts_of f in
    let below = grafting_sides o n k l r in
    let sides = grafting_sides (f o) n k l r in
    let agree : Agree h h h below sides = record {
      on_left = λ t. refl;
      on_right = λ u. refl;
      together = λ t u. map-append (λ (g : Graft X). record { from = g.from; to = g.to; above = g.above; new = f g.new }) t u;
      left_ended = refl;
      right_ended = refl;
    } in
    composed_lead h h h below sides agree script c ls rs (both_end end (whole n k (Composed c l r) o))
    ∙ ap (composed_steps script c sides (leading_to h ls) (leading_to h rs)) (ends_made f end (whole n k (Composed c l r) o))
    ∙ ap₂ (λ (ys : StepsTo (List (Graft Y))) (zs : StepsTo (List (Graft Y))). composed_steps script c sides ys zs (both_end end (whole n k (Composed c l r) (f o)))) (steps_made f script o known ended n (suc k) l) (steps_made f script o known ended m (suc k) r)
steps_made {X} {Y} f script o known ended n k (Framed g s) =
    let h : List (Graft X) → List (Graft Y) = grafts_of f in
    framed_leads script g h h (λ gs. gs) (whole n k (Framed g s) o) (λ gs. gs) (whole n k (Framed g s) (f o)) (λ t. refl) refl (steps_by script o known ended n (suc k) s)
    ∙ ap (λ (ss : StepsTo (List (Graft Y))). framed_steps script g (λ gs. gs) (whole n k (Framed g s) (f o)) ss) (steps_made f script o known ended n (suc k) s)

-- they hang on the parts in the holes of the shape alone
pub steps_alike : {X : Type 0} (script : Script) (o : X) (known also : ℕ → StepsTo X) (ended ends : ℕ → Bool) (n k : ℕ) (s : Shape) → ((i : ℕ) → n ≤ i → i < n + holes s → (known i ≡ also i) × (ended i ≡ ends i)) →
    steps_by script o known ended n k s ≡ steps_by script o also ends n k s
steps_alike script o known also ended ends n k Hole same = ap (map (λ s. (s.0, whole n k Hole s.1))) (same n (omega arith) (omega arith)).0
steps_alike {X} script o known also ended ends n k (Composed c l r) same =
    let m = n + holes l in
    let a = some_hole l in
    let b = some_hole r in
    let sides = grafting_sides o n k l r in
    let first = steps_alike script o known also ended ends n (suc k) l (λ i lo hi. same i lo (omega (arith, hi))) in
    let second = steps_alike script o known also ended ends m (suc k) r (λ i lo hi. same i (omega (arith, lo)) (omega (arith, hi))) in
    let e = (same n (omega arith) (omega (arith, a))).1 in
    let f = (same m (omega arith) (omega (arith, a, b))).1 in
    ap₂ (λ (ys : StepsTo (List (Graft X))) (zs : StepsTo (List (Graft X))). composed_steps script c sides ys zs (both_end (is_hole l && is_hole r && ended n && ended m) (whole n k (Composed c l r) o))) first second
    ∙ ap₂ (λ (x : Bool) (y : Bool). composed_steps script c sides (steps_by script o also ends n (suc k) l) (steps_by script o also ends m (suc k) r) (both_end (is_hole l && is_hole r && x && y) (whole n k (Composed c l r) o))) e f
steps_alike {X} script o known also ended ends n k (Framed g s) same =
    ap (λ (ss : StepsTo (List (Graft X))). framed_steps script g (λ gs. gs) (whole n k (Framed g s) o) ss) (steps_alike script o known also ended ends n (suc k) s same)
