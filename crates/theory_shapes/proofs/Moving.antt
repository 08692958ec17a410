-- The steps of a term are the moves of its shape.
use Rattle.std.proofs.Common.{◌≡◌, ℕ, ◌+◌, ◌<◌, ◌≤◌, max, List, [], ◌∷◌, ◌++◌, refl, sym, ap, subst, ◌∙◌, ⊎_elim, arith}
use Rattle.theory_syntax.specs.Value.{Action}
use Rattle.theory_syntax.specs.Process.{Process, Omega, Script}
use Rattle.theory_semantics.specs.Meaning.Faults.{height}
use Rattle.theory_semantics.specs.Meaning.Events.{has_event, images}
use Rattle.theory_semantics.specs.Meaning.Stepping.{Steps, both_ended, each_step, rule_steps, steps_within}
use Rattle.theory_semantics.specs.Laws.Statements.{IsOneOf, StepsAre}
use Rattle.theory_semantics.proofs.Stepping.{append_cases, append_left, append_right, each_in, each_of, exact, exact_within}
use Rattle.theory_shapes.specs.Shape.{Composition, Interleaved, Generalised, Alphabetised, compose, Frame, Hidden, Renamed, enframe, Shape, Hole, Composed, Framed, holes, part_at, fill_from}
use Rattle.theory_shapes.specs.Combining.{StepsTo, is_left_free, is_right_free, is_shared, Sides, alone, jointly, composed_steps, hiding, renaming_to, framed_steps}
use Rattle.theory_shapes.specs.Moves.{Move, Becomes, Inside, moved_from, steps_at, part_moves, moving_sides, moves_from}
use Rattle.theory_shapes.proofs.Combining.{leading_to, Agree, composed_lead, framed_leads}

-- ---- steps of lists that have the same ones

abbrev AreAmong : Steps → Steps → Type 0
AreAmong ss zs = (x : Action) (t : Process) → IsOneOf ss x t → IsOneOf zs x t

each_among : (f g : Action → Process → Steps) → ((x : Action) (t : Process) → AreAmong (f x t) (g x t)) → (ss zs : Steps) → AreAmong ss zs → AreAmong (each_step f ss) (each_step g zs)
each_among f g made ss zs are x t h = let r = each_in f ss x t h in each_of g zs r.0 r.1 x t (are r.0 r.1 r.2) (made r.0 r.1 x t r.3)

both_among : (ys bs ss zs : Steps) → AreAmong ys bs → AreAmong ss zs → AreAmong (ys ++ ss) (bs ++ zs)
both_among ys bs ss zs first second x t h = ⊎_elim (λ k. append_left bs zs x t (first x t k)) (λ k. append_right bs zs x t (second x t k)) (append_cases ys ss x t h)

-- two ways of telling all steps of a process tell the same
all_among : (s : Script) (p : Process) (ss zs : Steps) → StepsAre s p ss → StepsAre s p zs → AreAmong ss zs
all_among s p ss zs are also x t h = (also x t).0 ((are x t).1 h)

-- steps that are among others, and the other way round, are all steps where those are
same_are : (s : Script) (p : Process) (ss zs : Steps) → StepsAre s p ss → AreAmong ss zs → AreAmong zs ss → StepsAre s p zs
same_are s p ss zs are to from x t = (λ h. to x t ((are x t).0 h), λ h. (are x t).1 (from x t h))

-- ---- an operator over processes

-- what the targets of two processes make
abbrev process_sides : Composition → Process → Process → Sides Process
process_sides c p q = record { on_left = λ t. compose c t q; on_right = λ u. compose c p u; together = compose c; left_ended = compose c Omega q; right_ended = compose c p Omega }

abbrev composed : Script → Composition → Process → Steps → Process → Steps → Steps
composed s c p ps q qs = composed_steps s c (process_sides c p q) ps qs (both_ended p q)

composed_among : (s : Script) (c : Composition) (p : Process) (ps ys : Steps) (q : Process) (qs bs : Steps) → AreAmong ps ys → AreAmong qs bs → AreAmong (composed s c p ps q qs) (composed s c p ys q bs)
composed_among s c p ps ys q qs bs first second =
    let sides = process_sides c p q in
    let left : Action → Process → Steps = alone (is_left_free s c) sides.on_left sides.left_ended in
    let right : Action → Process → Steps = alone (is_right_free s c) sides.on_right sides.right_ended in
    let both : Steps → Action → Process → Steps = λ zs x t. each_step (jointly (is_shared s c) sides.together x t) zs in
    let same : (ss : Steps) → AreAmong ss ss = λ ss x t h. h in
    both_among (each_step left ps) (each_step left ys) (each_step right qs ++ (each_step (both qs) ps ++ both_ended p q)) (each_step right bs ++ (each_step (both bs) ys ++ both_ended p q))
    (each_among left left (λ x t. same (left x t)) ps ys first)
    (both_among (each_step right qs) (each_step right bs) (each_step (both qs) ps ++ both_ended p q) (each_step (both bs) ys ++ both_ended p q)
    (each_among right right (λ x t. same (right x t)) qs bs second)
    (both_among (each_step (both qs) ps) (each_step (both bs) ys) (both_ended p q) (both_ended p q)
    (each_among (both qs) (both bs) (λ x t. each_among (jointly (is_shared s c) sides.together x t) (jointly (is_shared s c) sides.together x t) (λ y u. same (jointly (is_shared s c) sides.together x t y u)) qs bs second) ps ys first)
    (same (both_ended p q))))

-- the definitions put the steps together in the same way
composed_within : (s : Script) (c : Composition) (p q : Process) → StepsAre s (compose c p q) (composed s c p (steps_within (max (height p) (height q)) s p) q (steps_within (max (height p) (height q)) s q))
composed_within s Interleaved p q = exact s (compose Interleaved p q)
composed_within s (Generalised a) p q = exact s (compose (Generalised a) p q)
composed_within s (Alphabetised a b) p q = exact s (compose (Alphabetised a b) p q)

composed_exact : (s : Script) (c : Composition) (p : Process) (ps : Steps) (q : Process) (qs : Steps) → StepsAre s p ps → StepsAre s q qs → StepsAre s (compose c p q) (composed s c p ps q qs)
composed_exact s c p ps q qs first second =
    let n = max (height p) (height q) in
    let ys = steps_within n s p in
    let bs = steps_within n s q in
    let a = exact_within n s p (omega arith) in
    let b = exact_within n s q (omega arith) in
    same_are s (compose c p q) (composed s c p ys q bs) (composed s c p ps q qs) (composed_within s c p q)
    (composed_among s c p ys ps q bs qs (all_among s p ys ps a first) (all_among s q bs qs b second))
    (composed_among s c p ps ys q qs bs (all_among s p ps ys first a) (all_among s q qs bs second b))

framed_exact : (s : Script) (f : Frame) (p : Process) (ps : Steps) → StepsAre s p ps → StepsAre s (enframe f p) (framed_steps s f (enframe f) Omega ps)
framed_exact s (Hidden a) p ps only =
    let does = hiding (has_event s a) (enframe (Hidden a)) Omega in
    let ys = rule_steps s p in
    same_are s (enframe (Hidden a) p) (each_step does ys) (each_step does ps) (exact s (enframe (Hidden a) p))
    (each_among does does (λ x t y u h. h) ys ps (all_among s p ys ps (exact s p) only)) (each_among does does (λ x t y u h. h) ps ys (all_among s p ps ys only (exact s p)))
framed_exact s (Renamed rs) p ps only =
    let does = renaming_to (images s rs) (enframe (Renamed rs)) Omega in
    let ys = rule_steps s p in
    same_are s (enframe (Renamed rs) p) (each_step does ys) (each_step does ps) (exact s (enframe (Renamed rs) p))
    (each_among does does (λ x t y u h. h) ys ps (all_among s p ys ps (exact s p) only)) (each_among does does (λ x t y u h. h) ps ys (all_among s p ps ys only (exact s p)))

-- ---- moves

-- the steps that moves are
abbrev pub told : ℕ → Shape → List Process → StepsTo Move → Steps
told n s parts ms = leading_to (λ m. moved_from m n s parts) ms

becomes_again : (n : ℕ) (s : Shape) (parts : List Process) (ss : Steps) → told n s parts (part_moves ss) ≡ ss
becomes_again n s parts [] = refl
becomes_again n s parts (z ∷ zs) = ap (λ (ss : Steps). z ∷ ss) (becomes_again n s parts zs)

pub moves_exact : (script : Script) (n : ℕ) (s : Shape) (parts : List Process) (known : List Steps) → ((i : ℕ) → n ≤ i → i < n + holes s → StepsAre script (part_at parts i) (steps_at known i)) → StepsAre script (fill_from n s parts) (told n s parts (moves_from script n s parts known))
moves_exact script n Hole parts known each = subst (StepsAre script (part_at parts n)) (sym (becomes_again n Hole parts (steps_at known n))) (each n (omega arith) (omega arith))
moves_exact script n (Composed c l r) parts known each =
    let m = n + holes l in
    let p = fill_from n l parts in
    let q = fill_from m r parts in
    let ls = moves_from script n l parts known in
    let rs = moves_from script m r parts known in
    let whole : Move → Process = λ d. moved_from d n (Composed c l r) parts in
    let first = moves_exact script n l parts known (λ i lo hi. each i lo (omega (arith, hi))) in
    let second = moves_exact script m r parts known (λ i lo hi. each i (omega (arith, lo)) (omega (arith, hi))) in
    let agree : Agree whole (λ d. moved_from d n l parts) (λ e. moved_from e m r parts) moving_sides (process_sides c p q) = record { on_left = λ t. refl; on_right = λ u. refl; together = λ t u. refl; left_ended = refl; right_ended = refl } in
    let is = composed_lead whole (λ d. moved_from d n l parts) (λ e. moved_from e m r parts) moving_sides (process_sides c p q) agree script c ls rs (part_moves (both_ended p q))
    ∙ ap (composed_steps script c (process_sides c p q) (told n l parts ls) (told m r parts rs)) (becomes_again n (Composed c l r) parts (both_ended p q))
    in
    subst (StepsAre script (compose c p q)) (sym is) (composed_exact script c p (told n l parts ls) q (told m r parts rs) first second)
moves_exact script n (Framed f s) parts known each =
    let ms = moves_from script n s parts known in
    subst (StepsAre script (enframe f (fill_from n s parts))) (sym (framed_leads script f (λ d. moved_from d n (Framed f s) parts) (λ d. moved_from d n s parts) Inside (Becomes Omega) (enframe f) Omega (λ t. refl) refl ms))
    (framed_exact script f (fill_from n s parts) (told n s parts ms) (moves_exact script n s parts known each))
