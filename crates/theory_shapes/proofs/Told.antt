-- The steps of a term are told by changes of parts.
use Rattle.std.proofs.Common.{◌≡◌, ℕ, ◌+◌, ◌≤◌, zero, suc, List, [], ◌∷◌, ◌++◌, map, length, set, Option, Some, None, refl, sym, ap, ap₂, subst, ◌∙◌, inl, inr, ◌⊎◌, Contains, arith}
use Rattle.std.proofs.lemmas.List.{append-nil, get_or-set_same}
use Rattle.theory_syntax.specs.Value.{Action}
use Rattle.theory_syntax.specs.Process.{Process, Stop, Omega, Script}
use Rattle.theory_semantics.specs.Meaning.Stepping.{Steps, both_ended}
use Rattle.theory_semantics.specs.Meaning.Transitions.{RuleStep}
use Rattle.theory_semantics.specs.Laws.Statements.{IsOneOf, StepsAre}
use Rattle.theory_shapes.specs.Shape.{Composition, compose, enframe, Shape, Hole, Composed, Framed, holes, fill_from, fill}
use Rattle.theory_shapes.specs.Changes.{Change, RiseWithin, changed}
use Rattle.theory_shapes.specs.Combining.{StepsTo, composed_steps, framed_steps}
use Rattle.theory_shapes.specs.Moves.{Move, Rests, Becomes, Both, Inside, moved_from, steps_at, part_moves, moving_sides, moves_from, both_changes, changes_from}
use Rattle.theory_shapes.specs.ShapeSteps.{ShapeSteps, AreKnown, AreStepsOf, all_changing, changed_by, put_in, ended_side, changing_sides, steps_from, shape_steps}
use Rattle.theory_shapes.proofs.Changing.{changed_alike, changed_count, stays_before, stays_behind}
use Rattle.theory_shapes.proofs.Combining.{leading_to, Agree, composed_lead, framed_leads}
use Rattle.theory_shapes.proofs.Moving.{moves_exact}
use Rattle.theory_shapes.proofs.Segments.{filled_alike}

-- ---- the steps of the shape are its moves, as changes

no_more : (o : Option (List Change)) → both_changes o (Some []) ≡ o
no_more (Some cs) = ap (λ (ds : List Change). Some ds) (append-nil cs)
no_more None = refl

none_before : (o : Option (List Change)) → both_changes (Some []) o ≡ o
none_before (Some cs) = refl
none_before None = refl

side_ends : (n : ℕ) (s : Shape) → changes_from (Becomes Omega) n s ≡ ended_side n s
side_ends n Hole = refl
side_ends n (Composed c l r) = refl
side_ends n (Framed f s) = refl

part_changes : (n : ℕ) (ss : Steps) → leading_to (λ d. changes_from d n Hole) (part_moves ss) ≡ map (λ s. (s.0, put_in n s.1)) ss
part_changes n [] = refl
part_changes n (s ∷ ss) = ap (λ (zs : ShapeSteps). (s.0, put_in n s.1) ∷ zs) (part_changes n ss)

end_changes : (n : ℕ) (c : Composition) (l r : Shape) (ss : Steps) → leading_to (λ d. changes_from d n (Composed c l r)) (part_moves ss) ≡ map (λ s. (s.0, None)) ss
end_changes n c l r [] = refl
end_changes n c l r (s ∷ ss) = ap (λ (zs : ShapeSteps). (s.0, None) ∷ zs) (end_changes n c l r ss)

pub moves_as_changes : (script : Script) (n : ℕ) (s : Shape) (parts : List Process) (known : List Steps) → leading_to (λ d. changes_from d n s) (moves_from script n s parts known) ≡ steps_from script n s parts known
moves_as_changes script n Hole parts known = part_changes n (steps_at known n)
moves_as_changes script n (Composed c l r) parts known =
    let m = n + holes l in
    let ls = moves_from script n l parts known in
    let rs = moves_from script m r parts known in
    let ended = both_ended (fill_from n l parts) (fill_from m r parts) in
    let whole : Move → Option (List Change) = λ d. changes_from d n (Composed c l r) in
    let left : Move → Option (List Change) = λ d. changes_from d n l in
    let right : Move → Option (List Change) = λ d. changes_from d m r in
    let agree : Agree whole left right moving_sides (changing_sides n l r) = record {
      on_left = λ t. no_more (left t);
      on_right = λ u. none_before (right u);
      together = λ t u. refl;
      left_ended = no_more (left (Becomes Omega)) ∙ side_ends n l;
      right_ended = none_before (right (Becomes Omega)) ∙ side_ends m r;
    } in
    composed_lead whole left right moving_sides (changing_sides n l r) agree script c ls rs (part_moves ended)
    ∙ ap (composed_steps script c (changing_sides n l r) (leading_to left ls) (leading_to right rs)) (end_changes n c l r ended)
    ∙ ap₂ (λ (ys : ShapeSteps) (zs : ShapeSteps). composed_steps script c (changing_sides n l r) ys zs (map (λ s. (s.0, None)) ended)) (moves_as_changes script n l parts known) (moves_as_changes script m r parts known)
moves_as_changes script n (Framed f s) parts known =
    framed_leads script f (λ d. changes_from d n (Framed f s)) (λ d. changes_from d n s) Inside (Becomes Omega) (λ o. o) None (λ t. refl) refl (moves_from script n s parts known)
    ∙ ap (λ (ss : ShapeSteps). framed_steps script f (λ o. o) None ss) (moves_as_changes script n s parts known)

-- ---- changes make what the move makes

both_some : (o r : Option (List Change)) (cs : List Change) → both_changes o r ≡ Some cs → (ys : List Change) × (zs : List Change) × (o ≡ Some ys) × (r ≡ Some zs) × (ys ++ zs ≡ cs)
both_some (Some ys) (Some zs) cs e = (ys, zs, refl, refl, cc e)
both_some (Some ys) None cs e = absurd (cc e)
both_some None r cs e = absurd (cc e)

changed_both : (ys zs : List Change) (parts : List Process) → changed (ys ++ zs) parts ≡ changed zs (changed ys parts)
changed_both [] zs parts = refl
changed_both (c ∷ ys) zs parts = changed_both ys zs (set parts c.hole c.part)

rise_lower : (n m k : ℕ) (cs : List Change) → n ≤ m → RiseWithin m k cs → RiseWithin n k cs
rise_lower n m k [] le rise = omega (arith, le, rise)
rise_lower n m k (c ∷ cs) le rise = (omega (arith, le, rise.0), rise.1)

rise_both : (n m k : ℕ) (ys zs : List Change) → RiseWithin n m ys → RiseWithin m k zs → RiseWithin n k (ys ++ zs)
rise_both n m k [] zs first second = rise_lower n m k zs first second
rise_both n m k (c ∷ ys) zs first second = (first.0, rise_both (suc c.hole) m k ys zs first.1 second)

abbrev Makes : Move → ℕ → Shape → List Process → List Change → Type 0
Makes d n s parts cs = RiseWithin n (n + holes s) cs × (moved_from d n s parts ≡ fill_from n s (changed cs parts))

abbrev MakesIfSome : Move → ℕ → Shape → List Process → Type 0
MakesIfSome d n s parts = (cs : List Change) → n + holes s ≤ length parts → changes_from d n s ≡ Some cs → Makes d n s parts cs

rests_makes : (n : ℕ) (s : Shape) (parts : List Process) → MakesIfSome Rests n s parts
rests_makes n s parts cs long e = subst (Makes Rests n s parts) (let is : [] ≡ cs = cc e in is) (omega arith, refl)

both_make : (c : Composition) (l r : Shape) (d f : Move) (n : ℕ) (parts : List Process) → MakesIfSome d n l parts → MakesIfSome f (n + holes l) r parts → MakesIfSome (Both d f) n (Composed c l r) parts
both_make c l r d f n parts left right cs long e =
    let m = n + holes l in
    let are = both_some (changes_from d n l) (changes_from f m r) cs e in
    let ys = are.0 in
    let zs = are.1 in
    let first = left ys (omega (arith, long)) are.2 in
    let second = right zs (omega (arith, long)) are.3 in
    let after = changed ys parts in
    let rise : RiseWithin n (n + (holes l + holes r)) (ys ++ zs) = rise_both n m (n + (holes l + holes r)) ys zs first.0 (subst (λ (k : ℕ). RiseWithin m k zs) (omega arith) second.0) in
    let stays : fill_from n l after ≡ fill_from n l (changed zs after) = filled_alike n n l after (changed zs after) (λ i lt. sym (stays_before m (m + holes r) zs after (n + i) second.0 (omega (arith, lt)))) in
    let same : fill_from m r (changed zs parts) ≡ fill_from m r (changed zs after) =
    filled_alike m m r (changed zs parts) (changed zs after) (λ i lt. changed_alike zs parts after (m + i) (sym (changed_count ys parts)) (sym (stays_behind n m ys parts (m + i) first.0 (omega arith))))
    in
    subst (Makes (Both d f) n (Composed c l r) parts) are.4
    (rise, ap₂ (compose c) (first.1 ∙ stays) (second.1 ∙ same) ∙ ap (fill_from n (Composed c l r)) (sym (changed_both ys zs parts)))

pub changes_make : (d : Move) (n : ℕ) (s : Shape) (parts : List Process) → MakesIfSome d n s parts
changes_make Rests n s parts = rests_makes n s parts
changes_make (Becomes p) n Hole parts = λ cs long e.
    let one : Change = record { hole = n; part = p } in
    subst (Makes (Becomes p) n Hole parts) (let is : one ∷ [] ≡ cs = cc e in is) ((omega arith, omega arith), sym (get_or-set_same parts n p Stop (omega (arith, long))))
changes_make (Becomes p) n (Composed c l r) parts = λ cs long e. absurd (cc e)
changes_make (Becomes p) n (Framed f s) parts = λ cs long e. absurd (cc e)
changes_make (Both d f) n (Composed c l r) parts = both_make c l r d f n parts (changes_make d n l parts) (changes_make f (n + holes l) r parts)
changes_make (Both d f) n Hole parts = λ cs long e. absurd (cc e)
changes_make (Both d f) n (Framed g s) parts = λ cs long e. absurd (cc e)
changes_make (Inside d) n (Framed f s) parts = λ cs long e. let only = changes_make d n s parts cs long e in (only.0, ap (enframe f) only.1)
changes_make (Inside d) n Hole parts = λ cs long e. absurd (cc e)
changes_make (Inside d) n (Composed c l r) parts = λ cs long e. absurd (cc e)

-- ---- one step

module _ (f : Move → Process) (g : Move → Option (List Change)) (x : Action) where
  move_of : (ms : StepsTo Move) (o : Option (List Change)) → Contains (leading_to g ms) (x, o) → (d : Move) × IsOneOf (leading_to f ms) x (f d) × (o ≡ g d)
  move_of [] o (k, h, e) = absurd (omega arith)
  move_of (m ∷ ms) o (zero, h, e) = (m.1, inl (ap (λ z. z.0) (sym e), refl), ap (λ z. z.1) (sym e))
  move_of (m ∷ ms) o (suc k, h, e) = let r = move_of ms o (k, omega arith, e) in (r.0, inr r.1, r.2)

  move_to : (ms : StepsTo Move) (u : Process) → IsOneOf (leading_to f ms) x u → (d : Move) × Contains {X = Action × Option (List Change)} (leading_to g ms) (x, g d) × (u ≡ f d)
  move_to [] u h = absurd h
  move_to (m ∷ ms) u (inl e) = (m.1, (0, omega arith, λ i. (sym e.0 i, g m.1)), e.1)
  move_to (m ∷ ms) u (inr h) = let r = move_to ms u h in let k = r.1 in (r.0, (suc k.0, omega (arith, k.1), k.2), r.2)

module _ (script : Script) (s : Shape) (parts : List Process) (known : List Steps) (long : length parts ≡ holes s) (are : AreKnown script s parts known) where
  abbrev moves : StepsTo Move
  moves = moves_from script 0 s parts known

  abbrev makes : Move → Process
  makes d = moved_from d 0 s parts

  abbrev changes : Move → Option (List Change)
  changes d = changes_from d 0 s

  exactly : StepsAre script (fill s parts) (leading_to makes moves)
  exactly = moves_exact script 0 s parts known (λ i lo hi. are i (omega (arith, hi)))

  makes_changes : (d : Move) (cs : List Change) → changes d ≡ Some cs → RiseWithin 0 (holes s) cs × (makes d ≡ fill s (changed cs parts))
  makes_changes d cs e = let r = changes_make d 0 s parts cs (omega (arith, long)) e in (subst (λ (k : ℕ). RiseWithin 0 k cs) (omega arith) r.0, r.1)

  abbrev AreSteps : ShapeSteps → Type 0
  AreSteps steps = AreStepsOf script s parts steps

  by_moves : AreSteps (leading_to changes moves)
  by_moves = record {
    changing = λ x cs h.
        let r = move_of makes changes x moves (Some cs) h in
        let made = makes_changes r.0 cs (sym r.2) in
        (made.0, subst (λ u. RuleStep script (fill s parts) x u) made.1 ((exactly x (makes r.0)).1 r.1));
    others = λ x h. let r = move_of makes changes x moves None h in (makes r.0, (exactly x (makes r.0)).1 r.1);
    complete = λ x u step. let r = move_to makes changes x moves u ((exactly x u).0 step) in by_changes x u r.0 r.1 r.2 (changes r.0) refl;
  }
    where
      by_changes : (x : Action) (u : Process) (d : Move) → Contains {X = Action × Option (List Change)} (leading_to changes moves) (x, changes d) → u ≡ makes d → (o : Option (List Change)) → changes d ≡ o →
          ((cs : List Change) × Contains (leading_to changes moves) (x, Some cs) × (u ≡ fill s (changed cs parts))) ⊎ Contains (leading_to changes moves) (x, None)
      by_changes x u d has is (Some cs) e = inl (cs, subst (λ (o : Option (List Change)). Contains (leading_to changes moves) (x, o)) e has, is ∙ (makes_changes d cs e).1)
      by_changes x u d has is None e = inr (subst (λ (o : Option (List Change)). Contains (leading_to changes moves) (x, o)) e has)

  pub steps_told : AreSteps (shape_steps script s parts known)
  steps_told = subst AreSteps (moves_as_changes script 0 s parts known) by_moves

  same_list : (ms : StepsTo Move) (cs : List (Action × List Change)) → leading_to changes ms ≡ all_changing cs → leading_to makes ms ≡ changed_by s parts cs
  same_list [] [] e = refl
  same_list [] (c ∷ cs) e = absurd (cc e)
  same_list (m ∷ ms) [] e = absurd (cc e)
  same_list (m ∷ ms) (c ∷ cs) e =
      let head : ◌≡◌ {A = Action × Option (List Change)} (m.0, changes m.1) (c.0, Some c.1) = cc e in
      let rest : leading_to changes ms ≡ all_changing cs = cc e in
      let made = makes_changes m.1 c.1 (ap (λ z. z.1) head) in
      ap₂ (λ (x : Action) (u : Process). (x, u) ∷ leading_to makes ms) (ap (λ z. z.0) head) made.1
      ∙ ap (λ (zs : Steps). (c.0, fill s (changed c.1 parts)) ∷ zs) (same_list ms cs rest)

  pub all_told : (cs : List (Action × List Change)) → shape_steps script s parts known ≡ all_changing cs → StepsAre script (fill s parts) (changed_by s parts cs)
  all_told cs e = subst (StepsAre script (fill s parts)) (same_list moves cs (moves_as_changes script 0 s parts known ∙ e)) exactly
