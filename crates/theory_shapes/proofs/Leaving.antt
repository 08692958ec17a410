-- Where no part ticks and two sides have never both ended, all steps have changes.
use Rattle.std.proofs.Common.{◌≡◌, ◌⊎◌, ⊎_elim, inl, inr, ℕ, ◌+◌, ◌<◌, ◌≤◌, Bool, true, false, cond, List, [], ◌∷◌, ◌++◌, map, Option, Some, None, refl, ap₂, ◌&&◌, arith}
use Rattle.std.specs.List.{AllByRecursion}
use Rattle.theory_syntax.specs.Value.{Action, Event, Tau, Tick, Ev, event_eq}
use Rattle.theory_syntax.specs.Process.{Process, Script, Omega}
use Rattle.theory_semantics.specs.Meaning.Events.{has_event, images}
use Rattle.theory_semantics.specs.Meaning.Stepping.{Steps, both_ended}
use Rattle.theory_semantics.specs.Meaning.Transitions.{IsNotTick}
use Rattle.theory_shapes.specs.Shape.{Composition, Interleaved, Generalised, Alphabetised, compose, Frame, Hidden, Renamed, enframe, Shape, Hole, Composed, Framed, holes, part_at, fill_from}
use Rattle.theory_shapes.specs.Changes.{Change}
use Rattle.theory_shapes.specs.Combining.{each_to, is_left_free, is_right_free, is_shared, alone, jointly, hiding, to_each_image, renaming_to, framed_steps}
use Rattle.theory_shapes.specs.Moves.{both_changes, steps_at}
use Rattle.theory_shapes.specs.ShapeSteps.{ShapeSteps, SidesGoOn, all_changing, put_in, steps_from}
use Rattle.theory_shapes.proofs.Segments.{all_append}

abbrev Changes : Type 0
Changes = Option (List Change)

-- a step that is no tick and has changes
abbrev HasChanges : Action × Changes → Type 0
HasChanges s = IsNotTick s.0 × ((cs : List Change) × (s.1 ≡ Some cs))

abbrev AllHaveChanges : ShapeSteps → Type 0
AllHaveChanges ss = AllByRecursion HasChanges ss

each_has : (f : Action → Changes → ShapeSteps) → ((x : Action) (o : Changes) → HasChanges (x, o) → AllHaveChanges (f x o)) → (ss : ShapeSteps) → AllHaveChanges ss → AllHaveChanges (each_to f ss)
each_has f made [] all = tt
each_has f made (s ∷ ss) all = all_append HasChanges (f s.0 s.1) (each_to f ss) (made s.0 s.1 all.0) (each_has f made ss all.1)

alone_has : (free : Event → Bool) (ended : Changes) (x : Action) (o : Changes) → HasChanges (x, o) → AllHaveChanges (alone free (λ o. o) ended x o)
alone_has free ended Tau o h = (h, tt)
alone_has free ended Tick o h = absurd h.0
alone_has free ended (Ev e) o h = by_test (free e)
  where
    by_test : (b : Bool) → AllHaveChanges (cond b ((Ev e, o) ∷ []) [])
    by_test true = (h, tt)
    by_test false = tt

both_have : (o r : Changes) → ((cs : List Change) × (o ≡ Some cs)) → ((cs : List Change) × (r ≡ Some cs)) → (cs : List Change) × (both_changes o r ≡ Some cs)
both_have o r first second = (first.0 ++ second.0, ap₂ both_changes first.1 second.1)

jointly_has : (shared : Event → Bool) (x : Action) (o : Changes) (y : Action) (r : Changes) → HasChanges (x, o) → HasChanges (y, r) → AllHaveChanges (jointly shared both_changes x o y r)
jointly_has shared (Ev e) o (Ev f) r first second = by_test (event_eq e f && shared e)
  where
    by_test : (b : Bool) → AllHaveChanges (cond b ((Ev e, both_changes o r) ∷ []) [])
    by_test true = ((tt, both_have o r first.1 second.1), tt)
    by_test false = tt
jointly_has shared (Ev e) o Tau r first second = tt
jointly_has shared (Ev e) o Tick r first second = tt
jointly_has shared Tau o y r first second = tt
jointly_has shared Tick o y r first second = tt

hiding_has : (hidden : Event → Bool) (x : Action) (o : Changes) → HasChanges (x, o) → AllHaveChanges (hiding hidden (λ o. o) None x o)
hiding_has hidden Tau o h = (h, tt)
hiding_has hidden Tick o h = absurd h.0
hiding_has hidden (Ev e) o h = by_test (hidden e)
  where
    by_test : (b : Bool) → AllHaveChanges (cond b ((Tau, o) ∷ []) ((Ev e, o) ∷ []))
    by_test true = ((tt, h.1), tt)
    by_test false = (h, tt)

images_have : (o : Changes) (fs : List Event) → ((cs : List Change) × (o ≡ Some cs)) → AllHaveChanges (to_each_image o fs)
images_have o [] h = tt
images_have o (f ∷ fs) h = ((tt, h), images_have o fs h)

renaming_has : (images : Event → List Event) (x : Action) (o : Changes) → HasChanges (x, o) → AllHaveChanges (renaming_to images (λ o. o) None x o)
renaming_has images Tau o h = (h, tt)
renaming_has images Tick o h = absurd h.0
renaming_has images (Ev e) o h = images_have o (images e) h.1

framed_has : (script : Script) (f : Frame) (ss : ShapeSteps) → AllHaveChanges ss → AllHaveChanges (framed_steps script f (λ o. o) None ss)
framed_has script (Hidden a) ss all = each_has (hiding (has_event script a) (λ o. o) None) (hiding_has (has_event script a)) ss all
framed_has script (Renamed rs) ss all = each_has (renaming_to (images script rs) (λ o. o) None) (renaming_has (images script rs)) ss all

part_has : (n : ℕ) (ss : Steps) → AllByRecursion (λ z. IsNotTick z.0) ss → AllHaveChanges (map (λ s. (s.0, put_in n s.1)) ss)
part_has n [] all = tt
part_has n (s ∷ ss) all = ((all.0, (record { hole = n; part = s.1 } ∷ [], refl)), part_has n ss all.1)

none_ended : (ss : Steps) → ss ≡ [] → AllHaveChanges (map (λ s. (s.0, None)) ss)
none_ended [] e = tt
none_ended (s ∷ ss) e = absurd (cc e)

all_have : (script : Script) (n : ℕ) (s : Shape) (parts : List Process) (known : List Steps) → ((i : ℕ) → n ≤ i → i < n + holes s → AllByRecursion (λ z. IsNotTick z.0) (steps_at known i)) → SidesGoOn n s parts → AllHaveChanges (steps_from script n s parts known)
all_have script n Hole parts known quiet on = part_has n (steps_at known n) (quiet n (omega arith) (omega arith))
all_have script n (Composed c l r) parts known quiet on =
    let m = n + holes l in
    let ls = steps_from script n l parts known in
    let rs = steps_from script m r parts known in
    let first = all_have script n l parts known (λ i lo hi. quiet i lo (omega (arith, hi))) on.1 in
    let second = all_have script m r parts known (λ i lo hi. quiet i (omega (arith, lo)) (omega (arith, hi))) on.2 in
    let both : Action → Changes → ShapeSteps = λ x o. each_to (jointly (is_shared script c) both_changes x o) rs in
    let lefts = each_has (alone (is_left_free script c) (λ o. o) _) (alone_has (is_left_free script c) _) ls first in
    let rights = each_has (alone (is_right_free script c) (λ o. o) _) (alone_has (is_right_free script c) _) rs second in
    let together = each_has both (λ x o h. with_each x o h rs second) ls first in
    let ends = none_ended (both_ended (fill_from n l parts) (fill_from m r parts)) on.0 in
    all_append HasChanges _ _ lefts (all_append HasChanges _ _ rights (all_append HasChanges _ _ together ends))
  where
    with_each : (x : Action) (o : Changes) → HasChanges (x, o) → (rs : ShapeSteps) → AllHaveChanges rs → AllHaveChanges (each_to (jointly (is_shared script c) both_changes x o) rs)
    with_each x o h [] all = tt
    with_each x o h (s ∷ ss) all = all_append HasChanges (jointly (is_shared script c) both_changes x o s.0 s.1) (each_to (jointly (is_shared script c) both_changes x o) ss) (jointly_has (is_shared script c) x o s.0 s.1 h all.0) (with_each x o h ss all.1)
all_have script n (Framed f s) parts known quiet on = framed_has script f (steps_from script n s parts known) (all_have script n s parts known quiet on)

changing : (ss : ShapeSteps) → AllHaveChanges ss → (ms : List (Action × List Change)) × (ss ≡ all_changing ms)
changing [] all = ([], refl)
changing (s ∷ ss) all =
    let rest = changing ss all.1 in
    let cs = all.0.1 in
    ((s.0, cs.0) ∷ rest.0, ap₂ (λ (o : Changes) (zs : ShapeSteps). (s.0, o) ∷ zs) cs.1 rest.1)

pub all_changes : (script : Script) (s : Shape) (parts : List Process) (known : List Steps) → ((i : ℕ) → i < holes s → AllByRecursion (λ z. IsNotTick z.0) (steps_at known i)) → SidesGoOn 0 s parts → (ms : List (Action × List Change)) × (steps_from script 0 s parts known ≡ all_changing ms)
all_changes script s parts known quiet on = changing (steps_from script 0 s parts known) (all_have script 0 s parts known (λ i lo hi. quiet i (omega (arith, hi))) on)

-- ---- two sides that have both ended

pub ended_both : (p q : Process) → (both_ended p q ≡ []) ⊎ ((p ≡ Omega) × (q ≡ Omega))
ended_both Omega Omega = inr (refl, refl)
ended_both _ _ = inl refl

composed_goes_on : (c : Composition) (p q : Process) → compose c p q ≡ Omega → ⊥
composed_goes_on Interleaved p q e = cc e
composed_goes_on (Generalised a) p q e = cc e
composed_goes_on (Alphabetised a b) p q e = cc e

framed_goes_on : (f : Frame) (p : Process) → enframe f p ≡ Omega → ⊥
framed_goes_on (Hidden a) p e = cc e
framed_goes_on (Renamed rs) p e = cc e

-- what has ended is a part
pub ended_is_part : (n : ℕ) (s : Shape) (parts : List Process) → fill_from n s parts ≡ Omega → (s ≡ Hole) × (part_at parts n ≡ Omega)
ended_is_part n Hole parts e = (refl, e)
ended_is_part n (Composed c l r) parts e = absurd (composed_goes_on c (fill_from n l parts) (fill_from (n + holes l) r parts) e)
ended_is_part n (Framed f s) parts e = absurd (framed_goes_on f (fill_from n s parts) e)

pub only_parts_end : (n m : ℕ) (l r : Shape) (parts : List Process) →
    (both_ended (fill_from n l parts) (fill_from m r parts) ≡ []) ⊎ ((l ≡ Hole) × (r ≡ Hole) × (part_at parts n ≡ Omega) × (part_at parts m ≡ Omega))
only_parts_end n m l r parts =
    ⊎_elim (λ none. inl none) (λ ends. let left = ended_is_part n l parts ends.0 in let right = ended_is_part m r parts ends.1 in inr (left.0, right.0, left.1, right.1)) (ended_both (fill_from n l parts) (fill_from m r parts))
