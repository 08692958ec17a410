-- What a side does alone, kept in place.
use Rattle.std.proofs.Common.{◌≡◌, ◌++◌, ◌<◌, ◌≤◌, ℕ, ◌+◌, ◌-◌, Bool, true, false, cond, List, [], ◌∷◌, length, get_or, set, take, drop, Option, Some, None, refl, sym, ap, ◌∙◌, append_assoc, arith}
use Rattle.std.specs.Prelude.{if◌then◌else◌}
use Rattle.std.proofs.lemmas.List.{append-nil, drop-drop, drop_more, drop-set-lt, length-set, take_more, take_more_set}
use Rattle.theory_syntax.specs.Value.{Event, Ev}
use Rattle.theory_shapes.specs.Combining.{StepsTo, alone, each_to}
use Rattle.csp_rows.specs.declared.changes.Change.{Change}
use Rattle.csp_rows.specs.declared.changes.Run.{Run}
use Rattle.csp_rows.specs.declared.numbers.ActionId.{ActionId}
use Rattle.csp_rows.specs.declared.numbers.ActionId.TheVariants as by_number
use Rattle.csp_rows.specs.declared.numbers.EventId.{EventId}
use Rattle.csp_rows.specs.declared.stack.Places.{Places}
use Rattle.csp_rows.specs.declared.step.Step.{Step}
use Rattle.csp_rows.specs.Stacks.{between}
use Rattle.csp_rows.specs.Numbering.{AreBitsOf, IsNumbered, Numbering, action_at}
use Rattle.csp_rows.specs.Runs.{AreNumbered, AreToldIn, IsToldIn, Told, steps_of, told_of}
use Rattle.csp_rows.specs.Adding.{alone_by, done_alone, done_first, kept_alone}
use Rattle.csp_rows.proofs.Stacks.{long_between, read_between}

-- ---- what is kept

first_behind : (o : Option Step) (xs ys : List Step) → done_first o xs ++ ys ≡ done_first o (xs ++ ys)
first_behind None xs ys = refl
first_behind (Some s) xs ys = refl

abbrev event_of : Bool → EventId → Option Run → Option Step
event_of b e o = if b then Some (record { action = by_number.Event e; changes = o }) else None

module _ (free : List Bool) (ending : Option Run) where
  kept_behind : (xs ys : List Step) → kept_alone free ending (xs ++ ys) ≡ kept_alone free ending xs ++ kept_alone free ending ys
  kept_behind [] ys = refl
  kept_behind (x ∷ xs) ys = ap (done_first (done_alone free ending x)) (kept_behind xs ys) ∙ sym (first_behind (done_alone free ending x) (kept_alone free ending xs) (kept_alone free ending ys))

  pub kept_in : (n : ℕ) (ss : List Step) → AreToldIn n ss → IsToldIn n ending → AreToldIn n (kept_alone free ending ss)
  kept_in n [] all end = tt
  kept_in n (s ∷ ss) all end = one s.action s.changes all.0 (kept_alone free ending ss) (kept_in n ss all.1 end)
    where
      by_bit : (b : Bool) (e : EventId) (o : Option Run) → IsToldIn n o → (rest : List Step) → AreToldIn n rest → AreToldIn n (done_first (event_of b e o) rest)
      by_bit true e o is rest are = (is, are)
      by_bit false e o is rest are = are

      one : (a : ActionId) (o : Option Run) → IsToldIn n o → (rest : List Step) → AreToldIn n rest → AreToldIn n (done_first (alone_by free ending a o) rest)
      one by_number.Tau o is rest are = (is, are)
      one by_number.Tick o is rest are = (end, are)
      one (by_number.Event e) o is rest are = by_bit (get_or free e.0 false) e o is rest are

  pub kept_numbered : (events : ℕ) (ss : List Step) → AreNumbered events ss → AreNumbered events (kept_alone free ending ss)
  kept_numbered events [] all = tt
  kept_numbered events (s ∷ ss) all = one s.action s.changes all.0 (kept_alone free ending ss) (kept_numbered events ss all.1)
    where
      by_bit : (b : Bool) (e : EventId) (o : Option Run) → e.0 < events → (rest : List Step) → AreNumbered events rest → AreNumbered events (done_first (event_of b e o) rest)
      by_bit true e o is rest are = (is, are)
      by_bit false e o is rest are = are

      one : (a : ActionId) (o : Option Run) → IsNumbered events a → (rest : List Step) → AreNumbered events rest → AreNumbered events (done_first (alone_by free ending a o) rest)
      one by_number.Tau o is rest are = (tt, are)
      one by_number.Tick o is rest are = (tt, are)
      one (by_number.Event e) o is rest are = by_bit (get_or free e.0 false) e o is rest are

  module _ (z : Numbering) (pool : List Change) (test : Event → Bool) (are_bits : AreBitsOf z test free) where
    pub kept_made : (ss : List Step) → AreNumbered z.events ss → steps_of z pool (kept_alone free ending ss) ≡ each_to (alone test (λ o. o) (told_of z pool ending)) (steps_of z pool ss)
    kept_made [] all = refl
    kept_made (s ∷ ss) all = one s.action s.changes all.0 (kept_alone free ending ss) ∙ ap (λ (ys : StepsTo Told). alone test (λ o. o) (told_of z pool ending) (action_at z s.action) (told_of z pool s.changes) ++ ys) (kept_made ss all.1)
      where
        by_bit : (b : Bool) (e : EventId) (o : Option Run) (rest : List Step) → steps_of z pool (done_first (event_of b e o) rest) ≡ cond b ((Ev (z.event e.0), told_of z pool o) ∷ []) [] ++ steps_of z pool rest
        by_bit true e o rest = refl
        by_bit false e o rest = refl

        one : (a : ActionId) (o : Option Run) → IsNumbered z.events a → (rest : List Step) →
            steps_of z pool (done_first (alone_by free ending a o) rest) ≡ alone test (λ o. o) (told_of z pool ending) (action_at z a) (told_of z pool o) ++ steps_of z pool rest
        one by_number.Tau o is rest = refl
        one by_number.Tick o is rest = refl
        one (by_number.Event e) o is rest =
            let done : Bool → StepsTo Told = λ b. cond b ((Ev (z.event e.0), told_of z pool o) ∷ []) [] ++ steps_of z pool rest in
            by_bit (get_or free e.0 false) e o rest ∙ ap done (sym (are_bits e.0 is))

  kept_next : (xs : List Step) (i : ℕ) (d : Step) → i < length xs → kept_alone free ending (take (i + 1) xs) ≡ kept_alone free ending (take i xs) ++ done_first (done_alone free ending (get_or xs i d)) []
  kept_next xs i d lt = ap (kept_alone free ending) (take_more xs i d lt) ∙ kept_behind (take i xs) (get_or xs i d ∷ [])

  -- ---- the loop that keeps it

  -- What stands before `behind` is what was there before `to`, and what the side does alone by the steps before k. What
  -- stands from k on is still there.
  pub record KeptUpTo (old now : List Step) (side : Places) (to k now_behind : ℕ) : Type 0 where
    pub on : side.from ≤ k
    pub behind : now_behind ≤ k
    pub len : length now ≡ length old
    pub rest : drop k now ≡ drop k old
    pub kept : take now_behind now ≡ take to old ++ kept_alone free ending (take (k - side.from) (between side old))

  pub kept_first : (old : List Step) (side : Places) (to : ℕ) → to ≤ side.from → KeptUpTo old old side to side.from to
  kept_first old side to before =
      let none : side.from - side.from ≡ 0 = omega arith in
      record {
        on = omega arith;
        behind = before;
        len = refl;
        rest = refl;
        kept = sym (append-nil (take to old)) ∙ ap (λ (i : ℕ). take to old ++ kept_alone free ending (take i (between side old))) (sym none);
      }

  module _ (old now : List Step) (side : Places) (to k behind : ℕ) (d one : Step) (so_far : KeptUpTo old now side to k behind) (before : k < side.to) (within : side.to ≤ length old) (read : one ≡ get_or now k d) where
    still : drop k now ≡ drop k old
    still = so_far.rest

    rest_next : drop (k + 1) now ≡ drop (k + 1) old
    rest_next = sym (drop-drop 1 k now) ∙ ap (drop 1) still ∙ drop-drop 1 k old

    same_read : one ≡ get_or old k d
    same_read =
        let len = so_far.len in
        read ∙ ap (λ (ys : List Step). get_or ys 0 d) (sym (drop_more now k d (omega (arith, len, before, within))) ∙ still ∙ drop_more old k d (omega (arith, before, within)))

    more : kept_alone free ending (take (k + 1 - side.from) (between side old)) ≡ kept_alone free ending (take (k - side.from) (between side old)) ++ done_first (done_alone free ending one) []
    more =
        let on = so_far.on in
        let xs = between side old in
        let i = k - side.from in
        let step : k + 1 - side.from ≡ i + 1 = omega (arith, on) in
        let long = long_between side old (omega (arith, on, before), within) in
        let is : one ≡ get_or xs i d = read_between side old [] old k d one on before within (sym (append-nil old)) same_read in
        ap (λ (j : ℕ). kept_alone free ending (take j xs)) step ∙ kept_next xs i d (omega (arith, long, on, before)) ∙ ap (λ (s : Step). kept_alone free ending (take i xs) ++ done_first (done_alone free ending s) []) (sym is)

    pub kept_none : (o : Option Step) → o ≡ done_alone free ending one → ((s : Step) → o ≡ Some s → ⊥) → KeptUpTo old now side to (k + 1) behind
    kept_none (Some s) done not = absurd (not s refl)
    kept_none None done not =
        let none = sym done in
        let on = so_far.on in
        let le = so_far.behind in
        let up = kept_alone free ending (take (k - side.from) (between side old)) in
        record {
          on = omega (arith, on);
          behind = omega (arith, le);
          len = so_far.len;
          rest = rest_next;
          kept = so_far.kept ∙ ap (λ (ys : List Step). take to old ++ ys) (sym (more ∙ ap (λ (o : Option Step). up ++ done_first o []) none ∙ append-nil up));
        }

    pub kept_one : (s : Step) → done_alone free ending one ≡ Some s → KeptUpTo old (set now behind s) side to (k + 1) (behind + 1)
    kept_one s some =
        let on = so_far.on in
        let le = so_far.behind in
        let len = so_far.len in
        let up = kept_alone free ending (take (k - side.from) (between side old)) in
        record {
          on = omega (arith, on);
          behind = omega (arith, le);
          len = length-set now behind s ∙ so_far.len;
          rest = drop-set-lt (k + 1) now behind s (omega (arith, le)) ∙ rest_next;
          kept =
              take_more_set now behind s (omega (arith, le, len, before, within)) ∙ ap (λ (ys : List Step). ys ++ s ∷ []) so_far.kept ∙ append_assoc (take to old) up (s ∷ [])
              ∙ ap (λ (ys : List Step). take to old ++ ys) (sym (more ∙ ap (λ (o : Option Step). up ++ done_first o []) some));
        }
