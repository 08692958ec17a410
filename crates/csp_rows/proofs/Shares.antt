-- What is added, one step with each of many, and many with many.
use Rattle.std.proofs.Common.{◌≡◌, ◌++◌, ◌<◌, ◌≤◌, ℕ, zero, suc, ◌+◌, ◌-◌, Bool, true, false, take, arith, List, [], ◌∷◌, length, get_or, map, Option, refl, sym, ap, ap₂, subst, ◌∙◌}
use Rattle.std.proofs.lemmas.List.{map-append, take_more}
use Rattle.std.specs.List.{AllByRecursion}
use Rattle.theory_syntax.specs.Value.{Action, Event}
use Rattle.theory_shapes.specs.Combining.{StepsTo, each_to, jointly}
use Rattle.theory_shapes.specs.Moves.{both_changes}
use Rattle.theory_shapes.proofs.Combining.{then_more}
use Rattle.theory_shapes.proofs.Segments.{all_append}
use Rattle.csp_rows.specs.declared.changes.Change.{Change}
use Rattle.csp_rows.specs.declared.changes.Run.{Run}
use Rattle.csp_rows.specs.declared.stack.Places.{Places}
use Rattle.csp_rows.specs.declared.step.Step.{Step}
use Rattle.csp_rows.specs.Stacks.{ArePlacesIn, IsOnTop, between}
use Rattle.csp_rows.specs.Numbering.{AreBitsOf, IsNumbered, Numbering, action_at}
use Rattle.csp_rows.specs.Runs.{AreJoined, AreNumbered, AreToldIn, IsGrown, IsToldIn, Told, step_of, steps_of, told_of}
use Rattle.csp_rows.specs.Adding.{AreShared, is_marked, is_same, made_of_all, made_of_two, made_with_each}
use Rattle.csp_rows.proofs.Pools.{all_in_grown, grows_on, joined_grown, joined_in, joined_keeps, joined_told, same_pool, step_stays, steps_stay, told_in_grown}
use Rattle.csp_rows.proofs.Stacks.{between_below, further, long_between, read_between}
use Rattle.csp_rows.proofs.Jointly.{none_same, none_with_each, one_made}

pub one_of : {X : Type 0} (P : X → Type 0) (xs : List X) (i : ℕ) (d : X) → i < length xs → AllByRecursion P xs → P (get_or xs i d)
one_of P [] i d lt all = absurd (omega (arith, lt))
one_of P (x ∷ xs) zero d lt all = all.0
one_of P (x ∷ xs) (suc i) d lt all = one_of P xs i d (omega (arith, lt)) all.1

all_front : {X : Type 0} (P : X → Type 0) (xs ys : List X) → AllByRecursion P (xs ++ ys) → AllByRecursion P xs × AllByRecursion P ys
all_front P [] ys all = (tt, all)
all_front P (x ∷ xs) ys all = let r = all_front P xs ys all.1 in ((all.0, r.0), r.1)

-- what holds of one more holds of those before, and of the last
pub before_of : {X : Type 0} (P : X → Type 0) (xs : List X) (i : ℕ) (d : X) → i < length xs → AllByRecursion P (take (i + 1) xs) → AllByRecursion P (take i xs)
before_of P xs i d lt all = (all_front P (take i xs) (get_or xs i d ∷ []) (subst (AllByRecursion P) (take_more xs i d lt) all)).0

pub last_of : {X : Type 0} (P : X → Type 0) (xs : List X) (i : ℕ) (d : X) → i < length xs → AllByRecursion P (take (i + 1) xs) → AllByRecursion P (get_or xs i d ∷ [])
last_of P xs i d lt all = (all_front P (take i xs) (get_or xs i d ∷ []) (subst (AllByRecursion P) (take_more xs i d lt) all)).1

-- one more of which it holds
pub all_more : {X : Type 0} (P : X → Type 0) (old new : List X) (x : X) → new ≡ old ++ x ∷ [] → AllByRecursion P old → P x → AllByRecursion P new
all_more P old new x pushed all one = subst (AllByRecursion P) (sym pushed) (all_append P old (x ∷ []) all (one, tt))

-- one more step in a list of steps
pub step_more : (z : Numbering) (pool : List Change) (old new : List Step) (s : Step) → new ≡ old ++ s ∷ [] → steps_of z pool new ≡ steps_of z pool old ++ step_of z pool s ∷ []
step_more z pool old new s pushed = ap (map (step_of z pool)) pushed ∙ map-append (step_of z pool) old (s ∷ [])

-- nothing is added
pub shares_none : (bits : List Bool) (lefts rights : List Step) (pool : List Change) (made_of : Numbering → (Event → Bool) → StepsTo Told) →
    ((z : Numbering) (test : Event → Bool) → AreBitsOf z test bits → AreNumbered z.events lefts → AreNumbered z.events rights → made_of z test ≡ []) → AreShared bits lefts rights pool pool made_of []
shares_none bits lefts rights pool made_of none = record {
  grown = same_pool pool pool refl;
  keeps = λ parts all. all;
  inside = tt;
  numbered = λ events ls. tt;
  made = λ z test is ls rs. sym (none z test is ls rs);
}

-- ---- two steps

pub shares_no_joint : (bits : List Bool) (l r : Step) (pool : List Change) → is_same l.action r.action ≡ false → AreShared bits (l ∷ []) (r ∷ []) pool pool (made_of_two pool l r) []
shares_no_joint bits l r pool away =
    shares_none bits (l ∷ []) (r ∷ []) pool (made_of_two pool l r) (λ z test is ls rs. none_same z test bits is (told_of z pool l.changes) (told_of z pool r.changes) l.action r.action ls.0 rs.0 away)

pub shares_joint : (bits : List Bool) (l r : Step) (pool after : List Change) (o : Option Run) → is_same l.action r.action ≡ true → is_marked bits l.action ≡ true → AreJoined pool after l.changes r.changes o →
    AreShared bits (l ∷ []) (r ∷ []) pool after (made_of_two pool l r) (record { action = l.action; changes = o } ∷ [])
shares_joint bits l r pool after o same marked joined = record {
  grown = joined_grown pool after l.changes r.changes o joined;
  keeps = joined_keeps pool after l.changes r.changes o joined;
  inside = (joined_in pool after l.changes r.changes o joined, tt);
  numbered = λ events ls. (ls.0, tt);
  made = λ z test is ls rs.
      let x = told_of z pool l.changes in
      let y = told_of z pool r.changes in
      ap (λ (t : Told). (action_at z l.action, t) ∷ []) (joined_told z pool after l.changes r.changes o joined) ∙ sym (one_made z test bits is x y l.action r.action ls.0 rs.0 same marked);
}

-- ---- one step with each of many

pub shares_unmarked : (bits : List Bool) (l : Step) (rs : List Step) (pool : List Change) → is_marked bits l.action ≡ false → AreShared bits (l ∷ []) rs pool pool (made_with_each pool l rs) []
shares_unmarked bits l rs pool out = shares_none bits (l ∷ []) rs pool (made_with_each pool l rs) (λ z test is ls all. none_with_each z test bits is pool (told_of z pool l.changes) l.action rs ls.0 out)

-- what is made on top of what was
made_on : (z : Numbering) (p1 p2 : List Change) (m1 m2 : List Step) (a b : StepsTo Told) → IsGrown p1 p2 → AreToldIn (length p1) m1 → steps_of z p1 m1 ≡ a → steps_of z p2 m2 ≡ b → steps_of z p2 (m1 ++ m2) ≡ a ++ b
made_on z p1 p2 m1 m2 a b grown inside one two = map-append (step_of z p2) m1 m2 ∙ ap₂ (λ (xs : StepsTo Told) (ys : StepsTo Told). xs ++ ys) (steps_stay z p1 p2 m1 grown inside ∙ one) two

inside_on : (p1 p2 : List Change) (m1 m2 : List Step) → IsGrown p1 p2 → AreToldIn (length p1) m1 → AreToldIn (length p2) m2 → AreToldIn (length p2) (m1 ++ m2)
inside_on p1 p2 m1 m2 grown one two = all_append (λ s. IsToldIn (length p2) s.changes) m1 m2 (all_in_grown p1 p2 m1 grown one) two

module _ (bits : List Bool) (p0 p1 p2 : List Change) (m1 m2 : List Step) where
  pub shares_more : (l : Step) (rs : List Step) (i : ℕ) (d : Step) → i < length rs → IsToldIn (length p0) l.changes → AreToldIn (length p0) rs → AreShared bits (l ∷ []) (take i rs) p0 p1 (made_with_each p0 l (take i rs)) m1 →
      AreShared bits (l ∷ []) (get_or rs i d ∷ []) p1 p2 (made_of_two p1 l (get_or rs i d)) m2 → AreShared bits (l ∷ []) (take (i + 1) rs) p0 p2 (made_with_each p0 l (take (i + 1) rs)) (m1 ++ m2)
  shares_more l rs i d lt left rights first second =
      let r = get_or rs i d in
      let right = one_of (λ s. IsToldIn (length p0) s.changes) rs i d lt rights in
      record {
        grown = grows_on p0 p1 p2 first.grown second.grown;
        keeps = λ parts all. second.keeps parts (first.keeps parts all);
        inside = inside_on p1 p2 m1 m2 second.grown first.inside second.inside;
        numbered = λ events ls. all_append (λ s. IsNumbered events s.action) m1 m2 (first.numbered events ls) (second.numbered events ls);
        made = λ z test is ls all.
            let v = step_of z p0 in
            let f = jointly test both_changes (v l).0 (v l).1 in
            let same : made_of_two p1 l r z test ≡ f (v r).0 (v r).1 =
            ap₂ (λ (x : Action × Told) (y : Action × Told). jointly test both_changes x.0 x.1 y.0 y.1) (step_stays z p0 p1 l first.grown left) (step_stays z p0 p1 r first.grown right)
            in
            let before = first.made z test is ls (before_of (λ s. IsNumbered z.events s.action) rs i d lt all) in
            let last = second.made z test is ls (last_of (λ s. IsNumbered z.events s.action) rs i d lt all) in
            then_more v f [] (each_to f (steps_of z p0 (take i rs))) (steps_of z p2 (m1 ++ m2)) rs i d lt refl (made_on z p1 p2 m1 m2 _ _ second.grown first.inside before (last ∙ same));
      }

  -- ---- many with many

  pub all_share_more : (ls rs : List Step) (i : ℕ) (d : Step) → i < length ls → AreToldIn (length p0) ls → AreToldIn (length p0) rs → AreShared bits (take i ls) rs p0 p1 (made_of_all p0 (take i ls) rs) m1 →
      AreShared bits (get_or ls i d ∷ []) rs p1 p2 (made_with_each p1 (get_or ls i d) rs) m2 → AreShared bits (take (i + 1) ls) rs p0 p2 (made_of_all p0 (take (i + 1) ls) rs) (m1 ++ m2)
  all_share_more ls rs i d lt lefts rights first second =
      let l = get_or ls i d in
      let left = one_of (λ s. IsToldIn (length p0) s.changes) ls i d lt lefts in
      record {
        grown = grows_on p0 p1 p2 first.grown second.grown;
        keeps = λ parts all. second.keeps parts (first.keeps parts all);
        inside = inside_on p1 p2 m1 m2 second.grown first.inside second.inside;
        numbered = λ events all.
            all_append (λ s. IsNumbered events s.action) m1 m2 (first.numbered events (before_of (λ s. IsNumbered events s.action) ls i d lt all)) (second.numbered events (last_of (λ s. IsNumbered events s.action) ls i d lt all));
        made = λ z test is all rights_numbered.
            let v = step_of z p0 in
            let f : Action → Told → StepsTo Told = λ x o. each_to (jointly test both_changes x o) (map v rs) in
            let same : made_with_each p1 l rs z test ≡ f (v l).0 (v l).1 =
            ap₂ (λ (x : Action × Told) (ys : StepsTo Told). each_to (jointly test both_changes x.0 x.1) ys) (step_stays z p0 p1 l first.grown left) (steps_stay z p0 p1 rs first.grown rights)
            in
            let before = first.made z test is (before_of (λ s. IsNumbered z.events s.action) ls i d lt all) rights_numbered in
            let last = second.made z test is (last_of (λ s. IsNumbered z.events s.action) ls i d lt all) rights_numbered in
            then_more v f [] (each_to f (steps_of z p0 (take i ls))) (steps_of z p2 (m1 ++ m2)) ls i d lt refl (made_on z p1 p2 m1 m2 _ _ second.grown first.inside before (last ∙ same));
      }

-- ---- steps on a stack

-- what is read between places has changes that stand in the grown pool
pub told_between : (p0 p1 : List Change) (s0 s1 more : List Step) (p : Places) (k : ℕ) (d one : Step) → p.from ≤ k → k < p.to → p.to ≤ length s0 → s1 ≡ s0 ++ more → one ≡ get_or s1 k d → AreToldIn (length p0) (between p s0) → IsGrown p0 p1 → IsToldIn (length p1) one.changes
told_between p0 p1 s0 s1 more p k d one on before within first read all grown =
    let ss = between p s0 in
    let i = k - p.from in
    let long = long_between p s0 (omega (arith, on, before), within) in
    let is = read_between p s0 more s1 k d one on before within first read in
    told_in_grown p0 p1 one.changes grown (subst (λ (s : Step). IsToldIn (length p0) s.changes) (sym is) (one_of (λ s. IsToldIn (length p0) s.changes) ss i d (omega (arith, long, on, before)) all))

module _ (bits : List Bool) (p0 p1 p2 : List Change) (s0 s1 s2 : List Step) (k : ℕ) (d one : Step) (read : one ≡ get_or s1 k d) where
  pub shares_next : (l : Step) (rights : Places) → rights.from ≤ k → k < rights.to → rights.to ≤ length s0 → IsToldIn (length p0) l.changes → AreToldIn (length p0) (between rights s0) →
      IsOnTop s0 (AreShared bits (l ∷ []) (take (k - rights.from) (between rights s0)) p0 p1 (made_with_each p0 l (take (k - rights.from) (between rights s0)))) s1 → IsOnTop s1 (AreShared bits (l ∷ []) (one ∷ []) p1 p2 (made_of_two p1 l one)) s2 →
      IsOnTop s0 (AreShared bits (l ∷ []) (take (k + 1 - rights.from) (between rights s0)) p0 p2 (made_with_each p0 l (take (k + 1 - rights.from) (between rights s0)))) s2
  shares_next l rights on before within left told (m1, first, so_far) (m2, second, more) =
      let rs = between rights s0 in
      let i = k - rights.from in
      let long = long_between rights s0 (omega (arith, on, before), within) in
      let is = read_between rights s0 m1 s1 k d one on before within first read in
      let step : i + 1 ≡ k + 1 - rights.from = omega (arith, on) in (
        m1 ++ m2,
        further s0 s1 s2 m1 m2 first second,
        subst (λ (j : ℕ). AreShared bits (l ∷ []) (take j rs) p0 p2 (made_with_each p0 l (take j rs)) (m1 ++ m2)) step
            (shares_more bits p0 p1 p2 m1 m2 l rs i d (omega (arith, long, on, before)) left told so_far (subst (λ (r : Step). AreShared bits (l ∷ []) (r ∷ []) p1 p2 (made_of_two p1 l r) m2) is more)),
      )

  pub all_share_next : (lefts rights : Places) → lefts.from ≤ k → k < lefts.to → lefts.to ≤ length s0 → ArePlacesIn (length s0) rights → AreToldIn (length p0) (between lefts s0) → AreToldIn (length p0) (between rights s0) →
      IsOnTop s0 (AreShared bits (take (k - lefts.from) (between lefts s0)) (between rights s0) p0 p1 (made_of_all p0 (take (k - lefts.from) (between lefts s0)) (between rights s0))) s1 →
      IsOnTop s1 (AreShared bits (one ∷ []) (between rights s1) p1 p2 (made_with_each p1 one (between rights s1))) s2 →
      IsOnTop s0 (AreShared bits (take (k + 1 - lefts.from) (between lefts s0)) (between rights s0) p0 p2 (made_of_all p0 (take (k + 1 - lefts.from) (between lefts s0)) (between rights s0))) s2
  all_share_next lefts rights on before within placed lefts_told rights_told (m1, first, so_far) (m2, second, more) =
      let ls = between lefts s0 in
      let rs = between rights s0 in
      let i = k - lefts.from in
      let long = long_between lefts s0 (omega (arith, on, before), within) in
      let is = read_between lefts s0 m1 s1 k d one on before within first read in
      let others : between rights s1 ≡ rs = ap (between rights) first ∙ between_below rights s0 m1 placed in
      let step : i + 1 ≡ k + 1 - lefts.from = omega (arith, on) in (
        m1 ++ m2,
        further s0 s1 s2 m1 m2 first second,
        subst (λ (j : ℕ). AreShared bits (take j ls) rs p0 p2 (made_of_all p0 (take j ls) rs) (m1 ++ m2)) step
            (all_share_more bits p0 p1 p2 m1 m2 ls rs i d (omega (arith, long, on, before)) lefts_told rights_told so_far
            (subst (λ (ys : List Step). AreShared bits (get_or ls i d ∷ []) ys p1 p2 (made_with_each p1 (get_or ls i d) ys) m2) others
            (subst (λ (l : Step). AreShared bits (l ∷ []) (between rights s1) p1 p2 (made_with_each p1 l (between rights s1)) m2) is more))),
      )
