-- Runs of a pool that grows.
use Rattle.std.proofs.Common.{◌≡◌, ◌++◌, ◌<◌, ◌≤◌, ℕ, ◌+◌, ◌-◌, drop, take, arith, List, [], ◌∷◌, length, get_or, map, Option, Some, None, refl, sym, ap, ap₂, subst, ◌∙◌, append_assoc}
use Rattle.std.proofs.lemmas.List.{map-append, append-nil, drop_at, drop-append-le, take-append-le, take_all, take_more, length-append, length-drop, get_or-drop, get_or_append_left}
use Rattle.theory_syntax.specs.Value.{Action}
use Rattle.theory_shapes.specs.Changes as pure
use Rattle.theory_shapes.specs.Combining.{StepsTo}
use Rattle.theory_shapes.specs.Moves.{both_changes}
use Rattle.theory_shapes.proofs.Segments.{all_append, all_split}
use Rattle.csp_rows.specs.declared.changes.Change.{Change}
use Rattle.csp_rows.specs.declared.changes.Run.{Run}
use Rattle.csp_rows.specs.declared.step.Step.{Step}
use Rattle.csp_rows.specs.Numbering.{Numbering, action_at}
use Rattle.csp_rows.specs.Runs.{AreAmong, AreJoined, AreToldIn, IsGrown, IsRunIn, IsToldIn, KeepsParts, Told, change_of, run_of, step_of, steps_of, told_of}

-- one more of a run is copied behind it
pub run_more : {X : Type 0} (old now new : List X) (from k : ℕ) (c d : X) → from ≤ k → k < length old → now ≡ old ++ take (k - from) (drop from old) → c ≡ get_or now k d → new ≡ now ++ c ∷ [] → new ≡ old ++ take (k + 1 - from) (drop from old)
run_more old now new from k c d on within so_far read pushed =
    let rest = drop from old in
    let i = k - from in
    let at : c ≡ get_or rest i d =
    read ∙ ap (λ (xs : List _). get_or xs k d) so_far ∙ get_or_append_left old (take i rest) d k within ∙ ap (λ (j : ℕ). get_or old j d) (let e : k ≡ from + i = omega (arith, on) in e) ∙ sym (get_or-drop from old i d)
    in
    let step : k + 1 - from ≡ i + 1 = omega (arith, on) in
    pushed ∙ ap (λ (xs : List _). xs ++ c ∷ []) so_far ∙ append_assoc old (take i rest) (c ∷ [])
    ∙ ap (λ (xs : List _). old ++ xs) (ap (λ (z : _). take i rest ++ z ∷ []) at ∙ sym (take_more rest i d (omega (arith, length-drop from old, on, within))) ∙ ap (λ (j : ℕ). take j rest) (sym step))

-- ---- what stands in a pool stands in a grown one, and means the same

pub run_stays : (pool more : List Change) (r : Run) → IsRunIn (length pool) r → run_of (pool ++ more) r ≡ run_of pool r
run_stays pool more r (on, within) =
    ap (take (r.to - r.from)) (drop-append-le r.from pool more (omega (arith, on, within))) ∙ take-append-le (r.to - r.from) (drop r.from pool) more (omega (arith, length-drop r.from pool, on, within))

pub run_new : (pool more : List Change) (r : Run) → r.from ≡ length pool → r.to ≡ length (pool ++ more) → run_of (pool ++ more) r ≡ more
run_new pool more r first last = ap (take (r.to - r.from)) (drop_at pool more r.from (sym first)) ∙ take_all (r.to - r.from) more (omega (arith, first, last, length-append pool more))

run_among : (parts : ℕ) (pool : List Change) (r : Run) → AreAmong parts pool → AreAmong parts (run_of pool r)
run_among parts pool r all = (all_split (λ c. c.part.0 < parts) (r.to - r.from) (drop r.from pool) (all_split (λ c. c.part.0 < parts) r.from pool all).1).0

pub in_more : (n m : ℕ) (o : Option Run) → n ≤ m → IsToldIn n o → IsToldIn m o
in_more n m None le is = tt
in_more n m (Some r) le is = (is.0, let h = is.1 in omega (arith, le, h))

all_in_more : (n m : ℕ) (ss : List Step) → n ≤ m → AreToldIn n ss → AreToldIn m ss
all_in_more n m [] le all = tt
all_in_more n m (s ∷ ss) le all = (in_more n m s.changes le all.0, all_in_more n m ss le all.1)

pub longer : (pool after : List Change) → IsGrown pool after → length pool ≤ length after
longer pool after (more, is) = let h = ap (λ (xs : List Change). length xs) is ∙ length-append pool more in omega (arith, h)

pub all_in_grown : (pool after : List Change) (ss : List Step) → IsGrown pool after → AreToldIn (length pool) ss → AreToldIn (length after) ss
all_in_grown pool after ss grown all = all_in_more (length pool) (length after) ss (longer pool after grown) all

pub told_in_grown : (pool after : List Change) (o : Option Run) → IsGrown pool after → IsToldIn (length pool) o → IsToldIn (length after) o
told_in_grown pool after o grown is = in_more (length pool) (length after) o (longer pool after grown) is

pub told_stays : (z : Numbering) (pool after : List Change) (o : Option Run) → IsGrown pool after → IsToldIn (length pool) o → told_of z after o ≡ told_of z pool o
told_stays z pool after None grown is = refl
told_stays z pool after (Some r) (more, grown) is = ap (λ (run : List Change). Some (map (change_of z) run)) (ap (λ (xs : List Change). run_of xs r) grown ∙ run_stays pool more r is)

pub step_stays : (z : Numbering) (pool after : List Change) (s : Step) → IsGrown pool after → IsToldIn (length pool) s.changes → step_of z after s ≡ step_of z pool s
step_stays z pool after s grown is = ap (λ (o : Told). (action_at z s.action, o)) (told_stays z pool after s.changes grown is)

pub steps_stay : (z : Numbering) (pool after : List Change) (ss : List Step) → IsGrown pool after → AreToldIn (length pool) ss → steps_of z after ss ≡ steps_of z pool ss
steps_stay z pool after [] grown all = refl
steps_stay z pool after (s ∷ ss) grown all = ap₂ (λ (y : Action × Told) (ys : StepsTo Told). y ∷ ys) (step_stays z pool after s grown all.0) (steps_stay z pool after ss grown all.1)

pub grows_on : (p0 p1 p2 : List Change) → IsGrown p0 p1 → IsGrown p1 p2 → IsGrown p0 p2
grows_on p0 p1 p2 (one, first) (two, second) = (one ++ two, second ∙ ap (λ (xs : List Change). xs ++ two) first ∙ append_assoc p0 one two)

pub same_pool : (pool after : List Change) → after ≡ pool → IsGrown pool after
same_pool pool after same = ([], same ∙ sym (append-nil pool))

-- ---- what is joined

module _ (old one two : List Change) (left right : Run) (first : one ≡ old ++ run_of old left) (second : two ≡ one ++ run_of one right) (within : IsRunIn (length old) right) where
  pub both_behind : two ≡ old ++ (run_of old left ++ run_of old right)
  both_behind =
      second
      ∙ ap₂ (λ (xs : List Change) (ys : List Change). xs ++ ys) first (ap (λ (xs : List Change). run_of xs right) first ∙ run_stays old (run_of old left) right within)
      ∙ append_assoc old (run_of old left) (run_of old right)

pub joined_grown : (pool after : List Change) (l r o : Option Run) → AreJoined pool after l r o → IsGrown pool after
joined_grown pool after (Some l) (Some r) (Some o) is = (run_of pool l ++ run_of pool r, is.grown)
joined_grown pool after (Some l) (Some r) None is = absurd is
joined_grown pool after (Some l) None o is = same_pool pool after is.0
joined_grown pool after None r o is = same_pool pool after is.0

pub joined_keeps : (pool after : List Change) (l r o : Option Run) → AreJoined pool after l r o → KeepsParts pool after
joined_keeps pool after (Some l) (Some r) (Some o) is parts all =
    let among = λ (c : Change). c.part.0 < parts in
    subst (AreAmong parts) (sym is.grown) (all_append among pool (run_of pool l ++ run_of pool r) all (all_append among (run_of pool l) (run_of pool r) (run_among parts pool l all) (run_among parts pool r all)))
joined_keeps pool after (Some l) (Some r) None is parts all = absurd is
joined_keeps pool after (Some l) None o is parts all = subst (AreAmong parts) (sym is.0) all
joined_keeps pool after None r o is parts all = subst (AreAmong parts) (sym is.0) all

pub joined_in : (pool after : List Change) (l r o : Option Run) → AreJoined pool after l r o → IsToldIn (length after) o
joined_in pool after (Some l) (Some r) (Some o) is =
    let long = ap (λ (xs : List Change). length xs) is.grown ∙ length-append pool (run_of pool l ++ run_of pool r) in
    let from = is.from in let to = is.to in
    (omega (arith, from, to, long), omega (arith, to))
joined_in pool after (Some l) (Some r) None is = absurd is
joined_in pool after (Some l) None o is = subst (IsToldIn (length after)) (sym is.1) tt
joined_in pool after None r o is = subst (IsToldIn (length after)) (sym is.1) tt

pub joined_told : (z : Numbering) (pool after : List Change) (l r o : Option Run) → AreJoined pool after l r o → told_of z after o ≡ both_changes (told_of z pool l) (told_of z pool r)
joined_told z pool after (Some l) (Some r) (Some o) is =
    let more = run_of pool l ++ run_of pool r in
    let run : run_of after o ≡ more = ap (λ (xs : List Change). run_of xs o) is.grown ∙ run_new pool more o is.from (is.to ∙ ap (λ (xs : List Change). length xs) is.grown) in
    ap (λ (xs : List pure.Change). Some xs) (ap (map (change_of z)) run ∙ map-append (change_of z) (run_of pool l) (run_of pool r))
joined_told z pool after (Some l) (Some r) None is = absurd is
joined_told z pool after (Some l) None o is = ap (told_of z after) is.1
joined_told z pool after None r o is = ap (told_of z after) is.1
