-- Steps of a part as changes of its hole.
use Rattle.std.proofs.Common.{◌≡◌, ◌++◌, ◌<◌, ℕ, ◌+◌, List, [], ◌∷◌, length, get_or, map, take, Some, refl, sym, ap, ap₂, subst, ◌∙◌, arith}
use Rattle.std.proofs.lemmas.List.{map-append, append-nil, take_more, length-append}
use Rattle.theory_syntax.specs.Value.{Action}
use Rattle.theory_shapes.specs.Combining.{StepsTo}
use Rattle.theory_shapes.specs.ShapeSteps.{put_in}
use Rattle.csp_rows.specs.declared.changes.Change.{Change}
use Rattle.csp_rows.specs.declared.changes.Run.{Run}
use Rattle.csp_rows.specs.declared.composed.End.{End}
use Rattle.csp_rows.specs.declared.numbers.PartId.{PartId}
use Rattle.csp_rows.specs.declared.step.PartStep.{PartStep}
use Rattle.csp_rows.specs.declared.step.Step.{Step}
use Rattle.csp_rows.specs.Stacks.{IsOnTop}
use Rattle.csp_rows.specs.Numbering.{IsNumbered, Numbering, action_at}
use Rattle.csp_rows.specs.Runs.{AreAmong, IsGrown, IsRunIn, IsToldIn, Told, change_of, run_of, side_of, told_of}
use Rattle.csp_rows.specs.Rows.{ended_at, part_step_of, part_steps_of}
use Rattle.csp_rows.specs.Holes.{AreKnownIn, IsAdded, IsHoleSide, put_steps}
use Rattle.csp_rows.proofs.Pools.{all_in_grown, grows_on, run_new, steps_stay}
use Rattle.csp_rows.proofs.Stacks.{further}
use Rattle.csp_rows.proofs.Shares.{all_more, before_of, last_of, step_more}

-- ---- one change at the end of a pool

module _ (change : Change) (pool after : List Change) (run : Run) (is : IsAdded change pool after run) where
  added_grown : IsGrown pool after
  added_grown = (change ∷ [], is.grown)

  added_in : IsRunIn (length after) run
  added_in =
      let long = ap (λ (xs : List Change). length xs) is.grown ∙ length-append pool (change ∷ []) in
      let from = is.from in let to = is.to in
      (omega (arith, from, to, long), omega (arith, to))

  added_told : (z : Numbering) → told_of z after (Some run) ≡ Some (change_of z change ∷ [])
  added_told z =
      let only : run_of after run ≡ change ∷ [] =
      ap (λ (xs : List Change). run_of xs run) is.grown ∙ run_new pool (change ∷ []) run is.from (is.to ∙ ap (λ (xs : List Change). length xs) is.grown)
      in
      ap (λ (xs : List Change). Some (map (change_of z) xs)) only

  added_among : (n : ℕ) → change.part.0 < n → AreAmong n pool → AreAmong n after
  added_among n lt all = all_more (λ c. c.part.0 < n) pool after change is.grown all lt

-- ---- the steps of a part

put_more : (z : Numbering) (hole : ℕ) (known : List PartStep) (i : ℕ) (d : PartStep) → i < length known →
    put_steps z hole (take (i + 1) known) ≡ put_steps z hole (take i known) ++ (action_at z (get_or known i d).action, put_in hole (z.part (get_or known i d).target.0)) ∷ []
put_more z hole known i d lt =
    ap (put_steps z hole) (take_more known i d lt)
    ∙ ap (map (λ (s : Action × _). (s.0, put_in hole s.1))) (map-append (part_step_of z) (take i known) (get_or known i d ∷ []))
    ∙ map-append (λ (s : Action × _). (s.0, put_in hole s.1)) (part_steps_of z (take i known)) (part_steps_of z (get_or known i d ∷ []))

pub known_none : (hole : ℕ) (known : List PartStep) (pool : List Change) (ss : List Step) → known ≡ [] → IsOnTop ss (AreKnownIn hole known pool pool) ss
known_none hole known pool ss none = (
  [],
  sym (append-nil ss),
  record {
    grown = ([], sym (append-nil pool));
    keeps = λ n targets all. all;
    inside = tt;
    numbered = λ events all. tt;
    made = λ z. ap (put_steps z hole) (sym none);
  },
)

pub known_more : (hole : ℕ) (known : List PartStep) (i : ℕ) (d : PartStep) (p0 p1 p2 : List Change) (s0 s1 s2 : List Step) (run : Run) → i < length known → IsOnTop s0 (AreKnownIn hole (take i known) p0 p1) s1 →
    IsAdded (record { hole = hole; part = (get_or known i d).target }) p1 p2 run → s2 ≡ s1 ++ record { action = (get_or known i d).action; changes = Some run } ∷ [] → IsOnTop s0 (AreKnownIn hole (take (i + 1) known) p0 p2) s2
known_more hole known i d p0 p1 p2 s0 s1 s2 run lt (m1, first, so_far) added pushed =
    let s = get_or known i d in
    let change : Change = record { hole = hole; part = s.target } in
    let step : Step = record { action = s.action; changes = Some run } in
    let grown = added_grown change p1 p2 run added in (
      m1 ++ step ∷ [],
      further s0 s1 s2 m1 (step ∷ []) first pushed,
      record {
        grown = grows_on p0 p1 p2 so_far.grown grown;
        keeps = λ n targets all.
            let P = λ (s : PartStep). s.target.0 < n in
            added_among change p1 p2 run added n (last_of P known i d lt targets).0 (so_far.keeps n (before_of P known i d lt targets) all);
        inside = all_more (λ s. IsToldIn (length p2) s.changes) m1 (m1 ++ step ∷ []) step refl (all_in_grown p1 p2 m1 grown so_far.inside) (added_in change p1 p2 run added);
        numbered = λ events all.
            let P = λ (s : PartStep). IsNumbered events s.action in
            all_more (λ s. IsNumbered events s.action) m1 (m1 ++ step ∷ []) step refl (so_far.numbered events (before_of P known i d lt all)) (last_of P known i d lt all).0;
        made = λ z.
            step_more z p2 m1 (m1 ++ step ∷ []) step refl
            ∙ ap₂ (λ (xs : StepsTo Told) (t : Told). xs ++ (action_at z s.action, t) ∷ []) (steps_stay z p1 p2 m1 grown so_far.inside ∙ so_far.made z) (added_told change p1 p2 run added z)
            ∙ sym (put_more z hole known i d lt);
      },
    )

-- ---- the side that a hole is

pub side_of_hole : (hole : ℕ) (row : List PartId) (known : List PartStep) (p0 p1 p2 : List Change) (s0 s1 : List Step) (run : Run) (end : End) → IsOnTop s0 (AreKnownIn hole known p0 p1) s1 →
    IsAdded (record { hole = hole; part = record { 0 = 0 } }) p1 p2 run → end.ending ≡ Some run → end.has_ended ≡ ended_at row hole → IsOnTop s0 (λ top. IsHoleSide hole row known p0 p2 (side_of top end)) s1
side_of_hole hole row known p0 p1 p2 s0 s1 run end (top, is, adds) added ending ended =
    let change : Change = record { hole = hole; part = record { 0 = 0 } } in
    let grown = added_grown change p1 p2 run added in (
      top,
      is,
      record {
        grown = grows_on p0 p1 p2 adds.grown grown;
        keeps = λ n some targets all. added_among change p1 p2 run added n some (adds.keeps n targets all);
        inside = record {
          steps = all_in_grown p1 p2 top grown adds.inside;
          ending = subst (IsToldIn (length p2)) (sym ending) (added_in change p1 p2 run added);
        };
        numbered = adds.numbered;
        made = λ z. steps_stay z p1 p2 top grown adds.inside ∙ adds.made z;
        ending = λ z. ap (told_of z p2) ending ∙ added_told change p1 p2 run added z ∙ ap (put_in hole) ((z.first 0).1 refl);
        has_ended = ended;
      },
    )
