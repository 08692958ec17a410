-- What the steps of a row lead to is a row.
use Rattle.std.proofs.Common.{◌≡◌, ℕ, ◌+◌, ◌-◌, ◌<◌, ◌≤◌, suc, Bool, true, false, cond, nat_eq, zero, get_or, ◌&&◌, List, [], ◌∷◌, ◌++◌, Some, length, map, drop, take, refl, sym, ap, ap₂, subst, ◌∙◌, arith, Contains}
use Rattle.std.specs.List.{AllByRecursion}
use Rattle.std.proofs.lemmas.List.{drop-map, map-append, take-map}
use Rattle.theory_syntax.specs.Value.{Action}
use Rattle.theory_syntax.specs.Process.{Omega, Process, Script}
use Rattle.theory_semantics.specs.Laws.Statements.{StepsAre}
use Rattle.theory_semantics.specs.Meaning.Stepping.{Steps}
use Rattle.theory_semantics.specs.Meaning.Transitions.{RuleStep}
use Rattle.theory_shapes.specs.Shape.{Shape, Hole, Composed, Framed, fill, holes, part_at}
use Rattle.theory_shapes.specs.Combining.{StepsTo}
use Rattle.theory_shapes.specs.Moves.{Move, moved_from, moves_from, steps_at}
use Rattle.theory_shapes.specs.Parts.{parts_of, shape_of}
use Rattle.theory_shapes.specs.ShapeSteps.{AreKnown}
use Rattle.theory_shapes.proofs.ByParts.{all_made}
use Rattle.theory_shapes.proofs.Fired.{contains_step}
use Rattle.theory_shapes.proofs.Combining.{leading_to}
use Rattle.theory_shapes.proofs.Segments.{all_append, all_split}
use Rattle.csp_rows.proofs.Members.{all_contained, map_contained, map_contains}
use Rattle.csp_rows.specs.declared.numbers.PartId.{PartId}
use Rattle.theory_rows.specs.Tables.{AreAmong, AreTables, IsRowIn, IsRowOf, Row, Tables, parts_in, process_of, shape_in}
use Rattle.theory_rows.specs.Grafts.{Graft, graft_at, grafted, grafted_or, grafts_from, grafts_of, parts_by, shape_by, spliced, whole}
use Rattle.theory_rows.specs.GraftSteps.{both_end, graft_steps, grafting_sides, has_ended, is_hole, led_to, steps_by}
use Rattle.theory_rows.specs.Targets.{AreGraftsIn, IsKnownOf, Known, new_parts, new_shape, row_after, row_led_to, row_steps}
use Rattle.theory_rows.proofs.GraftSteps.{graft_leads, grafts_are_steps, moves_as_grafts, steps_alike, steps_made}
use Rattle.theory_rows.proofs.Keeping.{AllTo, Keep, composed_all, framed_all}
use Rattle.theory_rows.proofs.Grafting.{shape_grafted}
use Rattle.theory_rows.proofs.Leading.{to_move}
use Rattle.theory_rows.proofs.Rows.{part_count, row_apart}
use Rattle.theory_rows.proofs.Splicing.{parts_spliced}

-- ---- grafts of other things

module _ {X Y : Type 0} (f : X → Y) (a : Y → Shape) (b : X → Shape) where
  or_made : (n k : ℕ) (gs : List (Graft X)) (q p : Shape) → AllByRecursion (λ g. a (f g.new) ≡ b g.new) gs → q ≡ p → grafted_or a (graft_at n k (grafts_of f gs)) q ≡ grafted_or b (graft_at n k gs) p
  or_made n k [] q p all same = same
  or_made n k (g ∷ gs) q p all same = by_test (nat_eq n g.from && nat_eq k g.above) (or_made n k gs q p all.1 same)
    where
      by_test : (c : Bool) → grafted_or a (graft_at n k (grafts_of f gs)) q ≡ grafted_or b (graft_at n k gs) p → grafted_or a (cond c (Some (f g.new)) (graft_at n k (grafts_of f gs))) q ≡ grafted_or b (cond c (Some g.new) (graft_at n k gs)) p
      by_test true rest = all.0
      by_test false rest = rest

  pub grafted_made : (n k : ℕ) (s : Shape) (gs : List (Graft X)) → AllByRecursion (λ g. a (f g.new) ≡ b g.new) gs → grafted a n k s (grafts_of f gs) ≡ grafted b n k s gs
  grafted_made n k Hole gs all = or_made n k gs Hole Hole all refl
  grafted_made n k (Composed c l r) gs all =
      let m = n + holes l in
      or_made n k gs (Composed c (grafted a n (suc k) l (grafts_of f gs)) (grafted a m (suc k) r (grafts_of f gs))) (Composed c (grafted b n (suc k) l gs) (grafted b m (suc k) r gs)) all
      (ap₂ (Composed c) (grafted_made n (suc k) l gs all) (grafted_made m (suc k) r gs all))
  grafted_made n k (Framed h s) gs all = or_made n k gs (Framed h (grafted a n (suc k) s (grafts_of f gs))) (Framed h (grafted b n (suc k) s gs)) all (ap (Framed h) (grafted_made n (suc k) s gs all))

module _ {X Y Z W : Type 0} (f : X → Y) (h : Z → W) (a : Y → List W) (b : X → List Z) (ys : List Z) where
  pub spliced_made : (place : ℕ) (gs : List (Graft X)) → AllByRecursion (λ g. a (f g.new) ≡ map h (b g.new)) gs → spliced a (map h ys) place (grafts_of f gs) ≡ map h (spliced b ys place gs)
  spliced_made place [] all = drop-map h place ys
  spliced_made place (g ∷ gs) all =
      let k = g.from - place in
      let rest = spliced b ys g.to gs in
      ap₂ (λ (xs : List W) (zs : List W). xs ++ zs) (ap (take k) (drop-map h place ys) ∙ take-map h k (drop place ys))
      (ap₂ (λ (xs : List W) (zs : List W). xs ++ zs) all.0 (spliced_made g.to gs all.1) ∙ sym (map-append h (b g.new) rest))
      ∙ sym (map-append h (take k (drop place ys)) (b g.new ++ rest))

spliced_all : {X Z : Type 0} (P : Z → Type 0) (b : X → List Z) (ys : List Z) (place : ℕ) (gs : List (Graft X)) → AllByRecursion P ys → AllByRecursion (λ g. AllByRecursion P (b g.new)) gs → AllByRecursion P (spliced b ys place gs)
spliced_all P b ys place [] all news = (all_split P place ys all).1
spliced_all P b ys place (g ∷ gs) all news =
    let k = g.from - place in
    let behind = (all_split P place ys all).1 in
    let rest = spliced b ys g.to gs in
    all_append P (take k (drop place ys)) (b g.new ++ rest) (all_split P k (drop place ys) behind).0 (all_append P (b g.new) rest news.0 (spliced_all P b ys g.to gs all news.1))

-- ---- rows

module _ (t : Tables) (are : AreTables t) where
  pub shape_made : (r : Row) (gs : List (Graft Row)) → AreGraftsIn t gs → new_shape t r gs ≡ shape_by (shape_in t r.shape) (grafts_of (process_of t) gs)
  shape_made r gs within =
      let P : Graft Row → Type 0 = λ g. IsRowIn t g.new in
      let Q : Graft Row → Type 0 = λ g. shape_of (process_of t g.new) ≡ shape_in t g.new.shape in
      sym (grafted_made (process_of t) shape_of (λ (q : Row). shape_in t q.shape) 0 0 (shape_in t r.shape) gs (all_made P Q (λ g is. (row_apart t g.new are is).0) gs within))

  pub parts_made : (r : Row) (gs : List (Graft Row)) → AreGraftsIn t gs → parts_in t (new_parts r gs) ≡ parts_by (parts_in t r.parts) (grafts_of (process_of t) gs)
  parts_made r gs within =
      let P : Graft Row → Type 0 = λ g. IsRowIn t g.new in
      let Q : Graft Row → Type 0 = λ g. parts_of (process_of t g.new) ≡ parts_in t g.new.parts in
      sym (spliced_made (process_of t) (λ (n : PartId). part_at t.parts n.0) parts_of (λ (q : Row). q.parts) r.parts 0 gs (all_made P Q (λ g is. (row_apart t g.new are is).1) gs within))

  new_among : (r : Row) (gs : List (Graft Row)) → IsRowIn t r → AreGraftsIn t gs → AreAmong t (new_parts r gs)
  new_among r gs is within =
      let P : Graft Row → Type 0 = λ g. IsRowIn t g.new in
      let Q : Graft Row → Type 0 = λ g. AreAmong t g.new.parts in
      spliced_all (λ (n : PartId). n.0 < length t.parts) (λ (q : Row). q.parts) r.parts 0 gs is.parts (all_made P Q (λ g row. row.parts) gs within)

  pub row_made : (r : Row) (gs : List (Graft Row)) (d : Move) (n : ℕ) → IsRowIn t r → AreGraftsIn t gs → grafts_of (process_of t) gs ≡ grafts_from d 0 0 (shape_in t r.shape) → n < length t.shapes → shape_in t n ≡ new_shape t r gs →
      IsRowOf t (moved_from d 0 (shape_in t r.shape) (parts_in t r.parts)) (row_after n r gs)
  row_made r gs d n is within told few numbered =
      let s = shape_in t r.shape in
      let ps = parts_in t r.parts in
      let long : length ps ≡ holes s = part_count t r.parts ∙ is.filled in
      let shape = numbered ∙ shape_made r gs within ∙ ap (shape_by s) told in
      let parts = parts_made r gs within ∙ ap (parts_by ps) told in
      let to = to_move d s ps long in
      let new_shape_is = shape ∙ shape_grafted d 0 0 s in
      let new_parts_are = parts ∙ parts_spliced d s ps long in
      record {
        within = record {
          shape = few;
          parts = new_among r gs is within;
          filled = sym (part_count t (new_parts r gs)) ∙ ap length new_parts_are ∙ to.0 ∙ ap holes (sym new_shape_is);
        };
        is = ap₂ fill shape parts ∙ graft_leads d s ps long;
      }

-- ---- the steps of rows

-- the grafts of steps are of what the parts' steps lead to, and of what has ended
module _ {X : Type 0} (P : X → Type 0) (script : Script) (over : X) (known : ℕ → StepsTo X) (ended : ℕ → Bool) (end : P over) where
  abbrev Are : List (Graft X) → Type 0
  Are gs = AllByRecursion (λ g. P g.new) gs

  whole_is : (n k : ℕ) (s : Shape) (x : X) → P x → Are (whole n k s x)
  whole_is n k s x h = (h, tt)

  ends_are : (b : Bool) (gs : List (Graft X)) → Are gs → AllTo Are (both_end b gs)
  ends_are true gs h = (h, tt)
  ends_are false gs h = tt

  part_steps_are : (n k : ℕ) (ss : StepsTo X) → AllTo P ss → AllTo Are (map (λ s. (s.0, whole n k Hole s.1)) ss)
  part_steps_are n k [] all = tt
  part_steps_are n k (s ∷ ss) all = ((all.0, tt), part_steps_are n k ss all.1)

  pub steps_are_of : (n k : ℕ) (s : Shape) → ((i : ℕ) → n ≤ i → i < n + holes s → AllTo P (known i)) → AllTo Are (steps_by script over known ended n k s)
  steps_are_of n k Hole all = part_steps_are n k (known n) (all n (omega arith) (omega arith))
  steps_are_of n k (Composed c l r) all =
      let m = n + holes l in
      let keep : Keep Are (grafting_sides over n k l r) = record {
        on_left = λ t h. h;
        on_right = λ t h. h;
        together = λ t u h j. all_append (λ (g : Graft X). P g.new) t u h j;
        left_ended = whole_is n (suc k) l over end;
        right_ended = whole_is m (suc k) r over end;
      } in
      composed_all Are script c (grafting_sides over n k l r) keep (steps_by script over known ended n (suc k) l) (steps_by script over known ended m (suc k) r) (both_end (is_hole l && is_hole r && ended n && ended m) (whole n k (Composed c l r) over))
      (steps_are_of n (suc k) l (λ i lo hi. all i lo (omega (arith, hi)))) (steps_are_of m (suc k) r (λ i lo hi. all i (omega (arith, lo)) (omega (arith, hi))))
      (ends_are (is_hole l && is_hole r && ended n && ended m) (whole n k (Composed c l r) over) (whole_is n k (Composed c l r) over end))
  steps_are_of n k (Framed f s) all =
      framed_all Are script f (λ gs. gs) (whole n k (Framed f s) over) (λ gs h. h) (whole_is n k (Framed f s) over end) (steps_by script over known ended n (suc k) s) (steps_are_of n (suc k) s all)

-- what a function is at so many places, from this one on
listed : {X : Type 0} → (ℕ → X) → ℕ → ℕ → List X
listed f n zero = []
listed f n (suc c) = f n ∷ listed f (suc n) c

listed_at : {X : Type 0} (f : ℕ → X) (n c i : ℕ) (d : X) → i < c → get_or (listed f n c) i d ≡ f (n + i)
unfolding listed
listed_at f n zero i d lt = absurd (omega (arith, lt))
listed_at f n (suc c) zero d lt = ap f (let e : n ≡ n + 0 = omega arith in e)
listed_at f n (suc c) (suc i) d lt = listed_at f (suc n) c i d (omega (arith, lt)) ∙ ap f (let e : suc n + i ≡ n + suc i = omega arith in e)

module _ (script : Script) (t : Tables) (r : Row) (k : Known) (are : AreTables t) (is : IsRowIn t r) (known : IsKnownOf script t r k) where
  abbrev s : Shape
  s = shape_in t r.shape

  abbrev ps : List Process
  ps = parts_in t r.parts

  abbrev gss : StepsTo (List (Graft Row))
  gss = row_steps script t r k

  abbrev made_of : List (Graft Row) → List (Graft Process)
  made_of = grafts_of (process_of t)

  long : length ps ≡ holes s
  long = part_count t r.parts ∙ is.filled

  process_steps : ℕ → Steps
  process_steps i = leading_to (process_of t) (k.steps i)

  known_steps : List Steps
  known_steps = listed process_steps 0 (holes s)

  known_at : (i : ℕ) → i < holes s → steps_at known_steps i ≡ leading_to (process_of t) (k.steps i)
  unfolding known_steps process_steps
  known_at i lt = listed_at process_steps 0 (holes s) i [] lt ∙ ap process_steps (let e : 0 + i ≡ i = omega arith in e)

  are_known : AreKnown script s ps known_steps
  are_known i lt = subst (StepsAre script (part_at ps i)) (sym (known_at i lt)) (known.steps i lt)

  same_steps : leading_to made_of gss ≡ graft_steps script s ps known_steps
  same_steps =
      let ended : ℕ → Bool = λ i. has_ended (part_at ps i) in
      let also : ℕ → Steps = λ i. leading_to (process_of t) (k.steps i) in
      steps_made (process_of t) script k.over k.steps k.ended 0 0 s
      ∙ ap (λ (p : Process). steps_by script p also k.ended 0 0 s) known.over.is
      ∙ steps_alike script Omega also (steps_at known_steps) k.ended ended 0 0 s (λ i lo hi. let lt : i < holes s = omega (arith, hi) in (sym (known_at i lt), known.ended i lt))

  all_within : AllTo (AreGraftsIn t) gss
  all_within = steps_are_of (IsRowIn t) script k.over k.steps k.ended known.over.within 0 0 s (λ i lo hi. known.within i (omega (arith, hi)))

  same_targets : (hss : StepsTo (List (Graft Row))) → AllTo (AreGraftsIn t) hss → row_led_to t r hss ≡ led_to s ps (leading_to made_of hss)
  same_targets [] all = refl
  same_targets (h ∷ hss) all =
      ap₂ (λ (p : Process) (ss : Steps). (h.0, p) ∷ ss) (ap₂ fill (shape_made t are r h.1 all.0) (parts_made t are r h.1 all.0)) (same_targets hss all.1)

  pub row_steps_are : StepsAre script (process_of t r) (row_led_to t r gss)
  row_steps_are =
      let same = same_targets gss all_within ∙ ap (led_to s ps) same_steps in
      subst (StepsAre script (process_of t r)) (sym same) (grafts_are_steps script s ps known_steps long are_known)

  pub row_step_leads : (x : Action) (gs : List (Graft Row)) (n : ℕ) → Contains gss (x, gs) → n < length t.shapes → shape_in t n ≡ new_shape t r gs →
      IsRowOf t (fill (new_shape t r gs) (parts_in t (new_parts r gs))) (row_after n r gs) × RuleStep script (process_of t r) x (process_of t (row_after n r gs))
  row_step_leads x gs n has few numbered =
      let within : AreGraftsIn t gs = all_contained (λ (z : Action × List (Graft Row)). AreGraftsIn t z.1) gss (x, gs) all_within has in
      let told : Action × List (Graft Row) → Action × List (Graft Process) = λ z. (z.0, made_of z.1) in
      let in_steps : Contains (graft_steps script s ps known_steps) (x, made_of gs) = subst (λ (zs : StepsTo (List (Graft Process))). Contains zs (x, made_of gs)) same_steps (map_contains told gss (x, gs) has) in
      let ms = moves_from script 0 s ps known_steps in
      let in_moves : Contains (leading_to (λ d. grafts_from d 0 0 s) ms) (x, made_of gs) =
      subst (λ (zs : StepsTo (List (Graft Process))). Contains zs (x, made_of gs)) (sym (moves_as_grafts script 0 0 s ps known_steps)) in_steps
      in
      let m = map_contained (λ (z : Action × Move). (z.0, grafts_from z.1 0 0 s)) ms (x, made_of gs) in_moves in
      let is_told : made_of gs ≡ grafts_from m.0.1 0 0 s = sym (ap (λ (z : Action × List (Graft Process)). z.1) m.2) in
      let row = row_made t are r gs m.0.1 n is within is_told few numbered in
      let same : process_of t (row_after n r gs) ≡ fill (new_shape t r gs) (parts_in t (new_parts r gs)) = ap (λ (q : Shape). fill q (parts_in t (new_parts r gs))) numbered in
      let step : Action × List (Graft Row) → Action × Process = λ z. (z.0, fill (new_shape t r z.1) (parts_in t (new_parts r z.1))) in (
        record { within = row.within; is = same },
        subst (λ (p : Process). RuleStep script (process_of t r) x p) (sym same)
            ((row_steps_are x (fill (new_shape t r gs) (parts_in t (new_parts r gs)))).1 (contains_step (row_led_to t r gss) x (fill (new_shape t r gs) (parts_in t (new_parts r gs))) (map_contains step gss (x, gs) has))),
      )
