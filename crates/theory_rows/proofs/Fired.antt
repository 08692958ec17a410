-- A row whose parts were fired is fired by them.
use Rattle.std.proofs.Common.{◌≡◌, ◌↔◌, ◌+◌, ◌<◌, ℕ, suc, max, List, [], ◌∷◌, None, length, ap, subst, ◌∙◌, arith, Contains}
use Rattle.std.specs.Prelude.{IsTrue, IsFalse}
use Rattle.std.specs.List.{AllByRecursion, sum_by}
use Rattle.theory_syntax.specs.Value.{Action}
use Rattle.theory_syntax.specs.Process.{Process, Script}
use Rattle.theory_semantics.specs.Laws.Statements.{StepsAre}
use Rattle.theory_semantics.specs.Meaning.Faults.{cause_in}
use Rattle.theory_semantics.specs.Meaning.Limits.{depth, fits, size}
use Rattle.theory_semantics.specs.Meaning.Stepping.{Steps}
use Rattle.theory_semantics.specs.Meaning.Transitions.{IsLarge, IsNotStuck, RuleStep, by_step}
use Rattle.theory_spelling.specs.Spelling.{spelling}
use Rattle.theory_shapes.specs.Measures.{deepest, levels, own_depth, own_size}
use Rattle.theory_shapes.specs.Pieces.{in_turn, part_run, pieces}
use Rattle.theory_shapes.specs.Shape.{Shape, fill, holes, part_at}
use Rattle.theory_shapes.proofs.ByParts.{causes_by_parts}
use Rattle.theory_shapes.proofs.Fired.{contains_step, step_contained}
use Rattle.theory_shapes.proofs.Measured.{depth_by_parts, size_by_parts}
use Rattle.theory_shapes.proofs.Spelled.{spelled_whole}
use Rattle.csp_rows.proofs.Members.{all_contained, map_contained, map_contains}
use Rattle.theory_rows.specs.Tables.{IsRowIn, Row, Tables, parts_in, process_of, shape_in}
use Rattle.theory_rows.specs.Grafts.{Graft}
use Rattle.theory_rows.specs.Targets.{Known, new_parts, new_shape, row_led_to, row_steps}
use Rattle.theory_rows.specs.Fired.{IsRowFired, TargetsFit}
use Rattle.theory_rows.proofs.Rows.{part_count}
use Rattle.theory_rows.proofs.Targets.{row_steps_are}

all_at : (P : Process → Type 0) (parts : List Process) → ((i : ℕ) → i < length parts → P (part_at parts i)) → AllByRecursion P parts
all_at P [] each = tt
all_at P (p ∷ ps) each = (each 0 (omega arith), all_at P ps (λ i lt. each (suc i) (omega (arith, lt))))

module _ (script : Script) (t : Tables) (r : Row) (k : Known) (fired : IsRowFired script t r k) where
  abbrev s : Shape
  s = shape_in t r.shape

  abbrev ps : List Process
  ps = parts_in t r.parts

  abbrev steps : Steps
  steps = row_led_to t r (row_steps script t r k)

  abbrev target : Action × List (Graft Row) → Action × Process
  target g = (g.0, fill (new_shape t r g.1) (parts_in t (new_parts r g.1)))

  long : length ps ≡ holes s
  long = part_count t r.parts ∙ fired.row.filled

  clear : cause_in script (process_of t r) ≡ None
  clear = (causes_by_parts script s ps long).1 (fired.values, all_at (λ p. cause_in script p ≡ None) ps (λ i within. (fired.parts i (omega (arith, within, long))).no_cause))

  exactly : StepsAre script (process_of t r) steps
  exactly = row_steps_are script t r k fired.tables fired.row fired.known

  pub fired_within : TargetsFit t r (row_steps script t r k) → IsNotStuck script (process_of t r) × ((x : Action) (u : Process) → RuleStep script (process_of t r) x u ↔ Contains steps (x, u))
  fired_within all =
      let each : (x : Action) (u : Process) → RuleStep script (process_of t r) x u ↔ Contains steps (x, u) =
      λ x u. (λ step. step_contained steps x u ((exactly x u).0 step), λ h. (exactly x u).1 (contains_step steps x u h))
      in (
        record {
          within = fired.within;
          no_cause = clear;
          targets = λ x u step.
              let g = map_contained target (row_steps script t r k) (x, u) ((each x u).0 step) in
              subst (λ (p : Process). IsTrue (fits p)) (ap (λ (z : Action × Process). z.1) g.2) (all_contained (λ (z : Action × List (Graft Row)). IsTrue (fits (target z).1)) (row_steps script t r k) g.0 all g.1);
        },
        each,
      )

  pub fired_past : (x : Action) (gs : List (Graft Row)) → Contains (row_steps script t r k) (x, gs) → IsFalse (fits (fill (new_shape t r gs) (parts_in t (new_parts r gs)))) → IsLarge script (process_of t r)
  fired_past x gs has past =
      let u = fill (new_shape t r gs) (parts_in t (new_parts r gs)) in
      by_step clear (x, u, (exactly x u).1 (contains_step steps x u (map_contains target (row_steps script t r k) (x, gs) has)), past)

-- ---- what a row measures, and how it is spelled

pub row_size : (t : Tables) (r : Row) → IsRowIn t r → size (process_of t r) ≡ own_size (shape_in t r.shape) + sum_by size (parts_in t r.parts)
row_size t r is = size_by_parts (shape_in t r.shape) (parts_in t r.parts) (part_count t r.parts ∙ is.filled)

pub row_depth : (t : Tables) (r : Row) → IsRowIn t r → depth (process_of t r) ≡ max (own_depth (shape_in t r.shape)) (deepest (levels (shape_in t r.shape)) (parts_in t r.parts))
row_depth t r is = depth_by_parts (shape_in t r.shape) (parts_in t r.parts) (part_count t r.parts ∙ is.filled)

pub row_spelled : (t : Tables) (r : Row) → spelling (process_of t r) ≡ in_turn 0 (pieces (shape_in t r.shape)) (part_run (parts_in t r.parts))
row_spelled t r = spelled_whole (shape_in t r.shape) (parts_in t r.parts)
