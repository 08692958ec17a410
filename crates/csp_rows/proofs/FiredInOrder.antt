-- Steps in order are exactly what firing shows of a term.
use Rattle.std.proofs.Common.{◌≡◌, List, length, map, sym, ap, ◌∙◌, subst, Contains}
use Rattle.std.specs.Prelude.{IsTrue}
use Rattle.std.specs.List.{AllByRecursion}
use Rattle.std.specs.declared.cmp.Ordering.TheVariants.{Equal}
use Rattle.theory_syntax.specs.Order.{process_cmp}
use Rattle.theory_syntax.specs.Process.{Process, Script}
use Rattle.theory_syntax.specs.Value.{Action, action_cmp, has_action}
use Rattle.theory_syntax.proofs.Equalities.{then_first, then_second}
use Rattle.theory_syntax.proofs.Orders.{action_ties}
use Rattle.theory_syntax.proofs.ProcessOrder.{process_same}
use Rattle.theory_semantics.specs.Meaning.Expansions.{IsFired, offers_cmp, step_cmp}
use Rattle.theory_semantics.specs.Meaning.Offers.{RisesBy}
use Rattle.theory_semantics.specs.Meaning.Stepping.{Steps}
use Rattle.theory_semantics.proofs.Rising.{Contains-from_stands, stands_from_Contains}
use Rattle.theory_shapes.specs.Changes as pure
use Rattle.theory_shapes.specs.Shape.{Shape, fill, holes}
use Rattle.theory_shapes.specs.ShapeSteps.{HasStepBy, IsShown, changed_by}
use Rattle.theory_shapes.proofs.Accepting.{parts_show}
use Rattle.csp_rows.specs.declared.changes.Change.{Change}
use Rattle.csp_rows.specs.declared.numbers.ActionId.{ActionId}
use Rattle.csp_rows.specs.declared.numbers.PartId.{PartId}
use Rattle.csp_rows.specs.declared.step.Step.{Step}
use Rattle.csp_rows.specs.Numbering.{IsNumbered, Numbering, action_at}
use Rattle.csp_rows.specs.Rows.{row_parts}
use Rattle.csp_rows.specs.Runs.{AreNumbered, changes_told, changing_of}
use Rattle.csp_rows.specs.InOrder.{AreActionsOf, AreInOrder, IsRowInOrder, offers_in, offers_of}
use Rattle.csp_rows.specs.Numbers.{EventsRise}
use Rattle.csp_rows.proofs.Accepting.{Exact, exact_offers, has_stands, stands_has}
use Rattle.csp_rows.proofs.Members.{all_contained, all_each, map_contained, map_contains}
use Rattle.csp_rows.proofs.OrderedNumbers.{actions_rise}
use Rattle.csp_rows.proofs.OrderedSteps.{changing_rise, numbered_rise, steps_changing, steps_numbered}

pub shown_fired : (script : Script) (t : Process) (steps : Steps) (offers : List (List Action)) → IsShown script t steps offers → RisesBy step_cmp steps → RisesBy offers_cmp offers → IsFired script t steps offers
shown_fired script t steps offers shown steps_rise offers_rise = record {
  not_stuck = shown.not_stuck;
  each_step = shown.each_step;
  steps_rise = steps_rise;
  each_offer = shown.each_offer;
  offers_rise = offers_rise;
}

-- steps that tie are the same
step_same : (p q : Action × Process) → step_cmp p q ≡ Equal → p ≡ q
step_same p q e =
    let x = action_ties p.0 q.0 (then_first (action_cmp p.0 q.0) (process_cmp p.1 q.1) e) in
    let u = process_same p.1 q.1 (then_second (action_cmp p.0 q.0) (process_cmp p.1 q.1) e) in
    λ i. (x i, u i)

-- ---- the actions of steps

module _ (z : Numbering) (pool : List Change) (steps : List Step) (actions : List ActionId) (are : AreActionsOf steps actions) where
  abbrev ms : List (Action × List pure.Change)
  ms = changing_of z pool steps

  abbrev named : Step → Action × List pure.Change
  named s = (action_at z s.action, changes_told z pool s.changes)

  pub actions_numbers : AreNumbered z.events steps → AllByRecursion (λ x. IsNumbered z.events x) actions
  actions_numbers numbered =
      all_each (λ x. IsNumbered z.events x) actions (λ x has.
      let r = (are.each x).0 has in
      subst (λ y. IsNumbered z.events y) r.2 (all_contained (λ s. IsNumbered z.events s.action) steps r.0 numbered r.1))

  pub done_from : (x : Action) → IsTrue (has_action (map (action_at z) actions) x) → HasStepBy ms x
  done_from x has =
      let all = map (action_at z) actions in
      let a = map_contained (action_at z) actions x (Contains-from_stands all x (has_stands all x has)) in
      let s = (are.each a.0).0 a.1 in
      let cs = changes_told z pool s.0.changes in
      let is : action_at z s.0.action ≡ x = ap (action_at z) s.2 ∙ a.2 in
      (cs, subst (λ y. Contains ms (y, cs)) is (map_contains named steps s.0 s.1))

  pub done_has : (x : Action) → HasStepBy ms x → IsTrue (has_action (map (action_at z) actions) x)
  done_has x (cs, has) =
      let all = map (action_at z) actions in
      let s = map_contained named steps (x, cs) has in
      let in_actions = (are.each s.0.action).1 (s.0, s.1, λ i. s.0.action) in
      let at = map_contains (action_at z) actions s.0.action in_actions in
      let is : action_at z s.0.action ≡ x = ap (λ m. m.0) s.2 in
      stands_has all x (stands_from_Contains all x (subst (λ y. Contains all y) is at))

-- what is accepted by actions in order
pub accepted_numbers : (z : Numbering) (pool : List Change) (steps : List Step) (actions : List ActionId) → EventsRise z → AreNumbered z.events steps → AreActionsOf steps actions → Exact (HasStepBy (changing_of z pool steps)) (offers_in z (offers_of actions))
accepted_numbers z pool steps actions rise numbered are =
    exact_offers (HasStepBy (changing_of z pool steps)) z actions (actions_rise z rise actions (actions_numbers z pool steps actions are numbered) are.rise)
    (λ x. (done_from z pool steps actions are x, done_has z pool steps actions are x))

-- ---- steps in order

module _ (z : Numbering) (events : EventsRise z) (s : Shape) (row : List PartId) (long : length (row_parts z row) ≡ holes s) (pool : List Change) (steps sorted : List Step) (numbered : AreNumbered z.events steps) (order : AreInOrder z row pool steps sorted) where
  abbrev parts : List Process
  parts = row_parts z row

  abbrev before : List (Action × List pure.Change)
  before = changing_of z pool steps

  abbrev after : List (Action × List pure.Change)
  after = changing_of z pool sorted

  abbrev named_step : Step → Action × List pure.Change
  named_step a = (action_at z a.action, changes_told z pool a.changes)

  abbrev target : Action × List pure.Change → Action × Process
  target m = (m.0, fill s (pure.changed m.1 parts))

  abbrev IsSmall : Step → Type 0
  IsSmall a = IsNumbered z.events a.action

  sorted_numbered : AreNumbered z.events sorted
  sorted_numbered = all_each IsSmall sorted (λ t has. all_contained IsSmall steps t numbered (order.sound t has))

  -- a step of one target for each
  kept_for : (a : Step) → Contains steps a → (t : Step) × Contains sorted t × (target (named_step a) ≡ target (named_step t))
  kept_for a has =
      let t = order.complete a has in
      let tie = steps_changing s parts long (named_step a) (named_step t.0) ∙ steps_numbered z events row pool a t.0 (all_contained IsSmall steps a numbered has) (all_contained IsSmall sorted t.0 sorted_numbered t.1) ∙ t.2 in
      (t.0, t.1, step_same (target (named_step a)) (target (named_step t.0)) tie)

  kept_step : (y : Action × Process) → Contains (changed_by s parts before) y → Contains (changed_by s parts after) y
  kept_step y has =
      let m = map_contained target before y has in
      let a = map_contained named_step steps m.0 m.1 in
      let t = kept_for a.0 a.1 in
      subst (λ w. Contains (changed_by s parts after) w) (sym t.2 ∙ ap target a.2 ∙ m.2) (map_contains target after (named_step t.0) (map_contains named_step sorted t.0 t.1))

  no_other : (m : Action × List pure.Change) → Contains after m → Contains before m
  no_other m has = let t = map_contained named_step sorted m has in subst (λ w. Contains before w) t.2 (map_contains named_step steps t.0 (order.sound t.0 t.1))

  no_other_step : (y : Action × Process) → Contains (changed_by s parts after) y → Contains (changed_by s parts before) y
  no_other_step y has = let m = map_contained target after y has in subst (λ w. Contains (changed_by s parts before) w) m.2 (map_contains target before m.0 (no_other m.0 m.1))

  steps_rise : RisesBy step_cmp (changed_by s parts after)
  steps_rise = changing_rise s parts long after (numbered_rise z events row pool sorted sorted_numbered order.rise)

  -- the same actions
  done_before : (x : Action) → HasStepBy after x → HasStepBy before x
  done_before x (cs, has) = (cs, no_other (x, cs) has)

  done_after : (x : Action) → HasStepBy before x → HasStepBy after x
  done_after x (cs, has) =
      let a = map_contained named_step steps (x, cs) has in
      let t = kept_for a.0 a.1 in
      let ds = changes_told z pool t.0.changes in
      let is : action_at z t.0.action ≡ x = sym (ap (λ w. w.0) t.2) ∙ ap (λ m. m.0) a.2 in
      (ds, subst (λ w. Contains after (w, ds)) is (map_contains named_step sorted t.0 t.1))

  sorted_offers : (actions : List ActionId) → AreActionsOf sorted actions → Exact (HasStepBy before) (offers_in z (offers_of actions))
  sorted_offers actions are =
      exact_offers (HasStepBy before) z actions (actions_rise z events actions (actions_numbers z pool sorted actions are sorted_numbered) are.rise)
      (λ x. (λ h. done_before x (done_from z pool sorted actions are x h), λ h. done_has z pool sorted actions are x (done_after x h)))

pub fired_numbers : (z : Numbering) (script : Script) (s : Shape) (row : List PartId) (known : List Steps) (pool : List Change) (steps sorted : List Step) (actions : List ActionId) → EventsRise z → IsRowInOrder z script s row known pool steps sorted actions
    → IsFired script (fill s (row_parts z row)) (changed_by s (row_parts z row) (changing_of z pool sorted)) (offers_in z (offers_of actions))
fired_numbers z script s row known pool steps sorted actions events is =
    let parts = row_parts z row in
    let long = is.covered.filled in
    let before = changing_of z pool steps in
    let after = changing_of z pool sorted in
    let offers = sorted_offers z events s row long pool steps sorted is.numbered is.order actions is.done in
    let shown = parts_show script s parts known before (offers_in z (offers_of actions)) long is.covered.fired is.covered.values is.covered.changing is.within is.targets offers.0 in
    record {
      not_stuck = shown.not_stuck;
      each_step = λ x u. (
        λ step. kept_step z events s row long pool steps sorted is.numbered is.order (x, u) ((shown.each_step x u).0 step),
        λ has. (shown.each_step x u).1 (no_other_step z events s row long pool steps sorted is.numbered is.order (x, u) has),
      );
      steps_rise = steps_rise z events s row long pool steps sorted is.numbered is.order;
      each_offer = shown.each_offer;
      offers_rise = offers.1;
    }
