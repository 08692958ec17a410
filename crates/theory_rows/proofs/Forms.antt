-- Each order stands for one form.
use Rattle.std.proofs.Common.{◌≡◌, ◌↔◌, List, [], ◌∷◌, refl, Contains}
use Rattle.std.specs.declared.cmp.Ordering.TheVariants.{Equal}
use Rattle.std.specs.Cmp.{IsTotalOrder}
use Rattle.std.proofs.lemmas.Cmp.{lists_total, on_total, then_total}
use Rattle.theory_syntax.specs.Order.{process_cmp}
use Rattle.theory_syntax.specs.Process.{Process, Script}
use Rattle.theory_syntax.specs.Value.{Action, action_cmp}
use Rattle.theory_syntax.proofs.Equalities.{then_first, then_second}
use Rattle.theory_syntax.proofs.Orders.{action_ties, action_total}
use Rattle.theory_syntax.proofs.ProcessOrder.{process_same}
use Rattle.theory_syntax.proofs.Processes.{process_total}
use Rattle.theory_semantics.specs.Meaning.Expansions.{IsFired, offers_cmp, step_cmp}
use Rattle.theory_semantics.specs.Meaning.Stepping.{Steps}
use Rattle.theory_shapes.specs.ShapeSteps.{IsShown}
use Rattle.theory_rows.specs.Arranged.{arranged}
use Rattle.theory_rows.proofs.Arranged.{arranged_members, arranged_rises, risen_same}

pub step_total : IsTotalOrder step_cmp
step_total = then_total (on_total (λ (s : Action × Process). s.0) action_total) (on_total (λ (s : Action × Process). s.1) process_total)

pub step_ties : (s t : Action × Process) → step_cmp s t ≡ Equal → s ≡ t
step_ties s t e =
    let x = action_ties s.0 t.0 (then_first (action_cmp s.0 t.0) (process_cmp s.1 t.1) e) in
    let u = process_same s.1 t.1 (then_second (action_cmp s.0 t.0) (process_cmp s.1 t.1) e) in
    λ i. (x i, u i)

pub offers_total : IsTotalOrder offers_cmp
offers_total = lists_total action_total

pub offers_ties : (xs ys : List Action) → offers_cmp xs ys ≡ Equal → xs ≡ ys
offers_ties [] [] e = refl
offers_ties [] (y ∷ ys) e = absurd (cc e)
offers_ties (x ∷ xs) [] e = absurd (cc e)
offers_ties (x ∷ xs) (y ∷ ys) e =
    let f = action_ties x y (then_first (action_cmp x y) (offers_cmp xs ys) e) in
    let g = offers_ties xs ys (then_second (action_cmp x y) (offers_cmp xs ys) e) in
    λ i. f i ∷ g i

pub steps_members : (steps : Steps) (z : Action × Process) → Contains (arranged step_cmp steps) z ↔ Contains steps z
steps_members = arranged_members step_cmp step_total step_ties

pub shown_fired : (script : Script) (t : Process) (steps : Steps) (offers : List (List Action)) → IsShown script t steps offers → IsFired script t (arranged step_cmp steps) (arranged offers_cmp offers)
shown_fired script t steps offers shown = record {
  not_stuck = shown.not_stuck;
  each_step = λ x u. (λ h. (steps_members steps (x, u)).1 ((shown.each_step x u).0 h), λ h. (shown.each_step x u).1 ((steps_members steps (x, u)).0 h));
  steps_rise = arranged_rises step_cmp step_total step_ties steps;
  each_offer = λ xs. let m = arranged_members offers_cmp offers_total offers_ties offers xs in (λ h. m.1 ((shown.each_offer xs).0 h), λ h. (shown.each_offer xs).1 (m.0 h));
  offers_rise = arranged_rises offers_cmp offers_total offers_ties offers;
}

pub one_form : (script : Script) (t : Process) (steps also : Steps) (offers more : List (List Action)) → IsFired script t steps offers → IsFired script t also more → (steps ≡ also) × (offers ≡ more)
one_form script t steps also offers more first second = (
  risen_same step_cmp step_total step_ties steps also first.steps_rise second.steps_rise (λ z h. (second.each_step z.0 z.1).0 ((first.each_step z.0 z.1).1 h)) (λ z h. (first.each_step z.0 z.1).0 ((second.each_step z.0 z.1).1 h)),
  risen_same offers_cmp offers_total offers_ties offers more first.offers_rise second.offers_rise (λ z h. (second.each_offer z).0 ((first.each_offer z).1 h)) (λ z h. (first.each_offer z).0 ((second.each_offer z).1 h)),
)
