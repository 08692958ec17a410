-- One step after the other.
use Rattle.std.proofs.Common.{◌≡◌, ◌++◌, ◌∷◌, [], List, length, map, option_map, refl, sym, ◌∙◌, ap, subst, arith, rules, inl, inr, lit≤}
use Rattle.std.specs.Vec.Iter.{into_iter_items}
use Rattle.theory_origins.specs.Telling.{Tells}
use Rattle.theory_walk.specs.Moves.{AreTold, step_in}
use Rattle.csp_fire.specs.Form.{step_of}
use Rattle.csp_moves.specs.Origin.{origin_of}
use Rattle.csp_term.specs.Script.{script_of_parts}
use Rattle.csp_term.specs.Term.{process_of}
use Rattle.state_walk.specs.Walks.{moves_listed}
use Rattle.state_walk.specs.declared.menu.Move.{Move}
use Rattle.state_walk.proofs.Listing.{all_listed, all_more, none_left, told_too}
use Rattle.state_walk.proofs.menu.moves_by.Goals as goal

pub loop-step-init : goal.loop-step-init
loop-step-init g c =
    let iterator = c.into_iter-step-iterator.result in
    let gives = c.into_iter-step-iterator.ensures.into_iter_gives in
    let read : into_iter_items iterator ≡ c.args.steps.items = gives.0 in
    let script = script_of_parts c.args.script.now in
    let t = process_of c.args.term.now in
    record {
      all = ap (λ (ms : List (Move g.row.A.Denot)). map step_in (moves_listed ms) ++ map step_of (into_iter_items iterator)) c.new-moves.ensures.items ∙ ap (map step_of) read;
      told = subst (λ (ms : List (Move g.row.A.Denot)). AreTold script t (moves_listed ms)) (sym c.new-moves.ensures.items) tt;
      left = search rules;
    }

pub loop-step-preserved : goal.loop-step-preserved
loop-step-preserved g c =
    let l = c.loop-step in
    let x = c.in-Some.step in
    let script = script_of_parts c.args.script.now in
    let t = process_of c.args.term.now in
    let o = option_map origin_of c.in_ok-origin.origin in
    let m : Move g.row.A.Denot = record { action = x.action; origin = c.in_ok-origin.origin; target = x.target } in
    let after = c.push.new.self.items in
    let read : into_iter_items l.step-iterator ≡ x ∷ into_iter_items c.next.new.self = c.in-Some.ensures.steps.0 in
    let was = l.invariant.left in
    let gone = c.in-Some.ensures.steps.1 in
    let short = ap length read in
    record {
      all = all_more l.moves.items after m c.in_ok-push.ensures.items (into_iter_items l.step-iterator) (into_iter_items c.next.new.self) x (map step_of c.args.steps.items) read refl l.invariant.all;
      told = told_too l.moves.items after m c.in_ok-push.ensures.items script t l.invariant.told (subst (λ y. Tells script t y (process_of x.target) o) c.lent.ensures c.in_ok-origin.ensures);
      left = omega arith;
    }

pub returns-clause-steps : goal.returns-clause-steps
returns-clause-steps g c =
    let l = c.loop-step in
    all_listed l.moves.items (into_iter_items l.step-iterator) (map step_of c.args.steps.items) (none_left _ (sym l.invariant.left ∙ c.in-None.ensures.steps.0)) l.invariant.all

pub origin_of_step-requires : goal.origin_of_step-requires
origin_of_step-requires g c = elim g.met.A.AllocHandle.small [ inl e ↦ rw (e.0, e.1) (search (lit≤)) | inr e ↦ rw (e.0, e.1) (search (lit≤)) ]

pub array_drop-action-requires : goal.array_drop-action-requires
array_drop-action-requires g c = elim g.met.A.AllocHandle.small [ inl e ↦ rw (e.0, e.1) (search (lit≤)) | inr e ↦ rw (e.0, e.1) (search (lit≤)) ]
