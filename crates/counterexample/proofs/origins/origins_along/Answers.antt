-- One more origin, for one more step.
use Rattle.std.proofs.Common.{◌≡◌, ◌+◌, ◌<◌, suc, [], ◌∷◌, ◌++◌, length, map, option_map, take, sym, ◌∙◌, ap, subst, arith}
use Rattle.std.proofs.lemmas.List.{map-append}
use Rattle.theory_search.proofs.Adding.{take_whole}
use Rattle.theory_origins.specs.Telling.{Tells}
use Rattle.theory_explanation.specs.Counterexamples.{AreOriginsAlong}
use Rattle.csp_value.specs.Action.{action_of}
use Rattle.csp_term.specs.Script.{script_of, script_of_parts}
use Rattle.csp_term.specs.Term.{process_of}
use Rattle.csp_moves.specs.Origin.{origin_of}
use Rattle.counterexample.specs.Counterexample.{origins_listed}
use Rattle.counterexample.proofs.OneMore.{along_more}
use Rattle.counterexample.proofs.origins.origins_along.Goals as goal

pub loop-place-init : goal.loop-place-init
loop-place-init g c =
    let states = map process_of (take 1 c.args.states.now) in
    subst (λ os. AreOriginsAlong (script_of c.args.script.now) [] states (origins_listed os)) (sym c.new-all.ensures.items) tt

pub loop-place-preserved : goal.loop-place-preserved
loop-place-preserved g c =
    let script = script_of c.args.script.now in
    let i = c.loop-place.place in
    let x = c.index-path-place.result in
    let s = c.index-states-place.result in
    let t = c.index-states-place-in-loop-place.result in
    let o = option_map origin_of c.in_ok-origin.origin in
    let all = c.loop-place.all.items in
    let in_path : i < length c.args.path.now = c.loop-place-test.true in
    let long : length c.args.states.now ≡ suc (length c.args.path.now) = c.requires in
    let told : Tells script (process_of s) (action_of x) (process_of t) o =
    subst (λ sc. Tells sc (process_of s) (action_of x) (process_of t) o) c.parts-parts.ensures.value
    (subst (λ y. Tells (script_of_parts c.parts-parts.result.now) (process_of s) y (process_of t) o) c.lent.ensures c.in_ok-origin.ensures) in
    let pushed : origins_listed c.push.new.self.items ≡ origins_listed all ++ o ∷ [] =
    ap origins_listed c.in_ok-push.ensures.items ∙ map-append (λ p. option_map origin_of p) all (c.in_ok-origin.origin ∷ []) in
    let more = along_more script c.args.path.now c.args.states.now i x s t in_path (omega (arith, in_path, long)) (origins_listed all) o c.index-path-place.is c.index-states-place.is c.index-states-place-in-loop-place.is c.loop-place.invariant told in
    subst (λ os. AreOriginsAlong script (map action_of (take (i + 1) c.args.path.now)) (map process_of (take (i + 1 + 1) c.args.states.now)) os) (sym pushed) more

pub returns : goal.returns
returns g c =
    let script = script_of c.args.script.now in
    let i = c.loop-place.place in
    let path = c.args.path.now in
    let states = c.args.states.now in
    let past = c.loop-place-test.false in
    let long : length states ≡ suc (length path) = c.requires in
    let all = origins_listed c.loop-place.all.items in
    subst (λ us. AreOriginsAlong script (map action_of path) us all) (take_whole process_of states (i + 1) (omega (arith, past, long)))
    (subst (λ xs. AreOriginsAlong script xs (map process_of (take (i + 1) states)) all) (take_whole action_of path i past) c.loop-place.invariant)
