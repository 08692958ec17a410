-- One more origin, for one more tau.
use Rattle.std.proofs.Common.{◌≡◌, ◌+◌, [], ◌∷◌, ◌++◌, Some, length, map, option_map, replicate, slice_get, take, sym, ◌∙◌, ap, subst, inl, inr, lit≤, arith}
use Rattle.std.proofs.lemmas.List.{length-map, map-append}
use Rattle.std.proofs.lemmas.Option.{slice_get-get_or}
use Rattle.theory_syntax.proofs.Places.{get_some}
use Rattle.theory_syntax.specs.Value.{Tau}
use Rattle.theory_origins.specs.Telling.{Tells}
use Rattle.theory_explanation.specs.Counterexamples.{AreOriginsAlong}
use Rattle.csp_term.specs.Script.{script_of, script_of_parts}
use Rattle.csp_term.specs.Term.{process_of}
use Rattle.csp_moves.specs.Origin.{origin_of}
use Rattle.counterexample.specs.Counterexample.{origins_listed}
use Rattle.counterexample.proofs.Round.{in_front, round_more, round_whole}
use Rattle.counterexample.proofs.looping.origins_round.Goals as goal

pub loop-place-init : goal.loop-place-init
loop-place-init g c = λ again at. subst (λ os. AreOriginsAlong (script_of c.args.script.now) [] (take 1 (map process_of c.args.states.now ++ again ∷ [])) (origins_listed os)) (sym c.new-all.ensures.items) tt

pub lent-requires : goal.lent-requires
lent-requires g c = elim g.met.A.AllocHandle.small [ inl e ↦ rw (e.0, e.1) (search (lit≤)) | inr e ↦ rw (e.0, e.1) (search (lit≤)) ]

pub loop-place-preserved : goal.loop-place-preserved
loop-place-preserved g c = λ again at.
    let script = script_of c.args.script.now in
    let states = c.args.states.now in
    let i = c.loop-place.place in
    let s = c.index-states-place.result in
    let t = c.next_round-behind.result.now in
    let o = option_map origin_of c.in_ok-origin.origin in
    let all = c.loop-place.all.items in
    let whole = map process_of states ++ again ∷ [] in
    let here : slice_get whole i ≡ Some (process_of s) =
    in_front (map process_of states) (again ∷ []) i (process_of s) (get_some process_of states i s (slice_get-get_or states i s c.loop-place-test.true ∙ ap Some (sym c.index-states-place.is))) in
    let told : Tells script (process_of s) Tau (process_of t) o =
    subst (λ sc. Tells sc (process_of s) Tau (process_of t) o) c.parts-parts.ensures.value
    (subst (λ y. Tells (script_of_parts c.parts-parts.result.now) (process_of s) y (process_of t) o) c.lent.ensures c.in_ok-origin.ensures) in
    let pushed : origins_listed c.push.new.self.items ≡ origins_listed all ++ o ∷ [] =
    ap origins_listed c.in_ok-push.ensures.items ∙ map-append (λ p. option_map origin_of p) all (c.in_ok-origin.origin ∷ []) in
    subst (λ os. AreOriginsAlong script (replicate (i + 1) Tau) (take (i + 1 + 1) whole) os) (sym pushed)
    (round_more script whole i (origins_listed all) (process_of s) (process_of t) o here (c.next_round-behind.ensures again at) (c.loop-place.invariant again at) told)

pub returns : goal.returns
returns g c = λ again at.
    let states = map process_of c.args.states.now in
    let past = c.loop-place-test.false in
    let most = c.loop-place.auto.place-end in
    let long = length-map c.args.states.now process_of in
    let same : c.loop-place.place ≡ length states = omega (arith, past, most, long) in
    let script = script_of c.args.script.now in
    let origins = origins_listed c.loop-place.all.items in
    subst (λ k. AreOriginsAlong script (replicate k Tau) (states ++ again ∷ []) origins) long (round_whole script states again c.loop-place.place origins same (c.loop-place.invariant again at))
