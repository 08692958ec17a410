-- A step that unfolds a name adds it, and another one ends the list.
use Rattle.std.proofs.Common.{◌≡◌, ◌+◌, List, [], ◌∷◌, ◌++◌, drop, length, map, option_map, Some, sym, ◌∙◌, ap, arith}
use Rattle.std.proofs.lemmas.List.{drop_all, length-map, map-append}
use Rattle.std.proofs.lemmas.Option.{slice_get-get_or}
use Rattle.theory_syntax.proofs.Places.{get_some}
use Rattle.theory_explanation.specs.Folding.{Hiding, Other, Unfolding, kind_told, unfoldings}
use Rattle.theory_explanation.proofs.Folding.{none_at_event, none_at_other, one_more}
use Rattle.csp_moves.specs.Origin.{origin_of}
use Rattle.csp_print.proofs.Writing.{comes_to_end, goes_on_bare}
use Rattle.counterexample.specs.Counterexample.{origins_listed}
use Rattle.counterexample.specs.Folding.{equations_listed, kind_of}
use Rattle.counterexample.proofs.folding.unfoldings.Goals as goal

pub returns-in-Hiding : goal.returns-in-Hiding
returns-in-Hiding g c =
    let all = origins_listed c.args.origins.now in
    let i = c.loop-place.place in
    let x = c.index-origins-place.result in
    let at = get_some (λ p. option_map origin_of p) c.args.origins.now i x (slice_get-get_or c.args.origins.now i x c.loop-place-test.true ∙ ap Some (sym c.index-origins-place.is)) in
    let is : kind_told (option_map origin_of x) ≡ Hiding = sym c.kind_told.ensures ∙ ap kind_of c.in-Hiding.is in
    comes_to_end [] (equations_listed c.loop-place.equations.items) (unfoldings (drop i all)) (unfoldings all) c.loop-place.invariant (none_at_event all i (option_map origin_of x) at is)

pub returns-in-Other : goal.returns-in-Other
returns-in-Other g c =
    let all = origins_listed c.args.origins.now in
    let i = c.loop-place.place in
    let x = c.index-origins-place.result in
    let at = get_some (λ p. option_map origin_of p) c.args.origins.now i x (slice_get-get_or c.args.origins.now i x c.loop-place-test.true ∙ ap Some (sym c.index-origins-place.is)) in
    let is : kind_told (option_map origin_of x) ≡ Other = sym c.kind_told.ensures ∙ ap kind_of c.in-Other.is in
    comes_to_end [] (equations_listed c.loop-place.equations.items) (unfoldings (drop i all)) (unfoldings all) c.loop-place.invariant (none_at_other all i (option_map origin_of x) at is)

pub loop-place-preserved : goal.loop-place-preserved
loop-place-preserved g c =
    let all = origins_listed c.args.origins.now in
    let i = c.loop-place.place in
    let x = c.index-origins-place.result in
    let n = c.in-Unfolding.equation in
    let old = c.loop-place.equations.items in
    let at = get_some (λ p. option_map origin_of p) c.args.origins.now i x (slice_get-get_or c.args.origins.now i x c.loop-place-test.true ∙ ap Some (sym c.index-origins-place.is)) in
    let is : kind_told (option_map origin_of x) ≡ Unfolding n.0 = sym c.kind_told.ensures ∙ ap kind_of c.in-Unfolding.is in
    let put : equations_listed c.push.new.self.items ≡ equations_listed old ++ n.0 ∷ [] = ap equations_listed c.in_ok-push-in-Unfolding.ensures.items ∙ map-append (λ k. k.0) old (n ∷ []) in
    goes_on_bare (equations_listed old) (equations_listed c.push.new.self.items) (n.0 ∷ []) (unfoldings (drop i all)) (unfoldings (drop (i + 1) all)) (unfoldings all) c.loop-place.invariant
    (one_more all i (option_map origin_of x) at n.0 is) put

pub returns : goal.returns
returns g c =
    let all = origins_listed c.args.origins.now in
    let i = c.loop-place.place in
    let long = length-map c.args.origins.now (λ p. option_map origin_of p) in
    let past = c.loop-place-test.false in
    comes_to_end [] (equations_listed c.loop-place.equations.items) (unfoldings (drop i all)) (unfoldings all) c.loop-place.invariant (ap unfoldings (drop_all i all (omega (arith, long, past))))
