-- One tau is put behind the other.
use Rattle.std.proofs.Common.{◌≡◌, ◌+◌, ◌<◌, ◌≤◌, List, [], ◌∷◌, ◌++◌, Some, None, length, map, option_map, take, drop, replicate, slice_get, add-one, refl, sym, ap, ◌∙◌, arith}
use Rattle.std.proofs.lemmas.List.{length-map, length-replicate}
use Rattle.std.proofs.lemmas.Option.{slice_get-map, slice_get_past, slice_get_read}
use Rattle.theory_syntax.specs.Value.{Tau}
use Rattle.theory_syntax.proofs.Places.{get_some}
use Rattle.theory_objects.specs.Accounts.{Step, step_fields, taus_of}
use Rattle.csp_term.specs.Term.{process_of}
use Rattle.csp_moves.specs.Origin.{origin_of}
use Rattle.csp_print.specs.Names.{names_of}
use Rattle.counterexample.specs.Counterexample.{origins_listed}
use Rattle.explanation_objects.specs.Putting.{object_tokens, objects_tokens}
use Rattle.explanation_objects.specs.Steps.{loop_through, term_found}
use Rattle.explanation_objects.proofs.Putting.{comes_to_end, goes_on}
use Rattle.explanation_objects.proofs.StepsAt.{no_action_at, no_origin_at, no_state_at, step_at, tau_at}
use Rattle.explanation_objects.proofs.loops.put_each_tau.Goals as goal

pub returns-in_default : goal.returns-in_default
returns-in_default g c =
    let states = map process_of c.args.states.now in
    let origins = c.args.origins.now in
    let i = c.loop-place.place in
    let taus = taus_of (loop_through c.args.states.now c.args.back origins) in
    let left = λ (ss : List Step). objects_tokens (map (step_fields (names_of c.args.names.now)) ss) in
    let none = sym c.state_behind-next.ensures ∙ ap term_found c.in_default.is in
    comes_to_end c.args.writer.now c.loop-place.writer (left (drop i taus)) (left taus) c.loop-place.invariant
    (ap left (no_state_at (replicate (length states) Tau) (drop 1 states ++ take 1 (drop c.args.back states)) (origins_listed origins) i none))

pub returns-in_default-found : goal.returns-in_default-found
returns-in_default-found g c =
    let states = map process_of c.args.states.now in
    let origins = c.args.origins.now in
    let i = c.loop-place.place in
    let taus = taus_of (loop_through c.args.states.now c.args.back origins) in
    let left = λ (ss : List Step). objects_tokens (map (step_fields (names_of c.args.names.now)) ss) in
    let none = slice_get-map (λ p. option_map origin_of p) origins i ∙ ap (option_map (λ p. option_map origin_of p)) (slice_get_past origins i c.in_default-found.ensures.lookup.3) in
    comes_to_end c.args.writer.now c.loop-place.writer (left (drop i taus)) (left taus) c.loop-place.invariant
    (ap left (no_origin_at (replicate (length states) Tau) (drop 1 states ++ take 1 (drop c.args.back states)) (origins_listed origins) i none))

pub loop-place-preserved : goal.loop-place-preserved
loop-place-preserved g c =
    let states = map process_of c.args.states.now in
    let origins = c.args.origins.now in
    let i = c.loop-place.place in
    let names = names_of c.args.names.now in
    let taus = taus_of (loop_through c.args.states.now c.args.back origins) in
    let t = process_of c.in-Some.state.now in
    let o = c.in-Some-found.origin.now in
    let look = c.in-Some-found.ensures.lookup in
    let inside = c.loop-place-test.true in
    let long = length-map c.args.states.now process_of in
    let low : i < length states = omega (arith, inside, long) in
    let does = tau_at (length states) i low in
    let stands = sym c.state_behind-next.ensures ∙ ap term_found c.in-Some.is in
    let from = get_some (λ p. option_map origin_of p) origins i o (slice_get_read origins (length origins) i o refl look.3.0 look.1) in
    let step : Step = record { action = Tau; state = t; origin = option_map origin_of o } in
    let first : drop i taus ≡ step ∷ drop (i + 1) taus = rw add-one (step_at (replicate (length states) Tau) (drop 1 states ++ take 1 (drop c.args.back states)) (origins_listed origins) i Tau t (option_map origin_of o) does stands from) in
    let left = λ (ss : List Step). objects_tokens (map (step_fields names) ss) in
    goes_on c.args.writer.now c.loop-place.writer c.put_tau.new.writer (object_tokens (step_fields names step)) (left (drop i taus)) (left (drop (i + 1) taus)) (left taus) c.loop-place.invariant (ap left first) c.in_ok-put_tau.ensures

pub returns : goal.returns
returns g c =
    let states = map process_of c.args.states.now in
    let origins = c.args.origins.now in
    let i = c.loop-place.place in
    let taus = taus_of (loop_through c.args.states.now c.args.back origins) in
    let left = λ (ss : List Step). objects_tokens (map (step_fields (names_of c.args.names.now)) ss) in
    let actions = replicate (length states) Tau in
    let past = c.loop-place-test.false in
    let long = length-map c.args.states.now process_of in
    let many = length-replicate (length states) Tau in
    let over : length actions ≤ i = omega (arith, past, long, many) in
    comes_to_end c.args.writer.now c.loop-place.writer (left (drop i taus)) (left taus) c.loop-place.invariant
    (ap left (no_action_at actions (drop 1 states ++ take 1 (drop c.args.back states)) (origins_listed origins) i (slice_get_past actions i over)))
