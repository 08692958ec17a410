-- One step is put behind the other.
use Rattle.std.proofs.Common.{◌≡◌, ◌+◌, List, [], ◌∷◌, Some, length, map, option_map, drop, add-one, refl, sym, ap, ◌∙◌, inl, inr, lit≤, lit<}
use Rattle.std.proofs.lemmas.Option.{slice_get-get_or, slice_get-map, slice_get_past, slice_get_read}
use Rattle.theory_syntax.proofs.Places.{get_some}
use Rattle.theory_objects.specs.Accounts.{Step, step_fields}
use Rattle.csp_value.specs.Action.{action_of}
use Rattle.csp_term.specs.Term.{process_of}
use Rattle.csp_moves.specs.Origin.{origin_of}
use Rattle.csp_print.specs.Names.{names_of}
use Rattle.counterexample.specs.Counterexample.{origins_listed}
use Rattle.explanation_objects.specs.Putting.{object_tokens, objects_tokens}
use Rattle.explanation_objects.specs.Steps.{step_of, steps_of}
use Rattle.explanation_objects.proofs.Putting.{comes_to_end, goes_on}
use Rattle.explanation_objects.proofs.StepsAt.{no_action_at, no_origin_at, no_state_at, step_at}
use Rattle.explanation_objects.proofs.steps.put_each_step.Goals as goal

pub returns-in_default : goal.returns-in_default
returns-in_default g c =
    let path = c.args.path.now in
    let states = c.args.states.now in
    let origins = c.args.origins.now in
    let i = c.loop-place.place in
    let steps = steps_of path states origins in
    let left = λ (ss : List Step). objects_tokens (map (step_fields (names_of c.args.names.now)) ss) in
    let none = slice_get-map process_of states i ∙ ap (option_map process_of) (slice_get_past states i c.in_default.ensures.lookup.3) in
    comes_to_end c.args.writer.now c.loop-place.writer (left (drop i steps)) (left steps) c.loop-place.invariant (ap left (no_state_at (map action_of path) (map process_of states) (origins_listed origins) i none))

pub returns-in_default-found : goal.returns-in_default-found
returns-in_default-found g c =
    let path = c.args.path.now in
    let states = c.args.states.now in
    let origins = c.args.origins.now in
    let i = c.loop-place.place in
    let steps = steps_of path states origins in
    let left = λ (ss : List Step). objects_tokens (map (step_fields (names_of c.args.names.now)) ss) in
    let none = slice_get-map (λ p. option_map origin_of p) origins i ∙ ap (option_map (λ p. option_map origin_of p)) (slice_get_past origins i c.in_default-found.ensures.lookup.3) in
    comes_to_end c.args.writer.now c.loop-place.writer (left (drop i steps)) (left steps) c.loop-place.invariant (ap left (no_origin_at (map action_of path) (map process_of states) (origins_listed origins) i none))

pub loop-place-preserved : goal.loop-place-preserved
loop-place-preserved g c =
    let path = c.args.path.now in
    let states = c.args.states.now in
    let origins = c.args.origins.now in
    let i = c.loop-place.place in
    let names = names_of c.args.names.now in
    let steps = steps_of path states origins in
    let x = c.index-path-place.result in
    let t = c.in-Some.state.now in
    let o = c.in-Some-found.origin.now in
    let next = c.in-Some.ensures.lookup in
    let look = c.in-Some-found.ensures.lookup in
    let does = get_some action_of path i x (slice_get-get_or path i x c.loop-place-test.true ∙ ap Some (sym c.index-path-place.is)) in
    let stands = get_some process_of states i t (slice_get_read states (length states) i t refl next.3.0 next.1) in
    let from = get_some (λ p. option_map origin_of p) origins i o (slice_get_read origins (length origins) i o refl look.3.0 look.1) in
    let first : drop i steps ≡ step_of x t o ∷ drop (i + 1) steps = rw add-one (step_at (map action_of path) (map process_of states) (origins_listed origins) i (action_of x) (process_of t) (option_map origin_of o) does stands from) in
    let left = λ (ss : List Step). objects_tokens (map (step_fields names) ss) in
    goes_on c.args.writer.now c.loop-place.writer c.put_step.new.writer (object_tokens (step_fields names (step_of x t o))) (left (drop i steps)) (left (drop (i + 1) steps)) (left steps) c.loop-place.invariant (ap left first) c.in_ok-put_step.ensures

pub returns : goal.returns
returns g c =
    let path = c.args.path.now in
    let states = c.args.states.now in
    let origins = c.args.origins.now in
    let i = c.loop-place.place in
    let steps = steps_of path states origins in
    let left = λ (ss : List Step). objects_tokens (map (step_fields (names_of c.args.names.now)) ss) in
    let none = slice_get-map action_of path i ∙ ap (option_map action_of) (slice_get_past path i c.loop-place-test.false) in
    comes_to_end c.args.writer.now c.loop-place.writer (left (drop i steps)) (left steps) c.loop-place.invariant (ap left (no_action_at (map action_of path) (map process_of states) (origins_listed origins) i none))
