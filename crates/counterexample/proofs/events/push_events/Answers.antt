-- The steps that are events are put one after the other.
use Rattle.std.proofs.Common.{◌≡◌, ℕ, ◌+◌, List, [], ◌++◌, length, map, option_map, Some, refl, sym, ◌∙◌, ap, arith}
use Rattle.std.proofs.lemmas.List.{length-map}
use Rattle.std.proofs.lemmas.Option.{slice_get-get_or, slice_get-map, slice_get_past, slice_get_read}
use Rattle.std.specs.String.{string_bytes}
use Rattle.theory_syntax.proofs.Places.{get_some}
use Rattle.csp_value.specs.Action.{action_of}
use Rattle.csp_moves.specs.Origin.{origin_of}
use Rattle.theory_explanation.specs.Legend.{legend}
use Rattle.theory_explanation.specs.PartNames as names
use Rattle.theory_explanation.specs.PartNames.{part_names_behind}
use Rattle.theory_explanation.specs.Steps.{events_text, step_line}
use Rattle.theory_explanation.proofs.Folding.{event_left, events_left, no_action_there, no_event_left, no_origin_there}
use Rattle.csp_print.specs.Names.{names_of}
use Rattle.csp_print.proofs.Writing.{comes_to_end, goes_on_bare}
use Rattle.counterexample.specs.Counterexample.{origins_listed}
use Rattle.counterexample.specs.PartNames.{part_names_listed}
use Rattle.counterexample.specs.declared.part_names.PartName.{PartName}
use Rattle.counterexample.proofs.events.push_events.Goals as goal
use Rattle.counterexample.proofs.events.push_events.Goals.{then-is_event+in_ok-push_step, else-is_event}

pub loop-place-init : goal.loop-place-init
loop-place-init g c =
    let start = string_bytes c.args.text.now in
    let left = events_left (names_of c.args.names.now) (map action_of c.args.path.now) (origins_listed c.args.origins.now) 0 in
    ap (λ (ps : List (PartName g.row.A.Denot)). start ++ left (part_names_listed ps)) c.new-parts.ensures.items

pub returns-in_default : goal.returns-in_default
returns-in_default g c =
    let script = names_of c.args.names.now in
    let path = map action_of c.args.path.now in
    let origins = origins_listed c.args.origins.now in
    let i = c.loop-place.place in
    let parts = part_names_listed c.loop-place.parts.items in
    let none = slice_get-map (λ p. option_map origin_of p) c.args.origins.now i ∙ ap (option_map (λ p. option_map origin_of p)) (slice_get_past c.args.origins.now i c.in_default.ensures.lookup.3) in
    comes_to_end (string_bytes c.args.text.now) (string_bytes c.loop-place.text) (events_left script path origins i parts) (events_text script 1 [] path origins) c.loop-place.invariant (no_origin_there script path origins i parts none)

pub loop-place-preserved : goal.loop-place-preserved
loop-place-preserved g c =
    let script = names_of c.args.names.now in
    let path = map action_of c.args.path.now in
    let origins = origins_listed c.args.origins.now in
    let i = c.loop-place.place in
    let parts = part_names_listed c.loop-place.parts.items in
    let x = c.index-path-place.result in
    let o = option_map origin_of c.in-Some.origin.now in
    let look = c.in-Some.ensures.lookup in
    let does = get_some action_of c.args.path.now i x (slice_get-get_or c.args.path.now i x c.loop-place-test.true ∙ ap Some (sym c.index-path-place.is)) in
    let told = get_some (λ p. option_map origin_of p) c.args.origins.now i c.in-Some.origin.now
    (slice_get_read c.args.origins.now (length c.args.origins.now) i c.in-Some.origin.now refl look.3.0 look.1) in
    let now = string_bytes c.loop-place.text in
    let more = part_names_behind parts o in
    let named : part_names_listed c.put_unfolded.new.parts.items ≡ more = c.in_ok-put_unfolded.ensures in
    let here = events_left script path origins i parts in
    let next = events_left script path origins (i + 1) more in
    let whole = string_bytes c.args.text.now ++ events_text script 1 [] path origins in
    let left = λ (ts : List ℕ). ap (λ (ps : List names.PartName). ts ++ events_left script path origins (i + 1) ps) named in
    elim c.if-is_event.branch [
      | then-is_event+in_ok-push_step w ↦
          let is = sym c.is_event.ensures ∙ w.if-is_event.true in
          let line = step_line (legend script parts) (i + 1) (action_of x) o [] in
          let listed = ap (λ (ps : List (PartName g.row.A.Denot)). part_names_listed ps) w.deref.ensures.value in
          let put = w.in_ok-push_step.ensures ∙ ap (λ (ps : List names.PartName). now ++ step_line (legend script ps) (i + 1) (action_of x) o []) listed in
          rw w.text-is (left (string_bytes w.push_step.new.text) ∙ goes_on_bare now (string_bytes w.push_step.new.text) line here next whole c.loop-place.invariant
          (event_left script path origins i parts (action_of x) o does told is) put)
      | else-is_event w ↦
          let is = sym c.is_event.ensures ∙ w.if-is_event.false in
          rw w.text-is (left now ∙ ap (λ ts. now ++ ts) (sym (no_event_left script path origins i parts (action_of x) o does told is)) ∙ c.loop-place.invariant)
    ]

pub returns : goal.returns
returns g c =
    let script = names_of c.args.names.now in
    let path = map action_of c.args.path.now in
    let origins = origins_listed c.args.origins.now in
    let i = c.loop-place.place in
    let parts = part_names_listed c.loop-place.parts.items in
    let long = length-map c.args.path.now action_of in
    let past = c.loop-place-test.false in
    comes_to_end (string_bytes c.args.text.now) (string_bytes c.loop-place.text) (events_left script path origins i parts) (events_text script 1 [] path origins) c.loop-place.invariant
    (no_action_there script path origins i parts (omega (arith, long, past)))
