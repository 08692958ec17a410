-- What is looked up is the state.
use Rattle.std.proofs.Common.{length, map, option_map, refl, sym, ap, ◌∙◌}
use Rattle.std.proofs.lemmas.Option.{slice_get-map, slice_get_past, slice_get_read}
use Rattle.theory_syntax.proofs.Places.{get_some}
use Rattle.csp_term.specs.Term.{process_of}
use Rattle.explanation_objects.proofs.loops.state_at.Goals as goal

pub returns-in-Some : goal.returns-in-Some
returns-in-Some g c =
    let states = c.args.states.now in
    let look = c.in-Some.ensures.lookup in
    sym (get_some process_of states c.args.place c.in-Some.state.now (slice_get_read states (length states) c.args.place c.in-Some.state.now refl look.3.0 look.1))

pub returns-in-None : goal.returns-in-None
returns-in-None g c =
    let states = c.args.states.now in
    sym (slice_get-map process_of states c.args.place ∙ ap (option_map process_of) (slice_get_past states c.args.place c.in-None.ensures.lookup.3))
