-- The next state, or the one that the last tau leads back to.
use Rattle.std.proofs.Common.{◌≡◌, ◌+◌, ◌<◌, Some, length, map, refl, sym, ◌∙◌, arith}
use Rattle.std.proofs.lemmas.List.{length-map}
use Rattle.std.proofs.lemmas.Option.{slice_get_read}
use Rattle.theory_syntax.proofs.Places.{get_some}
use Rattle.csp_term.specs.Term.{process_of}
use Rattle.explanation_objects.proofs.StepsAt.{back_at, next_at}
use Rattle.explanation_objects.proofs.loops.state_behind.Goals as goal

pub returns-in-Some : goal.returns-in-Some
returns-in-Some g c =
    let states = c.args.states.now in
    let i = c.args.place in
    let look = c.in-Some.ensures.lookup in
    let inside = look.3.0 in
    let long = length-map states process_of in
    let low : i + 1 < length (map process_of states) = omega (arith, inside, long) in
    let there = get_some process_of states (i + 1) c.in-Some.next.now (slice_get_read states (length states) (i + 1) c.in-Some.next.now refl inside look.1) in
    sym (next_at (map process_of states) c.args.back i low ∙ there)

pub returns-in-None : goal.returns-in-None
returns-in-None g c =
    let states = c.args.states.now in
    let i = c.args.place in
    let past = c.in-None.ensures.lookup.3 in
    let low = c.requires in
    let long = length-map states process_of in
    let end : i + 1 ≡ length (map process_of states) = omega (arith, past, low, long) in
    c.state_at.ensures ∙ sym (back_at (map process_of states) c.args.back i end)
