-- The text of the graph of the side that is asked for.
use Rattle.std.proofs.Common.{◌≡◌, ◌∙◌, ◌<◌, ◌≤◌, ◌-◌, ℕ, suc, Option, Some, length, map, sym, ap, arith, inl, inr, lit<}
use Rattle.std.specs.Prelude.{option_map}
use Rattle.std.proofs.lemmas.List.{length-map}
use Rattle.theory_unfolding.specs.Assertions.{settled_assertion}
use Rattle.csp_term.specs.Script.{HasSidesOf, assertion_of, script_of}
use Rattle.csp_term.specs.Term.{process_of}
use Rattle.program.proofs.Answering.{sides_at}
use Rattle.state_graph.specs.Graphs.{graph_of}
use Rattle.graph_program.specs.Asking.{request_of, side_of}
use Rattle.graph_program.specs.Stops.{IsStopIn}
use Rattle.graph_program.proofs.Sides.{is_start, is_term, lacks_side, none_of}
use Rattle.graph_program.proofs.Stopping.{handed}
use Rattle.graph_program.proofs.asking.asked_text.Goals as goal

pub graph_of-requires : goal.graph_of-requires
graph_of-requires g c =
    let request = request_of c.args.settings.now in
    let script = script_of c.args.script.now in
    let items = c.assertions-assertions.result.now in
    let place = c.args.settings.now.assertion - 1 in
    let whole = ap length c.assertions-assertions.ensures.value in
    let mapped = length-map items assertion_of in
    let within : place < length items = omega (arith, whole, mapped) in
    let number : request.number ≡ suc place = omega arith in
    let written = c.index-assertions-place.result in
    let asked = assertion_of c.in_ok-asked.asked in
    let is : asked ≡ settled_assertion script (assertion_of written) = c.in_ok-asked.ensures ∙ ap (λ s. settled_assertion s (assertion_of written)) c.parts.ensures.value in
    let side : side_of request.specification asked ≡ Some (process_of c.in-Some.start.now) = sym c.side_of.ensures ∙ ap (option_map (λ t. process_of t.now)) c.in-Some.is in
    let sides = sides_at assertion_of (HasSidesOf script) script items place written c.assertions-assertions.ensures.sides within c.index-assertions-place.is (λ b both. record { specification = both.0; implementation = both.1 }) in
    record { closed = is_term assertion_of request script items place written asked c.assertions-assertions.ensures.value number within c.index-assertions-place.is is (process_of c.in-Some.start.now) side sides }

pub returns-in_default-clause-why : goal.returns-in_default-clause-why
returns-in_default-clause-why g c =
    let request = request_of c.args.settings.now in
    let script = script_of c.args.script.now in
    let items = c.assertions-assertions.result.now in
    let place = c.args.settings.now.assertion - 1 in
    let whole = ap length c.assertions-assertions.ensures.value in
    let mapped = length-map items assertion_of in
    let within : place < length items = omega (arith, whole, mapped) in
    let number : request.number ≡ suc place = omega arith in
    let written = c.index-assertions-place.result in
    let asked = assertion_of c.in_ok-asked.asked in
    let is : asked ≡ settled_assertion script (assertion_of written) = c.in_ok-asked.ensures ∙ ap (λ s. settled_assertion s (assertion_of written)) c.parts.ensures.value in
    lacks_side assertion_of request script items place written asked c.assertions-assertions.ensures.value number within c.index-assertions-place.is is (sym c.side_of.ensures ∙ none_of (λ t. process_of t.now) c.side_of.result c.in_default.not-Some)

pub returns-clause-text : goal.returns-clause-text
returns-clause-text g c =
    let request = request_of c.args.settings.now in
    let script = script_of c.args.script.now in
    let items = c.assertions-assertions.result.now in
    let place = c.args.settings.now.assertion - 1 in
    let whole = ap length c.assertions-assertions.ensures.value in
    let mapped = length-map items assertion_of in
    let within : place < length items = omega (arith, whole, mapped) in
    let number : request.number ≡ suc place = omega arith in
    let written = c.index-assertions-place.result in
    let asked = assertion_of c.in_ok-asked.asked in
    let is : asked ≡ settled_assertion script (assertion_of written) = c.in_ok-asked.ensures ∙ ap (λ s. settled_assertion s (assertion_of written)) c.parts.ensures.value in
    let side : side_of request.specification asked ≡ Some (process_of c.in-Some.start.now) = sym c.side_of.ensures ∙ ap (option_map (λ t. process_of t.now)) c.in-Some.is in
    let kept : length (graph_of c.in_ok-graph.graph).states ≡ length c.in_ok-graph.graph.states.keys = length-map c.in_ok-graph.graph.states.keys _ in
    let few = c.in_ok-graph.ensures.few in
    record {
      start = process_of c.in-Some.start.now;
      asked = is_start assertion_of request script items place written asked c.assertions-assertions.ensures.value number within c.index-assertions-place.is is (process_of c.in-Some.start.now) side;
      graph = graph_of c.in_ok-graph.graph;
      is_graph = c.in_ok-graph.ensures.graph;
      few = omega (arith, kept, few);
      told = c.in_ok-text.ensures;
    }

pub returns-in_err-graph-clause-why : goal.returns-in_err-graph-clause-why
returns-in_err-graph-clause-why g c =
    let request = request_of c.args.settings.now in
    let script = script_of c.args.script.now in
    let items = c.assertions-assertions.result.now in
    let place = c.args.settings.now.assertion - 1 in
    let whole = ap length c.assertions-assertions.ensures.value in
    let mapped = length-map items assertion_of in
    let within : place < length items = omega (arith, whole, mapped) in
    let number : request.number ≡ suc place = omega arith in
    let written = c.index-assertions-place.result in
    let asked = assertion_of c.in_ok-asked.asked in
    let is : asked ≡ settled_assertion script (assertion_of written) = c.in_ok-asked.ensures ∙ ap (λ s. settled_assertion s (assertion_of written)) c.parts.ensures.value in
    let side : side_of request.specification asked ≡ Some (process_of c.in-Some.start.now) = sym c.side_of.ensures ∙ ap (option_map (λ t. process_of t.now)) c.in-Some.is in
    handed c.from_residual-in_err-graph.result (IsStopIn request script) c.from_residual-in_err-graph.ensures
    (record { start = process_of c.in-Some.start.now; asked = is_start assertion_of request script items place written asked c.assertions-assertions.ensures.value number within c.index-assertions-place.is is (process_of c.in-Some.start.now) side; reason = c.in_err-graph.ensures.why })

pub drop-graph-requires-in_err-text-4-room-T-Destruct : goal.drop-graph-requires-in_err-text-4-room-T-Destruct
drop-graph-requires-in_err-text-4-room-T-Destruct g c κs within =
    elim g.met.A.AllocHandle.small [
      | inl e ↦ rw (e.0, e.1) (lit< tt)
      | inr e ↦ rw (e.0, e.1) (lit< tt)
    ]

pub drop-graph-requires-6-room-T-Destruct : goal.drop-graph-requires-6-room-T-Destruct
drop-graph-requires-6-room-T-Destruct g c κs within =
    elim g.met.A.AllocHandle.small [
      | inl e ↦ rw (e.0, e.1) (lit< tt)
      | inr e ↦ rw (e.0, e.1) (lit< tt)
    ]
