-- The walk begins with the side that is asked for.
use Rattle.std.proofs.Common.{◌≡◌, ◌∙◌, ◌<◌, ◌-◌, suc, Some, length, map, sym, ap, arith, refl}
use Rattle.std.specs.Prelude.{option_map}
use Rattle.std.proofs.lemmas.List.{length-map}
use Rattle.theory_unfolding.specs.Assertions.{settled_assertion}
use Rattle.csp_term.specs.Script.{HasSidesOf, assertion_of, script_of}
use Rattle.csp_term.specs.Term.{process_of}
use Rattle.program.proofs.Answering.{sides_at}
use Rattle.walk_program.specs.Asking.{request_of, side_of}
use Rattle.walk_program.proofs.Sides.{is_start, is_term, lacks_side, none_of}
use Rattle.walk_program.proofs.asking.walk_asked.Goals as goal

pub walk_from-requires-clause-asked : goal.walk_from-requires-clause-asked
walk_from-requires-clause-asked g c =
    let request = request_of c.args.settings.now in
    let script = script_of c.args.named.now.script in
    let items = c.assertions-assertions.result.now in
    let place = c.args.settings.now.assertion - 1 in
    let whole = ap length c.assertions-assertions.ensures.value in
    let mapped = length-map items assertion_of in
    let within : place < length items = omega (arith, whole, mapped) in
    let number : request.number ≡ suc place = omega arith in
    let written = c.index-assertions-place.result in
    let asked = assertion_of c.in_ok-asked.asked in
    let is : asked ≡ settled_assertion script (assertion_of written) = c.in_ok-asked.ensures ∙ ap (λ s. settled_assertion s (assertion_of written)) c.parts.ensures.value in
    let side : side_of request.specification asked ≡ Some (process_of c.in-Some.start.now) = sym c.side_of.ensures ∙ ap (option_map (λ t. process_of t.now)) c.in-Some.is in
    is_start assertion_of request script items place written asked c.assertions-assertions.ensures.value number within c.index-assertions-place.is is (process_of c.in-Some.start.now) side

pub walk_from-requires-clause-closed : goal.walk_from-requires-clause-closed
walk_from-requires-clause-closed g c =
    let request = request_of c.args.settings.now in
    let script = script_of c.args.named.now.script in
    let items = c.assertions-assertions.result.now in
    let place = c.args.settings.now.assertion - 1 in
    let whole = ap length c.assertions-assertions.ensures.value in
    let mapped = length-map items assertion_of in
    let within : place < length items = omega (arith, whole, mapped) in
    let number : request.number ≡ suc place = omega arith in
    let written = c.index-assertions-place.result in
    let asked = assertion_of c.in_ok-asked.asked in
    let is : asked ≡ settled_assertion script (assertion_of written) = c.in_ok-asked.ensures ∙ ap (λ s. settled_assertion s (assertion_of written)) c.parts.ensures.value in
    let side : side_of request.specification asked ≡ Some (process_of c.in-Some.start.now) = sym c.side_of.ensures ∙ ap (option_map (λ t. process_of t.now)) c.in-Some.is in
    let sides = sides_at assertion_of (HasSidesOf script) script items place written c.assertions-assertions.ensures.sides within c.index-assertions-place.is (λ b both. record { specification = both.0; implementation = both.1 }) in
    is_term assertion_of request script items place written asked c.assertions-assertions.ensures.value number within c.index-assertions-place.is is (process_of c.in-Some.start.now) side sides

pub returns-in_default-clause-stopped : goal.returns-in_default-clause-stopped
returns-in_default-clause-stopped g c =
    let request = request_of c.args.settings.now in
    let script = script_of c.args.named.now.script in
    let items = c.assertions-assertions.result.now in
    let place = c.args.settings.now.assertion - 1 in
    let whole = ap length c.assertions-assertions.ensures.value in
    let mapped = length-map items assertion_of in
    let within : place < length items = omega (arith, whole, mapped) in
    let number : request.number ≡ suc place = omega arith in
    let written = c.index-assertions-place.result in
    let asked = assertion_of c.in_ok-asked.asked in
    let is : asked ≡ settled_assertion script (assertion_of written) = c.in_ok-asked.ensures ∙ ap (λ s. settled_assertion s (assertion_of written)) c.parts.ensures.value in (
      lacks_side assertion_of request script items place written asked c.assertions-assertions.ensures.value number within c.index-assertions-place.is is (sym c.side_of.ensures ∙ none_of (λ t. process_of t.now) c.side_of.result c.in_default.not-Some),
      refl,
    )
