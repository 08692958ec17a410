-- Each assertion is explained, or the one that is asked for, if there is one.
use Rattle.std.proofs.Common.{◌≡◌, ◌<◌, ◌-◌, suc, length, ap, arith, refl}
use Rattle.std.proofs.lemmas.List.{length-map}
use Rattle.csp_term.specs.Script.{assertion_of, script_of}
use Rattle.program.specs.Given.{sent}
use Rattle.explain_program.specs.Asking.{request_of}
use Rattle.explain_program.specs.Explaining.{StopsBy}
use Rattle.named_scripts.specs.Naming.{labels_of}
use Rattle.explain_program.specs.declared.stop.Stop.{Stop}
use Rattle.explain_program.proofs.Stopping.{asked_told, handed, stops_in_one}
use Rattle.explain_program.proofs.explaining.explain_script.Goals as goal

pub returns-then-count-place-clause-stopped : goal.returns-then-count-place-clause-stopped
returns-then-count-place-clause-stopped g c =
    let whole = ap length c.assertions-count.ensures.value in
    let mapped = length-map c.assertions-count.result.now assertion_of in
    (omega (arith, whole, mapped), refl)

pub explain_one-requires-clause-there : goal.explain_one-requires-clause-there
explain_one-requires-clause-there g c =
    let whole = ap length c.assertions-count.ensures.value in
    let mapped = length-map c.assertions-count.result.now assertion_of in
    omega (arith, whole, mapped)

pub returns-clause-told : goal.returns-clause-told
returns-clause-told g c =
    let request = request_of c.args.settings.now in
    let script = script_of c.args.named.now.script in
    let labels = labels_of c.args.named.now in
    let place = c.args.settings.now.assertion - 1 in
    let whole = ap length c.assertions-count.ensures.value in
    let mapped = length-map c.assertions-count.result.now assertion_of in
    let within : place < length script.assertions = omega (arith, whole, mapped) in
    let one : request.number ≡ suc place = omega arith in
    let out = c.explain_one.new.out in (
      c.in_ok-explain_one.ensures.told.0,
      asked_told request script labels (sent g.O.Sink.taken g.O.Sink.has_failed c.args.out.now out) c.in_ok-explain_one.field-0 place one within c.in_ok-explain_one.ensures.told.1,
    )

pub returns-in_err-explain_one-clause-stopped : goal.returns-in_err-explain_one-clause-stopped
returns-in_err-explain_one-clause-stopped g c =
    let request = request_of c.args.settings.now in
    let script = script_of c.args.named.now.script in
    let labels = labels_of c.args.named.now in
    let place = c.args.settings.now.assertion - 1 in
    let one : request.number ≡ suc place = omega arith in
    let out = c.explain_one.new.out in
    let S : Stop → Type 0 = λ why. StopsBy request script labels why (sent g.O.Sink.taken g.O.Sink.has_failed c.args.out.now out) in
    handed c.from_residual.result S c.from_residual.ensures
    (stops_in_one request script labels c.in_err-explain_one.field-0.0 g.O.Sink.taken g.O.Sink.has_failed c.args.out.now out place c.requires one c.in_err-explain_one.ensures.left)
