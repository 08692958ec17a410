-- One explanation after the other.
use Rattle.std.proofs.Common.{◌≡◌, ◌<◌, ◌≤◌, ℕ, suc, ◌+◌, length, max, ap, subst, ◌∙◌, arith, cond, refl, take}
use Rattle.std.specs.declared.cmp.Ordering.{Ordering}
use Rattle.std.specs.declared.cmp.Ordering.TheVariants.{Less, Equal, Greater}
use Rattle.std.specs.Ordering.{MatchOrdering, is_lt, nat_cmp, ord_max}
use Rattle.std.proofs.lemmas.Cmp.{ranked}
use Rattle.std.proofs.lemmas.List.{length-map}
use Rattle.csp_term.specs.Script.{assertion_of, script_of}
use Rattle.program.specs.Given.{sent}
use Rattle.explain_program.specs.Asking.{request_of}
use Rattle.explain_program.specs.Giving.{AreTold, GoesOut}
use Rattle.explain_program.proofs.Tellings.{none_out, none_told, one_more}
use Rattle.program.proofs.Reporting.{status_at_most}
use Rattle.explain_program.specs.Explaining.{StopsBy}
use Rattle.named_scripts.specs.Naming.{labels_of}
use Rattle.explain_program.specs.declared.stop.Stop.{Stop}
use Rattle.explain_program.proofs.Stopping.{all_told, handed, stops_in_all}
use Rattle.explain_program.proofs.explaining.explain_each.Goals as goal

-- what `max` answers of two numbers
chosen : (a b : ℕ) (o : Ordering) → MatchOrdering o (b < a) (b ≡ a) (a < b) → cond (is_lt o) a b ≡ max a b
chosen a b Less told = omega (arith, told)
chosen a b Equal told = omega (arith, told)
chosen a b Greater told = omega (arith, told)

max_is : (a b : ℕ) → ord_max nat_cmp a b ≡ max a b
max_is a b = chosen a b (nat_cmp b a) (ranked b a (nat_cmp b a) refl)

pub loop-place-init : goal.loop-place-init
loop-place-init g c =
    let a = g.O.Sink.taken c.args.out.now in
    let f = g.O.Sink.has_failed c.args.out.now in
    none_told (request_of c.args.settings.now) (script_of c.args.named.now.script) (labels_of c.args.named.now) 1 (GoesOut a a f 0) (none_out a f c.requires.works)

pub explain_one-requires-clause-works : goal.explain_one-requires-clause-works
explain_one-requires-clause-works g c κs within = c.loop-place.invariant.went_out.bytes.works

pub explain_one-requires-clause-there : goal.explain_one-requires-clause-there
explain_one-requires-clause-there g c =
    let low = c.loop-place-test.true in
    let whole = ap length c.assertions-count.ensures.value in
    let mapped = length-map c.assertions-count.result.now assertion_of in
    omega (arith, low, whole, mapped)

pub loop-place-preserved : goal.loop-place-preserved
loop-place-preserved g c =
    let request = request_of c.args.settings.now in
    let script = script_of c.args.named.now.script in
    let labels = labels_of c.args.named.now in
    let place = c.loop-place.place in
    let taken = g.O.Sink.taken in
    let failed = g.O.Sink.has_failed in
    let low = c.loop-place-test.true in
    let whole = ap length c.assertions-count.ensures.value in
    let mapped = length-map c.assertions-count.result.now assertion_of in
    let within : place < length script.assertions = omega (arith, low, whole, mapped) in
    let all = c.max-status.result in
    let grown : all ≡ max c.loop-place.status c.in_ok-here.here = c.max-status.ensures ∙ max_is c.loop-place.status c.in_ok-here.here in
    let now = c.explain_one.new.out in
    let P : ℕ → Type 0 = λ n. AreTold request script labels 1 (take n script.assertions) (GoesOut (taken c.args.out.now) (taken now) (failed now) all) in
    let next : suc place ≡ place + 1 = omega arith in
    subst P next (one_more request script labels place (taken c.args.out.now) (taken c.loop-place.out) (taken now) (failed c.loop-place.out) (failed now) c.loop-place.status c.in_ok-here.here all within grown
    c.loop-place.invariant c.in_ok-here.ensures.told.1)

pub returns-in_err-here-clause-stopped : goal.returns-in_err-here-clause-stopped
returns-in_err-here-clause-stopped g c =
    let request = request_of c.args.settings.now in
    let script = script_of c.args.named.now.script in
    let labels = labels_of c.args.named.now in
    let place = c.loop-place.place in
    let low = c.loop-place-test.true in
    let whole = ap length c.assertions-count.ensures.value in
    let mapped = length-map c.assertions-count.result.now assertion_of in
    let within : place < length script.assertions = omega (arith, low, whole, mapped) in
    let now = c.explain_one.new.out in
    let S : Stop → Type 0 = λ why. StopsBy request script labels why (sent g.O.Sink.taken g.O.Sink.has_failed c.args.out.now now) in
    handed c.from_residual.result S c.from_residual.ensures
    (stops_in_all request script labels c.in_err-here.field-0.0 g.O.Sink.taken g.O.Sink.has_failed c.args.out.now c.loop-place.out now c.loop-place.status place c.requires.each within c.loop-place.invariant c.in_err-here.ensures.left)

pub returns-clause-told : goal.returns-clause-told
returns-clause-told g c =
    let request = request_of c.args.settings.now in
    let script = script_of c.args.named.now.script in
    let labels = labels_of c.args.named.now in
    let place = c.loop-place.place in
    let out = c.loop-place.out in
    let done = c.loop-place-test.false in
    let whole = ap length c.assertions-count.ensures.value in
    let mapped = length-map c.assertions-count.result.now assertion_of in
    let all : length script.assertions ≤ place = omega (arith, done, whole, mapped) in
    let is = c.loop-place.invariant.went_out.status_is in
    let most = status_at_most c.loop-place.invariant.outcomes in (
      omega (arith, is, most),
      all_told request script labels (sent g.O.Sink.taken g.O.Sink.has_failed c.args.out.now out) c.loop-place.status place c.requires.each all c.loop-place.invariant,
    )
