use Rattle.std.proofs.Common.{◌≡◌, ◌++◌, ◌+◌, ◌<◌, List, [], ℕ, length, get_or, map, drop, drop-cons, add-one, ap, ◌∙◌, sym, subst}
use Rattle.std.specs.List.{concat}
use Rattle.report.proofs.Sending.{IsUnderWay, goes_on, on_error, stops}
use Rattle.report.proofs.pushing.push_each.Goals as goal

-- the next text stands in front of those behind it
next_text : {T : Type 0} (f : T → List ℕ) (texts : List T) (i : ℕ) (other : T) (text : List ℕ) → i < length texts → text ≡ f (get_or texts i other) →
    concat (map f (drop i texts)) ≡ text ++ concat (map f (drop (i + 1) texts))
next_text f texts i other text within is =
    rw add-one (ap (λ ts. concat (map f ts)) (drop-cons texts i other within)) ∙ ap (λ t. t ++ concat (map f (drop (i + 1) texts))) (sym is)

pub loop-text-preserved : goal.loop-text-preserved
loop-text-preserved g c =
    let split = next_text (λ text. text.now) c.args.texts.now c.loop-text.text-index (record { ref_ptr = (0, 0); now = [] }) c.as_bytes.result.now c.loop-text-test.true c.as_bytes.ensures.value in
    let P : List ℕ → Type 0 = IsUnderWay (g.S.Sink.taken c.args.sink.now) (g.S.Sink.taken c.loop-text.sink) (g.S.Sink.has_failed c.loop-text.sink) (concat (map (λ text. text.now) c.args.texts.now)) in
    goes_on (subst P split c.loop-text.invariant) c.in_ok-push_all.ensures.whole

pub returns-in_err-push_all-clause-beginning : goal.returns-in_err-push_all-clause-beginning
returns-in_err-push_all-clause-beginning g c =
    let split = next_text (λ text. text.now) c.args.texts.now c.loop-text.text-index (record { ref_ptr = (0, 0); now = [] }) c.as_bytes.result.now c.loop-text-test.true c.as_bytes.ensures.value in
    let P : List ℕ → Type 0 = IsUnderWay (g.S.Sink.taken c.args.sink.now) (g.S.Sink.taken c.loop-text.sink) (g.S.Sink.has_failed c.loop-text.sink) (concat (map (λ text. text.now) c.args.texts.now)) in
    on_error c.from_residual.result (stops (concat (map (λ text. text.now) (drop (c.loop-text.text-index + 1) c.args.texts.now))) (subst P split c.loop-text.invariant) c.in_err-push_all.ensures.beginning)
