-- The assertion at the place is answered and told.
use denote.Param.Send.{sendable}
use Rattle.std.proofs.Common.{◌≡◌, ◌<◌, Bool, ℕ, suc, ◌+◌, List, [], ◌∷◌, length, sym, ap, subst, ◌∙◌, arith, inl, inr, lit<}
use Rattle.std.proofs.lemmas.List.{length-map}
use Rattle.std.specs.String.{string_bytes}
use Rattle.theory_syntax.specs.Process as pure
use Rattle.theory_search.specs.Answer.{as_written}
use Rattle.csp_term.specs.Script.{HasSidesOf, assertion_of, script_of}
use Rattle.explore.proofs.Exchanging.{right_as_written}
use Rattle.report.specs.Sending.{Breaks, Sends}
use Rattle.verdict.specs.Outcome.{outcome_of}
use Rattle.program.specs.Running.{outcome_status}
use Rattle.theory_search.specs.Terms.{IsAssertionOf}
use Rattle.theory_search.specs.Truth.{IsRightAsWritten}
use Rattle.theory_unfolding.specs.Assertions.{settled_assertion}
use Rattle.theory_unfolding.proofs.SettledSides.{sides_stay}
use Rattle.program.proofs.Answering.{sides_at}
use Rattle.program.proofs.Reporting.{status_at_most}
use Rattle.explain_program.specs.Asking.{one_at, request_of}
use Rattle.explain_program.specs.Giving.{AreTold, GoesOut}
use Rattle.named_scripts.specs.Naming.{labels_of}
use Rattle.explain_program.specs.Sizes.{IsSizeFor}
use Rattle.explain_program.specs.Telling.{IsToldAsAsked}
use Rattle.explain_program.proofs.Giving.{alone_at, one_told, right_has_violation, went_out}
use Rattle.explain_program.proofs.explaining.explain_one.Goals as goal

pub answer_together-answer-requires : goal.answer_together-answer-requires
answer_together-answer-requires g c =
    let script = script_of c.args.named.now.script in
    let items = c.assertions-assertions.result.now in
    let whole = ap length c.assertions-assertions.ensures.value in
    let mapped = length-map items assertion_of in
    let there = c.requires.there in
    let within : c.args.place < length items = omega (arith, whole, mapped, there) in
    let sides = sides_at assertion_of (HasSidesOf script) script items c.args.place c.index-assertions-place.result c.assertions-assertions.ensures.sides within c.index-assertions-place.is
    (λ b sides. record { specification = sides.0; implementation = sides.1 }) in
    let written = assertion_of c.index-assertions-place.result in
    let is : assertion_of c.in_ok-asked.asked ≡ settled_assertion script written = c.in_ok-asked.ensures ∙ ap (λ s. settled_assertion s written) c.parts.ensures.value in
    let asked_sides = subst (IsAssertionOf script) (sym is) (sides_stay script written sides) in
    let sa = c.type_bounds.send-A in
    let ya = c.type_bounds.sync-A in
    let sr = c.type_bounds.sync-R in
    let sw = c.type_bounds.sync-W in
    let small = (g.met.A.AllocHandle g.world.𝓛 g.world.𝓜 g.world.𝓡 ((λ s x. x), (λ x. x), (λ x. x), λ x. x)).small in (
      search sendable depth 20,
      (
        search sendable depth 20,
        (
          search sendable depth 20,
          (
            search sendable depth 20,
            (
              c.type_bounds.frees-A-Allocator,
              (
                elim small [
                  | inl e ↦ rw (e.0, e.1) (lit< tt)
                  | inr e ↦ rw (e.0, e.1) (lit< tt)
                ],
                asked_sides,
              ),
            ),
          ),
        ),
      ),
    )

pub explanation_text-requires : goal.explanation_text-requires
explanation_text-requires g c =
    let script = script_of c.args.named.now.script in
    let items = c.assertions-assertions.result.now in
    let whole = ap length c.assertions-assertions.ensures.value in
    let mapped = length-map items assertion_of in
    let there = c.requires.there in
    let within : c.args.place < length items = omega (arith, whole, mapped, there) in
    let sides = sides_at assertion_of (HasSidesOf script) script items c.args.place c.index-assertions-place.result c.assertions-assertions.ensures.sides within c.index-assertions-place.is
    (λ b sides. record { specification = sides.0; implementation = sides.1 }) in
    let written = assertion_of c.index-assertions-place.result in
    let is : assertion_of c.in_ok-asked.asked ≡ settled_assertion script written = c.in_ok-asked.ensures ∙ ap (λ s. settled_assertion s written) c.parts.ensures.value in
    let asked_sides = subst (IsAssertionOf script) (sym is) (sides_stay script written sides) in
    let asked = assertion_of c.in_ok-asked.asked in
    let found = outcome_of c.answer_together-answer.result.found in
    let bounds = (request_of c.args.settings.now).bounds in
    let shown = right_has_violation script asked bounds found c.answer_together-answer.ensures.right in
    let Z : Bool → Type 0 = λ negated. IsSizeFor script asked bounds (as_written negated found) c.answer_together-answer.result.size in
    let size = subst Z (ap (λ (a : pure.Assertion). a.negated) is) c.answer_together-answer.ensures.size in
    elim (g.met.A.AllocHandle g.world.𝓛 g.world.𝓜 g.world.𝓡 ((λ s x. x), (λ x. x), (λ x. x), λ x. x)).small [
      | inl e ↦ rw (e.0, e.1) (lit< tt, (asked_sides, (sides, (shown, (size, c.answer_together-answer.ensures.stop)))))
      | inr e ↦ rw (e.0, e.1) (lit< tt, (asked_sides, (sides, (shown, (size, c.answer_together-answer.ensures.stop)))))
    ]

pub returns-in-Ok-clause-told : goal.returns-in-Ok-clause-told
returns-in-Ok-clause-told g c =
    let request = request_of c.args.settings.now in
    let script = script_of c.args.named.now.script in
    let labels = labels_of c.args.named.now in
    let place = c.args.place in
    let items = c.assertions-assertions.result.now in
    let a = assertion_of c.index-assertions-place.result in
    let found = outcome_of c.answer_together-answer.result.found in
    let o = as_written a.negated found in
    let whole = ap length c.assertions-assertions.ensures.value in
    let mapped = length-map items assertion_of in
    let there = c.requires.there in
    let within : place < length items = omega (arith, whole, mapped, there) in
    let A : List pure.Assertion → Type 0 = λ xs. one_at place xs ≡ a ∷ [] in
    let alone = subst A c.assertions-assertions.ensures.value (alone_at assertion_of items place c.index-assertions-place.result within c.index-assertions-place.is) in
    let bytes = string_bytes c.in_ok-text.text in
    let b = assertion_of c.in_ok-asked.asked in
    let is : b ≡ settled_assertion script a = c.in_ok-asked.ensures ∙ ap (λ s. settled_assertion s a) c.parts.ensures.value in
    let N : ℕ → Type 0 = λ n. IsToldAsAsked request script labels n a b o bytes in
    let next : place + 1 ≡ suc place = omega arith in
    let B : pure.Assertion → Type 0 = λ x. IsToldAsAsked request script labels (suc place) a x o bytes in
    let told = subst B is (subst N next c.in_ok-text.ensures) in
    let R : pure.Assertion → Type 0 = λ x. IsRightAsWritten script x request.bounds (as_written x.negated found) in
    let right = subst R is (right_as_written script b request.bounds found c.answer_together-answer.ensures.right) in
    let old = g.O.Sink.taken c.args.out.now in
    let new = g.O.Sink.taken c.push_all.new.sink in
    let failed = g.O.Sink.has_failed c.push_all.new.sink in
    let S : List ℕ → Type 0 = λ ts. Sends old new failed ts in
    let sends = subst S (c.as_bytes.ensures.value ∙ c.as_str.ensures.value) c.in-Ok.ensures.whole in
    let T : ℕ → Type 0 = λ s. AreTold request script labels (suc place) (one_at place script.assertions) (GoesOut old new failed s) in
    let is = c.outcome_status.ensures in
    let most = status_at_most (o ∷ []) in (
      omega (arith, is, most),
      subst T (sym is) (one_told request script labels (suc place) (one_at place script.assertions) a o (GoesOut old new failed (outcome_status o)) alone right bytes told (went_out o old new failed bytes sends)),
    )

pub returns-clause-left : goal.returns-clause-left
returns-clause-left g c =
    let request = request_of c.args.settings.now in
    let script = script_of c.args.named.now.script in
    let labels = labels_of c.args.named.now in
    let place = c.args.place in
    let items = c.assertions-assertions.result.now in
    let a = assertion_of c.index-assertions-place.result in
    let found = outcome_of c.answer_together-answer.result.found in
    let o = as_written a.negated found in
    let whole = ap length c.assertions-assertions.ensures.value in
    let mapped = length-map items assertion_of in
    let there = c.requires.there in
    let within : place < length items = omega (arith, whole, mapped, there) in
    let A : List pure.Assertion → Type 0 = λ xs. one_at place xs ≡ a ∷ [] in
    let alone = subst A c.assertions-assertions.ensures.value (alone_at assertion_of items place c.index-assertions-place.result within c.index-assertions-place.is) in
    let bytes = string_bytes c.in_ok-text.text in
    let b = assertion_of c.in_ok-asked.asked in
    let is : b ≡ settled_assertion script a = c.in_ok-asked.ensures ∙ ap (λ s. settled_assertion s a) c.parts.ensures.value in
    let N : ℕ → Type 0 = λ n. IsToldAsAsked request script labels n a b o bytes in
    let next : place + 1 ≡ suc place = omega arith in
    let B : pure.Assertion → Type 0 = λ x. IsToldAsAsked request script labels (suc place) a x o bytes in
    let told = subst B is (subst N next c.in_ok-text.ensures) in
    let R : pure.Assertion → Type 0 = λ x. IsRightAsWritten script x request.bounds (as_written x.negated found) in
    let right = subst R is (right_as_written script b request.bounds found c.answer_together-answer.ensures.right) in
    let old = g.O.Sink.taken c.args.out.now in
    let new = g.O.Sink.taken c.push_all.new.sink in
    let failed = g.O.Sink.has_failed c.push_all.new.sink in
    let S : List ℕ → Type 0 = λ ts. Breaks old new failed ts in
    let breaks = subst S (c.as_bytes.ensures.value ∙ c.as_str.ensures.value) c.in-Err.ensures.beginning in
    one_told request script labels (suc place) (one_at place script.assertions) a o (λ os text. Breaks old new failed text) alone right bytes told breaks

pub drop-answer-requires-room-T-Destruct : goal.drop-answer-requires-room-T-Destruct
drop-answer-requires-room-T-Destruct g c κs within = elim (g.met.A.AllocHandle g.world.𝓛 g.world.𝓜 g.world.𝓡 ((λ s x. x), (λ x. x), (λ x. x), λ x. x)).small [ inl e ↦ rw (e.0, e.1) (lit< tt) | inr e ↦ rw (e.0, e.1) (lit< tt) ]

pub drop-requires-in_err-text-2-room-T-Destruct : goal.drop-requires-in_err-text-2-room-T-Destruct
drop-requires-in_err-text-2-room-T-Destruct g c κs within = elim (g.met.A.AllocHandle g.world.𝓛 g.world.𝓜 g.world.𝓡 ((λ s x. x), (λ x. x), (λ x. x), λ x. x)).small [ inl e ↦ rw (e.0, e.1) (lit< tt) | inr e ↦ rw (e.0, e.1) (lit< tt) ]

pub drop-answer-requires-in-Ok-room-T-Destruct : goal.drop-answer-requires-in-Ok-room-T-Destruct
drop-answer-requires-in-Ok-room-T-Destruct g c κs within = elim (g.met.A.AllocHandle g.world.𝓛 g.world.𝓜 g.world.𝓡 ((λ s x. x), (λ x. x), (λ x. x), λ x. x)).small [ inl e ↦ rw (e.0, e.1) (lit< tt) | inr e ↦ rw (e.0, e.1) (lit< tt) ]

pub drop-requires-in-Ok-2-room-T-Destruct : goal.drop-requires-in-Ok-2-room-T-Destruct
drop-requires-in-Ok-2-room-T-Destruct g c κs within = elim (g.met.A.AllocHandle g.world.𝓛 g.world.𝓜 g.world.𝓡 ((λ s x. x), (λ x. x), (λ x. x), λ x. x)).small [ inl e ↦ rw (e.0, e.1) (lit< tt) | inr e ↦ rw (e.0, e.1) (lit< tt) ]

pub drop-answer-requires-2-room-T-Destruct : goal.drop-answer-requires-2-room-T-Destruct
drop-answer-requires-2-room-T-Destruct g c κs within = elim (g.met.A.AllocHandle g.world.𝓛 g.world.𝓜 g.world.𝓡 ((λ s x. x), (λ x. x), (λ x. x), λ x. x)).small [ inl e ↦ rw (e.0, e.1) (lit< tt) | inr e ↦ rw (e.0, e.1) (lit< tt) ]

pub drop-requires-in-Err-2-room-T-Destruct : goal.drop-requires-in-Err-2-room-T-Destruct
drop-requires-in-Err-2-room-T-Destruct g c κs within = elim (g.met.A.AllocHandle g.world.𝓛 g.world.𝓜 g.world.𝓡 ((λ s x. x), (λ x. x), (λ x. x), λ x. x)).small [ inl e ↦ rw (e.0, e.1) (lit< tt) | inr e ↦ rw (e.0, e.1) (lit< tt) ]

pub array_drop-answer-requires : goal.array_drop-answer-requires
array_drop-answer-requires g c = elim (g.met.A.AllocHandle g.world.𝓛 g.world.𝓜 g.world.𝓡 ((λ s x. x), (λ x. x), (λ x. x), λ x. x)).small [ inl e ↦ rw (e.0, e.1) (lit< tt) | inr e ↦ rw (e.0, e.1) (lit< tt) ]

pub array_drop-answer-requires-in-Ok : goal.array_drop-answer-requires-in-Ok
array_drop-answer-requires-in-Ok g c = elim (g.met.A.AllocHandle g.world.𝓛 g.world.𝓜 g.world.𝓡 ((λ s x. x), (λ x. x), (λ x. x), λ x. x)).small [ inl e ↦ rw (e.0, e.1) (lit< tt) | inr e ↦ rw (e.0, e.1) (lit< tt) ]

pub array_drop-answer-requires-2 : goal.array_drop-answer-requires-2
array_drop-answer-requires-2 g c = elim (g.met.A.AllocHandle g.world.𝓛 g.world.𝓜 g.world.𝓡 ((λ s x. x), (λ x. x), (λ x. x), λ x. x)).small [ inl e ↦ rw (e.0, e.1) (lit< tt) | inr e ↦ rw (e.0, e.1) (lit< tt) ]

pub outcome_status-requires : goal.outcome_status-requires
outcome_status-requires g c = elim (g.met.A.AllocHandle g.world.𝓛 g.world.𝓜 g.world.𝓡 ((λ s x. x), (λ x. x), (λ x. x), λ x. x)).small [ inl e ↦ rw (e.0, e.1) (lit< tt) | inr e ↦ rw (e.0, e.1) (lit< tt) ]

pub drop-answer-requires-in_err-text-room-T-Destruct : goal.drop-answer-requires-in_err-text-room-T-Destruct
drop-answer-requires-in_err-text-room-T-Destruct g c κs within = elim (g.met.A.AllocHandle g.world.𝓛 g.world.𝓜 g.world.𝓡 ((λ s x. x), (λ x. x), (λ x. x), λ x. x)).small [ inl e ↦ rw (e.0, e.1) (lit< tt) | inr e ↦ rw (e.0, e.1) (lit< tt) ]

pub drop-answer-requires-in-Ok-2-room-T-Destruct : goal.drop-answer-requires-in-Ok-2-room-T-Destruct
drop-answer-requires-in-Ok-2-room-T-Destruct g c κs within = elim (g.met.A.AllocHandle g.world.𝓛 g.world.𝓜 g.world.𝓡 ((λ s x. x), (λ x. x), (λ x. x), λ x. x)).small [ inl e ↦ rw (e.0, e.1) (lit< tt) | inr e ↦ rw (e.0, e.1) (lit< tt) ]

pub drop-answer-requires-3-room-T-Destruct : goal.drop-answer-requires-3-room-T-Destruct
drop-answer-requires-3-room-T-Destruct g c κs within = elim (g.met.A.AllocHandle g.world.𝓛 g.world.𝓜 g.world.𝓡 ((λ s x. x), (λ x. x), (λ x. x), λ x. x)).small [ inl e ↦ rw (e.0, e.1) (lit< tt) | inr e ↦ rw (e.0, e.1) (lit< tt) ]
