use denote.Param.Send.{sendable}
use Rattle.std.proofs.Common.{◌≡◌, List, map, sym, ap, subst, ◌∙◌, arith, inl, inr, lit<, lit≤, rules}
use Rattle.std.proofs.lemmas.Result.{err_from_is_err_and}
use Rattle.theory_search.specs.Outcome.{Bounds}
use Rattle.theory_checking.specs.Checked.{IsCheckedText}
use Rattle.csp_term.specs.Script.{script_of}
use Rattle.verdict.specs.declared.outcome.Outcome.{Outcome}
use Rattle.verdict.specs.Outcome.{outcome_of}
use Rattle.program.specs.Answering.{AreRightSettled}
use Rattle.program.specs.Reading.{IsRefusalOf}
use Rattle.program.specs.Running.{check_of, status_of}
use Rattle.program.specs.Given.{given_of}
use Rattle.theory_syntax.specs.Readings.{by_tau}
use Rattle.program.proofs.Answering.{all_right}
use Rattle.program.proofs.Beginnings.{cause_of_text, of_file, too_long}
use Rattle.program.proofs.Reporting.{status_at_most}
use Rattle.program.proofs.running.answer.Goals as goal

pub returns-in-Ok-clause-reported : goal.returns-in-Ok-clause-reported
returns-in-Ok-clause-reported g c =
    let it = script_of c.in_ok-script.script in
    let script = by_tau it in
    let asked = check_of c.args.settings.now in
    let outcomes = map outcome_of c.deref-2.result.now in
    let P : List (Outcome g.row.A.Denot) → Type 0 = λ os. AreRightSettled it asked.bounds it.assertions (map outcome_of os) in
    let Q : Bounds → Type 0 = λ bs. AreRightSettled it bs it.assertions (map outcome_of c.in_ok-outcomes.outcomes.items) in
    let same : c.deref-in-Ok.result.now ≡ c.deref-2.result.now = c.deref-in-Ok.ensures.value ∙ sym c.deref-2.ensures.value in
    let told : c.status.result ≡ status_of outcomes = c.status.ensures ∙ ap (λ os. status_of (map outcome_of os)) same in
    let most = status_at_most outcomes in
    let checked = subst (λ bytes. IsCheckedText bytes script) c.deref.ensures.value c.in_ok-script.ensures.script.0 in (
      omega arith,
      record {
        script = script;
        outcomes = outcomes;
        of_file = of_file (g.F.Files.may_hold c.args.files.now) c.args.settings.now.file.now c.in_ok-text.text.items script c.in_ok-text.ensures.holds checked;
        right = all_right it asked.bounds asked.names c.in_ok-script.ensures.script.1 it.assertions outcomes (subst P (sym c.deref-2.ensures.value) (subst Q c.limits-limits.ensures c.in_ok-outcomes.ensures));
        bytes = c.in-Ok.ensures.whole;
        told = told;
      },
    )

pub returns-in_err-script-clause-cause : goal.returns-in_err-script-clause-cause
returns-in_err-script-clause-cause g c =
    let p = err_from_is_err_and c.from_residual-in_err-script.result c.from_residual-in_err-script.ensures.1 in
    let is = subst (λ bytes. IsRefusalOf bytes c.in_err-script.field-0.0) c.deref.ensures.value c.in_err-script.ensures.refused in
    rw (p.1, p.2)
    (cause_of_text (given_of g.F.Files.may_hold g.F.Files.may_lack c.args.files.now c.args.resources.now.stack) c.args.settings.now.file.now c.in_ok-text.text.items c.in_err-script.field-0.0 c.in_ok-text.ensures.holds is)

pub returns-then-not-takes-clause-cause : goal.returns-then-not-takes-clause-cause
returns-then-not-takes-clause-cause g c =
    too_long (given_of g.F.Files.may_hold g.F.Files.may_lack c.args.files.now c.args.resources.now.stack) c.args.settings.now.file.now c.in_ok-text.text.items c.in_ok-text.ensures.holds (search rules)

pub returns-clause-cause : goal.returns-clause-cause
returns-clause-cause g c =
    let script = by_tau (script_of c.in_ok-script.script) in
    let checked = subst (λ bytes. IsCheckedText bytes script) c.deref.ensures.value c.in_ok-script.ensures.script.0 in
    (script, of_file (g.F.Files.may_hold c.args.files.now) c.args.settings.now.file.now c.in_ok-text.text.items script c.in_ok-text.ensures.holds checked)

pub returns-clause-refused : goal.returns-clause-refused
returns-clause-refused g c =
    let it = script_of c.in_ok-script.script in
    let script = by_tau it in
    let asked = check_of c.args.settings.now in
    let P : List (Outcome g.row.A.Denot) → Type 0 = λ os. AreRightSettled it asked.bounds it.assertions (map outcome_of os) in
    let Q : Bounds → Type 0 = λ bs. AreRightSettled it bs it.assertions (map outcome_of c.in_ok-outcomes.outcomes.items) in
    let checked = subst (λ bytes. IsCheckedText bytes script) c.deref.ensures.value c.in_ok-script.ensures.script.0 in
    record {
      script = script;
      outcomes = map outcome_of c.deref-2.result.now;
      of_file = of_file (g.F.Files.may_hold c.args.files.now) c.args.settings.now.file.now c.in_ok-text.text.items script c.in_ok-text.ensures.holds checked;
      right = all_right it asked.bounds asked.names c.in_ok-script.ensures.script.1 it.assertions (map outcome_of c.deref-2.result.now) (subst P (sym c.deref-2.ensures.value) (subst Q c.limits-limits.ensures c.in_ok-outcomes.ensures));
      bytes = c.in-Err.ensures.device;
    }

pub outcomes-requires : goal.outcomes-requires
outcomes-requires g c =
    let sa = c.type_bounds.send-A in
    let ya = c.type_bounds.sync-A in
    let sr = c.type_bounds.sync-R in
    let small = (g.met.A.AllocHandle g.world.𝓛 g.world.𝓜 g.world.𝓡 ((λ s x. x), (λ x. x), (λ x. x), λ x. x)).small in (
      search sendable depth 20,
      (
        search sendable depth 20,
        (
          search sendable depth 20,
          (
            c.type_bounds.frees-A-Allocator,
            (
              elim small [
                | inl e ↦ rw (e.0, e.1) (lit< tt)
                | inr e ↦ rw (e.0, e.1) (lit< tt)
              ],
              c.args.settings.now.workers_in_range,
            ),
          ),
        ),
      ),
    )

pub status-requires : goal.status-requires
status-requires g c =
    elim (g.met.A.AllocHandle g.world.𝓛 g.world.𝓜 g.world.𝓡 ((λ s x. x), (λ x. x), (λ x. x), λ x. x)).small [
      | inl e ↦ rw (e.0, e.1) (lit< tt)
      | inr e ↦ rw (e.0, e.1) (lit< tt)
    ]

pub drop-outcomes-requires-room-T-Destruct : goal.drop-outcomes-requires-room-T-Destruct
drop-outcomes-requires-room-T-Destruct g c κs within =
    elim (g.met.A.AllocHandle g.world.𝓛 g.world.𝓜 g.world.𝓡 ((λ s x. x), (λ x. x), (λ x. x), λ x. x)).small [
      | inl e ↦ rw (e.0, e.1) (lit< tt)
      | inr e ↦ rw (e.0, e.1) (lit< tt)
    ]

pub drop-outcomes-requires-2-room-T-Destruct : goal.drop-outcomes-requires-2-room-T-Destruct
drop-outcomes-requires-2-room-T-Destruct g c κs within =
    elim (g.met.A.AllocHandle g.world.𝓛 g.world.𝓜 g.world.𝓡 ((λ s x. x), (λ x. x), (λ x. x), λ x. x)).small [
      | inl e ↦ rw (e.0, e.1) (lit< tt)
      | inr e ↦ rw (e.0, e.1) (lit< tt)
    ]

pub write-requires : goal.write-requires
write-requires g c =
    elim (g.met.A.AllocHandle g.world.𝓛 g.world.𝓜 g.world.𝓡 ((λ s x. x), (λ x. x), (λ x. x), λ x. x)).small [
      | inl e ↦ rw (e.0, e.1) (lit≤ tt, c.requires)
      | inr e ↦ rw (e.0, e.1) (lit≤ tt, c.requires)
    ]
