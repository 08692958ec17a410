-- The state at the start, and behind it the steps.
use Rattle.std.proofs.Common.{◌≡◌, suc, List, [], ◌∷◌, length, map, refl, sym, subst, arith, inl, inr, lit<, lit≤}
use Rattle.std.specs.Prelude.{codes}
use Rattle.theory_notation.specs.Processes.{process_text}
use Rattle.theory_objects.specs.Accounts.{run_fields, steps_fields}
use Rattle.theory_objects.specs.Fields.{field_tokens, text_field}
use Rattle.csp_value.specs.Action.{action_of}
use Rattle.csp_term.specs.Term.{process_of}
use Rattle.csp_term.specs.declared.term.Term.{Term}
use Rattle.csp_print.specs.Names.{names_of}
use Rattle.counterexample.specs.Counterexample.{origins_listed}
use Rattle.explanation_objects.specs.Putting.{Puts}
use Rattle.explanation_objects.specs.Steps.{steps_of}
use Rattle.explanation_objects.proofs.Putting.{HasPut, both, nothing}
use Rattle.explanation_objects.proofs.steps.put_run.Goals as goal

nothing_there : {X : Type 0} (xs : List X) → length xs ≡ 0 → xs ≡ []
nothing_there [] none = refl
nothing_there (x ∷ xs) none = let n : suc (length xs) ≡ 0 = none in absurd (omega (arith, n))

pub returns-in_ok-put_term-in-Some : goal.returns-in_ok-put_term-in-Some
returns-in_ok-put_term-in-Some g c =
    let names = names_of c.args.names.now in
    let r = c.put_steps.result in
    let old = c.args.writer.now in
    let one = c.put_term.new.writer in
    let new = c.put_steps.new.writer in
    let start = text_field (codes "start") (process_text names (process_of c.in-Some.start.now)) ∷ [] in
    let steps = steps_fields names (steps_of c.args.path.now c.in-Some.behind.now c.args.origins.now) in
    let S : List (Term g.row.A.Denot) → Type 0 = λ ts. Puts r old new (run_fields names (map action_of c.args.path.now) (map process_of ts) (origins_listed c.args.origins.now)) in
    subst S (sym c.in-Some.ensures.cases.0) (both r old one new start steps c.in_ok-put_term-in-Some.ensures c.put_steps.ensures)

pub returns-in-None : goal.returns-in-None
returns-in-None g c =
    let w = c.args.writer.now in
    let S : List (Term g.row.A.Denot) → Type 0 = λ ts. HasPut w w (field_tokens (run_fields (names_of c.args.names.now) (map action_of c.args.path.now) (map process_of ts) (origins_listed c.args.origins.now))) in
    subst S (sym (nothing_there c.args.states.now c.in-None.ensures.cases)) (nothing w)
