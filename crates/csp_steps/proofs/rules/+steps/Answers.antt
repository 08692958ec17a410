-- Each form is answered as its rule says, and each call is of less.
use Rattle.std.proofs.Common.{◌≡◌, ℕ, suc, ◌<◌, Result, Ok, Err, Some, List, refl, sym, ◌∙◌, ap, ap₂, subst, arith, inl, inr, lit<, max, ◌*◌, ◌+◌, [], ◌∷◌, ◌++◌, length, map, take, drop}
use Rattle.std.proofs.lemmas.List.{map-append, take_all}
use Rattle.std.proofs.Math.Nat.{le-max_left, le-max_right}
use Rattle.std.proofs.lemmas.Result.{err_from_is_err_and}
use Rattle.std.specs.declared.vec.Vec.{Vec}
use Rattle.theory_syntax.specs.Process as pure
use Rattle.theory_syntax.specs.declared.process_operator.ProcessOperator.{ProcessOperator}
use Rattle.csp_expression.specs.Expression.{expression_of, expressions_of}
use Rattle.csp_term.specs.Field.{fields_of}
use Rattle.csp_term.proofs.Forms.{of_alphabetised, of_binary, of_call, of_conditional, of_generalised, of_guard, of_hiding, of_omega_term, of_prefix, of_renaming, of_replicated, of_skip, of_sliding, of_stop}
use Rattle.csp_term.proofs.OperatorForms.{replicated_put}
use Rattle.theory_syntax.specs.Expression.{to_expressions}
use Rattle.theory_syntax.specs.Process.{EventSet, Process}
use Rattle.theory_syntax.specs.declared.process_operator.ReplicatedOperator.{ReplicatedOperator}
use Rattle.theory_syntax.specs.Operators.{binary_process, replicated_process}
use Rattle.theory_semantics.specs.Meaning.Evaluation.{IllKinded, value}
use Rattle.theory_semantics.specs.Meaning.Events.{members_of}
use Rattle.theory_semantics.specs.Meaning.Faults.{cause_in}
use Rattle.theory_semantics.specs.Meaning.Transitions.{chain, left_grouped}
use Rattle.theory_semantics.specs.Meaning.Substitution.{put, put_expression, without}
use Rattle.csp_value.specs.declared.value.Value.{Value}
use Rattle.csp_value.specs.Value.{value_of, values_of}
use Rattle.csp_events.specs.Events.{event_set_of, renaming_pairs_of}
use Rattle.csp_expression.specs.Bindings.{bindings_of}
use Rattle.csp_term.specs.Script.{script_of_parts}
use Rattle.csp_term.specs.Term.{process_of, process_of_form}
use Rattle.csp_steps.specs.declared.rule_step.RuleStep.{RuleStep}
use Rattle.csp_expression.specs.declared.no_value.NoValue.{NoValue}
use Rattle.csp_steps.specs.declared.side.Side.{Side}
use Rattle.csp_steps.specs.Answering.{Answers, IsAnswered, answered_of}
use Rattle.csp_steps.specs.Composing.{AreSidesOf, IsSideOf}
use Rattle.csp_steps.specs.Replicating.{AnswersChoices, instance_of, instances_of, looking_process}
use Rattle.csp_settling.proofs.Chaining.{seen_elements}
use Rattle.csp_settling.proofs.Members.{no_members}
use Rattle.csp_steps.proofs.Replicating.{external_by_chain, grouped_more, instances_are, interleaving_by_chain, internal_by_chain, last_choice, mapped_more, mapped_split, no_set, set_stuck, stuck_at_first, stuck_behind, two_sides}
use Rattle.csp_steps.specs.declared.rules.replicated.Looking.TheVariants as looking
use Rattle.csp_steps.specs.Repeating.{HasTau}
use Rattle.csp_steps.proofs.Repeating.{any_number}
use Rattle.csp_steps.proofs.Siding.{side_of_stuck, stuck_at_first_side, stuck_at_second_side, stuck_of_side}
use Rattle.csp_steps.proofs.Smaller.{alphabetised_height, binary_height, branch_height, generalised_height, guard_height, height_of, hiding_height, renaming_height, replicated_height, sliding_height}
use Rattle.csp_steps.proofs.Ruling.{guarded, closed, first_branch, second_branch, guard_stuck, if_stuck, ended, stopped}
use Rattle.csp_steps.proofs.rules.+steps.Goals as goal

nothing_in : {X : Type 0} (xs : List X) → length xs ≡ 0 → xs ≡ []
nothing_in [] none = refl
nothing_in (x ∷ xs) none = absurd (cc none)

below : (part whole t : ℕ) → whole ≡ suc part → 6 * whole ≡ t → 5 + 6 * part < t
below part whole t is falls = omega (arith, is, falls)

pub conditional::steps-returns-in_err-condition : goal.conditional::steps-returns-in_err-condition
conditional::steps-returns-in_err-condition g t c =
    let bs = bindings_of c.args.bindings.now in
    let whole = pure.If (put_expression bs (expression_of c.args.test.now)) (put bs (process_of c.args.first.now)) (put bs (process_of c.args.second.now)) in
    let stop = if_stuck g.row.A.Denot (script_of_parts c.args.script.now) (put_expression bs (expression_of c.args.test.now)) (put bs (process_of c.args.first.now)) (put bs (process_of c.args.second.now)) c.in_err-condition.field-0.0 c.in_err-condition.ensures in
    let p = err_from_is_err_and c.from_residual.result c.from_residual.ensures.1 in
    let P : Result (Vec (RuleStep g.row.A.Denot) g.row.A.Denot) NoValue → Type 0 = λ r. Answers (script_of_parts c.args.script.now) whole r in
    subst P (sym (p.1 ∙ ap Err p.2)) stop

pub conditional::steps-steps-requires : goal.conditional::steps-steps-requires
conditional::steps-steps-requires g t c κs within =
    (omega (arith, c.decreases, le-max_left (height_of c.args.first.now) (height_of c.args.second.now)), (within, elim g.met.A.AllocHandle.small [ inl e ↦ rw (e.0, e.1) (lit< tt) | inr e ↦ rw (e.0, e.1) (lit< tt) ]))

pub conditional::steps-steps-requires-else-branch : goal.conditional::steps-steps-requires-else-branch
conditional::steps-steps-requires-else-branch g t c κs within =
    (omega (arith, c.decreases, le-max_right (height_of c.args.first.now) (height_of c.args.second.now)), (within, elim g.met.A.AllocHandle.small [ inl e ↦ rw (e.0, e.1) (lit< tt) | inr e ↦ rw (e.0, e.1) (lit< tt) ]))

pub conditional::steps-returns-then-branch : goal.conditional::steps-returns-then-branch
conditional::steps-returns-then-branch g t c =
    let bs = bindings_of c.args.bindings.now in
    first_branch (script_of_parts c.args.script.now) (put_expression bs (expression_of c.args.test.now)) (put bs (process_of c.args.first.now)) (put bs (process_of c.args.second.now)) c.steps.result
    (c.in_ok-condition.ensures ∙ ap Ok c.if-branch.true) c.steps.ensures

pub conditional::steps-returns-else-branch : goal.conditional::steps-returns-else-branch
conditional::steps-returns-else-branch g t c =
    let bs = bindings_of c.args.bindings.now in
    second_branch (script_of_parts c.args.script.now) (put_expression bs (expression_of c.args.test.now)) (put bs (process_of c.args.first.now)) (put bs (process_of c.args.second.now)) c.steps-else-branch.result
    (c.in_ok-condition.ensures ∙ ap Ok c.if-branch.false) c.steps-else-branch.ensures

pub guard::steps-returns-in_err-condition : goal.guard::steps-returns-in_err-condition
guard::steps-returns-in_err-condition g t c =
    let bs = bindings_of c.args.bindings.now in
    let stop = guard_stuck g.row.A.Denot (script_of_parts c.args.script.now) (put_expression bs (expression_of c.args.test.now)) (put bs (process_of c.args.body.now)) c.in_err-condition.field-0.0 c.in_err-condition.ensures in
    let p = err_from_is_err_and c.from_residual.result c.from_residual.ensures.1 in
    let P : Result (Vec (RuleStep g.row.A.Denot) g.row.A.Denot) NoValue → Type 0 = λ r. Answers (script_of_parts c.args.script.now) (pure.Guard (put_expression bs (expression_of c.args.test.now)) (put bs (process_of c.args.body.now))) r in
    subst P (sym (p.1 ∙ ap Err p.2)) stop

pub guard::steps-steps-requires : goal.guard::steps-steps-requires
guard::steps-steps-requires g t c κs within = (omega (arith, c.decreases), (within, elim g.met.A.AllocHandle.small [ inl e ↦ rw (e.0, e.1) (lit< tt) | inr e ↦ rw (e.0, e.1) (lit< tt) ]))

pub guard::steps-returns-then-branch : goal.guard::steps-returns-then-branch
guard::steps-returns-then-branch g t c =
    let bs = bindings_of c.args.bindings.now in
    guarded (script_of_parts c.args.script.now) (put_expression bs (expression_of c.args.test.now)) (put bs (process_of c.args.body.now)) c.steps.result (c.in_ok-condition.ensures ∙ ap Ok c.if-branch.true) c.steps.ensures

pub steps-steps-requires-in-Guard : goal.steps-steps-requires-in-Guard
steps-steps-requires-in-Guard g t c κs within =
    let less = guard_height g.row.A.Denot c.args.term.now c.form.result.now c.form.ensures c.in-Guard.condition c.in-Guard.body c.in-Guard.is in
    (omega (arith, below (height_of c.in-Guard.body) (height_of c.args.term.now) t less c.decreases), (within, elim g.met.A.AllocHandle.small [ inl e ↦ rw (e.0, e.1) (lit< tt) | inr e ↦ rw (e.0, e.1) (lit< tt) ]))

pub steps-steps-requires-in-If : goal.steps-steps-requires-in-If
steps-steps-requires-in-If g t c κs within =
    let less = branch_height g.row.A.Denot c.args.term.now c.form.result.now c.form.ensures c.in-If.condition c.in-If.first c.in-If.second c.in-If.is in
    (omega (arith, below (max (height_of c.in-If.first) (height_of c.in-If.second)) (height_of c.args.term.now) t less c.decreases), (within, elim g.met.A.AllocHandle.small [ inl e ↦ rw (e.0, e.1) (lit< tt) | inr e ↦ rw (e.0, e.1) (lit< tt) ]))

pub steps-returns-in-Stop : goal.steps-returns-in-Stop
steps-returns-in-Stop g t c =
    let script = script_of_parts c.args.script.now in
    let is : process_of c.args.term.now ≡ pure.Stop = sym c.form.ensures ∙ ap process_of_form c.in-Stop.is ∙ of_stop g.row.A.Denot in
    let P : pure.Process → Type 0 = λ p. IsAnswered script (put (bindings_of c.args.bindings.now) p) [] in
    let Q : List (RuleStep g.row.A.Denot) → Type 0 = λ ss. IsAnswered script (put (bindings_of c.args.bindings.now) (process_of c.args.term.now)) (map answered_of ss) in
    subst Q (sym c.new.ensures.items) (subst P (sym is) (stopped script))

pub steps-returns-in-Omega : goal.steps-returns-in-Omega
steps-returns-in-Omega g t c =
    let script = script_of_parts c.args.script.now in
    let is : process_of c.args.term.now ≡ pure.Omega = sym c.form.ensures ∙ ap process_of_form c.in-Omega.is ∙ of_omega_term g.row.A.Denot in
    let P : pure.Process → Type 0 = λ p. IsAnswered script (put (bindings_of c.args.bindings.now) p) [] in
    let Q : List (RuleStep g.row.A.Denot) → Type 0 = λ ss. IsAnswered script (put (bindings_of c.args.bindings.now) (process_of c.args.term.now)) (map answered_of ss) in
    subst Q (sym c.new-in-Omega.ensures.items) (subst P (sym is) (ended script))

pub steps-returns-in-Skip : goal.steps-returns-in-Skip
steps-returns-in-Skip g t c =
    let is : process_of c.args.term.now ≡ pure.Skip = sym c.form.ensures ∙ ap process_of_form c.in-Skip.is ∙ of_skip g.row.A.Denot in
    let P : pure.Process → Type 0 = λ p. Answers (script_of_parts c.args.script.now) (put (bindings_of c.args.bindings.now) p) c.steps.result in subst P (sym is) c.steps.ensures

pub steps-returns-in-Prefix : goal.steps-returns-in-Prefix
steps-returns-in-Prefix g t c =
    let is : process_of c.args.term.now ≡ pure.Prefix c.in-Prefix.channel.0 (fields_of c.deref.result.now) (process_of c.in-Prefix.body) =
    sym c.form.ensures ∙ ap process_of_form c.in-Prefix.is ∙ of_prefix g.row.A.Denot c.in-Prefix.channel c.in-Prefix.fields c.in-Prefix.body
    ∙ ap (λ fs. pure.Prefix c.in-Prefix.channel.0 (fields_of fs) (process_of c.in-Prefix.body)) (sym c.deref.ensures.value)
    in let P : pure.Process → Type 0 = λ p. Answers (script_of_parts c.args.script.now) (put (bindings_of c.args.bindings.now) p) c.steps-in-Prefix.result in subst P (sym is) c.steps-in-Prefix.ensures

pub steps-returns-in-Call : goal.steps-returns-in-Call
steps-returns-in-Call g t c =
    let is : process_of c.args.term.now ≡ pure.Call c.in-Call.equation.0 (to_expressions (expressions_of c.deref-in-Call.result.now)) =
    sym c.form.ensures ∙ ap process_of_form c.in-Call.is ∙ of_call g.row.A.Denot c.in-Call.equation c.in-Call.arguments ∙ ap (λ es. pure.Call c.in-Call.equation.0 (to_expressions (expressions_of es))) (sym c.deref-in-Call.ensures.value)
    in let P : pure.Process → Type 0 = λ p. Answers (script_of_parts c.args.script.now) (put (bindings_of c.args.bindings.now) p) c.steps-in-Call.result in subst P (sym is) c.steps-in-Call.ensures

pub steps-returns-in-Guard : goal.steps-returns-in-Guard
steps-returns-in-Guard g t c =
    let is : process_of c.args.term.now ≡ pure.Guard (expression_of c.in-Guard.condition) (process_of c.in-Guard.body) =
    sym c.form.ensures ∙ ap process_of_form c.in-Guard.is ∙ of_guard g.row.A.Denot c.in-Guard.condition c.in-Guard.body
    in let P : pure.Process → Type 0 = λ p. Answers (script_of_parts c.args.script.now) (put (bindings_of c.args.bindings.now) p) c.steps-in-Guard.result in subst P (sym is) c.steps-in-Guard.ensures

pub steps-returns-in-If : goal.steps-returns-in-If
steps-returns-in-If g t c =
    let is : process_of c.args.term.now ≡ pure.If (expression_of c.in-If.condition) (process_of c.in-If.first) (process_of c.in-If.second) =
    sym c.form.ensures ∙ ap process_of_form c.in-If.is ∙ of_conditional g.row.A.Denot c.in-If.condition c.in-If.first c.in-If.second
    in let P : pure.Process → Type 0 = λ p. Answers (script_of_parts c.args.script.now) (put (bindings_of c.args.bindings.now) p) c.steps-in-If.result in subst P (sym is) c.steps-in-If.ensures

pub guard::steps-returns-else-branch : goal.guard::steps-returns-else-branch
guard::steps-returns-else-branch g t c =
    let script = script_of_parts c.args.script.now in
    let bs = bindings_of c.args.bindings.now in
    let whole = pure.Guard (put_expression bs (expression_of c.args.test.now)) (put bs (process_of c.args.body.now)) in
    let Q : List (RuleStep g.row.A.Denot) → Type 0 = λ ss. IsAnswered script whole (map answered_of ss) in
    subst Q (sym c.new.ensures.items) (closed script (put_expression bs (expression_of c.args.test.now)) (put bs (process_of c.args.body.now)) (c.in_ok-condition.ensures ∙ ap Ok c.if-branch.false))

pub steps-binary-requires : goal.steps-binary-requires
steps-binary-requires g t c κs within =
    let less = binary_height g.row.A.Denot c.args.term.now c.form.result.now c.form.ensures c.in-Binary.operator c.in-Binary.left c.in-Binary.right c.in-Binary.is in
    (omega (arith, below (max (height_of c.in-Binary.left) (height_of c.in-Binary.right)) (height_of c.args.term.now) t less c.decreases), (within, elim g.met.A.AllocHandle.small [ inl e ↦ rw (e.0, e.1) (lit< tt) | inr e ↦ rw (e.0, e.1) (lit< tt) ]))

pub steps-generalised-requires : goal.steps-generalised-requires
steps-generalised-requires g t c κs within =
    let less = generalised_height g.row.A.Denot c.args.term.now c.form.result.now c.form.ensures c.in-GeneralisedParallel.left c.in-GeneralisedParallel.shared c.in-GeneralisedParallel.right c.in-GeneralisedParallel.is in
    (omega (arith, below (max (height_of c.in-GeneralisedParallel.left) (height_of c.in-GeneralisedParallel.right)) (height_of c.args.term.now) t less c.decreases), (within, elim g.met.A.AllocHandle.small [ inl e ↦ rw (e.0, e.1) (lit< tt) | inr e ↦ rw (e.0, e.1) (lit< tt) ]))

pub steps-alphabetised-requires : goal.steps-alphabetised-requires
steps-alphabetised-requires g t c κs within =
    let less = alphabetised_height g.row.A.Denot c.args.term.now c.form.result.now c.form.ensures c.in-AlphabetisedParallel.left c.in-AlphabetisedParallel.own c.in-AlphabetisedParallel.other c.in-AlphabetisedParallel.right c.in-AlphabetisedParallel.is in
    (omega (arith, below (max (height_of c.in-AlphabetisedParallel.left) (height_of c.in-AlphabetisedParallel.right)) (height_of c.args.term.now) t less c.decreases), (within, elim g.met.A.AllocHandle.small [ inl e ↦ rw (e.0, e.1) (lit< tt) | inr e ↦ rw (e.0, e.1) (lit< tt) ]))

pub steps-steps-requires-in-Hiding : goal.steps-steps-requires-in-Hiding
steps-steps-requires-in-Hiding g t c κs within =
    let less = hiding_height g.row.A.Denot c.args.term.now c.form.result.now c.form.ensures c.in-Hiding.body c.in-Hiding.hidden c.in-Hiding.is in
    (omega (arith, below (height_of c.in-Hiding.body) (height_of c.args.term.now) t less c.decreases), (within, elim g.met.A.AllocHandle.small [ inl e ↦ rw (e.0, e.1) (lit< tt) | inr e ↦ rw (e.0, e.1) (lit< tt) ]))

pub steps-steps-requires-in-Renaming : goal.steps-steps-requires-in-Renaming
steps-steps-requires-in-Renaming g t c κs within =
    let less = renaming_height g.row.A.Denot c.args.term.now c.form.result.now c.form.ensures c.in-Renaming.body c.in-Renaming.pairs c.in-Renaming.is in
    (omega (arith, below (height_of c.in-Renaming.body) (height_of c.args.term.now) t less c.decreases), (within, elim g.met.A.AllocHandle.small [ inl e ↦ rw (e.0, e.1) (lit< tt) | inr e ↦ rw (e.0, e.1) (lit< tt) ]))

pub steps-steps-requires-in-Replicated : goal.steps-steps-requires-in-Replicated
steps-steps-requires-in-Replicated g t c κs within =
    let less = replicated_height g.row.A.Denot c.args.term.now c.form.result.now c.form.ensures c.in-Replicated.operator c.in-Replicated.name c.in-Replicated.set c.in-Replicated.body c.in-Replicated.is in
    (omega (arith, below (height_of c.in-Replicated.body) (height_of c.args.term.now) t less c.decreases), (within, elim g.met.A.AllocHandle.small [ inl e ↦ rw (e.0, e.1) (lit< tt) | inr e ↦ rw (e.0, e.1) (lit< tt) ]))

pub steps-steps-requires-in-SlidingChoice : goal.steps-steps-requires-in-SlidingChoice
steps-steps-requires-in-SlidingChoice g t c κs within =
    let less = sliding_height g.row.A.Denot c.args.term.now c.form.result.now c.form.ensures c.in-SlidingChoice.left c.in-SlidingChoice.right c.in-SlidingChoice.is in
    (omega (arith, below (max (height_of c.in-SlidingChoice.left) (height_of c.in-SlidingChoice.right)) (height_of c.args.term.now) t less c.decreases), (within, elim g.met.A.AllocHandle.small [ inl e ↦ rw (e.0, e.1) (lit< tt) | inr e ↦ rw (e.0, e.1) (lit< tt) ]))

pub steps-returns-in-Binary : goal.steps-returns-in-Binary
steps-returns-in-Binary g t c =
    let is : process_of c.args.term.now ≡ binary_process c.in-Binary.operator (process_of c.in-Binary.left) (process_of c.in-Binary.right) =
    sym c.form.ensures ∙ ap process_of_form c.in-Binary.is ∙ of_binary g.row.A.Denot c.in-Binary.operator c.in-Binary.left c.in-Binary.right
    in let P : pure.Process → Type 0 = λ p. Answers (script_of_parts c.args.script.now) (put (bindings_of c.args.bindings.now) p) c.binary.result in subst P (sym is) c.binary.ensures

pub binary-returns-in-ExternalChoice : goal.binary-returns-in-ExternalChoice
binary-returns-in-ExternalChoice g t c =
    let P : ProcessOperator → Type 0 = λ op. Answers (script_of_parts c.args.script.now) (put (bindings_of c.args.bindings.now) (binary_process op (process_of c.args.left.now) (process_of c.args.right.now))) c.external.result in
    subst P (sym c.in-ExternalChoice.is) c.external.ensures

pub binary-returns-in-InternalChoice : goal.binary-returns-in-InternalChoice
binary-returns-in-InternalChoice g t c =
    let P : ProcessOperator → Type 0 = λ op. Answers (script_of_parts c.args.script.now) (put (bindings_of c.args.bindings.now) (binary_process op (process_of c.args.left.now) (process_of c.args.right.now))) c.internal.result in
    subst P (sym c.in-InternalChoice.is) c.internal.ensures

pub binary-returns-in-Sequential : goal.binary-returns-in-Sequential
binary-returns-in-Sequential g t c =
    let P : ProcessOperator → Type 0 = λ op. Answers (script_of_parts c.args.script.now) (put (bindings_of c.args.bindings.now) (binary_process op (process_of c.args.left.now) (process_of c.args.right.now))) c.steps.result in
    subst P (sym c.in-Sequential.is) c.steps.ensures

pub binary-returns-in-Interleaving : goal.binary-returns-in-Interleaving
binary-returns-in-Interleaving g t c =
    let P : ProcessOperator → Type 0 = λ op. Answers (script_of_parts c.args.script.now) (put (bindings_of c.args.bindings.now) (binary_process op (process_of c.args.left.now) (process_of c.args.right.now))) c.interleaving.result in
    subst P (sym c.in-Interleaving.is) c.interleaving.ensures

pub binary-returns-in-Interrupt : goal.binary-returns-in-Interrupt
binary-returns-in-Interrupt g t c =
    let P : ProcessOperator → Type 0 = λ op. Answers (script_of_parts c.args.script.now) (put (bindings_of c.args.bindings.now) (binary_process op (process_of c.args.left.now) (process_of c.args.right.now))) c.steps-in-Interrupt.result in
    subst P (sym c.in-Interrupt.is) c.steps-in-Interrupt.ensures

pub side::under-returns : goal.side::under-returns
side::under-returns g t c = (c.in_ok-process.ensures, c.in_ok-steps.ensures)

pub side::under-returns-in_err-steps : goal.side::under-returns-in_err-steps
side::under-returns-in_err-steps g t c =
    let script = script_of_parts c.args.script.now in
    let whole = put (bindings_of c.args.bindings.now) (process_of c.args.term.now) in
    let p = err_from_is_err_and c.from_residual.result c.from_residual.ensures.1 in
    let P : Result (Side g.row.A.Denot) NoValue → Type 0 = λ r. IsSideOf script whole r in
    subst P (sym (p.1 ∙ ap Err p.2)) (side_of_stuck g.row.A.Denot script whole c.in_err-steps.field-0.0 c.in_err-steps.ensures)

pub steps-returns-in-GeneralisedParallel : goal.steps-returns-in-GeneralisedParallel
steps-returns-in-GeneralisedParallel g t c =
    let w = c.in-GeneralisedParallel in
    let is : process_of c.args.term.now ≡ pure.GeneralisedParallel (process_of w.left) (event_set_of w.shared) (process_of w.right) =
    sym c.form.ensures ∙ ap process_of_form w.is ∙ of_generalised g.row.A.Denot w.left w.shared w.right
    in let P : pure.Process → Type 0 = λ p. Answers (script_of_parts c.args.script.now) (put (bindings_of c.args.bindings.now) p) c.generalised.result in subst P (sym is) c.generalised.ensures

pub steps-returns-in-AlphabetisedParallel : goal.steps-returns-in-AlphabetisedParallel
steps-returns-in-AlphabetisedParallel g t c =
    let w = c.in-AlphabetisedParallel in
    let is : process_of c.args.term.now ≡ pure.AlphabetisedParallel (process_of w.left) (event_set_of w.own) (event_set_of w.other) (process_of w.right) =
    sym c.form.ensures ∙ ap process_of_form w.is ∙ of_alphabetised g.row.A.Denot w.left w.own w.other w.right
    in let P : pure.Process → Type 0 = λ p. Answers (script_of_parts c.args.script.now) (put (bindings_of c.args.bindings.now) p) c.alphabetised.result in subst P (sym is) c.alphabetised.ensures

pub steps-returns-in-Hiding : goal.steps-returns-in-Hiding
steps-returns-in-Hiding g t c =
    let w = c.in-Hiding in
    let is : process_of c.args.term.now ≡ pure.Hiding (process_of w.body) (event_set_of w.hidden) =
    sym c.form.ensures ∙ ap process_of_form w.is ∙ of_hiding g.row.A.Denot w.body w.hidden
    in let P : pure.Process → Type 0 = λ p. Answers (script_of_parts c.args.script.now) (put (bindings_of c.args.bindings.now) p) c.steps-in-Hiding.result in subst P (sym is) c.steps-in-Hiding.ensures

pub steps-returns-in-Renaming : goal.steps-returns-in-Renaming
steps-returns-in-Renaming g t c =
    let w = c.in-Renaming in
    let is : process_of c.args.term.now ≡ pure.Renaming (process_of w.body) (renaming_pairs_of c.deref-in-Renaming.result.now) =
    sym c.form.ensures ∙ ap process_of_form w.is ∙ of_renaming g.row.A.Denot w.body w.pairs ∙ ap (λ rs. pure.Renaming (process_of w.body) (renaming_pairs_of rs)) (sym c.deref-in-Renaming.ensures.value)
    in let P : pure.Process → Type 0 = λ p. Answers (script_of_parts c.args.script.now) (put (bindings_of c.args.bindings.now) p) c.steps-in-Renaming.result in subst P (sym is) c.steps-in-Renaming.ensures

pub steps-returns-in-Replicated : goal.steps-returns-in-Replicated
steps-returns-in-Replicated g t c =
    let w = c.in-Replicated in
    let is : process_of c.args.term.now ≡ replicated_process w.operator w.name.0 (expression_of w.set) (process_of w.body) =
    sym c.form.ensures ∙ ap process_of_form w.is ∙ of_replicated g.row.A.Denot w.operator w.name w.set w.body
    in let P : pure.Process → Type 0 = λ p. Answers (script_of_parts c.args.script.now) (put (bindings_of c.args.bindings.now) p) c.steps-in-Replicated.result in subst P (sym is) c.steps-in-Replicated.ensures

pub steps-returns-in-SlidingChoice : goal.steps-returns-in-SlidingChoice
steps-returns-in-SlidingChoice g t c =
    let w = c.in-SlidingChoice in
    let is : process_of c.args.term.now ≡ pure.SlidingChoice (process_of w.left) (process_of w.right) =
    sym c.form.ensures ∙ ap process_of_form w.is ∙ of_sliding g.row.A.Denot w.left w.right
    in let P : pure.Process → Type 0 = λ p. Answers (script_of_parts c.args.script.now) (put (bindings_of c.args.bindings.now) p) c.steps-in-SlidingChoice.result in subst P (sym is) c.steps-in-SlidingChoice.ensures

pub side::under-steps-requires : goal.side::under-steps-requires
side::under-steps-requires g t c κs within = (omega (arith, c.decreases), (within, elim g.met.A.AllocHandle.small [ inl e ↦ rw (e.0, e.1) (lit< tt) | inr e ↦ rw (e.0, e.1) (lit< tt) ]))

pub side::under-drop-steps-requires-room-T-Destruct : goal.side::under-drop-steps-requires-room-T-Destruct
side::under-drop-steps-requires-room-T-Destruct g t c κs within = elim g.met.A.AllocHandle.small [ inl e ↦ rw (e.0, e.1) (lit< tt) | inr e ↦ rw (e.0, e.1) (lit< tt) ]

-- ---- replicated operators

pub replicated::steps-returns-in_err-seen : goal.replicated::steps-returns-in_err-seen
replicated::steps-returns-in_err-seen g t c =
    let script = script_of_parts c.args.script.now in
    let bs = bindings_of c.args.bindings.now in
    let n = c.args.name.0 in
    let e = expression_of c.args.set.now in
    let body = process_of c.args.body.now in
    let op = c.args.operator in
    let why = c.in_err-seen.field-0.0 in
    let q = err_from_is_err_and c.from_residual.result c.from_residual.ensures.1 in
    let P : Process → Type 0 = λ p. Answers {A = g.row.A.Denot} script p (Err why) in
    let Q : Result (Vec (RuleStep g.row.A.Denot) g.row.A.Denot) NoValue → Type 0 = λ r. Answers script (put bs (replicated_process op n e body)) r in
    subst Q (sym (q.1 ∙ ap Err q.2)) (subst P (sym (replicated_put bs op n e body)) (set_stuck script n (put_expression bs e) (put (without n bs) body) g.row.A.Denot op why c.in_err-seen.ensures))

pub replicated::steps-returns-in_default : goal.replicated::steps-returns-in_default
replicated::steps-returns-in_default g t c =
    let script = script_of_parts c.args.script.now in
    let bs = bindings_of c.args.bindings.now in
    let n = c.args.name.0 in
    let e = expression_of c.args.set.now in
    let body = process_of c.args.body.now in
    let op = c.args.operator in
    let v = c.value.result.now in
    let seen : value script.types (put_expression bs e) ≡ Ok (value_of v) = c.in_ok-seen.ensures ∙ ap Ok (sym c.value.ensures) in
    let none : members_of (value_of v) ≡ Err IllKinded = no_members g.row.A g.A.Allocator v c.in_default.not-Set in
    let P : Process → Type 0 = λ p. cause_in script p ≡ Some IllKinded in
    subst P (sym (replicated_put bs op n e body)) (no_set script n (put_expression bs e) (put (without n bs) body) op (value_of v) seen none)

pub replicated::steps-returns-in-ExternalChoice : goal.replicated::steps-returns-in-ExternalChoice
replicated::steps-returns-in-ExternalChoice g t c =
    let script = script_of_parts c.args.script.now in
    let bs = bindings_of c.args.bindings.now in
    let n = c.args.name.0 in
    let e = expression_of c.args.set.now in
    let body = process_of c.args.body.now in
    let v = c.value.result.now in
    let values = c.members-values.result.now in
    let seen : value script.types (put_expression bs e) ≡ Ok (value_of v) = c.in_ok-seen.ensures ∙ ap Ok (sym c.value.ensures) in
    let are = seen_elements script.types (put_expression bs e) v c.in-Set.members values seen c.in-Set.is c.members-values.ensures in
    let H : List Process → Type 0 = λ qs. Answers script (chain pure.ExternalChoice pure.Stop qs) c.external.result in
    let P : ReplicatedOperator → Type 0 = λ op. Answers script (put bs (replicated_process op n e body)) c.external.result in
    subst P (sym c.in-ExternalChoice.is) (external_by_chain script n (put_expression bs e) (put (without n bs) body) (values_of values) are c.external.result (subst H (sym (instances_are n bs body values)) c.external.ensures))

pub replicated::steps-returns-in-InternalChoice : goal.replicated::steps-returns-in-InternalChoice
replicated::steps-returns-in-InternalChoice g t c =
    let script = script_of_parts c.args.script.now in
    let bs = bindings_of c.args.bindings.now in
    let n = c.args.name.0 in
    let e = expression_of c.args.set.now in
    let body = process_of c.args.body.now in
    let v = c.value.result.now in
    let values = c.members-values.result.now in
    let seen : value script.types (put_expression bs e) ≡ Ok (value_of v) = c.in_ok-seen.ensures ∙ ap Ok (sym c.value.ensures) in
    let are = seen_elements script.types (put_expression bs e) v c.in-Set.members values seen c.in-Set.is c.members-values.ensures in
    let H : List Process → Type 0 = λ qs. AnswersChoices script qs c.internal.result in
    let P : ReplicatedOperator → Type 0 = λ op. Answers script (put bs (replicated_process op n e body)) c.internal.result in
    subst P (sym c.in-InternalChoice.is) (internal_by_chain script n (put_expression bs e) (put (without n bs) body) (values_of values) are c.internal.result (subst H (sym (instances_are n bs body values)) c.internal.ensures))

pub replicated::steps-returns : goal.replicated::steps-returns
replicated::steps-returns g t c =
    let script = script_of_parts c.args.script.now in
    let bs = bindings_of c.args.bindings.now in
    let n = c.args.name.0 in
    let e = expression_of c.args.set.now in
    let body = process_of c.args.body.now in
    let v = c.value.result.now in
    let values = c.members-values.result.now in
    let seen : value script.types (put_expression bs e) ≡ Ok (value_of v) = c.in_ok-seen.ensures ∙ ap Ok (sym c.value.ensures) in
    let are = seen_elements script.types (put_expression bs e) v c.in-Set.members values seen c.in-Set.is c.members-values.ensures in
    let H : List Process → Type 0 = λ qs. Answers script (chain pure.Interleaving pure.Skip qs) c.interleaving.result in
    let P : ReplicatedOperator → Type 0 = λ op. Answers script (put bs (replicated_process op n e body)) c.interleaving.result in
    subst P (sym c.in-Interleaving.is) (interleaving_by_chain script n (put_expression bs e) (put (without n bs) body) (values_of values) are c.interleaving.result (subst H (sym (instances_are n bs body values)) c.interleaving.ensures))

pub replicated::Instances::chain-returns-in_err-instance : goal.replicated::Instances::chain-returns-in_err-instance
replicated::Instances::chain-returns-in_err-instance g t c p is =
    let i = c.args.self.now in
    let k = c.args.operator in
    let script = script_of_parts i.script.now in
    let items = c.args.others.now in
    let m = c.loop-value.value-index in
    let item = c.value-item.result in
    let before = instances_of i (take m items) in
    let after = instances_of i (drop (m + 1) items) in
    let why = c.in_err-instance.field-0.0 in
    let q = err_from_is_err_and c.from_residual.result c.from_residual.ensures.1 in
    let so_far = c.loop-value.invariant p is in
    let P : List Process → Type 0 = λ qs. Answers {A = g.row.A.Denot} script (left_grouped (looking_process k) p qs) (Err why) in
    let Q : Result (Vec (RuleStep g.row.A.Denot) g.row.A.Denot) NoValue → Type 0 = λ r. Answers script (left_grouped (looking_process k) p (instances_of i items)) r in
    subst Q (sym (q.1 ∙ ap Err q.2)) (subst P (sym (mapped_split (instance_of i) items m item c.loop-value-test.true c.value-item.is))
    (stuck_behind script k g.row.A.Denot p before (instance_of i item) after so_far.1.no_cause why c.in_err-instance.ensures))

pub replicated::Instances::chain-returns-in_err-chain : goal.replicated::Instances::chain-returns-in_err-chain
replicated::Instances::chain-returns-in_err-chain g t c p is =
    let i = c.args.self.now in
    let q = err_from_is_err_and c.from_residual-in_err-chain.result c.from_residual-in_err-chain.ensures.1 in
    let Q : Result (Vec (RuleStep g.row.A.Denot) g.row.A.Denot) NoValue → Type 0 = λ r. Answers (script_of_parts i.script.now) (left_grouped (looking_process c.args.operator) p (instances_of i c.args.others.now)) r in
    subst Q (sym (q.1 ∙ ap Err q.2)) tt

pub replicated::Instances::chain-loop-value-init : goal.replicated::Instances::chain-loop-value-init
replicated::Instances::chain-loop-value-init g t c p is = is

pub replicated::Instances::chain-loop-value-preserved : goal.replicated::Instances::chain-loop-value-preserved
replicated::Instances::chain-loop-value-preserved g t c p is =
    let i = c.args.self.now in
    let k = c.args.operator in
    let script = script_of_parts i.script.now in
    let items = c.args.others.now in
    let m = c.loop-value.value-index in
    let item = c.value-item.result in
    let before = instances_of i (take m items) in
    let one = instance_of i item in
    let more = c.in_ok-chain.chain in
    let P : List Process → Type 0 = λ qs. IsSideOf script (left_grouped (looking_process k) p qs) (Ok more) in
    let Q : Process → Type 0 = λ p. IsSideOf script p (Ok more) in
    subst P (sym (mapped_more (instance_of i) items m item c.loop-value-test.true c.value-item.is))
    (subst Q (sym (grouped_more (looking_process k) p before one))
    (two_sides script k (left_grouped (looking_process k) p before) one c.loop-value.chain c.in_ok-instance.instance more (c.loop-value.invariant p is) c.in_ok-instance.ensures c.in_ok-chain.ensures.process c.in_ok-chain.ensures.steps))

pub replicated::Instances::chain-returns : goal.replicated::Instances::chain-returns
replicated::Instances::chain-returns g t c p is =
    let i = c.args.self.now in
    let steps = c.loop-value.chain.steps in
    let P : List (Value g.row.A.Denot) → Type 0 = λ vs. IsAnswered (script_of_parts i.script.now) (left_grouped (looking_process c.args.operator) p (instances_of i vs)) (map answered_of steps.items) in
    subst P (take_all c.loop-value.value-index c.args.others.now (omega arith)) (c.loop-value.invariant p is).1

pub replicated::Instances::external-returns-in_default : goal.replicated::Instances::external-returns-in_default
replicated::Instances::external-returns-in_default g t c =
    let i = c.args.self.now in
    let script = script_of_parts i.script.now in
    let P : List (Value g.row.A.Denot) → Type 0 = λ vs. IsAnswered script (chain pure.ExternalChoice pure.Stop (instances_of i vs)) [] in
    let Q : List (RuleStep g.row.A.Denot) → Type 0 = λ ss. IsAnswered script (chain pure.ExternalChoice pure.Stop (instances_of i c.args.values.now)) (map answered_of ss) in
    subst Q (sym c.new.ensures.items) (subst P (sym (nothing_in c.args.values.now c.in_default.ensures.cases)) (stopped script))

pub replicated::Instances::external-returns-in_err-side : goal.replicated::Instances::external-returns-in_err-side
replicated::Instances::external-returns-in_err-side g t c =
    let i = c.args.self.now in
    let script = script_of_parts i.script.now in
    let first = instance_of i c.in-Some.first.now in
    let others = instances_of i c.in-Some.others.now in
    let why = c.in_err-side.field-0.0 in
    let q = err_from_is_err_and c.from_residual.result c.from_residual.ensures.1 in
    let P : List (Value g.row.A.Denot) → Type 0 = λ vs. Answers {A = g.row.A.Denot} script (chain pure.ExternalChoice pure.Stop (instances_of i vs)) (Err why) in
    let Q : Result (Vec (RuleStep g.row.A.Denot) g.row.A.Denot) NoValue → Type 0 = λ r. Answers script (chain pure.ExternalChoice pure.Stop (instances_of i c.args.values.now)) r in
    subst Q (sym (q.1 ∙ ap Err q.2)) (subst P (sym c.in-Some.ensures.cases.0) (stuck_at_first script looking.ExternalChoice g.row.A.Denot first others why c.in_err-side.ensures))

pub replicated::Instances::external-returns-then-branch : goal.replicated::Instances::external-returns-then-branch
replicated::Instances::external-returns-then-branch g t c =
    let i = c.args.self.now in
    let script = script_of_parts i.script.now in
    let p = instance_of i c.in-Some.first.now in
    let others = c.in-Some.others.now in
    let steps = map answered_of c.in_ok-side.side.steps.items in
    let P : List (Value g.row.A.Denot) → Type 0 = λ vs. IsAnswered script (chain pure.ExternalChoice pure.Stop (instances_of i vs)) steps in
    let Q : List Process → Type 0 = λ qs. IsAnswered script (left_grouped pure.ExternalChoice p qs) steps in
    let no_tau : HasTau steps → ⊥ = λ has. let is = c.has_tau.ensures.1 (subst (λ ss. HasTau (map answered_of ss)) (sym c.deref.ensures.value) has) in let no = c.if-not-has_tau.true in cc (is, no) in
    let alike = c.in_ok-are_alike.ensures c.if-branch.true in
    subst P (sym c.in-Some.ensures.cases.0) (subst Q (sym alike) (any_number script p steps c.in_ok-side.ensures.1 no_tau others p c.in_ok-side.ensures.1))

pub replicated::Instances::external-returns : goal.replicated::Instances::external-returns
replicated::Instances::external-returns g t c =
    let i = c.args.self.now in
    let P : List (Value g.row.A.Denot) → Type 0 = λ vs. Answers (script_of_parts i.script.now) (chain pure.ExternalChoice pure.Stop (instances_of i vs)) c.chain.result in
    subst P (sym c.in-Some.ensures.cases.0) (c.chain.ensures (instance_of i c.in-Some.first.now) c.in_ok-side.ensures)

pub replicated::Instances::interleaving-returns-in-None : goal.replicated::Instances::interleaving-returns-in-None
replicated::Instances::interleaving-returns-in-None g t c =
    let i = c.args.self.now in
    let P : List (Value g.row.A.Denot) → Type 0 = λ vs. Answers (script_of_parts i.script.now) (chain pure.Interleaving pure.Skip (instances_of i vs)) c.steps.result in
    subst P (sym (nothing_in c.args.values.now c.in-None.ensures.cases)) c.steps.ensures

pub replicated::Instances::interleaving-returns-in_err-side-in-Some : goal.replicated::Instances::interleaving-returns-in_err-side-in-Some
replicated::Instances::interleaving-returns-in_err-side-in-Some g t c =
    let i = c.args.self.now in
    let script = script_of_parts i.script.now in
    let first = instance_of i c.in-Some.first.now in
    let others = instances_of i c.in-Some.others.now in
    let why = c.in_err-side-in-Some.field-0.0 in
    let q = err_from_is_err_and c.from_residual.result c.from_residual.ensures.1 in
    let P : List (Value g.row.A.Denot) → Type 0 = λ vs. Answers {A = g.row.A.Denot} script (chain pure.Interleaving pure.Skip (instances_of i vs)) (Err why) in
    let Q : Result (Vec (RuleStep g.row.A.Denot) g.row.A.Denot) NoValue → Type 0 = λ r. Answers script (chain pure.Interleaving pure.Skip (instances_of i c.args.values.now)) r in
    subst Q (sym (q.1 ∙ ap Err q.2)) (subst P (sym c.in-Some.ensures.cases.0) (stuck_at_first script looking.Interleaving g.row.A.Denot first others why c.in_err-side-in-Some.ensures))

pub replicated::Instances::interleaving-returns-in_ok-side-in-Some : goal.replicated::Instances::interleaving-returns-in_ok-side-in-Some
replicated::Instances::interleaving-returns-in_ok-side-in-Some g t c =
    let i = c.args.self.now in
    let P : List (Value g.row.A.Denot) → Type 0 = λ vs. Answers (script_of_parts i.script.now) (chain pure.Interleaving pure.Skip (instances_of i vs)) c.chain.result in
    subst P (sym c.in-Some.ensures.cases.0) (c.chain.ensures (instance_of i c.in-Some.first.now) c.in_ok-side-in-Some.ensures)

pub replicated::Instances::internal-returns-in_ok-side-in-None : goal.replicated::Instances::internal-returns-in_ok-side-in-None
replicated::Instances::internal-returns-in_ok-side-in-None g t c =
    let i = c.args.self.now in
    let side = c.in_ok-side-in-None.field-0 in
    let last = c.in-Some.last.now in
    let P : List (Value g.row.A.Denot) → Type 0 = λ vs. AnswersChoices (script_of_parts i.script.now) (instances_of i vs) (Ok side.steps) in
    let Q : List (Value g.row.A.Denot) → Type 0 = λ vs. P (vs ++ last ∷ []) in
    subst P (sym c.in-Some.ensures.cases.0) (subst Q (sym (nothing_in c.in-Some.before.now c.in-None.ensures.cases)) c.in_ok-side-in-None.ensures.1)

pub replicated::Instances::internal-returns-in_err-side-in-None : goal.replicated::Instances::internal-returns-in_err-side-in-None
replicated::Instances::internal-returns-in_err-side-in-None g t c =
    let i = c.args.self.now in
    let script = script_of_parts i.script.now in
    let last = c.in-Some.last.now in
    let why = c.in_err-side-in-None.field-0.0 in
    let q = err_from_is_err_and c.from_residual.result c.from_residual.ensures.1 in
    let P : List (Value g.row.A.Denot) → Type 0 = λ vs. AnswersChoices {A = g.row.A.Denot} script (instances_of i vs) (Err why) in
    let Q : List (Value g.row.A.Denot) → Type 0 = λ vs. P (vs ++ last ∷ []) in
    let R : Result (Vec (RuleStep g.row.A.Denot) g.row.A.Denot) NoValue → Type 0 = λ r. AnswersChoices script (instances_of i c.args.values.now) r in
    subst R (sym (q.1 ∙ ap Err q.2))
    (subst P (sym c.in-Some.ensures.cases.0) (subst Q (sym (nothing_in c.in-Some.before.now c.in-None.ensures.cases)) (stuck_of_side g.row.A.Denot script (instance_of i last) why c.in_err-side-in-None.ensures)))

pub replicated::Instances::internal-returns-in_ok-choose-in-Some-split_first : goal.replicated::Instances::internal-returns-in_ok-choose-in-Some-split_first
replicated::Instances::internal-returns-in_ok-choose-in-Some-split_first g t c =
    let i = c.args.self.now in
    let script = script_of_parts i.script.now in
    let last = c.in-Some.last.now in
    let first = c.in-Some-split_first.first.now in
    let others = c.in-Some-split_first.others.now in
    let steps = c.in_ok-choose-in-Some-split_first.field-0 in
    let P : List (Value g.row.A.Denot) → Type 0 = λ vs. AnswersChoices script (instances_of i vs) (Ok steps) in
    let Q : List (Value g.row.A.Denot) → Type 0 = λ vs. P (vs ++ last ∷ []) in
    let R : List Process → Type 0 = λ qs. IsAnswered script (left_grouped pure.InternalChoice (instance_of i first) qs) (map answered_of steps.items) in
    subst P (sym c.in-Some.ensures.cases.0) (subst Q (sym c.in-Some-split_first.ensures.cases.0)
    (subst R (sym (map-append (instance_of i) others (last ∷ []))) (last_choice script (instance_of i first) (instances_of i others) (instance_of i last) (map answered_of steps.items) c.in_ok-choose-in-Some-split_first.ensures)))

-- ---- parallel compositions

pub side::both-returns : goal.side::both-returns
side::both-returns g t c = (c.in_ok-left.ensures, c.in_ok-right.ensures)

pub side::both-returns-in_err-left : goal.side::both-returns-in_err-left
side::both-returns-in_err-left g t c =
    let script = script_of_parts c.args.script.now in
    let left = put (bindings_of c.args.bindings.now) (process_of c.args.left.now) in
    let right = put (bindings_of c.args.bindings.now) (process_of c.args.right.now) in
    let p = err_from_is_err_and c.from_residual.result c.from_residual.ensures.1 in
    let P : Result (Side g.row.A.Denot × Side g.row.A.Denot) NoValue → Type 0 = λ r. AreSidesOf script left right r in
    subst P (sym (p.1 ∙ ap Err p.2)) (stuck_at_first_side g.row.A.Denot script left right c.in_err-left.field-0.0 c.in_err-left.ensures)

pub side::both-returns-in_err-right : goal.side::both-returns-in_err-right
side::both-returns-in_err-right g t c =
    let script = script_of_parts c.args.script.now in
    let left = put (bindings_of c.args.bindings.now) (process_of c.args.left.now) in
    let right = put (bindings_of c.args.bindings.now) (process_of c.args.right.now) in
    let p = err_from_is_err_and c.from_residual-in_err-right.result c.from_residual-in_err-right.ensures.1 in
    let P : Result (Side g.row.A.Denot × Side g.row.A.Denot) NoValue → Type 0 = λ r. AreSidesOf script left right r in
    subst P (sym (p.1 ∙ ap Err p.2)) (stuck_at_second_side g.row.A.Denot script left right c.in_ok-left.ensures.1.no_cause c.in_err-right.field-0.0 c.in_err-right.ensures)

pub choice::external-returns : goal.choice::external-returns
choice::external-returns g t c =
    let bs = bindings_of c.args.bindings.now in
    c.by_sides.ensures (script_of_parts c.args.script.now) (put bs (process_of c.args.left.now)) (put bs (process_of c.args.right.now)) c.both-sides.ensures

pub interrupt::steps-returns : goal.interrupt::steps-returns
interrupt::steps-returns g t c =
    let bs = bindings_of c.args.bindings.now in
    c.by_sides.ensures (script_of_parts c.args.script.now) (put bs (process_of c.args.left.now)) (put bs (process_of c.args.right.now)) c.both-sides.ensures

pub sliding::steps-returns : goal.sliding::steps-returns
sliding::steps-returns g t c =
    let bs = bindings_of c.args.bindings.now in
    c.by_sides.ensures (script_of_parts c.args.script.now) (put bs (process_of c.args.left.now)) (put bs (process_of c.args.right.now)) c.both-sides.ensures c.in_ok-away.ensures

pub sequential::steps-returns : goal.sequential::steps-returns
sequential::steps-returns g t c =
    let bs = bindings_of c.args.bindings.now in
    c.by_left.ensures (script_of_parts c.args.script.now) (put bs (process_of c.args.left.now)) (put bs (process_of c.args.right.now)) c.steps-left.ensures c.in_ok-right.ensures c.in_ok-next.ensures

pub parallel::interleaving-returns : goal.parallel::interleaving-returns
parallel::interleaving-returns g t c =
    let bs = bindings_of c.args.bindings.now in
    c.interleaving_by_sides.ensures (script_of_parts c.args.script.now) (put bs (process_of c.args.left.now)) (put bs (process_of c.args.right.now)) c.both-sides.ensures

pub parallel::generalised-returns : goal.parallel::generalised-returns
parallel::generalised-returns g t c =
    let bs = bindings_of c.args.bindings.now in
    let left = put bs (process_of c.args.left.now) in
    let right = put bs (process_of c.args.right.now) in
    let P : EventSet → Type 0 = λ a. Answers (script_of_parts c.args.script.now) (pure.GeneralisedParallel left a right) c.generalised_by_sides.result in
    subst P c.in_ok-shared.ensures (c.generalised_by_sides.ensures left right c.both-sides.ensures)

pub parallel::alphabetised-returns : goal.parallel::alphabetised-returns
parallel::alphabetised-returns g t c =
    let bs = bindings_of c.args.bindings.now in
    let left = put bs (process_of c.args.left.now) in
    let right = put bs (process_of c.args.right.now) in
    let same = ap₂ (λ a b. pure.AlphabetisedParallel left a b right) c.in_ok-own.ensures c.in_ok-other.ensures in
    let P : Process → Type 0 = λ p. Answers (script_of_parts c.args.script.now) p c.alphabetised_by_sides.result in
    subst P same (c.alphabetised_by_sides.ensures left right c.both-sides.ensures)

pub hiding::steps-returns : goal.hiding::steps-returns
hiding::steps-returns g t c =
    let body = put (bindings_of c.args.bindings.now) (process_of c.args.body.now) in
    let P : EventSet → Type 0 = λ a. Answers (script_of_parts c.args.script.now) (pure.Hiding body a) c.by_body.result in
    subst P c.in_ok-hidden.ensures (c.by_body.ensures body c.steps-body.ensures)

pub renaming::steps-returns : goal.renaming::steps-returns
renaming::steps-returns g t c =
    let body = put (bindings_of c.args.bindings.now) (process_of c.args.body.now) in
    let P : List pure.RenamingPair → Type 0 = λ rs. Answers (script_of_parts c.args.script.now) (pure.Renaming body rs) c.by_body.result in
    subst P c.in_ok-pairs.ensures (c.by_body.ensures body c.steps-body.ensures)

pub side::both-drop-left-requires-in_err-right-room-T-Destruct : goal.side::both-drop-left-requires-in_err-right-room-T-Destruct
side::both-drop-left-requires-in_err-right-room-T-Destruct g t c κs within = elim g.met.A.AllocHandle.small [ inl e ↦ rw (e.0, e.1) (lit< tt) | inr e ↦ rw (e.0, e.1) (lit< tt) ]
