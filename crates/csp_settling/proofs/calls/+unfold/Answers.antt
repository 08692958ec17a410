-- Each form is unfolded as its parts are, and each call is of less.
use Rattle.std.proofs.Common.{◌≡◌, ℕ, ◌<◌, ◌≤◌, IfOk, inl, inr, [], Result, Option, Some, None, Ok, Err, refl, sym, ◌∙◌, ap, subst, arith, true, false}
use Rattle.std.proofs.Math.Nat.{le-max_left, le-max_right}
use Rattle.theory_syntax.specs.Expression.{to_expressions}
use Rattle.theory_syntax.specs.Operators.{binary_process, replicated_process}
use Rattle.theory_syntax.specs.Process as pure
use Rattle.theory_syntax.specs.Process.{Process}
use Rattle.theory_semantics.specs.Meaning.Events.{called, condition, elements}
use Rattle.theory_semantics.specs.Meaning.Limits.{fits}
use Rattle.theory_semantics.specs.Meaning.Substitution.{put_expressions}
use Rattle.theory_semantics.specs.Meaning.Unfolding.{body_or, chained, picked, settled_within, stands_for, unfolded_or, where_true}
use Rattle.csp_expression.specs.Expression.{expression_of, expressions_of}
use Rattle.csp_events.specs.Events.{event_set_of, renaming_pairs_of}
use Rattle.theory_syntax.specs.declared.process_operator.ProcessOperator.{ProcessOperator}
use Rattle.theory_syntax.specs.declared.process_operator.ReplicatedOperator.{ReplicatedOperator}
use Rattle.csp_expression.specs.declared.no_value.NoValue.{NoValue}
use Rattle.csp_term.specs.declared.term.Term.{Term}
use Rattle.csp_term.specs.Field.{fields_of}
use Rattle.csp_term.specs.Script.{script_of_parts}
use Rattle.csp_term.specs.Term.{process_of, process_of_form}
use Rattle.csp_term.proofs.Forms.{of_alphabetised, of_binary, of_call, of_conditional, of_generalised, of_guard, of_hiding, of_omega_term, of_prefix, of_renaming, of_replicated, of_skip, of_sliding, of_stop}
use Rattle.csp_settling.specs.Settling.{IsCalled, IsSeenAs, IsTruth, IsWithin, TellsUnfolded, call_of}
use Rattle.csp_settling.proofs.Calling.{called_bare, within_none, within_some}
use Rattle.csp_settling.proofs.Measured.{alphabetised_depth, binary_depth, depth_in, fits_depth, generalised_depth, has_depth, hiding_depth, renaming_depth, sliding_depth}
use Rattle.csp_settling.proofs.Unfolding.{body_past, body_smaller, body_taken, call_unfolds, chain_seen, go_on, guard_unfolds, if_unfolds, left_call, not_seen, one_more, other_call, replicated_unfolds, seen, skip_stays, stays_past, stays_so, stop_stays, told_of, told_past, unfolds}
use Rattle.csp_settling.proofs.calls.+unfold.Goals as goal

pub binary-returns-in_ok-unfolded-in-Sequential : goal.binary-returns-in_ok-unfolded-in-Sequential
binary-returns-in_ok-unfolded-in-Sequential g t c =
    let U = unfolds (script_of_parts c.args.script.now) c.args.more (call_of c.args.within) in
    let l = process_of c.args.left.now in
    let r = process_of c.args.right.now in
    let P : ProcessOperator → Type 0 = λ op. IfOk c.in_sequence.result (TellsUnfolded (binary_process op l r) (U (binary_process op l r))) in
    subst P (sym c.in-Sequential.is) (c.in_sequence.ensures l (U l) c.in_ok-unfolded-in-Sequential.ensures)

pub binary-returns-in_ok-sides-in-ExternalChoice : goal.binary-returns-in_ok-sides-in-ExternalChoice
binary-returns-in_ok-sides-in-ExternalChoice g t c =
    let U = unfolds (script_of_parts c.args.script.now) c.args.more (call_of c.args.within) in
    let l = process_of c.args.left.now in
    let r = process_of c.args.right.now in
    let P : ProcessOperator → Type 0 = λ op. IfOk c.in_binary.result (TellsUnfolded (binary_process op l r) (U (binary_process op l r))) in
    subst P (sym c.in-ExternalChoice.is) (c.in_binary.ensures l (U l) r (U r) c.in_ok-sides-in-ExternalChoice.ensures)

pub binary-returns-in_ok-sides-in-Interleaving : goal.binary-returns-in_ok-sides-in-Interleaving
binary-returns-in_ok-sides-in-Interleaving g t c =
    let U = unfolds (script_of_parts c.args.script.now) c.args.more (call_of c.args.within) in
    let l = process_of c.args.left.now in
    let r = process_of c.args.right.now in
    let P : ProcessOperator → Type 0 = λ op. IfOk c.in_binary-in-Interleaving.result (TellsUnfolded (binary_process op l r) (U (binary_process op l r))) in
    subst P (sym c.in-Interleaving.is) (c.in_binary-in-Interleaving.ensures l (U l) r (U r) c.in_ok-sides-in-Interleaving.ensures)

pub binary-returns-in_ok-sides-in-Interrupt : goal.binary-returns-in_ok-sides-in-Interrupt
binary-returns-in_ok-sides-in-Interrupt g t c =
    let U = unfolds (script_of_parts c.args.script.now) c.args.more (call_of c.args.within) in
    let l = process_of c.args.left.now in
    let r = process_of c.args.right.now in
    let P : ProcessOperator → Type 0 = λ op. IfOk c.in_binary-in-Interrupt.result (TellsUnfolded (binary_process op l r) (U (binary_process op l r))) in
    subst P (sym c.in-Interrupt.is) (c.in_binary-in-Interrupt.ensures l (U l) r (U r) c.in_ok-sides-in-Interrupt.ensures)

pub call-returns-in-Ok : goal.call-returns-in-Ok
call-returns-in-Ok g t c =
    let s = script_of_parts c.args.script.now in
    let p = process_of c.args.term.now in
    let go = settled_within c.args.more s (Some p) in
    let n = c.args.equation.0 in
    let es = to_expressions (expressions_of c.args.arguments.now) in
    let v = body_or go p (called s n es) in
    let (body, goes, is) = c.in-Ok.ensures.body in
    told_of p p _ _ c.in_call.result refl
    (other_call s c.args.more (call_of c.args.within) p v c.is_call.result (c.is_call.ensures v) c.if-is_call.false ∙ ap (body_or go p) (sym (called_bare s n es) ∙ goes)) (c.in_call.ensures body is)

pub call-returns-in-Err-Cause : goal.call-returns-in-Err-Cause
call-returns-in-Err-Cause g t c =
    let s = script_of_parts c.args.script.now in
    let p = process_of c.args.term.now in
    let go = settled_within c.args.more s (Some p) in
    let n = c.args.equation.0 in
    let es = to_expressions (expressions_of c.args.arguments.now) in
    let v = body_or go p (called s n es) in
    let F : NoValue → Type 0 = λ x. IsCalled {A = g.row.A.Denot} (Err x) (called s n (put_expressions [] es)) in
    other_call s c.args.more (call_of c.args.within) p v c.is_call.result (c.is_call.ensures v) c.if-is_call.false
    ∙ ap (body_or go p) (sym (called_bare s n es) ∙ subst F c.in-Err-Cause.field-0-is c.in-Err-Cause.ensures.body)

pub in_body-returns : goal.in_body-returns
in_body-returns g t c =
    let s = script_of_parts c.args.script.now in
    let p = process_of c.args.term.now in
    let go = settled_within c.args.more s (Some p) in
    let b = process_of c.args.body in
    let P : Process → Type 0 = λ v. TellsUnfolded p v c.behind.result in
    subst P (sym (body_taken go p b (sym c.is_no_larger.ensures ∙ c.if-not-is_no_larger.false))) (c.behind.ensures p (go b) c.in_ok-unfolded.ensures)

pub in_call-returns-in-None : goal.in_call-returns-in-None
in_call-returns-in-None g t c body is =
    let s = script_of_parts c.args.script.now in
    let p = process_of c.args.term.now in
    let go = settled_within c.args.more s (Some p) in
    let W : Option (Term g.row.A.Denot) → Type 0 = λ o. IsWithin o body in
    let past = within_none g.row.A.Denot body (subst W c.in-None.is is) in
    ap fits (body_past go p body past) ∙ stays_past c.args.more s (Some p) body past

pub replicated-returns-in_ok-chain-in-ExternalChoice : goal.replicated-returns-in_ok-chain-in-ExternalChoice
replicated-returns-in_ok-chain-in-ExternalChoice g t c =
    let s = script_of_parts c.args.script.now in
    let p = process_of c.args.term.now in
    let go = go_on s c.args.more (call_of c.args.within) in
    let n = c.args.name.0 in
    let q = process_of c.args.body.now in
    let r = elements s.types (expression_of c.args.set.now) in
    let P : ReplicatedOperator → Type 0 = λ op. IfOk c.in_chain.result (TellsUnfolded p (unfolded_or go p (stands_for s (replicated_process op n (expression_of c.args.set.now) q)))) in
    subst P (sym c.in-ExternalChoice.is) (c.in_chain.ensures (chained pure.ExternalChoice pure.Stop n q r)
    (chain_seen c.args.script.now c.args.more c.args.within pure.ExternalChoice pure.Stop n q r c.in_ok-chain-in-ExternalChoice.chain (stop_stays s (call_of c.args.within) c.args.more) c.in_ok-chain-in-ExternalChoice.ensures))

pub replicated-returns-in_ok-chain-in-Interleaving : goal.replicated-returns-in_ok-chain-in-Interleaving
replicated-returns-in_ok-chain-in-Interleaving g t c =
    let s = script_of_parts c.args.script.now in
    let p = process_of c.args.term.now in
    let go = go_on s c.args.more (call_of c.args.within) in
    let n = c.args.name.0 in
    let q = process_of c.args.body.now in
    let r = elements s.types (expression_of c.args.set.now) in
    let P : ReplicatedOperator → Type 0 = λ op. IfOk c.in_chain-in-Interleaving.result (TellsUnfolded p (unfolded_or go p (stands_for s (replicated_process op n (expression_of c.args.set.now) q)))) in
    subst P (sym c.in-Interleaving.is) (c.in_chain-in-Interleaving.ensures (chained pure.Interleaving pure.Skip n q r)
    (chain_seen c.args.script.now c.args.more c.args.within pure.Interleaving pure.Skip n q r c.in_ok-chain-in-Interleaving.chain (skip_stays s (call_of c.args.within) c.args.more) c.in_ok-chain-in-Interleaving.ensures))

pub seen_through-returns : goal.seen_through-returns
seen_through-returns g t c =
    let go = go_on (script_of_parts c.args.script.now) c.args.more (call_of c.args.within) in
    let p = process_of c.args.term.now in
    let q = process_of c.args.process.now in
    let P : Process → Type 0 = λ v. TellsUnfolded p v c.changed_or.result in
    subst P (sym (seen go p q (sym c.fits.ensures ∙ c.if-not-fits.false))) (c.changed_or.ensures (go q) c.in_ok-unfolded.ensures)

pub sides-returns : goal.sides-returns
sides-returns g t c =
    let U = unfolds (script_of_parts c.args.script.now) c.args.more (call_of c.args.within) in
    c.both.ensures (U (process_of c.args.left.now)) (U (process_of c.args.right.now)) c.in_ok-first.ensures c.in_ok-second.ensures

pub unfold-returns : goal.unfold-returns
unfold-returns g t c =
    let s = script_of_parts c.args.script.now in
    let p = process_of c.args.term.now in
    told_of p p _ _ c.unfold_calls.result refl (one_more c.args.most s (call_of c.args.within) p c.if-most-eq0.false) c.unfold_calls.ensures

pub unfold_calls-returns-in-Call : goal.unfold_calls-returns-in-Call
unfold_calls-returns-in-Call g t c =
    let p = process_of c.args.term.now in
    let w = c.in-Call in
    let is : p ≡ pure.Call w.equation.0 (to_expressions (expressions_of c.deref.result.now)) =
    sym c.form.ensures ∙ ap process_of_form w.is ∙ of_call g.row.A.Denot w.equation w.arguments ∙ ap (λ es. pure.Call w.equation.0 (to_expressions (expressions_of es))) (sym c.deref.ensures.value)
    in told_of p p _ _ c.call.result refl (call_unfolds (script_of_parts c.args.script.now) c.args.more (call_of c.args.within) p w.equation.0 (to_expressions (expressions_of c.deref.result.now)) is) c.call.ensures

pub unfold_calls-returns-in-Guard : goal.unfold_calls-returns-in-Guard
unfold_calls-returns-in-Guard g t c =
    let s = script_of_parts c.args.script.now in
    let p = process_of c.args.term.now in
    let w = c.in-Guard in
    let e = expression_of w.test in
    let is : p ≡ pure.Guard e (process_of w.body) = sym c.form.ensures ∙ ap process_of_form w.is ∙ of_guard g.row.A.Denot w.test w.body in
    told_of p p _ _ c.guarded.result refl (guard_unfolds s c.args.more (call_of c.args.within) p e (process_of w.body) (condition s.types e) is refl) c.guarded.ensures

pub unfold_calls-returns-in-If : goal.unfold_calls-returns-in-If
unfold_calls-returns-in-If g t c =
    let s = script_of_parts c.args.script.now in
    let p = process_of c.args.term.now in
    let w = c.in-If in
    let e = expression_of w.test in
    let is : p ≡ pure.If e (process_of w.first) (process_of w.second) = sym c.form.ensures ∙ ap process_of_form w.is ∙ of_conditional g.row.A.Denot w.test w.first w.second in
    told_of p p _ _ c.conditional.result refl (if_unfolds s c.args.more (call_of c.args.within) p e (process_of w.first) (process_of w.second) (condition s.types e) is refl) c.conditional.ensures

pub unfold_calls-returns-in_ok-sides-in-GeneralisedParallel : goal.unfold_calls-returns-in_ok-sides-in-GeneralisedParallel
unfold_calls-returns-in_ok-sides-in-GeneralisedParallel g t c =
    let s = script_of_parts c.args.script.now in
    let p = process_of c.args.term.now in
    let w = c.in-GeneralisedParallel in
    let U = unfolds s c.args.more (call_of c.args.within) in
    let l = process_of w.left in
    let r = process_of w.right in
    let q = pure.GeneralisedParallel l (event_set_of w.shared) r in
    let is : p ≡ q = sym c.form.ensures ∙ ap process_of_form w.is ∙ of_generalised g.row.A.Denot w.left w.shared w.right in
    told_of p q _ _ c.in_generalised.result is (ap U is) (c.in_generalised.ensures l (U l) r (U r) c.in_ok-sides-in-GeneralisedParallel.ensures)

pub unfold_calls-returns-in_ok-sides-in-AlphabetisedParallel : goal.unfold_calls-returns-in_ok-sides-in-AlphabetisedParallel
unfold_calls-returns-in_ok-sides-in-AlphabetisedParallel g t c =
    let s = script_of_parts c.args.script.now in
    let p = process_of c.args.term.now in
    let w = c.in-AlphabetisedParallel in
    let U = unfolds s c.args.more (call_of c.args.within) in
    let l = process_of w.left in
    let r = process_of w.right in
    let q = pure.AlphabetisedParallel l (event_set_of w.own) (event_set_of w.other) r in
    let is : p ≡ q = sym c.form.ensures ∙ ap process_of_form w.is ∙ of_alphabetised g.row.A.Denot w.left w.own w.other w.right in
    told_of p q _ _ c.in_alphabetised.result is (ap U is) (c.in_alphabetised.ensures l (U l) r (U r) c.in_ok-sides-in-AlphabetisedParallel.ensures)

pub unfold_calls-returns-in_ok-unfolded-in-Hiding : goal.unfold_calls-returns-in_ok-unfolded-in-Hiding
unfold_calls-returns-in_ok-unfolded-in-Hiding g t c =
    let s = script_of_parts c.args.script.now in
    let p = process_of c.args.term.now in
    let w = c.in-Hiding in
    let U = unfolds s c.args.more (call_of c.args.within) in
    let l = process_of w.body in
    let q = pure.Hiding l (event_set_of w.hidden) in
    let is : p ≡ q = sym c.form.ensures ∙ ap process_of_form w.is ∙ of_hiding g.row.A.Denot w.body w.hidden in
    told_of p q _ _ c.in_hiding.result is (ap U is) (c.in_hiding.ensures l (U l) c.in_ok-unfolded-in-Hiding.ensures)

pub unfold_calls-returns-in_ok-unfolded-in-Renaming : goal.unfold_calls-returns-in_ok-unfolded-in-Renaming
unfold_calls-returns-in_ok-unfolded-in-Renaming g t c =
    let s = script_of_parts c.args.script.now in
    let p = process_of c.args.term.now in
    let w = c.in-Renaming in
    let U = unfolds s c.args.more (call_of c.args.within) in
    let l = process_of w.body in
    let q = pure.Renaming l (renaming_pairs_of c.deref-in-Renaming.result.now) in
    let is : p ≡ q = sym c.form.ensures ∙ ap process_of_form w.is ∙ of_renaming g.row.A.Denot w.body w.pairs ∙ ap (λ rs. pure.Renaming l (renaming_pairs_of rs)) (sym c.deref-in-Renaming.ensures.value) in
    told_of p q _ _ c.in_renaming.result is (ap U is) (c.in_renaming.ensures l (U l) c.in_ok-unfolded-in-Renaming.ensures)

pub unfold_calls-returns-in-Replicated : goal.unfold_calls-returns-in-Replicated
unfold_calls-returns-in-Replicated g t c =
    let s = script_of_parts c.args.script.now in
    let p = process_of c.args.term.now in
    let w = c.in-Replicated in
    let is : p ≡ replicated_process w.operator w.name.0 (expression_of w.set) (process_of w.body) = sym c.form.ensures ∙ ap process_of_form w.is ∙ of_replicated g.row.A.Denot w.operator w.name w.set w.body in
    told_of p p _ _ c.replicated.result refl (replicated_unfolds s c.args.more (call_of c.args.within) p w.operator w.name.0 (expression_of w.set) (process_of w.body) is) c.replicated.ensures

pub unfold_calls-returns-in_ok-unfolded-in-SlidingChoice : goal.unfold_calls-returns-in_ok-unfolded-in-SlidingChoice
unfold_calls-returns-in_ok-unfolded-in-SlidingChoice g t c =
    let s = script_of_parts c.args.script.now in
    let p = process_of c.args.term.now in
    let w = c.in-SlidingChoice in
    let U = unfolds s c.args.more (call_of c.args.within) in
    let l = process_of w.left in
    let q = pure.SlidingChoice l (process_of w.right) in
    let is : p ≡ q = sym c.form.ensures ∙ ap process_of_form w.is ∙ of_sliding g.row.A.Denot w.left w.right in
    told_of p q _ _ c.in_sliding.result is (ap U is) (c.in_sliding.ensures l (U l) c.in_ok-unfolded-in-SlidingChoice.ensures)
