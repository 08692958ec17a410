-- The ways of each form.
use Rattle.std.proofs.Common.{◌≡◌, IfOk, sym, ◌∙◌, ap, subst, Option}
use Rattle.std.specs.Option.{is_some}
use Rattle.theory_syntax.specs.Expression.{to_expressions}
use Rattle.theory_syntax.specs.Operators.{binary_process, replicated_process}
use Rattle.theory_syntax.specs.Process as pure
use Rattle.theory_syntax.specs.Process.{Process}
use Rattle.csp_events.specs.Events.{event_set_of, renaming_pairs_of}
use Rattle.csp_expression.specs.Expression.{expression_of, expressions_of}
use Rattle.csp_term.specs.Field.{fields_of}
use Rattle.csp_term.specs.Script.{script_of_parts}
use Rattle.csp_term.specs.Term.{process_of, process_of_form}
use Rattle.csp_term.proofs.Forms.{of_alphabetised, of_binary, of_call, of_conditional, of_generalised, of_guard, of_hiding, of_omega_term, of_prefix, of_renaming, of_replicated, of_skip, of_sliding, of_stop}
use Rattle.csp_moves.specs.Chains.{chain_process}
use Rattle.csp_moves.specs.Frames.{unframed}
use Rattle.csp_moves.specs.Made.{Form, IsChainIn, unreplicated}
use Rattle.csp_moves.specs.Way.{AreFoundIn, lent_action}
use Rattle.csp_moves.specs.Sides.{taken_apart}
use Rattle.csp_moves.proofs.Apart.{binary_apart}
use Rattle.csp_moves.proofs.Found.{if_so}
use Rattle.csp_moves.proofs.Making.{unreplicated_form}
use Rattle.csp_moves.proofs.ways.ways_of_step.Goals as goal

pub returns-in-Stop : goal.returns-in-Stop
returns-in-Stop g c =
    let s = script_of_parts c.args.script.now in
    let x = lent_action c.args.action in
    let t = process_of c.args.target.now in
    let is : process_of c.args.term.now ≡ pure.Stop = sym c.form.ensures ∙ ap process_of_form c.in-Stop.is ∙ of_stop g.row.A.Denot in
    let P : Process → Type 0 = λ p. IfOk c.idle_ways.result (AreFoundIn s p x t) in
    subst P (sym is) (if_so c.idle_ways.result (c.idle_ways.ensures.stop x t) (λ ways f. f s))

pub returns-in-Omega : goal.returns-in-Omega
returns-in-Omega g c =
    let s = script_of_parts c.args.script.now in
    let x = lent_action c.args.action in
    let t = process_of c.args.target.now in
    let is : process_of c.args.term.now ≡ pure.Omega = sym c.form.ensures ∙ ap process_of_form c.in-Omega.is ∙ of_omega_term g.row.A.Denot in
    let P : Process → Type 0 = λ p. IfOk c.idle_ways-in-Omega.result (AreFoundIn s p x t) in
    subst P (sym is) (if_so c.idle_ways-in-Omega.result (c.idle_ways-in-Omega.ensures.ended x t) (λ ways f. f s))

pub returns-in-Skip : goal.returns-in-Skip
returns-in-Skip g c =
    let s = script_of_parts c.args.script.now in
    let x = lent_action c.args.action in
    let t = process_of c.args.target.now in
    let is : process_of c.args.term.now ≡ pure.Skip = sym c.form.ensures ∙ ap process_of_form c.in-Skip.is ∙ of_skip g.row.A.Denot in
    let P : Process → Type 0 = λ p. IfOk c.skip_ways.result (AreFoundIn s p x t) in
    subst P (sym is) (if_so c.skip_ways.result c.skip_ways.ensures (λ ways f. f s))

pub returns-in-Guard : goal.returns-in-Guard
returns-in-Guard g c =
    let s = script_of_parts c.args.script.now in
    let x = lent_action c.args.action in
    let t = process_of c.args.target.now in
    let w = c.in-Guard in
    let is : process_of c.args.term.now ≡ pure.Guard (expression_of w.test) (process_of w.body) = sym c.form.ensures ∙ ap process_of_form w.is ∙ of_guard g.row.A.Denot w.test w.body in
    let P : Process → Type 0 = λ p. IfOk c.guard_ways.result (AreFoundIn s p x t) in
    subst P (sym is) c.guard_ways.ensures

pub returns-in-If : goal.returns-in-If
returns-in-If g c =
    let s = script_of_parts c.args.script.now in
    let x = lent_action c.args.action in
    let t = process_of c.args.target.now in
    let w = c.in-If in
    let is : process_of c.args.term.now ≡ pure.If (expression_of w.test) (process_of w.first) (process_of w.second) = sym c.form.ensures ∙ ap process_of_form w.is ∙ of_conditional g.row.A.Denot w.test w.first w.second in
    let P : Process → Type 0 = λ p. IfOk c.conditional_ways.result (AreFoundIn s p x t) in
    subst P (sym is) c.conditional_ways.ensures

pub call_ways-requires : goal.call_ways-requires
call_ways-requires g c =
    let w = c.in-Call in
    (to_expressions (expressions_of w.field-1.items), sym c.form.ensures ∙ ap process_of_form w.is ∙ of_call g.row.A.Denot w.equation w.field-1)

pub prefix_ways-requires : goal.prefix_ways-requires
prefix_ways-requires g c =
    let w = c.in-Prefix in
    (w.field-0.0, fields_of w.field-1.items, process_of w.field-2, sym c.form.ensures ∙ ap process_of_form w.is ∙ of_prefix g.row.A.Denot w.field-0 w.field-1 w.field-2)

pub returns-in-Replicated : goal.returns-in-Replicated
returns-in-Replicated g c =
    let s = script_of_parts c.args.script.now in
    let x = lent_action c.args.action in
    let t = process_of c.args.target.now in
    let w = c.in-Replicated in
    let op = w.field-0 in
    let n = w.field-1.0 in
    let e = expression_of w.field-2 in
    let p = process_of w.field-3 in
    let is : process_of c.args.term.now ≡ replicated_process op n e p = sym c.form.ensures ∙ ap process_of_form w.is ∙ of_replicated g.row.A.Denot w.field-0 w.field-1 w.field-2 w.field-3 in
    let E : Process → Type 0 = λ q. IsChainIn s (unreplicated q) (chain_process c.args.made.now.chain) in
    let F : Option Form → Type 0 = λ o. IsChainIn s o (chain_process c.args.made.now.chain) in
    let P : Process → Type 0 = λ q. IfOk c.replicated_ways.result (AreFoundIn s q x t) in
    subst P (sym is) (c.replicated_ways.ensures s op n e p (subst F (unreplicated_form op n e p) (subst E is c.requires.made.chain)))

pub joined_ways-requires : goal.joined_ways-requires
joined_ways-requires g c =
    let w = c.in-Binary in
    let is : process_of c.args.term.now ≡ binary_process w.field-0 (process_of w.field-1) (process_of w.field-2) = sym c.form.ensures ∙ ap process_of_form w.is ∙ of_binary g.row.A.Denot w.field-0 w.field-1 w.field-2 in
    record { joined = ap (λ q. is_some (taken_apart q)) is ∙ binary_apart w.field-0 (process_of w.field-1) (process_of w.field-2); within = c.requires.within; made = c.requires.made }

pub joined_ways-requires-in-GeneralisedParallel : goal.joined_ways-requires-in-GeneralisedParallel
joined_ways-requires-in-GeneralisedParallel g c =
    let w = c.in-GeneralisedParallel in
    let is : process_of c.args.term.now ≡ pure.GeneralisedParallel (process_of w.field-0) (event_set_of w.field-1) (process_of w.field-2) = sym c.form.ensures ∙ ap process_of_form w.is ∙ of_generalised g.row.A.Denot w.field-0 w.field-1 w.field-2 in
    record { joined = ap (λ q. is_some (taken_apart q)) is; within = c.requires.within; made = c.requires.made }

pub joined_ways-requires-in-AlphabetisedParallel : goal.joined_ways-requires-in-AlphabetisedParallel
joined_ways-requires-in-AlphabetisedParallel g c =
    let w = c.in-AlphabetisedParallel in
    let is : process_of c.args.term.now ≡ pure.AlphabetisedParallel (process_of w.field-0) (event_set_of w.field-1) (event_set_of w.field-2) (process_of w.field-3) = sym c.form.ensures ∙ ap process_of_form w.is ∙ of_alphabetised g.row.A.Denot w.field-0 w.field-1 w.field-2 w.field-3 in
    record { joined = ap (λ q. is_some (taken_apart q)) is; within = c.requires.within; made = c.requires.made }

pub joined_ways-requires-in-SlidingChoice : goal.joined_ways-requires-in-SlidingChoice
joined_ways-requires-in-SlidingChoice g c =
    let w = c.in-SlidingChoice in
    let is : process_of c.args.term.now ≡ pure.SlidingChoice (process_of w.field-0) (process_of w.field-1) = sym c.form.ensures ∙ ap process_of_form w.is ∙ of_sliding g.row.A.Denot w.field-0 w.field-1 in
    record { joined = ap (λ q. is_some (taken_apart q)) is; within = c.requires.within; made = c.requires.made }

pub framed_ways-requires : goal.framed_ways-requires
framed_ways-requires g c =
    let w = c.in-Hiding in
    let is : process_of c.args.term.now ≡ pure.Hiding (process_of w.field-0) (event_set_of w.field-1) = sym c.form.ensures ∙ ap process_of_form w.is ∙ of_hiding g.row.A.Denot w.field-0 w.field-1 in
    record { framed = ap (λ q. is_some (unframed q)) is; made = c.requires.made }

pub framed_ways-requires-in-Renaming : goal.framed_ways-requires-in-Renaming
framed_ways-requires-in-Renaming g c =
    let w = c.in-Renaming in
    let is : process_of c.args.term.now ≡ pure.Renaming (process_of w.field-0) (renaming_pairs_of w.field-1.items) = sym c.form.ensures ∙ ap process_of_form w.is ∙ of_renaming g.row.A.Denot w.field-0 w.field-1 in
    record { framed = ap (λ q. is_some (unframed q)) is; made = c.requires.made }
