-- What is past the limits stays so.
use Rattle.std.proofs.Common.{◌≡◌, IfOk, sym, ◌∙◌, ap, subst}
use Rattle.theory_syntax.specs.Process.{Process}
use Rattle.theory_semantics.specs.Meaning.Unfolding.{settled}
use Rattle.csp_term.specs.Script.{script_of_parts}
use Rattle.csp_term.specs.Term.{process_of}
use Rattle.csp_steps.specs.declared.rule_step.Target.{Target}
use Rattle.csp_steps.specs.Answering.{target_of, within_limits}
use Rattle.csp_steps.proofs.Targets.{is_past, past_of, stays_past, within_of}
use Rattle.csp_steps.proofs.rules.settled.settled.Goals as goal

pub returns-in-Past : goal.returns-in-Past
returns-in-Past g c p h =
    let s = script_of_parts c.args.script.now in
    let T : Target g.row.A.Denot → Type 0 = λ x. target_of x ≡ within_limits p in
    is_past (settled s p) (stays_past s p (past_of p (subst T c.in-Past.is h)))

pub returns-in-Within : goal.returns-in-Within
returns-in-Within g c p h =
    let s = script_of_parts c.args.script.now in
    let T : Target g.row.A.Denot → Type 0 = λ x. target_of x ≡ within_limits p in
    let is = within_of (process_of c.in-Within.term) p (subst T c.in-Within.is h) in
    let P : Process → Type 0 = λ q. IfOk c.settled_term.result (λ t. target_of t ≡ within_limits (settled s q)) in
    subst P is.0 (c.settled_term.ensures is.1)
