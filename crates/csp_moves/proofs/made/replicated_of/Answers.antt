-- By the operator.
use Rattle.std.proofs.Common.{sym, ◌∙◌, ap}
use Rattle.csp_term.specs.Term.{process_of, process_of_form}
use Rattle.csp_moves.specs.Made.{unreplicated}
use Rattle.csp_expression.specs.Expression.{expression_of}
use Rattle.csp_term.proofs.Forms.{of_replicated}
use Rattle.csp_moves.proofs.Making.{unreplicated_form}
use Rattle.csp_moves.proofs.made.replicated_of.Goals as goal

pub returns-in-Replicated : goal.returns-in-Replicated
returns-in-Replicated g c =
    let w = c.in-Replicated in
    sym (ap unreplicated (sym c.form.ensures ∙ ap process_of_form w.is ∙ of_replicated g.row.A.Denot w.operator w.name w.set w.body) ∙ unreplicated_form w.operator w.name.0 (expression_of w.set) (process_of w.body))
