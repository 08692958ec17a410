-- A term stands for what its form does.
use Rattle.std.proofs.Common.{sym, ◌∙◌, ap}
use Rattle.csp_term.specs.Term.{process_of_form}
use Rattle.csp_term.proofs.Forms.{of_form}
use Rattle.csp_term.proofs.term.Term.form.Goals as goal

pub returns : goal.returns
returns g c = ap process_of_form c.deref.ensures ∙ sym (of_form g.row.A.Denot c.args.self.now)
