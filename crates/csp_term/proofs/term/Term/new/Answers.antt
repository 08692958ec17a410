-- The form is put behind a pointer as it is.
use Rattle.std.proofs.Common.{◌∙◌, ap}
use Rattle.csp_term.specs.Term.{process_of_form}
use Rattle.csp_term.proofs.Forms.{of_made}
use Rattle.csp_term.proofs.term.Term.new.Goals as goal

pub returns : goal.returns
returns g c = of_made g.row.A.Denot c.in_ok-form.form ∙ ap process_of_form c.in_ok-form.ensures.ok
