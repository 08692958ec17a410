-- The term, if it is within the limits.
use Rattle.std.proofs.Common.{sym, ◌∙◌}
use Rattle.csp_term.specs.Term.{process_of}
use Rattle.csp_steps.proofs.Targets.{is_past, is_within}
use Rattle.csp_steps.proofs.rules.settled.within.Goals as goal

pub returns-then-fits : goal.returns-then-fits
returns-then-fits g c = is_within (process_of c.args.term) (sym c.fits.ensures ∙ c.if-fits.true)

pub returns-else-fits : goal.returns-else-fits
returns-else-fits g c = is_past (process_of c.args.term) (sym c.fits.ensures ∙ c.if-fits.false)
