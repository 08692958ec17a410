use Rattle.std.proofs.Common.{◌∙◌, refl}
use Rattle.csp_term.specs.Term.{process_of}
use Rattle.csp_term.proofs.Fitting.{told_by_room}
use Rattle.csp_term.proofs.term.Term.fits.Goals as goal

pub returns-then-is_within_depth : goal.returns-then-is_within_depth
returns-then-is_within_depth g c = c.is_some.ensures ∙ told_by_room (process_of c.args.self.now) c.room_left.result (c.if-is_within_depth.ensures.0 refl) c.room_left.ensures
