use Rattle.std.proofs.Common.{◌∙◌, sym}
use Rattle.csp_events.specs.Events.{renaming_pair_of}
use Rattle.csp_term.specs.Script.{script_of_parts}
use Rattle.csp_inference.specs.Numbering.{names_of, numbering_of}
use Rattle.csp_inference.proofs.AskingRenamings.{asked_both}
use Rattle.csp_inference.proofs.equations.Equations.ask_pair.Goals as goal

pub returns : goal.returns
returns g c =
    asked_both (script_of_parts c.args.script.now) (numbering_of c.args.numbering.now) (names_of c.args.names.now) c.args.self.now c.ask_event.new.self
    c.ask_event-2.new.self (renaming_pair_of c.args.pair.now) (sym c.are_bare_alike.ensures ∙ c.if-are_bare_alike.false) c.in_ok-ask_event.ensures
    c.in_ok-ask_event-2.ensures
