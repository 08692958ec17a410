-- The text by the evidence.
use Rattle.std.proofs.Common.{◌++◌, map, sym, ◌∙◌, ap}
use Rattle.std.specs.String.{string_bytes}
use Rattle.csp_value.specs.Action.{action_of}
use Rattle.verdict.specs.Outcome.{evidence_of}
use Rattle.verdict.specs.declared.shown.Evidence.{Evidence}
use Rattle.theory_explanation.specs.Counterparts.{lack_text}
use Rattle.csp_print.specs.Names.{names_of}
use Rattle.csp_replay.specs.Offers.{offers_listed}
use Rattle.counterexample.proofs.lacks.push_lack.Goals as goal

pub returns-in_ok-push_initials-in-Event : goal.returns-in_ok-push_initials-in-Event
returns-in_ok-push_initials-in-Event g c =
    c.in_ok-push_initials-in-Event.ensures
    ∙ ap (λ (e : Evidence g.row.A.Denot). string_bytes c.args.text.now ++ lack_text (names_of c.args.names.now) (evidence_of e) (map action_of c.args.initials.now) (offers_listed c.args.acceptances.now)) (sym c.in-Event.is)
