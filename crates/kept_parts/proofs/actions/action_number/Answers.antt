use Rattle.std.proofs.Common.{sym, ◌∙◌, ap}
use Rattle.std.proofs.lemmas.Option.{get_or_from_slice_get, slice_get_within}
use Rattle.theory_syntax.specs.Value.{Ev}
use Rattle.csp_value.specs.Action.{action_of, event_of}
use Rattle.csp_numbers.specs.Numbers.{no_event}
use Rattle.kept_parts.proofs.actions.action_number.Goals as goal

pub returns-in-Some-clause-value : goal.returns-in-Some-clause-value
returns-in-Some-clause-value g c = ap Ev (get_or_from_slice_get c.args.alphabet.now c.in-Some.number.0 (event_of c.in-Event.event) no_event c.in-Some.ensures) ∙ sym (ap action_of c.in-Event.is)

pub returns-in-Some-clause-numbered : goal.returns-in-Some-clause-numbered
returns-in-Some-clause-numbered g c = slice_get_within c.args.alphabet.now c.in-Some.number.0 (event_of c.in-Event.event) c.in-Some.ensures
