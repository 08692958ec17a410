-- What the set stands for is decided by the types and the channels.
use Rattle.std.proofs.Common.{map, refl, ap, subst}
use Rattle.theory_semantics.proofs.Declared.{same_test}
use Rattle.csp_events.specs.Channels.{declaring, field_sets_of}
use Rattle.csp_events.specs.Events.{event_set_of}
use Rattle.csp_events.specs.Testing.{IsTestOf}
use Rattle.csp_term.specs.Script.{script_of_parts}
use Rattle.csp_term.proofs.script.ScriptParts.event_test.Goals as goal

pub returns : goal.returns
returns g c =
    let s = c.args.self.now in
    let channels = c.deref.result.now in
    subst (IsTestOf c.of.result) (same_test (declaring s.types channels) (script_of_parts s) refl (ap (map field_sets_of) c.deref.ensures.value) (event_set_of c.args.set.now)) c.of.ensures
