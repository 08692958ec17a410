-- The field sets are those of the channels, whatever the types.
use Rattle.std.proofs.Common.{map, refl, ap, subst}
use Rattle.theory_semantics.proofs.Declared.{same_fields}
use Rattle.csp_events.specs.Channels.{declaring, field_sets_of}
use Rattle.csp_events.specs.Testing.{AreSetsOf}
use Rattle.csp_term.specs.Script.{script_of_parts}
use Rattle.csp_term.proofs.script.ScriptParts.field_sets.Goals as goal

pub returns : goal.returns
returns g c =
    let s = c.args.self.now in
    let channels = c.deref.result.now in
    subst (AreSetsOf c.field_sets.result) (same_fields (declaring s.types channels) (script_of_parts s) refl (ap (map field_sets_of) c.deref.ensures.value) c.args.channel.0) (c.field_sets.ensures s.types)
