use Rattle.std.proofs.Common.{sym, ◌∙◌}
use Rattle.csp_value.specs.Fields.{sets_of}
use Rattle.csp_term.specs.Script.{script_of_parts}
use Rattle.csp_events.proofs.Naming.{channels_differ}
use Rattle.csp_numbers.proofs.InTurn.{channels_named}
use Rattle.csp_numbers.proofs.pair.pair_of_channels.Goals as goal

pub returns-then-same_sets : goal.returns-then-same_sets
returns-then-same_sets g c =
    channels_named (script_of_parts c.args.script.now) c.args.from c.args.to (sets_of c.in_ok-sets.sets.now) (sets_of c.in_ok-others.others.now) c.in_ok-sets.ensures c.in_ok-others.ensures (sym c.same_sets.ensures ∙ c.if-same_sets.true)

pub returns-else-same_sets : goal.returns-else-same_sets
returns-else-same_sets g c =
    channels_differ (script_of_parts c.args.script.now) c.args.from.0 c.args.to.0 (sets_of c.in_ok-sets.sets.now) (sets_of c.in_ok-others.others.now) c.in_ok-sets.ensures c.in_ok-others.ensures (sym c.same_sets.ensures ∙ c.if-same_sets.false)
