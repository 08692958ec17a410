-- The parts make the tree's script.
use Rattle.std.specs.Prelude.{length}
use Rattle.std.proofs.Common.{sym, ap, ◌∙◌}
use Rattle.csp_parse.specs.Declarations as tree
use Rattle.csp_kinds.specs.Spellings.{encoded}
use Rattle.csp_kinds.proofs.Making.{script_made, sets_as_many}
use Rattle.csp_kinds.proofs.parts.make_parts.Goals as goal

pub channels-requires : goal.channels-requires
channels-requires g c = record {
  as_many = sets_as_many (tree.script_of c.args.raw.now) c.args.field_sets.items c.in_ok-channel_names.field-0.items c.requires.sets c.in_ok-channel_names.ensures ∙ sym (ap length c.deref-2.ensures.value);
  known = c.requires.sets.known;
}

pub returns : goal.returns
returns g c =
    script_made (tree.script_of c.args.raw.now) c.args.types c.args.field_sets.items c.args.items c.in_ok-constructors.constructors c.in_ok-channels.channels c.in_ok-constructor_names.field-0.items c.in_ok-channel_names.field-0.items c.requires.types c.requires.sets c.requires.items
    c.in_ok-constructor_names.ensures (c.in_ok-constructors.ensures ∙ ap encoded c.deref.ensures.value) c.in_ok-channel_names.ensures (c.in_ok-channels.ensures.spellings ∙ ap encoded c.deref-2.ensures.value) c.in_ok-channels.ensures.sets
