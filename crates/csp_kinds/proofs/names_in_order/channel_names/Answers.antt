-- A declaration's names come behind those of the declarations above it.
use Rattle.std.specs.Prelude.{flat_map}
use Rattle.std.proofs.Common.{[], append-nil, map, sym, ap, ◌∙◌}
use Rattle.std.proofs.lemmas.List.{map-append}
use Rattle.theory_checking.specs.Names.{ChannelName, declared_as}
use Rattle.csp_parse.specs.Declarations.{declaration_of}
use Rattle.csp_parse.specs.Names.{name_of}
use Rattle.csp_kinds.proofs.Spelling.{all_named, channels_declared, no_channels, some_more_named}
use Rattle.csp_kinds.proofs.names_in_order.channel_names.Goals as goal
use Rattle.csp_kinds.proofs.names_in_order.channel_names.Goals.{in-Channels+in_ok-extend_from_slice, in_default}

pub loop-declaration-preserved : goal.loop-declaration-preserved
loop-declaration-preserved g c =
    let ds = c.deref-declaration-items.result.now in
    let n = c.loop-declaration.declaration-index in
    let d = c.declaration-item.result in
    let old = c.loop-declaration.all in
    elim c.match-declaration.branch [
      | in-Channels+in_ok-extend_from_slice w ↦
          some_more_named (declared_as ChannelName) ds n d old.items (map name_of w.deref.result.now) c.match-declaration.all w.extend_from_slice.new.self c.loop-declaration-test.true c.declaration-item.is c.loop-declaration.invariant
          (channels_declared d w.in-Channels.names w.in-Channels.domains w.deref.result.now w.in-Channels.is w.deref.ensures.value) w.all-is
          (ap (map name_of) w.in_ok-extend_from_slice.ensures.items ∙ map-append name_of old.items w.deref.result.now)
      | in_default w ↦
          some_more_named (declared_as ChannelName) ds n d old.items [] c.match-declaration.all old c.loop-declaration-test.true c.declaration-item.is c.loop-declaration.invariant (no_channels d w.in_default.not-Channels) w.all-is
          (sym (append-nil (map name_of old.items)))
    ]

pub returns : goal.returns
returns g c =
    all_named (declared_as ChannelName) c.deref-declaration-items.result.now c.loop-declaration.declaration-index c.loop-declaration.all.items c.loop-declaration-test.false c.loop-declaration.invariant
    ∙ ap (λ ds. flat_map (declared_as ChannelName) (map declaration_of ds)) c.deref-declaration-items.ensures.value
