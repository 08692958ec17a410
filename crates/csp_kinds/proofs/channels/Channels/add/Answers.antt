-- No channel, one more, and all.
use Rattle.std.proofs.Common.{◌∙◌, ◌++◌, ◌∷◌, [], map, ap}
use Rattle.std.proofs.lemmas.List.{length-map, map-append}
use Rattle.std.specs.Prelude.{replicate}
use Rattle.csp_parse.specs.Names.{name_of}
use Rattle.csp_names.specs.Scopes.{known_sets}
use Rattle.csp_kinds.specs.Channels.{sets_in}
use Rattle.csp_kinds.specs.Looking.{fault_in}
use Rattle.csp_kinds.proofs.HeadsInTurn.{all_heads, known_some, next_head, no_heads}
use Rattle.csp_kinds.proofs.channels.Channels.add.Goals as goal

pub loop-name-init : goal.loop-name-init
loop-name-init g c = no_heads (sets_in c.args.self.now) c.args.self.now.events (known_sets c.args.sets.now)

pub loop-name-preserved : goal.loop-name-preserved
loop-name-preserved g c =
    next_head (sets_in c.args.self.now) c.args.self.now.events (known_sets c.args.sets.now) c.args.names.now c.loop-name.name-index _ c.loop-name-test.true c.events_with-own.result c.events_with-own.ensures
    (sets_in c.loop-name.self) c.loop-name.self.events (fault_in c.loop-name.fault) c.loop-name.invariant _ c.both-self.result (fault_in c.first_of-fault.result)
    (ap (map (known_sets {A = g.row.A.Denot})) c.in_ok-push.ensures.items ∙ map-append (known_sets {A = g.row.A.Denot}) c.loop-name.self.field_sets.items (c.in_ok-copy.copy ∷ []) ∙ ap (λ o. sets_in c.loop-name.self ++ o ∷ []) c.in_ok-copy.ensures)
    c.both-self.ensures (fault_in c.head_fault.result) c.is_some.result c.first_of-fault.ensures c.head_fault.ensures (c.is_some.ensures ∙ known_some c.args.sets.now)

pub returns-clause-added : goal.returns-clause-added
returns-clause-added g c =
    (all_heads (sets_in c.args.self.now) c.args.self.now.events (known_sets c.args.sets.now) c.args.names.now c.loop-name.name-index c.loop-name-test.false (sets_in c.loop-name.self) c.loop-name.self.events (fault_in c.loop-name.fault) c.loop-name.invariant).added
    ∙ ap (λ k. sets_in c.args.self.now ++ replicate k (known_sets c.args.sets.now)) (length-map c.args.names.now name_of)

pub returns-clause-heads : goal.returns-clause-heads
returns-clause-heads g c =
    (all_heads (sets_in c.args.self.now) c.args.self.now.events (known_sets c.args.sets.now) c.args.names.now c.loop-name.name-index c.loop-name-test.false (sets_in c.loop-name.self) c.loop-name.self.events (fault_in c.loop-name.fault) c.loop-name.invariant).heads

pub returns-clause-quiet : goal.returns-clause-quiet
returns-clause-quiet g c = c.loop-name.invariant.quiet
