-- No field, one more, and all.
use Rattle.std.proofs.Common.{refl, ◌++◌, ◌∷◌, [], arith}
use Rattle.std.specs.Prelude.{map, take}
use Rattle.theory_text.specs.Raw.{RawChannels}
use Rattle.csp_parse.specs.Declarations.{domain_of}
use Rattle.csp_kinds.proofs.FieldsInTurn.{all_fields, no_fields, one_field}
use Rattle.csp_kinds.proofs.Fitting.{fit_open}
use Rattle.csp_kinds.proofs.fields.look_at_fields.Goals as goal

pub loop-field-init : goal.loop-field-init
loop-field-init g c next = no_fields c.args.above.now c.args.fit.now c.args.first c.args.channels c.args.domains.now next _ c.new.ensures.items refl refl

pub add-requires : goal.add-requires
add-requires g c = fit_open c.requires.raw (c.requires.above ++ RawChannels c.requires.names (map domain_of (take c.loop-field.field c.args.domains.now)) ∷ [])
    c.loop-field.fit (c.loop-field.invariant c.requires).known

pub loop-field-preserved : goal.loop-field-preserved
loop-field-preserved g c next =
    one_field c.args.above.now c.args.fit.now c.args.first c.args.channels c.args.domains.now next c.loop-field.field c.index-domains-field.result c.loop-field-test.true c.index-domains-field.is
    (record { first = c.args.first; channels = c.args.channels; field = c.loop-field.field }) refl refl refl c.loop-field.fields c.add.new.self
    c.loop-field.fit c.add.new.fit c.in_ok-add.ensures (c.loop-field.invariant next)

pub returns : goal.returns
returns g c next = all_fields c.args.above.now c.args.fit.now c.args.first c.args.channels c.args.domains.now next c.loop-field.field c.loop-field.fields
    c.loop-field.fit (omega arith) (c.loop-field.invariant next)
