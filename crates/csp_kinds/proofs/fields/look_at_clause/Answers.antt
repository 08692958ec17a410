-- No field, one more, and all.
use Rattle.std.proofs.Common.{refl, arith}
use Rattle.std.specs.Prelude.{map, take}
use Rattle.theory_checking.specs.Sites.{with_clause}
use Rattle.csp_parse.specs.Declarations.{domain_of}
use Rattle.csp_kinds.proofs.ClauseTurns.{all_clause_fields, no_clause_fields, one_clause_field}
use Rattle.csp_kinds.proofs.Fitting.{fit_open}
use Rattle.csp_kinds.proofs.fields.look_at_clause.Goals as goal

pub loop-field-init : goal.loop-field-init
loop-field-init g c next = no_clause_fields c.args.above.now c.args.fit.now c.args.constructor c.args.domains.now next _ c.new.ensures.items refl refl

pub add_of_clause-requires : goal.add_of_clause-requires
add_of_clause-requires g c =
    fit_open c.requires.raw (with_clause c.requires.above c.requires.name c.requires.clauses c.requires.c
    (map domain_of (take c.loop-field.field c.args.domains.now))) c.loop-field.fit (c.loop-field.invariant c.requires).known

pub loop-field-preserved : goal.loop-field-preserved
loop-field-preserved g c next =
    one_clause_field c.args.above.now c.args.fit.now c.args.constructor c.args.domains.now next c.loop-field.field c.index-domains-field.result c.loop-field-test.true c.index-domains-field.is
    c.loop-field.fields c.add_of_clause.new.self c.loop-field.fit c.add_of_clause.new.fit c.in_ok-add_of_clause.ensures (c.loop-field.invariant next)

pub returns : goal.returns
returns g c next = all_clause_fields c.args.above.now c.args.fit.now c.args.constructor c.args.domains.now next c.loop-field.field c.loop-field.fields
    c.loop-field.fit (omega arith) (c.loop-field.invariant next)
