-- A declaration's names come behind those of the declarations above it.
use Rattle.std.specs.Prelude.{flat_map}
use Rattle.std.proofs.Common.{[], append-nil, map, sym, ap, ◌∙◌}
use Rattle.theory_checking.specs.Names.{ConstructorName, clause_names, declared_as}
use Rattle.csp_parse.specs.Declarations.{clause_of, declaration_of}
use Rattle.csp_parse.specs.Names.{name_of}
use Rattle.csp_kinds.proofs.Spelling.{all_named, constructors_declared, no_constructors, some_more_named}
use Rattle.csp_kinds.proofs.names_in_order.constructor_names.Goals as goal
use Rattle.csp_kinds.proofs.names_in_order.constructor_names.Goals.{in-Datatype+in_ok-add_clauses, in_default}

pub loop-declaration-preserved : goal.loop-declaration-preserved
loop-declaration-preserved g c =
    let ds = c.deref-declaration-items.result.now in
    let n = c.loop-declaration.declaration-index in
    let d = c.declaration-item.result in
    let old = c.loop-declaration.all in
    elim c.match-declaration.branch [
      | in-Datatype+in_ok-add_clauses w ↦
          some_more_named (declared_as ConstructorName) ds n d old.items (clause_names (map clause_of w.deref.result.now)) c.match-declaration.all w.add_clauses.new.all c.loop-declaration-test.true c.declaration-item.is
          c.loop-declaration.invariant (constructors_declared d w.in-Datatype.name w.in-Datatype.clauses w.deref.result.now w.in-Datatype.is w.deref.ensures.value) w.all-is w.in_ok-add_clauses.ensures
      | in_default w ↦
          some_more_named (declared_as ConstructorName) ds n d old.items [] c.match-declaration.all old c.loop-declaration-test.true c.declaration-item.is c.loop-declaration.invariant (no_constructors d w.in_default.not-Datatype) w.all-is
          (sym (append-nil (map name_of old.items)))
    ]

pub returns : goal.returns
returns g c =
    all_named (declared_as ConstructorName) c.deref-declaration-items.result.now c.loop-declaration.declaration-index c.loop-declaration.all.items c.loop-declaration-test.false c.loop-declaration.invariant
    ∙ ap (λ ds. flat_map (declared_as ConstructorName) (map declaration_of ds)) c.deref-declaration-items.ensures.value
