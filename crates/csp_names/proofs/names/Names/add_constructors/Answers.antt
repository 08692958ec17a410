use Rattle.std.proofs.Common.{[], ◌∙◌, length, map, refl}
use Rattle.theory_checking.specs.DeclaredRows.{numbered_rows}
use Rattle.theory_checking.specs.Names.{ConstructorName, clause_names}
use Rattle.csp_parse.specs.Declarations.{clause_of}
use Rattle.csp_names.specs.FirstPass.{AddsNames, clause_counts}
use Rattle.csp_names.proofs.ConstructorsAdded.{all_constructors, constructor_redeclared, one_more_constructor}
use Rattle.csp_names.proofs.NamesAdded.{nothing_added}
use Rattle.csp_names.proofs.Walking.{handed_on}
use Rattle.csp_names.proofs.names.Names.add_constructors.Goals as goal

pub loop-clause-init : goal.loop-clause-init
loop-clause-init g c = nothing_added c.args.self.now

pub returns-in_err-add : goal.returns-in_err-add
returns-in_err-add g c =
    let cs = map clause_of c.args.clauses.now in
    handed_on (AddsNames c.args.self.now c.add.new.self (numbered_rows ConstructorName (length c.args.self.now.constructors.items) (clause_names cs)) (clause_names cs) [] (clause_counts cs) [])
    c.from_residual-in_err-add.result c.in_err-add.field-0.0 c.from_residual-in_err-add.ensures
    (constructor_redeclared c.args.clauses.now c.loop-clause.clause-index c.clause-item.result c.loop-clause-test.true c.clause-item.is c.args.self.now c.loop-clause.self c.in_err-add.field-0.0
    c.loop-clause.invariant c.in_err-add.ensures)

pub loop-clause-preserved : goal.loop-clause-preserved
loop-clause-preserved g c =
    one_more_constructor c.args.clauses.now c.loop-clause.clause-index c.clause-item.result c.loop-clause-test.true c.clause-item.is c.args.self.now c.loop-clause.self c.add.new.self _
    c.in_ok-number.number c.len-in-loop-clause.result c.loop-clause.invariant (c.in_ok-number.ensures.number ∙ c.len.ensures) c.in_ok-add.ensures c.len-in-loop-clause.ensures refl refl c.in_ok-push.ensures.items refl

pub returns : goal.returns
returns g c = all_constructors c.args.clauses.now c.loop-clause.clause-index c.args.self.now c.loop-clause.self c.loop-clause-test.false c.loop-clause.invariant
