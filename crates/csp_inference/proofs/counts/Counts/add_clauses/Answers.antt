use Rattle.std.proofs.Common.{map, subst, arith}
use Rattle.std.proofs.lemmas.List.{take_all}
use Rattle.csp_parse.specs.Declarations.{clause_of}
use Rattle.csp_inference.specs.Counts.{AddsClauses}
use Rattle.csp_inference.proofs.Counting.{clause_step, clauses_at_first}
use Rattle.csp_inference.proofs.counts.Counts.add_clauses.Goals as goal

pub loop-clause-init : goal.loop-clause-init
loop-clause-init g c = clauses_at_first c.args.self.now

pub loop-clause-preserved : goal.loop-clause-preserved
loop-clause-preserved g c =
    clause_step c.args.clauses.now c.loop-clause.clause-index c.clause-item.result c.args.self.now c.loop-clause.self c.push.new.self c.len.result c.loop-clause-test.true c.clause-item.is
    (omega (arith, c.len.ensures, c.clause-item.result.fields.ok.0)) c.in_ok-push.ensures.items c.loop-clause.invariant

pub returns : goal.returns
returns g c =
    subst (λ cs. AddsClauses (map clause_of cs) c.args.self.now c.loop-clause.self) (take_all c.loop-clause.clause-index c.args.clauses.now c.loop-clause-test.false) c.loop-clause.invariant
