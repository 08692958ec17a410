use Rattle.std.proofs.Common.{arith}
use Rattle.csp_inference.proofs.Counting.{datatype_counted}
use Rattle.csp_inference.proofs.counts.Counts.add.Goals as goal

pub returns-in_ok-push-in-Datatype : goal.returns-in_ok-push-in-Datatype
returns-in_ok-push-in-Datatype g c =
    datatype_counted c.args.declaration.now c.in-Datatype.name c.in-Datatype.clauses c.deref.result.now c.args.self.now c.add_clauses.new.self c.push.new.self c.len.result c.add_clauses.result
    c.in-Datatype.is c.deref.ensures.value (omega (arith, c.len.ensures, c.in-Datatype.clauses.ok.0)) c.in_ok-push-in-Datatype.ensures.items c.add_clauses.ensures
