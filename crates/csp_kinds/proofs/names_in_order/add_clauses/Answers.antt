-- The name of one clause more.
use Rattle.std.proofs.Common.{append-nil, map, sym}
use Rattle.csp_parse.specs.Names.{name_of}
use Rattle.csp_kinds.proofs.Spelling.{all_clauses, one_more_clause}
use Rattle.csp_kinds.proofs.names_in_order.add_clauses.Goals as goal

pub loop-clause-init : goal.loop-clause-init
loop-clause-init g c = sym (append-nil (map name_of c.args.all.now.items))

pub loop-clause-preserved : goal.loop-clause-preserved
loop-clause-preserved g c =
    one_more_clause (map name_of c.args.all.now.items) c.args.clauses.now c.loop-clause.clause-index c.clause-item.result c.loop-clause.all.items c.push.new.self.items c.loop-clause-test.true c.clause-item.is c.loop-clause.invariant
    c.in_ok-push.ensures.items

pub returns : goal.returns
returns g c = all_clauses (map name_of c.args.all.now.items) c.args.clauses.now c.loop-clause.clause-index c.loop-clause.all.items c.loop-clause-test.false c.loop-clause.invariant
