use Rattle.std.proofs.Common.{◌∙◌}
use Rattle.csp_rows.proofs.Pools.{both_behind}
use Rattle.csp_rows.proofs.changes.join.Goals as goal

pub returns : goal.returns
returns g c =
    let old = c.args.pool.now.items in
    record {
      grown = both_behind old c.repeat.new.pool.items c.repeat-2.new.pool.items c.args.left c.args.right c.in_ok-repeat.ensures c.in_ok-repeat-2.ensures c.requires.right;
      from = c.len-from.ensures ∙ c.args.pool.now.ok.0;
      to = c.len-to.ensures ∙ c.repeat-2.new.pool.ok.0;
    }
