-- Each side does all alone.
use Rattle.std.proofs.Common.{refl}
use Rattle.csp_term.specs.Term.{process_of}
use Rattle.csp_moves.specs.Way.{lent_action}
use Rattle.csp_moves.proofs.Parallel.{all_free, interleaving_all}
use Rattle.csp_moves.proofs.interleaving.interleaving_ways.Goals as goal

pub returns : goal.returns
returns g c =
    interleaving_all (process_of c.args.left.now) (process_of c.args.right.now) (process_of c.args.target.now) _ (lent_action c.args.action) c.parallel_ways.result
    (all_free (lent_action c.args.action) _ refl refl refl) c.parallel_ways.ensures
