-- The parts are handed out.
use Rattle.csp_kinds.proofs.Finishing.{finished}
use Rattle.csp_kinds.proofs.pass.SetsSoFar.into_sets.Goals as goal

pub returns : goal.returns
returns g c raw h = finished raw c.args.self h
