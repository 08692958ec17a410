use Rattle.csp_inference.proofs.AskingScripts.{name_more, names_all}
use Rattle.csp_inference.proofs.items.number_parameters.Goals as goal

pub loop-index-preserved : goal.loop-index-preserved
loop-index-preserved g c =
    name_more c.loop-index.names.items c.push.new.self.items c.args.parameters.now c.args.numbers.now c.loop-index.index _ _ c.loop-index-test.true c.requires
    c.loop-index.invariant c.in_ok-push.ensures.items

pub returns : goal.returns
returns g c = names_all c.loop-index.names.items c.args.parameters.now c.args.numbers.now c.loop-index.index c.loop-index-test.false c.loop-index.invariant
