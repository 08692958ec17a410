-- Split twice, the second time what stands behind the first.
use Rattle.watch.proofs.Splitting.{between, in_parts}
use Rattle.watch.proofs.memory.between.Goals as goal

pub returns : goal.returns
returns c =
    let before = c.in_ok-behind.field-0-0.now in
    let behind = c.in_ok-behind.behind.now in
    let middle = c.in_ok-middle.middle.now in
    let after = c.in_ok-middle.field-0-1.now in
    between c.args.text.now c.args.opening.now c.args.closing.now before behind middle after (in_parts c.args.opening.now c.args.text.now before behind c.in_ok-behind.ensures.cases)
    (in_parts c.args.closing.now behind middle after c.in_ok-middle.ensures.cases)
