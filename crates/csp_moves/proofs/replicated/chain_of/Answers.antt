-- The chain of the members, if there are such.
use Rattle.std.proofs.Common.{Ok, sym, ◌∙◌, ap}
use Rattle.csp_value.specs.Value.{values_of}
use Rattle.csp_moves.proofs.replicated.chain_of.Goals as goal

pub returns-in_default : goal.returns-in_default
returns-in_default g c = rw c.in_default.is at c.in_ok-found.ensures

pub returns : goal.returns
returns g c =
    let found = rw c.in-Some.is at c.in_ok-found.ensures in
    (values_of c.members.result.now, found ∙ ap Ok (sym c.members.ensures), c.in_ok-chain_of_values.ensures)
