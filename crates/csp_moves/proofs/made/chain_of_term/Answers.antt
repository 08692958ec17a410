-- Of the replicated form, if it is one.
use Rattle.std.proofs.Common.{IfOk, subst, Option, None}
use Rattle.csp_term.specs.Script.{script_of_parts}
use Rattle.csp_moves.specs.Made.{Form, IsChainIn}
use Rattle.csp_moves.specs.Chains.{chain_process}
use Rattle.csp_moves.proofs.made.chain_of_term.Goals as goal

pub returns-in_default : goal.returns-in_default
returns-in_default g c =
    let s = script_of_parts c.args.script.now in
    let P : Option Form → Type 0 = λ o. IsChainIn s o None in subst P c.in_default.ensures tt

pub returns : goal.returns
returns g c =
    let s = script_of_parts c.args.script.now in
    let P : Option Form → Type 0 = λ o. IfOk c.chain_of.result (λ chain. IsChainIn s o (chain_process chain)) in subst P c.in-Some.ensures c.chain_of.ensures
