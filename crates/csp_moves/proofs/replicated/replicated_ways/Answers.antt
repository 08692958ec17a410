-- Through the chain, if there is one.
use Rattle.std.proofs.Common.{[], refl, Option, subst}
use Rattle.theory_syntax.specs.Operators.{replicated_process}
use Rattle.theory_semantics.specs.Meaning.Events.{elements}
use Rattle.csp_term.specs.Term.{process_of}
use Rattle.csp_term.specs.declared.term.Term.{Term}
use Rattle.csp_moves.specs.Chains.{IsChainOf, chain_process}
use Rattle.csp_moves.specs.Way.{lent_action}
use Rattle.csp_moves.proofs.Chains.{chain_are, no_chain_are}
use Rattle.csp_moves.proofs.Found.{found_in}
use Rattle.csp_moves.proofs.replicated.replicated_ways.Goals as goal

pub returns-in_default : goal.returns-in_default
returns-in_default g c = λ s op n e p is.
    let x = lent_action c.args.action in
    let t = process_of c.args.target.now in
    let P : Option (Term g.row.A.Denot) → Type 0 = λ o. IsChainOf op n p (elements s.types e) (chain_process o) in
    found_in s (replicated_process op n e p) x t c.no_ways.result _ [] c.no_ways.ensures refl (no_chain_are s op n e p x t (subst P c.in_default.is is))

pub returns : goal.returns
returns g c = λ s op n e p is.
    let x = lent_action c.args.action in
    let t = process_of c.args.target.now in
    let P : Option (Term g.row.A.Denot) → Type 0 = λ o. IsChainOf op n p (elements s.types e) (chain_process o) in
    found_in s (replicated_process op n e p) x t c.one_way.result _ _ c.one_way.ensures refl (chain_are s op n e p x t (process_of c.in-Some.term) (subst P c.in-Some.is is))
