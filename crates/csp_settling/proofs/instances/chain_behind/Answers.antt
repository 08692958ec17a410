-- One more instance, and the chain of all.
use Rattle.std.proofs.Common.{◌≡◌, List, map, take, sym, ◌∙◌, ap, ap₂, subst, arith}
use Rattle.std.proofs.lemmas.List.{take_all}
use Rattle.theory_syntax.specs.Operators.{binary_process}
use Rattle.theory_semantics.specs.Meaning.Chains.{left_grouped}
use Rattle.csp_term.specs.Term.{process_of}
use Rattle.csp_term.proofs.Forms.{of_binary}
use Rattle.csp_settling.proofs.Chaining.{chain_more, instance_of, instances_are}
use Rattle.csp_settling.proofs.instances.chain_behind.Goals as goal

pub loop-value-preserved : goal.loop-value-preserved
loop-value-preserved g c =
    let op = binary_process c.args.operator in
    let n = c.args.name.0 in
    let p = process_of c.args.body.now in
    c.in_ok-chain.ensures ∙ of_binary g.row.A.Denot c.args.operator c.loop-value.chain c.in_ok-next.next ∙ ap₂ op c.loop-value.invariant c.in_ok-next.ensures
    ∙ sym (chain_more op n p (process_of c.args.first) c.args.others.now c.loop-value.value-index c.value-item.result c.loop-value-test.true c.value-item.is)

pub returns : goal.returns
returns g c =
    let op = binary_process c.args.operator in
    let n = c.args.name.0 in
    let p = process_of c.args.body.now in
    let others = c.args.others.now in
    c.loop-value.invariant ∙ ap (λ vs. left_grouped op (process_of c.args.first) (map (instance_of n p) vs)) (take_all c.loop-value.value-index others (omega arith))
    ∙ ap (left_grouped op (process_of c.args.first)) (sym (instances_are n p others))
