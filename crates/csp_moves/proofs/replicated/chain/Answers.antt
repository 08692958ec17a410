-- One more instance, and the chain of all.
use Rattle.std.proofs.Common.{◌≡◌, ◌+◌, ◌∷◌, ◌++◌, [], List, take, sym, ◌∙◌, ap, ap₂, subst, arith}
use Rattle.std.proofs.lemmas.List.{map-append, take_all, take_more}
use Rattle.theory_semantics.specs.Meaning.Events.{instances}
use Rattle.theory_semantics.specs.Meaning.Substitution.{put}
use Rattle.theory_semantics.specs.Meaning.Transitions.{left_grouped}
use Rattle.csp_value.specs.declared.value.Value.{Value}
use Rattle.csp_value.specs.Value.{value_of, values_of}
use Rattle.csp_term.specs.Term.{process_of}
use Rattle.csp_term.proofs.Forms.{of_binary}
use Rattle.csp_moves.specs.Chains.{linked}
use Rattle.csp_moves.proofs.Chains.{chain_linked, grouped_more, instances_more}
use Rattle.csp_moves.proofs.replicated.chain.Goals as goal

pub loop-value-init : goal.loop-value-init
loop-value-init g c = c.in_ok-chain.ensures

pub loop-value-preserved : goal.loop-value-preserved
loop-value-preserved g c =
    let op = c.args.process.operator in
    let n = c.args.process.name.0 in
    let p = process_of c.args.process.body.now in
    let items = c.args.others.now in
    let i = c.loop-value.value-index in
    let item = c.value-item.result in
    let first = put ((n, value_of c.args.first.now) ∷ []) p in
    let next = put ((n, value_of item) ∷ []) p in
    let more : instances n p (values_of (take (i + 1) items)) ≡ instances n p (values_of (take i items)) ++ next ∷ [] =
    ap (λ vs. instances n p (values_of vs)) (take_more items i item c.loop-value-test.true ∙ ap (λ v. take i items ++ v ∷ []) (sym c.value-item.is))
    ∙ ap (instances n p) (map-append value_of (take i items) (item ∷ [])) ∙ instances_more n p (values_of (take i items)) (value_of item) in
    c.in_ok-chain-2.ensures ∙ of_binary g.row.A.Denot c.between-operator.result c.loop-value.chain c.in_ok-next.next ∙ c.between-operator.ensures (process_of c.loop-value.chain) (process_of c.in_ok-next.next)
    ∙ ap₂ (linked op) c.loop-value.invariant c.in_ok-next.ensures ∙ sym (grouped_more (linked op) first (instances n p (values_of (take i items))) next) ∙ ap (left_grouped (linked op) first) (sym more)

pub returns : goal.returns
returns g c =
    let op = c.args.process.operator in
    let n = c.args.process.name.0 in
    let p = process_of c.args.process.body.now in
    let first = put ((n, value_of c.args.first.now) ∷ []) p in
    let P : List (Value g.row.A.Denot) → Type 0 = λ vs. process_of c.loop-value.chain ≡ left_grouped (linked op) first (instances n p (values_of vs)) in
    subst P (take_all c.loop-value.value-index c.args.others.now (omega arith)) c.loop-value.invariant ∙ sym (chain_linked op first (instances n p (values_of c.args.others.now)))
