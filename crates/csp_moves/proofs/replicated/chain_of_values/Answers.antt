-- Of no value, and of at least one.
use Rattle.std.proofs.Common.{◌≡◌, ◌∷◌, [], IfOk, List, length, refl, sym, subst}
use Rattle.theory_semantics.specs.Meaning.Events.{instances}
use Rattle.csp_value.specs.declared.value.Value.{Value}
use Rattle.csp_value.specs.Value.{values_of}
use Rattle.csp_term.specs.Term.{process_of}
use Rattle.theory_origins.specs.Telling.{instance_chain}
use Rattle.csp_moves.proofs.replicated.chain_of_values.Goals as goal

nothing_in : {X : Type 0} (xs : List X) → length xs ≡ 0 → xs ≡ []
nothing_in [] none = refl
nothing_in (x ∷ xs) none = absurd (cc none)

pub returns-in-None : goal.returns-in-None
returns-in-None g c =
    let w = c.args.process in
    let P : List (Value g.row.A.Denot) → Type 0 = λ vs. IfOk c.empty_chain.result (λ t. process_of t ≡ instance_chain w.operator (instances w.name.0 (process_of w.body.now) (values_of vs))) in
    subst P (sym (nothing_in c.args.values.now c.in-None.ensures.cases)) c.empty_chain.ensures

pub returns-in-Some : goal.returns-in-Some
returns-in-Some g c =
    let w = c.args.process in
    let P : List (Value g.row.A.Denot) → Type 0 = λ vs. IfOk c.chain.result (λ t. process_of t ≡ instance_chain w.operator (instances w.name.0 (process_of w.body.now) (values_of vs))) in
    subst P (sym c.in-Some.ensures.cases.0) c.chain.ensures
