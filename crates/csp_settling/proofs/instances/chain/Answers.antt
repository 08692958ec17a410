-- The elements of the set, if it is one.
use Rattle.std.proofs.Common.{◌≡◌, IfOk, List, [], Result, Ok, Err, inl, inr, sym, ◌∙◌, ap, subst}
use Rattle.theory_syntax.specs.Value as pure
use Rattle.theory_syntax.specs.Operators.{binary_process}
use Rattle.theory_semantics.specs.Meaning.Evaluation.{Cause, ◌and_then◌, value}
use Rattle.theory_semantics.specs.Meaning.Events.{elements, members_of}
use Rattle.theory_semantics.specs.Meaning.Substitution.{put_expression}
use Rattle.theory_semantics.specs.Meaning.Unfolding.{chained}
use Rattle.theory_semantics.proofs.Putting.{put_nothing_in_expression}
use Rattle.csp_value.specs.Value.{value_of}
use Rattle.csp_expression.specs.Evaluation.{Sees, table_of}
use Rattle.csp_expression.specs.Expression.{expression_of}
use Rattle.csp_expression.specs.declared.no_value.NoValue.{NoValue}
use Rattle.csp_term.specs.Term.{process_of}
use Rattle.csp_settling.specs.Settling.{IsChain}
use Rattle.csp_settling.proofs.Chaining.{seen_elements}
use Rattle.csp_settling.proofs.Members.{no_members}
use Rattle.csp_settling.proofs.instances.chain.Goals as goal

pub returns-in-Err-Cause : goal.returns-in-Err-Cause
returns-in-Err-Cause g c empty =
    let types = table_of c.args.types.now in
    let e = expression_of c.args.set.now in
    let F : NoValue → Type 0 = λ x. Sees {A = g.row.A.Denot} (Err x) (value types (put_expression [] e)) in
    let none = sym (ap (value types) (put_nothing_in_expression e)) ∙ subst F c.in-Err-Cause.field-0-is c.in-Err-Cause.ensures in
    inl (ap (λ r. chained (binary_process c.args.operator) empty c.args.name.0 (process_of c.args.body.now) (r and_then λ v. members_of v)) none)

pub returns-in_default : goal.returns-in_default
returns-in_default g c empty =
    let types = table_of c.args.types.now in
    let e = expression_of c.args.set.now in
    let v = c.value.result.now in
    let seen : value types e ≡ Ok (value_of v) = sym (ap (value types) (put_nothing_in_expression e)) ∙ c.in-Ok.ensures ∙ ap Ok (sym c.value.ensures) in
    inl (ap (λ r. chained (binary_process c.args.operator) empty c.args.name.0 (process_of c.args.body.now) r)
    (ap (λ r. r and_then λ w. members_of w) seen ∙ no_members g.row.A g.A.Allocator v c.in_default.not-Set))

pub returns : goal.returns
returns g c =
    let types = table_of c.args.types.now in
    let e = expression_of c.args.set.now in
    let v = c.value.result.now in
    let seen : value types e ≡ Ok (value_of v) = sym (ap (value types) (put_nothing_in_expression e)) ∙ c.in-Ok.ensures ∙ ap Ok (sym c.value.ensures) in
    let are = seen_elements types e v c.in-Set.members c.members.result.now seen c.in-Set.is c.members.ensures in
    let P : Result (List pure.Value) Cause → Type 0 = λ r. IfOk c.chain_of.result (IsChain (binary_process c.args.operator) c.args.name.0 (process_of c.args.body.now) r) in
    subst P (sym are) c.chain_of.ensures
