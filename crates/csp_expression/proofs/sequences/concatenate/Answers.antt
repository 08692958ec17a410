use Rattle.std.proofs.Common.{◌≡◌, ◌++◌, Result, rules, sym, ◌∙◌, subst, refl, ap}
use Rattle.theory_syntax.specs.Value as pure
use Rattle.theory_syntax.specs.Expression as operator
use Rattle.theory_semantics.specs.Meaning.Evaluation.{Cause, combine}
use Rattle.csp_expression.specs.Evaluation.{Gives}
use Rattle.csp_expression.proofs.Forming.{concat_is, seq_is}
use Rattle.csp_value.specs.Value.{value_of, values_of}
use Rattle.csp_expression.proofs.Refusing.{no_sequence}
use Rattle.csp_expression.proofs.sequences.concatenate.Goals as goal
use Rattle.csp_expression.proofs.sequences.concatenate.Goals.{in_default-via-in-Seq+in_default, in_default-via-in_default}

pub returns-in_err-sequence-in-Seq-Seq : goal.returns-in_err-sequence-in-Seq-Seq
returns-in_err-sequence-in-Seq-Seq g c =
    let both : c.in_ok-joined-in-Seq-Seq.field-0.items ≡ c.in-Seq-Seq.left.items ++ c.in-Seq-Seq.right.items = search rules in
    let P : Result pure.Value Cause → Type 0 = λ r. Gives c.from_residual-in_err-sequence-in-Seq-Seq.result r in
    subst P (concat_is c.args.left c.args.right c.in-Seq-Seq.left c.in-Seq-Seq.right c.in_ok-joined-in-Seq-Seq.field-0 c.in-Seq-Seq.is-0 c.in-Seq-Seq.is-1 both) (search rules)

pub returns-in_ok-sequence-in-Seq-Seq : goal.returns-in_ok-sequence-in-Seq-Seq
returns-in_ok-sequence-in-Seq-Seq g c =
    let both : c.in_ok-joined-in-Seq-Seq.field-0.items ≡ c.in-Seq-Seq.left.items ++ c.in-Seq-Seq.right.items = search rules in
    sym (concat_is c.args.left c.args.right c.in-Seq-Seq.left c.in-Seq-Seq.right c.in_ok-joined-in-Seq-Seq.field-0 c.in-Seq-Seq.is-0 c.in-Seq-Seq.is-1 both) ∙ c.in_ok-sequence-in-Seq-Seq.ensures

pub returns-in_default : goal.returns-in_default
returns-in_default g c =
    let f = combine operator.Concatenate in
    let right = value_of c.args.right in
    elim c.in_default.branch [
      | in_default-via-in-Seq+in_default w ↦
          ap (λ v. f v right) (seq_is c.args.left w.in_default.field-0-0 w.in_default.is-0)
          ∙ no_sequence g.row.A g.A.Allocator (λ v. f (pure.Sequence (pure.to_values (values_of w.in_default.field-0-0.items))) v) ((λ n. refl, λ b. refl, λ k vs. refl), λ vs. refl) c.args.right w.in_default.not-Seq-1
      | in_default-via-in_default w ↦ no_sequence g.row.A g.A.Allocator (λ v. f v right) ((λ n. refl, λ b. refl, λ k vs. refl), λ vs. refl) c.args.left w.in_default.not-Seq-0
    ]
