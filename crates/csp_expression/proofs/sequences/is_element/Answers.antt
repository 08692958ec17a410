use Rattle.std.proofs.Common.{Ok, sym, ◌∙◌, ap}
use Rattle.theory_syntax.specs.Value.{Truth, has_value}
use Rattle.theory_syntax.specs.Expression as pure
use Rattle.theory_semantics.specs.Meaning.Evaluation.{combine}
use Rattle.csp_value.specs.Value.{value_of, values_of}
use Rattle.csp_value.proofs.Equality.{value_eq, same_test}
use Rattle.csp_value.proofs.Finding.{any_has}
use Rattle.csp_value.proofs.Forms.{listed, value_of_bool}
use Rattle.csp_expression.proofs.Forming.{seq_is}
use Rattle.csp_expression.proofs.sequences.is_element.Goals as goal

pub returns-in-Seq : goal.returns-in-Seq
returns-in-Seq g c =
    let v = value_of c.args.value.now in
    let tested = c.contains.ensures.value ∙ any_has value_of (value_eq g.row.A g.A.Allocator g.A.Allocator-dict g.A.Destruct-dict) (same_test g.row.A g.A.Allocator g.A.Allocator-dict g.A.Destruct-dict) c.deref.result.now c.args.value.now
    ∙ ap (λ xs. has_value (values_of xs) v) c.deref.ensures.value in
    ap (combine pure.IsElement v) (seq_is c.args.sequence.now c.in-Seq.items c.in-Seq.is) ∙ ap (λ vs. Ok (Truth (has_value vs v))) (listed (values_of c.in-Seq.items.items)) ∙ ap (λ b. Ok (Truth b)) (sym tested)
    ∙ ap Ok (sym (value_of_bool g.row.A.Denot c.contains.result))
