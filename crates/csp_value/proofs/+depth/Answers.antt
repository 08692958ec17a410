-- Each value so far is within the depth, and a constructor and a sequence are one deeper than their parts.
use Rattle.std.proofs.Common.{◌+◌, refl, sym, ◌∙◌, ap, arith, IsTrue}
use Rattle.theory_semantics.specs.Meaning.Limits.{value_depth}
use Rattle.csp_value.specs.Value.{value_of}
use Rattle.csp_value.proofs.Forms.{value_of_con, value_of_seq}
use Rattle.csp_value.proofs.Measures.{one_depth, depths}
use Rattle.csp_value.proofs.Walking.{one_more, one_beyond, one_deeper, none_beyond, told_beyond, told_within}
use Rattle.csp_value.proofs.+depth.Goals as goal

pub limits::are_within_depth-loop-value-preserved : goal.limits::are_within_depth-loop-value-preserved
limits::are_within_depth-loop-value-preserved g t c =
    one_more depths one_depth refl (λ v vs. refl) c.args.values.now c.args.most c.loop-value.value-index c.value-item.result c.loop-value-test.true c.value-item.is
    (told_within c.is_within_depth.result _ c.is_within_depth.ensures c.if-not-is_within_depth.false) c.loop-value.invariant

pub limits::are_within_depth-returns-then-not-is_within_depth : goal.limits::are_within_depth-returns-then-not-is_within_depth
limits::are_within_depth-returns-then-not-is_within_depth g t c = (
  λ no. absurd (cc no),
  λ all. absurd (one_beyond depths one_depth refl (λ v vs. refl) c.args.values.now c.args.most c.loop-value.value-index c.value-item.result c.loop-value-test.true c.value-item.is
      (told_beyond c.is_within_depth.result _ c.is_within_depth.ensures c.if-not-is_within_depth.true) all),
)

pub limits::are_within_depth-returns : goal.limits::are_within_depth-returns
limits::are_within_depth-returns g t c = (λ yes. none_beyond depths one_depth refl (λ v vs. refl) c.args.values.now c.args.most c.loop-value.value-index (omega arith) c.loop-value.invariant, λ all. refl)

pub value::Value::is_within_depth-returns-in-Con : goal.value::Value::is_within_depth-returns-in-Con
value::Value::is_within_depth-returns-in-Con g t c =
    let depth = ap value_depth (ap value_of c.in-Con.is ∙ value_of_con g.row.A.Denot _ c.in-Con.fields) ∙ ap (λ vs. 1 + depths vs) (sym c.deref.ensures.value) in
    one_deeper (IsTrue c.are_within_depth.result) c.args.most (depths c.deref.result.now) (one_depth c.args.self.now) c.if-most-eq0.false depth c.are_within_depth.ensures

pub value::Value::is_within_depth-returns-in-Seq : goal.value::Value::is_within_depth-returns-in-Seq
value::Value::is_within_depth-returns-in-Seq g t c =
    let depth = ap value_depth (ap value_of c.in-Seq.is ∙ value_of_seq g.row.A.Denot c.in-Seq.items) ∙ ap (λ vs. 1 + depths vs) (sym c.deref-in-Seq.ensures.value) in
    one_deeper (IsTrue c.are_within_depth-in-Seq.result) c.args.most (depths c.deref-in-Seq.result.now) (one_depth c.args.self.now) c.if-most-eq0.false depth c.are_within_depth-in-Seq.ensures
