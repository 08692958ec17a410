-- Forms and lists of values, and their constructors.
use Rattle.std.proofs.Common.{◌+◌, ◌*◌, ◌<◌, ◌∙◌, refl, sym, ap, arith, rules}
use Rattle.std.specs.List.{list_all}
use Rattle.theory_syntax.specs.Value as pure
use Rattle.theory_semantics.specs.Meaning.Limits.{value_size}
use Rattle.theory_checking.specs.Sets.{constructors_of}
use Rattle.csp_value.specs.Value.{members_of, value_of}
use Rattle.csp_value.proofs.Forms.{unlisted, value_of_con, value_of_seq, value_of_set}
use Rattle.csp_value.proofs.Measures.{one_size, sizes}
use Rattle.csp_kinds.specs.Looking.{is_valued}
use Rattle.csp_kinds.proofs.Using.{one_built, one_not_built, value_within}
use Rattle.csp_kinds.proofs.table.Table.+constructors.Goals as goal

pub has_constructors_of-has_constructors_of_all-requires : goal.has_constructors_of-has_constructors_of_all-requires
has_constructors_of-has_constructors_of_all-requires g t c =
    let size = ap value_size (ap value_of c.in-Con.is ∙ value_of_con g.row.A.Denot c.in-Con.constructor c.in-Con.fields) ∙ ap (λ vs. 1 + sizes vs) (sym c.deref.ensures.value) in
    let smaller : 2 * sizes c.deref.result.now + 1 < 2 * one_size c.args.value.now = omega (arith, size) in
    search rules

pub has_constructors_of-has_constructors_of_all-requires-in-Seq : goal.has_constructors_of-has_constructors_of_all-requires-in-Seq
has_constructors_of-has_constructors_of_all-requires-in-Seq g t c =
    let size = ap value_size (ap value_of c.in-Seq.is ∙ value_of_seq g.row.A.Denot c.in-Seq.items) ∙ ap (λ vs. 1 + sizes vs) (sym c.deref-in-Seq.ensures.value) in
    let smaller : 2 * sizes c.deref-in-Seq.result.now + 1 < 2 * one_size c.args.value.now = omega (arith, size) in
    search rules

pub has_constructors_of-has_constructors_of_all-requires-in-Set : goal.has_constructors_of-has_constructors_of_all-requires-in-Set
has_constructors_of-has_constructors_of_all-requires-in-Set g t c =
    let made = ap pure.to_values c.members.ensures ∙ unlisted (members_of c.in-Set.set) in
    let size = ap value_size (ap value_of c.in-Set.is ∙ value_of_set g.row.A.Denot c.in-Set.set ∙ ap pure.Set (sym made)) in
    let smaller : 2 * sizes c.members.result.now + 1 < 2 * one_size c.args.value.now = omega (arith, size) in
    search rules

pub has_constructors_of_all-has_constructors_of-requires : goal.has_constructors_of_all-has_constructors_of-requires
has_constructors_of_all-has_constructors_of-requires g t c =
    let one = value_within c.args.values.now c.loop-value.value-index c.value-item.result c.loop-value-test.true c.value-item.is in
    let smaller : 2 * one_size c.value-item.result < 2 * sizes c.args.values.now + 1 = omega (arith, one) in
    search rules

pub has_constructors_of-returns-in-Set : goal.has_constructors_of-returns-in-Set
has_constructors_of-returns-in-Set g t c =
    let made = ap pure.to_values c.members.ensures ∙ unlisted (members_of c.in-Set.set) in
    c.has_constructors_of_all-in-Set.ensures
    ∙ ap (λ v. list_all (is_valued c.args.self.now.filled.items) (constructors_of v)) (sym (ap value_of c.in-Set.is ∙ value_of_set g.row.A.Denot c.in-Set.set ∙ ap pure.Set (sym made)))

pub has_constructors_of_all-loop-value-init : goal.has_constructors_of_all-loop-value-init
has_constructors_of_all-loop-value-init g t c = refl

pub has_constructors_of_all-loop-value-preserved : goal.has_constructors_of_all-loop-value-preserved
has_constructors_of_all-loop-value-preserved g t c =
    one_built c.args.self.now.filled.items c.args.values.now c.loop-value.value-index c.value-item.result c.loop-value-test.true c.value-item.is
    c.has_constructors_of.result c.if-not-has_constructors_of.false
    c.has_constructors_of.ensures c.loop-value.invariant

pub has_constructors_of_all-returns-then-not-has_constructors_of : goal.has_constructors_of_all-returns-then-not-has_constructors_of
has_constructors_of_all-returns-then-not-has_constructors_of g t c =
    one_not_built c.args.self.now.filled.items c.args.values.now c.loop-value.value-index c.value-item.result c.loop-value-test.true c.value-item.is
    c.has_constructors_of.result c.if-not-has_constructors_of.true
    c.has_constructors_of.ensures c.loop-value.invariant
