-- The numbers so far, one more, and all of them.
use Rattle.std.proofs.Common.{◌≡◌, ◌++◌, [], ◌∷◌, nat_le, pos, ◌+ℤ◌, arith, Ok, sym, ◌∙◌, ap, ap₂}
use Rattle.std.proofs.lemmas.Bool.{le-leb}
use Rattle.std.proofs.lemmas.Int.{ints, to_z-of_z}
use Rattle.std.specs.Int.{w32}
use mir.Val.{of_z, to_z}
use Rattle.std.specs.Int.RustNames.{FitsSigned}
use Rattle.std.proofs.lemmas.List.{map-append}
use Rattle.theory_syntax.specs.Value.{Integer, Set}
use Rattle.theory_semantics.specs.Meaning.Evaluation.{count_between, max_members, numbers_from}
use Rattle.csp_value.specs.Value.{value_of, values_of}
use Rattle.csp_value.proofs.Forms.{value_of_int, value_of_set}
use Rattle.csp_expression.proofs.Named.{numbers_more, range_found, sum_fits}
use Rattle.csp_expression.proofs.ranges.numbers.Goals as goal

pub overflow_add-from : goal.overflow_add-from
overflow_add-from g c =
    sum_fits c.args.from c.args.to (to_z w32 (of_z w32 c.args.from)) (to_z w32 (of_z w32 c.args.to)) c.loop-offset.offset c.count_between-count.result (to_z-of_z w32 c.args.from c.ranges.from) (to_z-of_z w32 c.args.to c.ranges.to)
    c.ranges.from c.ranges.to c.count_between-count.ensures (omega arith) c.loop-offset-test.true

pub loop-offset-preserved : goal.loop-offset-preserved
loop-offset-preserved g c =
    let from = to_z w32 (of_z w32 c.args.from) in
    let sum = from +ℤ to_z w32 c.loop-offset.offset in
    let fits : FitsSigned w32 sum = sum_fits c.args.from c.args.to from (to_z w32 (of_z w32 c.args.to)) c.loop-offset.offset c.count_between-count.result (to_z-of_z w32 c.args.from c.ranges.from) (to_z-of_z w32 c.args.to c.ranges.to)
    c.ranges.from c.ranges.to c.count_between-count.ensures (omega arith) c.loop-offset-test.true in
    let number : sum ≡ from +ℤ pos c.loop-offset.offset = omega (arith, ints) in
    ap values_of c.in_ok-push.ensures.items ∙ map-append value_of c.loop-offset.members.items _
    ∙ ap₂ ◌++◌ c.loop-offset.invariant (ap (λ v. v ∷ []) (value_of_int g.row.A.Denot _ ∙ ap Integer (to_z-of_z w32 sum fits ∙ number))) ∙ sym (numbers_more from c.loop-offset.offset)

pub returns : goal.returns
returns g c =
    let from = to_z-of_z w32 c.args.from c.ranges.from in
    let counted = c.count_between-count.ensures ∙ ap₂ count_between from (to_z-of_z w32 c.args.to c.ranges.to) in
    let few = ap (λ n. nat_le n max_members) (sym counted) ∙ le-leb c.count_between-count.result max_members (omega arith) in
    let offset_is : c.loop-offset.offset ≡ c.count_between-count.result = omega arith in
    range_found c.args.from c.args.to (values_of c.loop-offset.members.items) few (c.loop-offset.invariant ∙ ap₂ numbers_from from (offset_is ∙ counted)) ∙ ap (λ ms. Ok (Set ms)) (sym c.from_values.ensures.members)
    ∙ ap Ok (sym (value_of_set g.row.A.Denot c.from_values.result))
