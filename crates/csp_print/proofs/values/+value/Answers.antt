-- The values are put one after the other, each smaller than what it is a member of.
use Rattle.std.proofs.Common.{List, ◌++◌, drop, ap, ◌∙◌, sym, ◌≡◌, ◌+◌, ◌*◌, ◌<◌, ◌∷◌, suc, arith, rules, add-one, drop-cons}
use Rattle.std.proofs.lemmas.List.{drop_all}
use Rattle.std.specs.Prelude.{codes}
use Rattle.std.specs.String.{string_bytes}
use Rattle.theory_search.specs.Printing.{name_at}
use Rattle.theory_syntax.specs.Value.{to_values}
use Rattle.theory_semantics.specs.Meaning.Limits.{value_size, values_size}
use Rattle.csp_value.specs.declared.value.Value.{Value}
use Rattle.csp_value.specs.Value.{value_of, values_of}
use Rattle.theory_notation.specs.Values.{value_text, values_behind, values_text}
use Rattle.csp_print.specs.Names.{names_of}
use Rattle.csp_print.proofs.Writing.{alike, behind, comes_to_end, goes_on}
use Rattle.csp_print.proofs.ValueTexts.{member_size, of_sequence, of_set, with_fields}
use Rattle.csp_print.proofs.values.+value.Goals as goal

pub push_constructor-returns : goal.push_constructor-returns
push_constructor-returns g t c =
    let names = names_of c.args.names.now in
    let fields = c.args.fields.now in
    let r = c.push_mark-2.result in
    let all = string_bytes c.push_mark-2.new.text in
    let k = name_at names.constructors c.args.constructor.0 in
    let inner = values_behind names (codes ".") (to_values (values_of fields)) in
    alike r (string_bytes c.args.text.now) all _ _ (with_fields names c.args.constructor.0 fields (sym c.is_empty.ensures ∙ c.if-is_empty.false))
    (behind r (string_bytes c.args.text.now) (string_bytes c.push_mark.new.text) all (codes "(") (k ++ (inner ++ codes ")")) c.in_ok-push_mark.ensures
    (behind r (string_bytes c.push_mark.new.text) (string_bytes c.push_constructor-2.new.text) all k (inner ++ codes ")") c.in_ok-push_constructor.ensures
    (behind r (string_bytes c.push_constructor-2.new.text) (string_bytes c.push_values_behind.new.text) all inner (codes ")") c.in_ok-push_values_behind.ensures c.push_mark-2.ensures)))

pub push_value-push_values-requires : goal.push_value-push_values-requires
push_value-push_values-requires g t c =
    let size = ap value_size (of_sequence c.args.value.now c.in-Seq.items c.deref-in-Seq.result.now c.in-Seq.is c.deref-in-Seq.ensures.value) in
    let smaller : 3 * values_size (to_values (values_of c.deref-in-Seq.result.now)) + 2 < 3 * value_size (value_of c.args.value.now) = omega (arith, size) in
    search rules

pub push_value-push_values-requires-in-Set : goal.push_value-push_values-requires-in-Set
push_value-push_values-requires-in-Set g t c =
    let size = ap value_size (of_set c.args.value.now c.in-Set.set c.members.result.now c.in-Set.is c.members.ensures) in
    let smaller : 3 * values_size (to_values (values_of c.members.result.now)) + 2 < 3 * value_size (value_of c.args.value.now) = omega (arith, size) in
    search rules

pub push_value-returns-in_ok-push_values-in-Seq : goal.push_value-returns-in_ok-push_values-in-Seq
push_value-returns-in_ok-push_values-in-Seq g t c =
    let names = names_of c.args.names.now in
    let r = c.push_mark-in-Seq.result in
    let all = string_bytes c.push_mark-in-Seq.new.text in
    let inner = values_text names (to_values (values_of c.deref-in-Seq.result.now)) in
    alike r (string_bytes c.args.text.now) all _ _
    (ap (value_text names) (sym (of_sequence c.args.value.now c.in-Seq.items c.deref-in-Seq.result.now c.in-Seq.is c.deref-in-Seq.ensures.value)))
    (behind r (string_bytes c.args.text.now) (string_bytes c.push_mark.new.text) all (codes "<") (inner ++ codes ">") c.in_ok-push_mark-in-Seq.ensures
    (behind r (string_bytes c.push_mark.new.text) (string_bytes c.push_values.new.text) all inner (codes ">") c.in_ok-push_values-in-Seq.ensures c.push_mark-in-Seq.ensures))

pub push_value-returns-in_ok-push_values-in-Set : goal.push_value-returns-in_ok-push_values-in-Set
push_value-returns-in_ok-push_values-in-Set g t c =
    let names = names_of c.args.names.now in
    let r = c.push_mark-in-Set-2.result in
    let all = string_bytes c.push_mark-in-Set-2.new.text in
    let inner = values_text names (to_values (values_of c.members.result.now)) in
    alike r (string_bytes c.args.text.now) all _ _ (ap (value_text names) (sym (of_set c.args.value.now c.in-Set.set c.members.result.now c.in-Set.is c.members.ensures)))
    (behind r (string_bytes c.args.text.now) (string_bytes c.push_mark-in-Set.new.text) all (codes "{") (inner ++ codes "}") c.in_ok-push_mark-in-Set.ensures
    (behind r (string_bytes c.push_mark-in-Set.new.text) (string_bytes c.push_values-in-Set.new.text) all inner (codes "}") c.in_ok-push_values-in-Set.ensures c.push_mark-in-Set-2.ensures))

pub push_values-push_value-requires : goal.push_values-push_value-requires
push_values-push_value-requires g t c =
    let size = ap (λ (vs : List (Value g.row.A.Denot)). values_size (to_values (values_of vs))) c.in-Some.ensures.cases.0 in
    let smaller : 3 * value_size (value_of c.in-Some.first.now) < 3 * values_size (to_values (values_of c.args.values.now)) + 2 = omega (arith, size) in
    search rules

pub push_values-push_values_behind-requires : goal.push_values-push_values_behind-requires
push_values-push_values_behind-requires g t c =
    let size = ap (λ (vs : List (Value g.row.A.Denot)). values_size (to_values (values_of vs))) c.in-Some.ensures.cases.0 in
    let smaller : 3 * values_size (to_values (values_of c.in-Some.others.now)) + 1 < 3 * values_size (to_values (values_of c.args.values.now)) + 2 = omega (arith, size) in
    search rules

pub push_values_behind-push_value-requires : goal.push_values_behind-push_value-requires
push_values_behind-push_value-requires g t c =
    let one = member_size c.args.values.now c.loop-value.value-index c.value-item.result c.loop-value-test.true c.value-item.is in
    let smaller : 3 * value_size (value_of c.value-item.result) < 3 * values_size (to_values (values_of c.args.values.now)) + 1 = omega (arith, one) in
    search rules

pub push_values_behind-loop-value-preserved : goal.push_values_behind-loop-value-preserved
push_values_behind-loop-value-preserved g t c =
    let values = c.args.values.now in
    let i = c.loop-value.value-index in
    let names = names_of c.args.names.now in
    let mark = c.args.mark.now in
    let texts = λ (vs : List (Value g.row.A.Denot)). values_behind names mark (to_values (values_of vs)) in
    let first : drop i values ≡ c.value-item.result ∷ drop (i + 1) values =
    rw add-one (drop-cons values i c.value-item.result c.loop-value-test.true ∙ ap (λ v. v ∷ drop (suc i) values) (sym c.value-item.is)) in
    goes_on (string_bytes c.loop-value.text) (string_bytes c.push_mark.new.text) (string_bytes c.push_value.new.text) mark (value_text names (value_of c.value-item.result))
    (texts (drop i values)) (texts (drop (i + 1) values)) (string_bytes c.args.text.now ++ texts values) c.loop-value.invariant (ap texts first) c.in_ok-push_mark.ensures c.in_ok-push_value.ensures

pub push_values_behind-returns : goal.push_values_behind-returns
push_values_behind-returns g t c =
    let values = c.args.values.now in
    let texts = λ (vs : List (Value g.row.A.Denot)). values_behind (names_of c.args.names.now) c.args.mark.now (to_values (values_of vs)) in
    comes_to_end (string_bytes c.args.text.now) (string_bytes c.loop-value.text) (texts (drop c.loop-value.value-index values)) (texts values)
    c.loop-value.invariant (ap texts (drop_all c.loop-value.value-index values c.loop-value-test.false))
