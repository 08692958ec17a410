-- The spelling of each form of value, and of one more value of a list.
use Rattle.std.proofs.lemmas.Int.{to_z-of_z}
use Rattle.std.proofs.Common.{rules, subst, w32, to_z, of_z, [], ◌∷◌, ◌≡◌, sym, ap, ◌∙◌, arith}
use Rattle.theory_syntax.specs.Value.{Constructor, Sequence, to_values}
use Rattle.theory_spelling.specs.Spelling.{value_spelling, list_spelling, whole_spelling, truth_spelling, number_spelling}
use Rattle.theory_spelling.specs.Packable.{IsPackableValue}
use Rattle.csp_value.specs.Value.{value_of, values_of, members_of}
use Rattle.csp_value.proofs.Forms.{value_of_int, value_of_bool, value_of_con, value_of_seq, value_of_set}
use Rattle.csp_spell.proofs.Pushing.{behind_tag, behind_part, two_parts, put_none, put_one, put_all, item_of, gone_one, gone_all, where_ok, also_ok}
use Rattle.csp_spell.proofs.PushingValues.{packable_fields, fields_smaller, spelled_constructor, ranged_fields, packable_items, packable_members, spelled_items, spelled_members, items_smaller, members_smaller, item_no_greater, ranged_items, ranged_members}
use Rattle.theory_spelling.specs.Ranges.{IsInRangeValue}
use Rattle.csp_spell.proofs.values.+push_value.Goals as goal

pub push_value-push_values-requires : goal.push_value-push_values-requires
push_value-push_values-requires g t c κs within =
    let is = ap value_of c.in-Seq.is ∙ value_of_seq g.row.A.Denot c.in-Seq.items ∙ ap (λ vs. Sequence (to_values (values_of vs))) (sym c.deref-in-Seq.ensures.value) in
    let smaller = items_smaller (value_of c.args.value.now) (values_of c.deref-in-Seq.result.now) is in
    (omega arith, (within, packable_items (value_of c.args.value.now) (values_of c.deref-in-Seq.result.now) is c.requires))

pub push_value-push_values-requires-in-Set : goal.push_value-push_values-requires-in-Set
push_value-push_values-requires-in-Set g t c κs within =
    let is = ap value_of c.in-Set.is ∙ value_of_set g.row.A.Denot c.in-Set.set in
    let smaller = members_smaller (value_of c.args.value.now) (members_of c.in-Set.set) (values_of c.members.result.now) is c.members.ensures in
    (omega arith, (within, packable_members (value_of c.args.value.now) (members_of c.in-Set.set) (values_of c.members.result.now) is c.members.ensures c.requires))

pub push_value-push_constructor-requires : goal.push_value-push_constructor-requires
push_value-push_constructor-requires g t c κs within =
    let is = ap value_of c.in-Con.is ∙ value_of_con g.row.A.Denot c.in-Con.constructor c.in-Con.fields ∙ ap (λ vs. Constructor c.in-Con.constructor.0 (to_values (values_of vs))) (sym c.deref.ensures.value) in
    let smaller = fields_smaller (value_of c.args.value.now) c.in-Con.constructor.0 (values_of c.deref.result.now) is in
    (omega arith, (within, packable_fields (value_of c.args.value.now) c.in-Con.constructor.0 (values_of c.deref.result.now) is c.requires))

pub push_constructor-returns : goal.push_constructor-returns
push_constructor-returns g t c =
    let k = c.args.constructor.0 in
    let fields = values_of c.args.fields.now in
    let first = two_parts c.args.bytes.now.items c.push.new.self.items c.push_number.new.bytes.items (0x65 ∷ []) (number_spelling k) c.in_ok-push.ensures.items c.in_ok-push_number.ensures in
    record {
      spelled = behind_part c.push_values.result c.args.bytes.now.items c.push_number.new.bytes.items c.push_values.new.bytes.items (0x65 ∷ number_spelling k) (list_spelling value_spelling fields) (value_spelling (Constructor k (to_values fields))) first
          (spelled_constructor value_of k c.args.fields.now (sym c.if-is_empty.false ∙ c.is_empty.ensures)) c.push_values.ensures.spelled;
      range = also_ok c.push_values.result c.push_values.ensures.range (λ h. ((search rules), ranged_fields fields h));
    }

pub push_value-returns-in_ok-push-in-Int : goal.push_value-returns-in_ok-push-in-Int
push_value-returns-in_ok-push-in-Int g t c =
    let is = ap value_of c.in-Int.is ∙ value_of_int g.row.A.Denot c.in-Int.number in
    let n = c.in-Int.number in
    let same : to_z w32 (of_z w32 n) ≡ n = to_z-of_z w32 n (search rules) in
    record {
      spelled = behind_tag c.push_whole.result c.args.bytes.now.items c.push.new.self.items c.push_whole.new.bytes.items (whole_spelling (to_z w32 (of_z w32 n))) (value_spelling (value_of c.args.value.now)) 0x60 c.in_ok-push-in-Int.ensures.items
          (ap value_spelling is ∙ ap (λ z. 0x60 ∷ whole_spelling z) (sym same)) c.push_whole.ensures;
      range = where_ok c.push_whole.result (subst IsInRangeValue (sym is) (search rules));
    }

pub push_value-returns-in_ok-push-in-Bool : goal.push_value-returns-in_ok-push-in-Bool
push_value-returns-in_ok-push-in-Bool g t c =
    let is = ap value_of c.in-Bool.is ∙ value_of_bool g.row.A.Denot c.in-Bool.truth in
    record {
      spelled = behind_tag c.push_truth.result c.args.bytes.now.items c.push-in-Bool.new.self.items c.push_truth.new.bytes.items (truth_spelling c.in-Bool.truth) (value_spelling (value_of c.args.value.now)) 0x61 c.in_ok-push-in-Bool.ensures.items (ap value_spelling is) c.push_truth.ensures;
      range = where_ok c.push_truth.result (subst IsInRangeValue (sym is) tt);
    }

pub push_value-returns-in_ok-push-in-Seq : goal.push_value-returns-in_ok-push-in-Seq
push_value-returns-in_ok-push-in-Seq g t c =
    let is = ap value_of c.in-Seq.is ∙ value_of_seq g.row.A.Denot c.in-Seq.items ∙ ap (λ vs. Sequence (to_values (values_of vs))) (sym c.deref-in-Seq.ensures.value) in
    record {
      spelled = behind_tag c.push_values.result c.args.bytes.now.items c.push-in-Seq.new.self.items c.push_values.new.bytes.items (list_spelling value_spelling (values_of c.deref-in-Seq.result.now)) (value_spelling (value_of c.args.value.now)) 0x63 c.in_ok-push-in-Seq.ensures.items
          (spelled_items (value_of c.args.value.now) (values_of c.deref-in-Seq.result.now) is) c.push_values.ensures.spelled;
      range = also_ok c.push_values.result c.push_values.ensures.range (ranged_items (value_of c.args.value.now) (values_of c.deref-in-Seq.result.now) is);
    }

pub push_value-returns-in_ok-push-in-Set : goal.push_value-returns-in_ok-push-in-Set
push_value-returns-in_ok-push-in-Set g t c =
    let is = ap value_of c.in-Set.is ∙ value_of_set g.row.A.Denot c.in-Set.set in
    record {
      spelled = behind_tag c.push_values-in-Set.result c.args.bytes.now.items c.push-in-Set.new.self.items c.push_values-in-Set.new.bytes.items (list_spelling value_spelling (values_of c.members.result.now)) (value_spelling (value_of c.args.value.now)) 0x64 c.in_ok-push-in-Set.ensures.items
          (spelled_members (value_of c.args.value.now) (members_of c.in-Set.set) (values_of c.members.result.now) is c.members.ensures) c.push_values-in-Set.ensures.spelled;
      range = also_ok c.push_values-in-Set.result c.push_values-in-Set.ensures.range (ranged_members (value_of c.args.value.now) (members_of c.in-Set.set) (values_of c.members.result.now) is c.members.ensures);
    }

pub push_values-push_value-requires : goal.push_values-push_value-requires
push_values-push_value-requires g t c κs within =
    let size = item_no_greater value_of c.args.values.now c.loop-value.value-index c.value-item.result c.loop-value-test.true c.value-item.is in
    (omega arith, (within, item_of IsPackableValue value_of c.args.values.now c.loop-value.value-index c.value-item.result c.loop-value-test.true c.value-item.is c.requires.1))

pub push_values-loop-value-init : goal.push_values-loop-value-init
push_values-loop-value-init g t c = (put_none value_spelling value_of c.args.values.now c.args.bytes.now.items c.push_length.new.bytes.items c.in_ok-push_length.ensures, tt)

pub push_values-loop-value-preserved : goal.push_values-loop-value-preserved
push_values-loop-value-preserved g t c = (
  put_one value_spelling value_of c.args.values.now c.args.bytes.now.items c.loop-value.bytes.items c.push_value.new.bytes.items c.loop-value.value-index c.value-item.result c.loop-value-test.true c.value-item.is c.in_ok-push_value.ensures.spelled c.loop-value.invariant.0,
  gone_one IsInRangeValue value_of c.args.values.now c.loop-value.value-index c.value-item.result c.loop-value-test.true c.value-item.is c.in_ok-push_value.ensures.range c.loop-value.invariant.1,
)

pub push_values-returns : goal.push_values-returns
push_values-returns g t c = record {
  spelled = put_all value_spelling value_of c.args.values.now c.args.bytes.now.items c.loop-value.bytes.items c.loop-value.value-index c.loop-value-test.false c.loop-value.invariant.0;
  range = gone_all IsInRangeValue value_of c.args.values.now c.loop-value.value-index c.loop-value-test.false c.loop-value.invariant.1;
}
