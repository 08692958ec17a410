use Rattle.std.proofs.Common.{◌≡◌, ◌≢◌, ◌+◌, ◌*◌, ◌<◌, length, map, ◌∙◌, ap, refl, arith, rules}
use Rattle.theory_syntax.specs.Value.{Integer, Truth, Constructor, to_values}
use Rattle.theory_semantics.specs.Meaning.Limits.{value_size, values_size}
use Rattle.theory_checking.specs.Inference.Expressions.{behind_value, behind_values, of_value, of_values_in_turn}
use Rattle.csp_value.specs.Value.{value_of, values_of}
use Rattle.csp_value.proofs.Forms.{value_of_bool, value_of_int}
use Rattle.csp_inference.specs.Chain.{demand_of}
use Rattle.csp_inference.specs.Equations.{exactly}
use Rattle.csp_inference.specs.Numbering.{numbering_of}
use Rattle.csp_inference.proofs.Adding.{if_ok}
use Rattle.csp_inference.proofs.Asking.{found_at, left_more, left_none, never_asks, not_found}
use Rattle.csp_inference.proofs.AskingValues.{asked_in_turn, asked_sequence, asked_set, asked_values, behind_asked, member_size, of_constructor, of_sequence, of_set, turn_all, turn_more, unequal, whole}
use Rattle.csp_inference.proofs.Constructing.{constructed, owner_found, row_found, unnumbered, unowned}
use Rattle.csp_inference.proofs.equations.Equations.+ask_value.Goals as goal

-- ---- parts are smaller

pub ask_value-ask_constructor-requires : goal.ask_value-ask_constructor-requires
ask_value-ask_constructor-requires g t c =
    let size = ap value_size (of_constructor c.args.value.now c.in-Con.constructor c.in-Con.fields c.deref.result.now c.in-Con.is c.deref.ensures.value) in
    let smaller : 3 * values_size (to_values (values_of c.deref.result.now)) + 2 < 3 * value_size (value_of c.args.value.now) = omega (arith, size) in
    search rules

pub ask_value-ask_values-requires : goal.ask_value-ask_values-requires
ask_value-ask_values-requires g t c =
    let size = ap value_size (of_sequence c.args.value.now c.in-Seq.items c.deref-in-Seq.result.now c.in-Seq.is c.deref-in-Seq.ensures.value) in
    let smaller : 3 * values_size (to_values (values_of c.deref-in-Seq.result.now)) + 1 < 3 * value_size (value_of c.args.value.now) = omega (arith, size) in
    search rules

pub ask_value-ask_values-requires-in-Set : goal.ask_value-ask_values-requires-in-Set
ask_value-ask_values-requires-in-Set g t c =
    let size = ap value_size (of_set c.args.value.now c.in-Set.set c.members-members.result.now c.in-Set.is c.members-members.ensures) in
    let smaller : 3 * values_size (to_values (values_of c.members-members.result.now)) + 1 < 3 * value_size (value_of c.args.value.now) = omega (arith, size) in
    search rules

pub ask_values-ask_value-requires : goal.ask_values-ask_value-requires
ask_values-ask_value-requires g t c =
    let one = member_size c.args.values.now c.loop-value.value-index c.value-item.result c.loop-value-test.true c.value-item.is in
    let smaller : 3 * value_size (value_of c.value-item.result) < 3 * values_size (to_values (values_of c.args.values.now)) + 1 = omega (arith, one) in
    search rules

pub ask_values_in_turn-ask_value-requires : goal.ask_values_in_turn-ask_value-requires
ask_values_in_turn-ask_value-requires g t c =
    let one = member_size c.args.values.now c.loop-index.index c.index-values-index.result c.loop-index-test.true c.index-values-index.is in
    let smaller : 3 * value_size (value_of c.index-values-index.result) < 3 * values_size (to_values (values_of c.args.values.now)) + 1 = omega (arith, one) in
    search rules

-- ---- a value

pub ask_value-returns-in-Int : goal.ask_value-returns-in-Int
ask_value-returns-in-Int g t c =
    let v = c.args.value.now in
    if_ok c.push.result
    (λ _ h. whole (numbering_of c.args.numbering.now) c.args.self.now (demand_of c.args.kind) (value_of v) c.push.new.self (Integer c.in-Int.field-0)
    (ap value_of c.in-Int.is ∙ value_of_int g.row.A.Denot c.in-Int.field-0) (exactly h)) c.push.ensures

pub ask_value-returns-in-Bool : goal.ask_value-returns-in-Bool
ask_value-returns-in-Bool g t c =
    let v = c.args.value.now in
    if_ok c.push-in-Bool.result
    (λ _ h. whole (numbering_of c.args.numbering.now) c.args.self.now (demand_of c.args.kind) (value_of v) c.push-in-Bool.new.self (Truth c.in-Bool.field-0)
    (ap value_of c.in-Bool.is ∙ value_of_bool g.row.A.Denot c.in-Bool.field-0) (exactly h)) c.push-in-Bool.ensures

pub ask_value-returns-in-Con : goal.ask_value-returns-in-Con
ask_value-returns-in-Con g t c =
    let v = c.args.value.now in
    if_ok c.ask_constructor.result
    (λ _. whole (numbering_of c.args.numbering.now) c.args.self.now (demand_of c.args.kind) (value_of v) c.ask_constructor.new.self
    (Constructor c.in-Con.constructor.0 (to_values (values_of c.deref.result.now)))
    (of_constructor v c.in-Con.constructor c.in-Con.fields c.deref.result.now c.in-Con.is c.deref.ensures.value)) c.ask_constructor.ensures

pub ask_value-returns-in_ok-number-in-Seq : goal.ask_value-returns-in_ok-number-in-Seq
ask_value-returns-in_ok-number-in-Seq g t c =
    let v = c.args.value.now in
    if_ok c.ask_values.result
    (λ _. asked_sequence (numbering_of c.args.numbering.now) c.args.self.now (demand_of c.args.kind) (value_of v) c.push_sequence.new.self c.ask_values.new.self
    c.in_ok-number-in-Seq.number.0 (to_values (values_of c.deref-in-Seq.result.now)) c.in_ok-number-in-Seq.ensures.number
    (of_sequence v c.in-Seq.items c.deref-in-Seq.result.now c.in-Seq.is c.deref-in-Seq.ensures.value) c.in_ok-number-in-Seq.ensures.behind) c.ask_values.ensures

pub ask_value-returns-in_ok-ask_values-in-Set : goal.ask_value-returns-in_ok-ask_values-in-Set
ask_value-returns-in_ok-ask_values-in-Set g t c =
    let v = c.args.value.now in
    if_ok c.ask_rising.result
    (λ _. asked_set (numbering_of c.args.numbering.now) c.args.self.now (demand_of c.args.kind) (value_of v) c.push_set.new.self c.ask_values-in-Set.new.self
    c.in_ok-number-in-Set.number.0 (to_values (values_of c.members-members.result.now)) c.in_ok-number-in-Set.ensures.number c.ask_rising.new.self
    (of_set v c.in-Set.set c.members-members.result.now c.in-Set.is c.members-members.ensures) c.in_ok-number-in-Set.ensures.behind
    c.in_ok-ask_values-in-Set.ensures) c.ask_rising.ensures

-- ---- values that are all to have one kind

pub ask_values-loop-value-preserved : goal.ask_values-loop-value-preserved
ask_values-loop-value-preserved g t c =
    let o = numbering_of c.args.numbering.now in
    let k = demand_of c.args.kind in
    left_more (asked_values o k) behind_asked c.args.self.now c.loop-value.self c.args.values.now c.loop-value.value-index (λ n v. of_value o n (value_of v) k)
    (λ n v. behind_value n (value_of v)) c.ask_value.new.self c.value-item.result (λ n vs. refl) (λ n vs. refl) c.loop-value-test.true c.value-item.is
    c.loop-value.invariant c.in_ok-ask_value.ensures

pub ask_values-returns : goal.ask_values-returns
ask_values-returns g t c =
    left_none (asked_values (numbering_of c.args.numbering.now) (demand_of c.args.kind)) behind_asked c.args.self.now c.loop-value.self c.args.values.now
    c.loop-value.value-index (λ n. refl) (λ n. refl) c.loop-value-test.false c.loop-value.invariant

-- ---- a constructor

pub ask_constructor-returns-in_default : goal.ask_constructor-returns-in_default
ask_constructor-returns-in_default g t c =
    let o = numbering_of c.args.numbering.now in
    let vs = to_values (values_of c.args.fields.now) in
    let none = not_found (λ d. d.0) c.deref.result.now c.args.numbering.now.owners.items c.args.constructor.0 c.deref.ensures.value c.in_default.ensures.lookup.3 in
    if_ok c.push_never.result
    (λ _. unowned o.owners o.constructors c.args.constructor.0 (demand_of c.args.kind) (λ n. of_values_in_turn o n vs) (λ n. behind_values n vs)
    c.args.self.now c.push_never.new.self none) c.push_never.ensures

pub ask_constructor-returns-in_default-get : goal.ask_constructor-returns-in_default-get
ask_constructor-returns-in_default-get g t c =
    let o = numbering_of c.args.numbering.now in
    let vs = to_values (values_of c.args.fields.now) in
    let owned = found_at c.deref.result.now c.args.numbering.now.owners.items c.args.constructor.0 c.in-Some.datatype.now c.deref.ensures.value
    c.in-Some.ensures.lookup.3.0 c.in-Some.ensures.lookup.1 in
    let none = not_found (λ ns. map (λ n. n.0) ns.items) c.deref-2.result.now c.args.numbering.now.constructors.items c.args.constructor.0 c.deref-2.ensures.value
    c.in_default-get.ensures.lookup.3 in
    if_ok c.push_never-in_default-get.result
    (λ _. unnumbered o.owners o.constructors c.args.constructor.0 (demand_of c.args.kind) (λ n. of_values_in_turn o n vs) (λ n. behind_values n vs)
    c.args.self.now c.push.new.self c.push_never-in_default-get.new.self c.in-Some.datatype.now.0
    (owner_found c.args.numbering.now.owners.items c.args.constructor.0 c.in-Some.datatype.now owned) c.in_ok-push.ensures none)
    c.push_never-in_default-get.ensures

pub ask_constructor-returns : goal.ask_constructor-returns
ask_constructor-returns g t c =
    let o = numbering_of c.args.numbering.now in
    let vs = to_values (values_of c.args.fields.now) in
    let owned = found_at c.deref.result.now c.args.numbering.now.owners.items c.args.constructor.0 c.in-Some.datatype.now c.deref.ensures.value
    c.in-Some.ensures.lookup.3.0 c.in-Some.ensures.lookup.1 in
    let found = found_at c.deref-2.result.now c.args.numbering.now.constructors.items c.args.constructor.0 c.in-Some-get.numbers.now c.deref-2.ensures.value
    c.in-Some-get.ensures.lookup.3.0 c.in-Some-get.ensures.lookup.1 in
    if_ok c.ask_values_in_turn.result
    (λ _. constructed o.owners o.constructors c.args.constructor.0 (demand_of c.args.kind) (λ n. of_values_in_turn o n vs) (λ n. behind_values n vs)
    c.args.self.now c.push.new.self c.ask_values_in_turn.new.self c.in-Some.datatype.now.0
    (owner_found c.args.numbering.now.owners.items c.args.constructor.0 c.in-Some.datatype.now owned) c.in_ok-push.ensures
    (map (λ n. n.0) c.deref-3.result.now)
    (row_found c.args.numbering.now.constructors.items c.args.constructor.0 c.in-Some-get.numbers.now c.deref-3.result.now found c.deref-3.ensures.value))
    c.ask_values_in_turn.ensures

-- ---- values with the kinds of numbers in turn

pub ask_values_in_turn-returns-then-values-numbers : goal.ask_values_in_turn-returns-then-values-numbers
ask_values_in_turn-returns-then-values-numbers g t c =
    let o = numbering_of c.args.numbering.now in
    let s = c.args.self.now in
    let vs = c.args.values.now in
    let ms = c.args.numbers.now in
    let differ : length vs ≢ length ms = omega arith in
    if_ok c.push_never.result
    (λ _. never_asks s c.push_never.new.self (asked_in_turn o s.next vs ms) s.next (behind_asked s.next vs) (unequal o s.next vs ms differ)) c.push_never.ensures

pub ask_values_in_turn-loop-index-preserved : goal.ask_values_in_turn-loop-index-preserved
ask_values_in_turn-loop-index-preserved g t c =
    let same : length c.args.values.now ≡ length c.args.numbers.now = omega arith in
    turn_more (numbering_of c.args.numbering.now) c.args.self.now c.loop-index.self c.ask_value.new.self c.args.values.now c.args.numbers.now c.loop-index.index
    c.index-values-index.result _ c.loop-index-test.true same c.index-values-index.is c.loop-index.invariant c.in_ok-ask_value.ensures

pub ask_values_in_turn-returns : goal.ask_values_in_turn-returns
ask_values_in_turn-returns g t c =
    let same : length c.args.values.now ≡ length c.args.numbers.now = omega arith in
    turn_all (numbering_of c.args.numbering.now) c.args.self.now c.loop-index.self c.args.values.now c.args.numbers.now c.loop-index.index c.loop-index-test.false same
    c.loop-index.invariant
