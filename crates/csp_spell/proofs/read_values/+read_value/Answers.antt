use Rattle.std.proofs.Common.{◌≡◌, ◌++◌, ◌∷◌, [], sym, ap, ◌∙◌}
use Rattle.std.proofs.lemmas.Result.{err_from_is_err_and}
use Rattle.std.proofs.lemmas.List.{map_push}
use Rattle.csp_value.specs.Value.{members_of, value_of, values_of}
use Rattle.std.specs.Prelude.{◌==◌}
use Rattle.theory_semantics.specs.Meaning.Offers.{rises}
use Rattle.theory_spelling.specs.Reading.{items_at, value_at}
use Rattle.csp_value.proofs.Forms.{value_of_con, value_of_set}
use Rattle.csp_spell.proofs.ReadingValues.{constructor_found, fails_as_fields, fails_as_number, no_constructor_found, fails_as_list, no_set_found, set_found}
use Rattle.csp_spell.proofs.Repeating.{goes_on, ends, is_done}
use Rattle.csp_spell.proofs.read_values.+read_value.Goals as goal

pub read_each_value-returns-in_err-value : goal.read_each_value-returns-in_err-value
read_each_value-returns-in_err-value g t c =
    let read = value_at c.args.depth in
    let e = err_from_is_err_and c.from_residual.result c.from_residual.ensures.1 in
    rw (e.1, e.2) (ends read (items_at read c.args.count c.args.bytes.now) c.in_err-value.field-0.0 (values_of c.loop.values.items) c.args.count c.loop.counter c.loop.rest.now c.loop-test.true c.in_err-value.ensures c.loop.invariant)

pub read_each_value-loop-preserved : goal.read_each_value-loop-preserved
read_each_value-loop-preserved g t c =
    let read = value_at c.args.depth in
    let x = c.in_ok-value.value in
    let e : values_of c.push.new.self.items ≡ values_of c.loop.values.items ++ value_of x ∷ [] = rw c.in_ok-push.ensures.items (map_push _ c.loop.values.items x) in
    rw e (goes_on read (items_at read c.args.count c.args.bytes.now) (values_of c.loop.values.items) c.args.count c.loop.counter c.loop.rest.now (value_of x) c.in_ok-value.after.now c.loop-test.true c.in_ok-value.ensures c.loop.invariant)

pub read_each_value-returns : goal.read_each_value-returns
read_each_value-returns g t c =
    let read = value_at c.args.depth in
    is_done read (items_at read c.args.count c.args.bytes.now) (values_of c.loop.values.items) c.args.count c.loop.counter c.loop.rest.now c.loop-test.false c.loop.invariant

pub read_set-returns-in_err-members : goal.read_set-returns-in_err-members
read_set-returns-in_err-members g t c =
    let e = err_from_is_err_and c.from_residual.result c.from_residual.ensures.1 in
    rw (e.1, e.2) (fails_as_list c.in_err-members.field-0.0 (value_at c.args.depth) c.args.bytes.now c.in_err-members.ensures)

pub read_set-returns-then-is_rising : goal.read_set-returns-then-is_rising
read_set-returns-then-is_rising g t c =
    let rise = sym c.if-is_rising.true ∙ c.is_rising.ensures ∙ ap (λ vs. rises (values_of vs)) c.deref.ensures.value in
    set_found (value_at c.args.depth) c.args.bytes.now (values_of c.in_ok-members.members.items) c.in_ok-members.rest.now (members_of c.from_values.result) _ c.in_ok-members.ensures rise c.from_values.ensures.members (value_of_set g.row.A.Denot c.from_values.result)

pub read_set-returns : goal.read_set-returns
read_set-returns g t c =
    let rise = sym c.if-is_rising.false ∙ c.is_rising.ensures ∙ ap (λ vs. rises (values_of vs)) c.deref.ensures.value in
    no_set_found (value_at c.args.depth) c.args.bytes.now (values_of c.in_ok-members.members.items) c.in_ok-members.rest.now c.in_ok-members.ensures rise

pub read_constructor-returns-in_err-constructor : goal.read_constructor-returns-in_err-constructor
read_constructor-returns-in_err-constructor g t c =
    let e = err_from_is_err_and c.from_residual.result c.from_residual.ensures.1 in
    rw (e.1, e.2) (fails_as_number c.in_err-constructor.field-0.0 (value_at c.args.depth) c.args.bytes.now c.in_err-constructor.ensures)

pub read_constructor-returns-in_err-fields : goal.read_constructor-returns-in_err-fields
read_constructor-returns-in_err-fields g t c =
    let e = err_from_is_err_and c.from_residual-in_err-fields.result c.from_residual-in_err-fields.ensures.1 in
    rw (e.1, e.2) (fails_as_fields c.in_err-fields.field-0.0 (value_at c.args.depth) c.args.bytes.now c.in_ok-constructor.constructor c.in_ok-constructor.rest.now c.in_ok-constructor.ensures c.in_err-fields.ensures)

pub read_constructor-returns-then-is_empty : goal.read_constructor-returns-then-is_empty
read_constructor-returns-then-is_empty g t c =
    no_constructor_found value_of (value_at c.args.depth) c.args.bytes.now c.in_ok-constructor.constructor c.in_ok-constructor.rest.now c.in_ok-fields.fields.items c.in_ok-fields.rest.now c.in_ok-constructor.ensures c.in_ok-fields.ensures (sym c.if-is_empty.true ∙ c.is_empty.ensures ∙ ap (λ n. n == 0) c.in_ok-fields.fields.ok.0)

pub read_constructor-returns : goal.read_constructor-returns
read_constructor-returns g t c =
    constructor_found value_of (value_at c.args.depth) c.args.bytes.now c.in_ok-constructor.constructor c.in_ok-constructor.rest.now c.in_ok-fields.fields.items c.in_ok-fields.rest.now _ c.in_ok-constructor.ensures c.in_ok-fields.ensures (sym c.if-is_empty.false ∙ c.is_empty.ensures ∙ ap (λ n. n == 0) c.in_ok-fields.fields.ok.0) (value_of_con g.row.A.Denot _ c.in_ok-fields.fields)
