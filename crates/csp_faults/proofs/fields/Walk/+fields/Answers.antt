-- What is to blame in fields by what is to blame in the first one, and behind it.
use Rattle.std.proofs.Common.{◌≡◌, ℕ, ◌+◌, suc, drop, map, refl, sym, ◌∙◌, ap, ap₂, subst, arith}
use Rattle.std.proofs.lemmas.List.{length-map}
use Rattle.theory_semantics.specs.Meaning.Substitution.{Bindings, bind}
use Rattle.theory_faults.specs.Culprit.{first_found}
use Rattle.theory_faults.specs.Events.{bindings_behind, fields_culprit, own_field_culprit}
use Rattle.theory_syntax.specs.Value as value
use Rattle.csp_value.specs.Fields.{field_values, sets_of}
use Rattle.csp_value.specs.declared.value.Value.{Value}
use Rattle.csp_value.specs.Value.{value_of, values_of}
use Rattle.csp_expression.specs.Bindings.{bindings_of}
use Rattle.csp_expression.specs.Evaluation.{table_of}
use Rattle.csp_term.specs.Field.{field_of, fields_of}
use Rattle.csp_faults.specs.Culprit.{Finds}
use Rattle.csp_faults.specs.Fields.{behind_of, culprit_behind}
use Rattle.csp_faults.proofs.FieldsFound.{ended_fields, ended_sets, found_by, left_by, maps_join, nothing_in, rests_by}
use Rattle.csp_faults.proofs.Found.{found_none, goes_behind, looked, or_behind, or_stays, stays}
use Rattle.csp_faults.proofs.fields.Walk.+fields.Goals.{fields_culprit-in_default-via-in-None+in_default, fields_culprit-in_default-via-in-Some+in_default}
use Rattle.csp_faults.proofs.fields.Walk.+fields.Goals as goal

pub culprit_behind-loop-value-init : goal.culprit_behind-loop-value-init
culprit_behind-loop-value-init g t c = refl

pub culprit_behind-returns-then-is_some : goal.culprit_behind-returns-then-is_some
culprit_behind-returns-then-is_some g t c =
    let types = table_of c.args.self.now.types.now in
    let bs = bindings_of c.args.bindings.now in
    let look = λ (ds : Bindings). fields_culprit types c.args.self.now.channel.0 c.args.before ds (fields_of c.args.fields.now) (sets_of c.args.sets.now) in
    let all = bindings_behind types bs (field_of c.args.field.now) (field_values c.args.set.now) in
    let bound = λ (v : value.Value). bind c.in-Some.taken.name.0 v bs in
    let xs = c.deref-value-items.result.now in
    let are : map (λ (x : Value g.row.A.Denot). bound (value_of x)) xs ≡ all =
    sym (maps_join bound value_of xs) ∙ ap (λ vs. map bound (values_of vs)) c.deref-value-items.ensures.value ∙ ap (behind_of bs) (sym c.in-Some.is) ∙ c.in_ok-taken.ensures in
    let i = c.loop-value.value-index in
    let x = c.value-item.result in
    let each = λ (y : Value g.row.A.Denot). look (bound (value_of y)) in
    let same = c.in_ok-found.ensures ∙ ap (λ ds. look (bindings_of ds)) c.deref.ensures.value ∙ ap look c.in_ok-bound.ensures in
    stays c.in_ok-found.found c.is_some.result c.is_some.ensures c.if-is_some.true (each x) (first_found each (drop (i + 1) xs)) (first_found each xs) same
    (looked each xs i x c.loop-value-test.true c.value-item.is (rests_by look (λ (y : Value g.row.A.Denot). bound (value_of y)) xs all are i c.loop-value.invariant))
    ∙ sym (found_by look (λ (y : Value g.row.A.Denot). bound (value_of y)) xs all are)

pub culprit_behind-loop-value-preserved : goal.culprit_behind-loop-value-preserved
culprit_behind-loop-value-preserved g t c =
    let types = table_of c.args.self.now.types.now in
    let bs = bindings_of c.args.bindings.now in
    let look = λ (ds : Bindings). fields_culprit types c.args.self.now.channel.0 c.args.before ds (fields_of c.args.fields.now) (sets_of c.args.sets.now) in
    let all = bindings_behind types bs (field_of c.args.field.now) (field_values c.args.set.now) in
    let bound = λ (v : value.Value). bind c.in-Some.taken.name.0 v bs in
    let xs = c.deref-value-items.result.now in
    let are : map (λ (x : Value g.row.A.Denot). bound (value_of x)) xs ≡ all =
    sym (maps_join bound value_of xs) ∙ ap (λ vs. map bound (values_of vs)) c.deref-value-items.ensures.value ∙ ap (behind_of bs) (sym c.in-Some.is) ∙ c.in_ok-taken.ensures in
    let i = c.loop-value.value-index in
    let x = c.value-item.result in
    let each = λ (y : Value g.row.A.Denot). look (bound (value_of y)) in
    let same = c.in_ok-found.ensures ∙ ap (λ ds. look (bindings_of ds)) c.deref.ensures.value ∙ ap look c.in_ok-bound.ensures in
    left_by look (λ (y : Value g.row.A.Denot). bound (value_of y)) xs all are (i + 1)
    ∙ goes_behind c.in_ok-found.found c.is_some.result c.is_some.ensures c.if-is_some.false (each x) (first_found each (drop (i + 1) xs)) (first_found each xs) same
    (looked each xs i x c.loop-value-test.true c.value-item.is (rests_by look (λ (y : Value g.row.A.Denot). bound (value_of y)) xs all are i c.loop-value.invariant))
    ∙ sym (found_by look (λ (y : Value g.row.A.Denot). bound (value_of y)) xs all are)

pub culprit_behind-returns : goal.culprit_behind-returns
culprit_behind-returns g t c =
    let types = table_of c.args.self.now.types.now in
    let bs = bindings_of c.args.bindings.now in
    let look = λ (ds : Bindings). fields_culprit types c.args.self.now.channel.0 c.args.before ds (fields_of c.args.fields.now) (sets_of c.args.sets.now) in
    let all = bindings_behind types bs (field_of c.args.field.now) (field_values c.args.set.now) in
    let bound = λ (v : value.Value). bind c.in-Some.taken.name.0 v bs in
    let xs = c.deref-value-items.result.now in
    let are : map (λ (x : Value g.row.A.Denot). bound (value_of x)) xs ≡ all =
    sym (maps_join bound value_of xs) ∙ ap (λ vs. map bound (values_of vs)) c.deref-value-items.ensures.value ∙ ap (behind_of bs) (sym c.in-Some.is) ∙ c.in_ok-taken.ensures in
    let i = c.loop-value.value-index in
    found_none (λ (y : Value g.row.A.Denot). look (bound (value_of y))) xs i (omega arith) (rests_by look (λ (y : Value g.row.A.Denot). bound (value_of y)) xs all are i c.loop-value.invariant) ∙ sym (found_by look (λ (y : Value g.row.A.Denot). bound (value_of y)) xs all are)

pub fields_culprit-returns-then-is_some : goal.fields_culprit-returns-then-is_some
fields_culprit-returns-then-is_some g t c =
    let types = table_of c.args.self.now.types.now in
    let k = c.args.self.now.channel.0 in
    let i = c.args.before in
    let bs = bindings_of c.args.bindings.now in
    let w = c.in-Some-Some in
    let own = own_field_culprit types k i bs (field_of w.field.now) (field_values w.set.now) in
    let behind = culprit_behind types k (suc i) (bindings_behind types bs (field_of w.field.now) (field_values w.set.now)) (fields_of w.fields.now) (sets_of w.sets.now) in
    or_stays c.in_ok-found-in-Some-Some.found c.is_some.result c.is_some.ensures c.if-is_some.true own behind c.in_ok-found-in-Some-Some.ensures
    ∙ sym (ap₂ (fields_culprit types k i bs) (ap fields_of w.ensures.cases.0) (ap sets_of w.ensures'.cases.0))

pub fields_culprit-returns-else-is_some : goal.fields_culprit-returns-else-is_some
fields_culprit-returns-else-is_some g t c =
    let types = table_of c.args.self.now.types.now in
    let k = c.args.self.now.channel.0 in
    let i = c.args.before in
    let bs = bindings_of c.args.bindings.now in
    let w = c.in-Some-Some in
    let own = own_field_culprit types k i bs (field_of w.field.now) (field_values w.set.now) in
    let from = λ (n : ℕ). culprit_behind types k n (bindings_behind types bs (field_of w.field.now) (field_values w.set.now)) (fields_of w.fields.now) (sets_of w.sets.now) in
    let next : i + 1 ≡ suc i = omega arith in
    subst (Finds c.culprit_behind.result)
    (ap from next ∙ or_behind c.in_ok-found-in-Some-Some.found c.is_some.result c.is_some.ensures c.if-is_some.false own (from (suc i)) c.in_ok-found-in-Some-Some.ensures
    ∙ sym (ap₂ (fields_culprit types k i bs) (ap fields_of w.ensures.cases.0) (ap sets_of w.ensures'.cases.0)))
    c.culprit_behind.ensures

pub fields_culprit-returns-in_default : goal.fields_culprit-returns-in_default
fields_culprit-returns-in_default g t c =
    let types = table_of c.args.self.now.types.now in
    let k = c.args.self.now.channel.0 in
    let i = c.args.before in
    let bs = bindings_of c.args.bindings.now in
    let fs = c.args.fields.now in
    let sets = c.args.sets.now in
    elim c.in_default.branch [
      | fields_culprit-in_default-via-in-None+in_default w ↦
          ended_fields types k i bs (fields_of fs) (sets_of sets) (ap fields_of (nothing_in fs w.in_default.ensures.cases)) (λ e. omega (arith, e, length-map sets field_values, w.in_default.ensures'.cases.1))
      | fields_culprit-in_default-via-in-Some+in_default w ↦
          ended_sets types k i bs (fields_of fs) (sets_of sets) (λ e. omega (arith, e, length-map fs field_of, w.in_default.ensures.cases.1)) (ap sets_of (nothing_in sets w.in_default.ensures'.cases))
    ]
