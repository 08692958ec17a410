use Rattle.std.proofs.Common.{◌≡◌, ◌≢◌, ◌<◌, ◌≤◌, length, map, sym, inl, inr, arith}
use Rattle.std.proofs.lemmas.List.{length-map}
use Rattle.theory_checking.specs.Inference.Equations.{never}
use Rattle.theory_checking.specs.Inference.Processes.{behind_fields, of_fields}
use Rattle.csp_expression.specs.Evaluation.{table_of}
use Rattle.csp_term.specs.Field.{field_of, fields_of}
use Rattle.csp_inference.specs.Equations.{equations_of}
use Rattle.csp_inference.specs.Numbering.{names_of, numbering_of}
use Rattle.csp_inference.proofs.Asking.{hopeless_back, hopeless_same, never_asks, never_hopeless}
use Rattle.csp_inference.proofs.AskingFields.{cut_map, cut_number, fields_all, fields_more, fields_names, fields_unequal}
use Rattle.csp_inference.proofs.equations.Equations.ask_fields.Goals as goal

pub returns-then-fields-numbers-clause-asks : goal.returns-then-fields-numbers-clause-asks
returns-then-fields-numbers-clause-asks g c =
    let s = c.args.self.now in
    let fs = fields_of c.args.fields.now in
    let ms = map (λ n. n.0) c.args.numbers.now in
    let left = length-map c.args.fields.now field_of in
    let right = length-map c.args.numbers.now (λ n. n.0) in
    let differ : length fs ≢ length ms = omega arith in
    never_asks s c.push_never.new.self (of_fields (table_of c.args.types.now) (numbering_of c.args.numbering.now) s.next (names_of c.args.names.now) fs ms)
    s.next (behind_fields s.next fs)
    (fields_unequal (table_of c.args.types.now) (numbering_of c.args.numbering.now) s.next (names_of c.args.names.now) fs ms differ) c.in_ok-push_never.ensures

pub returns-then-fields-numbers-clause-names : goal.returns-then-fields-numbers-clause-names
returns-then-fields-numbers-clause-names g c =
    inr (hopeless_same _ (equations_of c.push_never.new.self) (sym c.in_ok-push_never.ensures.met)
    (hopeless_back (equations_of c.args.self.now) never never_hopeless))

pub loop-index-preserved : goal.loop-index-preserved
loop-index-preserved g c =
    let i = c.loop-index.index in
    let in_numbers : i < length c.args.numbers.now = omega arith in
    fields_more (table_of c.args.types.now) (numbering_of c.args.numbering.now) c.args.self.now c.loop-index.self (names_of c.args.names.now)
    (names_of c.loop-index.inner.items) (fields_of c.args.fields.now) (map (λ n. n.0) c.args.numbers.now) i c.ask_field.new.self
    (names_of c.ask_field.new.names.items) (field_of c.index-fields-index.result) _
    (cut_map field_of c.args.fields.now i c.index-fields-index.result c.loop-index-test.true c.index-fields-index.is)
    (cut_number c.args.numbers.now i _ in_numbers) c.loop-index.invariant c.in_ok-ask_field.ensures.asks c.in_ok-ask_field.ensures.names

pub returns-clause-asks : goal.returns-clause-asks
returns-clause-asks g c =
    let left = length-map c.args.fields.now field_of in
    let right = length-map c.args.numbers.now (λ n. n.0) in
    let same : length (fields_of c.args.fields.now) ≡ length (map (λ n. n.0) c.args.numbers.now) = omega arith in
    let over : length (fields_of c.args.fields.now) ≤ c.loop-index.index = omega arith in
    fields_all (table_of c.args.types.now) (numbering_of c.args.numbering.now) c.args.self.now c.loop-index.self (names_of c.args.names.now)
    (names_of c.loop-index.inner.items) (fields_of c.args.fields.now) (map (λ n. n.0) c.args.numbers.now) c.loop-index.index over same
    c.loop-index.invariant

pub returns-clause-names : goal.returns-clause-names
returns-clause-names g c =
    let left = length-map c.args.fields.now field_of in
    let over : length (fields_of c.args.fields.now) ≤ c.loop-index.index = omega arith in
    inl (fields_names (table_of c.args.types.now) (numbering_of c.args.numbering.now) c.args.self.now c.loop-index.self (names_of c.args.names.now)
    (names_of c.loop-index.inner.items) (fields_of c.args.fields.now) (map (λ n. n.0) c.args.numbers.now) c.loop-index.index over c.loop-index.invariant)
