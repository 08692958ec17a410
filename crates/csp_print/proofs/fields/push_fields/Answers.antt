use Rattle.std.proofs.Common.{List, ◌++◌, drop, ap, ◌∙◌, sym, ◌≡◌, ◌+◌, ◌∷◌, suc, add-one, drop-cons}
use Rattle.std.proofs.lemmas.List.{drop_all}
use Rattle.std.specs.Prelude.{Bool, false}
use Rattle.std.specs.String.{string_bytes}
use Rattle.csp_term.specs.declared.field.Field.{Field}
use Rattle.csp_term.specs.Field.{field_of, fields_of}
use Rattle.theory_notation.specs.Processes.{field_text, fields_text}
use Rattle.csp_print.specs.Names.{names_of}
use Rattle.csp_print.proofs.Writing.{comes_to_end, goes_on_bare}
use Rattle.csp_print.proofs.fields.push_fields.Goals as goal

pub loop-field-preserved : goal.loop-field-preserved
loop-field-preserved g c =
    let fields = c.args.fields.now in
    let i = c.loop-field.field-index in
    let names = names_of c.args.names.now in
    let before = c.loop-field.behind_input in
    let field = field_of c.field-item.result in
    let texts = λ (behind : Bool) (xs : List (Field g.row.A.Denot)). fields_text names behind (fields_of xs) in
    let first : drop i fields ≡ c.field-item.result ∷ drop (i + 1) fields =
    rw add-one (drop-cons fields i c.field-item.result c.loop-field-test.true ∙ ap (λ x. x ∷ drop (suc i) fields) (sym c.field-item.is)) in
    let rest = ap (λ behind. field_text names before field ++ texts behind (drop (i + 1) fields)) (sym c.has_input-behind_input.ensures) in
    goes_on_bare (string_bytes c.loop-field.text) (string_bytes c.push_field.new.text) (field_text names before field)
    (texts before (drop i fields)) (texts c.has_input-behind_input.result (drop (i + 1) fields)) (string_bytes c.args.text.now ++ texts false fields) c.loop-field.invariant (ap (texts before) first ∙ rest) c.in_ok-push_field.ensures

pub returns : goal.returns
returns g c =
    let fields = c.args.fields.now in
    let before = c.loop-field.behind_input in
    let texts = λ (behind : Bool) (xs : List (Field g.row.A.Denot)). fields_text (names_of c.args.names.now) behind (fields_of xs) in
    comes_to_end (string_bytes c.args.text.now) (string_bytes c.loop-field.text) (texts before (drop c.loop-field.field-index fields)) (texts false fields)
    c.loop-field.invariant (ap (texts before) (drop_all c.loop-field.field-index fields c.loop-field-test.false))
