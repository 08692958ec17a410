use Rattle.std.proofs.Common.{◌∷◌, [], ◌∙◌, ap, refl, subst, sym}
use Rattle.std.specs.Str.{chars}
use Rattle.theory_checking.specs.DeclaredRows.{row_spellings}
use Rattle.theory_checking.specs.Names.{has_spelling}
use Rattle.csp_parse.specs.Names.{name_of}
use Rattle.csp_names.specs.declared.refusals.Refused.{Refused}
use Rattle.csp_names.specs.FirstPass.{Redeclares, rows_of}
use Rattle.csp_names.proofs.NamesAdded.{has_row, name_put, redeclares_name}
use Rattle.csp_names.proofs.names.Names.add.Goals as goal

pub returns-then-contains_key : goal.returns-then-contains_key
returns-then-contains_key g c =
    let names = c.args.self.now in
    let n = name_of c.args.name in
    let P : Refused → Type 0 = Redeclares names (n ∷ []) in
    subst P (sym c.at.ensures)
    (redeclares_name names n c.args.name.place refl
    (λ texts. ap (λ s. has_spelling (row_spellings (rows_of names)) (chars s)) (sym c.as_bytes-text.ensures.value) ∙ sym (has_row c.as_bytes-text.result.now c.as_bytes-text.ensures.utf8 names.table.entries texts) ∙ sym c.contains_key.ensures ∙ c.if-contains_key.true))

pub returns : goal.returns
returns g c =
    name_put c.args.self.now _ c.as_bytes-text.result (name_of c.args.name) c.args.declared c.as_bytes-text.ensures.utf8 (ap chars c.as_bytes-text.ensures.value) (sym c.contains_key.ensures ∙ c.if-contains_key.false) c.in_ok-insert.ensures.entries refl refl refl
