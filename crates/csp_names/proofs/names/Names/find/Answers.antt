use Rattle.std.proofs.Common.{◌∙◌, ap, option_map, sym, take}
use Rattle.std.specs.Str.{chars}
use Rattle.csp_names.specs.Meanings.{declared_of}
use Rattle.csp_names.specs.Rows.{row_at, spelled}
use Rattle.csp_names.proofs.Rows.{absent_row, hidden_row, visible_row}
use Rattle.csp_names.proofs.names.Names.find.Goals as goal

pub returns-in-Some : goal.returns-in-Some
returns-in-Some g c texts =
    let es = c.args.self.now.table.entries in
    sym (ap (λ s. option_map declared_of (row_at (take c.args.visible (spelled es)) (chars s))) (sym c.as_bytes.ensures.value)
    ∙ ap (option_map declared_of) (visible_row c.as_bytes.result.now c.as_bytes.ensures.utf8 es c.args.visible c.in-Some.place c.in-Some.declared.now texts c.in-Some.ensures.index c.in-Some.ensures.value c.if-place-visible.true))

pub returns-in_default : goal.returns-in_default
returns-in_default g c texts =
    let es = c.args.self.now.table.entries in
    sym (ap (λ s. option_map declared_of (row_at (take c.args.visible (spelled es)) (chars s))) (sym c.as_bytes.ensures.value)
    ∙ ap (option_map declared_of) (hidden_row c.as_bytes.result.now c.as_bytes.ensures.utf8 es c.args.visible c.in-Some.place texts c.in-Some.ensures.index c.if-place-visible.false))

pub returns-in_default-2 : goal.returns-in_default-2
returns-in_default-2 g c texts =
    let es = c.args.self.now.table.entries in
    sym (ap (λ s. option_map declared_of (row_at (take c.args.visible (spelled es)) (chars s))) (sym c.as_bytes.ensures.value)
    ∙ ap (option_map declared_of) (absent_row c.as_bytes.result.now c.as_bytes.ensures.utf8 es c.args.visible texts (sym (ap (option_map (λ p. p.2.now)) c.in_default.is) ∙ c.get_full.ensures.value)))
