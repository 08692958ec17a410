use Rattle.std.proofs.Common.{◌<◌, List, length, sym, subst}
use Rattle.std.specs.List.{AllByRecursion}
use Rattle.csp_rows.specs.declared.numbers.PartId.{PartId}
use Rattle.csp_packed.specs.Packed.{packed_process}
use Rattle.kept_parts.specs.KnownSteps.{processes_of}
use Rattle.kept_parts.specs.Known.{shape_in}
use Rattle.kept_parts.proofs.Growing.{row_stays}
use Rattle.kept_parts.proofs.Lending.{has_numbering}
use Rattle.kept_parts.proofs.known_parts.KnownParts.form_of_row.Goals as goal

pub fire_all-requires-clause-among : goal.fire_all-requires-clause-among
fire_all-requires-clause-among g c =
    let k = c.args.self.now.parts in
    let z = has_numbering k c.requires.known.parts (packed_process c.args.term.now) c.requires.closed in
    subst (λ (row : List PartId). AllByRecursion (λ (n : PartId). n.0 < length (processes_of k)) row) (sym c.deref.ensures.value) (c.requires.row z.0 z.1).among

pub form_by_parts-requires-clause-row : goal.form_by_parts-requires-clause-row
form_by_parts-requires-clause-row g c =
    let grows = c.fire_all.ensures.grows in
    row_stays c.args.self.now.parts c.fire_all.new.known (shape_in c.args.self.now.last) (packed_process c.args.term.now) c.args.row.now grows.script grows.stays c.requires.row
