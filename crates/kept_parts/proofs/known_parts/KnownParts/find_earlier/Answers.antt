use Rattle.std.proofs.Common.{◌<◌, List, Option, length, sym, subst}
use Rattle.std.specs.Prelude.{IfSome}
use Rattle.csp_packed.specs.Packed.{packed_process}
use Rattle.kept_parts.specs.KnownSteps.{script_in}
use Rattle.csp_rows.specs.declared.splitting.SplitRow.{SplitRow}
use Rattle.kept_parts.specs.declared.kept_shapes.EarlierShape.{EarlierShape}
use Rattle.kept_parts.specs.declared.last_shape.LastShape.{LastShape}
use Rattle.kept_parts.specs.Known.{IsLastKept, shape_in}
use Rattle.kept_parts.specs.Rows.{IsRowAmong}
use Rattle.kept_parts.proofs.Keeping.{earlier_item, earlier_kept}
use Rattle.kept_parts.proofs.known_parts.KnownParts.find_earlier.Goals as goal

pub split_in-requires-clause-shape : goal.split_in-requires-clause-shape
split_in-requires-clause-shape g c =
    let es = c.args.self.now.earlier.items in
    let i = c.loop-place.place in
    let script = script_in c.args.self.now.parts in
    let is = earlier_item es c.deref-earlier-items.result.now i c.earlier-item.result c.deref-earlier-items.ensures.value c.loop-place-test.true c.earlier-item.is in
    subst (IsLastKept script) (sym is) (earlier_kept script es i c.requires.earlier)

pub returns-in-Some : goal.returns-in-Some
returns-in-Some g c =
    let es = c.args.self.now.earlier.items in
    let i = c.loop-place.place in
    let t = packed_process c.args.term.now in
    let within = c.loop-place-test.true in
    let same = c.deref-earlier-items.ensures.value in
    let is = earlier_item es c.deref-earlier-items.result.now i c.earlier-item.result same within c.earlier-item.is in
    let P : Option (SplitRow g.row.A.Denot) → Type 0 = λ o. IfSome o (IsRowAmong c.args.self.now.parts (shape_in c.earlier-item.result.shape) t) in
    let row = subst P c.in-Some.is c.in_ok-row.ensures in (
      subst (λ (xs : List (EarlierShape g.row.A.Denot)). i < length xs) same within,
      subst (λ (o : Option (LastShape g.row.A.Denot)). IsRowAmong c.args.self.now.parts (shape_in o) t c.in-Some.row) is row,
    )
