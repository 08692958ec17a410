use Rattle.std.proofs.Common.{Option, subst}
use Rattle.std.specs.Prelude.{IfSome}
use Rattle.theory_syntax.specs.Process.{Process}
use Rattle.csp_rows.specs.declared.splitting.SplitRow.{SplitRow}
use Rattle.csp_term.specs.Term.{process_of}
use Rattle.kept_parts.specs.Known.{shape_in}
use Rattle.kept_parts.specs.Rows.{IsRowAmong}
use Rattle.kept_parts.proofs.known_parts.KnownParts.find.Goals as goal

pub returns-in-Some-2-clause-found : goal.returns-in-Some-2-clause-found
returns-in-Some-2-clause-found g c =
    let k = c.take_apart.new.self.parts in
    let s = shape_in c.take_apart.new.self.last in
    let P : Option (SplitRow g.row.A.Denot) → Type 0 = λ o. IfSome o (IsRowAmong k s (process_of c.in_ok-term.term)) in
    let row = subst P c.in-Some-2.is c.in_ok-row-2.ensures.row in
    subst (λ (p : Process). IsRowAmong k s p c.in-Some-2.row) c.in_ok-term.ensures.same row
