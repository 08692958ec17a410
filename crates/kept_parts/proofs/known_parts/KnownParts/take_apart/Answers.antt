use Rattle.std.proofs.Common.{◌∙◌, List, Option, sym, ap, subst}
use Rattle.std.specs.Prelude.{IfSome}
use Rattle.std.specs.List.{AllByRecursion}
use Rattle.theory_syntax.specs.Process.{Process, Script}
use Rattle.csp_packed.specs.Packed.{packed_process}
use Rattle.kept_parts.specs.Kept.{IsPartOf}
use Rattle.csp_rows.specs.declared.splitting.SplitRow.{SplitRow}
use Rattle.csp_numbers.specs.Lists.{processes_of as processes_lent}
use Rattle.csp_term.specs.Script.{script_of}
use Rattle.csp_term.specs.Term.{process_of}
use Rattle.kept_parts.specs.Known.{shape_in}
use Rattle.kept_parts.specs.Rows.{IsRowAmong}
use Rattle.kept_parts.proofs.Keeping.{for_script}
use Rattle.kept_parts.proofs.Numbered.{are_parts}
use Rattle.kept_parts.proofs.known_parts.KnownParts.take_apart.Goals as goal

pub number_all-requires-clause-parts : goal.number_all-requires-clause-parts
number_all-requires-clause-parts g c =
    let t = process_of c.args.term.now in
    let script = script_of c.args.script.now in
    let all = are_parts script t c.requires.closed c.requires.within in
    let lent = ap processes_lent c.deref.ensures.value ∙ c.in_ok-parts.ensures in
    let here = subst (λ (ps : List Process). AllByRecursion (IsPartOf script) ps) (sym lent) all in
    for_script script c.args.self.now c.requires.known (λ (s : Script). AllByRecursion (IsPartOf s) (processes_lent c.deref.result.now)) here

pub returns-in-Some-clause-row : goal.returns-in-Some-clause-row
returns-in-Some-clause-row g c =
    let k = c.look_up.new.self.parts in
    let s = shape_in c.look_up.new.self.last in
    let P : Option (SplitRow g.row.A.Denot) → Type 0 = λ o. IfSome o (IsRowAmong k s (packed_process c.args.packed.now)) in
    let row = subst P c.in-Some.is c.in_ok-row.ensures.row in
    subst (λ (p : Process). IsRowAmong k s p c.in-Some.row) (sym c.requires.same) row
