-- The specification as it is written is the start, if there is one.
use Rattle.std.proofs.Common.{◌≡◌, Option, Some, IfSome, sym, subst}
use Rattle.std.specs.Borrow.{Bor}
use Rattle.theory_syntax.specs.Process.{Process, specification_of}
use Rattle.theory_semantics.specs.Kinds.Scripts.{IsTermOf}
use Rattle.csp_term.specs.Script.{assertion_of, script_of}
use Rattle.csp_term.specs.Term.{process_of}
use Rattle.csp_term.specs.declared.term.Term.{Term}
use Rattle.counterexample.specs.Counterexample.{specification_in}
use Rattle.explanation.specs.ToldRuns.{SpreadsTold}
use Rattle.explanation.specs.declared.told_run.ToldRun.{ToldRun}
use Rattle.explanation.proofs.spread_sides.spread_specification.Goals as goal

pub spread_told-requires-clause-closed : goal.spread_told-requires-clause-closed
spread_told-requires-clause-closed g c =
    let script = script_of c.args.script.now in
    let start = c.in-Some.start in
    let I : Option (Bor (Term g.row.A.Denot)) → Type 0 = λ o. specification_in o ≡ specification_of (assertion_of c.args.written.now).property in
    let there : Some (process_of start.now) ≡ specification_of (assertion_of c.args.written.now).property = subst I c.in-Some.is c.specification-start.ensures in
    let S : Option Process → Type 0 = λ s. IfSome s (IsTermOf script) in
    subst S (sym there) c.requires.terms.specification

pub returns-in-Some-spread : goal.returns-in-Some-spread
returns-in-Some-spread g c =
    let script = script_of c.args.script.now in
    let start = c.in-Some.start in
    let I : Option (Bor (Term g.row.A.Denot)) → Type 0 = λ o. specification_in o ≡ specification_of (assertion_of c.args.written.now).property in
    let there : Some (process_of start.now) ≡ specification_of (assertion_of c.args.written.now).property = subst I c.in-Some.is c.specification-start.ensures in
    let O : Option (ToldRun g.row.A.Denot) → Type 0 = λ o. IfSome o (SpreadsTold script (process_of start.now) c.args.told.now) in
    (process_of start.now, sym there, subst O c.in-Some-spread.is c.in_ok-spread.ensures)
