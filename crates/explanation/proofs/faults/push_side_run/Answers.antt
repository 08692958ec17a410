-- The side is told, and its run.
use Rattle.std.proofs.Common.{◌≡◌, ◌++◌, OnOk, sym, subst}
use Rattle.std.specs.Prelude.{codes}
use Rattle.std.specs.String.{string_bytes}
use Rattle.theory_explanation.specs.Faults.{fault_run_text}
use Rattle.csp_term.specs.Script.{script_of}
use Rattle.csp_print.proofs.Writing.{behind}
use Rattle.counterexample.specs.Styles.{style_of}
use Rattle.csp_replay.specs.Hindrance.{hindrance_of}
use Rattle.explanation.specs.Sides.{side_run_of, stuck_text, told_text}
use Rattle.explanation.specs.declared.sides.SideRun.{SideRun}
use Rattle.explanation.proofs.faults.push_side_run.Goals as goal

pub returns-in_ok-push_mark-in-Implementation : goal.returns-in_ok-push_mark-in-Implementation
returns-in_ok-push_mark-in-Implementation g c =
    let style = style_of c.args.style.now in
    let h = hindrance_of c.args.hindrance in
    let script = script_of c.args.script.now in
    let told = c.in-Implementation.told in
    let r = c.push_run.result in
    let start = string_bytes c.args.text.now in
    let all = string_bytes c.push_run.new.text in
    let T : SideRun g.row.A.Denot → Type 0 = λ s. OnOk r (all ≡ start ++ fault_run_text style script h (side_run_of s)) in
    subst T (sym c.in-Implementation.is)
    (behind r start (string_bytes c.push_mark.new.text) all (codes "  the implementation comes there by\n") (told_text style told ++ stuck_text style script h told) c.in_ok-push_mark-in-Implementation.ensures c.push_run.ensures)

pub returns-in_ok-push_mark-in-Specification : goal.returns-in_ok-push_mark-in-Specification
returns-in_ok-push_mark-in-Specification g c =
    let style = style_of c.args.style.now in
    let h = hindrance_of c.args.hindrance in
    let script = script_of c.args.script.now in
    let told = c.in-Specification.told in
    let r = c.push_run-in-Specification.result in
    let start = string_bytes c.args.text.now in
    let all = string_bytes c.push_run-in-Specification.new.text in
    let T : SideRun g.row.A.Denot → Type 0 = λ s. OnOk r (all ≡ start ++ fault_run_text style script h (side_run_of s)) in
    subst T (sym c.in-Specification.is)
    (behind r start (string_bytes c.push_mark-in-Specification.new.text) all (codes "  the specification comes there by\n") (told_text style told ++ stuck_text style script h told) c.in_ok-push_mark-in-Specification.ensures c.push_run-in-Specification.ensures)
