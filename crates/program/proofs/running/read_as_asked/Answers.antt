-- The script of the text, as its names are asked to be read.
use Rattle.std.proofs.Common.{Bool, sym, subst}
use Rattle.csp_term.specs.Script.{script_of}
use Rattle.program.specs.Reading.{IsTextRead}
use Rattle.program.specs.Running.{names_read}
use Rattle.program.proofs.Answering.{read_at_once, read_by_tau}
use Rattle.program.proofs.running.read_as_asked.Goals as goal

pub returns-then-settings-clause-script : goal.returns-then-settings-clause-script
returns-then-settings-clause-script g c =
    let P : Bool → Type 0 = λ asked. IsTextRead (names_read asked) c.args.text.now (script_of c.at_once.result) in
    subst P (sym c.if-settings.true) (read_at_once c.args.text.now (script_of c.in_ok-script.script) (script_of c.at_once.result) c.at_once.ensures c.in_ok-script.ensures.script)

pub returns-else-settings-clause-script : goal.returns-else-settings-clause-script
returns-else-settings-clause-script g c =
    let P : Bool → Type 0 = λ asked. IsTextRead (names_read asked) c.args.text.now (script_of c.in_ok-script.script) in
    subst P (sym c.if-settings.false) (read_by_tau c.args.text.now (script_of c.in_ok-script.script) c.in_ok-script.ensures.script)
