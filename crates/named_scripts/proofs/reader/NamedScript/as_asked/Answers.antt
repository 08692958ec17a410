-- The script is read as it is asked.
use Rattle.std.proofs.Common.{◌∙◌, ap, sym}
use Rattle.theory_syntax.specs.Readings.{reading}
use Rattle.csp_term.specs.Script.{script_of}
use Rattle.program.specs.Running.{names_read}
use Rattle.program.proofs.Answering.{is_by_tau}
use Rattle.named_scripts.proofs.reader.NamedScript.as_asked.Goals as goal

pub returns-then-at_once-clause-script : goal.returns-then-at_once-clause-script
returns-then-at_once-clause-script g c read =
    let s = script_of c.args.self.script in
    c.at_once-script.ensures ∙ ap (λ asked. reading (names_read asked) s) (sym c.if-at_once.true)

pub returns-else-at_once-clause-script : goal.returns-else-at_once-clause-script
returns-else-at_once-clause-script g c read =
    let s = script_of c.args.self.script in
    sym (is_by_tau s read) ∙ ap (λ asked. reading (names_read asked) s) (sym c.if-at_once.false)
