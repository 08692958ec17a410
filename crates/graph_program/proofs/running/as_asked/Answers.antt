-- The script is read as it is asked.
use Rattle.std.proofs.Common.{◌∙◌, ap, sym}
use Rattle.theory_syntax.specs.Readings.{reading}
use Rattle.csp_term.specs.Script.{script_of}
use Rattle.program.specs.Running.{names_read}
use Rattle.program.proofs.Answering.{is_by_tau}
use Rattle.graph_program.proofs.running.as_asked.Goals as goal

pub returns-then-at_once : goal.returns-then-at_once
returns-then-at_once g c read =
    let s = script_of c.args.script in
    c.at_once.ensures ∙ ap (λ asked. reading (names_read asked) s) (sym c.if-at_once.true)

pub returns-else-at_once : goal.returns-else-at_once
returns-else-at_once g c read =
    let s = script_of c.args.script in
    sym (is_by_tau s read) ∙ ap (λ asked. reading (names_read asked) s) (sym c.if-at_once.false)
