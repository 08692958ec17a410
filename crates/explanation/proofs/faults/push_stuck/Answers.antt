-- What is to blame, or its size, as names are read.
use Rattle.std.proofs.Common.{◌≡◌, ◌++◌, ℕ, List, sym, ◌∙◌, ap, subst, map}
use Rattle.std.specs.String.{string_bytes}
use Rattle.theory_syntax.specs.Models.{unfolding_of}
use Rattle.theory_syntax.specs.Process.{Script, Unfolding}
use Rattle.theory_runs.specs.Stuck.{Hindrance}
use Rattle.theory_explanation.specs.Faults.{size_line, stuck_line}
use Rattle.csp_term.specs.Script.{script_of}
use Rattle.csp_term.specs.Term.{process_of}
use Rattle.csp_print.specs.Names.{names_of}
use Rattle.csp_replay.specs.Hindrance.{hindrance_of}
use Rattle.explanation.proofs.faults.push_stuck.Goals as goal

pub returns-in_ok-push_mark-in-Size : goal.returns-in_ok-push_mark-in-Size
returns-in_ok-push_mark-in-Size g c =
    let names = names_of c.args.names.now in
    let script = script_of c.args.script.now in
    let old = string_bytes c.args.text.now in
    let new = string_bytes c.push_mark.new.text in
    let read = ap (λ (s : Script). s.unfolds) c.parts.ensures.value in
    let said = c.in_ok-push_mark-in-Size.ensures ∙ ap (λ ts. old ++ ts) c.size_line.ensures in
    let T : Hindrance → Type 0 = λ h. new ≡ old ++ stuck_line names script h (map process_of c.args.states.now) in
    subst T (sym (ap hindrance_of c.in-Size.is)) (said ∙ ap (λ u. old ++ size_line u) read)
