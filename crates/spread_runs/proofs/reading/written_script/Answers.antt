-- Kinds do not hang on how names are read.
use Rattle.std.proofs.Common.{◌≡◌, sym, ◌∙◌, subst}
use Rattle.theory_syntax.specs.Process.{ByTau, Script}
use Rattle.theory_syntax.specs.Readings.{reading}
use Rattle.theory_semantics.specs.Kinds.Scripts.{IsCheckedScript}
use Rattle.theory_semantics.proofs.ReadingKinds.{checked_read}
use Rattle.csp_term.specs.Script.{script_of, script_of_parts}
use Rattle.spread_runs.proofs.reading.written_script.Goals as goal

pub new-requires : goal.new-requires
new-requires g c =
    let is : script_of_parts c.in_ok-parts.parts ≡ script_of c.args.script.now = c.in_ok-parts.ensures ∙ c.parts.ensures.value in
    let C : Script → Type 0 = λ s. IsCheckedScript (reading ByTau s) in
    record { checked = subst C (sym is) (checked_read ByTau (script_of c.args.script.now) c.parts.ensures.checked) }
