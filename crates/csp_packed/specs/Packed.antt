-- The terms that packed and kept ones stand for.
use Rattle.theory_syntax.specs.Process.{Process}
use Rattle.csp_term.specs.Term.{process_of}
use Rattle.csp_packed.specs.Within.{term_spelled}
use Rattle.csp_packed.specs.declared.packed_term.PackedTerm.{PackedTerm}
use Rattle.csp_packed.specs.declared.kept_term.KeptTerm.{KeptTerm}
use Rattle.csp_packed.specs.declared.kept_term.KeptTerm.TheVariants as kept

abbrev pub packed_process : {A : Type 0} → PackedTerm A → Process
packed_process t = term_spelled t.bytes.items

abbrev pub kept_process : {A : Type 0} → KeptTerm A → Process
kept_process (kept.Packed t) = packed_process t
kept_process (kept.Large t) = process_of t.term
