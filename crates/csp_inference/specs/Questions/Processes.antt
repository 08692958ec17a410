-- What processes ask.
use Rattle.std.specs.Prelude.{List}
use Rattle.theory_checking.specs.Inference.Processes.{behind_process, of_process}
use Rattle.csp_term.specs.declared.script.ScriptParts.{ScriptParts}
use Rattle.csp_term.specs.declared.term.Term.{Term}
use Rattle.csp_term.specs.Script.{script_of_parts}
use Rattle.csp_term.specs.Term.{process_of}
use Rattle.csp_inference.specs.declared.numbering.NumberedName.{NumberedName}
use Rattle.csp_inference.specs.declared.numbering.Numbering.{Numbering}
use Rattle.csp_inference.specs.Numbering.{names_of, numbering_of}
use Rattle.csp_inference.specs.Question.{Question}

-- what a process of the script asks, where names have the kinds of their numbers
abbrev pub process_question : {A : Type 0} → ScriptParts A → Numbering A → List NumberedName → Term A → Question
process_question script numbering names process = record {
  equations = λ n. of_process (script_of_parts script) (numbering_of numbering) n (names_of names) (process_of process);
  behind = λ n. behind_process n (process_of process);
}
