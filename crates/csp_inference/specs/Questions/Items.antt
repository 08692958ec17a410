-- What the equations and the assertions of a script ask.
use Rattle.std.specs.Prelude.{List, map, Option, option_map}
use denote.Ref.{Bor}
use Rattle.theory_syntax.specs.Process.{Process}
use Rattle.csp_term.specs.declared.term.Term.{Term}
use Rattle.theory_checking.specs.Inference.Items.{of_assertion, of_equation, of_specification, behind_assertion, behind_specification}
use Rattle.theory_checking.specs.Inference.Processes.{behind_process}
use Rattle.csp_term.specs.declared.assertion.Assertion.{Assertion}
use Rattle.csp_term.specs.declared.script.Equation.{Equation}
use Rattle.csp_term.specs.declared.script.ScriptParts.{ScriptParts}
use Rattle.csp_term.specs.Script.{assertion_of, equation_of, script_of_parts}
use Rattle.csp_term.specs.Term.{process_of}
use Rattle.csp_inference.specs.declared.chain.KindNumber.{KindNumber}
use Rattle.csp_inference.specs.declared.numbering.Numbering.{Numbering}
use Rattle.csp_inference.specs.Numbering.{numbering_of}
use Rattle.csp_inference.specs.Question.{Question}

-- what an equation asks whose parameters are to be as many as the numbers and to have their kinds
abbrev pub equation_question : {A : Type 0} → ScriptParts A → Numbering A → Equation A → List KindNumber → Question
equation_question script numbering equation numbers = record {
  equations = λ n. of_equation (script_of_parts script) (numbering_of numbering) n (equation_of equation) (map (λ m. m.0) numbers);
  behind = λ n. behind_process n (process_of equation.body);
}

-- the process that is lent, if there is one
abbrev pub lent_process : {A : Type 0} → Option (Bor (Term A)) → Option Process
lent_process = option_map (λ t. process_of t.now)

-- what a specification asks, if there is one
abbrev pub specification_question : {A : Type 0} → ScriptParts A → Numbering A → Option (Bor (Term A)) → Question
specification_question script numbering specification = record {
  equations = λ n. of_specification (script_of_parts script) (numbering_of numbering) n (lent_process specification);
  behind = λ n. behind_specification n (lent_process specification);
}

-- what an assertion asks: what its one or two processes ask
abbrev pub assertion_question : {A : Type 0} → ScriptParts A → Numbering A → Assertion A → Question
assertion_question script numbering assertion = record {
  equations = λ n. of_assertion (script_of_parts script) (numbering_of numbering) n (assertion_of assertion);
  behind = λ n. behind_assertion n (assertion_of assertion);
}
