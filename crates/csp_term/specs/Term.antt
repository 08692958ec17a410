-- The process that a term stands for.
use Rattle.std.specs.Box.{box_value}
use Rattle.theory_syntax.specs.Expression.{to_expressions}
use Rattle.theory_syntax.specs.Process.{Process, Stop, Skip, Omega, Call, Prefix, Guard, If, GeneralisedParallel, AlphabetisedParallel, Hiding, Renaming, SlidingChoice}
use Rattle.theory_syntax.specs.Operators.{binary_process, replicated_process}
use Rattle.csp_term.specs.declared.term.Term.{Term}
use Rattle.csp_term.specs.declared.term.TermForm.{TermForm}
use Rattle.csp_term.specs.declared.term.TermForm.TheOpen as layer
use Rattle.csp_term.specs.declared.term.TermForm.TheFolds.{fold-Term, fold-TermForm}
use Rattle.csp_expression.specs.Expression.{expression_of, expressions_of}
use Rattle.csp_term.specs.Field.{fields_of}
use Rattle.csp_events.specs.Events.{event_set_of, renaming_pairs_of}

-- one layer, with the processes of the parts in their places
abbrev pub term_step : {A : Type 0} → layer.Term-F A Process Process → Process
term_step t = box_value t.form

abbrev pub form_step : {A : Type 0} → layer.TermForm-F A Process Process → Process
form_step layer.Stop = Stop
form_step layer.Skip = Skip
form_step layer.Omega = Omega
form_step (layer.Call n es) = Call n.0 (to_expressions (expressions_of es.items))
form_step (layer.Prefix c fs body) = Prefix c.0 (fields_of fs.items) body
form_step (layer.Guard e body) = Guard (expression_of e) body
form_step (layer.If e first second) = If (expression_of e) first second
form_step (layer.Binary op left right) = binary_process op left right
form_step (layer.GeneralisedParallel left shared right) = GeneralisedParallel left (event_set_of shared) right
form_step (layer.AlphabetisedParallel left own other right) = AlphabetisedParallel left (event_set_of own) (event_set_of other) right
form_step (layer.Hiding body hidden) = Hiding body (event_set_of hidden)
form_step (layer.Renaming body pairs) = Renaming body (renaming_pairs_of pairs.items)
form_step (layer.Replicated op n set body) = replicated_process op n.0 (expression_of set) body
form_step (layer.SlidingChoice left right) = SlidingChoice left right

abbrev pub process_of : {A : Type 0} → Term A → Process
process_of {A} = fold-Term A Process Process form_step term_step

-- the process of a form
abbrev pub process_of_form : {A : Type 0} → TermForm A → Process
process_of_form {A} = fold-TermForm A Process Process form_step term_step
