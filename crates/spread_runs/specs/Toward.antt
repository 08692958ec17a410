-- What steps do, and what they lead to.
use Rattle.theory_syntax.specs.Value.{Action}
use Rattle.theory_syntax.specs.Process.{Process, Script}
use Rattle.theory_semantics.specs.Kinds.Scripts.{IsTermOf}
use Rattle.theory_semantics.specs.Meaning.Transitions as meaning
use Rattle.csp_fire.specs.declared.form.Step.{Step}
use Rattle.csp_value.specs.Action.{action_of}
use Rattle.csp_term.specs.Term.{process_of}
use Rattle.csp_term.specs.declared.term.Term.{Term}

-- what a step does
abbrev pub action_done : {A : Type 0} → Step A → Action
action_done s = action_of s.action

-- a step by x leads from t to the term, which is one of the script
abbrev pub LeadsTo : {A : Type 0} → Script → Process → Action → Term A → Type 0
LeadsTo script t x next = meaning.Step script t x (process_of next) × IsTermOf script (process_of next)
