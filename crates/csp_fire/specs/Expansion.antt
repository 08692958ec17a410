-- The expansion that one of the code stands for.
use Rattle.theory_semantics.specs.Kinds.Scripts.{IsTermOf}
use Rattle.theory_semantics.specs.Meaning.Expansions as meaning
use Rattle.theory_semantics.specs.Meaning.Expansions.{IsExpansion}
use Rattle.csp_term.specs.Term.{process_of}
use Rattle.csp_term.specs.Script.{script_of}
use Rattle.csp_fire.specs.declared.expansion.Expansion.TheInside.{Inside}
use Rattle.csp_fire.specs.Form.{form_of}

abbrev pub expansion_of : {A : Type 0} → Inside A → meaning.Expansion
expansion_of e = record { script = script_of e.script.now; term = process_of e.term; form = form_of e.form }

-- the form is exactly what the rules say of the term, which is one of the script
abbrev pub IsKept : {A : Type 0} → Inside A → Type 0
IsKept e = IsExpansion (expansion_of e) × IsTermOf (script_of e.script.now) (process_of e.term)
