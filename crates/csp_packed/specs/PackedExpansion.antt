-- The expansion that a packed one stands for.
use Rattle.theory_semantics.specs.Meaning.Expansions as meaning
use Rattle.theory_semantics.specs.Meaning.Expansions.{IsExpansion}
use Rattle.csp_term.specs.Script.{script_of}
use Rattle.csp_packed.specs.declared.packed_expansion.PackedExpansion.TheInside.{Inside}
use Rattle.csp_packed.specs.PackedForm.{expansion_with}

abbrev pub expansion_of : {A : Type 0} → Inside A → meaning.Expansion
expansion_of e = expansion_with (script_of e.script.now) e.term e.form

abbrev pub IsKept : {A : Type 0} → Inside A → Type 0
IsKept e = IsExpansion (expansion_of e)
