-- The terms of which laws of packing speak.
use Rattle.std.specs.Prelude.{IsTrue}
use Rattle.theory_syntax.specs.Process.{Process, Script}
use Rattle.theory_semantics.specs.Kinds.Scripts.{IsTermOf}
use Rattle.theory_semantics.specs.Meaning.Limits.{fits}

-- a term of a checked script, and within the limits
abbrev pub IsTermWithinLimits : Process → Type 0
IsTermWithinLimits p = ((script : Script) × IsTermOf script p) × IsTrue (fits p)
