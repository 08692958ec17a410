-- Bytes that spell a term within the limits, and that term.
use Rattle.std.specs.Prelude.{◌≡◌, Bool, true, false, ℕ, List, Option, Some, None, IsTrue, IsFalse}
use Rattle.std.specs.Coded.{Coded-set, coded_bool, coded_list, coded_ℕ, ×_prop}
use Rattle.theory_syntax.specs.Process.{Process, Stop, Script}
use Rattle.theory_semantics.specs.Kinds.Scripts.{IsTermOf}
use Rattle.theory_semantics.specs.Meaning.Limits.{fits}
use Rattle.theory_spelling.specs.Reading.{term_of}
use Rattle.theory_spelling.specs.Spelling.{spelling}

-- a term of some checked script
abbrev pub IsOfSomeScript : Process → Type 0
IsOfSomeScript p = (script : Script) × IsTermOf script p

-- whether there is a term, and it is within the limits
abbrev pub is_within : Option Process → Bool
is_within None = false
is_within (Some p) = fits p

-- the term; where there is none, any
abbrev pub or_stop : Option Process → Process
or_stop None = Stop
or_stop (Some p) = p

-- the term that bytes spell
abbrev pub term_spelled : List ℕ → Process
term_spelled bytes = or_stop (term_of bytes)

-- the bytes are the spelling of a term within the limits
abbrev pub SpellsWithin : List ℕ → Type 0
SpellsWithin bytes = (is_within (term_of bytes) ≡ true) × (spelling (term_spelled bytes) ≡ bytes)

-- at most one proof says so
pub spells_prop : (bytes : List ℕ) → IsProp (SpellsWithin bytes)
spells_prop bytes = ×_prop (Coded-set coded_bool (is_within (term_of bytes)) true) (Coded-set (coded_list coded_ℕ) (spelling (term_spelled bytes)) bytes)

pub past_prop : (p : Process) → IsProp (IsFalse (fits p))
past_prop p = Coded-set coded_bool (fits p) false
