-- Refusals of trees, as the definitions have them.
use Rattle.std.specs.Prelude.{◌≡◌, ◌≢◌, ℕ, Option, Some, Result, Ok, Err, ⊤}
use Rattle.theory_text.specs.Raw.{RawScript}
use Rattle.theory_checking.specs.Refusals.{IsKindRefusal}
use Rattle.csp_lex.specs.Places.{place_of}
use Rattle.csp_names.specs.declared.refusals.KindFault.TheVariants.{WrongKind}
use Rattle.csp_names.specs.declared.refusals.Refused.{Refused}
use Rattle.csp_names.specs.declared.refusals.Refused.TheVariants as refused
use Rattle.csp_names.specs.Refusals.{fault_of}
use Rattle.csp_inference.specs.declared.fit_fault.FitFault.{FitFault}
use Rattle.csp_inference.specs.declared.fit_fault.FitFault.TheVariants as fault
use Rattle.csp_kinds.specs.declared.sets.RefusedSet.{RefusedSet}

-- The tree is refused, by this fault at this place. Where there is no room, nothing is said.
abbrev pub IsRefusalOf : RawScript → Refused → Type 0
IsRefusalOf raw (refused.Fault f p) = IsKindRefusal raw (fault_of f) (place_of p)
IsRefusalOf raw refused.Memory = ⊤

-- the refusal of an item that no kinds fit
abbrev pub item_refusal_of : FitFault → Refused
item_refusal_of (fault.WrongKind place) = refused.Fault WrongKind place
item_refusal_of fault.Memory = refused.Memory

-- No set of the declaration with this number is the refused one; or it is, and its refusal is answered.
abbrev pub PassesSets : Option RefusedSet → ℕ → Result (Unit {0}) Refused → Type 0
PassesSets first declaration (Ok _) = (set : RefusedSet) → first ≡ Some set → set.declaration ≢ declaration
PassesSets first declaration (Err r) = (set : RefusedSet) × (first ≡ Some set) × (set.declaration ≡ declaration) × (r ≡ refused.Fault set.fault set.place)
