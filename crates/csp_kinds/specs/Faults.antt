-- The first fault of a declaration's sites, if there is one.
use Rattle.std.specs.Prelude.{◌≡◌, ◌+◌, nat_le, Bool, true, false, cond, ℕ, List, Option, Some, None}
use Rattle.theory_syntax.specs.Expression.{Expression}
use Rattle.theory_text.specs.Place.{Place}
use Rattle.theory_text.specs.Raw.{RawName}
use Rattle.theory_checking.specs.Sites.{Site}
use Rattle.theory_checking.specs.Faults.{KindFault, WrongKind, BadFieldSet, TooManyEvents}
use Rattle.theory_checking.specs.Rules.{most_events}
use Rattle.theory_checking.specs.Walks.{AllFine, IsStoppedAt}

-- All sites are fine, or the first that is refused is refused with this fault, at this place.
abbrev pub IsFaultOf : List Site → Option (KindFault × Place) → Type 0
IsFaultOf sites None = AllFine sites
IsFaultOf sites (Some f) = IsStoppedAt sites f.0 f.1

-- A set has an expression where no name in it is refused, and none where the first fault of a name is this one.
abbrev pub IsRead : Option Expression → List Site → Option (KindFault × Place) → Type 0
IsRead set sites None = AllFine sites × ((e : Expression) × (set ≡ Some e))
IsRead set sites (Some f) = IsStoppedAt sites f.0 f.1 × (set ≡ None)

-- the fault at the first token of a set: no kinds fit, or it has no members that count
abbrev pub fault_at : Place → Bool → Bool → Option (KindFault × Place)
fault_at p false counts = Some (WrongKind, p)
fault_at p true false = Some (BadFieldSet, p)
fault_at p true true = None

-- the fault of a set: of a name in it, or at its first token
abbrev pub fault_of_set : Option (KindFault × Place) → Place → Bool → Bool → Option (KindFault × Place)
fault_of_set (Some f) p fits counts = Some f
fault_of_set None p fits counts = fault_at p fits counts

-- the fault at the name of a channel, where there are so many events with it
abbrev pub head_fault : RawName → Bool → Option ℕ → Option (KindFault × Place)
head_fault n true None = Some (TooManyEvents, n.place)
head_fault n true (Some k) = None
head_fault n false events = None

-- the events of both, or none where these are too many
abbrev pub both_counts : Option ℕ → Option ℕ → Option ℕ
both_counts (Some m) (Some n) = cond (nat_le (m + n) most_events) (Some (m + n)) None
both_counts (Some m) None = None
both_counts None n = None
