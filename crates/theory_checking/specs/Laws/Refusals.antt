-- Trees and texts that are not refused.
use Rattle.std.specs.Prelude.{ℕ, List}
use Rattle.theory_text.specs.Place.{Place}
use Rattle.theory_text.specs.Raw.{RawScript}
use Rattle.theory_checking.specs.Faults.{KindFault}
use Rattle.theory_checking.specs.Refusals.{IsKindRefusal}
use Rattle.theory_checking.specs.Checked.{IsRefusedText}

-- the tree has no refusal
abbrev pub IsUnrefused : RawScript → Type 0
IsUnrefused raw = (f : KindFault) (p : Place) → ¬ IsKindRefusal raw f p

-- the text has no refusal for its names and kinds
abbrev pub HasNoKindRefusal : List ℕ → Type 0
HasNoKindRefusal bytes = (f : KindFault) (p : Place) → ¬ IsRefusedText bytes f p
