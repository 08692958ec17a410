-- The bits of two sides, event by event.
use Rattle.std.specs.Prelude.{◌≡◌, Bool, List, [], ◌∷◌, ◌++◌, map}
use Rattle.theory_syntax.specs.Value.{Event}
use Rattle.csp_rows.specs.declared.composed.SideBits.{SideBits}

-- Each has a bit for each event, by its test.
pub record AreMarksBy {A : Type 0} (es : List Event) (on_left on_right together : Event → Bool) (bits : SideBits A) : Type 0 where
  pub left_free : bits.left_free.marks.items ≡ map on_left es
  pub right_free : bits.right_free.marks.items ≡ map on_right es
  pub shared : bits.shared.marks.items ≡ map together es

-- Each has one bit more.
pub record AddsMarks {A : Type 0} (on_left on_right together : Bool) (old new : SideBits A) : Type 0 where
  pub left_free : new.left_free.marks.items ≡ old.left_free.marks.items ++ on_left ∷ []
  pub right_free : new.right_free.marks.items ≡ old.right_free.marks.items ++ on_right ∷ []
  pub shared : new.shared.marks.items ≡ old.shared.marks.items ++ together ∷ []
