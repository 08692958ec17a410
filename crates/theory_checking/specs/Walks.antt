-- How a walk over sites ends: all of them are fine, or it stops at the first that is refused.
use Rattle.std.specs.Prelude.{◌≡◌, ℕ, List, [], ◌∷◌, Option, Some, ⊤}
use Rattle.theory_text.specs.Place.{Place}
use Rattle.theory_text.specs.Raw.{RawName}
use Rattle.theory_checking.specs.Names.{number_in}
use Rattle.theory_checking.specs.Sites.{Site, site_place}
use Rattle.theory_checking.specs.Faults.{KindFault, IsFirstRefused}
use Rattle.theory_checking.specs.Rules.{IsRefusedSite}
use Rattle.theory_checking.specs.Refusals.{IsRefusedAt}

-- nothing is refused there
abbrev pub IsFine : Site → Type 0
IsFine x = (f : KindFault) → ¬ (IsRefusedSite x f)

abbrev pub AllFine : List Site → Type 0
AllFine [] = ⊤
AllFine (x ∷ xs) = IsFine x × AllFine xs

-- The first of the sites that is refused is refused with this fault, at this place.
pub record IsStoppedAt (xs : List Site) (f : KindFault) (p : Place) : Type 0 where
  pub site : Site
  pub first : IsFirstRefused IsRefusedAt xs site f
  pub place : p ≡ site_place site

abbrev pub IsThere : {A : Type 0} → Option A → Type 0
IsThere {A} o = (x : A) × (o ≡ Some x)

-- the names have their numbers
abbrev pub AreNumbered : List (List ℕ) → List RawName → Type 0
AreNumbered table [] = ⊤
AreNumbered table (n ∷ ns) = IsThere (number_in table n.spelling) × AreNumbered table ns
