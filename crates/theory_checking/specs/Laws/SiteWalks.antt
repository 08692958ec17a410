-- Walks over the sites of a tree, declaration by declaration.
use Rattle.std.specs.Prelude.{◌≡◌, List, [], ◌∷◌, ◌++◌}
use Rattle.theory_text.specs.Place.{Place}
use Rattle.theory_text.specs.Raw.{RawDeclaration, RawScript}
use Rattle.theory_checking.specs.Sets.{in_order}
use Rattle.theory_checking.specs.Sites.{Site, site_place, in_declaration}
use Rattle.theory_checking.specs.Faults.{KindFault}
use Rattle.theory_checking.specs.Walks.{AllFine, IsStoppedAt}

-- the sites of a declaration, which may depend on those above it
abbrev pub Walk : Type 0
Walk = RawScript → RawDeclaration → List Site

-- all sites of the tree are fine
abbrev pub AllFineIn : Walk → RawScript → Type 0
AllFineIn walk raw = AllFine (in_order walk raw)

-- a walk over this site alone stops at it
abbrev pub StopsAt : Site → KindFault → Type 0
StopsAt x f = IsStoppedAt (x ∷ []) f (site_place x)

-- the walk stops in the sites of a declaration, and all sites of those above it are fine
abbrev pub StopsInADeclaration : RawScript → KindFault → Place → Type 0
StopsInADeclaration raw f p =
    (above : RawScript) × (d : RawDeclaration) × (below : RawScript) × (raw ≡ above ++ d ∷ below)
    × AllFineIn (in_declaration raw) above × IsStoppedAt (in_declaration raw above d) f p
