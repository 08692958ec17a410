-- Where the assertions of a tree begin.
use Rattle.std.proofs.Common.{◌≡◌, List, [], ◌∷◌, ◌++◌, refl}
use Rattle.theory_text.specs.Raw.{RawDeclaration, RawDatatype, RawNametype, RawChannels, RawEquation, RawAssertion}
use Rattle.named_scripts.specs.Naming.{assertion_places}

-- the first declaration, and the others
pub first_places : (d : RawDeclaration) (others : List RawDeclaration) → assertion_places (d ∷ others) ≡ assertion_places (d ∷ []) ++ assertion_places others
first_places (RawDatatype n cs) others = refl
first_places (RawNametype n d) others = refl
first_places (RawChannels ns ds) others = refl
first_places (RawEquation n ps p) others = refl
first_places (RawAssertion place negated property p) others = refl
