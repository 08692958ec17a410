-- Places in the order of the text.
use Rattle.std.specs.Prelude.{List, [], ◌∷◌}
use Rattle.theory_text.specs.Place.{Place}
use Rattle.theory_text.specs.Token.{PlacedToken}

-- The places are those of some of the tokens, in the order of the tokens; one token's place may stand several times.
pub data StandAlong : List PlacedToken → List Place → Type 0 where
  no_places : {ts : List PlacedToken} → StandAlong ts []
  further : {t : PlacedToken} {ts : List PlacedToken} {ps : List Place} → StandAlong ts ps → StandAlong (t ∷ ts) ps
  here : {t : PlacedToken} {ts : List PlacedToken} {ps : List Place} → StandAlong (t ∷ ts) ps → StandAlong (t ∷ ts) (t.place ∷ ps)
