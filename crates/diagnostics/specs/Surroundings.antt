-- The tokens around a place.
use Rattle.std.specs.Prelude.{ℕ, ◌+◌, ◌-◌, List, None, Option, Some, if◌then◌else◌, nat_le, slice_get, take}
use Rattle.csp_lex.specs.declared.kinds.Token.{Token}
use Rattle.csp_lex.specs.declared.places.Place.{Place}
use Rattle.diagnostics.specs.declared.places.Surroundings.{Surroundings}
use Rattle.diagnostics.specs.Brackets.{open_bracket}
use Rattle.diagnostics.specs.Places.{front_length, last_opening}

-- the token so many before the one at an index
abbrev pub token_before : List Token → ℕ → ℕ → Option Token
token_before tokens index count = if nat_le count index then slice_get tokens (index - count) else None

-- the token so many before that token
abbrev pub before_token : List Token → Option Token → ℕ → Option Token
before_token tokens None count = None
before_token tokens (Some t) count = token_before tokens (front_length tokens t.place) count

abbrev pub surroundings_of : List Token → Place → Surroundings
surroundings_of tokens place =
    let index = front_length tokens place in
    let opening = last_opening (take index tokens) in
    let bracket = open_bracket (take index tokens) in
    record {
      opening = opening;
      declaring = before_token tokens opening 2;
      bracket = bracket;
      outside = before_token tokens bracket 1;
      earlier = token_before tokens index 2;
      before = token_before tokens index 1;
      here = slice_get tokens index;
      behind = slice_get tokens (index + 1);
    }
