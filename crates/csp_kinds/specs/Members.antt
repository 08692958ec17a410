-- The members of the sets of the declarations so far.
use Rattle.std.specs.Prelude.{◌≡◌, ℕ, ◌<◌, ◌≤◌, [], ◌∷◌, List, map, Option, Some, None}
use Rattle.theory_syntax.specs.Value.{Value}
use Rattle.theory_text.specs.Raw.{RawScript}
use Rattle.theory_checking.specs.Resolving.{every}
use Rattle.theory_checking.specs.Sets.{channel_sets, field_members, product_of_sizes}
use Rattle.theory_checking.specs.Rules.{most_events}

-- the field sets of their channels, by their members, where each has some
abbrev pub channels_above : RawScript → RawScript → List (Option (List (List Value)))
channels_above raw above = map (every (field_members raw)) (channel_sets above)

-- a number, if there is one
abbrev pub counted : Option ℕ → List ℕ
counted (Some n) = n ∷ []
counted None = []

-- the number of events of a channel, of one without field sets none
abbrev pub events_in : Option (List (List Value)) → ℕ
events_in (Some sets) = product_of_sizes sets
events_in None = 0

-- the number of events, or none where there are too many
abbrev pub IsCount : Option ℕ → ℕ → Type 0
IsCount (Some k) n = (k ≡ n) × (n ≤ most_events)
IsCount None n = most_events < n
