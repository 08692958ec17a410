-- The channels so far, and the number of their events.
use Rattle.std.specs.Prelude.{◌≡◌, List, ◌++◌, length, map, Option}
use Rattle.theory_syntax.specs.Value.{Value}
use Rattle.theory_text.specs.Raw.{RawName, RawScript}
use Rattle.theory_checking.specs.Sets.{types_of, channel_members, number_of_events}
use Rattle.theory_checking.specs.Sites.{in_heads}
use Rattle.theory_checking.specs.Rules.{SomeFit}
use Rattle.csp_names.specs.Scopes.{known_sets}
use Rattle.csp_kinds.specs.declared.channels.Channels.{Channels}
use Rattle.csp_kinds.specs.declared.faults.SetFault.{SetFault}
use Rattle.csp_kinds.specs.Faults.{IsFaultOf}
use Rattle.csp_kinds.specs.Looking.{fault_in}
use Rattle.csp_kinds.specs.Members.{IsCount}

abbrev pub sets_in : {A : Type 0} → Channels A → List (Option (List (List Value)))
sets_in channels = map known_sets channels.field_sets.items

-- Where some kinds fit the sets so far and these are the members of the channels' sets: the events are counted, and
-- this is the first fault at the names.
abbrev pub HasHeads : {A : Type 0} → List RawName → Option (List (List Value)) → Channels A → Channels A → Option SetFault → Type 0
HasHeads names own old new fault =
    (raw so_far : RawScript) (rest : List (Option (List (List Value)))) → SomeFit (types_of raw) so_far → channel_members raw ≡ sets_in new ++ rest → IsCount old.events (number_of_events (sets_in old)) →
    IsCount new.events (number_of_events (sets_in new)) × IsFaultOf (in_heads raw so_far (length (sets_in old)) names) (fault_in fault)
