use Rattle.std.proofs.Common.{◌≡◌, ◌++◌, take}
use Rattle.theory_shapes.specs.Alphabet.{field_lists, with_fields}
use Rattle.csp_value.specs.Fields.{sets_of}
use Rattle.csp_numbers.specs.Numbers.{events_of}
use Rattle.csp_numbers.proofs.listing.add_events.Given as goal

abbrev pub invariant-loop-number : goal.invariant-loop-number
invariant-loop-number g l = events_of l.events.items ≡ events_of l.fn.events.items ++ take l.number (with_fields l.channel.0 (field_lists (sets_of l.sets)))
