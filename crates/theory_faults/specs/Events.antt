-- What is to blame in the fields of a prefix, in a set of events and in a renaming.
use Rattle.std.specs.Prelude.{ℕ, suc, nat_eq, true, false, ◌&&◌, cond, List, [], ◌∷◌, length, filter, map, Option, Some, None}
use Rattle.std.specs.Option.{option_or}
use Rattle.theory_syntax.specs.Value.{Value, has_value}
use Rattle.theory_syntax.specs.Expression.{expressions_list}
use Rattle.theory_syntax.specs.Process.{Field, Given, Input, InputFrom, EventExpression, EventSet, Enumeration, Productions, EventUnion, EventIntersection, EventDifference, RenamingPair, Script}
use Rattle.theory_syntax.specs.Types.{Types}
use Rattle.theory_semantics.specs.Meaning.Events.{channel_images, field_sets, is_bare}
use Rattle.theory_semantics.specs.Meaning.Substitution.{Bindings, bind, put_expression}
use Rattle.theory_faults.specs.Culprit.{Culprit, Misfit, OfChannel, first_found, misfit, over_sets}
use Rattle.theory_faults.specs.Expressions.{field_culprit, given_culprit, members, members_culprit}

-- in a field itself, before which this many stand
abbrev pub own_field_culprit : Types → ℕ → ℕ → Bindings → Field → List Value → Option Culprit
own_field_culprit types c i bs (Given e) set = field_culprit types (OfChannel c) i set (put_expression bs e)
own_field_culprit types c i bs (Input n) set = None
own_field_culprit types c i bs (InputFrom n e) set = members_culprit types (put_expression bs e)

-- what names stand for behind a field: an input takes its values in order
abbrev pub bindings_behind : Types → Bindings → Field → List Value → List Bindings
bindings_behind types bs (Given e) set = bs ∷ []
bindings_behind types bs (Input n) set = map (λ v. bind n v bs) set
bindings_behind types bs (InputFrom n e) set = map (λ v. bind n v bs) (filter (λ v. has_value set v) (members types (put_expression bs e)))

-- In fields of a prefix, before which this many stand: in the first one, or else in those behind it, for each of its values.
abbrev pub fields_culprit : Types → ℕ → ℕ → Bindings → List Field → List (List Value) → Option Culprit
fields_culprit types c i bs [] [] = None
fields_culprit types c i bs (f ∷ fs) (set ∷ sets) =
    option_or (own_field_culprit types c i bs f set) (first_found (λ ds. fields_culprit types c (suc i) ds fs sets) (bindings_behind types bs f set))
fields_culprit types c i bs fs sets = Some Misfit

-- in a closed prefix
abbrev pub prefix_culprit : Script → ℕ → List Field → Option Culprit
prefix_culprit script c fs = over_sets (field_sets script c) (λ sets. fields_culprit script.types c 0 [] fs sets)

-- in a channel with expressions for its first fields
abbrev pub beginning_culprit : Script → EventExpression → Option Culprit
beginning_culprit script e = over_sets (field_sets script e.channel) (λ sets. given_culprit script.types (OfChannel e.channel) 0 e.fields sets)

-- an event has an expression for each field
abbrev pub count_misfit : EventExpression → List (List Value) → Option Culprit
count_misfit e sets = cond (nat_eq (length (expressions_list e.fields)) (length sets)) None (Some Misfit)

-- in an event
abbrev pub event_culprit : Script → EventExpression → Option Culprit
event_culprit script e = option_or (beginning_culprit script e) (over_sets (field_sets script e.channel) (count_misfit e))

-- in a set of events
abbrev pub event_set_culprit : Script → EventSet → Option Culprit
event_set_culprit script (Enumeration es) = first_found (event_culprit script) es
event_set_culprit script (Productions es) = first_found (beginning_culprit script) es
event_set_culprit script (EventUnion a b) = option_or (event_set_culprit script a) (event_set_culprit script b)
event_set_culprit script (EventIntersection a b) = option_or (event_set_culprit script a) (event_set_culprit script b)
event_set_culprit script (EventDifference a b) = option_or (event_set_culprit script a) (event_set_culprit script b)

-- in a pair of channels, or of events
abbrev pub pair_culprit : Script → RenamingPair → Option Culprit
pair_culprit script r = elim (is_bare r.from && is_bare r.to) [
  | true ↦ misfit (channel_images script r.from.channel r.to.channel)
  | false ↦ option_or (event_culprit script r.from) (event_culprit script r.to)
]
