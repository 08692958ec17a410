-- What the fields of a prefix, the sets of events and the renamings of a closed term stand for.
use Rattle.std.specs.Prelude.{ℕ, nat_eq, Bool, true, false, not, ◌&&◌, ◌||◌, cond, List, [], ◌∷◌, ◌++◌, length, filter, slice_get, ok_or, Result, Ok, Err}
use Rattle.std.specs.List.{list_any, starts_with}
use Rattle.std.specs.Cmp.Lexicographic.{slice_cmp}
use Rattle.std.specs.Ordering.{is_eq}
use Rattle.theory_syntax.specs.Value.{Value, Truth, Set, values_list, value_cmp, value_eq, has_value, Event, event_eq}
use Rattle.theory_syntax.specs.Expression.{Expression, Expressions, no_expressions, expression_and}
use Rattle.theory_syntax.specs.Types.{Types}
use Rattle.theory_semantics.specs.Meaning.Evaluation.{Cause, IllKinded, in_field_set, value, values, given_values, ◌and_then◌}
use Rattle.theory_syntax.specs.Process.{Field, Given, Input, InputFrom, EventExpression, EventSet, Enumeration, Productions, EventUnion, EventIntersection, EventDifference, RenamingPair, Process, Script}
use Rattle.theory_semantics.specs.Meaning.Substitution.{Bindings, bind, put_expression, put}

-- the results of a list in turn, or the first cause
abbrev pub each : {A B : Type 0} → (A → Result B Cause) → List A → Result (List B) Cause
each f [] = Ok []
each f (x ∷ xs) = f x and_then λ y. each f xs and_then λ ys. Ok (y ∷ ys)

-- the lists that are found in turn, as one, or the first cause
abbrev pub each_list : {A B : Type 0} → (A → Result (List B) Cause) → List A → Result (List B) Cause
each_list f [] = Ok []
each_list f (x ∷ xs) = f x and_then λ ys. each_list f xs and_then λ zs. Ok (ys ++ zs)

-- the truth value of a condition
abbrev pub truth_of : Value → Result Bool Cause
truth_of (Truth b) = Ok b
truth_of _ = Err IllKinded

abbrev pub condition : Types → Expression → Result Bool Cause
condition types e = value types e and_then λ v. truth_of v

-- the members of a set, in order
abbrev pub members_of : Value → Result (List Value) Cause
members_of (Set vs) = Ok (values_list vs)
members_of _ = Err IllKinded

abbrev pub elements : Types → Expression → Result (List Value) Cause
elements types e = value types e and_then λ v. members_of v

-- the field sets of a channel
abbrev pub field_sets : Script → ℕ → Result (List (List Value)) Cause
field_sets script c = ok_or (slice_get script.channels c) IllKinded

-- One communication of a prefix: the values of its fields, and what its inputs stand for.
pub record Communication : Type 0 where
  pub values : List Value
  pub bindings : Bindings

abbrev pub with_value : Value → List Communication → List Communication
with_value v [] = []
with_value v (m ∷ ms) = record { values = v ∷ m.values; bindings = m.bindings } ∷ with_value v ms

-- The communications that fields allow over their field sets, in order, or the first cause.
-- An input takes its values in order, and the later fields are looked at for each, with the value put in.
abbrev pub communications : Types → Bindings → List Field → List (List Value) → Result (List Communication) Cause
communications types bs [] [] = Ok (record { values = []; bindings = bs } ∷ [])
communications types bs (Given e ∷ fs) (set ∷ sets) =
    value types (put_expression bs e) and_then λ v. in_field_set set v and_then λ w. communications types bs fs sets and_then λ ms. Ok (with_value v ms)
communications types bs (Input n ∷ fs) (set ∷ sets) =
    each_list (λ v. communications types (bind n v bs) fs sets and_then λ ms. Ok (with_value v ms)) set
communications types bs (InputFrom n e ∷ fs) (set ∷ sets) =
    elements types (put_expression bs e) and_then λ vs. each_list (λ v. communications types (bind n v bs) fs sets and_then λ ms. Ok (with_value v ms)) (filter (λ v. has_value set v) vs)
communications types bs [] (set ∷ sets) = Err IllKinded
communications types bs (f ∷ fs) [] = Err IllKinded

-- the communications of a closed prefix
abbrev pub prefix_communications : Script → ℕ → List Field → Result (List Communication) Cause
prefix_communications script c fs = field_sets script c and_then λ sets. communications script.types [] fs sets

-- a channel with the values of its first fields
abbrev pub beginning_of : Script → EventExpression → Result Event Cause
beginning_of script e =
    field_sets script e.channel and_then λ sets. given_values script.types e.fields sets and_then λ vs. Ok (record { channel = e.channel; fields = vs })

-- the event that is written, with all its fields
abbrev pub event_of : Script → EventExpression → Result Event Cause
event_of script e =
    field_sets script e.channel and_then λ sets. given_values script.types e.fields sets and_then λ vs.
    cond (nat_eq (length vs) (length sets)) (Ok (record { channel = e.channel; fields = vs })) (Err IllKinded)

-- whether an event is of this channel and begins with these fields
abbrev pub begins_with : Event → Event → Bool
begins_with e b = nat_eq e.channel b.channel && starts_with value_eq e.fields b.fields

-- The test that a set of events is, or the first cause.
abbrev pub event_test : Script → EventSet → Result (Event → Bool) Cause
event_test script (Enumeration es) = each (event_of script) es and_then λ all. Ok (λ e. list_any (event_eq e) all)
event_test script (Productions es) = each (beginning_of script) es and_then λ all. Ok (λ e. list_any (begins_with e) all)
event_test script (EventUnion a b) = event_test script a and_then λ f. event_test script b and_then λ g. Ok (λ e. f e || g e)
event_test script (EventIntersection a b) = event_test script a and_then λ f. event_test script b and_then λ g. Ok (λ e. f e && g e)
event_test script (EventDifference a b) = event_test script a and_then λ f. event_test script b and_then λ g. Ok (λ e. f e && not (g e))

abbrev pub passes : Result (Event → Bool) Cause → Event → Bool
passes (Ok f) e = f e
passes (Err c) e = false

-- whether an event is in a set
abbrev pub has_event : Script → EventSet → Event → Bool
has_event script a e = passes (event_test script a) e

-- a channel without fields
abbrev pub is_bare : EventExpression → Bool
is_bare e = elim e.fields [ no_expressions ↦ true | expression_and f fs ↦ false ]

abbrev pub same_sets : List (List Value) → List (List Value) → Bool
same_sets s t = is_eq (slice_cmp (slice_cmp value_cmp) s t)

-- What one pair makes of an event. Two bare channels name each event of the first, with the same fields on the second.
abbrev pub channel_images : Script → ℕ → ℕ → Result (Event → List Event) Cause
channel_images script c d =
    field_sets script c and_then λ s. field_sets script d and_then λ t.
    cond (same_sets s t) (Ok (λ e. cond (nat_eq e.channel c) (record { channel = d; fields = e.fields } ∷ []) [])) (Err IllKinded)

abbrev pub event_images : Script → EventExpression → EventExpression → Result (Event → List Event) Cause
event_images script c d = event_of script c and_then λ f. event_of script d and_then λ g. Ok (λ e. cond (event_eq e f) (g ∷ []) [])

abbrev pub pair_images : Script → RenamingPair → Result (Event → List Event) Cause
pair_images script r =
    elim (is_bare r.from && is_bare r.to) [ true ↦ channel_images script r.from.channel r.to.channel | false ↦ event_images script r.from r.to ]

-- What the pairs make of an event, all images in turn, or the first cause.
abbrev pub renaming : Script → List RenamingPair → Result (Event → List Event) Cause
renaming script [] = Ok (λ e. [])
renaming script (r ∷ rs) = pair_images script r and_then λ f. renaming script rs and_then λ g. Ok (λ e. f e ++ g e)

-- an event that no pair names is its own image
abbrev pub or_itself : Event → List Event → List Event
or_itself e [] = e ∷ []
or_itself e (f ∷ fs) = f ∷ fs

abbrev pub images_by : Result (Event → List Event) Cause → Event → List Event
images_by (Ok f) e = or_itself e (f e)
images_by (Err c) e = []

-- the images of an event
abbrev pub images : Script → List RenamingPair → Event → List Event
images script rs e = images_by (renaming script rs) e

-- the parameters with the arguments' values
abbrev pub parameter_bindings : List ℕ → List Value → Result Bindings Cause
parameter_bindings [] [] = Ok []
parameter_bindings (n ∷ ns) (v ∷ vs) = parameter_bindings ns vs and_then λ bs. Ok ((n, v) ∷ bs)
parameter_bindings [] (v ∷ vs) = Err IllKinded
parameter_bindings (n ∷ ns) [] = Err IllKinded

-- the body of the called equation with the arguments' values put in
abbrev pub called : Script → ℕ → Expressions → Result Process Cause
called script n es =
    values script.types es and_then λ vs. ok_or (slice_get script.equations n) IllKinded and_then λ equation.
    parameter_bindings equation.parameters vs and_then λ bs. Ok (put bs equation.body)

-- the body with each of the values put in for the name
abbrev pub instances : ℕ → Process → List Value → List Process
instances n p [] = []
instances n p (v ∷ vs) = put ((n, v) ∷ []) p ∷ instances n p vs
