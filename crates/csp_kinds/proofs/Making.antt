-- The script that is made of its parts is the tree's.
use Rattle.std.specs.Prelude.{flat_map, IsSome}
use Rattle.std.specs.List.{AllByRecursion as ByRecursion}
use Rattle.std.specs.Str.{encode_utf8_all}
use Rattle.std.specs.declared.vec.Vec.{Vec}
use Rattle.std.proofs.lemmas.List.Elements.{All-from_recursion}
use Rattle.std.proofs.lemmas.List.{length-map}
use Rattle.std.proofs.Common.{◌≡◌, ℕ, List, [], ◌∷◌, length, map, Option, Some, None, refl, sym, ap, ◌∙◌}
use Rattle.theory_syntax.specs.Value.{Value}
use Rattle.theory_syntax.specs.declared.reading.Unfolding.TheVariants as reading
use Rattle.theory_text.specs.Raw.{RawScript}
use Rattle.theory_checking.specs.Names.{ChannelName, ConstructorName, declared_as, names_of, spellings}
use Rattle.theory_checking.specs.Scripts.{IsScriptOf}
use Rattle.theory_checking.specs.Sets.{channel_members, channel_sets}
use Rattle.theory_checking.proofs.Counts.{channels_counted, sizes_of_channels}
use Rattle.csp_value.specs.declared.field_set.FieldSet.{FieldSet}
use Rattle.csp_expression.specs.declared.types.TypeTable.{TypeTable}
use Rattle.csp_parse.specs.declared.names.Name.{Name}
use Rattle.csp_parse.specs.Names.{name_of}
use Rattle.csp_events.specs.declared.channel.Channel.{Channel}
use Rattle.csp_term.specs.declared.script.Constructor.{Constructor}
use Rattle.csp_term.specs.Script.{script_of_parts}
use Rattle.csp_names.specs.Scopes.{known_sets}
use Rattle.csp_kinds.specs.declared.sets.Sets.{Sets}
use Rattle.csp_kinds.specs.Sets.{AreSetsOf, AreUnrefused}
use Rattle.csp_kinds.specs.declared.items.Items.{Items}
use Rattle.csp_kinds.specs.Items.{AreItemsOf}
use Rattle.csp_kinds.specs.Spellings.{AreFieldSetsOf, AreTypesOf, channel_spellings, constructor_spellings, encoded, sets_listed}

-- as many channels as names of them
pub sets_as_many : {A : Type 0} (raw : RawScript) (sets : List (Option (Vec (FieldSet A) A))) (names : List Name) → AreFieldSetsOf raw sets → map name_of names ≡ flat_map (declared_as ChannelName) raw → length sets ≡ length names
sets_as_many raw sets names are is =
    let of_sets : length (map known_sets sets) ≡ length sets = length-map sets known_sets in
    let of_members : length (channel_members raw) ≡ length (channel_sets raw) = length-map (channel_sets raw) _ in
    let of_sizes : length (map length (channel_sets raw)) ≡ length (channel_sets raw) = length-map (channel_sets raw) length in
    let of_names : length (names_of ChannelName raw) ≡ length (flat_map (declared_as ChannelName) raw) = length-map (flat_map (declared_as ChannelName) raw) _ in
    let of_made : length (map name_of names) ≡ length names = length-map names name_of in
    sym of_sets ∙ ap length are.members ∙ of_members ∙ sym of_sizes ∙ ap length (sizes_of_channels raw) ∙ channels_counted raw ∙ of_names ∙ sym (ap length is) ∙ of_made

-- spellings of the names of a class, in bytes
pub encoded_names : (raw : RawScript) (names : List Name) (all : List (List ℕ)) (f : _) → map name_of names ≡ flat_map f raw → all ≡ encoded names → all ≡ map encode_utf8_all (spellings (flat_map f raw))
encoded_names raw names all f is are = are ∙ ap (λ ns. map encode_utf8_all (spellings ns)) is

pub script_made : {A : Type 0} (raw : RawScript) (types : TypeTable A) (sets : List (Option (Vec (FieldSet A) A))) (items : Items A) (constructors : Vec (Constructor A) A) (channels : Vec (Channel A) A) (ks cs : List Name) → AreTypesOf raw types → AreFieldSetsOf raw sets → AreItemsOf raw raw items →
    map name_of ks ≡ flat_map (declared_as ConstructorName) raw → constructor_spellings constructors.items ≡ encoded ks → map name_of cs ≡ flat_map (declared_as ChannelName) raw → channel_spellings channels.items ≡ encoded cs → sets_listed channels.items ≡ map known_sets sets →
    IsScriptOf raw (script_of_parts (record { types = types; constructors = constructors; channels = channels; equations = items.equations; assertions = items.assertions; unfolds = reading.ByTau }))
script_made raw types sets items constructors channels ks cs of_types of_sets of_items named_ks spelled_ks named_cs spelled_cs same = record {
  datatypes = of_types.datatypes;
  nametypes = of_types.nametypes;
  constructors = of_types.constructors;
  channels = same ∙ of_sets.members;
  equations = of_items.equations;
  assertions = of_items.assertions;
  channel_names = encoded_names raw cs (channel_spellings channels.items) (declared_as ChannelName) named_cs spelled_cs;
  constructor_names = encoded_names raw ks (constructor_spellings constructors.items) (declared_as ConstructorName) named_ks spelled_ks;
  unfolds = refl;
}

-- ---- the sets that were evaluated are the script's

pub types_evaluated : {A : Type 0} (raw : RawScript) (sets : Sets A) → AreSetsOf raw sets → AreUnrefused raw sets → AreTypesOf raw sets.types
types_evaluated raw sets are unrefused = record { datatypes = ap (λ t. t.datatypes) are.types; nametypes = unrefused.nametypes; constructors = unrefused.constructors }

some_of_known : {A : Type 0} (o : Option (Vec (FieldSet A) A)) (values : List (List Value)) → known_sets o ≡ Some values → IsSome o
some_of_known (Some fields) values is = refl
some_of_known None values is = absurd (cc is)

each_known : {A : Type 0} (sets : List (Option (Vec (FieldSet A) A))) (values : List (List (List Value))) → map known_sets sets ≡ map Some values → ByRecursion IsSome sets
each_known [] values is = tt
each_known (o ∷ sets) [] is = absurd (cc is)
each_known (o ∷ sets) (v ∷ values) is =
    let head : known_sets o ≡ Some v = cc is in
    let tail : map known_sets sets ≡ map Some values = cc is in
    (some_of_known o v head, each_known sets values tail)

pub sets_evaluated : {A : Type 0} (raw : RawScript) (sets : Sets A) → AreUnrefused raw sets → AreFieldSetsOf raw sets.channels.items
sets_evaluated raw sets unrefused = record {
  known = All-from_recursion IsSome sets.channels.items (each_known sets.channels.items unrefused.field_sets unrefused.channels);
  members = unrefused.channels ∙ unrefused.members;
}
