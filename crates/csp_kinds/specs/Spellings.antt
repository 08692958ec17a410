-- The parts of a script: its types, and its channels and constructors with their spellings.
use Rattle.std.specs.Prelude.{◌≡◌, ℕ, List, map, Option, Some, IsSome}
use Rattle.std.specs.List.{All}
use Rattle.std.specs.Str.{encode_utf8_all}
use Rattle.std.specs.String.{string_bytes}
use Rattle.std.specs.declared.vec.Vec.{Vec}
use Rattle.theory_syntax.specs.Value.{Value}
use Rattle.theory_text.specs.Raw.{RawScript}
use Rattle.theory_checking.specs.Names.{spellings}
use Rattle.theory_checking.specs.Sets.{channel_members, constructor_members, datatypes_of, nametype_members}
use Rattle.csp_value.specs.declared.field_set.FieldSet.{FieldSet}
use Rattle.csp_expression.specs.declared.types.TypeTable.{TypeTable}
use Rattle.csp_expression.specs.Evaluation.{constructors_of, members_listed, table_of}
use Rattle.csp_parse.specs.declared.names.Name.{Name}
use Rattle.csp_parse.specs.Names.{name_of}
use Rattle.csp_events.specs.declared.channel.Channel.{Channel}
use Rattle.csp_term.specs.declared.script.Constructor.{Constructor}
use Rattle.csp_events.specs.Channels.{field_sets_of}
use Rattle.csp_names.specs.Scopes.{known_sets}

-- the types are those of the tree
pub record AreTypesOf {A : Type 0} (raw : RawScript) (types : TypeTable A) : Type 0 where
  pub datatypes : map constructors_of types.datatypes.items ≡ datatypes_of raw
  pub nametypes : map Some (map members_listed types.nametypes.items) ≡ nametype_members raw
  pub constructors : map Some (table_of types).constructors ≡ constructor_members raw

-- They are the field sets of the tree's channels, and each is known.
pub record AreFieldSetsOf {A : Type 0} (raw : RawScript) (field_sets : List (Option (Vec (FieldSet A) A))) : Type 0 where
  pub known : All IsSome field_sets
  pub members : map known_sets field_sets ≡ channel_members raw

-- spellings in bytes: those of names, and those of channels and constructors
abbrev pub encoded : List Name → List (List ℕ)
encoded names = map encode_utf8_all (spellings (map name_of names))

abbrev pub channel_spellings : {A : Type 0} → List (Channel A) → List (List ℕ)
channel_spellings channels = map (λ c. string_bytes c.spelling) channels

abbrev pub constructor_spellings : {A : Type 0} → List (Constructor A) → List (List ℕ)
constructor_spellings constructors = map (λ c. string_bytes c.spelling) constructors

-- the field sets of channels, as those that are known
abbrev pub sets_listed : {A : Type 0} → List (Channel A) → List (Option (List (List Value)))
sets_listed channels = map Some (map field_sets_of channels)
