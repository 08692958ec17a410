-- What the first two passes refuse: names and sets, each rule by itself.
use Rattle.std.specs.Prelude.{◌≡◌, ◌≢◌, ℕ, ◌<◌, Bool, true, false, IsTrue, IsFalse, List, [], ◌∷◌, ◌++◌, length, flat_map, slice_get, replicate, Option, Some, None, IsSome, option_and_then}
use Rattle.theory_syntax.specs.Value.{Value}
use Rattle.theory_syntax.specs.Expression.{Expression}
use Rattle.theory_syntax.specs.Types.{Types}
use Rattle.theory_semantics.specs.Kinds.Kind.{Kinds}
use Rattle.theory_text.specs.Place.{Place}
use Rattle.theory_text.specs.Raw.{RawName, RawDeclaration, RawChannels, RawEquation, RawScript}
use Rattle.theory_checking.specs.Names.{DatatypeName, ConstructorName, NametypeName, ChannelName, EquationName, declared, spellings, has_spelling, Meaning, Declared, Bound, declared_meaning, Environment, meaning}
use Rattle.theory_checking.specs.Resolving.{as_channel, as_equation, constructor_count}
use Rattle.theory_checking.specs.Sets.{types_of, channel_sets, channel_members, FitSets, number_of_events}
use Rattle.theory_checking.specs.Sites.{Use, AsExpression, AsConstructor, AsEquation, AsEvent, AsProductions, AsBareLeft, AsBareRight, Site, Used, BoundThere, Parameter, NametypeSet, FieldSet, ChannelHead}
use Rattle.theory_checking.specs.Faults.{UnknownName, WrongCount, WrongKind, DeclaredTwice, KindFault, BadFieldSet, TooManyEvents}

abbrev pub all_declared : RawScript → List RawName
all_declared raw = flat_map declared raw

-- K02 at the second declaration of a name
pub data IsRedeclared (before : List RawName) (n : RawName) : KindFault → Type 0 where
  redeclared : IsTrue (has_spelling (spellings before) n.spelling) → IsRedeclared before n DeclaredTwice

-- ---- the second pass: the names in use, and the sets

-- A prefix, set of events or renaming needs a channel; a process needs an equation; an expression needs a bound name,
-- a constructor, a datatype or a nametype, and one that is written with fields a constructor.
abbrev pub suits : Use → Meaning → Bool
suits AsExpression (Bound n) = true
suits AsExpression (Declared ConstructorName k) = true
suits AsExpression (Declared DatatypeName d) = true
suits AsExpression (Declared NametypeName n) = true
suits (AsConstructor n) (Declared ConstructorName k) = true
suits (AsEquation n) (Declared EquationName k) = true
suits (AsEvent n) (Declared ChannelName c) = true
suits (AsProductions n) (Declared ChannelName c) = true
suits (AsBareLeft n) (Declared ChannelName c) = true
suits (AsBareRight n) (Declared ChannelName c) = true
suits _ _ = false

-- the numbers of the parameters of each equation, and of the fields of each channel
abbrev pub parameters_declared : RawDeclaration → List ℕ
parameters_declared (RawEquation name parameters body) = length parameters ∷ []
parameters_declared _ = []

abbrev pub fields_declared : RawDeclaration → List ℕ
fields_declared (RawChannels names domains) = replicate (length names) (length domains)
fields_declared _ = []

-- how many parameters the equation has, or fields the channel, that a name means; none where it means no such one
abbrev pub parameter_count : Environment → RawName → Option ℕ
parameter_count env n = option_and_then (slice_get (flat_map parameters_declared env.declarations)) (as_equation (meaning env n))

abbrev pub field_count : Environment → RawName → Option ℕ
field_count env n = option_and_then (slice_get (flat_map fields_declared env.declarations)) (as_channel (meaning env n))

-- some kinds fit the sets so far
abbrev pub SomeFit : Types → RawScript → Type 0
SomeFit types so_far = (kinds : Kinds) × FitSets types so_far kinds

-- No rule refuses a set of the channel or a name in it, and these are its sets: they have members, and some kinds fit all sets up to its declaration.
pub record HasFieldSets (raw : RawScript) (c : ℕ) (sets : List (List Value)) : Type 0 where
  pub members : slice_get (channel_members raw) c ≡ Some (Some sets)
  pub so_far : RawScript
  pub below : RawScript
  pub stands : raw ≡ so_far ++ below
  pub declared : c < length (channel_sets so_far)
  pub fit : SomeFit (types_of raw) so_far

-- events of all channels together
abbrev pub most_events : ℕ
most_events = 4096

-- Each rule by itself. The name's place, or that of the set's first token, is the site's.
pub data IsRefusedSite : Site → KindFault → Type 0 where
  -- K01 at a name that is neither bound nor declared, or, in the set of a nametype or field, not declared above
  unknown : {env : Environment} {u : Use} {n : RawName} → meaning env n ≡ None → IsRefusedSite (Used env u n) UnknownName
  -- K02 at a bound name that is a declared name
  bound_declared : {env : Environment} {n : RawName} → IsSome (declared_meaning env.declarations n.spelling) → IsRefusedSite (BoundThere env n) DeclaredTwice
  parameter_declared : {env : Environment} {n : RawName} → IsSome (declared_meaning env.declarations n.spelling) → IsRefusedSite (Parameter env n) DeclaredTwice
  -- and at a parameter named twice in one head
  parameter_again : {env : Environment} {n : RawName} → IsTrue (has_spelling env.bound n.spelling) → IsRefusedSite (Parameter env n) DeclaredTwice
  -- K03 at a name of the wrong class
  wrong_class : {env : Environment} {u : Use} {n : RawName} {m : Meaning} →
      meaning env n ≡ Some m → IsFalse (suits u m) → IsRefusedSite (Used env u n) WrongKind
  -- K04 at a constructor with another number of fields than its clause, also where it stands alone
  bare_constructor : {env : Environment} {n : RawName} {p : ℕ} → constructor_count env n ≡ Some p → p ≢ 0 → IsRefusedSite (Used env AsExpression n) WrongCount
  constructor : {env : Environment} {k : ℕ} {n : RawName} {p : ℕ} → constructor_count env n ≡ Some p → p ≢ k → IsRefusedSite (Used env (AsConstructor k) n) WrongCount
  -- at the name of an equation called with another number of arguments than it has parameters
  arguments : {env : Environment} {k : ℕ} {n : RawName} {p : ℕ} → parameter_count env n ≡ Some p → p ≢ k → IsRefusedSite (Used env (AsEquation k) n) WrongCount
  -- at the channel's name of a prefix, of an event in `{..}` or of a side of a renaming with another number of fields than the channel has
  fields : {env : Environment} {k : ℕ} {n : RawName} {p : ℕ} → field_count env n ≡ Some p → p ≢ k → IsRefusedSite (Used env (AsEvent k) n) WrongCount
  -- (where a renaming may also name both channels bare, with equal numbers of fields)
  left_fields : {env : Environment} {n other : RawName} {p : ℕ} →
      field_count env n ≡ Some p → p ≢ 0 → field_count env other ≢ Some p → IsRefusedSite (Used env (AsBareLeft other) n) WrongCount
  right_fields : {env : Environment} {n other : RawName} {p : ℕ} →
      field_count env n ≡ Some p → p ≢ 0 → field_count env other ≢ Some p → IsRefusedSite (Used env (AsBareRight other) n) WrongCount
  -- at the channel's name in `{| |}` with more fields than the channel has
  too_many_fields : {env : Environment} {k : ℕ} {n : RawName} {p : ℕ} →
      field_count env n ≡ Some p → p < k → IsRefusedSite (Used env (AsProductions k) n) WrongCount
  -- K03 at the right channel's name of a renaming of two bare channels whose field sets are not equal in turn, where no
  -- rule refuses one of these sets or a name in it
  other_sets : {env : Environment} {n left : RawName} {c d : ℕ} {s t : List (List Value)} →
      as_channel (meaning env left) ≡ Some c → as_channel (meaning env n) ≡ Some d →
      HasFieldSets env.declarations c s → HasFieldSets env.declarations d t → length s ≡ length t → s ≢ t →
      IsRefusedSite (Used env (AsBareRight left) n) WrongKind
  -- For a set in which no name is refused: K03 at its first token where no kinds fit the sets so far or it is no set,
  nametype_kind : {p : Place} {types : Types} {so_far : RawScript} {e : Expression} {ms : Option (List Value)} →
      ¬ (SomeFit types so_far) → IsRefusedSite (NametypeSet p types so_far (Some e) ms) WrongKind
  field_kind : {p : Place} {types : Types} {so_far : RawScript} {e : Expression} {ms : Option (List Value)} →
      ¬ (SomeFit types so_far) → IsRefusedSite (FieldSet p types so_far (Some e) ms) WrongKind
  -- else K05 where it has no value, and, for a field, where it has no member
  no_value : {p : Place} {types : Types} {so_far : RawScript} {e : Expression} →
      SomeFit types so_far → IsRefusedSite (NametypeSet p types so_far (Some e) None) BadFieldSet
  no_member : {p : Place} {types : Types} {so_far : RawScript} {e : Expression} →
      SomeFit types so_far → IsRefusedSite (FieldSet p types so_far (Some e) None) BadFieldSet
  -- K06 at the name of the channel with which all channels so far have too many events, where no rule refuses one of its sets or a name in it
  too_many_events : {n : RawName} {types : Types} {so_far : RawScript} {before : List (Option (List (List Value)))} {sets : List (List Value)} →
      SomeFit types so_far →
      most_events < number_of_events (Some sets ∷ before) → IsRefusedSite (ChannelHead n types so_far before (Some sets)) TooManyEvents
