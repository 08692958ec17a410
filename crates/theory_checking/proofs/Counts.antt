-- How many fields the channels of a tree have, and how many parameters its equations.
use Rattle.std.specs.Prelude.{◌<◌, flat_map, map, replicate, slice_get, option_and_then, option_map}
use Rattle.std.proofs.lemmas.List.{map-append, length-map}
use Rattle.std.proofs.lemmas.Option.{slice_get-map}
use Rattle.std.proofs.Common.{◌≡◌, ℕ, zero, suc, List, [], ◌∷◌, ◌++◌, length, Option, Some, None, refl, sym, ap, ◌∙◌, subst}
use Rattle.theory_syntax.specs.Value.{Value}
use Rattle.theory_syntax.specs.Expression.{Expression}
use Rattle.theory_text.specs.Raw.{RawName, RawDeclaration, RawDatatype, RawNametype, RawChannels, RawEquation, RawAssertion, RawScript}
use Rattle.theory_checking.specs.Names.{ChannelName, EquationName, Declared, declared_as, names_of, Environment, meaning}
use Rattle.theory_checking.specs.Resolving.{of_two, every, as_channel, as_equation}
use Rattle.theory_checking.specs.Sets.{behind_each, set_expression, channels_declared, channel_sets, field_members}
use Rattle.theory_checking.specs.Rules.{parameters_declared, fields_declared, parameter_count, field_count, HasFieldSets}
pub use Rattle.theory_checking.proofs.Sizes.{sizes_of_constructors}
pub use Rattle.theory_checking.proofs.Meant.{length-replicate, length-spellings, counted, class_number, meant_number, number_within}

-- ---- as many as there are names of the class

pub channels_counted : (raw : RawScript) → length (flat_map fields_declared raw) ≡ length (names_of ChannelName raw)
channels_counted raw = counted ChannelName fields_declared each raw ∙ sym (length-spellings (flat_map (declared_as ChannelName) raw))
  where
    each : (d : RawDeclaration) → length (fields_declared d) ≡ length (declared_as ChannelName d)
    each (RawDatatype name constructors) = refl
    each (RawNametype name domain) = refl
    each (RawChannels names domains) = length-replicate (length names) (length domains)
    each (RawEquation name parameters body) = refl
    each (RawAssertion place n a p) = refl

pub equations_counted : (raw : RawScript) → length (flat_map parameters_declared raw) ≡ length (names_of EquationName raw)
equations_counted raw = counted EquationName parameters_declared each raw ∙ sym (length-spellings (flat_map (declared_as EquationName) raw))
  where
    each : (d : RawDeclaration) → length (parameters_declared d) ≡ length (declared_as EquationName d)
    each (RawDatatype name constructors) = refl
    each (RawNametype name domain) = refl
    each (RawChannels names domains) = refl
    each (RawEquation name parameters body) = refl
    each (RawAssertion place n a p) = refl

-- ---- what a name means is among them

pub channel_in_range : (env : Environment) (n : RawName) (c : ℕ) → meaning env n ≡ Some (Declared ChannelName c) → c < length (flat_map fields_declared env.declarations)
channel_in_range env n c e = subst (λ z. c < z) (sym (channels_counted env.declarations)) (number_within (names_of ChannelName env.declarations) n.spelling c (meant_number env n ChannelName c e))

pub equation_in_range : (env : Environment) (n : RawName) (q : ℕ) → meaning env n ≡ Some (Declared EquationName q) → q < length (flat_map parameters_declared env.declarations)
equation_in_range env n q e = subst (λ z. q < z) (sym (equations_counted env.declarations)) (number_within (names_of EquationName env.declarations) n.spelling q (meant_number env n EquationName q e))

-- the number of parameters of the equation, and of fields of the channel, that a name means
pub parameters_meant : (env : Environment) (n : RawName) (q : ℕ) → meaning env n ≡ Some (Declared EquationName q) → parameter_count env n ≡ slice_get (flat_map parameters_declared env.declarations) q
parameters_meant env n q e = ap (λ m. option_and_then (slice_get (flat_map parameters_declared env.declarations)) (as_equation m)) e

pub fields_meant : (env : Environment) (n : RawName) (c : ℕ) → meaning env n ≡ Some (Declared ChannelName c) → field_count env n ≡ slice_get (flat_map fields_declared env.declarations) c
fields_meant env n c e = ap (λ m. option_and_then (slice_get (flat_map fields_declared env.declarations)) (as_channel m)) e

-- ---- the fields of each channel, by its sets

map-replicate : {A B : Type 0} (f : A → B) (n : ℕ) (x : A) → map f (replicate n x) ≡ replicate n (f x)
map-replicate f zero x = refl
map-replicate f (suc n) x = ap (λ xs. f x ∷ xs) (map-replicate f n x)

sizes_behind : (above ds : RawScript) → map length (behind_each channels_declared above ds) ≡ flat_map fields_declared ds
sizes_behind above [] = refl
sizes_behind above (RawChannels names domains ∷ ds) =
    map-append length (replicate (length names) (map (set_expression above) domains)) (behind_each channels_declared (above ++ RawChannels names domains ∷ []) ds)
    ∙ ap (λ zs. zs ++ map length (behind_each channels_declared (above ++ RawChannels names domains ∷ []) ds))
    (map-replicate length (length names) (map (set_expression above) domains) ∙ ap (replicate (length names)) (length-map domains (set_expression above)))
    ∙ ap (λ zs. replicate (length names) (length domains) ++ zs) (sizes_behind (above ++ RawChannels names domains ∷ []) ds)
sizes_behind above (RawDatatype name cs ∷ ds) = sizes_behind (above ++ RawDatatype name cs ∷ []) ds
sizes_behind above (RawNametype name domain ∷ ds) = sizes_behind (above ++ RawNametype name domain ∷ []) ds
sizes_behind above (RawEquation name ns p ∷ ds) = sizes_behind (above ++ RawEquation name ns p ∷ []) ds
sizes_behind above (RawAssertion place n a p ∷ ds) = sizes_behind (above ++ RawAssertion place n a p ∷ []) ds

pub sizes_of_channels : (raw : RawScript) → map length (channel_sets raw) ≡ flat_map fields_declared raw
sizes_of_channels raw = sizes_behind [] raw

every_length : {A B : Type 0} (f : A → Option B) (xs : List A) (ys : List B) → every f xs ≡ Some ys → length xs ≡ length ys
every_length f [] ys e = let is : [] ≡ ys = cc e in ap length is
every_length {A} {B} f (x ∷ xs) ys e = go (f x) (every f xs) (λ zs g. every_length f xs zs g) e
  where
    go : (o : Option B) (p : Option (List B)) → ((zs : List B) → p ≡ Some zs → length xs ≡ length zs) → of_two ◌∷◌ o p ≡ Some ys → suc (length xs) ≡ length ys
    go (Some y) (Some zs) rest i = let is : y ∷ zs ≡ ys = cc i in ap suc (rest zs refl) ∙ ap length is
    go (Some y) None rest i = absurd (cc i)
    go None p rest i = absurd (cc i)

-- a channel has as many fields as it has field sets
pub fields_of_sets : (raw : RawScript) (c : ℕ) (sets : List (List Value)) → HasFieldSets raw c sets → slice_get (flat_map fields_declared raw) c ≡ Some (length sets)
fields_of_sets raw c sets h =
    ap (λ zs. slice_get zs c) (sym (sizes_of_channels raw)) ∙ slice_get-map length (channel_sets raw) c
    ∙ go (slice_get (channel_sets raw) c) (sym (slice_get-map (every (field_members raw)) (channel_sets raw) c) ∙ h.members)
  where
    go : (o : Option (List (Option Expression))) → option_map (every (field_members raw)) o ≡ Some (Some sets) → option_map length o ≡ Some (length sets)
    go (Some es) e = let is : every (field_members raw) es ≡ Some sets = cc e in ap Some (every_length (field_members raw) es sets is)
    go None e = absurd (cc e)
