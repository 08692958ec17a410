-- The script that a tree stands for.
use Rattle.std.specs.Prelude.{◌≡◌, List, [], ◌∷◌, map, flat_map, Option, Some}
use Rattle.std.specs.Str.{encode_utf8_all}
use Rattle.theory_syntax.specs.Process.{Equation, Assertion, Script, ByTau}
use Rattle.theory_text.specs.Raw.{RawDeclaration, RawEquation, RawAssertion, RawScript}
use Rattle.theory_checking.specs.Names.{ConstructorName, ChannelName, names_of, environment_of}
use Rattle.theory_checking.specs.Resolving.{equation_of, assertion_of}
use Rattle.theory_checking.specs.Sets.{datatypes_of, nametype_members, constructor_members, channel_members}

abbrev pub equation_declared : RawScript → RawDeclaration → List (Option Equation)
equation_declared raw (RawEquation name parameters body) = equation_of (environment_of raw) parameters body ∷ []
equation_declared raw _ = []

abbrev pub assertion_declared : RawScript → RawDeclaration → List (Option Assertion)
assertion_declared raw (RawAssertion place n a p) = assertion_of (environment_of raw) n a p ∷ []
assertion_declared raw _ = []

-- The script has the tree's types, channels, equations and assertions, each in the order of the text,
-- and the spellings of channels and constructors in bytes. Its names do a tau.
pub record IsScriptOf (raw : RawScript) (script : Script) : Type 0 where
  pub datatypes : script.types.datatypes ≡ datatypes_of raw
  pub nametypes : map Some script.types.nametypes ≡ nametype_members raw
  pub constructors : map Some script.types.constructors ≡ constructor_members raw
  pub channels : map Some script.channels ≡ channel_members raw
  pub equations : map Some script.equations ≡ flat_map (equation_declared raw) raw
  pub assertions : map Some script.assertions ≡ flat_map (assertion_declared raw) raw
  pub channel_names : script.channel_names ≡ map encode_utf8_all (names_of ChannelName raw)
  pub constructor_names : script.constructor_names ≡ map encode_utf8_all (names_of ConstructorName raw)
  pub unfolds : script.unfolds ≡ ByTau
