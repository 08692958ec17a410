-- The declarations so far: which of them are fine, and the field sets of their channels.
use Rattle.std.specs.Prelude.{◌≡◌, ℕ, ◌<◌, Bool, true, false, List, [], ◌∷◌, ◌++◌, length, replicate, Option, None}
use Rattle.theory_syntax.specs.Value.{Value}
use Rattle.theory_text.specs.Raw.{RawDeclaration, RawDatatype, RawNametype, RawChannels, RawScript}
use Rattle.theory_checking.specs.Sets.{types_of, channel_sets}
use Rattle.theory_checking.specs.Sites.{in_declaration}
use Rattle.theory_checking.specs.Rules.{SomeFit}
use Rattle.theory_checking.specs.Walks.{AllFine}
use Rattle.csp_kinds.specs.Members.{channels_above}

-- The declaration declares a datatype, a nametype or channels, which have sets.
abbrev pub declares_sets : RawDeclaration → Bool
declares_sets (RawDatatype name clauses) = true
declares_sets (RawNametype name domain) = true
declares_sets (RawChannels names domains) = true
declares_sets _ = false

-- All of these declarations are fine.
abbrev pub AreSetsFine : RawScript → Type 0
AreSetsFine raw = (above : RawScript) (d : RawDeclaration) (below : RawScript) → raw ≡ above ++ d ∷ below → declares_sets d ≡ true → AllFine (in_declaration raw above d)

-- Those are fine that have fewer than so many declarations above them.
abbrev pub AreFirstSetsFine : RawScript → ℕ → Type 0
AreFirstSetsFine raw n = (above : RawScript) (d : RawDeclaration) (below : RawScript) → raw ≡ above ++ d ∷ below → declares_sets d ≡ true → length above < n → AllFine (in_declaration raw above d)

-- From one declaration on no kinds fit, and so the channels of this one and of those below it have no field sets.
pub record AreCutOff (raw above : RawScript) (sets : List (Option (List (List Value)))) : Type 0 where
  pub fitted : RawScript
  pub misfit : RawDeclaration
  pub more : RawScript
  pub stands : above ≡ fitted ++ misfit ∷ more
  pub some : SomeFit (types_of raw) fitted
  pub none : ¬ (SomeFit (types_of raw) (fitted ++ misfit ∷ []))
  pub rest : ℕ
  pub begins : sets ≡ channels_above raw fitted ++ replicate rest None
  pub counted : length sets ≡ length (channel_sets above)
