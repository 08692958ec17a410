-- The pass over the declarations.
use Rattle.std.specs.Prelude.{◌≡◌, ℕ, Bool, true, List, [], ◌∷◌, ◌++◌, length, map, MatchBool, Option, Some, None}
use Rattle.theory_text.specs.Raw.{RawName, RawClause, RawDatatype, RawDeclaration, RawScript}
use Rattle.theory_checking.specs.Sets.{datatypes_of, members_above, number_of_events}
use Rattle.theory_checking.specs.Rules.{all_declared}
use Rattle.csp_names.specs.FirstPass.{AreNamesOf}
use Rattle.csp_kinds.specs.declared.channels.Channels.{Channels}
use Rattle.csp_kinds.specs.declared.faults.SetFault.{SetFault}
use Rattle.csp_kinds.specs.declared.pass.Position.{Position}
use Rattle.csp_kinds.specs.declared.pass.SetsSoFar.{SetsSoFar}
use Rattle.csp_kinds.specs.declared.sets.RefusedSet.{RefusedSet}
use Rattle.csp_kinds.specs.Channels.{sets_in}
use Rattle.csp_kinds.specs.Fit.{IsFitOf}
use Rattle.csp_kinds.specs.Looking.{IsTableOf}
use Rattle.csp_kinds.specs.Members.{channels_above, IsCount}
use Rattle.csp_kinds.specs.Passing.{AreCutOff, AreFirstSetsFine}
use Rattle.csp_kinds.specs.Sets.{IsFirstRefusedSet}

-- the refusal that was there, or that of this declaration
abbrev pub first_refusal : Option RefusedSet → ℕ → Option SetFault → Option RefusedSet
first_refusal (Some r) n fault = Some r
first_refusal None n (Some f) = Some (record { declaration = n; fault = f.fault; place = f.place })
first_refusal None n None = None

-- These are the tree's names, and so many declarations and names stand above.
pub record IsPosition {A : Type 0} (raw above : RawScript) (p : Position A) : Type 0 where
  pub names : AreNamesOf p.names.now raw
  pub passed : p.passed ≡ length above
  pub visible : p.visible ≡ length (all_declared above)

-- each is there
abbrev pub AreAllThere : {X : Type 0} → List (Option X) → Type 0
AreAllThere {X} os = (xs : List X) × (map Some xs ≡ os)

-- Some kinds fit the sets so far: each channel has its field sets where these have members, and the events are counted.
pub record AreFittedChannels {A : Type 0} (raw above : RawScript) (channels : Channels A) : Type 0 where
  pub sets : sets_in channels ≡ channels_above raw above
  pub events : IsCount channels.events (number_of_events (sets_in channels))

-- Nothing is refused so far: kinds fit, and each set has its members.
pub record AreUnrefusedSoFar (raw above : RawScript) (fits : Bool) : Type 0 where
  pub fine : AreFirstSetsFine raw (length above)
  pub some : fits ≡ true
  pub nametypes : AreAllThere (members_above raw above).nametypes
  pub constructors : AreAllThere (members_above raw above).constructors
  pub channels : AreAllThere (channels_above raw above)

abbrev pub IsRefusalSoFar : RawScript → RawScript → Bool → Option RefusedSet → Type 0
IsRefusalSoFar raw above fits None = AreUnrefusedSoFar raw above fits
IsRefusalSoFar raw above fits (Some r) = IsFirstRefusedSet raw r

-- They are the sets of these declarations.
pub record AreSetsSoFar {A : Type 0} (raw above : RawScript) (s : SetsSoFar A) : Type 0 where
  pub table : IsTableOf (datatypes_of raw) (members_above raw above) s.table
  pub fit : IsFitOf raw above s.fit
  pub channels : MatchBool s.fit.some (AreFittedChannels raw above s.channels) (AreCutOff raw above (sets_in s.channels))
  pub refusal : IsRefusalSoFar raw above s.fit.some s.refused

-- The declaration is the next one of some tree.
pub record HasNext {A : Type 0} (p : Position A) (s : SetsSoFar A) (d : RawDeclaration) : Type 0 where
  pub raw : RawScript
  pub above : RawScript
  pub below : RawScript
  pub stands : raw ≡ above ++ d ∷ below
  pub position : IsPosition raw above p
  pub so_far : AreSetsSoFar raw above s

-- The next declaration of some tree declares a datatype with these clauses.
abbrev pub HasNextDatatype : {A : Type 0} → Position A → SetsSoFar A → List RawClause → Type 0
HasNextDatatype p s clauses = (name : RawName) × HasNext p s (RawDatatype name clauses)

-- The declaration is taken up, where it is the next one.
abbrev pub TakesUp : {A : Type 0} → Position A → RawDeclaration → SetsSoFar A → SetsSoFar A → Type 0
TakesUp p d old new = (raw above below : RawScript) → raw ≡ above ++ d ∷ below → IsPosition raw above p → AreSetsSoFar raw above old → AreSetsSoFar raw (above ++ d ∷ []) new
