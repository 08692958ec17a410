-- How the steps of a path are told: one by one, with those that unfold a name folded into the step before, or by events.
use Rattle.std.specs.Prelude.{ℕ, zero, suc, Bool, true, false, ◌&&◌, if◌then◌else◌, List, [], ◌∷◌, ◌++◌, codes, Option, Some, None}
use Rattle.theory_syntax.specs.Process.{Process}
use Rattle.theory_syntax.specs.Value.{Action, Tau, Tick, Ev}
use Rattle.theory_search.specs.Printing.{name_at}
use Rattle.theory_origins.specs.Origin.{Passage, OnSide, InBody, OnBranch, UnderGuard, InChain, SideEnds, Hides, Renames, Origin, Does, Ends, Unfolds, Chooses, Slides, Below, Together}
use Rattle.theory_notation.specs.Names.{Names}

pub data Telling : Type 0 where
  EachStep : Telling
  Folded : Telling
  ByEvents : Telling

-- what a tau is, in the process or in a part of it: it unfolds a name, hides an event, or is another one
pub data Kind : Type 0 where
  Unfolding : (equation : ℕ) → Kind
  Hiding : Kind
  Other : Kind

abbrev pub kind_above : Passage → Kind → Kind
kind_above (OnSide side) k = k
kind_above InBody k = k
kind_above (OnBranch side) k = k
kind_above UnderGuard k = k
kind_above InChain k = k
kind_above (SideEnds side) k = Other
kind_above (Hides e) k = Hiding
kind_above (Renames e f) k = Other

abbrev pub kind : Origin → Kind
kind (Does e) = Other
kind Ends = Other
kind (Unfolds n) = Unfolding n
kind (Chooses side) = Other
kind Slides = Other
kind (Below passage part) = kind_above passage (kind part)
kind (Together left right) = Other

-- the same of a step of which the origin is told
abbrev pub kind_told : Option Origin → Kind
kind_told (Some o) = kind o
kind_told None = Other

-- ---- folding

-- whether steps that unfold a name are told with the step before, or at the start
abbrev pub folds : Telling → Bool
folds EachStep = false
folds Folded = true
folds ByEvents = true

abbrev pub unfolds : Kind → Bool
unfolds (Unfolding n) = true
unfolds Hiding = false
unfolds Other = false

abbrev pub is_folded : Telling → Option Origin → Bool
is_folded telling o = folds telling && unfolds (kind_told o)

abbrev pub before_others : Kind → List ℕ → List ℕ
before_others (Unfolding n) ns = n ∷ ns
before_others Hiding ns = []
before_others Other ns = []

-- the equations that the first of the steps unfold, one behind the other, up to a step that unfolds none
abbrev pub unfoldings : List (Option Origin) → List ℕ
unfoldings [] = []
unfoldings (o ∷ origins) = before_others (kind_told o) (unfoldings origins)

-- the equations that are told with a step that has these steps behind it
abbrev pub folded : Telling → List (Option Origin) → List ℕ
folded telling origins = if folds telling then unfoldings origins else []

-- the state that so many steps lead to, of the states behind t, or the last one
abbrev pub state_behind : ℕ → Process → List Process → Process
state_behind zero t states = t
state_behind (suc n) t [] = t
state_behind (suc n) t (u ∷ states) = state_behind n u states

-- ---- events

abbrev pub hides : Kind → Bool
hides (Unfolding n) = false
hides Hiding = true
hides Other = false

-- whether a step is an event, seen or hidden, or the end
abbrev pub is_event : Action → Option Origin → Bool
is_event Tau o = hides (kind_told o)
is_event Tick o = true
is_event (Ev e) o = true

-- ---- the text

-- the name of an equation, behind a mark
abbrev pub name_text : Names → List ℕ → ℕ → List ℕ
name_text names mark n = mark ++ name_at names.equations n

-- names with `, ` before each
abbrev pub names_behind : Names → List ℕ → List ℕ
names_behind names [] = []
names_behind names (n ∷ ns) = name_text names (codes ", ") n ++ names_behind names ns

-- what is told behind a step of the names that are unfolded then
abbrev pub then_text : Names → List ℕ → List ℕ
then_text names [] = []
then_text names (n ∷ ns) = name_text names (codes ", then unfolds ") n ++ names_behind names ns
