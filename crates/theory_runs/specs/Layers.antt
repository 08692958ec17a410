-- The terms that the beginnings of a path lead to, one layer a beginning.
use Rattle.std.specs.Prelude.{◌≡◌, ℕ, ◌<◌, ◌⊎◌, ◌↔◌, List, [], ◌∷◌, ◌++◌, length, reverse, slice_get, Some, Contains}
use Rattle.theory_syntax.specs.Value.{Action}
use Rattle.theory_syntax.specs.Process.{Process, Script}
use Rattle.theory_semantics.specs.Kinds.Scripts.{IsTermOf}
use Rattle.theory_semantics.specs.Meaning.Transitions.{Step}
use Rattle.theory_search.specs.Growth.{AreDistinct, StaysIn}
use Rattle.theory_runs.specs.States.{Visits}

abbrev pub AreTermsOf : Script → List Process → Type 0
AreTermsOf script terms = (t : Process) → Contains terms t → IsTermOf script t

-- terms, and for each the place of one in the layer before from which a step leads to it
abbrev pub Layer : Type 0
Layer = List Process × List ℕ

abbrev pub IsEven : Layer → Type 0
IsEven layer = length layer.1 ≡ length layer.0

-- a step by x leads to u from the term before at the place that is kept at k
abbrev pub HasParent : Script → List Process → Action → List ℕ → ℕ → Process → Type 0
HasParent script before x parents k u = (p : ℕ) × (v : Process) × (slice_get parents k ≡ Some p) × (slice_get before p ≡ Some v) × Step script v x u

-- the terms that steps by x lead to from the terms before, each once
pub record IsNextLayer (script : Script) (before : List Process) (x : Action) (layer : Layer) : Type 0 where
  pub even : IsEven layer
  pub distinct : AreDistinct layer.0
  pub each : (k : ℕ) (u : Process) → slice_get layer.0 k ≡ Some u → HasParent script before x layer.1 k u
  pub all : (v u : Process) → Contains before v → Step script v x u → Contains layer.0 u

-- The layers of a path from t: the one of t alone, and one after each action. The last one stands by itself.
pub data AreLayers (script : Script) (t : Process) : List Action → List Layer → Layer → Type 0 where
  first : {path : List Action} {behind : List Layer} {last : Layer} → path ≡ [] → behind ≡ [] → last.0 ≡ t ∷ [] → AreLayers script t path behind last
  next : {path : List Action} {behind : List Layer} {last : Layer} (before : List Action) (x : Action) (layers : List Layer) (layer : Layer) →
      path ≡ before ++ x ∷ [] → behind ≡ layers ++ layer ∷ [] → AreLayers script t before layers layer → IsNextLayer script layer.0 x last → AreLayers script t path behind last

-- ---- a layer in the making

-- the lists are exactly the steps of the term
abbrev pub AreSteps : Script → Process → List (Action × Process) → Type 0
AreSteps script t steps = (x : Action) (u : Process) → Step script t x u ↔ Contains steps (x, u)

-- it is there already, or it is new and put at the end with its parent
abbrev pub IsAddedTo : Process → ℕ → Layer → Layer → Type 0
IsAddedTo u parent layer after = (Contains layer.0 u × (after ≡ layer)) ⊎ ((Contains layer.0 u → ⊥) × (after.0 ≡ layer.0 ++ u ∷ []) × (after.1 ≡ layer.1 ++ parent ∷ []))

-- it stays in its place with its parent, or it is the target of one of the steps
abbrev pub StaysOrComes : List (Action × Process) → Action → ℕ → Layer → Layer → ℕ → Process → Type 0
StaysOrComes steps x parent layer after k u =
    ((slice_get layer.0 k ≡ Some u) × ((p : ℕ) → slice_get layer.1 k ≡ Some p → slice_get after.1 k ≡ Some p)) ⊎ ((slice_get after.1 k ≡ Some parent) × Contains steps (x, u))

-- what the steps by x lead to is added
pub record AddsSteps (steps : List (Action × Process)) (x : Action) (parent : ℕ) (layer after : Layer) : Type 0 where
  pub even : IsEven after
  pub distinct : AreDistinct layer.0 → AreDistinct after.0
  pub front : StaysIn layer.0 after.0
  pub each : (k : ℕ) (u : Process) → slice_get after.0 k ≡ Some u → StaysOrComes steps x parent layer after k u
  pub stays : (u : Process) → Contains layer.0 u → Contains after.0 u
  pub all : (u : Process) → Contains steps (x, u) → Contains after.0 u

-- what steps by x lead to from the first n terms before
pub record IsPartLayer (script : Script) (before : List Process) (x : Action) (n : ℕ) (layer : Layer) : Type 0 where
  pub even : IsEven layer
  pub distinct : AreDistinct layer.0
  pub each : (k : ℕ) (u : Process) → slice_get layer.0 k ≡ Some u → HasParent script before x layer.1 k u
  pub all : (i : ℕ) (v u : Process) → i < n → slice_get before i ≡ Some v → Step script v x u → Contains layer.0 u

-- ---- the way back

-- The states from `here` on to the end, `here` left out, the last one first: `here` stands in the layer, at the place.
pub record IsOnWay (script : Script) (t : Process) (path : List Action) (end : Process) (behind : List Layer) (layer : Layer) (at : ℕ) (states : List Process) : Type 0 where
  pub done : List Action
  pub left : List Action
  pub here : Process
  pub whole : done ++ left ≡ path
  pub layers : AreLayers script t done behind layer
  pub stands : slice_get layer.0 at ≡ Some here
  pub visits : Visits script here left (here ∷ reverse states) end
