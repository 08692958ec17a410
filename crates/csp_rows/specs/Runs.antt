-- Changes of a pool, and steps that have some of them.
use Rattle.std.specs.Prelude.{◌≡◌, ◌<◌, ◌≤◌, ℕ, Bool, ◌-◌, ⊤, List, [], ◌++◌, length, map, drop, take, Option, Some, None}
use Rattle.std.specs.List.{AllByRecursion}
use Rattle.theory_syntax.specs.Value.{Action}
use Rattle.theory_shapes.specs.Changes as pure
use Rattle.csp_rows.specs.declared.changes.Change.{Change}
use Rattle.csp_rows.specs.declared.changes.Run.{Run}
use Rattle.csp_rows.specs.declared.step.Step.{Step}
use Rattle.csp_rows.specs.declared.composed.End.{End}
use Rattle.csp_rows.specs.Numbering.{IsNumbered, Numbering, action_at}

-- what is told by changes, where there are some
abbrev pub Told : Type 0
Told = Option (List pure.Change)

abbrev pub change_of : Numbering → Change → pure.Change
change_of z c = record { hole = c.hole; part = z.part c.part.0 }

abbrev pub changes_in : Numbering → List Change → List pure.Change
changes_in z cs = map (change_of z) cs

-- the changes of a run
abbrev pub run_of : List Change → Run → List Change
run_of pool r = take (r.to - r.from) (drop r.from pool)

abbrev pub changes_of : Numbering → List Change → Run → List pure.Change
changes_of z pool r = changes_in z (run_of pool r)

abbrev pub told_of : Numbering → List Change → Option Run → Told
told_of z pool None = None
told_of z pool (Some r) = Some (changes_of z pool r)

abbrev pub step_of : Numbering → List Change → Step → Action × Told
step_of z pool s = (action_at z s.action, told_of z pool s.changes)

abbrev pub steps_of : Numbering → List Change → List Step → List (Action × Told)
steps_of z pool ss = map (step_of z pool) ss

-- the changes, of which there are none where none are told
abbrev pub changes_told : Numbering → List Change → Option Run → List pure.Change
changes_told z pool None = []
changes_told z pool (Some r) = changes_of z pool r

-- steps that all leave the shape as it is
abbrev pub changing_of : Numbering → List Change → List Step → List (Action × List pure.Change)
changing_of z pool ss = map (λ s. (action_at z s.action, changes_told z pool s.changes)) ss

-- ---- what stands in a pool of so many changes

abbrev pub IsRunIn : ℕ → Run → Type 0
IsRunIn n r = (r.from ≤ r.to) × (r.to ≤ n)

abbrev pub IsToldIn : ℕ → Option Run → Type 0
IsToldIn n None = ⊤
IsToldIn n (Some r) = IsRunIn n r

abbrev pub AreToldIn : ℕ → List Step → Type 0
AreToldIn n ss = AllByRecursion (λ s. IsToldIn n s.changes) ss

-- the steps of one side of an operator, and how it ends
pub record Side : Type 0 where
  pub steps : List Step
  pub ending : Option Run
  pub has_ended : Bool

abbrev pub side_of : List Step → End → Side
side_of ss end = record { steps = ss; ending = end.ending; has_ended = end.has_ended }

pub record IsSideIn (n : ℕ) (side : Side) : Type 0 where
  pub steps : AreToldIn n side.steps
  pub ending : IsToldIn n side.ending

-- ---- numbers

-- the actions of steps have their numbers
abbrev pub AreNumbered : ℕ → List Step → Type 0
AreNumbered events ss = AllByRecursion (λ s. IsNumbered events s.action) ss

-- the parts of changes are among so many
abbrev pub AreAmong : ℕ → List Change → Type 0
AreAmong parts cs = AllByRecursion (λ c. c.part.0 < parts) cs

-- ---- a pool with more behind it

abbrev pub IsGrown : List Change → List Change → Type 0
IsGrown pool grown = (more : List Change) × (grown ≡ pool ++ more)

-- no other parts come in
abbrev pub KeepsParts : List Change → List Change → Type 0
KeepsParts pool grown = (parts : ℕ) → AreAmong parts pool → AreAmong parts grown

-- the run has the changes of both, at the end of the grown pool
pub record IsJoined (pool after : List Change) (left right joined : Run) : Type 0 where
  pub grown : after ≡ pool ++ (run_of pool left ++ run_of pool right)
  pub from : joined.from ≡ length pool
  pub to : joined.to ≡ length after

-- so does what is told by both
abbrev pub AreJoined : List Change → List Change → Option Run → Option Run → Option Run → Type 0
AreJoined pool grown (Some left) (Some right) (Some joined) = IsJoined pool grown left right joined
AreJoined pool grown (Some left) None joined = (grown ≡ pool) × (joined ≡ None)
AreJoined pool grown None right joined = (grown ≡ pool) × (joined ≡ None)
AreJoined pool grown (Some left) (Some right) None = ⊥
