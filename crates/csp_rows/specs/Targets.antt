-- What the steps of a row lead to.
use Rattle.std.specs.Prelude.{◌≡◌, IsTrue, ℕ, List, map, Some}
use Rattle.theory_syntax.specs.Value.{Action}
use Rattle.theory_syntax.specs.Process.{Process, Script}
use Rattle.theory_semantics.specs.Kinds.Scripts.{IsTermOf}
use Rattle.theory_semantics.specs.Meaning.Limits.{fits}
use Rattle.theory_semantics.specs.Meaning.Stepping.{Steps}
use Rattle.theory_spelling.specs.Reading.{term_of}
use Rattle.theory_spelling.specs.Spelling.{spelling}
use Rattle.theory_shapes.specs.Changes.{changed}
use Rattle.theory_shapes.specs.Shape.{fill}
use Rattle.csp_rows.specs.declared.changes.Change.{Change}
use Rattle.csp_rows.specs.declared.step.Step.{Step}
use Rattle.csp_rows.specs.Numbering.{Numbering, action_at}
use Rattle.csp_rows.specs.Runs.{changes_told}
use Rattle.csp_rows.specs.Row.{Row}
use Rattle.csp_rows.specs.ByParts.{parts_in}

-- what a step leads to: the row after its changes
abbrev pub target_of : {A : Type 0} → Numbering → Row A → List Change → Step → Process
target_of z r pool s = fill r.shape (changed (changes_told z pool s.changes) (parts_in z r))

-- its action and its target
abbrev pub step_told : {A : Type 0} → Numbering → Row A → List Change → Step → Action × Process
step_told z r pool s = (action_at z s.action, target_of z r pool s)

abbrev pub steps_told : {A : Type 0} → Numbering → Row A → List Change → List Step → Steps
steps_told z r pool ss = map (step_told z r pool) ss

-- The bytes spell a term of the script within the limits, and that term is read of them.
pub record SpellsTerm (script : Script) (p : Process) (bytes : List ℕ) : Type 0 where
  pub spelled : bytes ≡ spelling p
  pub read : term_of bytes ≡ Some p
  pub within : IsTrue (fits p)
  pub closed : IsTermOf script p
