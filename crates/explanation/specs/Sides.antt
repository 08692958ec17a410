-- The runs of sides that those of the code stand for.
use Rattle.std.specs.Prelude.{◌≡◌, ℕ, suc, List, [], Option, Some, None, length, map}
use Rattle.theory_syntax.specs.Process.{Process, Script}
use Rattle.theory_runs.specs.Runs.{HasNoneWithin}
use Rattle.theory_runs.specs.Stuck.{Hindrance}
use Rattle.csp_value.specs.Action.{action_of}
use Rattle.csp_term.specs.Term.{process_of}
use Rattle.theory_explanation.specs.Faults as pure
use Rattle.theory_explanation.specs.Steps.{path_text}
use Rattle.theory_explanation.specs.Styles.{Style}
use Rattle.counterexample.specs.Counterexample.{origins_listed}
use Rattle.csp_replay.specs.Running.{IsRunTo}
use Rattle.csp_replay.specs.declared.way_to_stuck.StuckRun.{StuckRun}
use Rattle.explanation.specs.declared.sides.SideRun.{SideRun}
use Rattle.explanation.specs.declared.told_run.ToldRun.{ToldRun}
use Rattle.explanation.specs.declared.sides.SideRun.TheVariants as variant

abbrev pub side_run_of : {A : Type 0} → SideRun A → pure.SideRun
side_run_of (variant.Implementation told) = pure.OfImplementation (map action_of told.run.path.items) (map process_of told.run.states.items) (origins_listed told.origins.items)
side_run_of (variant.Specification told) = pure.OfSpecification (map action_of told.run.path.items) (map process_of told.run.states.items) (origins_listed told.origins.items)

-- a run of the specification
abbrev pub specification_run_of : {A : Type 0} → ToldRun A → pure.SideRun
specification_run_of told = pure.OfSpecification (map action_of told.run.path.items) (map process_of told.run.states.items) (origins_listed told.origins.items)

-- one state before each action, and one at the end
abbrev pub IsEven : pure.SideRun → Type 0
IsEven (pure.OfImplementation path states origins) = length states ≡ suc (length path)
IsEven (pure.OfSpecification path states origins) = length states ≡ suc (length path)

-- the text of the run
abbrev pub told_text : {A : Type 0} → Style → ToldRun A → List ℕ
told_text style told = path_text style (map action_of told.run.path.items) (map process_of told.run.states.items) (origins_listed told.origins.items) []

-- what the last state of the run is stuck by
abbrev pub stuck_text : {A : Type 0} → Style → Script → Hindrance → ToldRun A → List ℕ
stuck_text style script h told = pure.stuck_line style.names script h (map process_of told.run.states.items)

-- a run of the specification to a state that is stuck so; or where there is a specification, none is found among n states
abbrev pub IsSpecificationRun : {A : Type 0} → Script → Option Process → Hindrance → ℕ → Option (StuckRun A) → Type 0
IsSpecificationRun script spec h n (Some run) = (p : Process) × (spec ≡ Some p) × IsRunTo script p h run
IsSpecificationRun script spec h n None = (p : Process) → spec ≡ Some p → HasNoneWithin script p h n

-- the same of a run that is told with its side
abbrev pub IsSpecificationSide : Script → Option Process → Hindrance → ℕ → Option pure.SideRun → Type 0
IsSpecificationSide script spec h n (Some (pure.OfImplementation path states origins)) = ⊥
IsSpecificationSide script spec h n (Some (pure.OfSpecification path states origins)) = (p : Process) × (spec ≡ Some p) × pure.IsToldRun script p h path states origins
IsSpecificationSide script spec h n None = (p : Process) → spec ≡ Some p → HasNoneWithin script p h n
