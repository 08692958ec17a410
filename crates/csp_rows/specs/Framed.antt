-- The steps of a process in a frame.
use Rattle.std.specs.Prelude.{◌≡◌, ◌<◌, ℕ, Bool, false, cond, get_or, List, [], ◌∷◌, ◌++◌, map, Option, Some, None, slice_get}
use Rattle.std.specs.List.{AllByRecursion}
use Rattle.std.specs.declared.vec.Vec.{Vec}
use Rattle.theory_syntax.specs.Value.{Event}
use Rattle.theory_syntax.specs.Process.{Script}
use Rattle.theory_semantics.specs.Meaning.Events.{has_event, images}
use Rattle.theory_shapes.specs.Shape as pure
use Rattle.theory_shapes.specs.Combining.{framed_steps}
use Rattle.csp_rows.specs.declared.changes.Change.{Change}
use Rattle.csp_rows.specs.declared.changes.Run.{Run}
use Rattle.csp_rows.specs.declared.framed.Frame.{Frame}
use Rattle.csp_rows.specs.declared.framed.Frame.TheVariants as frame
use Rattle.csp_rows.specs.declared.numbers.ActionId.{ActionId}
use Rattle.csp_rows.specs.declared.numbers.ActionId.TheVariants as by_number
use Rattle.csp_rows.specs.declared.numbers.EventId.{EventId}
use Rattle.csp_rows.specs.declared.step.Step.{Step}
use Rattle.csp_rows.specs.Numbering.{AreBitsOf, Numbering}
use Rattle.csp_rows.specs.Runs.{AreNumbered, AreToldIn, steps_of}

-- ---- hiding

-- a step of these changes, where the events that have a bit are hidden
abbrev pub hidden_action : List Bool → ActionId → Option Run → Step
hidden_action hidden by_number.Tau changes = record { action = by_number.Tau; changes = changes }
hidden_action hidden by_number.Tick changes = record { action = by_number.Tick; changes = None }
hidden_action hidden (by_number.Event n) changes = record { action = cond (get_or hidden n.0 false) by_number.Tau (by_number.Event n); changes = changes }

abbrev pub hidden_step : List Bool → Step → Step
hidden_step hidden s = hidden_action hidden s.action s.changes

-- ---- renaming

abbrev pub listed : {A : Type 0} → Option (Vec EventId A) → List EventId
listed None = []
listed (Some v) = v.items

-- the images of the event of this number
abbrev pub images_at : {A : Type 0} → List (Vec EventId A) → ℕ → List EventId
images_at images n = listed (slice_get images n)

-- a step by each event, with the same changes
abbrev pub image_steps : Option Run → List EventId → List Step
image_steps changes es = map (λ e. record { action = by_number.Event e; changes = changes }) es

abbrev pub renamed_action : {A : Type 0} → List (Vec EventId A) → ActionId → Option Run → List Step
renamed_action images by_number.Tau changes = record { action = by_number.Tau; changes = changes } ∷ []
renamed_action images by_number.Tick changes = record { action = by_number.Tick; changes = None } ∷ []
renamed_action images (by_number.Event n) changes = image_steps changes (images_at images n.0)

abbrev pub renamed_step : {A : Type 0} → List (Vec EventId A) → Step → List Step
renamed_step images s = renamed_action images s.action s.changes

abbrev pub renamed_steps : {A : Type 0} → List (Vec EventId A) → List Step → List Step
renamed_steps images [] = []
renamed_steps images (s ∷ ss) = renamed_step images s ++ renamed_steps images ss

-- ---- frames

-- the images of each event are those of its number, which are events that have a number
pub record AreImagesAt {A : Type 0} (z : Numbering) (rename : Event → List Event) (images : List (Vec EventId A)) (n : ℕ) : Type 0 where
  pub same : rename (z.event n) ≡ map (λ e. z.event e.0) (images_at images n)
  pub numbered : AllByRecursion (λ e. e.0 < z.events) (images_at images n)

abbrev pub AreImagesOf : {A : Type 0} → Numbering → (Event → List Event) → List (Vec EventId A) → Type 0
AreImagesOf z rename images = (n : ℕ) → n < z.events → AreImagesAt z rename images n

-- what a frame has by numbers is what another one has
abbrev pub IsFrameOf : {A : Type 0} → Numbering → Script → pure.Frame → Frame A → Type 0
IsFrameOf z script (pure.Hidden a) (frame.Hidden bits) = AreBitsOf z (has_event script a) bits.marks.items
IsFrameOf z script (pure.Renamed rs) (frame.Renamed by) = AreImagesOf z (images script rs) by.images.items
IsFrameOf z script (pure.Hidden a) (frame.Renamed by) = ⊥
IsFrameOf z script (pure.Renamed rs) (frame.Hidden bits) = ⊥

-- These are the steps of a frame by those of the process in it, where it has that frame by numbers.
pub record IsFramed {A : Type 0} (by : Frame A) (body steps : List Step) : Type 0 where
  pub inside : (n : ℕ) → AreToldIn n body → AreToldIn n steps
  pub numbered : (z : Numbering) (script : Script) (f : pure.Frame) → IsFrameOf z script f by → AreNumbered z.events body → AreNumbered z.events steps
  pub made : (z : Numbering) (script : Script) (f : pure.Frame) (pool : List Change) → IsFrameOf z script f by → AreNumbered z.events body
      → steps_of z pool steps ≡ framed_steps script f (λ o. o) None (steps_of z pool body)
