-- What a head stands for.
use Rattle.std.specs.Prelude.{◌≡◌}
use Rattle.theory_syntax.specs.Process.{Process}
use Rattle.theory_shapes.specs.Shape as pure
use Rattle.theory_shapes.specs.Parts.{IsPart}
use Rattle.csp_events.specs.Events.{event_set_of, renaming_pairs_of}
use Rattle.csp_term.specs.Term.{process_of}
use Rattle.csp_numbers.specs.declared.head.Composition.{Composition}
use Rattle.csp_numbers.specs.declared.head.Composition.TheVariants as composition
use Rattle.csp_numbers.specs.declared.head.Frame.{Frame}
use Rattle.csp_numbers.specs.declared.head.Frame.TheVariants as frame
use Rattle.csp_numbers.specs.declared.head.Head.{Head}
use Rattle.csp_numbers.specs.declared.head.Head.TheVariants as head

abbrev pub composition_of : {A : Type 0} → Composition A → pure.Composition
composition_of composition.Interleaved = pure.Interleaved
composition_of (composition.Generalised a) = pure.Generalised (event_set_of a.now)
composition_of (composition.Alphabetised a b) = pure.Alphabetised (event_set_of a.now) (event_set_of b.now)

abbrev pub frame_of : {A : Type 0} → Frame A → pure.Frame
frame_of (frame.Hidden a) = pure.Hidden (event_set_of a.now)
frame_of (frame.Renamed rs) = pure.Renamed (renaming_pairs_of rs.now)

-- no operator that stays is at the head of the process, or it is the one with these processes under it
abbrev pub IsHeadOf : {A : Type 0} → Head A → Process → Type 0
IsHeadOf head.Part p = IsPart p
IsHeadOf (head.Composed c left right) p = p ≡ pure.compose (composition_of c) (process_of left.now) (process_of right.now)
IsHeadOf (head.Framed f body) p = p ≡ pure.enframe (frame_of f) (process_of body.now)
