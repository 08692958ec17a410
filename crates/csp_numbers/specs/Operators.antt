-- What the operators of a shape have by the numbers of events.
use Rattle.std.specs.Prelude.{◌≡◌, List, Option, Some, None, Result}
use Rattle.std.specs.Result.{result_err}
use Rattle.theory_syntax.specs.Value.{Event}
use Rattle.theory_syntax.specs.Process.{Script}
use Rattle.theory_semantics.specs.Meaning.Evaluation.{Cause, ◌and_then◌}
use Rattle.theory_semantics.specs.Meaning.Events.{event_test, renaming}
use Rattle.theory_shapes.specs.Operators.{CompositionHasValues, FrameHasValues}
use Rattle.theory_shapes.specs.Shape as pure
use Rattle.csp_expression.specs.Agreement.{Agrees}
use Rattle.csp_expression.specs.declared.no_value.NoValue.{NoValue}
use Rattle.csp_rows.specs.declared.composed.SideBits.{SideBits}
use Rattle.csp_rows.specs.declared.framed.Frame.{Frame}
use Rattle.csp_rows.specs.Numbering.{Numbering}
use Rattle.csp_rows.specs.Composed.{AreSideBitsOf}
use Rattle.csp_rows.specs.Framed.{IsFrameOf}
use Rattle.csp_numbers.specs.Numbers.{NumbersEvents}

-- the first cause for which a set of the composition has no value
abbrev pub cause_in_composition : Script → pure.Composition → Option Cause
cause_in_composition script pure.Interleaved = None
cause_in_composition script (pure.Generalised a) = result_err (event_test script a)
cause_in_composition script (pure.Alphabetised a b) = result_err (event_test script a and_then λ f. event_test script b)

-- the first cause for which the set or the renaming of the frame has no value
abbrev pub cause_in_frame : Script → pure.Frame → Option Cause
cause_in_frame script (pure.Hidden a) = result_err (event_test script a)
cause_in_frame script (pure.Renamed rs) = result_err (renaming script rs)

-- The sets of the composition have values, and the bits are its bits, whatever numbers these events by their places.
pub record AreSides {A : Type 0} (es : List Event) (script : Script) (c : pure.Composition) (bits : SideBits A) : Type 0 where
  pub values : CompositionHasValues script c
  pub same : (z : Numbering) → NumbersEvents es z → AreSideBitsOf z script c bits

-- What the frame has by numbers has a value, and is what it has, whatever numbers these events by their places.
pub record IsFrame {A : Type 0} (es : List Event) (script : Script) (f : pure.Frame) (by : Frame A) : Type 0 where
  pub values : FrameHasValues script f
  pub same : (z : Numbering) → NumbersEvents es z → IsFrameOf z script f by

-- what is answered of a composition: its bits, or its first cause
abbrev pub AnswersSides : {A : Type 0} → List Event → Script → pure.Composition → Result (SideBits A) NoValue → Type 0
AnswersSides es script c x = Agrees (λ bits cause. AreSides es script c bits) (λ why cause. cause ≡ Some why) x (cause_in_composition script c)

-- what is answered of a frame
abbrev pub AnswersFrame : {A : Type 0} → List Event → Script → pure.Frame → Result (Frame A) NoValue → Type 0
AnswersFrame es script f x = Agrees (λ by cause. IsFrame es script f by) (λ why cause. cause ≡ Some why) x (cause_in_frame script f)
