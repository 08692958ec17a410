-- What the operators of a shape have by the numbers of events.
use Rattle.std.proofs.Common.{◌≡◌, ◌↔◌, Bool, not, ◌&&◌, List, map, None, Result, Ok, Err, refl, ◌∙◌, ap, ap₂}
use Rattle.std.specs.Result.{result_err}
use Rattle.theory_syntax.specs.Value.{Event}
use Rattle.theory_syntax.specs.Process.{EventSet, RenamingPair, Script}
use Rattle.theory_semantics.specs.Meaning.Evaluation.{Cause, ◌and_then◌}
use Rattle.theory_semantics.specs.Meaning.Events.{event_test, has_event, passes}
use Rattle.theory_semantics.specs.Meaning.Stepping.{always, never}
use Rattle.theory_shapes.specs.Operators.{CompositionHasValues, FrameHasValues}
use Rattle.theory_shapes.specs.Shape as pure
use Rattle.csp_rows.specs.declared.composed.SideBits.{SideBits}
use Rattle.csp_rows.specs.declared.bits.Bits.{Bits}
use Rattle.csp_rows.specs.declared.framed.Frame.TheVariants as frame
use Rattle.csp_rows.specs.declared.framed.Images.{Images}
use Rattle.csp_expression.specs.declared.no_value.NoValue.{NoValue}
use Rattle.csp_expression.specs.declared.no_value.NoValue.TheVariants as eval
use Rattle.csp_events.specs.Testing.{IsTestOf}
use Rattle.csp_numbers.specs.Images.{AnswersImages, AreImages}
use Rattle.csp_numbers.specs.Operators.{AnswersFrame, AnswersSides, AreSides, IsFrame, cause_in_composition, cause_in_frame}
use Rattle.csp_numbers.specs.Sides.{AreMarksBy}
use Rattle.csp_numbers.proofs.Numbered.{bits_by, bits_for}

-- ---- causes

none_in_both : {A B : Type 0} (r : Result A Cause) (s : Result B Cause) → ((result_err r ≡ None) × (result_err s ≡ None)) ↔ (result_err (r and_then λ x. s) ≡ None)
none_in_both (Ok x) s = (λ h. h.1, λ h. (refl, h))
none_in_both (Err c) s = (λ h. h.0, λ h. absurd (cc h))

pub composition_values : (script : Script) (c : pure.Composition) → CompositionHasValues script c ↔ (cause_in_composition script c ≡ None)
composition_values script pure.Interleaved = (λ h. refl, λ h. tt)
composition_values script (pure.Generalised a) = (λ h. h, λ h. h)
composition_values script (pure.Alphabetised a b) = none_in_both (event_test script a) (event_test script b)

pub frame_values : (script : Script) (f : pure.Frame) → FrameHasValues script f ↔ (cause_in_frame script f ≡ None)
frame_values script (pure.Hidden a) = (λ h. h, λ h. h)
frame_values script (pure.Renamed rs) = (λ h. h, λ h. h)

-- ---- two sides

module _ {A : Type 0} (es : List Event) (script : Script) (bits : SideBits A) where
  pub interleaved_sides : AreMarksBy es always always never bits → AreSides es script pure.Interleaved bits
  interleaved_sides marks = record {
    values = tt;
    same = λ z numbers. record {
      left_free = bits_by es z always bits.left_free.marks.items numbers marks.left_free;
      right_free = bits_by es z always bits.right_free.marks.items numbers marks.right_free;
      shared = bits_by es z never bits.shared.marks.items numbers marks.shared;
    };
  }

  module _ (a : EventSet) (f : Event → Bool) (is : event_test script a ≡ Ok f) where
    has : (e : Event) → has_event script a e ≡ f e
    has e = ap (λ r. passes r e) is

    pub generalised_sides : AreMarksBy es (λ e. not (f e)) (λ e. not (f e)) f bits → AreSides es script (pure.Generalised a) bits
    generalised_sides marks = record {
      values = ap result_err is;
      same = λ z numbers. record {
        left_free = bits_for es z (λ e. not (f e)) (λ e. not (has_event script a e)) bits.left_free.marks.items numbers (λ e. ap not (has e)) marks.left_free;
        right_free = bits_for es z (λ e. not (f e)) (λ e. not (has_event script a e)) bits.right_free.marks.items numbers (λ e. ap not (has e)) marks.right_free;
        shared = bits_for es z f (has_event script a) bits.shared.marks.items numbers has marks.shared;
      };
    }

  pub alphabetised_sides : (a b : EventSet) (f g : Event → Bool) → event_test script a ≡ Ok f → event_test script b ≡ Ok g → AreMarksBy es (λ e. f e && not (g e)) (λ e. g e && not (f e)) (λ e. f e && g e) bits → AreSides es script (pure.Alphabetised a b) bits
  alphabetised_sides a b f g f-is g-is marks = record {
    values = (ap result_err f-is, ap result_err g-is);
    same = λ z numbers. record {
      left_free = bits_for es z (λ e. f e && not (g e)) (λ e. has_event script a e && not (has_event script b e)) bits.left_free.marks.items numbers (λ e. ap₂ (λ x y. x && not y) (has a f f-is e) (has b g g-is e)) marks.left_free;
      right_free = bits_for es z (λ e. g e && not (f e)) (λ e. has_event script b e && not (has_event script a e)) bits.right_free.marks.items numbers (λ e. ap₂ (λ x y. x && not y) (has b g g-is e) (has a f f-is e)) marks.right_free;
      shared = bits_for es z (λ e. f e && g e) (λ e. has_event script a e && has_event script b e) bits.shared.marks.items numbers (λ e. ap₂ ◌&&◌ (has a f f-is e) (has b g g-is e)) marks.shared;
    };
  }

-- ---- frames

pub hidden_frame : {A : Type 0} (es : List Event) (script : Script) (a : EventSet) (f : Event → Bool) (bits : Bits A) → event_test script a ≡ Ok f → bits.marks.items ≡ map f es → IsFrame es script (pure.Hidden a) (frame.Hidden bits)
hidden_frame es script a f bits is marks = record {
  values = ap result_err is;
  same = λ z numbers. bits_for es z f (has_event script a) bits.marks.items numbers (λ e. ap (λ r. passes r e) is) marks;
}

pub renamed_frame : {A : Type 0} (es : List Event) (script : Script) (rs : List RenamingPair) (by : Images A) → AreImages es script rs by → IsFrame es script (pure.Renamed rs) (frame.Renamed by)
renamed_frame es script rs by are = record { values = are.values; same = are.same }

pub no_renamed_frame : (A : Type 0) (es : List Event) (script : Script) (rs : List RenamingPair) (why : NoValue) → AnswersImages {A = A} es script rs (Err why) → AnswersFrame {A = A} es script (pure.Renamed rs) (Err why)
no_renamed_frame A es script rs (eval.Cause c) is = is
no_renamed_frame A es script rs eval.Memory is = tt

-- ---- sets without values

pub no_generalised_sides : (A : Type 0) (es : List Event) (script : Script) (a : EventSet) (why : NoValue) → IsTestOf {A = A} (Err why) (event_test script a) → AnswersSides {A = A} es script (pure.Generalised a) (Err why)
no_generalised_sides A es script a (eval.Cause c) is = ap result_err is
no_generalised_sides A es script a eval.Memory is = tt

pub no_left_sides : (A : Type 0) (es : List Event) (script : Script) (a b : EventSet) (why : NoValue) → IsTestOf {A = A} (Err why) (event_test script a) → AnswersSides {A = A} es script (pure.Alphabetised a b) (Err why)
no_left_sides A es script a b (eval.Cause c) is = ap (λ r. result_err (r and_then λ f. event_test script b)) is
no_left_sides A es script a b eval.Memory is = tt

pub no_right_sides : (A : Type 0) (es : List Event) (script : Script) (a b : EventSet) (f : Event → Bool) (why : NoValue) → event_test script a ≡ Ok f → IsTestOf {A = A} (Err why) (event_test script b) → AnswersSides {A = A} es script (pure.Alphabetised a b) (Err why)
no_right_sides A es script a b f (eval.Cause c) left is = ap (λ r. result_err (r and_then λ f. event_test script b)) left ∙ ap result_err is
no_right_sides A es script a b f eval.Memory left is = tt
