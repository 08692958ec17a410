-- What holds of the operators of a shape.
use Rattle.std.specs.Prelude.{◌≡◌, ⊤, [], None}
use Rattle.std.specs.Result.{result_err}
use Rattle.theory_syntax.specs.Process.{Script}
use Rattle.theory_semantics.specs.Meaning.Events.{event_test, renaming}
use Rattle.theory_semantics.specs.Kinds.Kind.{Kinds, Each}
use Rattle.theory_semantics.specs.Kinds.Events.{IsEventSet, IsPair}
use Rattle.theory_spelling.specs.Spellable.{IsSpellableEventSet, IsSpellableList, IsSpellablePair}
use Rattle.theory_shapes.specs.Shape.{Composition, Interleaved, Generalised, Alphabetised, Frame, Hidden, Renamed, Shape, Hole, Composed, Framed}

-- something holds of each operator
abbrev pub EachOperator : (Composition → Type 0) → (Frame → Type 0) → Shape → Type 0
EachOperator C F Hole = ⊤
EachOperator C F (Composed c l r) = C c × EachOperator C F l × EachOperator C F r
EachOperator C F (Framed f s) = F f × EachOperator C F s

-- ---- its sets of events and its renaming have values

abbrev pub CompositionHasValues : Script → Composition → Type 0
CompositionHasValues script Interleaved = ⊤
CompositionHasValues script (Generalised a) = result_err (event_test script a) ≡ None
CompositionHasValues script (Alphabetised a b) = (result_err (event_test script a) ≡ None) × (result_err (event_test script b) ≡ None)

abbrev pub FrameHasValues : Script → Frame → Type 0
FrameHasValues script (Hidden a) = result_err (event_test script a) ≡ None
FrameHasValues script (Renamed rs) = result_err (renaming script rs) ≡ None

abbrev pub HasValues : Script → Shape → Type 0
HasValues script s = EachOperator (CompositionHasValues script) (FrameHasValues script) s

-- ---- they are spellable

abbrev pub IsSpellableComposition : Composition → Type 0
IsSpellableComposition Interleaved = ⊤
IsSpellableComposition (Generalised a) = IsSpellableEventSet a
IsSpellableComposition (Alphabetised a b) = IsSpellableEventSet a × IsSpellableEventSet b

abbrev pub IsSpellableFrame : Frame → Type 0
IsSpellableFrame (Hidden a) = IsSpellableEventSet a
IsSpellableFrame (Renamed rs) = IsSpellableList IsSpellablePair rs

abbrev pub IsSpellableShape : Shape → Type 0
IsSpellableShape s = EachOperator IsSpellableComposition IsSpellableFrame s

-- ---- they are closed and well-kinded

abbrev pub IsClosedComposition : Script → Kinds → Composition → Type 0
IsClosedComposition script kinds Interleaved = ⊤
IsClosedComposition script kinds (Generalised a) = IsEventSet script.types kinds [] a
IsClosedComposition script kinds (Alphabetised a b) = IsEventSet script.types kinds [] a × IsEventSet script.types kinds [] b

abbrev pub IsClosedFrame : Script → Kinds → Frame → Type 0
IsClosedFrame script kinds (Hidden a) = IsEventSet script.types kinds [] a
IsClosedFrame script kinds (Renamed rs) = Each (IsPair script kinds []) rs

abbrev pub IsClosedShape : Script → Kinds → Shape → Type 0
IsClosedShape script kinds s = EachOperator (IsClosedComposition script kinds) (IsClosedFrame script kinds) s
