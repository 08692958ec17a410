-- The shape of a term by numbers, by those of the terms under its head.
use Rattle.std.proofs.Common.{◌≡◌, ℕ, ◌+◌, List, Some, None, Result, Ok, Err, refl, sym, subst, ◌∙◌, arith}
use Rattle.std.specs.Result.{result_err}
use Rattle.theory_syntax.specs.Value.{Event}
use Rattle.theory_syntax.specs.Process.{Process, Script}
use Rattle.theory_semantics.specs.Meaning.Evaluation.{Cause, ◌and_then◌}
use Rattle.theory_semantics.specs.Meaning.Events.{event_test}
use Rattle.theory_shapes.specs.Shape as pure
use Rattle.theory_shapes.specs.Shape.{Interleaved, Generalised, Alphabetised, Hidden, Renamed, compose, enframe, holes}
use Rattle.theory_shapes.specs.Operators.{CompositionHasValues, FrameHasValues, HasValues}
use Rattle.theory_shapes.specs.Parts.{IsPart, shape_of}
use Rattle.csp_rows.specs.declared.composed.SideBits.{SideBits}
use Rattle.csp_rows.specs.declared.framed.Frame.{Frame}
use Rattle.csp_rows.specs.declared.shape.Shape.{Shape}
use Rattle.csp_rows.specs.Shapes.{Composed, Framed, Hole, tree_of}
use Rattle.csp_expression.specs.declared.no_value.NoValue.{NoValue}
use Rattle.csp_expression.specs.declared.no_value.NoValue.TheVariants as eval
use Rattle.csp_expression.specs.Cause.{cause_of}
use Rattle.csp_numbers.specs.Operators.{AnswersFrame, AnswersSides, AreSides, IsFrame, cause_in_composition, cause_in_frame}
use Rattle.theory_shapes.specs.Measures.{levels, own_size}
use Rattle.std.specs.declared.vec.Vec.{Vec}
use Rattle.csp_numbers.specs.Shaped.{AnswersShape, IsByNumbers, IsMeasured, IsShaped}
use Rattle.csp_numbers.proofs.Heads.{composed_head, framed_head}

-- ---- causes

not_both : {X Y : Type 0} (r : Result X Cause) (f : X → Result Y Cause) (why : Cause) → result_err r ≡ None → ((x : X) → result_err (f x) ≡ None) → result_err (r and_then f) ≡ Some why → ⊥
not_both (Ok x) f why first second fails = let e = sym (second x) ∙ fails in absurd (cc e)
not_both (Err c) f why first second fails = absurd (cc first)

pub composition_fails : (script : Script) (c : pure.Composition) (why : Cause) → cause_in_composition script c ≡ Some why → CompositionHasValues script c → ⊥
composition_fails script Interleaved why fails has = absurd (cc fails)
composition_fails script (Generalised a) why fails has = let e = sym has ∙ fails in absurd (cc e)
composition_fails script (Alphabetised a b) why fails has = not_both (event_test script a) (λ f. event_test script b) why has.0 (λ f. has.1) fails

pub frame_fails : (script : Script) (f : pure.Frame) (why : Cause) → cause_in_frame script f ≡ Some why → FrameHasValues script f → ⊥
frame_fails script (Hidden a) why fails has = let e = sym has ∙ fails in absurd (cc e)
frame_fails script (Renamed rs) why fails has = let e = sym has ∙ fails in absurd (cc e)

-- ---- a part

pub part_shaped : {A : Type 0} (es : List Event) (script : Script) (n : ℕ) (p : Process) (next : ℕ) (shape : Shape A) → IsPart p → tree_of shape ≡ Hole n → next ≡ n + 1 → IsShaped es script n (shape_of p) next shape
part_shaped {A} es script n p next shape part is more =
    let hole : IsShaped es script n pure.Hole next shape = record {
      values = tt;
      same = subst (IsByNumbers {A = A} es script n pure.Hole) (sym is) (λ z numbered. refl);
      next = more;
    } in
    subst (λ s. IsShaped es script n s next shape) (sym part) hole

-- ---- two sides

module _ (script : Script) (p : Process) (c : pure.Composition) (l r : Process) (is : p ≡ compose c l r) (has : HasValues script (shape_of p)) where
  abbrev sides_have : HasValues script (pure.Composed c (shape_of l) (shape_of r))
  sides_have = subst (HasValues script) (composed_head p c l r is) has

  pub composition_has : CompositionHasValues script c
  composition_has = sides_have.0

  pub left_has : HasValues script (shape_of l)
  left_has = sides_have.1

  pub right_has : HasValues script (shape_of r)
  right_has = sides_have.2

module _ {A : Type 0} (es : List Event) (script : Script) (n : ℕ) (p : Process) (c : pure.Composition) (l r : Process) (is : p ≡ compose c l r) where
  pub composed_shaped : (bits : SideBits A) (left right shape : Shape A) (between next : ℕ) → AreSides es script c bits → IsShaped es script n (shape_of l) between left → IsShaped es script between (shape_of r) next right
      → tree_of shape ≡ Composed bits (tree_of left) (tree_of right) → IsShaped es script n (shape_of p) next shape
  composed_shaped bits left right shape between next sides first second made =
      let s : pure.Shape = pure.Composed c (shape_of l) (shape_of r) in
      let behind : IsByNumbers es script (n + holes (shape_of l)) (shape_of r) (tree_of right) = subst (λ m. IsByNumbers es script m (shape_of r) (tree_of right)) first.next second.same in
      let whole : IsShaped es script n s next shape = record {
        values = (sides.values, first.values, second.values);
        same = subst (IsByNumbers es script n s) (sym made) (λ z numbered. (sides.same z numbered, first.same z numbered, behind z numbered));
        next = let one = first.next in let two = second.next in omega (arith, one, two);
      } in
      subst (λ s. IsShaped es script n s next shape) (sym (composed_head p c l r is)) whole

-- ---- a frame

module _ (script : Script) (p : Process) (f : pure.Frame) (b : Process) (is : p ≡ enframe f b) (has : HasValues script (shape_of p)) where
  abbrev body_framed : HasValues script (pure.Framed f (shape_of b))
  body_framed = subst (HasValues script) (framed_head p f b is) has

  pub frame_has : FrameHasValues script f
  frame_has = body_framed.0

  pub body_has : HasValues script (shape_of b)
  body_has = body_framed.1

module _ {A : Type 0} (es : List Event) (script : Script) (n : ℕ) (p : Process) (f : pure.Frame) (b : Process) (is : p ≡ enframe f b) where
  pub framed_shaped : (by : Frame A) (body shape : Shape A) (next : ℕ) → IsFrame es script f by → IsShaped es script n (shape_of b) next body → tree_of shape ≡ Framed by (tree_of body) → IsShaped es script n (shape_of p) next shape
  framed_shaped by body shape next frame only made =
      let s : pure.Shape = pure.Framed f (shape_of b) in
      let whole : IsShaped es script n s next shape = record {
        values = (frame.values, only.values);
        same = subst (IsByNumbers es script n s) (sym made) (λ z numbered. (frame.same z numbered, only.same z numbered));
        next = only.next;
      } in
      subst (λ s. IsShaped es script n s next shape) (sym (framed_head p f b is)) whole

-- ---- where there is none

-- of a shape that has values only where another one has
pub inside_fails : (A : Type 0) (es : List Event) (script : Script) (e : NoValue) (m n k next : ℕ) (s t : pure.Shape) → (HasValues script t → HasValues script s) → AnswersShape {A = A} es script m s k (Err e) → AnswersShape {A = A} es script n t next (Err e)
inside_fails A es script (eval.Cause c) m n k next s t only fails = λ has. fails (only has)
inside_fails A es script eval.Memory m n k next s t only fails = tt

-- of one whose composition or frame has none
pub bits_fail : (A : Type 0) (es : List Event) (script : Script) (e : NoValue) (n next : ℕ) (c : pure.Composition) (t : pure.Shape) → (HasValues script t → CompositionHasValues script c) → AnswersSides {A = A} es script c (Err e) → AnswersShape {A = A} es script n t next (Err e)
bits_fail A es script (eval.Cause why) n next c t only fails = λ has. composition_fails script c (cause_of why) fails (only has)
bits_fail A es script eval.Memory n next c t only fails = tt

pub by_fails : (A : Type 0) (es : List Event) (script : Script) (e : NoValue) (n next : ℕ) (f : pure.Frame) (t : pure.Shape) → (HasValues script t → FrameHasValues script f) → AnswersFrame {A = A} es script f (Err e) → AnswersShape {A = A} es script n t next (Err e)
by_fails A es script (eval.Cause why) n next f t only fails = λ has. frame_fails script f (cause_of why) fails (only has)
by_fails A es script eval.Memory n next f t only fails = tt

-- ---- with what it measures

pub measured : {A : Type 0} (es : List Event) (script other : Script) (s : pure.Shape) (after : ℕ) (shape : Shape A) (ks : Vec ℕ A) (n : ℕ) → other ≡ script → IsShaped es other 0 s after shape → ks.items ≡ levels s → n ≡ own_size s
    → IsMeasured es script s (record { shape = shape; levels = ks; own_size = n })
measured es script other s after shape ks n same shaped deep large = record {
  values = subst (λ (k : Script). HasValues k s) same shaped.values;
  same = subst (λ (k : Script). IsByNumbers es k 0 s (tree_of shape)) same shaped.same;
  levels = deep;
  own_size = large;
}
