-- What holds of all that the steps of sides lead to holds of what those of the whole do.
use Rattle.std.proofs.Common.{Bool, true, false, cond, ◌&&◌, List, [], ◌∷◌, ◌++◌}
use Rattle.std.specs.List.{AllByRecursion}
use Rattle.theory_syntax.specs.Value.{Action, Event, Tau, Tick, Ev, event_eq}
use Rattle.theory_syntax.specs.Process.{Script}
use Rattle.theory_semantics.specs.Meaning.Events.{has_event, images}
use Rattle.theory_shapes.specs.Shape.{Composition, Frame, Hidden, Renamed}
use Rattle.theory_shapes.specs.Combining.{StepsTo, Sides, alone, composed_steps, each_to, framed_steps, hiding, is_left_free, is_right_free, is_shared, jointly, renaming_to, to_each_image}
use Rattle.theory_shapes.proofs.Segments.{all_append}

module _ {X : Type 0} (Q : X → Type 0) where
  -- it holds of all that the steps lead to
  abbrev pub AllTo : StepsTo X → Type 0
  AllTo ss = AllByRecursion (λ z. Q z.1) ss

  each_all : (f : Action → X → StepsTo X) → ((x : Action) (t : X) → Q t → AllTo (f x t)) → (ss : StepsTo X) → AllTo ss → AllTo (each_to f ss)
  each_all f made [] all = tt
  each_all f made (s ∷ ss) all = all_append (λ (z : Action × X). Q z.1) (f s.0 s.1) (each_to f ss) (made s.0 s.1 all.0) (each_all f made ss all.1)

  alone_all : (free : Event → Bool) (under : X → X) (ended : X) → ((t : X) → Q t → Q (under t)) → Q ended → (x : Action) (t : X) → Q t → AllTo (alone free under ended x t)
  alone_all free under ended made end Tau t h = (made t h, tt)
  alone_all free under ended made end Tick t h = (end, tt)
  alone_all free under ended made end (Ev e) t h = by_test (free e)
    where
      by_test : (b : Bool) → AllTo (cond b ((Ev e, under t) ∷ []) [])
      by_test true = (made t h, tt)
      by_test false = tt

  jointly_all : (shared : Event → Bool) (both : X → X → X) → ((t u : X) → Q t → Q u → Q (both t u)) → (x : Action) (t : X) → Q t → (y : Action) (u : X) → Q u → AllTo (jointly shared both x t y u)
  jointly_all shared both made (Ev e) t h (Ev f) u k = by_test (event_eq e f && shared e)
    where
      by_test : (b : Bool) → AllTo (cond b ((Ev e, both t u) ∷ []) [])
      by_test true = (made t u h k, tt)
      by_test false = tt
  jointly_all shared both made (Ev e) t h Tau u k = tt
  jointly_all shared both made (Ev e) t h Tick u k = tt
  jointly_all shared both made Tau t h y u k = tt
  jointly_all shared both made Tick t h y u k = tt

  pub record Keep (sides : Sides X) : Type 0 where
    pub on_left : (t : X) → Q t → Q (sides.on_left t)
    pub on_right : (t : X) → Q t → Q (sides.on_right t)
    pub together : (t u : X) → Q t → Q u → Q (sides.together t u)
    pub left_ended : Q sides.left_ended
    pub right_ended : Q sides.right_ended

  pub composed_all : (script : Script) (c : Composition) (sides : Sides X) → Keep sides → (ls rs ends : StepsTo X) → AllTo ls → AllTo rs → AllTo ends → AllTo (composed_steps script c sides ls rs ends)
  composed_all script c sides keep ls rs ends left right end =
      let P : Action × X → Type 0 = λ z. Q z.1 in
      let free = is_left_free script c in
      let right_free = is_right_free script c in
      let shared = is_shared script c in
      let both : Action → X → StepsTo X = λ x t. each_to (jointly shared sides.together x t) rs in
      let los = each_to (alone free sides.on_left sides.left_ended) ls in
      let bs = each_to (alone right_free sides.on_right sides.right_ended) rs in
      let cs = each_to both ls in
      all_append P los (bs ++ (cs ++ ends)) (each_all (alone free sides.on_left sides.left_ended) (alone_all free sides.on_left sides.left_ended keep.on_left keep.left_ended) ls left)
      (all_append P bs (cs ++ ends) (each_all (alone right_free sides.on_right sides.right_ended) (alone_all right_free sides.on_right sides.right_ended keep.on_right keep.right_ended) rs right)
      (all_append P cs ends (each_all both (λ x t h. each_all (jointly shared sides.together x t) (jointly_all shared sides.together keep.together x t h) rs right) ls left) end))

  hiding_all : (hidden : Event → Bool) (under : X → X) (ended : X) → ((t : X) → Q t → Q (under t)) → Q ended → (x : Action) (t : X) → Q t → AllTo (hiding hidden under ended x t)
  hiding_all hidden under ended made end Tau t h = (made t h, tt)
  hiding_all hidden under ended made end Tick t h = (end, tt)
  hiding_all hidden under ended made end (Ev e) t h = by_test (hidden e)
    where
      by_test : (b : Bool) → AllTo (cond b ((Tau, under t) ∷ []) ((Ev e, under t) ∷ []))
      by_test true = (made t h, tt)
      by_test false = (made t h, tt)

  images_all : (t : X) → Q t → (fs : List Event) → AllTo (to_each_image t fs)
  images_all t h [] = tt
  images_all t h (f ∷ fs) = (h, images_all t h fs)

  renaming_all : (by : Event → List Event) (under : X → X) (ended : X) → ((t : X) → Q t → Q (under t)) → Q ended → (x : Action) (t : X) → Q t → AllTo (renaming_to by under ended x t)
  renaming_all by under ended made end Tau t h = (made t h, tt)
  renaming_all by under ended made end Tick t h = (end, tt)
  renaming_all by under ended made end (Ev e) t h = images_all (under t) (made t h) (by e)

  pub framed_all : (script : Script) (f : Frame) (under : X → X) (ended : X) → ((t : X) → Q t → Q (under t)) → Q ended → (ss : StepsTo X) → AllTo ss → AllTo (framed_steps script f under ended ss)
  framed_all script (Hidden a) under ended made end ss all = each_all (hiding (has_event script a) under ended) (hiding_all (has_event script a) under ended made end) ss all
  framed_all script (Renamed rs) under ended made end ss all = each_all (renaming_to (images script rs) under ended) (renaming_all (images script rs) under ended made end) ss all
