-- How steps are put together does not hang on what they lead to.
use Rattle.std.proofs.Common.{◌≡◌, ◌<◌, ℕ, ◌+◌, append_assoc, get_or, length, sym, take, Bool, true, false, cond, List, [], ◌∷◌, ◌++◌, map, refl, ap, ap₂, ◌∙◌, ◌&&◌}
use Rattle.std.proofs.lemmas.List.{append-nil, map-append, take_more}
use Rattle.theory_syntax.specs.Value.{Action, Event, Tau, Tick, Ev, event_eq}
use Rattle.theory_syntax.specs.Process.{Script}
use Rattle.theory_semantics.specs.Meaning.Events.{has_event, images}
use Rattle.theory_shapes.specs.Shape.{Composition, Frame, Hidden, Renamed}
use Rattle.theory_shapes.specs.Combining.{StepsTo, each_to, is_left_free, is_right_free, is_shared, Sides, alone, jointly, composed_steps, hiding, to_each_image, renaming_to, framed_steps}

-- the steps with what h makes of their targets
abbrev pub leading_to : {X Y : Type 0} → (X → Y) → StepsTo X → StepsTo Y
leading_to h ss = map (λ s. (s.0, h s.1)) ss

-- one more step
pub each_more : {X : Type 0} (f : Action → X → StepsTo X) (ss : StepsTo X) (s : Action × X) → each_to f (ss ++ s ∷ []) ≡ each_to f ss ++ f s.0 s.1
each_more f [] s = append-nil (f s.0 s.1)
each_more f (z ∷ zs) s = ap (λ (ys : StepsTo _). f z.0 z.1 ++ ys) (each_more f zs s) ∙ sym (append_assoc (f z.0 z.1) (each_to f zs) (f s.0 s.1))

-- What a loop over steps of some kind has made, with what it makes of one more.
pub then_more : {S X : Type 0} (v : S → Action × X) (f : Action → X → StepsTo X) (old now new : StepsTo X) (side : List S) (i : ℕ) (s : S) → i < length side →
    now ≡ old ++ each_to f (map v (take i side)) → new ≡ now ++ f (v (get_or side i s)).0 (v (get_or side i s)).1 → new ≡ old ++ each_to f (map v (take (i + 1) side))
then_more v f old now new side i s within so_far one =
    let z = v (get_or side i s) in
    one ∙ ap (λ (xs : StepsTo _). xs ++ f z.0 z.1) so_far ∙ append_assoc old (each_to f (map v (take i side))) (f z.0 z.1)
    ∙ ap (λ (ys : StepsTo _). old ++ ys) (sym (each_more f (map v (take i side)) z) ∙ ap (each_to f) (sym (map-append v (take i side) (get_or side i s ∷ [])) ∙ ap (map v) (sym (take_more side i s within))))

module _ {X Y : Type 0} where
  each_leads : (h k : X → Y) (f : Action → X → StepsTo X) (g : Action → Y → StepsTo Y) → ((x : Action) (t : X) → leading_to h (f x t) ≡ g x (k t)) → (ss : StepsTo X) → leading_to h (each_to f ss) ≡ each_to g (leading_to k ss)
  each_leads h k f g same [] = refl
  each_leads h k f g same (s ∷ ss) = map-append (λ (s : Action × X). (s.0, h s.1)) (f s.0 s.1) (each_to f ss) ∙ ap₂ (λ (ys : StepsTo Y) (bs : StepsTo Y). ys ++ bs) (same s.0 s.1) (each_leads h k f g same ss)

  -- what is made of targets below and above an operator, and of where it has ended
  alone_leads : (h k : X → Y) (free : Event → Bool) (under : X → X) (ended : X) (above : Y → Y) (over : Y) → ((t : X) → h (under t) ≡ above (k t)) → h ended ≡ over → (x : Action) (t : X) → leading_to h (alone free under ended x t) ≡ alone free above over x (k t)
  alone_leads h k free under ended above over same end Tau t = ap (λ (u : Y). (Tau, u) ∷ []) (same t)
  alone_leads h k free under ended above over same end Tick t = ap (λ (u : Y). (Tau, u) ∷ []) end
  alone_leads h k free under ended above over same end (Ev e) t = by_test (free e)
    where
      by_test : (b : Bool) → leading_to h (cond b ((Ev e, under t) ∷ []) []) ≡ cond b ((Ev e, above (k t)) ∷ []) []
      by_test true = ap (λ (u : Y). (Ev e, u) ∷ []) (same t)
      by_test false = refl

  hiding_leads : (h k : X → Y) (hidden : Event → Bool) (under : X → X) (ended : X) (above : Y → Y) (over : Y) → ((t : X) → h (under t) ≡ above (k t)) → h ended ≡ over → (x : Action) (t : X) → leading_to h (hiding hidden under ended x t) ≡ hiding hidden above over x (k t)
  hiding_leads h k hidden under ended above over same end Tau t = ap (λ (u : Y). (Tau, u) ∷ []) (same t)
  hiding_leads h k hidden under ended above over same end Tick t = ap (λ (u : Y). (Tick, u) ∷ []) end
  hiding_leads h k hidden under ended above over same end (Ev e) t = by_test (hidden e)
    where
      by_test : (b : Bool) → leading_to h (cond b ((Tau, under t) ∷ []) ((Ev e, under t) ∷ [])) ≡ cond b ((Tau, above (k t)) ∷ []) ((Ev e, above (k t)) ∷ [])
      by_test true = ap (λ (u : Y). (Tau, u) ∷ []) (same t)
      by_test false = ap (λ (u : Y). (Ev e, u) ∷ []) (same t)

  images_lead : (h : X → Y) (t : X) (u : Y) → h t ≡ u → (fs : List Event) → leading_to h (to_each_image t fs) ≡ to_each_image u fs
  images_lead h t u same [] = refl
  images_lead h t u same (f ∷ fs) = ap₂ (λ (v : Y) (ss : StepsTo Y). (Ev f, v) ∷ ss) same (images_lead h t u same fs)

  renaming_leads : (h k : X → Y) (images : Event → List Event) (under : X → X) (ended : X) (above : Y → Y) (over : Y) → ((t : X) → h (under t) ≡ above (k t)) → h ended ≡ over → (x : Action) (t : X) → leading_to h (renaming_to images under ended x t) ≡ renaming_to images above over x (k t)
  renaming_leads h k images under ended above over same end Tau t = ap (λ (u : Y). (Tau, u) ∷ []) (same t)
  renaming_leads h k images under ended above over same end Tick t = ap (λ (u : Y). (Tick, u) ∷ []) end
  renaming_leads h k images under ended above over same end (Ev e) t = images_lead h (under t) (above (k t)) (same t) (images e)

  pub framed_leads : (script : Script) (f : Frame) (h k : X → Y) (under : X → X) (ended : X) (above : Y → Y) (over : Y) → ((t : X) → h (under t) ≡ above (k t)) → h ended ≡ over → (ss : StepsTo X) →
      leading_to h (framed_steps script f under ended ss) ≡ framed_steps script f above over (leading_to k ss)
  framed_leads script (Hidden a) h k under ended above over same end = each_leads h k (hiding (has_event script a) under ended) (hiding (has_event script a) above over) (hiding_leads h k (has_event script a) under ended above over same end)
  framed_leads script (Renamed rs) h k under ended above over same end = each_leads h k (renaming_to (images script rs) under ended) (renaming_to (images script rs) above over) (renaming_leads h k (images script rs) under ended above over same end)

  -- what is made of targets of the whole, of the left side and of the right side
  module _ (h k j : X → Y) (below : Sides X) (above : Sides Y) where
    pub record Agree : Type 0 where
      pub on_left : (t : X) → h (below.on_left t) ≡ above.on_left (k t)
      pub on_right : (u : X) → h (below.on_right u) ≡ above.on_right (j u)
      pub together : (t u : X) → h (below.together t u) ≡ above.together (k t) (j u)
      pub left_ended : h below.left_ended ≡ above.left_ended
      pub right_ended : h below.right_ended ≡ above.right_ended

    module _ (agree : Agree) where
      jointly_lead : (shared : Event → Bool) (x : Action) (t : X) (y : Action) (u : X) → leading_to h (jointly shared below.together x t y u) ≡ jointly shared above.together x (k t) y (j u)
      jointly_lead shared (Ev e) t (Ev f) u = by_test (event_eq e f && shared e)
        where
          by_test : (b : Bool) → leading_to h (cond b ((Ev e, below.together t u) ∷ []) []) ≡ cond b ((Ev e, above.together (k t) (j u)) ∷ []) []
          by_test true = ap (λ (v : Y). (Ev e, v) ∷ []) (agree.together t u)
          by_test false = refl
      jointly_lead shared (Ev e) t Tau u = refl
      jointly_lead shared (Ev e) t Tick u = refl
      jointly_lead shared Tau t y u = refl
      jointly_lead shared Tick t y u = refl

      pub composed_lead : (script : Script) (c : Composition) (ls rs ends : StepsTo X) →
          leading_to h (composed_steps script c below ls rs ends) ≡ composed_steps script c above (leading_to k ls) (leading_to j rs) (leading_to h ends)
      composed_lead script c ls rs ends =
          let free = is_left_free script c in
          let right_free = is_right_free script c in
          let shared = is_shared script c in
          let one : Action × X → Action × Y = λ s. (s.0, h s.1) in
          let lefts = each_to (alone free below.on_left below.left_ended) ls in
          let rights = each_to (alone right_free below.on_right below.right_ended) rs in
          let both : Action → X → StepsTo X = λ x t. each_to (jointly shared below.together x t) rs in
          map-append one lefts (rights ++ (each_to both ls ++ ends))
          ∙ ap₂ (λ (ys : StepsTo Y) (bs : StepsTo Y). ys ++ bs)
          (each_leads h k (alone free below.on_left below.left_ended) (alone free above.on_left above.left_ended) (alone_leads h k free below.on_left below.left_ended above.on_left above.left_ended agree.on_left agree.left_ended) ls)
          (map-append one rights (each_to both ls ++ ends)
          ∙ ap₂ (λ (ys : StepsTo Y) (bs : StepsTo Y). ys ++ bs)
          (each_leads h j (alone right_free below.on_right below.right_ended) (alone right_free above.on_right above.right_ended) (alone_leads h j right_free below.on_right below.right_ended above.on_right above.right_ended agree.on_right agree.right_ended) rs)
          (map-append one (each_to both ls) ends
          ∙ ap (λ (ys : StepsTo Y). ys ++ leading_to h ends)
          (each_leads h k both (λ x t. each_to (jointly shared above.together x t) (leading_to j rs)) (λ x t. each_leads h j (jointly shared below.together x t) (jointly shared above.together x (k t)) (jointly_lead shared x t) rs) ls)))
