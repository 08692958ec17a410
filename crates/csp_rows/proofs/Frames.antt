-- What steps by numbers are in a frame.
use Rattle.std.proofs.Common.{◌≡◌, ◌++◌, ◌<◌, ◌≤◌, ℕ, ◌+◌, ◌-◌, Bool, true, false, cond, List, [], ◌∷◌, length, get_or, set, map, take, drop, Option, None, refl, sym, ap, ap₂, subst, ◌∙◌, append_assoc, arith}
use Rattle.std.proofs.lemmas.List.{map-append, append-nil, drop_all, drop_at, drop_more, get_or_at, length-append, length-map, length-take-le, map_more, set_at, take-append-drop, take-append-le, take_all, take_more, take_rest}
use Rattle.std.specs.List.{AllByRecursion}
use Rattle.std.specs.declared.vec.Vec.{Vec}
use Rattle.theory_syntax.specs.Value.{Event, Tau, Ev}
use Rattle.theory_syntax.specs.Process.{Script}
use Rattle.theory_semantics.specs.Meaning.Events.{has_event, images}
use Rattle.theory_shapes.specs.Shape as pure
use Rattle.theory_shapes.specs.Combining.{StepsTo, each_to, framed_steps, hiding, renaming_to, to_each_image}
use Rattle.theory_shapes.proofs.Segments.{all_append}
use Rattle.csp_rows.specs.declared.changes.Change.{Change}
use Rattle.csp_rows.specs.declared.changes.Run.{Run}
use Rattle.csp_rows.specs.declared.bits.Bits.{Bits}
use Rattle.csp_rows.specs.declared.framed.Images.{Images}
use Rattle.csp_rows.specs.declared.framed.Frame.TheVariants as frame
use Rattle.csp_rows.specs.declared.numbers.ActionId.{ActionId}
use Rattle.csp_rows.specs.declared.numbers.ActionId.TheVariants as by_number
use Rattle.csp_rows.specs.declared.numbers.EventId.{EventId}
use Rattle.csp_rows.specs.declared.stack.Places.{Places}
use Rattle.csp_rows.specs.declared.step.Step.{Step}
use Rattle.csp_rows.specs.Stacks.{IsOnTop, between}
use Rattle.csp_rows.specs.Numbering.{AreBitsOf, IsNumbered, Numbering, action_at}
use Rattle.csp_rows.specs.Runs.{AreNumbered, AreToldIn, IsToldIn, Told, step_of, steps_of, told_of}
use Rattle.csp_rows.proofs.Stacks.{long_between, read_between}
use Rattle.csp_rows.specs.Framed.{AreImagesOf, IsFrameOf, IsFramed, hidden_action, hidden_step, image_steps, images_at, renamed_action, renamed_step, renamed_steps}

-- ---- hiding

hidden_in : (n : ℕ) (bits : List Bool) (ss : List Step) → AreToldIn n ss → AreToldIn n (map (hidden_step bits) ss)
hidden_in n bits [] all = tt
hidden_in n bits (s ∷ ss) all = (one s.action s.changes all.0, hidden_in n bits ss all.1)
  where
    one : (a : ActionId) (o : Option Run) → IsToldIn n o → IsToldIn n (hidden_action bits a o).changes
    one by_number.Tau o is = is
    one by_number.Tick o is = tt
    one (by_number.Event e) o is = is

seen_numbered : (events : ℕ) (b : Bool) (e : EventId) → e.0 < events → IsNumbered events (cond b by_number.Tau (by_number.Event e))
seen_numbered events true e lt = tt
seen_numbered events false e lt = lt

hidden_numbered : (events : ℕ) (bits : List Bool) (ss : List Step) → AreNumbered events ss → AreNumbered events (map (hidden_step bits) ss)
hidden_numbered events bits [] all = tt
hidden_numbered events bits (s ∷ ss) all = (one s.action s.changes all.0, hidden_numbered events bits ss all.1)
  where
    one : (a : ActionId) (o : Option Run) → IsNumbered events a → IsNumbered events (hidden_action bits a o).action
    one by_number.Tau o is = tt
    one by_number.Tick o is = tt
    one (by_number.Event e) o is = seen_numbered events (get_or bits e.0 false) e is

module _ (z : Numbering) (pool : List Change) where
  seen : (b : Bool) (e : EventId) (t : Told) → ◌≡◌ {A = StepsTo Told} ((action_at z (cond b by_number.Tau (by_number.Event e)), t) ∷ []) (cond b ((Tau, t) ∷ []) ((Ev (z.event e.0), t) ∷ []))
  seen true e t = refl
  seen false e t = refl

  hidden_told : (test : Event → Bool) (bits : List Bool) (ss : List Step) → AreBitsOf z test bits → AreNumbered z.events ss → steps_of z pool (map (hidden_step bits) ss) ≡ each_to (hiding test (λ o. o) None) (steps_of z pool ss)
  hidden_told test bits [] are all = refl
  hidden_told test bits (s ∷ ss) are all = ap₂ (λ (xs : StepsTo Told) (ys : StepsTo Told). xs ++ ys) (one s.action s.changes all.0) (hidden_told test bits ss are all.1)
    where
      one : (a : ActionId) (o : Option Run) → IsNumbered z.events a → step_of z pool (hidden_action bits a o) ∷ [] ≡ hiding test (λ o. o) None (action_at z a) (told_of z pool o)
      one by_number.Tau o is = refl
      one by_number.Tick o is = refl
      one (by_number.Event e) o is =
          let t = told_of z pool o in
          let as_seen : Bool → StepsTo Told = λ b. cond b ((Tau, t) ∷ []) ((Ev (z.event e.0), t) ∷ []) in
          seen (get_or bits e.0 false) e t ∙ ap as_seen (sym (are e.0 is))

-- ---- renaming

images_in : (n : ℕ) (o : Option Run) (es : List EventId) → IsToldIn n o → AreToldIn n (image_steps o es)
images_in n o [] is = tt
images_in n o (e ∷ es) is = (is, images_in n o es is)

images_numbered : (events : ℕ) (o : Option Run) (es : List EventId) → AllByRecursion (λ e. e.0 < events) es → AreNumbered events (image_steps o es)
images_numbered events o [] all = tt
images_numbered events o (e ∷ es) all = (all.0, images_numbered events o es all.1)

renamed_in : {A : Type 0} (n : ℕ) (by : List (Vec EventId A)) (ss : List Step) → AreToldIn n ss → AreToldIn n (renamed_steps by ss)
renamed_in n by [] all = tt
renamed_in n by (s ∷ ss) all = all_append (λ s. IsToldIn n s.changes) (renamed_step by s) (renamed_steps by ss) (one s.action s.changes all.0) (renamed_in n by ss all.1)
  where
    one : (a : ActionId) (o : Option Run) → IsToldIn n o → AreToldIn n (renamed_action by a o)
    one by_number.Tau o is = (is, tt)
    one by_number.Tick o is = (tt, tt)
    one (by_number.Event e) o is = images_in n o (images_at by e.0) is

module _ {A : Type 0} (z : Numbering) (rename : Event → List Event) (by : List (Vec EventId A)) (are : AreImagesOf z rename by) where
  renamed_numbered : (ss : List Step) → AreNumbered z.events ss → AreNumbered z.events (renamed_steps by ss)
  renamed_numbered [] all = tt
  renamed_numbered (s ∷ ss) all = all_append (λ s. IsNumbered z.events s.action) (renamed_step by s) (renamed_steps by ss) (one s.action s.changes all.0) (renamed_numbered ss all.1)
    where
      one : (a : ActionId) (o : Option Run) → IsNumbered z.events a → AreNumbered z.events (renamed_action by a o)
      one by_number.Tau o is = (tt, tt)
      one by_number.Tick o is = (tt, tt)
      one (by_number.Event e) o is = images_numbered z.events o (images_at by e.0) (are e.0 is).numbered

  images_told : (pool : List Change) (o : Option Run) (es : List EventId) → steps_of z pool (image_steps o es) ≡ to_each_image (told_of z pool o) (map (λ e. z.event e.0) es)
  images_told pool o [] = refl
  images_told pool o (e ∷ es) = ap (λ (ys : StepsTo Told). (Ev (z.event e.0), told_of z pool o) ∷ ys) (images_told pool o es)

  renamed_told : (pool : List Change) (ss : List Step) → AreNumbered z.events ss → steps_of z pool (renamed_steps by ss) ≡ each_to (renaming_to rename (λ o. o) None) (steps_of z pool ss)
  renamed_told pool [] all = refl
  renamed_told pool (s ∷ ss) all = map-append (step_of z pool) (renamed_step by s) (renamed_steps by ss) ∙ ap₂ (λ (xs : StepsTo Told) (ys : StepsTo Told). xs ++ ys) (one s.action s.changes all.0) (renamed_told pool ss all.1)
    where
      one : (a : ActionId) (o : Option Run) → IsNumbered z.events a → steps_of z pool (renamed_action by a o) ≡ renaming_to rename (λ o. o) None (action_at z a) (told_of z pool o)
      one by_number.Tau o is = refl
      one by_number.Tick o is = refl
      one (by_number.Event e) o is = images_told pool o (images_at by e.0) ∙ ap (to_each_image (told_of z pool o)) (sym (are e.0 is).same)

renamed_behind : {A : Type 0} (by : List (Vec EventId A)) (ss : List Step) (s : Step) → renamed_steps by (ss ++ s ∷ []) ≡ renamed_steps by ss ++ renamed_step by s
renamed_behind by [] s = append-nil (renamed_step by s)
renamed_behind by (z ∷ zs) s = ap (λ (ys : List Step). renamed_step by z ++ ys) (renamed_behind by zs s) ∙ sym (append_assoc (renamed_step by z) (renamed_steps by zs) (renamed_step by s))

-- one more step that is renamed
renamed_more : {A : Type 0} (by : List (Vec EventId A)) (side : List Step) (i : ℕ) (d : Step) → i < length side → renamed_steps by (take (i + 1) side) ≡ renamed_steps by (take i side) ++ renamed_step by (get_or side i d)
renamed_more by side i d lt = ap (renamed_steps by) (take_more side i d lt) ∙ renamed_behind by (take i side) (get_or side i d)

-- ---- the loops

-- The steps before k are hidden, each in its place, and those from there on are as they were.
pub record HiddenUpTo (hide : Step → Step) (old now : List Step) (p : Places) (k : ℕ) : Type 0 where
  pub on : p.from ≤ k
  pub items : now ≡ take p.from old ++ (map hide (take (k - p.from) (between p old)) ++ drop k old)

pub hidden_first : (hide : Step → Step) (old : List Step) (p : Places) → HiddenUpTo hide old old p p.from
hidden_first hide old p =
    let none : p.from - p.from ≡ 0 = omega arith in
    record { on = omega arith; items = sym (take-append-drop p.from old) ∙ ap (λ (i : ℕ). take p.from old ++ (map hide (take i (between p old)) ++ drop p.from old)) (sym none) }

module _ (hide : Step → Step) (old now : List Step) (p : Places) (k : ℕ) (so_far : HiddenUpTo hide old now p k) (within : p.to ≤ length old) where
  pub hidden_next : (d s : Step) → k < p.to → s ≡ get_or now k d → HiddenUpTo hide old (set now k (hide s)) p (k + 1)
  hidden_next d s before read =
      let on = so_far.on in
      let xs = between p old in
      let i = k - p.from in
      let up = take p.from old ++ map hide (take i xs) in
      let x = get_or old k d in
      let rest = drop (k + 1) old in
      let long = long_between p old (omega (arith, on, before), within) in
      let reach : length up ≡ k =
      length-append (take p.from old) (map hide (take i xs)) ∙ ap₂ (λ (n : ℕ) (m : ℕ). n + m) (length-take-le p.from old (omega (arith, on, before, within)))
      (length-map (take i xs) hide ∙ length-take-le i xs (omega (arith, long, on, before)))
      ∙ omega (arith, on)
      in
      let is : now ≡ up ++ x ∷ rest =
      so_far.items ∙ sym (append_assoc (take p.from old) (map hide (take i xs)) (drop k old)) ∙ ap (λ (ys : List Step). up ++ ys) (drop_more old k d (omega (arith, before, within)))
      in
      let same : s ≡ x = read ∙ ap (λ (ys : List Step). get_or ys k d) is ∙ get_or_at up x rest d k reach in
      let at : s ≡ get_or xs i d = read_between p old [] old k d s on before within (sym (append-nil old)) same in
      let step : k + 1 - p.from ≡ i + 1 = omega (arith, on) in
      let more : map hide (take (k + 1 - p.from) xs) ≡ map hide (take i xs) ++ hide s ∷ [] =
      ap (λ (j : ℕ). map hide (take j xs)) step ∙ map_more hide xs i d (omega (arith, long, on, before)) ∙ ap (λ (y : Step). map hide (take i xs) ++ hide y ∷ []) (sym at)
      in
      record {
        on = omega (arith, on);
        items =
            ap (λ (ys : List Step). set ys k (hide s)) is ∙ set_at up x rest (hide s) k reach ∙ append_assoc (take p.from old) (map hide (take i xs)) (hide s ∷ rest)
            ∙ ap (λ (ys : List Step). take p.from old ++ ys) (sym (append_assoc (map hide (take i xs)) (hide s ∷ []) rest) ∙ ap (λ (ys : List Step). ys ++ rest) (sym more));
      }

  pub hidden_all : p.to ≤ k → k ≤ p.to → now ≡ take p.from old ++ (map hide (between p old) ++ drop p.to old)
  hidden_all past until =
      let on = so_far.on in
      let end : k ≡ p.to = omega (arith, past, until) in
      let long = long_between p old (omega (arith, on, until), within) in
      so_far.items
      ∙ ap₂ (λ (ys : List Step) (zs : List Step). take p.from old ++ (map hide ys ++ zs)) (take_all (k - p.from) (between p old) (omega (arith, long, past))) (ap (λ (j : ℕ). drop j old) end)

-- What the steps before k are renamed to stands on top.
pub record RenamedUpTo {A : Type 0} (by : List (Vec EventId A)) (old now : List Step) (p : Places) (k : ℕ) : Type 0 where
  pub on : p.from ≤ k
  pub items : now ≡ old ++ renamed_steps by (take (k - p.from) (between p old))

pub renamed_first : {A : Type 0} (by : List (Vec EventId A)) (old : List Step) (p : Places) → RenamedUpTo by old old p p.from
renamed_first by old p =
    let none : p.from - p.from ≡ 0 = omega arith in
    record { on = omega arith; items = sym (append-nil old) ∙ ap (λ (i : ℕ). old ++ renamed_steps by (take i (between p old))) (sym none) }

module _ {A : Type 0} (by : List (Vec EventId A)) (old now : List Step) (p : Places) (k : ℕ) (so_far : RenamedUpTo by old now p k) (within : p.to ≤ length old) where
  pub renamed_next : (new : List Step) (d s : Step) → k < p.to → s ≡ get_or now k d → new ≡ now ++ renamed_step by s → RenamedUpTo by old new p (k + 1)
  renamed_next new d s before read pushed =
      let on = so_far.on in
      let xs = between p old in
      let i = k - p.from in
      let up = renamed_steps by (take i xs) in
      let long = long_between p old (omega (arith, on, before), within) in
      let at : s ≡ get_or xs i d = read_between p old up now k d s on before within so_far.items read in
      let step : k + 1 - p.from ≡ i + 1 = omega (arith, on) in
      let more : renamed_steps by (take (k + 1 - p.from) xs) ≡ up ++ renamed_step by s =
      ap (λ (j : ℕ). renamed_steps by (take j xs)) step ∙ renamed_more by xs i d (omega (arith, long, on, before)) ∙ ap (λ (y : Step). up ++ renamed_step by y) (sym at)
      in
      record {
        on = omega (arith, on);
        items = pushed ∙ ap (λ (ys : List Step). ys ++ renamed_step by s) so_far.items ∙ append_assoc old up (renamed_step by s) ∙ ap (λ (ys : List Step). old ++ ys) (sym more);
      }

  -- what they were before is let go
  pub renamed_all : (new : List Step) → p.to ≤ k → k ≤ p.to → p.to ≡ length old → new ≡ take p.from now ++ drop p.to now → new ≡ take p.from old ++ renamed_steps by (between p old)
  renamed_all new past until top gone =
      let on = so_far.on in
      let long = long_between p old (omega (arith, on, until), within) in
      let is : now ≡ old ++ renamed_steps by (between p old) = so_far.items ∙ ap (λ (ys : List Step). old ++ renamed_steps by ys) (take_all (k - p.from) (between p old) (omega (arith, long, past))) in
      gone
      ∙ ap₂ (λ (xs : List Step) (ys : List Step). xs ++ ys) (ap (take p.from) is ∙ take-append-le p.from old (renamed_steps by (between p old)) (omega (arith, on, until, within)))
      (ap (drop p.to) is ∙ drop_at old (renamed_steps by (between p old)) p.to (sym top))

-- ---- frames

pub framed_hidden : {A : Type 0} (bits : Bits A) (body steps : List Step) → steps ≡ map (hidden_step bits.marks.items) body → IsFramed (frame.Hidden bits) body steps
framed_hidden bits body steps is = record {
  inside = λ n all. subst (AreToldIn n) (sym is) (hidden_in n bits.marks.items body all);
  numbered = λ z script f are all. subst (AreNumbered z.events) (sym is) (hidden_numbered z.events bits.marks.items body all);
  made = λ z script f pool are all. ap (map (step_of z pool)) is ∙ by_frame z script f pool are all;
}
  where
    by_frame : (z : Numbering) (script : Script) (f : pure.Frame) (pool : List Change) → IsFrameOf z script f (frame.Hidden bits) → AreNumbered z.events body →
        steps_of z pool (map (hidden_step bits.marks.items) body) ≡ framed_steps script f (λ o. o) None (steps_of z pool body)
    by_frame z script (pure.Hidden a) pool are all = hidden_told z pool (has_event script a) bits.marks.items body are all
    by_frame z script (pure.Renamed rs) pool are all = absurd are

pub framed_renamed : {A : Type 0} (by : Images A) (body steps : List Step) → steps ≡ renamed_steps by.images.items body → IsFramed (frame.Renamed by) body steps
framed_renamed by body steps is = record {
  inside = λ n all. subst (AreToldIn n) (sym is) (renamed_in n by.images.items body all);
  numbered = λ z script f are all. subst (AreNumbered z.events) (sym is) (numbered_by z script f are all);
  made = λ z script f pool are all. ap (map (step_of z pool)) is ∙ by_frame z script f pool are all;
}
  where
    numbered_by : (z : Numbering) (script : Script) (f : pure.Frame) → IsFrameOf z script f (frame.Renamed by) → AreNumbered z.events body → AreNumbered z.events (renamed_steps by.images.items body)
    numbered_by z script (pure.Hidden a) are all = absurd are
    numbered_by z script (pure.Renamed rs) are all = renamed_numbered z (images script rs) by.images.items are body all

    by_frame : (z : Numbering) (script : Script) (f : pure.Frame) (pool : List Change) → IsFrameOf z script f (frame.Renamed by) → AreNumbered z.events body →
        steps_of z pool (renamed_steps by.images.items body) ≡ framed_steps script f (λ o. o) None (steps_of z pool body)
    by_frame z script (pure.Hidden a) pool are all = absurd are
    by_frame z script (pure.Renamed rs) pool are all = renamed_told z (images script rs) by.images.items are pool body all

-- ---- frames on a stack

module _ (old new : List Step) (p : Places) (top : p.to ≡ length old) where
  all_between : between p old ≡ drop p.from old
  all_between = ap (λ (n : ℕ). take (n - p.from) (drop p.from old)) top ∙ take_rest old p.from

  pub hidden_on_top : {A : Type 0} (bits : Bits A) → new ≡ take p.from old ++ (map (hidden_step bits.marks.items) (between p old) ++ drop p.to old) → IsOnTop (take p.from old) (IsFramed (frame.Hidden bits) (drop p.from old)) new
  hidden_on_top bits is =
      let body = drop p.from old in
      let made = map (hidden_step bits.marks.items) body in (
        made,
        is ∙ ap₂ (λ (xs : List Step) (ys : List Step). take p.from old ++ (map (hidden_step bits.marks.items) xs ++ ys)) all_between (drop_all p.to old (omega (arith, top))) ∙ ap (λ (ys : List Step). take p.from old ++ ys) (append-nil made),
        framed_hidden bits body made refl,
      )

  pub renamed_on_top : {A : Type 0} (by : Images A) → new ≡ take p.from old ++ renamed_steps by.images.items (between p old) → IsOnTop (take p.from old) (IsFramed (frame.Renamed by) (drop p.from old)) new
  renamed_on_top by is =
      let body = drop p.from old in
      let made = renamed_steps by.images.items body in
      (made, is ∙ ap (λ (xs : List Step). take p.from old ++ renamed_steps by.images.items xs) all_between, framed_renamed by body made refl)
