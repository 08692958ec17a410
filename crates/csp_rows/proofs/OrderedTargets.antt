-- What changes make of parts is ordered by the changes, from the left.
use Rattle.std.proofs.Common.{◌≡◌, ℕ, ◌<◌, ◌≤◌, suc, List, [], ◌∷◌, length, refl, sym, ap₂, subst, ◌∙◌, arith}
use Rattle.std.specs.declared.cmp.Ordering.TheVariants.{Equal}
use Rattle.std.specs.Ordering.{ordering_then}
use Rattle.theory_syntax.specs.Order.{process_cmp}
use Rattle.theory_syntax.specs.Process.{Process, Stop}
use Rattle.theory_syntax.proofs.ProcessOrder.{process_refl}
use Rattle.theory_shapes.specs.Changes.{Change, RiseWithin, changed}
use Rattle.theory_shapes.specs.Shape.{Shape, fill, holes, part_at}
use Rattle.theory_shapes.proofs.Changing.{changed_count, first_changed, first_leaves, rise_on, stays_before}
use Rattle.csp_rows.specs.OrderedTargets.{targets_cmp}
use Rattle.csp_rows.proofs.Filled.{filled_cmp}
use Rattle.csp_rows.proofs.Slices.{first_decide, slice_itself}

pub targets_whole : (s : Shape) (parts : List Process) (cs ds : List Change) → length parts ≡ holes s → process_cmp (fill s (changed cs parts)) (fill s (changed ds parts)) ≡ targets_cmp parts cs ds
targets_whole s parts cs ds long = filled_cmp s (changed cs parts) (changed_count cs parts ∙ long) (changed ds parts) (changed_count ds parts ∙ long)

pub targets_same : (parts : List Process) (cs : List Change) → targets_cmp parts cs cs ≡ Equal
targets_same parts cs = slice_itself process_cmp process_refl (changed cs parts)

module _ (parts : List Process) where
  abbrev m : ℕ
  m = length parts

  -- The parts in a hole decide, where nothing before it is changed, and else the changes behind it.
  at_hole : (h : ℕ) (xs ys us vs : List Change) (p q : Process) → h < m → RiseWithin h m xs → RiseWithin h m ys → RiseWithin (suc h) m us → RiseWithin (suc h) m vs
      → part_at (changed xs parts) h ≡ p → part_at (changed ys parts) h ≡ q
      → ((i : ℕ) → h < i → part_at (changed xs parts) i ≡ part_at (changed us parts) i) → ((i : ℕ) → h < i → part_at (changed ys parts) i ≡ part_at (changed vs parts) i)
      → targets_cmp parts xs ys ≡ ordering_then (process_cmp p q) (targets_cmp parts us vs)
  at_hole h xs ys us vs p q within rx ry ru rv at_x at_y left right =
      first_decide process_cmp process_refl Stop h (changed xs parts) (changed ys parts) (changed us parts) (changed vs parts) (omega (arith, within, changed_count xs parts))
      (changed_count xs parts ∙ sym (changed_count ys parts)) (changed_count xs parts ∙ sym (changed_count us parts)) (changed_count xs parts ∙ sym (changed_count vs parts))
      (λ i lt. stays_before h m xs parts i rx lt ∙ sym (stays_before h m ys parts i ry lt)) (λ i le. stays_before (suc h) m us parts i ru (omega (arith, le)) ∙ sym (stays_before (suc h) m vs parts i rv (omega (arith, le)))) left right
      ∙ ap₂ (λ (a b : Process). ordering_then (process_cmp a b) (targets_cmp parts us vs)) at_x at_y

  lower : (n k : ℕ) (cs : List Change) → n ≤ k → RiseWithin k m cs → RiseWithin n m cs
  lower n k [] le rise = omega (arith, le, rise)
  lower n k (c ∷ cs) le rise = (omega (arith, le, rise.0), rise.1)

  from_first : (n : ℕ) (c : Change) (cs : List Change) → RiseWithin n m (c ∷ cs) → RiseWithin c.hole m (c ∷ cs)
  from_first n c cs rise = (omega arith, rise.1)

  in_range : (c : Change) (cs : List Change) → RiseWithin (suc c.hole) m cs → c.hole < m
  in_range c cs rise = let on = rise_on (suc c.hole) m cs rise in omega (arith, on)

  pub left_first : (n : ℕ) (c : Change) (cs ds : List Change) → RiseWithin n m (c ∷ cs) → RiseWithin (suc c.hole) m ds → targets_cmp parts (c ∷ cs) ds ≡ ordering_then (process_cmp c.part (part_at parts c.hole)) (targets_cmp parts cs ds)
  left_first n c cs ds rise behind =
      let h = c.hole in
      let within = in_range c cs rise.1 in
      at_hole h (c ∷ cs) ds cs ds c.part (part_at parts h) within (from_first n c cs rise) (lower h (suc h) ds (omega arith) behind) rise.1 behind (first_changed c m cs parts within rise.1)
      (stays_before (suc h) m ds parts h behind (omega arith)) (λ i lt. first_leaves c cs parts i lt) (λ i lt. refl)

  pub right_first : (n : ℕ) (d : Change) (cs ds : List Change) → RiseWithin n m (d ∷ ds) → RiseWithin (suc d.hole) m cs → targets_cmp parts cs (d ∷ ds) ≡ ordering_then (process_cmp (part_at parts d.hole) d.part) (targets_cmp parts cs ds)
  right_first n d cs ds rise behind =
      let h = d.hole in
      let within = in_range d ds rise.1 in
      at_hole h cs (d ∷ ds) cs ds (part_at parts h) d.part within (lower h (suc h) cs (omega arith) behind) (from_first n d ds rise) behind rise.1 (stays_before (suc h) m cs parts h behind (omega arith))
      (first_changed d m ds parts within rise.1) (λ i lt. refl) (λ i lt. first_leaves d ds parts i lt)

  pub both_first : (n k : ℕ) (c d : Change) (cs ds : List Change) → c.hole ≡ d.hole → RiseWithin n m (c ∷ cs) → RiseWithin k m (d ∷ ds) → targets_cmp parts (c ∷ cs) (d ∷ ds) ≡ ordering_then (process_cmp c.part d.part) (targets_cmp parts cs ds)
  both_first n k c d cs ds same rise also =
      let h = c.hole in
      let within = in_range c cs rise.1 in
      let on : RiseWithin (suc h) m ds = subst (λ (i : ℕ). RiseWithin (suc i) m ds) (sym same) also.1 in
      at_hole h (c ∷ cs) (d ∷ ds) cs ds c.part d.part within (from_first n c cs rise) (omega (arith, same), also.1) rise.1 on (first_changed c m cs parts within rise.1)
      (subst (λ (i : ℕ). part_at (changed (d ∷ ds) parts) i ≡ d.part) (sym same) (first_changed d m ds parts (in_range d ds also.1) also.1)) (λ i lt. first_leaves c cs parts i lt)
      (λ i lt. first_leaves d ds parts i (omega (arith, lt, same)))
