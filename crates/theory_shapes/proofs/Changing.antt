-- Parts that take the places of others.
use Rattle.std.proofs.Common.{◌≡◌, ◌≢◌, ℕ, ◌≤◌, ◌<◌, suc, List, [], ◌∷◌, length, set, refl, sym, subst, ◌∙◌, ◌⊎◌, inl, inr, arith}
use Rattle.std.proofs.lemmas.Bool.{cases_lt}
use Rattle.std.proofs.lemmas.List.{get_or-set_same, get_or-set_other, get_or_past, length-set}
use Rattle.theory_syntax.specs.Process.{Process, Stop}
use Rattle.theory_shapes.specs.Shape.{part_at}
use Rattle.theory_shapes.specs.Changes.{Change, RiseWithin, changed}

pub changed_count : (cs : List Change) (parts : List Process) → length (changed cs parts) ≡ length parts
changed_count [] parts = refl
changed_count (c ∷ cs) parts = changed_count cs (set parts c.hole c.part) ∙ length-set parts c.hole c.part

-- a part in a hole before the changes stays
pub stays_before : (n m : ℕ) (cs : List Change) (parts : List Process) (i : ℕ) → RiseWithin n m cs → i < n → part_at (changed cs parts) i ≡ part_at parts i
stays_before n m [] parts i rise before = refl
stays_before n m (c ∷ cs) parts i rise before =
    stays_before (suc c.hole) m cs (set parts c.hole c.part) i rise.1 (omega (arith, before, rise.0))
    ∙ get_or-set_other parts c.hole i c.part Stop (λ e. omega (arith, e, before, rise.0))

-- changes go no farther than they may
pub rise_on : (n m : ℕ) (cs : List Change) → RiseWithin n m cs → n ≤ m
rise_on n m [] rise = rise
rise_on n m (c ∷ cs) rise = let e = rise_on (suc c.hole) m cs rise.1 in omega (arith, e, rise.0)

-- so does one behind them
pub stays_behind : (n m : ℕ) (cs : List Change) (parts : List Process) (i : ℕ) → RiseWithin n m cs → m ≤ i → part_at (changed cs parts) i ≡ part_at parts i
stays_behind n m [] parts i rise behind = refl
stays_behind n m (c ∷ cs) parts i rise behind =
    let on = rise_on (suc c.hole) m cs rise.1 in
    stays_behind (suc c.hole) m cs (set parts c.hole c.part) i rise.1 behind ∙ get_or-set_other parts c.hole i c.part Stop (λ e. omega (arith, e, on, behind))

-- where two lists of parts have the same part, they have it after the changes
pub changed_alike : (cs : List Change) (ps qs : List Process) (i : ℕ) → length ps ≡ length qs → part_at ps i ≡ part_at qs i → part_at (changed cs ps) i ≡ part_at (changed cs qs) i
changed_alike [] ps qs i long same = same
changed_alike (c ∷ cs) ps qs i long same =
    changed_alike cs (set ps c.hole c.part) (set qs c.hole c.part) i (length-set ps c.hole c.part ∙ long ∙ sym (length-set qs c.hole c.part)) (by_place (cases_lt i c.hole) (cases_lt c.hole i) (cases_lt c.hole (length ps)))
  where
    other : i ≢ c.hole → part_at (set ps c.hole c.part) i ≡ part_at (set qs c.hole c.part) i
    other away = get_or-set_other ps c.hole i c.part Stop away ∙ same ∙ sym (get_or-set_other qs c.hole i c.part Stop away)

    at_hole : i ≡ c.hole → c.hole < length ps → part_at (set ps c.hole c.part) i ≡ part_at (set qs c.hole c.part) i
    at_hole at within =
        subst (λ (k : ℕ). part_at (set ps c.hole c.part) k ≡ part_at (set qs c.hole c.part) k) (sym at)
        (get_or-set_same ps c.hole c.part Stop within ∙ sym (get_or-set_same qs c.hole c.part Stop (omega (arith, within, long))))

    past : length ps ≤ i → part_at (set ps c.hole c.part) i ≡ part_at (set qs c.hole c.part) i
    past beyond =
        get_or_past (set ps c.hole c.part) i Stop (omega (arith, beyond, length-set ps c.hole c.part))
        ∙ sym (get_or_past (set qs c.hole c.part) i Stop (omega (arith, beyond, long, length-set qs c.hole c.part)))

    by_place : (i < c.hole) ⊎ (c.hole ≤ i) → (c.hole < i) ⊎ (i ≤ c.hole) → (c.hole < length ps) ⊎ (length ps ≤ c.hole) → part_at (set ps c.hole c.part) i ≡ part_at (set qs c.hole c.part) i
    by_place (inl before) two three = other (λ e. omega (arith, before, e))
    by_place (inr one) (inl behind) three = other (λ e. omega (arith, behind, e))
    by_place (inr one) (inr two) (inl within) = at_hole (omega (arith, one, two)) within
    by_place (inr one) (inr two) (inr beyond) = past (omega (arith, one, two, beyond))

-- the first change puts its part in
pub first_changed : (c : Change) (m : ℕ) (cs : List Change) (parts : List Process) → c.hole < length parts → RiseWithin (suc c.hole) m cs → part_at (changed (c ∷ cs) parts) c.hole ≡ c.part
first_changed c m cs parts within rise =
    stays_before (suc c.hole) m cs (set parts c.hole c.part) c.hole rise (omega arith) ∙ get_or-set_same parts c.hole c.part Stop within

-- it does not touch what is behind it
pub first_leaves : (c : Change) (cs : List Change) (parts : List Process) (i : ℕ) → c.hole < i → part_at (changed (c ∷ cs) parts) i ≡ part_at (changed cs parts) i
first_leaves c cs parts i behind =
    changed_alike cs (set parts c.hole c.part) parts i (length-set parts c.hole c.part) (get_or-set_other parts c.hole i c.part Stop (λ e. omega (arith, e, behind)))
