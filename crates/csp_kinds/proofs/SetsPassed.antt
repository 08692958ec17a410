-- The declarations of sets that the walk passes, and the one at which it stops.
use Rattle.std.proofs.Common.{◌≡◌, ◌≢◌, ◌+◌, ℕ, ◌≤◌, true, List, [], ◌∷◌, ◌++◌, length, take, Option, Some, None, Err, refl, sym, ap, ◌∙◌, subst, arith}
use Rattle.std.proofs.lemmas.List.{take-append-le, take_all}
use Rattle.theory_text.specs.Raw.{RawDeclaration, RawScript}
use Rattle.theory_checking.specs.Sets.{behind_each, in_order}
use Rattle.theory_checking.specs.Sites.{Site, in_declaration, sites}
use Rattle.theory_checking.specs.Walks.{AllFine}
use Rattle.theory_checking.proofs.Resolving.{fine_left}
use Rattle.theory_checking.proofs.ScriptThere.{behind-append}
use Rattle.theory_checking.proofs.Walking.{stopped_in_declaration, stopped_is_not_fine}
use Rattle.csp_names.specs.declared.refusals.Refused.{Refused}
use Rattle.csp_names.specs.declared.refusals.Refused.TheVariants as refused
use Rattle.csp_names.specs.Walks.{Stops}
use Rattle.csp_kinds.specs.declared.sets.RefusedSet.{RefusedSet}
use Rattle.csp_kinds.specs.declared.sets.Sets.{Sets}
use Rattle.csp_kinds.specs.Sets.{AreSetsOf, AreUnrefused, IsFirstRefusedSet, IsSetRefusal, declares_sets}
use Rattle.csp_kinds.specs.Refusals.{PassesSets}

-- The first declaration of sets that is refused stands behind so many others, if there is one.
abbrev pub IsNotAbove : Option RefusedSet → ℕ → Type 0
IsNotAbove first n = (set : RefusedSet) → first ≡ Some set → n ≤ set.declaration

pub none_above : (first : Option RefusedSet) → IsNotAbove first 0
none_above first set is = omega arith

pub not_above_next : (first : Option RefusedSet) (n : ℕ) → IsNotAbove first n → ((set : RefusedSet) → first ≡ Some set → set.declaration ≢ n) → IsNotAbove first (n + 1)
not_above_next first n h passed set is = let here = h set is in let other = passed set is in omega (arith, here, other)

-- a declaration above the refused one is fine
pub passed_sets_fine : {A : Type 0} (raw above below : RawScript) (d : RawDeclaration) (sets : Sets A) → AreSetsOf raw sets → raw ≡ above ++ d ∷ below → declares_sets d ≡ true → IsNotAbove sets.refused (length above + 1) → AllFine (in_declaration raw above d)
passed_sets_fine raw above below d sets are stands declares above_it = go sets.refused are.refusal above_it
  where
    go : (first : Option RefusedSet) → IsSetRefusal raw sets first → IsNotAbove first (length above + 1) → AllFine (in_declaration raw above d)
    go None h k = h.fine above d below stands declares
    go (Some set) h k = let less = k set refl in h.fine_above above d below stands declares (omega (arith, less))

-- at the refused one, where all above it is fine
pub refused_set_stops : (raw : RawScript) (set : RefusedSet) (n : ℕ) → IsFirstRefusedSet raw set → set.declaration ≡ n → AllFine (in_order (in_declaration raw) (take n raw)) → Stops (sites raw) (refused.Fault set.fault set.place)
refused_set_stops raw set n h is fine =
    let here : length h.above ≡ n = h.number ∙ is in
    let cut : take n raw ≡ h.above = ap (take n) h.stands ∙ take-append-le n h.above (h.refused ∷ h.below) (omega (arith, here)) ∙ take_all n h.above (omega (arith, here)) in
    let P : RawScript → Type 0 = λ ds. AllFine (in_order (in_declaration raw) ds) in
    stopped_in_declaration raw h.above h.below h.refused h.stands (subst P cut fine) h.stopped

pub sets_stop : {A : Type 0} (raw : RawScript) (sets : Sets A) (n : ℕ) (r : Refused) → AreSetsOf raw sets → AllFine (in_order (in_declaration raw) (take n raw)) → PassesSets sets.refused n (Err r) → Stops (sites raw) r
sets_stop {A} raw sets n r are fine h =
    let P : Option RefusedSet → Type 0 = IsSetRefusal raw sets in
    let Q : Refused → Type 0 = Stops (sites raw) in
    subst Q (sym h.3) (refused_set_stops raw h.0 n (subst P h.1 are.refusal) h.2 fine)

-- where all sites are fine, nothing is refused
pub fine_is_unrefused : {A : Type 0} (raw : RawScript) (sets : Sets A) → AreSetsOf raw sets → AllFine (sites raw) → AreUnrefused raw sets
fine_is_unrefused raw sets are fine = go sets.refused are.refusal
  where
    go : (first : Option RefusedSet) → IsSetRefusal raw sets first → AreUnrefused raw sets
    go None h = h
    go (Some set) h =
        let P : RawScript → Type 0 = λ ds. AllFine (in_order (in_declaration raw) ds) in
        let Q : List Site → Type 0 = AllFine in
        let cut : AllFine (in_order (in_declaration raw) h.above ++ behind_each (in_declaration raw) h.above (h.refused ∷ h.below)) =
        subst Q (behind-append (in_declaration raw) [] h.above (h.refused ∷ h.below)) (subst P h.stands fine) in
        absurd (stopped_is_not_fine (sites raw) (stopped_in_declaration raw h.above h.below h.refused h.stands (fine_left (in_order (in_declaration raw) h.above) (behind_each (in_declaration raw) h.above (h.refused ∷ h.below)) cut) h.stopped) fine)
