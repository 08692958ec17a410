-- Equations and assertions are solved one after the other, up to the first that no kinds fit.
use Rattle.std.proofs.Common.{◌≡◌, ℕ, ◌≤◌, List, [], ◌∷◌, ◌++◌, refl, sym, ◌∙◌, ap, subst, append_assoc, arith}
use Rattle.theory_syntax.specs.Process.{Script}
use Rattle.theory_semantics.specs.Kinds.Kind.{Kinds, Each}
use Rattle.theory_text.specs.Raw.{RawScript}
use Rattle.theory_checking.specs.Sets.{types_of, FitSets}
use Rattle.theory_checking.specs.Faults.{KindFault, WrongKind, fault_number, NoneRefused, IsFirstRefused}
use Rattle.theory_checking.specs.Fitting.{Item, FitsItem, FitKinds, IsMisfit, misfit, items}
use Rattle.theory_checking.specs.Inference.State.{State, nothing_known, KindEquation, IsSolved, HasNoSolution}
use Rattle.theory_checking.specs.Inference.Equations.{Ask, Numbering, kinds_under, AreOwners}
use Rattle.theory_checking.specs.Inference.Items.{behind_item, behind_items, of_item, of_items, AreNumbersFor}
use Rattle.theory_checking.proofs.AskingItems.{items_and_one, some_kinds_fit, no_kinds_fit, not_misfit}
use Rattle.theory_checking.proofs.Unifying.{solved_then, unsolved_then}

-- the next number behind one item more
pub behind_and_one : (script : Script) (n : ℕ) (before : List Item) (x : Item) → behind_items script n (before ++ x ∷ []) ≡ behind_item script (behind_items script n before) x
behind_and_one script n [] x = refl
behind_and_one script n (y ∷ before) x = behind_and_one script (behind_item script n y) before x

each_front : {A : Type 0} (P : A → Type 0) (xs ys : List A) → Each P (xs ++ ys) → Each P xs
each_front P [] ys h = tt
each_front P (x ∷ xs) ys h = (h.0, each_front P xs ys h.1)

module _ (raw : RawScript) (script : Script) (o : Numbering) (n m : ℕ) (es : List KindEquation) (owners : AreOwners script.types o) (numbers : AreNumbersFor raw n o)
    (sets : Ask n es m (λ a. FitSets (types_of raw) raw (kinds_under a o))) where
  -- the equations of the sets and of some items
  abbrev pub met_so_far : List Item → List KindEquation
  met_so_far before = es ++ of_items script o m before

  met_and_one : (before : List Item) (x : Item) → met_so_far (before ++ x ∷ []) ≡ met_so_far before ++ of_item script o (behind_items script m before) x
  met_and_one before x =
      ap (λ fs. es ++ fs) (items_and_one script o m before x) ∙ sym (append_assoc es (of_items script o m before) (of_item script o (behind_items script m before) x))

  -- one item more is solved
  pub solved_and_one : (before : List Item) (x : Item) (t u : State) → IsSolved nothing_known (met_so_far before) t → IsSolved t (of_item script o (behind_items script m before) x) u → IsSolved nothing_known (met_so_far (before ++ x ∷ [])) u
  solved_and_one before x t u so_far next =
      let P : List KindEquation → Type 0 = λ fs. IsSolved nothing_known fs u in
      subst P (sym (met_and_one before x)) (solved_then nothing_known t u (met_so_far before) (of_item script o (behind_items script m before) x) so_far next)

  -- where all are solved, some kinds fit
  pub all_fit : (xs : List Item) (t : State) → IsSolved nothing_known (met_so_far xs) t → (kinds : Kinds) × FitKinds raw script kinds xs
  all_fit xs t solved = some_kinds_fit script o owners raw n m es xs sets numbers t solved

  none_misfits : (before : List Item) (t : State) → IsSolved nothing_known (met_so_far before) t → NoneRefused (IsMisfit raw script) before
  none_misfits before t solved =
      let fit = all_fit before t solved in λ first rest x f stands refused.
      let P : List Item → Type 0 = Each (FitsItem script fit.0) in
      let some = each_front (FitsItem script fit.0) (first ++ x ∷ []) rest (subst P (stands ∙ sym (append_assoc first (x ∷ []) rest)) fit.1.each) in
      not_misfit raw script first x f refused (fit.0, record { sets = fit.1.sets; parameters = fit.1.parameters; each = some })

  only_kind : (before : List Item) (x : Item) (f : KindFault) → IsMisfit raw script before x f → fault_number WrongKind ≤ fault_number f
  only_kind before x f (misfit none) = omega arith

  -- the first item that has no solution is the first misfit
  pub first_misfit : (before after : List Item) (x : Item) (t : State) → items raw ≡ before ++ x ∷ after → IsSolved nothing_known (met_so_far before) t → HasNoSolution t (of_item script o (behind_items script m before) x) →
      IsFirstRefused (IsMisfit raw script) (items raw) x WrongKind
  first_misfit before after x t stands solved none =
      let P : List KindEquation → Type 0 = λ fs. HasNoSolution nothing_known fs in
      let here = subst P (sym (met_and_one before x)) (unsolved_then nothing_known t (met_so_far before) (of_item script o (behind_items script m before) x) solved none) in
      record {
        before = before;
        after = after;
        stands = stands;
        refused = misfit (no_kinds_fit script o owners raw n m es (before ++ x ∷ []) sets numbers here);
        lowest = λ g refused. only_kind before x g refused;
        none_before = none_misfits before t solved;
      }
