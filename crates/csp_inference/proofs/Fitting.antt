-- The items of a script are fitted in turn.
use Rattle.std.proofs.Common.{◌≡◌, ℕ, ◌+◌, ◌<◌, ◌≤◌, List, [], ◌∷◌, ◌++◌, append-nil, length, map, take, drop, get_or, Ok, Err, refl, sym, subst, ◌∙◌, ap, ap₂}
use Rattle.std.proofs.lemmas.List.{take_all}
use Rattle.std.specs.Prelude.{◌↔◌, slice_get, Some}
use Rattle.theory_syntax.specs.Process.{Script}
use Rattle.theory_semantics.specs.Kinds.Kind.{Kinds}
use Rattle.theory_semantics.specs.Kinds.Values.{IsConstructorOf}
use Rattle.theory_text.specs.Raw.{RawScript}
use Rattle.theory_checking.specs.Scripts.{IsScriptOf}
use Rattle.theory_checking.specs.Faults.{WrongKind, IsFirstRefused}
use Rattle.theory_checking.specs.Fitting as pure
use Rattle.theory_checking.specs.Fitting.{FitKinds, IsMisfit, items}
use Rattle.theory_checking.specs.Inference.State.{nothing_known, IsSolved, HasNoSolution}
use Rattle.theory_checking.specs.Inference.Equations.{AreOwners}
use Rattle.theory_checking.specs.Inference.Items.{behind_item, behind_items, next_number, of_item, of_items}
use Rattle.csp_inference.specs.Numbering.{numbering_of}
use Rattle.csp_inference.specs.State.{state_in}
use Rattle.csp_inference.specs.declared.known_kinds.KnownKinds.{KnownKinds}
use Rattle.csp_inference.specs.KnownKinds.{KnowsKinds}
use Rattle.csp_inference.specs.declared.fit_fault.FitFault.{FitFault}
use Rattle.csp_inference.specs.declared.fit_fault.FitFault.TheVariants as fault
use Rattle.csp_inference.specs.declared.item_list.Item.{Item}
use Rattle.csp_inference.specs.Items.{FitsItemAt, FitsItems, item_of}
use Rattle.csp_inference.specs.Solving.{SolvesMore}
use Rattle.csp_inference.proofs.Counting.{read_one_more}
use Rattle.csp_inference.proofs.ItemsInTurn.{all_fit, behind_and_one, first_misfit, solved_and_one}
use Rattle.csp_inference.proofs.Listing.{item_stands}
use Rattle.csp_inference.proofs.OneMore.{known_of_all}

-- The equations of all sets and of these items are solved.
pub record FitsSoFar {A : Type 0} (raw : RawScript) (script : Script) (start now : KnownKinds A) (xs : List pure.Item) : Type 0 where
  pub known : KnowsKinds raw raw start
  pub is : IsScriptOf raw script
  pub numbering : now.numbering ≡ start.numbering
  pub next : now.equations.next ≡ behind_items script start.equations.next xs
  pub solved : IsSolved nothing_known (known.met ++ of_items script (numbering_of start.numbering) start.equations.next xs) (state_in now.equations.state)

pub fits_at_first : {A : Type 0} (raw : RawScript) (script : Script) (start : KnownKinds A) → KnowsKinds raw raw start → IsScriptOf raw script → FitsSoFar raw script start start []
fits_at_first raw script start known is = record {
  known = known;
  is = is;
  numbering = refl;
  next = refl;
  solved = subst (λ es. IsSolved nothing_known es (state_in start.equations.state)) (sym (append-nil known.met)) known.solved;
}

module _ {A : Type 0} (raw : RawScript) (script : Script) (start now : KnownKinds A) (xs : List pure.Item) (h : FitsSoFar raw script start now xs) where
  owners : AreOwners script.types (numbering_of start.numbering)
  owners = subst (λ ds. (d c : ℕ) → IsConstructorOf (record { datatypes = ds; nametypes = []; constructors = [] }) d c ↔ (slice_get (numbering_of start.numbering).owners c ≡ Some d)) (sym h.is.datatypes) h.known.owners

  -- the item's equations, over the numbers at the start
  same_item : (x : pure.Item) → of_item script (numbering_of now.numbering) now.equations.next x ≡ of_item script (numbering_of start.numbering) (behind_items script start.equations.next xs) x
  same_item x = ap₂ (λ o n. of_item script (numbering_of o) n x) h.numbering h.next

  pub fits_more : (new : KnownKinds A) (x : pure.Item) → SolvesMore now (of_item script (numbering_of now.numbering) now.equations.next x) (behind_item script now.equations.next x) new → FitsSoFar raw script start new (xs ++ x ∷ [])
  fits_more new x more = record {
    known = h.known;
    is = h.is;
    numbering = more.numbering ∙ h.numbering;
    next = more.next ∙ ap (λ n. behind_item script n x) h.next ∙ sym (behind_and_one script start.equations.next xs x);
    solved =
        solved_and_one raw script (numbering_of start.numbering) (next_number raw) start.equations.next h.known.met owners h.known.numbers (known_of_all raw (numbering_of start.numbering) start.equations.next (state_in start.equations.state) h.known) xs x (state_in now.equations.state) (state_in new.equations.state) h.solved
        (subst (λ es. IsSolved (state_in now.equations.state) es (state_in new.equations.state)) (same_item x) more.solved);
  }

  pub fits_all : xs ≡ items raw → (kinds : Kinds) × FitKinds raw script kinds (items raw)
  fits_all all =
      let fit = all_fit raw script (numbering_of start.numbering) (next_number raw) start.equations.next h.known.met owners h.known.numbers (known_of_all raw (numbering_of start.numbering) start.equations.next (state_in start.equations.state) h.known) xs (state_in now.equations.state) h.solved in
      (fit.0, subst (FitKinds raw script fit.0) all fit.1)

  pub fits_not : (x : pure.Item) (after : List pure.Item) → items raw ≡ xs ++ x ∷ after → HasNoSolution (state_in now.equations.state) (of_item script (numbering_of now.numbering) now.equations.next x) → IsFirstRefused (IsMisfit raw script) (items raw) x WrongKind
  fits_not x after stands none =
      first_misfit raw script (numbering_of start.numbering) (next_number raw) start.equations.next h.known.met owners h.known.numbers (known_of_all raw (numbering_of start.numbering) start.equations.next (state_in start.equations.state) h.known) xs after x (state_in now.equations.state) stands h.solved
      (subst (HasNoSolution (state_in now.equations.state)) (same_item x) none)

-- ---- over the items in turn

module _ {A : Type 0} (raw : RawScript) (script : Script) (start now : KnownKinds A) (xs : List Item) (i : ℕ) (h : FitsSoFar raw script start now (map item_of (take i xs))) where
  pub fits_next : (d : Item) (new : KnownKinds A) → i < length xs → SolvesMore now (of_item script (numbering_of now.numbering) now.equations.next (item_of (get_or xs i d))) (behind_item script now.equations.next (item_of (get_or xs i d))) new →
      FitsSoFar raw script start new (map item_of (take (i + 1) xs))
  fits_next d new within more =
      let P : List pure.Item → Type 0 = FitsSoFar raw script start new in
      subst P (sym (read_one_more item_of xs i d within)) (fits_more raw script start now (map item_of (take i xs)) h new (item_of (get_or xs i d)) more)

  module _ (all : map item_of xs ≡ items raw) where
    pub stops_there : (d : Item) (new : KnownKinds A) (e : FitFault) → i < length xs →
        FitsItemAt script (item_of (get_or xs i d)) now new (Err e) → FitsItems raw script (Err e)
    stops_there d new (fault.WrongKind place) within misfits =
        let stands = sym all ∙ item_stands xs i d within in
        (item_of (get_or xs i d), fits_not raw script start now (map item_of (take i xs)) h (item_of (get_or xs i d)) (map item_of (drop (i + 1) xs)) stands misfits.0, misfits.1)
    stops_there d new fault.Memory within misfits = tt

    pub fits_to_end : length xs ≤ i → FitsItems raw script (Ok tt)
    fits_to_end over = fits_all raw script start now (map item_of (take i xs)) h (ap (map item_of) (take_all i xs over) ∙ all)
