-- Whether a list is told to have what an item stands for.
use Rattle.std.proofs.Common.{◌≡◌, Bool, true, false, List, map, Contains, Some, sym, ◌∙◌, ap}
use Rattle.std.specs.List.{list_any}
use Rattle.std.proofs.lemmas.List.Folds.{Any-from_list_any, list_any_at}
use Rattle.std.proofs.lemmas.Option.{slice_get-get_or, slice_get_within, get_or_from_slice_get}
use Rattle.theory_syntax.proofs.Places.{get_map, get_some}
use Rattle.theory_semantics.proofs.Rising.{stands_from_Contains, Contains-from_stands}
use Rattle.csp_value.proofs.Sameness.{Tells}

module _ {X Y : Type 0} {test : X → X → Bool} {meaning : X → Y} (tells : Tells test meaning) (ys : List X) (x : X) (r : Bool) (is : r ≡ list_any (λ y. test y x) ys) where
  pub told_there : r ≡ true → Contains (map meaning ys) (meaning x)
  told_there told =
      let h = Any-from_list_any (λ y. test y x) ys (sym is ∙ told) in
      let at = get_some meaning ys h.0 h.1 (slice_get-get_or ys h.0 h.1 h.2 ∙ ap Some h.3) in
      Contains-from_stands (map meaning ys) (meaning x) (h.0, at ∙ ap Some (tells.sound h.1 x h.4))

  pub told_missing : r ≡ false → Contains (map meaning ys) (meaning x) → ⊥
  told_missing told c =
      let at = stands_from_Contains (map meaning ys) (meaning x) c in
      let h = get_map meaning ys at.0 (meaning x) at.1 in
      let same = ap (λ y. test y x) (get_or_from_slice_get ys at.0 h.0 h.0 h.1) ∙ tells.complete h.0 x h.2 in
      let f : true ≡ false = sym (list_any_at (λ y. test y x) ys at.0 h.0 (slice_get_within ys at.0 h.0 h.1) same) ∙ sym is ∙ told in cc f
