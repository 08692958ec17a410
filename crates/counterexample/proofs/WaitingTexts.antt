-- Of one part nothing is told, and of several each.
use Rattle.std.proofs.Common.{◌≡◌, ◌<◌, ◌≤◌, suc, List, [], ◌∷◌, length, map, refl, arith}
use Rattle.theory_explanation.specs.PartNames.{PartName}
use Rattle.theory_explanation.specs.Styles.{Style}
use Rattle.theory_explanation.specs.Waiting.{all_waiting, parts_text}
use Rattle.counterexample.specs.Counterexample.{waiting_of}
use Rattle.counterexample.specs.declared.waiting.Waiting.{Waiting}

module _ {A : Type 0} (style : Style) (parts : List PartName) where
  pub few_parts : (ws : List (Waiting A)) → length ws < 2 → parts_text style parts (map waiting_of ws) ≡ []
  few_parts [] few = refl
  few_parts (w ∷ []) few = refl
  few_parts (w ∷ v ∷ ws) few = let low : suc (suc (length ws)) < 2 = few in absurd (omega (arith, low))

  pub many_parts : (ws : List (Waiting A)) → 2 ≤ length ws → all_waiting style parts (map waiting_of ws) ≡ parts_text style parts (map waiting_of ws)
  many_parts [] many = let low : 2 ≤ 0 = many in absurd (omega (arith, low))
  many_parts (w ∷ []) many = let low : 2 ≤ 1 = many in absurd (omega (arith, low))
  many_parts (w ∷ v ∷ ws) many = refl
