-- Parts that are put.
use Rattle.std.proofs.Common.{◌≡◌, ◌<◌, ◌≤◌, suc, List, [], ◌∷◌, length, map, refl, ap, arith}
use Rattle.std.specs.Prelude.{codes}
use Rattle.theory_origins.specs.Doers.{Doer}
use Rattle.theory_origins.specs.Origin.{Side}
use Rattle.theory_notation.specs.Names.{Names}
use Rattle.theory_objects.specs.Accounts.{doer_fields, part_fields, waiting_fields}
use Rattle.theory_objects.specs.Fields.{objects_field}
use Rattle.counterexample.specs.Counterexample.{waiting_of}
use Rattle.counterexample.specs.Doers.{all_behind}
use Rattle.counterexample.specs.declared.waiting.Waiting.{Waiting}

-- doers at the end of a way
pub doers_behind : (names : Names) (way : List Side) (ds : List Doer) → map (doer_fields names []) (all_behind way ds) ≡ map (doer_fields names way) ds
doers_behind names way [] = refl
doers_behind names way (d ∷ ds) = ap (λ os. doer_fields names way d ∷ os) (doers_behind names way ds)

-- of one part nothing is told, and of several each
pub few_parts : {A : Type 0} (names : Names) (ws : List (Waiting A)) → length ws < 2 → waiting_fields names (map waiting_of ws) ≡ []
few_parts names [] few = refl
few_parts names (w ∷ []) few = refl
few_parts names (w ∷ v ∷ ws) few = let low : suc (suc (length ws)) < 2 = few in absurd (omega (arith, low))

pub many_parts : {A : Type 0} (names : Names) (ws : List (Waiting A)) → 2 ≤ length ws → objects_field (codes "waiting") (map (part_fields names) (map waiting_of ws)) ∷ [] ≡ waiting_fields names (map waiting_of ws)
many_parts names [] many = let low : 2 ≤ 0 = many in absurd (omega (arith, low))
many_parts names (w ∷ []) many = let low : 2 ≤ 1 = many in absurd (omega (arith, low))
many_parts names (w ∷ v ∷ ws) many = refl
