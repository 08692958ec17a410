-- What is shown of a state.
use Rattle.std.proofs.Common.{◌≡◌, ◌==◌, true, false, List, [], ◌∷◌, length, map, refl, ◌∙◌, ap}
use Rattle.std.proofs.Math.Dec.{eqb-suc-zero}
use Rattle.theory_syntax.specs.Process.{Process}
use Rattle.theory_explanation.specs.Legend.{Legend}
use Rattle.theory_walk.specs.Moves as pure
use Rattle.theory_walk.specs.Moves.{Offers}
use Rattle.theory_walk.specs.Views.{has_ended, idle_line, menu_lines, move_lines}
use Rattle.state_walk.specs.Walks.{moves_listed, origin_in}
use Rattle.state_walk.specs.declared.menu.Move.{Move}

pub no_moves : {A : Type 0} (l : Legend) (t : Process) (moves : List (Move A)) → true ≡ (length moves == 0) → idle_line (has_ended t) ≡ menu_lines l t (Offers (moves_listed moves))
no_moves l t [] none = refl
no_moves l t (m ∷ moves) none = let e : true ≡ false = none ∙ eqb-suc-zero (length moves) in absurd (cc e)

pub some_moves : {A : Type 0} (l : Legend) (t : Process) (moves : List (Move A)) → false ≡ (length moves == 0) → move_lines l 1 (moves_listed moves) ≡ menu_lines l t (Offers (moves_listed moves))
some_moves l t [] some = let e : false ≡ true = some in absurd (cc e)
some_moves l t (m ∷ moves) some = refl

-- where the moves come from
pub same_origins : {A : Type 0} (moves : List (Move A)) → map origin_in moves ≡ map (λ (m : pure.Move). m.origin) (moves_listed moves)
same_origins [] = refl
same_origins (m ∷ moves) = ap (λ os. origin_in m ∷ os) (same_origins moves)
