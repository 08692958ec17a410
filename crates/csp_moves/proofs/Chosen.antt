-- The ways of an internal choice, by the side that it takes.
use Rattle.std.proofs.Common.{◌≡◌, IfOk, [], ◌∷◌, refl, Some, None, Result}
use Rattle.std.specs.declared.vec.Vec.{Vec}
use Rattle.theory_syntax.specs.Value.{Tau}
use Rattle.theory_syntax.specs.Process.{Process, InternalChoice, Script}
use Rattle.theory_semantics.specs.Meaning.Unfolding.{settled}
use Rattle.theory_origins.specs.Origin.{Chooses, Left, Right}
use Rattle.theory_origins.specs.Ways.{Here}
use Rattle.theory_origins.proofs.OperandWays.{left_choice_ways, no_choice_ways, right_choice_ways}
use Rattle.csp_moves.specs.declared.passage.Side.{Side}
use Rattle.csp_moves.specs.declared.passage.Side.TheVariants as side
use Rattle.csp_moves.specs.declared.way.Way.{Way}
use Rattle.csp_moves.specs.Choice.{IsChosen}
use Rattle.csp_moves.specs.Passage.{side_of}
use Rattle.csp_moves.specs.Way.{AreFoundIn, ways_of}
use Rattle.csp_moves.proofs.Found.{found_in}

module _ {A E : Type 0} (s : Script) (p q t : Process) (r : Result (Vec (Way A) A) E) where
  pub chosen_found : (one : Side) → IsChosen (settled s p) (settled s q) t (Some one) → IfOk r (λ ways. ways_of ways ≡ Here (Chooses (side_of one)) ∷ []) → IfOk r (AreFoundIn s (InternalChoice p q) Tau t)
  chosen_found side.Left is ways = found_in s (InternalChoice p q) Tau t r _ (Here (Chooses Left) ∷ []) ways refl (left_choice_ways s p q t is)
  chosen_found side.Right is ways = found_in s (InternalChoice p q) Tau t r _ (Here (Chooses Right) ∷ []) ways refl (right_choice_ways s p q t is)

  pub none_chosen : IsChosen (settled s p) (settled s q) t None → IfOk r (λ ways. ways_of ways ≡ []) → IfOk r (AreFoundIn s (InternalChoice p q) Tau t)
  none_chosen is ways = found_in s (InternalChoice p q) Tau t r _ [] ways refl (no_choice_ways s p q t is.0 is.1)
