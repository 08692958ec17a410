-- Parts at the end of a way, and what is told of them.
use Rattle.std.proofs.Common.{◌≡◌, List, [], ◌∷◌, ◌++◌, refl, ◌∙◌, ap, append_assoc}
use Rattle.std.proofs.lemmas.List.{map-append}
use Rattle.theory_syntax.specs.Process.{Script}
use Rattle.theory_origins.specs.Origin.{Side}
use Rattle.theory_origins.specs.Parts.{Placed, placed_on}
use Rattle.theory_explanation.specs.Counterexamples.{AreWaiting, Waiting}
use Rattle.counterexample.specs.Waiting.{all_placed_behind, placed_behind}

pub placed_no_way : (ds : List Placed) → all_placed_behind [] ds ≡ ds
placed_no_way [] = refl
placed_no_way (d ∷ ds) = ap (λ xs. d ∷ xs) (placed_no_way ds)

-- a side more
pub placed_further_behind : (way : List Side) (side : Side) (ds : List Placed) → all_placed_behind (way ++ side ∷ []) ds ≡ all_placed_behind way (placed_on side ds)
placed_further_behind way side [] = refl
placed_further_behind way side (d ∷ ds) =
    ap (λ w. record { way = w; process = d.process } ∷ all_placed_behind (way ++ side ∷ []) ds) (append_assoc way (side ∷ []) d.way)
    ∙ ap (λ xs. record { way = way ++ side ∷ d.way; process = d.process } ∷ xs) (placed_further_behind way side ds)

pub both_placed : (way : List Side) (ds es : List Placed) → all_placed_behind way (ds ++ es) ≡ all_placed_behind way ds ++ all_placed_behind way es
both_placed way ds es = map-append (placed_behind way) ds es

pub both_waiting : (script : Script) (ds es : List Placed) (ws vs : List Waiting) → AreWaiting script ds ws → AreWaiting script es vs → AreWaiting script (ds ++ es) (ws ++ vs)
both_waiting script [] es [] vs one other = other
both_waiting script [] es (w ∷ ws) vs one other = absurd one
both_waiting script (d ∷ ds) es [] vs one other = absurd one
both_waiting script (d ∷ ds) es (w ∷ ws) vs one other = (one.0, both_waiting script ds es ws vs one.1 other)
