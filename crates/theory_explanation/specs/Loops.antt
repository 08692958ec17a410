-- The text of a loop.
use Rattle.std.specs.Prelude.{ℕ, zero, suc, ◌+◌, List, [], ◌∷◌, ◌++◌, length, codes, decimal, Option, Some, None}
use Rattle.theory_syntax.specs.Value.{Tau}
use Rattle.theory_syntax.specs.Process.{Process}
use Rattle.theory_origins.specs.Origin.{Origin}
use Rattle.theory_explanation.specs.Counterexamples.{Loop}
use Rattle.theory_explanation.specs.Counting.{number_text}
use Rattle.theory_explanation.specs.Cutting.{Width, Whole, UpTo}
use Rattle.theory_explanation.specs.Legend.{legend}
use Rattle.theory_explanation.specs.PartNames.{PartName, part_names_behind}
use Rattle.theory_explanation.specs.Steps.{behind_line, state_line, step_line}
use Rattle.theory_explanation.specs.Styles.{Style}

-- the state that the last tau leads back to, by its number
abbrev pub back_text : ℕ → List ℕ
back_text n = codes "back to state " ++ decimal n

-- so many taus are left out, of which the last one leads back to the state
abbrev pub left_out_line : ℕ → ℕ → List ℕ
left_out_line taus back = codes "  .. " ++ (number_text taus (codes "more tau") ++ (codes ", " ++ (back_text back ++ codes "\n")))

-- The first few taus of parts with such names, numbered from n, and how many are left out. Behind each stands what has changed
-- in the state that it leads to, and behind the last one which state that is.
abbrev pub few_taus : Style → ℕ → ℕ → ℕ → List PartName → List Process → List (Option Origin) → List ℕ
few_taus style few n back parts [] origins = []
few_taus style few n back parts (s ∷ states) [] = []
few_taus style zero n back parts (s ∷ states) (o ∷ origins) = left_out_line (length (s ∷ states)) back
few_taus style (suc few) n back parts (s ∷ []) (o ∷ origins) = step_line (legend style.names parts) n Tau o [] ++ state_line (back_text back)
few_taus style (suc few) n back parts (s ∷ t ∷ states) (o ∷ origins) =
    step_line (legend style.names parts) n Tau o [] ++ (behind_line style.names style.width s t ++ few_taus style few (suc n) back (part_names_behind parts o) (t ∷ states) origins)

-- how many of the taus are told, where all or so many are to be
abbrev pub taus_told : Width → List Process → ℕ
taus_told Whole states = length states
taus_told (UpTo n) states = n

-- The taus of a loop that begins at the state with this number, where parts have such names.
abbrev pub loop_text : Style → List PartName → ℕ → Option Loop → List ℕ
loop_text style parts n (Some loop) = few_taus style (taus_told style.taus loop.states) (suc n) (n + loop.back) parts loop.states loop.origins
loop_text style parts n None = []
