-- Texts that are split at another one.
use Rattle.std.proofs.Common.{◌≡◌, ◌++◌, ◌∙◌, ℕ, List, take, drop, sym, ap}
use Rattle.std.specs.Str.Pattern.{FindsText, SplitsAroundMatch}
use Rattle.std.proofs.lemmas.List.{take-append-drop}
use Rattle.watch.specs.Memory.{StandsBetween}

-- a text in three parts, the middle one of which is what it was split at
pub in_parts : (n s front back : List ℕ) → SplitsAroundMatch (FindsText n) s front back → s ≡ front ++ (n ++ back)
in_parts n s front back split =
    sym (take-append-drop split.0 s) ∙ ap (λ rest. take split.0 s ++ rest) (split.2.1.split) ∙ ap (λ f. f ++ (n ++ drop split.1 s)) (sym split.3) ∙ ap (λ b. front ++ (n ++ b)) (sym split.4)

-- split twice, the second time what stands behind the first
pub between : (text opening closing before behind middle after : List ℕ) → text ≡ before ++ (opening ++ behind) → behind ≡ middle ++ (closing ++ after) → StandsBetween text opening closing middle
between text opening closing before behind middle after first second = record {
  before = before;
  after = after;
  whole = first ∙ ap (λ rest. before ++ (opening ++ rest)) second;
}
