-- The side behind `assert`, by whether its text begins with `not `.
use Rattle.std.proofs.Common.{◌≡◌, ℕ, Bool, true, false, List, ◌++◌, Option, Some, None, take, drop, refl, sym, ◌∙◌, ap}
use Rattle.std.proofs.lemmas.List.{take-append-drop}
use Rattle.std.specs.Prelude.{codes, nat_eq, not}
use Rattle.std.specs.Cmp.Lexicographic.{bytes_decides, pointwise}
use Rattle.std.specs.Str.Pattern.{FindsTextPrefix, HasPrefixMatch}
use Rattle.theory_notation.specs.Marks.{bare_or_bracketed}
use Rattle.theory_explanation.specs.Headline.{begins_with_not, first_side}

module _ (text : List ℕ) where
  by_test : (b : Bool) → begins_with_not text ≡ b → bare_or_bracketed (not b) text ≡ first_side text
  by_test b is = ap (λ x. bare_or_bracketed (not x) text) (sym is)

  pub told_bracketed : HasPrefixMatch (FindsTextPrefix (codes "not ")) text → codes "(" ++ (text ++ codes ")") ≡ first_side text
  told_bracketed begins =
      let same : take 4 text ≡ codes "not " = ap (take 4) begins.1.1 in
      by_test true ((bytes_decides (take 4 text) (codes "not ")).1 same)

  pub told_bare : FindsTextPrefix (codes "not ") text None → text ≡ first_side text
  told_bare lacks = by (begins_with_not text) refl
    where
      by : (b : Bool) → begins_with_not text ≡ b → text ≡ first_side text
      by true is =
          let same : take 4 text ≡ codes "not " = (bytes_decides (take 4 text) (codes "not ")).0 is in
          absurd (lacks (drop 4 text) (sym (take-append-drop 4 text) ∙ ap (λ ts. ts ++ drop 4 text) same))
      by false is = by_test false is
