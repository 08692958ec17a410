-- What is told of one more assertion.
use Rattle.std.proofs.Common.{◌≡◌, ℕ, suc, ◌+◌, List, [], ◌∷◌, ◌++◌, length, refl, sym, ◌∙◌, ap, subst, append-nil, append_assoc, arith}
use Rattle.theory_syntax.specs.Process.{Script, Assertion}
use Rattle.theory_search.specs.Outcome.{Outcome}
use Rattle.theory_explanation.specs.Styles.{Style}
use Rattle.theory_explanation.specs.Telling.{IsTold, Tells}

module _ (style : Style) (script : Script) where
  -- one assertion more, told behind those before it
  pub tells_more : (n : ℕ) (asked : List Assertion) (os : List Outcome) (text : List ℕ) (a : Assertion) (o : Outcome) (more : List ℕ) →
      Tells style script n asked os text → IsTold style script (n + length asked) a a o more → Tells style script n (asked ++ a ∷ []) (os ++ o ∷ []) (text ++ more)
  tells_more n [] [] text a o more none told =
      let here : n + 0 ≡ n = omega arith in
      (more, [], ap (λ ts. ts ++ more) none ∙ sym (append-nil more), subst (λ k. IsTold style script k a a o more) here told, refl)
  tells_more n [] (p ∷ os) text a o more none told = absurd none
  tells_more n (b ∷ asked) [] text a o more none told = absurd none
  tells_more n (b ∷ asked) (p ∷ os) text a o more tells told =
      let here : n + suc (length asked) ≡ suc n + length asked = omega arith in
      let rest = tells_more (suc n) asked os tells.1 a o more tells.4 (subst (λ k. IsTold style script k a a o more) here told) in
      (tells.0, tells.1 ++ more, ap (λ ts. ts ++ more) tells.2 ∙ append_assoc tells.0 tells.1 more, tells.3, rest)
