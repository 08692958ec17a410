-- Heights of small declarations; tokens in which a declaration is too high begin a script before that token.
use Rattle.std.proofs.Common.{◌≡◌, List, [], ◌∷◌, ◌++◌, refl, sym, subst, codes}
use Rattle.std.proofs.lemmas.List.{append_assoc, append-nil}
use Rattle.theory_text.specs.Token.{SignToken, NameToken, KeywordToken, PlacedToken, StopWord, EqualsSign, OpenRoundSign, CloseRoundSign, ArrowSign, BoxSign}
use Rattle.theory_text.specs.Raw.{RawScript}
use Rattle.theory_text.specs.Grammar.{IsScript, no_declarations, declarations, BeginsScript}
use Rattle.theory_text.specs.Height.{IsLatest, tokens_height}
use Rattle.theory_text.proofs.Grammatical.{at}

-- `P = (a -> STOP) [] STOP`: `(`, `[]`, and `->` in the group
pub three_high : tokens_height (at (NameToken (codes "P")) ∷ at (SignToken EqualsSign) ∷ at (SignToken OpenRoundSign) ∷ at (NameToken (codes "a")) ∷ at (SignToken ArrowSign) ∷ at (KeywordToken StopWord)
    ∷ at (SignToken CloseRoundSign) ∷ at (SignToken BoxSign) ∷ at (KeywordToken StopWord) ∷ []) ≡ 3
three_high = refl

-- `P = ((`
pub open_groups : tokens_height (at (NameToken (codes "P")) ∷ at (SignToken EqualsSign) ∷ at (SignToken OpenRoundSign) ∷ at (SignToken OpenRoundSign) ∷ []) ≡ 2
open_groups = refl

pub joined : (a b : List PlacedToken) (s u : RawScript) → IsScript a s → IsScript b u → IsScript (a ++ b) (s ++ u)
joined x y s u IsScript.no_declarations k = k
joined x y s u (IsScript.declarations {a} {b} {d} {ds} one rest) k =
    subst (λ ts. IsScript ts (d ∷ (ds ++ u))) (sym (append_assoc a b y)) (declarations one (joined b y ds u rest k))

pub latest_begins : (before latest : List PlacedToken) → IsLatest before latest → BeginsScript before
latest_begins before l IsLatest.nothing = ([], [], no_declarations)
latest_begins before l (IsLatest.latest whole s t ts script (more, d, one)) = (
  more,
  s ++ d ∷ [],
  subst (λ x. IsScript x (s ++ d ∷ [])) (sym (append_assoc whole (t ∷ ts) more))
      (joined whole (t ∷ ts ++ more) s (d ∷ []) script (subst (λ x. IsScript x (d ∷ [])) (append-nil (t ∷ ts ++ more)) (declarations one no_declarations))),
)
