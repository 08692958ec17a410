-- The next token is counted.
use Rattle.std.proofs.Common.{◌≡◌, ◌∙◌, ◌<◌, ◌≤◌, true, false, cond, List, [], ◌∷◌, refl, sym, ap, Some, None, Ok, Err, arith}
use Rattle.std.specs.Prelude.{nat_lt}
use Rattle.theory_text.specs.Token.{PlacedToken}
use Rattle.theory_text.specs.Height.{Nest, Nesting, nesting, after_token, nest_height, greatest_height}
use Rattle.csp_parse.proofs.Rising.{rises}
use Rattle.theory_reader.specs.Programs.{first, High, count}

-- a nest that counts one token more has a height that the code holds
pub small_enough : (x : Nesting) (old new : Nest) → nest_height old ≤ greatest_height → new ≡ after_token x old → nest_height new < 4294967296
small_enough x old new low is = let up = rises x old in let same = ap nest_height is in omega (arith, low, up, same)

pub none_counted : (n : Nest) (ts : List PlacedToken) → None ≡ first ts → count n ts ≡ Ok (tt, record { left = ts; nest = n })
none_counted n [] e = refl
none_counted n (t ∷ ts) e = absurd (cc e)

first_is : {t u : PlacedToken} → Some t ≡ Some u → t ≡ u
first_is e = cc e

pub low_counted : (n m : Nest) (t : PlacedToken) (ts : List PlacedToken) → Some t ≡ first ts → m ≡ after_token (nesting t.token) n → nest_height m ≤ greatest_height → count n ts ≡ Ok (tt, record { left = ts; nest = m })
low_counted n m t [] e is low = absurd (cc e)
low_counted n m t (u ∷ us) e is low =
    let same : m ≡ after_token (nesting u.token) n = is ∙ ap (λ x. after_token (nesting x.token) n) (first_is e) in
    let under : nat_lt greatest_height (nest_height m) ≡ false = grind (arith, low) in
    ap (λ b. cond b (Err (High, u ∷ us)) (Ok (tt, record { left = u ∷ us; nest = after_token (nesting u.token) n }))) (ap (λ x. nat_lt greatest_height (nest_height x)) (sym same) ∙ under)
    ∙ ap (λ x. Ok (tt, record { left = u ∷ us; nest = x })) (sym same)

pub high_counted : (n m : Nest) (t : PlacedToken) (ts : List PlacedToken) → Some t ≡ first ts → m ≡ after_token (nesting t.token) n → greatest_height < nest_height m → count n ts ≡ Err (High, ts)
high_counted n m t [] e is high = absurd (cc e)
high_counted n m t (u ∷ us) e is high =
    let same : m ≡ after_token (nesting u.token) n = is ∙ ap (λ x. after_token (nesting x.token) n) (first_is e) in
    let over : nat_lt greatest_height (nest_height m) ≡ true = grind (arith, high) in
    ap (λ b. cond b (Err (High, u ∷ us)) (Ok (tt, record { left = u ∷ us; nest = after_token (nesting u.token) n }))) (ap (λ x. nat_lt greatest_height (nest_height x)) (sym same) ∙ over)
