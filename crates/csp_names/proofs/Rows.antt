-- Rows by spelling, and the entries of maps by bytes.
use Rattle.std.specs.Prelude.{cond, length, position, take, not}
use Rattle.std.proofs.lemmas.Bool.{lt-ltb, le-ltb, ltb-true}
use Rattle.std.specs.List.{position_or_len}
use Rattle.std.specs.Borrow.{Bor}
use Rattle.std.specs.Map.{keys_of, lookup}
use Rattle.std.specs.Str.{bytes_eq, chars, encode_utf8_all, IsUtf8}
use Rattle.std.proofs.lemmas.Slice.Eq.{bytes_eq-Decides}
use Rattle.std.proofs.lemmas.Str.{chars-encodes}
use Rattle.std.proofs.Common.{◌≡◌, ◌<◌, ◌≤◌, ℕ, zero, suc, ◌+◌, nat_lt, Bool, true, false, List, [], ◌∷◌, Option, Some, None, refl, sym, ap, ◌∙◌, arith}
use Rattle.csp_names.specs.Rows.{AreTexts, row_at, spelled}

-- ---- texts are spelled alike exactly where their bytes are alike

both_ways : (b c : Bool) → (b ≡ true → c ≡ true) → (c ≡ true → b ≡ true) → b ≡ c
both_ways true true f g = refl
both_ways false false f g = refl
both_ways true false f g = sym (f refl)
both_ways false true f g = g refl

encoded : (a : List ℕ) → IsUtf8 a → encode_utf8_all (chars a) ≡ a
encoded a u = ap encode_utf8_all (ap chars (sym u.1.1) ∙ chars-encodes u.0 u.1.0) ∙ u.1.1

pub same_spelling : (a b : List ℕ) → IsUtf8 a → IsUtf8 b → bytes_eq a b ≡ bytes_eq (chars b) (chars a)
same_spelling a b u v = both_ways (bytes_eq a b) (bytes_eq (chars b) (chars a))
    (λ e. (bytes_eq-Decides (chars b) (chars a)).1 (ap chars (sym ((bytes_eq-Decides a b).0 e))))
    (λ e. (bytes_eq-Decides a b).1 (sym (encoded a u) ∙ ap encode_utf8_all (sym ((bytes_eq-Decides (chars b) (chars a)).0 e)) ∙ encoded b v))

-- ---- a look-up by bytes is one by spelling

abbrev pub is_key : List ℕ → Bor (List ℕ) → Bool
is_key q k = bytes_eq q k.now

lt_up : (a n : ℕ) → nat_lt (1 + a) (suc n) ≡ nat_lt a n
lt_up a n = both_ways (nat_lt (1 + a) (suc n)) (nat_lt a n)
    (λ e. lt-ltb a n (let h = ltb-true (1 + a) (suc n) e in omega (arith, h)))
    (λ e. lt-ltb (1 + a) (suc n) (let h = ltb-true a n e in omega (arith, h)))

none_both : {V : Type 0} (b : Bool) → None ≡ cond {A = Option V} b None None
none_both true = refl
none_both false = refl

at_place : (b : Bool) (place k : ℕ) → Some place ≡ cond b (Some k) None → place ≡ k
at_place true place k e = cc e
at_place false place k e = absurd (cc e)

module _ {V : Type 0} (q : List ℕ) (u : IsUtf8 q) where
  pub found_row : (es : List (Bor (List ℕ) × V)) → AreTexts es → lookup (is_key q) es ≡ row_at (spelled es) (chars q)
  found_row [] texts = refl
  found_row (e ∷ es) texts =
      ap (λ b. cond b (Some e.1) (lookup (is_key q) es)) (same_spelling q e.0.now u texts.0) ∙ ap (cond (bytes_eq (chars e.0.now) (chars q)) (Some e.1)) (found_row es texts.1)

  -- and so is one among the first entries
  pub row_below : (es : List (Bor (List ℕ) × V)) (n : ℕ) → AreTexts es → row_at (take n (spelled es)) (chars q) ≡ cond (nat_lt (position_or_len (is_key q) (keys_of es)) n) (lookup (is_key q) es) None
  row_below [] zero texts = refl
  row_below [] (suc n) texts = none_both (nat_lt 0 (suc n))
  row_below (e ∷ es) zero texts = ap (λ b. cond b (lookup (is_key q) (e ∷ es)) None) (sym (ltb-zero (position_or_len (is_key q) (keys_of (e ∷ es)))))
    where
      ltb-zero : (k : ℕ) → nat_lt k 0 ≡ false
      ltb-zero k = le-ltb k 0 (omega arith)
  row_below (e ∷ es) (suc n) texts = ap (λ b. cond b (Some e.1) (row_at (take n (spelled es)) (chars q))) (sym (same_spelling q e.0.now u texts.0)) ∙ go (is_key q e.0) (row_below es n texts.1)
    where
      go : (b : Bool) → row_at (take n (spelled es)) (chars q) ≡ cond (nat_lt (position_or_len (is_key q) (keys_of es)) n) (lookup (is_key q) es) None →
          cond b (Some e.1) (row_at (take n (spelled es)) (chars q)) ≡ cond (nat_lt (cond (not b) (1 + position_or_len (is_key q) (keys_of es)) 0) (suc n)) (cond b (Some e.1) (lookup (is_key q) es)) None
      go true h = ap (λ b. cond b (Some e.1) None) (sym (lt-ltb 0 (suc n) (omega arith)))
      go false h = h ∙ ap (λ b. cond b (lookup (is_key q) es) None) (sym (lt_up (position_or_len (is_key q) (keys_of es)) n))

  -- a row that is found at a place, among the first or behind them
  pub visible_row : (es : List (Bor (List ℕ) × V)) (n place : ℕ) (v : V) → AreTexts es → Some place ≡ position (is_key q) (keys_of es) → Some v ≡ lookup (is_key q) es → place < n → row_at (take n (spelled es)) (chars q) ≡ Some v
  visible_row es n place v texts at there below =
      let same = at_place (nat_lt (position_or_len (is_key q) (keys_of es)) (length (keys_of es))) place (position_or_len (is_key q) (keys_of es)) at in
      row_below es n texts ∙ ap (λ b. cond b (lookup (is_key q) es) None) (lt-ltb (position_or_len (is_key q) (keys_of es)) n (omega (arith, same, below))) ∙ sym there

  pub hidden_row : (es : List (Bor (List ℕ) × V)) (n place : ℕ) → AreTexts es → Some place ≡ position (is_key q) (keys_of es) → n ≤ place → row_at (take n (spelled es)) (chars q) ≡ None
  hidden_row es n place texts at behind =
      let same = at_place (nat_lt (position_or_len (is_key q) (keys_of es)) (length (keys_of es))) place (position_or_len (is_key q) (keys_of es)) at in
      row_below es n texts ∙ ap (λ b. cond b (lookup (is_key q) es) None) (le-ltb (position_or_len (is_key q) (keys_of es)) n (omega (arith, same, behind)))

  pub absent_row : (es : List (Bor (List ℕ) × V)) (n : ℕ) → AreTexts es → None ≡ lookup (is_key q) es → row_at (take n (spelled es)) (chars q) ≡ None
  absent_row es n texts none =
      row_below es n texts ∙ ap (λ o. cond (nat_lt (position_or_len (is_key q) (keys_of es)) n) o None) (sym none) ∙ sym (none_both (nat_lt (position_or_len (is_key q) (keys_of es)) n))
