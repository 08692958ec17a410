-- A text has one division.
use Rattle.std.proofs.Common.{◌≡◌, ℕ, length, zero, suc, ◌+◌, ◌<◌, List, [], ◌++◌, take, drop, refl, sym, ap, ap₂, subst, ◌∙◌, inl, inr, Option, arith, nat_lt}
use Rattle.std.proofs.lemmas.Bool.{ltb-true, ltb-false, cases_Bool, both_ways}
use Rattle.theory_text.specs.Token.{Token, Lexeme, TokenLexeme, White, ToLineEnd, ToMark, IsLongest, IsPiece, IsLineEnd, IsFirstMark, is_at_line_end, is_at_mark, PlacedToken, placed, IsDivided, AreTokens, TextFault, IsRefusedHere, IsTextRefusal, StartsWithNoLexeme, IsInRange, NumberToken, greatest_number}
use Rattle.std.specs.Str.{IsUtf8}
use Rattle.std.proofs.lemmas.List.{take_all}
use Rattle.theory_text.specs.Place.{Place, first_place, place_after}
use Rattle.std.proofs.lemmas.Str.{encodes_same}
use Rattle.theory_text.specs.Spelling.{lexeme_of}
use Rattle.theory_text.proofs.Spelling.{lexeme_is}

-- two numbers of which neither is less
neither_less : (n m : ℕ) → ¬ (n < m) → ¬ (m < n) → n ≡ m
neither_less n m a b = elim (cases_Bool (nat_lt n m)) [
  | inl g ↦ absurd (a (ltb-true n m g))
  | inr g ↦ elim (cases_Bool (nat_lt m n)) [ inl h ↦ absurd (b (ltb-true m n h)) | inr h ↦ omega (arith, ltb-false n m g, ltb-false m n h) ]
]

pub longest_length : (cs : List ℕ) (n m : ℕ) (x y : Lexeme) → IsLongest cs n x → IsLongest cs m y → n ≡ m
longest_length cs n m x y a b = neither_less n m (λ h. a.longest m y h b.within b.spelled) (λ h. b.longest n x h a.within a.spelled)

pub longest_lexeme : (cs : List ℕ) (n m : ℕ) (x y : Lexeme) → IsLongest cs n x → IsLongest cs m y → x ≡ y
longest_lexeme cs n m x y a b =
    let e = sym (lexeme_is (take n cs) x a.spelled) ∙ ap (λ k. lexeme_of (take k cs)) (longest_length cs n m x y a b) ∙ lexeme_is (take m cs) y b.spelled in cc e

line_end_same : (cs : List ℕ) (n m : ℕ) → IsLineEnd cs n → IsLineEnd cs m → n ≡ m
line_end_same cs n m (a, at, before) (b, there, earlier) = neither_less n m (λ h. both_ways (is_at_line_end (drop n cs)) (earlier n h) at) (λ h. both_ways (is_at_line_end (drop m cs)) (before m h) there)

mark_same : (cs : List ℕ) (n m : ℕ) → IsFirstMark cs n → IsFirstMark cs m → n ≡ m
mark_same cs n m (at, before) (there, earlier) = neither_less n m (λ h. both_ways (is_at_mark (drop n cs)) (earlier n h) at) (λ h. both_ways (is_at_mark (drop m cs)) (before m h) there)

pub piece_same : (cs : List ℕ) (n m : ℕ) (t u : Option Token) → IsPiece cs n t → IsPiece cs m u → (n ≡ m) × (t ≡ u)
piece_same cs n m t u (IsPiece.token {t = v} a r) (IsPiece.token {t = w} b s) = (longest_length cs n m (TokenLexeme v) (TokenLexeme w) a b, let e = longest_lexeme cs n m (TokenLexeme v) (TokenLexeme w) a b in cc e)
piece_same cs n m t u (IsPiece.token a r) (IsPiece.white b) = absurd (let e = longest_lexeme cs _ _ _ _ a b in cc e)
piece_same cs n m t u (IsPiece.token a r) (IsPiece.line_comment j b s) = absurd (let e = longest_lexeme cs _ _ _ _ a b in cc e)
piece_same cs n m t u (IsPiece.token a r) (IsPiece.mark_comment j b s) = absurd (let e = longest_lexeme cs _ _ _ _ a b in cc e)
piece_same cs n m t u (IsPiece.white a) (IsPiece.token b s) = absurd (let e = longest_lexeme cs _ _ _ _ a b in cc e)
piece_same cs n m t u (IsPiece.white a) (IsPiece.white b) = (refl, refl)
piece_same cs n m t u (IsPiece.white a) (IsPiece.line_comment j b s) = absurd (let e = longest_lexeme cs _ _ _ _ a b in cc e)
piece_same cs n m t u (IsPiece.white a) (IsPiece.mark_comment j b s) = absurd (let e = longest_lexeme cs _ _ _ _ a b in cc e)
piece_same cs n m t u (IsPiece.line_comment i a r) (IsPiece.token b s) = absurd (let e = longest_lexeme cs _ _ _ _ a b in cc e)
piece_same cs n m t u (IsPiece.line_comment i a r) (IsPiece.white b) = absurd (let e = longest_lexeme cs _ _ _ _ a b in cc e)
piece_same cs n m t u (IsPiece.line_comment i a r) (IsPiece.line_comment j b s) = (ap (λ k. 2 + k) (line_end_same (drop 2 cs) i j r s), refl)
piece_same cs n m t u (IsPiece.line_comment i a r) (IsPiece.mark_comment j b s) = absurd (let e = longest_lexeme cs _ _ _ _ a b in cc e)
piece_same cs n m t u (IsPiece.mark_comment i a r) (IsPiece.token b s) = absurd (let e = longest_lexeme cs _ _ _ _ a b in cc e)
piece_same cs n m t u (IsPiece.mark_comment i a r) (IsPiece.white b) = absurd (let e = longest_lexeme cs _ _ _ _ a b in cc e)
piece_same cs n m t u (IsPiece.mark_comment i a r) (IsPiece.line_comment j b s) = absurd (let e = longest_lexeme cs _ _ _ _ a b in cc e)
piece_same cs n m t u (IsPiece.mark_comment i a r) (IsPiece.mark_comment j b s) = (ap (λ k. 2 + k + 2) (mark_same (drop 2 cs) i j r s), refl)

empty_longest : (n : ℕ) (x : Lexeme) → ¬ (IsLongest [] n x)
empty_longest zero x a = let e = lexeme_is [] x a.spelled in absurd (cc e)
empty_longest (suc n) x a = absurd (omega (arith, a.within))

empty_piece : (cs : List ℕ) (n : ℕ) (t : Option Token) → cs ≡ [] → ¬ (IsPiece cs n t)
empty_piece cs n t e (IsPiece.token {t = v} a r) = empty_longest n (TokenLexeme v) (subst (λ s. IsLongest s n (TokenLexeme v)) e a)
empty_piece cs n t e (IsPiece.white a) = empty_longest 1 White (subst (λ s. IsLongest s 1 White) e a)
empty_piece cs n t e (IsPiece.line_comment i a r) = empty_longest 2 ToLineEnd (subst (λ s. IsLongest s 2 ToLineEnd) e a)
empty_piece cs n t e (IsPiece.mark_comment i a r) = empty_longest 2 ToMark (subst (λ s. IsLongest s 2 ToMark) e a)

pub divided_same : (before cs left over : List ℕ) (ts us : List PlacedToken) → left ≡ [] → over ≡ [] → IsDivided before cs ts left → IsDivided before cs us over → ts ≡ us
divided_same before cs left over ts us e h (IsDivided.stop b c) (IsDivided.stop d f) = refl
divided_same before cs left over ts us e h (IsDivided.stop b c) (IsDivided.piece {n = m} {t = u} q after) = absurd (empty_piece cs m u e q)
divided_same before cs left over ts us e h (IsDivided.piece {n = n} {t = t} p rest) (IsDivided.stop b c) = absurd (empty_piece cs n t h p)
divided_same before cs left over ts us e h (IsDivided.piece {n = n} {t = t} {ts = vs} p rest) (IsDivided.piece {n = m} {t = u} {ts = ws} q after) =
    let f = (piece_same cs n m t u p q).0 in
    let g = (piece_same cs n m t u p q).1 in
    let ih = divided_same (before ++ take n cs) (drop n cs) left over vs ws e h rest (subst (λ k. IsDivided (before ++ take k cs) (drop k cs) ws over) (sym f) after) in
    ap (λ zs. placed before (take n cs) t ++ zs) ih ∙ ap₂ (λ k o. placed before (take k cs) o ++ ws) f g

-- a text has at most one list of tokens, and one place behind its last character
pub tokens_same : (bytes : List ℕ) (ts us : List PlacedToken) (p q : Place) → AreTokens bytes ts p → AreTokens bytes us q → (ts ≡ us) × (p ≡ q)
tokens_same bytes ts us p q a b =
    let e = encodes_same a.characters b.characters (a.are_characters.1 ∙ sym b.are_characters.1) in (
      divided_same [] a.characters [] [] ts us refl refl a.divided (subst (λ cs. IsDivided [] cs us []) (sym e) b.divided),
      a.end_is ∙ ap (place_after first_place) e ∙ sym b.end_is,
    )

pub some_lexeme : (cs : List ℕ) (n : ℕ) (x : Lexeme) → StartsWithNoLexeme cs → ¬ (IsLongest cs n x)
some_lexeme cs n x none a = none n x a.within a.spelled

in_range_number : (v : ℕ) → greatest_number < v → ¬ (IsInRange (NumberToken v))
in_range_number v h k = absurd (omega (arith, h, k))

pub refused_no_piece : (cs : List ℕ) (fault : TextFault) (n : ℕ) (t : Option Token) → IsRefusedHere cs fault → ¬ (IsPiece cs n t)
refused_no_piece cs fault n t (IsRefusedHere.no_token h none) (IsPiece.token b s) = some_lexeme cs _ _ none b
refused_no_piece cs fault n t (IsRefusedHere.no_token h none) (IsPiece.white b) = some_lexeme cs _ _ none b
refused_no_piece cs fault n t (IsRefusedHere.no_token h none) (IsPiece.line_comment j b s) = some_lexeme cs _ _ none b
refused_no_piece cs fault n t (IsRefusedHere.no_token h none) (IsPiece.mark_comment j b s) = some_lexeme cs _ _ none b
refused_no_piece cs fault n t (IsRefusedHere.open_comment a none) (IsPiece.token b s) = absurd (let e = longest_lexeme cs _ _ _ _ a b in cc e)
refused_no_piece cs fault n t (IsRefusedHere.open_comment a none) (IsPiece.white b) = absurd (let e = longest_lexeme cs _ _ _ _ a b in cc e)
refused_no_piece cs fault n t (IsRefusedHere.open_comment a none) (IsPiece.line_comment j b s) = absurd (let e = longest_lexeme cs _ _ _ _ a b in cc e)
refused_no_piece cs fault n t (IsRefusedHere.open_comment a none) (IsPiece.mark_comment j b s) = absurd (both_ways (is_at_mark (drop j (drop 2 cs))) (none j) s.0)
refused_no_piece cs fault n t (IsRefusedHere.large_number m v a large) (IsPiece.token {t = w} b s) =
    let e = longest_lexeme cs m n (TokenLexeme (NumberToken v)) (TokenLexeme w) a b in
    let f : w ≡ NumberToken v = cc e in
    in_range_number v large (subst IsInRange f s)
refused_no_piece cs fault n t (IsRefusedHere.large_number m v a large) (IsPiece.white b) = absurd (let e = longest_lexeme cs _ _ _ _ a b in cc e)
refused_no_piece cs fault n t (IsRefusedHere.large_number m v a large) (IsPiece.line_comment j b s) = absurd (let e = longest_lexeme cs _ _ _ _ a b in cc e)
refused_no_piece cs fault n t (IsRefusedHere.large_number m v a large) (IsPiece.mark_comment j b s) = absurd (let e = longest_lexeme cs _ _ _ _ a b in cc e)

refused_some : (cs : List ℕ) (fault : TextFault) → cs ≡ [] → ¬ (IsRefusedHere cs fault)
refused_some cs fault e (IsRefusedHere.no_token h none) = absurd (omega (arith, h, ap (λ l. length l) e))
refused_some cs fault e (IsRefusedHere.open_comment a none) = empty_longest 2 ToMark (subst (λ s. IsLongest s 2 ToMark) e a)
refused_some cs fault e (IsRefusedHere.large_number n v a large) = empty_longest n (TokenLexeme (NumberToken v)) (subst (λ s. IsLongest s n (TokenLexeme (NumberToken v))) e a)

pub divided_not_refused : (before cs left over : List ℕ) (ts us : List PlacedToken) (fault : TextFault) → over ≡ [] → IsRefusedHere left fault → IsDivided before cs ts left → ¬ (IsDivided before cs us over)
divided_not_refused before cs left over ts us fault e r (IsDivided.stop b c) (IsDivided.stop d f) = refused_some cs fault e r
divided_not_refused before cs left over ts us fault e r (IsDivided.stop b c) (IsDivided.piece {n = m} {t = u} q after) = refused_no_piece cs fault m u r q
divided_not_refused before cs left over ts us fault e r (IsDivided.piece {n = n} {t = t} p rest) (IsDivided.stop b c) = absurd (empty_piece cs n t e p)
divided_not_refused before cs left over ts us fault e r (IsDivided.piece {n = n} {t = t} {ts = vs} p rest) (IsDivided.piece {n = m} {t = u} {ts = ws} q after) =
    divided_not_refused (before ++ take n cs) (drop n cs) left over vs ws fault e r rest
    (subst (λ k. IsDivided (before ++ take k cs) (drop k cs) ws over) (sym (piece_same cs n m t u p q).0) after)

-- a text that has its tokens is not refused
pub tokens_not_refused : (bytes : List ℕ) (ts : List PlacedToken) (p q : Place) (fault : TextFault) → AreTokens bytes ts p → ¬ (IsTextRefusal bytes fault q)
tokens_not_refused bytes ts p q fault a (IsTextRefusal.long_text h) = absurd (omega (arith, h, a.short))
tokens_not_refused bytes ts p q fault a (IsTextRefusal.not_utf8 n h valid) =
    absurd (valid.longest (length bytes) valid.short (subst IsUtf8 (sym (take_all (length bytes) bytes (omega arith))) (a.characters, a.are_characters)))
tokens_not_refused bytes ts p q fault a (IsTextRefusal.here before left us f h are divided r) =
    divided_not_refused [] (before ++ left) left [] us ts fault refl r divided
    (subst (λ cs. IsDivided [] cs ts []) (encodes_same a.characters (before ++ left) (a.are_characters.1 ∙ sym are.1)) a.divided)
