-- A text has its tokens or is refused.
use Rattle.std.proofs.Common.{◌≡◌, ℕ, zero, suc, ◌+◌, ◌<◌, ◌≤◌, true, false, cond, List, [], ◌∷◌, ◌++◌, length, take, drop, refl, sym, ap, subst, inl, inr, ◌⊎◌, ◌∙◌, Option, Some, None, arith, nat_eq, append_assoc, take-append-drop, length-take-le, length-drop}
use Rattle.std.proofs.lemmas.Bool.{cases_Bool, both_ways, cases_lt}
use Rattle.std.proofs.lemmas.List.{take_all}
use Rattle.std.proofs.lemmas.Str.{IsUtf8-nil, IsUtf8-from_is_utf8, is_utf8-from_IsUtf8}
use Rattle.std.proofs.Math.Dec.{eqb-suc-zero}
use Rattle.std.proofs.Math.Seq.{drop-nil}
use Rattle.std.specs.Str.{IsUtf8, is_utf8, IsValidUpTo, chars, bytes_eq, all_ascii_digits}
use Rattle.unicode_ident.specs.Ident.{is_xid_start, is_xid_continue}
use Rattle.theory_text.specs.Place.{Place, first_place, place_after, line_feed}
use Rattle.theory_text.specs.Token.{Keyword, keywords, keyword_spelling, is_keyword, KeywordToken, SignToken, NameToken, NumberToken, Token, Spells, all_continue, all_primes, is_white, digits_value, Lexeme, TokenLexeme, White, ToLineEnd, ToMark, IsLexeme, IsLongest, StartsWithNoLexeme, greatest_number, IsInRange, IsPiece, is_at_mark, IsFirstMark, HasNoMark, is_at_line_end, IsLineEnd, PlacedToken, placed, IsDivided, longest_text, AreCharacters, AreTokens, TextFault, NoToken, LargeNumber, OpenComment, NotUtf8, LongText, IsRefusedHere, IsTextRefusal}
use Rattle.theory_text.specs.Spelling.{lexeme_of, ends_name, keyword_of}
use Rattle.theory_text.proofs.Fronts.{same_bytes, mark_found, none_is_no_lexeme}
use Rattle.theory_text.proofs.Pieces.{line_opening_size, mark_opening_size, piece_is_some}

-- the parts of the rest of a name
record NameParts (cs : List ℕ) : Type 0 where
  goes : List ℕ
  primes : List ℕ
  all : cs ≡ goes ++ primes
  goes_on : all_continue goes ≡ true
  are_primes : all_primes primes ≡ true

name_parts : (cs : List ℕ) → ends_name cs ≡ true → NameParts cs
name_parts [] h = record { goes = []; primes = []; all = refl; goes_on = refl; are_primes = refl }
name_parts (c ∷ cs) h = elim (cases_Bool (is_xid_continue c)) [
  | inl e ↦
      let p = name_parts cs (rw e at h) in
      record { goes = c ∷ p.goes; primes = p.primes; all = ap (λ zs. c ∷ zs) p.all; goes_on = rw e (p.goes_on); are_primes = p.are_primes }
  | inr e ↦ record { goes = []; primes = c ∷ cs; all = refl; goes_on = refl; are_primes = rw e at h }
]

same_lexeme : (cs : List ℕ) (x y : Lexeme) → IsLexeme cs x → Some x ≡ Some y → IsLexeme cs y
same_lexeme cs x y s e = let same : x ≡ y = cc e in subst (IsLexeme cs) same s

keyword_found : (ks : List Keyword) (cs : List ℕ) (x : Lexeme) → keyword_of ks cs ≡ Some x → IsLexeme cs x
keyword_found [] cs x e = absurd (cc e)
keyword_found (k ∷ ks) cs x e = elim (cases_Bool (bytes_eq (keyword_spelling k) cs)) [
  | inl h ↦ same_lexeme cs (TokenLexeme (KeywordToken k)) x (subst (λ zs. IsLexeme zs (TokenLexeme (KeywordToken k))) (same_bytes (keyword_spelling k) cs h) (IsLexeme.token (Spells.keyword k))) (rw h at e)
  | inr h ↦ keyword_found ks cs x (rw h at e)
]

name_found : (c : ℕ) (cs : List ℕ) → is_xid_start c ≡ true → is_keyword (c ∷ cs) ≡ false → NameParts cs → IsLexeme (c ∷ cs) (TokenLexeme (NameToken (c ∷ cs)))
name_found c cs starts free p =
    subst (λ zs. IsLexeme (c ∷ zs) (TokenLexeme (NameToken (c ∷ zs)))) (sym p.all)
    (IsLexeme.token (Spells.name c p.goes p.primes starts p.goes_on p.are_primes (subst (λ zs. is_keyword (c ∷ zs) ≡ false) p.all free)))

word_found : (c : ℕ) (cs : List ℕ) (x : Lexeme) → is_xid_start c ≡ true → cond (is_keyword (c ∷ cs)) (keyword_of keywords (c ∷ cs)) (cond (ends_name cs) (Some (TokenLexeme (NameToken (c ∷ cs)))) None) ≡ Some x → IsLexeme (c ∷ cs) x
word_found c cs x starts e = elim (cases_Bool (is_keyword (c ∷ cs))) [
  | inl h ↦ keyword_found keywords (c ∷ cs) x (rw h at e)
  | inr h ↦ elim (cases_Bool (ends_name cs)) [
    | inl k ↦ same_lexeme (c ∷ cs) (TokenLexeme (NameToken (c ∷ cs))) x (name_found c cs starts h (name_parts cs k)) (rw (h, k) at e)
    | inr k ↦ let no : None ≡ Some x = rw (h, k) at e in absurd (cc no)
  ]
]

white_found : (c : ℕ) (cs : List ℕ) (x : Lexeme) → is_white c ≡ true → cond (nat_eq (length cs) 0) (Some White) None ≡ Some x → IsLexeme (c ∷ cs) x
white_found c [] x white e = same_lexeme (c ∷ []) White x (IsLexeme.white c white) e
white_found c (d ∷ cs) x white e = let no : None ≡ Some x = rw (eqb-suc-zero (length cs)) at e in absurd (cc no)

-- what characters compute to as a lexeme, they are
pub lexeme_found : (cs : List ℕ) (x : Lexeme) → lexeme_of cs ≡ Some x → IsLexeme cs x
lexeme_found [] x e = absurd (cc e)
lexeme_found (c ∷ cs) x e = elim (cases_Bool (is_xid_start c)) [
  | inl a ↦ word_found c cs x a (rw a at e)
  | inr a ↦ elim (cases_Bool (all_ascii_digits (c ∷ cs))) [
    | inl b ↦ same_lexeme (c ∷ cs) (TokenLexeme (NumberToken (digits_value 0 (c ∷ cs)))) x (IsLexeme.token (Spells.number c cs b)) (rw (a, b) at e)
    | inr b ↦ elim (cases_Bool (is_white c)) [
      | inl w ↦ white_found c cs x w (rw (a, b, w) at e)
      | inr w ↦ mark_found (c ∷ cs) x (rw (a, b, w) at e)
    ]
  ]
]

-- THE LONGEST LEXEME

record SomeLongest (cs : List ℕ) : Type 0 where
  size : ℕ
  lexeme : Lexeme
  longest : IsLongest cs size lexeme

abbrev NoneAbove : List ℕ → ℕ → Type 0
NoneAbove cs k = (m : ℕ) (y : Lexeme) → k < m → m ≤ length cs → ¬ (IsLexeme (take m cs) y)

none_at_all : (cs : List ℕ) → NoneAbove cs 0 → StartsWithNoLexeme cs
none_at_all cs none zero y within s = none_is_no_lexeme [] refl y s
none_at_all cs none (suc m) y within s = none (suc m) y (omega arith) within s

none_below : (cs : List ℕ) (k : ℕ) → lexeme_of (take (suc k) cs) ≡ None → NoneAbove cs (suc k) → NoneAbove cs k
none_below cs k here none m y above within s = elim (cases_lt (suc k) m) [
  | inl h ↦ none m y h within s
  | inr h ↦ let e : m ≡ suc k = omega (arith, above, h) in none_is_no_lexeme (take (suc k) cs) here y (subst (λ i. IsLexeme (take i cs) y) e s)
]

longest_or_less : (cs : List ℕ) (k : ℕ) (o : Option Lexeme) → lexeme_of (take (suc k) cs) ≡ o → suc k ≤ length cs → NoneAbove cs (suc k)
    → (NoneAbove cs k → SomeLongest cs ⊎ StartsWithNoLexeme cs) → SomeLongest cs ⊎ StartsWithNoLexeme cs
longest_or_less cs k (Some x) e within none less = inl (record { size = suc k; lexeme = x; longest = record { within = within; spelled = lexeme_found (take (suc k) cs) x e; longest = none } })
longest_or_less cs k None e within none less = less (none_below cs k e none)

longest_from : (cs : List ℕ) (k : ℕ) → k ≤ length cs → NoneAbove cs k → SomeLongest cs ⊎ StartsWithNoLexeme cs
longest_from cs zero within none = inr (none_at_all cs none)
longest_from cs (suc k) within none = longest_or_less cs k (lexeme_of (take (suc k) cs)) refl within none (longest_from cs k (omega (arith, within)))

longest_or_none : (cs : List ℕ) → SomeLongest cs ⊎ StartsWithNoLexeme cs
longest_or_none cs = longest_from cs (length cs) (omega arith) (λ m y above within s. absurd (omega (arith, above, within)))

-- PIECES

record SomePiece (cs : List ℕ) : Type 0 where
  size : ℕ
  token : Option Token
  piece : IsPiece cs size token

record SomeRefusal (cs : List ℕ) : Type 0 where
  fault : TextFault
  refused : IsRefusedHere cs fault

mark_not_before : (c : ℕ) (cs : List ℕ) (n : ℕ) → is_at_mark (c ∷ cs) ≡ false → ((m : ℕ) → m < n → is_at_mark (drop m cs) ≡ false) → (m : ℕ) → m < suc n → is_at_mark (drop m (c ∷ cs)) ≡ false
mark_not_before c cs n e before zero below = e
mark_not_before c cs n e before (suc m) below = before m (omega (arith, below))

mark_nowhere : (c : ℕ) (cs : List ℕ) → is_at_mark (c ∷ cs) ≡ false → HasNoMark cs → HasNoMark (c ∷ cs)
mark_nowhere c cs e none zero = e
mark_nowhere c cs e none (suc m) = none m

first_mark : (cs : List ℕ) → ((n : ℕ) × IsFirstMark cs n) ⊎ HasNoMark cs
first_mark [] = inr (λ m. ap is_at_mark (drop-nil m))
first_mark (c ∷ cs) = elim (cases_Bool (is_at_mark (c ∷ cs))) [
  | inl e ↦ inl (0, (e, λ m below. absurd (omega (arith, below))))
  | inr e ↦ elim (first_mark cs) [
    | inl found ↦ inl (suc found.0, (found.1.0, mark_not_before c cs found.0 e found.1.1))
    | inr none ↦ inr (mark_nowhere c cs e none)
  ]
]

line_end_not_before : (c : ℕ) (cs : List ℕ) (n : ℕ) → nat_eq c line_feed ≡ false → ((m : ℕ) → m < n → is_at_line_end (drop m cs) ≡ false) → (m : ℕ) → m < suc n → is_at_line_end (drop m (c ∷ cs)) ≡ false
line_end_not_before c cs n e before zero below = e
line_end_not_before c cs n e before (suc m) below = before m (omega (arith, below))

line_end_of : (cs : List ℕ) → (n : ℕ) × IsLineEnd cs n
line_end_of [] = (0, (omega arith, refl, λ m below. absurd (omega (arith, below))))
line_end_of (c ∷ cs) = elim (cases_Bool (nat_eq c line_feed)) [
  | inl e ↦ (0, (omega arith, e, λ m below. absurd (omega (arith, below))))
  | inr e ↦ let later = line_end_of cs in (suc later.0, (omega (arith, later.1.0), later.1.1, line_end_not_before c cs later.0 e later.1.2))
]

range_or_large : (t : Token) → IsInRange t ⊎ ((v : ℕ) × (t ≡ NumberToken v) × (greatest_number < v))
range_or_large (KeywordToken k) = inl tt
range_or_large (SignToken s) = inl tt
range_or_large (NameToken cs) = inl tt
range_or_large (NumberToken v) = elim (cases_lt greatest_number v) [ inl past ↦ inr (v, refl, past) | inr within ↦ inl within ]

white_alone : (cs : List ℕ) (x : Lexeme) → x ≡ White → IsLexeme cs x → length cs ≡ 1
white_alone cs x e (IsLexeme.token {t = t} s) = absurd (cc e)
white_alone cs x e (IsLexeme.white c w) = refl
white_alone cs x e IsLexeme.to_line_end = absurd (cc e)
white_alone cs x e IsLexeme.to_mark = absurd (cc e)

white_size : (cs : List ℕ) (n : ℕ) → IsLongest cs n White → n ≡ 1
white_size cs n a = sym (length-take-le n cs a.within) ∙ white_alone (take n cs) White refl a.spelled

token_or_large : (cs : List ℕ) (n : ℕ) (t : Token) → IsLongest cs n (TokenLexeme t) → SomePiece cs ⊎ SomeRefusal cs
token_or_large cs n t a = elim (range_or_large t) [
  | inl within ↦ inl (record { size = n; token = Some t; piece = IsPiece.token a within })
  | inr large ↦ inr (record { fault = LargeNumber; refused = IsRefusedHere.large_number n large.0 (subst (λ u. IsLongest cs n (TokenLexeme u)) large.1 a) large.2 })
]

comment_or_open : (cs : List ℕ) → IsLongest cs 2 ToMark → SomePiece cs ⊎ SomeRefusal cs
comment_or_open cs a = elim (first_mark (drop 2 cs)) [
  | inl found ↦ inl (record { size = 2 + found.0 + 2; token = None; piece = IsPiece.mark_comment found.0 a found.1 })
  | inr none ↦ inr (record { fault = OpenComment; refused = IsRefusedHere.open_comment a none })
]

of_longest : (cs : List ℕ) (n : ℕ) (x : Lexeme) → IsLongest cs n x → SomePiece cs ⊎ SomeRefusal cs
of_longest cs n (TokenLexeme t) a = token_or_large cs n t a
of_longest cs n White a = inl (record { size = 1; token = None; piece = IsPiece.white (subst (λ k. IsLongest cs k White) (white_size cs n a) a) })
of_longest cs n ToLineEnd a =
    let ends = line_end_of (drop 2 cs) in
    inl (record { size = 2 + ends.0; token = None; piece = IsPiece.line_comment ends.0 (subst (λ k. IsLongest cs k ToLineEnd) (line_opening_size cs n a) a) ends.1 })
of_longest cs n ToMark a = comment_or_open cs (subst (λ k. IsLongest cs k ToMark) (mark_opening_size cs n a) a)

piece_or_refusal : (cs : List ℕ) → 0 < length cs → SomePiece cs ⊎ SomeRefusal cs
piece_or_refusal cs some = elim (longest_or_none cs) [
  | inl l ↦ of_longest cs l.size l.lexeme l.longest
  | inr none ↦ inr (record { fault = NoToken; refused = IsRefusedHere.no_token some none })
]

-- DIVISIONS

record WholeDivision (before cs : List ℕ) : Type 0 where
  tokens : List PlacedToken
  divided : IsDivided before cs tokens []

record RefusedDivision (before cs : List ℕ) : Type 0 where
  passed : List ℕ
  left : List ℕ
  tokens : List PlacedToken
  fault : TextFault
  parts : cs ≡ passed ++ left
  divided : IsDivided before cs tokens left
  refused : IsRefusedHere left fault

piece_first : (before cs : List ℕ) (p : SomePiece cs) → WholeDivision (before ++ take p.size cs) (drop p.size cs) ⊎ RefusedDivision (before ++ take p.size cs) (drop p.size cs)
    → WholeDivision before cs ⊎ RefusedDivision before cs
piece_first before cs p (inl whole) = inl (record { tokens = placed before (take p.size cs) p.token ++ whole.tokens; divided = IsDivided.piece p.piece whole.divided })
piece_first before cs p (inr stopped) = inr (record {
  passed = take p.size cs ++ stopped.passed;
  left = stopped.left;
  tokens = placed before (take p.size cs) p.token ++ stopped.tokens;
  fault = stopped.fault;
  parts = sym (take-append-drop p.size cs) ∙ ap (λ zs. take p.size cs ++ zs) stopped.parts ∙ sym (append_assoc (take p.size cs) stopped.passed stopped.left);
  divided = IsDivided.piece p.piece stopped.divided;
  refused = stopped.refused;
})

division_of : (most : ℕ) (before cs : List ℕ) → length cs ≤ most → WholeDivision before cs ⊎ RefusedDivision before cs
division_of most before [] within = inl (record { tokens = []; divided = IsDivided.stop before [] })
division_of zero before (c ∷ cs) within = absurd (omega (arith, within))
division_of (suc most) before (c ∷ cs) within = elim (piece_or_refusal (c ∷ cs) (omega arith)) [
  | inl p ↦ piece_first before (c ∷ cs) p (division_of most (before ++ take p.size (c ∷ cs)) (drop p.size (c ∷ cs)) (omega (arith, within, length-drop p.size (c ∷ cs), piece_is_some (c ∷ cs) p.size p.token p.piece)))
  | inr r ↦ inr (record { passed = []; left = c ∷ cs; tokens = []; fault = r.fault; parts = refl; divided = IsDivided.stop before (c ∷ cs); refused = r.refused })
]

-- TEXTS

abbrev pub HasTokens : List ℕ → Type 0
HasTokens bytes = (tokens : List PlacedToken) × (end : Place) × AreTokens bytes tokens end

abbrev pub HasRefusal : List ℕ → Type 0
HasRefusal bytes = (fault : TextFault) × (place : Place) × IsTextRefusal bytes fault place

characters_decided : (bytes cs : List ℕ) → length bytes ≤ longest_text → AreCharacters cs bytes → WholeDivision [] cs ⊎ RefusedDivision [] cs → HasTokens bytes ⊎ HasRefusal bytes
characters_decided bytes cs short are (inl whole) =
    inl (whole.tokens, place_after first_place cs, record { short = short; characters = cs; are_characters = are; divided = whole.divided; end_is = refl })
characters_decided bytes cs short are (inr r) = inr (
  r.fault,
  place_after first_place r.passed,
  IsTextRefusal.here r.passed r.left r.tokens r.fault short (subst (λ zs. AreCharacters zs bytes) r.parts are) (subst (λ zs. IsDivided [] zs r.tokens r.left) r.parts r.divided) r.refused,
)

abbrev NotUtf8Above : List ℕ → ℕ → Type 0
NotUtf8Above bytes k = (m : ℕ) → k < m → ¬ (IsUtf8 (take m bytes))

valid_below : (bytes : List ℕ) (k : ℕ) → k ≤ length bytes → NotUtf8Above bytes k → (n : ℕ) × (n ≤ k) × IsUtf8 (take n bytes) × NotUtf8Above bytes n
valid_below bytes zero within none = (0, omega arith, IsUtf8-nil, none)
valid_below bytes (suc k) within none = elim (cases_Bool (is_utf8 (take (suc k) bytes))) [
  | inl e ↦ (suc k, omega arith, IsUtf8-from_is_utf8 (take (suc k) bytes) e, none)
  | inr e ↦
      let less = valid_below bytes k (omega (arith, within)) (λ m above utf8. elim (cases_lt (suc k) m) [
        | inl h ↦ none m h utf8
        | inr h ↦
            let same : m ≡ suc k = omega (arith, above, h) in
            both_ways (is_utf8 (take (suc k) bytes)) e (is_utf8-from_IsUtf8 (take (suc k) bytes) (subst (λ i. IsUtf8 (take i bytes)) same utf8))
      ]) in (less.0, omega (arith, less.1), less.2, less.3)
]

valid_front : (bytes : List ℕ) → ¬ (IsUtf8 bytes) → (n : ℕ) × IsValidUpTo bytes n
valid_front bytes broken =
    let whole : (m : ℕ) → length bytes ≤ m → ¬ (IsUtf8 (take m bytes)) = λ m h utf8. broken (subst IsUtf8 (take_all m bytes h) utf8) in
    let found = valid_below bytes (length bytes) (omega arith) (λ m above. whole m (omega (arith, above))) in
    let short : found.0 < length bytes = elim (cases_lt found.0 (length bytes)) [ inl h ↦ h | inr h ↦ absurd (whole found.0 h found.2) ] in
    (found.0, record { short = short; front = found.2; longest = found.3 })

short_decided : (bytes : List ℕ) → length bytes ≤ longest_text → HasTokens bytes ⊎ HasRefusal bytes
short_decided bytes short = elim (cases_Bool (is_utf8 bytes)) [
  | inl e ↦
      let utf8 = IsUtf8-from_is_utf8 bytes e in
      characters_decided bytes utf8.0 short utf8.1 (division_of (length utf8.0) [] utf8.0 (omega arith))
  | inr e ↦
      let valid = valid_front bytes (λ utf8. both_ways (is_utf8 bytes) e (is_utf8-from_IsUtf8 bytes utf8)) in
      inr (NotUtf8, place_after first_place (chars (take valid.0 bytes)), IsTextRefusal.not_utf8 valid.0 short valid.1)
]

-- a text has its tokens or is refused
pub text_decided : (bytes : List ℕ) → HasTokens bytes ⊎ HasRefusal bytes
text_decided bytes = elim (cases_lt longest_text (length bytes)) [
  | inl long ↦ inr (LongText, first_place, IsTextRefusal.long_text long)
  | inr short ↦ short_decided bytes short
]
