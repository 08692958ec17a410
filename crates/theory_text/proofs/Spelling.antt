-- A lexeme is what its characters compute to.
use Rattle.std.proofs.Common.{◌≡◌, ℕ, leb, Bool, true, false, cond, ◌||◌, List, [], ◌∷◌, ◌++◌, refl, sym, subst, inl, inr, ◌∙◌, Some, arith, nat_eq}
use Rattle.std.proofs.lemmas.Bool.{or_cases, eqb-true, leb-true, lt-leb, and_parts}
use Rattle.std.specs.Char.{is_ascii_digit}
use Rattle.std.specs.Str.{all_ascii_digits}
use Rattle.unicode_ident.proofs.IdentLemmas.{is_xid_start-ascii}
use Rattle.unicode_ident.specs.Ident.{is_xid_start, is_xid_continue}
use Rattle.unicode_ident.proofs.Computing.{unicode_ident}
use Rattle.theory_text.specs.Token.{Keyword, Token, keyword_spelling, Sign, sign_spelling, KeywordToken, SignToken, NumberToken, digits_value, all_continue, all_primes, is_white, Spells, Lexeme, TokenLexeme, White, IsLexeme, DatatypeWord, NametypeWord, ChannelWord, AssertWord, IfWord, ThenWord, ElseWord, AndWord, OrWord, NotWord, TrueWord, FalseWord, BoolWord, StopWord, SkipWord, HeadWord, TailWord, NullWord, ElemWord, MemberWord, UnionWord, InterWord, DiffWord, CardWord, ArrowSign, BackArrowSign, BoxSign, InternalSign, TripleBarSign, DoubleBarSign, OpenSharedSign, CloseSharedSign, OpenRenamingSign, CloseRenamingSign, OpenProductionsSign, CloseProductionsSign, TracesSign, FailuresSign, InterruptSign, SlidingSign, HidingSign, SemicolonSign, GuardSign, AtSign, SameSign, DiffersSign, AtMostSign, AtLeastSign, LessSign, GreaterSign, PlusSign, MinusSign, TimesSign, PercentSign, CaretSign, HashSign, OutputSign, InputSign, RangeSign, DotSign, ColonSign, CommaSign, EqualsSign, BarSign, OpenRoundSign, CloseRoundSign, OpenSquareSign, CloseSquareSign, OpenBraceSign, CloseBraceSign}
use Rattle.theory_text.specs.Spelling.{lexeme_of, ends_name}

pub keyword_computed : (k : Keyword) → lexeme_of (keyword_spelling k) ≡ Some (TokenLexeme (KeywordToken k))
unfolding unicode_ident
keyword_computed DatatypeWord = refl
keyword_computed NametypeWord = refl
keyword_computed ChannelWord = refl
keyword_computed AssertWord = refl
keyword_computed IfWord = refl
keyword_computed ThenWord = refl
keyword_computed ElseWord = refl
keyword_computed AndWord = refl
keyword_computed OrWord = refl
keyword_computed NotWord = refl
keyword_computed TrueWord = refl
keyword_computed FalseWord = refl
keyword_computed BoolWord = refl
keyword_computed StopWord = refl
keyword_computed SkipWord = refl
keyword_computed HeadWord = refl
keyword_computed TailWord = refl
keyword_computed NullWord = refl
keyword_computed ElemWord = refl
keyword_computed MemberWord = refl
keyword_computed UnionWord = refl
keyword_computed InterWord = refl
keyword_computed DiffWord = refl
keyword_computed CardWord = refl

pub sign_computed : (s : Sign) → lexeme_of (sign_spelling s) ≡ Some (TokenLexeme (SignToken s))
unfolding unicode_ident
sign_computed ArrowSign = refl
sign_computed BackArrowSign = refl
sign_computed BoxSign = refl
sign_computed InternalSign = refl
sign_computed TripleBarSign = refl
sign_computed DoubleBarSign = refl
sign_computed OpenSharedSign = refl
sign_computed CloseSharedSign = refl
sign_computed OpenRenamingSign = refl
sign_computed CloseRenamingSign = refl
sign_computed OpenProductionsSign = refl
sign_computed CloseProductionsSign = refl
sign_computed TracesSign = refl
sign_computed FailuresSign = refl
sign_computed InterruptSign = refl
sign_computed SlidingSign = refl
sign_computed HidingSign = refl
sign_computed SemicolonSign = refl
sign_computed GuardSign = refl
sign_computed AtSign = refl
sign_computed SameSign = refl
sign_computed DiffersSign = refl
sign_computed AtMostSign = refl
sign_computed AtLeastSign = refl
sign_computed LessSign = refl
sign_computed GreaterSign = refl
sign_computed PlusSign = refl
sign_computed MinusSign = refl
sign_computed TimesSign = refl
sign_computed PercentSign = refl
sign_computed CaretSign = refl
sign_computed HashSign = refl
sign_computed OutputSign = refl
sign_computed InputSign = refl
sign_computed RangeSign = refl
sign_computed DotSign = refl
sign_computed ColonSign = refl
sign_computed CommaSign = refl
sign_computed EqualsSign = refl
sign_computed BarSign = refl
sign_computed OpenRoundSign = refl
sign_computed CloseRoundSign = refl
sign_computed OpenSquareSign = refl
sign_computed CloseSquareSign = refl
sign_computed OpenBraceSign = refl
sign_computed CloseBraceSign = refl

cond_true : (b x y : Bool) → x ≡ true → y ≡ true → cond b x y ≡ true
cond_true true x y h k = h
cond_true false x y h k = k

pub primes_end : (primes : List ℕ) → all_primes primes ≡ true → ends_name primes ≡ true
primes_end [] h = refl
primes_end (c ∷ cs) h = cond_true (is_xid_continue c) (ends_name cs) (all_primes (c ∷ cs)) (primes_end cs (and_parts (nat_eq c 39) (all_primes cs) h).1) h

pub name_ends : (cs primes : List ℕ) → all_continue cs ≡ true → all_primes primes ≡ true → ends_name (cs ++ primes) ≡ true
name_ends [] primes h k = primes_end primes k
name_ends (c ∷ cs) primes h k = let b = and_parts (is_xid_continue c) (all_continue cs) h in rw (b.0) (name_ends cs primes b.1 k)

-- no digit begins a name
pub digit_starts_no_name : (c : ℕ) → is_ascii_digit c ≡ true → is_xid_start c ≡ false
digit_starts_no_name c h = let b = leb-true c 57 (and_parts (leb 48 c) (leb c 57) h).1 in
    is_xid_start-ascii c (omega arith) ∙ rw (lt-leb 65 c (omega arith), lt-leb 97 c (omega arith)) refl

pub number_computed : (c : ℕ) (cs : List ℕ) → all_ascii_digits (c ∷ cs) ≡ true → lexeme_of (c ∷ cs) ≡ Some (TokenLexeme (NumberToken (digits_value 0 (c ∷ cs))))
number_computed c cs h = rw (digit_starts_no_name c (and_parts (is_ascii_digit c) (all_ascii_digits cs) h).0, h) refl

white_one : (c n : ℕ) → lexeme_of (n ∷ []) ≡ Some White → nat_eq c n ≡ true → lexeme_of (c ∷ []) ≡ Some White
white_one c n known h = subst (λ x. lexeme_of (x ∷ []) ≡ Some White) (sym (eqb-true c n h)) known

pub white_computed : (c : ℕ) → is_white c ≡ true → lexeme_of (c ∷ []) ≡ Some White
unfolding unicode_ident
white_computed c h = elim (or_cases (nat_eq c 32 || nat_eq c 9 || nat_eq c 13) (nat_eq c 10) h) [
  | inr k ↦ white_one c 10 refl k
  | inl k ↦ elim (or_cases (nat_eq c 32 || nat_eq c 9) (nat_eq c 13) k) [
    | inr l ↦ white_one c 13 refl l
    | inl l ↦ elim (or_cases (nat_eq c 32) (nat_eq c 9) l) [ inl m ↦ white_one c 32 refl m | inr m ↦ white_one c 9 refl m ]
  ]
]

pub spelled_is : (cs : List ℕ) (t : Token) → Spells cs t → lexeme_of cs ≡ Some (TokenLexeme t)
spelled_is cs t (Spells.keyword k) = keyword_computed k
spelled_is cs t (Spells.sign k) = sign_computed k
spelled_is cs t (Spells.name c ds primes starts continues ends free) = rw (starts, free, name_ends ds primes continues ends) refl
spelled_is cs t (Spells.number c ds digits) = number_computed c ds digits

pub lexeme_is : (cs : List ℕ) (x : Lexeme) → IsLexeme cs x → lexeme_of cs ≡ Some x
unfolding unicode_ident
lexeme_is cs x (IsLexeme.token s) = spelled_is cs _ s
lexeme_is cs x (IsLexeme.white c w) = white_computed c w
lexeme_is cs x IsLexeme.to_line_end = refl
lexeme_is cs x IsLexeme.to_mark = refl
