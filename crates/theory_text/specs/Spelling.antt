-- Which lexeme some characters are, computed.
use Rattle.std.specs.Prelude.{ℕ, Bool, true, cond, List, [], ◌∷◌, length, codes, nat_eq, Option, Some, None}
use Rattle.std.specs.Str.{bytes_eq, all_ascii_digits}
use Rattle.unicode_ident.specs.Ident.{is_xid_start, is_xid_continue}
use Rattle.theory_text.specs.Token.{Keyword, keywords, keyword_spelling, is_keyword, Sign, sign_spelling, KeywordToken, SignToken, NameToken, NumberToken, digits_value, all_primes, is_white, Lexeme, TokenLexeme, White, ToLineEnd, ToMark, ArrowSign, BackArrowSign, BoxSign, InternalSign, TripleBarSign, DoubleBarSign, OpenSharedSign, CloseSharedSign, OpenRenamingSign, CloseRenamingSign, OpenProductionsSign, CloseProductionsSign, TracesSign, FailuresSign, InterruptSign, SlidingSign, HidingSign, SemicolonSign, GuardSign, AtSign, SameSign, DiffersSign, AtMostSign, AtLeastSign, LessSign, GreaterSign, PlusSign, MinusSign, TimesSign, PercentSign, CaretSign, HashSign, OutputSign, InputSign, RangeSign, DotSign, ColonSign, CommaSign, EqualsSign, BarSign, OpenRoundSign, CloseRoundSign, OpenSquareSign, CloseSquareSign, OpenBraceSign, CloseBraceSign}

abbrev pub signs : List Sign
signs = ArrowSign ∷ BackArrowSign ∷ BoxSign ∷ InternalSign ∷ TripleBarSign ∷ DoubleBarSign ∷ OpenSharedSign ∷ CloseSharedSign ∷ OpenRenamingSign ∷ CloseRenamingSign ∷ OpenProductionsSign ∷ CloseProductionsSign ∷ TracesSign ∷ FailuresSign ∷ InterruptSign ∷ SlidingSign ∷ HidingSign ∷ SemicolonSign ∷ GuardSign ∷ AtSign ∷ SameSign ∷ DiffersSign ∷ AtMostSign ∷ AtLeastSign ∷ LessSign ∷ GreaterSign ∷ PlusSign ∷ MinusSign ∷ TimesSign ∷ PercentSign ∷ CaretSign ∷ HashSign ∷ OutputSign ∷ InputSign ∷ RangeSign ∷ DotSign ∷ ColonSign ∷ CommaSign ∷ EqualsSign ∷ BarSign ∷ OpenRoundSign ∷ CloseRoundSign ∷ OpenSquareSign ∷ CloseSquareSign ∷ OpenBraceSign ∷ CloseBraceSign ∷ []

-- the rest of a name
abbrev pub ends_name : List ℕ → Bool
ends_name [] = true
ends_name (c ∷ cs) = cond (is_xid_continue c) (ends_name cs) (all_primes (c ∷ cs))

abbrev pub keyword_of : List Keyword → List ℕ → Option Lexeme
keyword_of [] cs = None
keyword_of (k ∷ ks) cs = cond (bytes_eq (keyword_spelling k) cs) (Some (TokenLexeme (KeywordToken k))) (keyword_of ks cs)

abbrev pub sign_of : List Sign → List ℕ → Option Lexeme
sign_of [] cs = None
sign_of (s ∷ ss) cs = cond (bytes_eq (sign_spelling s) cs) (Some (TokenLexeme (SignToken s))) (sign_of ss cs)

-- a sign, or the beginning of a comment
abbrev pub mark_of : List ℕ → Option Lexeme
mark_of cs = cond (bytes_eq (codes "--") cs) (Some ToLineEnd) (cond (bytes_eq (codes "{-") cs) (Some ToMark) (sign_of signs cs))

abbrev pub lexeme_of : List ℕ → Option Lexeme
lexeme_of [] = None
lexeme_of (c ∷ cs) =
    cond (is_xid_start c) (cond (is_keyword (c ∷ cs)) (keyword_of keywords (c ∷ cs)) (cond (ends_name cs) (Some (TokenLexeme (NameToken (c ∷ cs)))) None))
    (cond (all_ascii_digits (c ∷ cs)) (Some (TokenLexeme (NumberToken (digits_value 0 (c ∷ cs)))))
    (cond (is_white c) (cond (nat_eq (length cs) 0) (Some White) None) (mark_of (c ∷ cs))))
