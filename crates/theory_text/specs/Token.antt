-- The tokens of a script, and the division of a text into them (FDR manual, CSPM).
use Rattle.std.specs.Prelude.{◌≡◌, ℕ, ◌+◌, ◌*◌, ◌-◌, ◌<◌, ◌≤◌, Bool, true, ◌&&◌, ◌||◌, IsTrue, IsFalse, List, [], ◌∷◌, ◌++◌, length, take, drop, codes, nat_eq, Option, Some, None, ⊤}
use Rattle.std.specs.List.{list_any, starts_with}
use Rattle.std.specs.Str.{all_scalars, encode_utf8_all, chars, bytes_eq, all_ascii_digits, IsValidUpTo}
use Rattle.unicode_ident.specs.Ident.{is_xid_start, is_xid_continue}
use Rattle.theory_text.specs.Place.{Place, first_place, line_feed, place_after, bytes_of}

-- the words that are no names
pub data Keyword : Type 0 where
  DatatypeWord NametypeWord ChannelWord AssertWord IfWord ThenWord ElseWord AndWord : Keyword
  OrWord NotWord TrueWord FalseWord BoolWord StopWord SkipWord HeadWord : Keyword
  TailWord NullWord ElemWord MemberWord UnionWord InterWord DiffWord CardWord : Keyword

abbrev pub keyword_spelling : Keyword → List ℕ
keyword_spelling DatatypeWord = codes "datatype"
keyword_spelling NametypeWord = codes "nametype"
keyword_spelling ChannelWord = codes "channel"
keyword_spelling AssertWord = codes "assert"
keyword_spelling IfWord = codes "if"
keyword_spelling ThenWord = codes "then"
keyword_spelling ElseWord = codes "else"
keyword_spelling AndWord = codes "and"
keyword_spelling OrWord = codes "or"
keyword_spelling NotWord = codes "not"
keyword_spelling TrueWord = codes "true"
keyword_spelling FalseWord = codes "false"
keyword_spelling BoolWord = codes "Bool"
keyword_spelling StopWord = codes "STOP"
keyword_spelling SkipWord = codes "SKIP"
keyword_spelling HeadWord = codes "head"
keyword_spelling TailWord = codes "tail"
keyword_spelling NullWord = codes "null"
keyword_spelling ElemWord = codes "elem"
keyword_spelling MemberWord = codes "member"
keyword_spelling UnionWord = codes "union"
keyword_spelling InterWord = codes "inter"
keyword_spelling DiffWord = codes "diff"
keyword_spelling CardWord = codes "card"

abbrev pub keywords : List Keyword
keywords = DatatypeWord ∷ NametypeWord ∷ ChannelWord ∷ AssertWord ∷ IfWord ∷ ThenWord ∷ ElseWord ∷ AndWord ∷ OrWord ∷ NotWord ∷ TrueWord ∷ FalseWord ∷ BoolWord ∷ StopWord ∷ SkipWord ∷ HeadWord ∷ TailWord ∷ NullWord ∷ ElemWord ∷ MemberWord ∷ UnionWord ∷ InterWord ∷ DiffWord ∷ CardWord ∷ []

abbrev pub is_keyword : List ℕ → Bool
is_keyword cs = list_any (λ k. bytes_eq (keyword_spelling k) cs) keywords

-- the signs
pub data Sign : Type 0 where
  ArrowSign BackArrowSign BoxSign InternalSign TripleBarSign DoubleBarSign : Sign
  OpenSharedSign CloseSharedSign OpenRenamingSign CloseRenamingSign OpenProductionsSign CloseProductionsSign : Sign
  TracesSign FailuresSign InterruptSign SlidingSign HidingSign SemicolonSign GuardSign : Sign
  AtSign SameSign DiffersSign AtMostSign AtLeastSign LessSign : Sign
  GreaterSign PlusSign MinusSign TimesSign PercentSign CaretSign : Sign
  HashSign OutputSign InputSign RangeSign DotSign ColonSign : Sign
  CommaSign EqualsSign BarSign OpenRoundSign CloseRoundSign OpenSquareSign : Sign
  CloseSquareSign OpenBraceSign CloseBraceSign : Sign

abbrev pub sign_spelling : Sign → List ℕ
sign_spelling ArrowSign = codes "->"
sign_spelling BackArrowSign = codes "<-"
sign_spelling BoxSign = codes "[]"
sign_spelling InternalSign = codes "|~|"
sign_spelling TripleBarSign = codes "|||"
sign_spelling DoubleBarSign = codes "||"
sign_spelling OpenSharedSign = codes "[|"
sign_spelling CloseSharedSign = codes "|]"
sign_spelling OpenRenamingSign = codes "[["
sign_spelling CloseRenamingSign = codes "]]"
sign_spelling OpenProductionsSign = codes "{|"
sign_spelling CloseProductionsSign = codes "|}"
sign_spelling TracesSign = codes "[T="
sign_spelling FailuresSign = codes "[F="
sign_spelling InterruptSign = codes "/\\"
sign_spelling SlidingSign = codes "[>"
sign_spelling HidingSign = codes "\\"
sign_spelling SemicolonSign = codes ";"
sign_spelling GuardSign = codes "&"
sign_spelling AtSign = codes "@"
sign_spelling SameSign = codes "=="
sign_spelling DiffersSign = codes "!="
sign_spelling AtMostSign = codes "<="
sign_spelling AtLeastSign = codes ">="
sign_spelling LessSign = codes "<"
sign_spelling GreaterSign = codes ">"
sign_spelling PlusSign = codes "+"
sign_spelling MinusSign = codes "-"
sign_spelling TimesSign = codes "*"
sign_spelling PercentSign = codes "%"
sign_spelling CaretSign = codes "^"
sign_spelling HashSign = codes "#"
sign_spelling OutputSign = codes "!"
sign_spelling InputSign = codes "?"
sign_spelling RangeSign = codes ".."
sign_spelling DotSign = codes "."
sign_spelling ColonSign = codes ":"
sign_spelling CommaSign = codes ","
sign_spelling EqualsSign = codes "="
sign_spelling BarSign = codes "|"
sign_spelling OpenRoundSign = codes "("
sign_spelling CloseRoundSign = codes ")"
sign_spelling OpenSquareSign = codes "["
sign_spelling CloseSquareSign = codes "]"
sign_spelling OpenBraceSign = codes "{"
sign_spelling CloseBraceSign = codes "}"

-- A name is known by its characters, and a number by its value.
pub data Token : Type 0 where
  KeywordToken : (keyword : Keyword) → Token
  SignToken : (sign : Sign) → Token
  NameToken : (characters : List ℕ) → Token
  NumberToken : (value : ℕ) → Token

-- the value of a run of digits, behind digits of value n
abbrev pub digits_value : ℕ → List ℕ → ℕ
digits_value n [] = n
digits_value n (c ∷ cs) = digits_value (n * 10 + (c - 48)) cs

abbrev pub all_continue : List ℕ → Bool
all_continue [] = true
all_continue (c ∷ cs) = is_xid_continue c && all_continue cs

abbrev pub all_primes : List ℕ → Bool
all_primes [] = true
all_primes (c ∷ cs) = nat_eq c 39 && all_primes cs

-- The characters that a token may be written with. A name ends in any number of `'`.
pub data Spells : List ℕ → Token → Type 0 where
  keyword : (k : Keyword) → Spells (keyword_spelling k) (KeywordToken k)
  sign : (s : Sign) → Spells (sign_spelling s) (SignToken s)
  name : (c : ℕ) (cs primes : List ℕ) → IsTrue (is_xid_start c) → IsTrue (all_continue cs) → IsTrue (all_primes primes) → IsFalse (is_keyword (c ∷ cs ++ primes)) →
      Spells (c ∷ cs ++ primes) (NameToken (c ∷ cs ++ primes))
  number : (c : ℕ) (cs : List ℕ) → IsTrue (all_ascii_digits (c ∷ cs)) → Spells (c ∷ cs) (NumberToken (digits_value 0 (c ∷ cs)))

-- space, tab, CR and LF
abbrev pub is_white : ℕ → Bool
is_white c = nat_eq c 32 || nat_eq c 9 || nat_eq c 13 || nat_eq c line_feed

-- What can stand at a place: a token, white space, or one of the two beginnings of a comment.
pub data Lexeme : Type 0 where
  TokenLexeme : (token : Token) → Lexeme
  White : Lexeme
  ToLineEnd : Lexeme
  ToMark : Lexeme

pub data IsLexeme : List ℕ → Lexeme → Type 0 where
  token : {cs : List ℕ} {t : Token} → Spells cs t → IsLexeme cs (TokenLexeme t)
  white : (c : ℕ) → IsTrue (is_white c) → IsLexeme (c ∷ []) White
  to_line_end : IsLexeme (codes "--") ToLineEnd
  to_mark : IsLexeme (codes "{-") ToMark

-- the first n characters are a lexeme, and no longer beginning is one
pub record IsLongest (cs : List ℕ) (n : ℕ) (x : Lexeme) : Type 0 where
  pub within : n ≤ length cs
  pub spelled : IsLexeme (take n cs) x
  pub longest : (m : ℕ) (y : Lexeme) → n < m → m ≤ length cs → ¬ (IsLexeme (take m cs) y)

-- no beginning is a lexeme
abbrev pub StartsWithNoLexeme : List ℕ → Type 0
StartsWithNoLexeme cs = (m : ℕ) (y : Lexeme) → m ≤ length cs → ¬ (IsLexeme (take m cs) y)

-- the mark that ends a comment begun by `{-`
abbrev pub is_at_mark : List ℕ → Bool
is_at_mark cs = starts_with nat_eq cs (codes "-}")

-- the mark stands at n and nowhere before; it stands nowhere
abbrev pub IsFirstMark : List ℕ → ℕ → Type 0
IsFirstMark cs n = IsTrue (is_at_mark (drop n cs)) × ((m : ℕ) → m < n → IsFalse (is_at_mark (drop m cs)))

abbrev pub HasNoMark : List ℕ → Type 0
HasNoMark cs = (m : ℕ) → IsFalse (is_at_mark (drop m cs))

-- a line ends before these characters
abbrev pub is_at_line_end : List ℕ → Bool
is_at_line_end [] = true
is_at_line_end (c ∷ cs) = nat_eq c line_feed

-- the line ends at n and not before
abbrev pub IsLineEnd : List ℕ → ℕ → Type 0
IsLineEnd cs n = (n ≤ length cs) × IsTrue (is_at_line_end (drop n cs)) × ((m : ℕ) → m < n → IsFalse (is_at_line_end (drop m cs)))

-- the greatest number of a script
abbrev pub greatest_number : ℕ
greatest_number = 2147483647

abbrev pub IsInRange : Token → Type 0
IsInRange (NumberToken n) = n ≤ greatest_number
IsInRange _ = ⊤

-- The first piece of a text and its length: a token that is in range, a white character, or a whole comment.
pub data IsPiece (cs : List ℕ) : ℕ → Option Token → Type 0 where
  token : {n : ℕ} {t : Token} → IsLongest cs n (TokenLexeme t) → IsInRange t → IsPiece cs n (Some t)
  white : IsLongest cs 1 White → IsPiece cs 1 None
  line_comment : (n : ℕ) → IsLongest cs 2 ToLineEnd → IsLineEnd (drop 2 cs) n → IsPiece cs (2 + n) None
  mark_comment : (n : ℕ) → IsLongest cs 2 ToMark → IsFirstMark (drop 2 cs) n → IsPiece cs (2 + n + 2) None

-- A token with its place, and the bytes from which and to which it stands.
pub record PlacedToken : Type 0 where
  pub token : Token
  pub place : Place
  pub from : ℕ
  pub to : ℕ

-- the token of a piece with these characters, behind the characters before it
abbrev pub placed : List ℕ → List ℕ → Option Token → List PlacedToken
placed before cs None = []
placed before cs (Some t) = record { token = t; place = place_after first_place before; from = bytes_of before; to = bytes_of (before ++ cs) } ∷ []

-- The division of what stands behind some characters: its tokens, and what is left of it.
pub data IsDivided : List ℕ → List ℕ → List PlacedToken → List ℕ → Type 0 where
  stop : (before cs : List ℕ) → IsDivided before cs [] cs
  piece : {before cs left : List ℕ} {n : ℕ} {t : Option Token} {ts : List PlacedToken} → IsPiece cs n t → IsDivided (before ++ take n cs) (drop n cs) ts left →
      IsDivided before cs (placed before (take n cs) t ++ ts) left

-- bytes of a text that a script may have
abbrev pub longest_text : ℕ
longest_text = 65536

-- the bytes are these characters
abbrev pub AreCharacters : List ℕ → List ℕ → Type 0
AreCharacters cs bytes = (all_scalars cs ≡ true) × (encode_utf8_all cs ≡ bytes)

-- the tokens of a text, and the place behind its last character
pub record AreTokens (bytes : List ℕ) (tokens : List PlacedToken) (end : Place) : Type 0 where
  pub short : length bytes ≤ longest_text
  pub characters : List ℕ
  pub are_characters : AreCharacters characters bytes
  pub divided : IsDivided [] characters tokens []
  pub end_is : end ≡ place_after first_place characters

-- L01, L02, L03, L04, L05
pub data TextFault : Type 0 where
  NoToken OpenComment LargeNumber NotUtf8 LongText : TextFault

-- what is refused where it stands first
pub data IsRefusedHere (cs : List ℕ) : TextFault → Type 0 where
  no_token : 0 < length cs → StartsWithNoLexeme cs → IsRefusedHere cs NoToken
  open_comment : IsLongest cs 2 ToMark → HasNoMark (drop 2 cs) → IsRefusedHere cs OpenComment
  large_number : (n v : ℕ) → IsLongest cs n (TokenLexeme (NumberToken v)) → greatest_number < v → IsRefusedHere cs LargeNumber

-- The refusal of a text. The length goes first, then the form of the bytes, then the first of the others in the text.
pub data IsTextRefusal (bytes : List ℕ) : TextFault → Place → Type 0 where
  long_text : longest_text < length bytes → IsTextRefusal bytes LongText first_place
  not_utf8 : (n : ℕ) → length bytes ≤ longest_text → IsValidUpTo bytes n → IsTextRefusal bytes NotUtf8 (place_after first_place (chars (take n bytes)))
  here : (before left : List ℕ) (tokens : List PlacedToken) (fault : TextFault) → length bytes ≤ longest_text → AreCharacters (before ++ left) bytes →
      IsDivided [] (before ++ left) tokens left → IsRefusedHere left fault → IsTextRefusal bytes fault (place_after first_place before)
