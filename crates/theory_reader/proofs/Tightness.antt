-- How tight a token holds to the form in front of it, and the parts of lists of tokens.
use Rattle.std.proofs.Common.{◌≡◌, ◌∙◌, ℕ, ◌<◌, ◌≤◌, List, [], ◌∷◌, ◌++◌, arith, append_assoc}
use Rattle.theory_text.specs.Token.{Token, Keyword, KeywordToken, Sign, SignToken, PlacedToken, AndWord, ArrowSign, AtLeastSign, AtMostSign, BarSign, BoxSign, CaretSign, ColonSign, CommaSign, DiffersSign, DotSign, GreaterSign, GuardSign, HidingSign, InputSign, InternalSign, InterruptSign, LessSign, MinusSign, OpenRenamingSign, OpenRoundSign, OpenSharedSign, OpenSquareSign, OrWord, OutputSign, PercentSign, PlusSign, SameSign, SemicolonSign, SlidingSign, TimesSign, TripleBarSign}
use Rattle.theory_text.specs.Grammar.{IsWord, word, IsSign, sign}

abbrev Tokens : Type 0
Tokens = List PlacedToken

pub parts3 : (a b c r : Tokens) → (a ++ b ++ c) ++ r ≡ a ++ (b ++ (c ++ r))
parts3 a b c r = append_assoc (a ++ b) c r ∙ append_assoc a b (c ++ r)

pub parts4 : (a b c d r : Tokens) → (a ++ b ++ c ++ d) ++ r ≡ a ++ (b ++ (c ++ (d ++ r)))
parts4 a b c d r = append_assoc (a ++ b ++ c) d r ∙ parts3 a b c (d ++ r)

pub parts5 : (a b c d x r : Tokens) → (a ++ b ++ c ++ d ++ x) ++ r ≡ a ++ (b ++ (c ++ (d ++ (x ++ r))))
parts5 a b c d x r = append_assoc (a ++ b ++ c ++ d) x r ∙ parts4 a b c d (x ++ r)

pub parts6 : (a b c d x y r : Tokens) → (a ++ b ++ c ++ d ++ x ++ y) ++ r ≡ a ++ (b ++ (c ++ (d ++ (x ++ (y ++ r)))))
parts6 a b c d x y r = append_assoc (a ++ b ++ c ++ d ++ x) y r ∙ parts5 a b c d x (y ++ r)

pub parts7 : (a b c d x y z r : Tokens) → (a ++ b ++ c ++ d ++ x ++ y ++ z) ++ r ≡ a ++ (b ++ (c ++ (d ++ (x ++ (y ++ (z ++ r))))))
parts7 a b c d x y z r = append_assoc (a ++ b ++ c ++ d ++ x ++ y) z r ∙ parts6 a b c d x y (z ++ r)

-- WHAT GOES ON WITH A FORM

-- How tight a token holds to the form in front of it: 1 separates, 2 to 4 go on with a process, 5 and 6 with an operand, and from 7 on with an expression.
abbrev pub tightness : Token → ℕ
tightness (SignToken CommaSign) = 1
tightness (SignToken BarSign) = 1
tightness (SignToken ColonSign) = 1
tightness (SignToken BoxSign) = 2
tightness (SignToken InternalSign) = 2
tightness (SignToken SemicolonSign) = 2
tightness (SignToken TripleBarSign) = 2
tightness (SignToken InterruptSign) = 2
tightness (SignToken SlidingSign) = 2
tightness (SignToken OpenSharedSign) = 2
tightness (SignToken OpenSquareSign) = 2
tightness (SignToken HidingSign) = 3
tightness (SignToken OpenRenamingSign) = 4
tightness (SignToken GuardSign) = 5
tightness (SignToken OpenRoundSign) = 6
tightness (SignToken DotSign) = 6
tightness (SignToken OutputSign) = 6
tightness (SignToken InputSign) = 6
tightness (SignToken ArrowSign) = 6
tightness (KeywordToken OrWord) = 7
tightness (KeywordToken AndWord) = 8
tightness (SignToken SameSign) = 9
tightness (SignToken DiffersSign) = 9
tightness (SignToken LessSign) = 9
tightness (SignToken AtMostSign) = 9
tightness (SignToken GreaterSign) = 9
tightness (SignToken AtLeastSign) = 9
tightness (SignToken PlusSign) = 10
tightness (SignToken MinusSign) = 10
tightness (SignToken CaretSign) = 10
tightness (SignToken TimesSign) = 11
tightness (SignToken PercentSign) = 11
tightness _ = 0

abbrev pub front_tightness : Tokens → ℕ
front_tightness [] = 0
front_tightness (t ∷ ts) = tightness t.token

-- the tokens do not go on with a form of this tightness
abbrev pub Stops : ℕ → Tokens → Type 0
Stops k r = front_tightness r < k

pub stops_more : (k l : ℕ) (r : Tokens) → k ≤ l → Stops k r → Stops l r
stops_more k l r h s = omega (arith, h, s)

pub stops_at : {s : Sign} {a : Tokens} (k : ℕ) (r : Tokens) → IsSign s a → tightness (SignToken s) < k → Stops k (a ++ r)
stops_at k r (sign t e) h = rw e h

pub stops_at_word : {w : Keyword} {a : Tokens} (k : ℕ) (r : Tokens) → IsWord w a → tightness (KeywordToken w) < k → Stops k (a ++ r)
stops_at_word k r (word t e) h = rw e h
