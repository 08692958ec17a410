-- Programs that read tokens. Each choice is made by the next token alone.
use Rattle.std.specs.Prelude.{ℕ, Bool, true, cond, ◌&&◌, nat_lt, List, [], ◌∷◌, Option, Some, None, option_map, Result, Ok, Err}
use Rattle.theory_text.specs.Token.{Token, Keyword, Sign, KeywordToken, SignToken, NameToken, NumberToken, PlacedToken}
use Rattle.theory_text.specs.Height.{Nest, no_tokens, nesting, after_token, nest_height, greatest_height}
use Rattle.theory_reader.specs.Forms.{Form, Tree}

-- what a token is, but for the characters of a name
pub data Seen : Type 0 where
  SeenWord : (keyword : Keyword) → Seen
  SeenSign : (sign : Sign) → Seen
  SeenName : Seen
  SeenNumber : (value : ℕ) → Seen

abbrev pub seen : Token → Seen
seen (KeywordToken k) = SeenWord k
seen (SignToken s) = SeenSign s
seen (NameToken cs) = SeenName
seen (NumberToken n) = SeenNumber n

abbrev pub seen_of : PlacedToken → Seen
seen_of t = seen t.token

-- the first of these tokens, if there is one
abbrev pub first : List PlacedToken → Option PlacedToken
first [] = None
first (t ∷ ts) = Some t

-- What is left to read, and the groups that are open behind its first token.
pub record Standing : Type 0 where
  pub left : List PlacedToken
  pub nest : Nest

-- why a reader stopped: the next token does not go on with what is read, or is too high
pub data Halt : Type 0 where
  Here High : Halt

-- what was read, and where the tokens stand behind it; or why it stopped, and the tokens that were left
abbrev pub Outcome : Type 0 → Type 0
Outcome A = Result (A × Standing) (Halt × List PlacedToken)

abbrev pub and_then : {A B : Type 0} → Outcome A → (A → Standing → Outcome B) → Outcome B
and_then (Ok p) f = f p.0 p.1
and_then (Err e) f = Err e

-- The first of these tokens, if there is one, is counted behind n; a limited reader stops where that is too high.
abbrev pub count_to : Bool → Nest → List PlacedToken → Outcome (Unit {0})
count_to limited n [] = Ok (tt, record { left = []; nest = n })
count_to limited n (t ∷ ts) =
    cond (limited && nat_lt greatest_height (nest_height (after_token (nesting t.token) n))) (Err (High, t ∷ ts))
    (Ok (tt, record { left = t ∷ ts; nest = after_token (nesting t.token) n }))

abbrev pub count : Nest → List PlacedToken → Outcome (Unit {0})
count = count_to true

abbrev pub pass_from_to : Bool → List PlacedToken → Nest → Outcome (Unit {0})
pass_from_to limited [] n = Err (Here, [])
pass_from_to limited (t ∷ ts) n = count_to limited n ts

abbrev pub pass_from : List PlacedToken → Nest → Outcome (Unit {0})
pass_from = pass_from_to true

-- one token is passed
abbrev pub passed_to : Bool → Standing → Outcome (Unit {0})
passed_to limited s = pass_from_to limited s.left s.nest

abbrev pub passed : Standing → Outcome (Unit {0})
passed = passed_to true

-- before the first token of a declaration
abbrev pub start : Nest
start = record { current = no_tokens; around = [] }

-- A program answers, refuses the next token, looks at it, passes it, or reads a form.
pub data Program (A : Type 0) : Type 0 where
  give : (answer : A) → Program A
  refuse : Program A
  look : (by : Option PlacedToken → Program A) → Program A
  pass : (rest : Program A) → Program A
  call : (form : Form) (rest : Tree form → Program A) → Program A

infixl 10 ◌>>=◌
abbrev pub ◌>>=◌ : {A B : Type 0} → Program A → (A → Program B) → Program B
give x >>= f = f x
refuse >>= f = refuse
look k >>= f = look (λ t. k t >>= f)
pass p >>= f = pass (p >>= f)
call q k >>= f = call q (λ x. k x >>= f)

infixl 10 ◌>>◌
abbrev pub ◌>>◌ : {A B : Type 0} → Program A → Program B → Program B
p >> q = p >>= (λ _. q)

abbrev pub form : (f : Form) → Program (Tree f)
form f = call f give

-- what the next token is
abbrev pub peek : Program (Option Seen)
peek = look (λ t. give (option_map seen_of t))

-- the answers for the forms that a program reads
abbrev pub Oracle : Type 0
Oracle = (f : Form) → Standing → Outcome (Tree f)

abbrev pub run_to : {A : Type 0} → Bool → Oracle → Program A → Standing → Outcome A
run_to limited o (give x) s = Ok (x, s)
run_to limited o refuse s = Err (Here, s.left)
run_to limited o (look k) s = run_to limited o (k (first s.left)) s
run_to limited o (pass p) s = and_then (passed_to limited s) (λ _. run_to limited o p)
run_to limited o (call f k) s = and_then (o f s) (λ x. run_to limited o (k x))

abbrev pub run : {A : Type 0} → Oracle → Program A → Standing → Outcome A
run = run_to true
