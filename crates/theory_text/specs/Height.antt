-- The height of tokens, and the refusals of the grammar.
use Rattle.std.specs.Prelude.{◌≡◌, ℕ, ◌+◌, ◌<◌, max, Bool, true, false, cond, List, [], ◌∷◌, ◌++◌}
use Rattle.theory_text.specs.Place.{Place}
use Rattle.theory_text.specs.Token.{Token, KeywordToken, SignToken, PlacedToken, IfWord, ThenWord, ElseWord, AndWord, OrWord, NotWord, ArrowSign, BoxSign, InternalSign, TripleBarSign, OpenSharedSign, CloseSharedSign, OpenRenamingSign, CloseRenamingSign, OpenProductionsSign, CloseProductionsSign, InterruptSign, SlidingSign, HidingSign, SemicolonSign, GuardSign, AtSign, SameSign, DiffersSign, AtMostSign, AtLeastSign, LessSign, GreaterSign, PlusSign, MinusSign, TimesSign, PercentSign, CaretSign, HashSign, OpenRoundSign, CloseRoundSign, OpenSquareSign, CloseSquareSign, OpenBraceSign, CloseBraceSign}
use Rattle.theory_text.specs.Raw.{RawDeclaration, RawScript}
use Rattle.theory_text.specs.Grammar.{IsDeclaration, IsScript, BeginsScript}

-- What a token does for the height: it opens or closes a bracket group, counts one, or does nothing.
-- `[` and `]]` are told apart, since `]]` behind a `[` closes that group and the one around it, as in `[deadlock free [F]]`.
pub data Nesting : Type 0 where
  Opens OpensSquare Closes ClosesDouble Counts Plain : Nesting

abbrev pub nesting : Token → Nesting
nesting (SignToken OpenRoundSign) = Opens
nesting (SignToken OpenSquareSign) = OpensSquare
nesting (SignToken OpenSharedSign) = Opens
nesting (SignToken OpenRenamingSign) = Opens
nesting (SignToken OpenBraceSign) = Opens
nesting (SignToken OpenProductionsSign) = Opens
nesting (SignToken CloseRoundSign) = Closes
nesting (SignToken CloseSquareSign) = Closes
nesting (SignToken CloseSharedSign) = Closes
nesting (SignToken CloseRenamingSign) = ClosesDouble
nesting (SignToken CloseBraceSign) = Closes
nesting (SignToken CloseProductionsSign) = Closes
nesting (SignToken ArrowSign) = Counts
nesting (SignToken GuardSign) = Counts
nesting (SignToken AtSign) = Counts
nesting (SignToken BoxSign) = Counts
nesting (SignToken InternalSign) = Counts
nesting (SignToken SemicolonSign) = Counts
nesting (SignToken TripleBarSign) = Counts
nesting (SignToken InterruptSign) = Counts
nesting (SignToken SlidingSign) = Counts
nesting (SignToken HidingSign) = Counts
nesting (SignToken SameSign) = Counts
nesting (SignToken DiffersSign) = Counts
nesting (SignToken LessSign) = Counts
nesting (SignToken AtMostSign) = Counts
nesting (SignToken GreaterSign) = Counts
nesting (SignToken AtLeastSign) = Counts
nesting (SignToken PlusSign) = Counts
nesting (SignToken MinusSign) = Counts
nesting (SignToken TimesSign) = Counts
nesting (SignToken PercentSign) = Counts
nesting (SignToken CaretSign) = Counts
nesting (SignToken HashSign) = Counts
nesting (KeywordToken IfWord) = Counts
nesting (KeywordToken ThenWord) = Counts
nesting (KeywordToken ElseWord) = Counts
nesting (KeywordToken AndWord) = Counts
nesting (KeywordToken OrWord) = Counts
nesting (KeywordToken NotWord) = Counts
nesting _ = Plain

-- A list of tokens: whether `[` opened it, how many count directly in it, an opening bracket among them, and the greatest height of a group in it.
pub record Group : Type 0 where
  pub square : Bool
  pub direct : ℕ
  pub deepest : ℕ

abbrev pub no_tokens : Group
no_tokens = record { square = false; direct = 0; deepest = 0 }

-- the same, opened by `[`
abbrev pub no_tokens_yet : Bool → Group
no_tokens_yet square = record { square = square; direct = 0; deepest = 0 }

abbrev pub group_height : Group → ℕ
group_height g = g.direct + g.deepest

abbrev pub one_more : Group → Group
one_more g = record { square = g.square; direct = g.direct + 1; deepest = g.deepest }

-- a group in the list around it
abbrev pub with_group : Group → Group → Group
with_group around g = record { square = around.square; direct = around.direct; deepest = max around.deepest (group_height g) }

-- Where a token stands: the group that is open there, and the groups around it from the inside out.
pub record Nest : Type 0 where
  pub current : Group
  pub around : List Group

-- a closing bracket ends the group, where one is open
abbrev pub closed : Group → List Group → Nest
closed g [] = record { current = g; around = [] }
closed g (around ∷ gs) = record { current = with_group around g; around = gs }

-- `]]` does, and where `[` opened that, it ends the one around it too
abbrev pub closed_double : Nest → Nest
closed_double n = cond n.current.square (let once = closed n.current n.around in closed once.current once.around) (closed n.current n.around)

abbrev pub after_token : Nesting → Nest → Nest
after_token Opens n = record { current = no_tokens; around = one_more n.current ∷ n.around }
after_token OpensSquare n = record { current = no_tokens_yet true; around = one_more n.current ∷ n.around }
after_token Closes n = closed n.current n.around
after_token ClosesDouble n = closed_double n
after_token Counts n = record { current = one_more n.current; around = n.around }
after_token Plain n = n

abbrev pub after_tokens : Nest → List PlacedToken → Nest
after_tokens n [] = n
after_tokens n (t ∷ ts) = after_tokens (after_token (nesting t.token) n) ts

-- the height where all groups end with the tokens
abbrev pub ended_height : Group → List Group → ℕ
ended_height g [] = group_height g
ended_height g (around ∷ gs) = ended_height (with_group around g) gs

abbrev pub nest_height : Nest → ℕ
nest_height n = ended_height n.current n.around

-- The height of a list of tokens: those that count directly in it, and the greatest height of a bracket group directly in it.
abbrev pub tokens_height : List PlacedToken → ℕ
tokens_height ts = nest_height (after_tokens (record { current = no_tokens; around = [] }) ts)

abbrev pub greatest_height : ℕ
greatest_height = 100

-- some tokens behind these make a declaration
abbrev pub BeginsDeclaration : List PlacedToken → Type 0
BeginsDeclaration ts = (more : List PlacedToken) × (d : RawDeclaration) × IsDeclaration (ts ++ more) d

-- The tokens are whole declarations, and then the beginning of one more that is not empty; only no tokens at all have an empty one.
pub data IsLatest : List PlacedToken → List PlacedToken → Type 0 where
  nothing : IsLatest [] []
  latest : (before : List PlacedToken) (s : RawScript) (t : PlacedToken) (ts : List PlacedToken) → IsScript before s → BeginsDeclaration (t ∷ ts) → IsLatest (before ++ t ∷ ts) (t ∷ ts)

-- With t behind these tokens the height of the declaration of the last of them, or of t, is too great.
-- A token that begins a declaration counts nothing.
abbrev pub IsTooHigh : List PlacedToken → PlacedToken → Type 0
IsTooHigh before t = (latest : List PlacedToken) × IsLatest before latest × (greatest_height < tokens_height (latest ++ t ∷ []))

abbrev pub HasNoneTooHigh : List PlacedToken → Type 0
HasNoneTooHigh ts = (before after : List PlacedToken) (t : PlacedToken) → ts ≡ before ++ t ∷ after → ¬ (IsTooHigh before t)

-- a script of the grammar within the limit of heights
abbrev pub IsParsed : List PlacedToken → RawScript → Type 0
IsParsed ts s = IsScript ts s × HasNoneTooHigh ts

-- S01, S02, S03, S04
pub data GrammarFault : Type 0 where
  UnexpectedToken Nested UnexpectedEnd MixedOperators : GrammarFault

-- infix operators of processes, `[`, `[|`, `[[` and the hiding sign are mixed operators
abbrev pub token_fault : Token → GrammarFault
token_fault (SignToken BoxSign) = MixedOperators
token_fault (SignToken InternalSign) = MixedOperators
token_fault (SignToken SemicolonSign) = MixedOperators
token_fault (SignToken TripleBarSign) = MixedOperators
token_fault (SignToken InterruptSign) = MixedOperators
token_fault (SignToken SlidingSign) = MixedOperators
token_fault (SignToken OpenSquareSign) = MixedOperators
token_fault (SignToken OpenSharedSign) = MixedOperators
token_fault (SignToken OpenRenamingSign) = MixedOperators
token_fault (SignToken HidingSign) = MixedOperators
token_fault _ = UnexpectedToken

-- Where each refusal may stand, for the tokens of a text and the place behind its last character.
pub data MayRefuse (tokens : List PlacedToken) (end : Place) : GrammarFault → Place → Type 0 where
  at_token : (before after : List PlacedToken) (t : PlacedToken) → tokens ≡ before ++ t ∷ after → ¬ (BeginsScript (before ++ t ∷ [])) → HasNoneTooHigh (before ++ t ∷ []) →
      MayRefuse tokens end (token_fault t.token) t.place
  nested : (before after : List PlacedToken) (t : PlacedToken) → tokens ≡ before ++ t ∷ after → IsTooHigh before t → HasNoneTooHigh before → MayRefuse tokens end Nested t.place
  at_end : ((s : RawScript) → ¬ (IsScript tokens s)) → MayRefuse tokens end UnexpectedEnd end

-- The refusal of the tokens: at the earliest token, and at one token for its height.
pub data IsGrammarRefusal (tokens : List PlacedToken) (end : Place) : GrammarFault → Place → Type 0 where
  at_token : (before after : List PlacedToken) (t : PlacedToken) → tokens ≡ before ++ t ∷ after → BeginsScript before → ¬ (BeginsScript (before ++ t ∷ [])) →
      HasNoneTooHigh (before ++ t ∷ []) → IsGrammarRefusal tokens end (token_fault t.token) t.place
  nested : (before after : List PlacedToken) (t : PlacedToken) → tokens ≡ before ++ t ∷ after → IsTooHigh before t → HasNoneTooHigh before → IsGrammarRefusal tokens end Nested t.place
  at_end : BeginsScript tokens → HasNoneTooHigh tokens → ((s : RawScript) → ¬ (IsScript tokens s)) → IsGrammarRefusal tokens end UnexpectedEnd end
