-- Tokens, as the definitions have them.
use Rattle.std.specs.Prelude.{◌≡◌, ℕ, List, [], ◌∷◌, ⊤, slice_range}
use Rattle.std.specs.Str.{chars}
use Rattle.theory_text.specs.Token as text
use Rattle.csp_lex.specs.declared.keywords.Keyword.{Keyword}
use Rattle.csp_lex.specs.declared.keywords.Keyword.TheVariants as keyword
use Rattle.csp_lex.specs.declared.kinds.TokenKind.{TokenKind}
use Rattle.csp_lex.specs.declared.kinds.TokenKind.TheVariants as kind
use Rattle.csp_lex.specs.declared.kinds.Token.{Token}
use Rattle.csp_lex.specs.declared.signs.Sign.{Sign}
use Rattle.csp_lex.specs.declared.signs.Sign.TheVariants as sign
use Rattle.csp_lex.specs.Places.{place_of}

abbrev pub keyword_of : Keyword → text.Keyword
keyword_of keyword.Datatype = text.DatatypeWord
keyword_of keyword.Nametype = text.NametypeWord
keyword_of keyword.Channel = text.ChannelWord
keyword_of keyword.Assert = text.AssertWord
keyword_of keyword.If = text.IfWord
keyword_of keyword.Then = text.ThenWord
keyword_of keyword.Else = text.ElseWord
keyword_of keyword.And = text.AndWord
keyword_of keyword.Or = text.OrWord
keyword_of keyword.Not = text.NotWord
keyword_of keyword.True = text.TrueWord
keyword_of keyword.False = text.FalseWord
keyword_of keyword.Bool = text.BoolWord
keyword_of keyword.Stop = text.StopWord
keyword_of keyword.Skip = text.SkipWord
keyword_of keyword.Head = text.HeadWord
keyword_of keyword.Tail = text.TailWord
keyword_of keyword.Null = text.NullWord
keyword_of keyword.Elem = text.ElemWord
keyword_of keyword.Member = text.MemberWord
keyword_of keyword.Union = text.UnionWord
keyword_of keyword.Inter = text.InterWord
keyword_of keyword.Diff = text.DiffWord
keyword_of keyword.Card = text.CardWord

abbrev pub sign_of : Sign → text.Sign
sign_of sign.Arrow = text.ArrowSign
sign_of sign.BackArrow = text.BackArrowSign
sign_of sign.Box = text.BoxSign
sign_of sign.Internal = text.InternalSign
sign_of sign.TripleBar = text.TripleBarSign
sign_of sign.DoubleBar = text.DoubleBarSign
sign_of sign.OpenShared = text.OpenSharedSign
sign_of sign.CloseShared = text.CloseSharedSign
sign_of sign.OpenRenaming = text.OpenRenamingSign
sign_of sign.CloseRenaming = text.CloseRenamingSign
sign_of sign.OpenProductions = text.OpenProductionsSign
sign_of sign.CloseProductions = text.CloseProductionsSign
sign_of sign.Traces = text.TracesSign
sign_of sign.Failures = text.FailuresSign
sign_of sign.Interrupt = text.InterruptSign
sign_of sign.Sliding = text.SlidingSign
sign_of sign.Hiding = text.HidingSign
sign_of sign.Semicolon = text.SemicolonSign
sign_of sign.Guard = text.GuardSign
sign_of sign.At = text.AtSign
sign_of sign.Same = text.SameSign
sign_of sign.Differs = text.DiffersSign
sign_of sign.AtMost = text.AtMostSign
sign_of sign.AtLeast = text.AtLeastSign
sign_of sign.Less = text.LessSign
sign_of sign.Greater = text.GreaterSign
sign_of sign.Plus = text.PlusSign
sign_of sign.Minus = text.MinusSign
sign_of sign.Times = text.TimesSign
sign_of sign.Percent = text.PercentSign
sign_of sign.Caret = text.CaretSign
sign_of sign.Hash = text.HashSign
sign_of sign.Output = text.OutputSign
sign_of sign.Input = text.InputSign
sign_of sign.Range = text.RangeSign
sign_of sign.Dot = text.DotSign
sign_of sign.Colon = text.ColonSign
sign_of sign.Comma = text.CommaSign
sign_of sign.Equals = text.EqualsSign
sign_of sign.Bar = text.BarSign
sign_of sign.OpenRound = text.OpenRoundSign
sign_of sign.CloseRound = text.CloseRoundSign
sign_of sign.OpenSquare = text.OpenSquareSign
sign_of sign.CloseSquare = text.CloseSquareSign
sign_of sign.OpenBrace = text.OpenBraceSign
sign_of sign.CloseBrace = text.CloseBraceSign

-- the token of a kind that is written with these characters
abbrev pub token_of : TokenKind → List ℕ → text.Token
token_of (kind.Keyword k) cs = text.KeywordToken (keyword_of k)
token_of (kind.Sign s) cs = text.SignToken (sign_of s)
token_of kind.Name cs = text.NameToken cs
token_of (kind.Number n) cs = text.NumberToken n

abbrev pub placed_token : Token → text.PlacedToken
placed_token t = record { token = token_of t.kind (chars t.text.now); place = place_of t.place; from = t.from; to = t.to }

-- the text of each token is the slice of these bytes that it stands at
abbrev pub AreSlices : List ℕ → List Token → Type 0
AreSlices bytes [] = ⊤
AreSlices bytes (t ∷ ts) = (t.text.now ≡ slice_range bytes t.from t.to) × AreSlices bytes ts
