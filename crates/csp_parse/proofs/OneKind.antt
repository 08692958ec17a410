-- Keywords and signs of the product are told apart by what they mean.
use Rattle.std.proofs.Common.{◌≡◌, ◌∙◌, refl, sym, ap}
use Rattle.theory_text.specs.Token as text
use Rattle.csp_lex.specs.declared.keywords.Keyword.{Keyword}
use Rattle.csp_lex.specs.declared.keywords.Keyword.TheVariants as keyword
use Rattle.csp_lex.specs.declared.signs.Sign.{Sign}
use Rattle.csp_lex.specs.declared.signs.Sign.TheVariants as sign
use Rattle.csp_lex.specs.Tokens.{keyword_of, sign_of}

-- the keyword and the sign of the product that the definitions' are
abbrev pub keyword_from : text.Keyword → Keyword
keyword_from text.DatatypeWord = keyword.Datatype
keyword_from text.NametypeWord = keyword.Nametype
keyword_from text.ChannelWord = keyword.Channel
keyword_from text.AssertWord = keyword.Assert
keyword_from text.IfWord = keyword.If
keyword_from text.ThenWord = keyword.Then
keyword_from text.ElseWord = keyword.Else
keyword_from text.AndWord = keyword.And
keyword_from text.OrWord = keyword.Or
keyword_from text.NotWord = keyword.Not
keyword_from text.TrueWord = keyword.True
keyword_from text.FalseWord = keyword.False
keyword_from text.BoolWord = keyword.Bool
keyword_from text.StopWord = keyword.Stop
keyword_from text.SkipWord = keyword.Skip
keyword_from text.HeadWord = keyword.Head
keyword_from text.TailWord = keyword.Tail
keyword_from text.NullWord = keyword.Null
keyword_from text.ElemWord = keyword.Elem
keyword_from text.MemberWord = keyword.Member
keyword_from text.UnionWord = keyword.Union
keyword_from text.InterWord = keyword.Inter
keyword_from text.DiffWord = keyword.Diff
keyword_from text.CardWord = keyword.Card

abbrev pub sign_from : text.Sign → Sign
sign_from text.ArrowSign = sign.Arrow
sign_from text.BackArrowSign = sign.BackArrow
sign_from text.BoxSign = sign.Box
sign_from text.InternalSign = sign.Internal
sign_from text.TripleBarSign = sign.TripleBar
sign_from text.DoubleBarSign = sign.DoubleBar
sign_from text.OpenSharedSign = sign.OpenShared
sign_from text.CloseSharedSign = sign.CloseShared
sign_from text.OpenRenamingSign = sign.OpenRenaming
sign_from text.CloseRenamingSign = sign.CloseRenaming
sign_from text.OpenProductionsSign = sign.OpenProductions
sign_from text.CloseProductionsSign = sign.CloseProductions
sign_from text.TracesSign = sign.Traces
sign_from text.FailuresSign = sign.Failures
sign_from text.InterruptSign = sign.Interrupt
sign_from text.SlidingSign = sign.Sliding
sign_from text.HidingSign = sign.Hiding
sign_from text.SemicolonSign = sign.Semicolon
sign_from text.GuardSign = sign.Guard
sign_from text.AtSign = sign.At
sign_from text.SameSign = sign.Same
sign_from text.DiffersSign = sign.Differs
sign_from text.AtMostSign = sign.AtMost
sign_from text.AtLeastSign = sign.AtLeast
sign_from text.LessSign = sign.Less
sign_from text.GreaterSign = sign.Greater
sign_from text.PlusSign = sign.Plus
sign_from text.MinusSign = sign.Minus
sign_from text.TimesSign = sign.Times
sign_from text.PercentSign = sign.Percent
sign_from text.CaretSign = sign.Caret
sign_from text.HashSign = sign.Hash
sign_from text.OutputSign = sign.Output
sign_from text.InputSign = sign.Input
sign_from text.RangeSign = sign.Range
sign_from text.DotSign = sign.Dot
sign_from text.ColonSign = sign.Colon
sign_from text.CommaSign = sign.Comma
sign_from text.EqualsSign = sign.Equals
sign_from text.BarSign = sign.Bar
sign_from text.OpenRoundSign = sign.OpenRound
sign_from text.CloseRoundSign = sign.CloseRound
sign_from text.OpenSquareSign = sign.OpenSquare
sign_from text.CloseSquareSign = sign.CloseSquare
sign_from text.OpenBraceSign = sign.OpenBrace
sign_from text.CloseBraceSign = sign.CloseBrace

pub keyword_back : (k : Keyword) → keyword_from (keyword_of k) ≡ k
keyword_back keyword.Datatype = refl
keyword_back keyword.Nametype = refl
keyword_back keyword.Channel = refl
keyword_back keyword.Assert = refl
keyword_back keyword.If = refl
keyword_back keyword.Then = refl
keyword_back keyword.Else = refl
keyword_back keyword.And = refl
keyword_back keyword.Or = refl
keyword_back keyword.Not = refl
keyword_back keyword.True = refl
keyword_back keyword.False = refl
keyword_back keyword.Bool = refl
keyword_back keyword.Stop = refl
keyword_back keyword.Skip = refl
keyword_back keyword.Head = refl
keyword_back keyword.Tail = refl
keyword_back keyword.Null = refl
keyword_back keyword.Elem = refl
keyword_back keyword.Member = refl
keyword_back keyword.Union = refl
keyword_back keyword.Inter = refl
keyword_back keyword.Diff = refl
keyword_back keyword.Card = refl

pub sign_back : (s : Sign) → sign_from (sign_of s) ≡ s
sign_back sign.Arrow = refl
sign_back sign.BackArrow = refl
sign_back sign.Box = refl
sign_back sign.Internal = refl
sign_back sign.TripleBar = refl
sign_back sign.DoubleBar = refl
sign_back sign.OpenShared = refl
sign_back sign.CloseShared = refl
sign_back sign.OpenRenaming = refl
sign_back sign.CloseRenaming = refl
sign_back sign.OpenProductions = refl
sign_back sign.CloseProductions = refl
sign_back sign.Traces = refl
sign_back sign.Failures = refl
sign_back sign.Interrupt = refl
sign_back sign.Sliding = refl
sign_back sign.Hiding = refl
sign_back sign.Semicolon = refl
sign_back sign.Guard = refl
sign_back sign.At = refl
sign_back sign.Same = refl
sign_back sign.Differs = refl
sign_back sign.AtMost = refl
sign_back sign.AtLeast = refl
sign_back sign.Less = refl
sign_back sign.Greater = refl
sign_back sign.Plus = refl
sign_back sign.Minus = refl
sign_back sign.Times = refl
sign_back sign.Percent = refl
sign_back sign.Caret = refl
sign_back sign.Hash = refl
sign_back sign.Output = refl
sign_back sign.Input = refl
sign_back sign.Range = refl
sign_back sign.Dot = refl
sign_back sign.Colon = refl
sign_back sign.Comma = refl
sign_back sign.Equals = refl
sign_back sign.Bar = refl
sign_back sign.OpenRound = refl
sign_back sign.CloseRound = refl
sign_back sign.OpenSquare = refl
sign_back sign.CloseSquare = refl
sign_back sign.OpenBrace = refl
sign_back sign.CloseBrace = refl

pub sign_is : (s u : Sign) → sign_of s ≡ sign_of u → s ≡ u
sign_is s u e = sym (sign_back s) ∙ ap sign_from e ∙ sign_back u

pub word_is : (k l : Keyword) → keyword_of k ≡ keyword_of l → k ≡ l
word_is k l e = sym (keyword_back k) ∙ ap keyword_from e ∙ keyword_back l
