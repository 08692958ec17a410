-- The grammar of scripts: which tokens are which tree. Chains group to the left.
use Rattle.std.specs.Prelude.{◌≡◌, ◌≢◌, ℕ, Bool, true, false, List, [], ◌∷◌, ◌++◌, codes}
use Rattle.theory_syntax.specs.Expression.{Unary, Negate, Not, Length, Head, Tail, IsNull, Card, Binary, Add, Subtract, Multiply, Modulus, Concatenate, Equals, Differs, LessThan, AtMost, GreaterThan, AtLeast, And, Or, IsElement, IsMember, Union, Intersection, Difference}
use Rattle.theory_syntax.specs.Process.{Model, Traces, Failures}
use Rattle.theory_text.specs.Token.{Keyword, Sign, KeywordToken, SignToken, NameToken, NumberToken, PlacedToken, DatatypeWord, NametypeWord, ChannelWord, AssertWord, IfWord, ThenWord, ElseWord, AndWord, OrWord, NotWord, TrueWord, FalseWord, BoolWord, StopWord, SkipWord, HeadWord, TailWord, NullWord, ElemWord, MemberWord, UnionWord, InterWord, DiffWord, CardWord, ArrowSign, BackArrowSign, BoxSign, InternalSign, TripleBarSign, DoubleBarSign, OpenSharedSign, CloseSharedSign, OpenRenamingSign, CloseRenamingSign, OpenProductionsSign, CloseProductionsSign, TracesSign, FailuresSign, InterruptSign, SlidingSign, HidingSign, SemicolonSign, GuardSign, AtSign, SameSign, DiffersSign, AtMostSign, AtLeastSign, LessSign, GreaterSign, PlusSign, MinusSign, TimesSign, PercentSign, CaretSign, HashSign, OutputSign, InputSign, RangeSign, DotSign, ColonSign, CommaSign, EqualsSign, BarSign, OpenRoundSign, CloseRoundSign, OpenSquareSign, CloseSquareSign, OpenBraceSign, CloseBraceSign}
use Rattle.theory_text.specs.Raw.{RawName, RawExpression, RawNumber, RawTruth, RawBooleans, RawUse, RawApply, RawCombine, RawSequence, RawSet, RawRange, RawConstructor, RawExpressions, no_raw_expressions, raw_expression_and, RawField, RawGiven, RawInput, RawInputFrom, RawEvent, RawEventSet, RawEnumeration, RawProductions, RawEventUnion, RawEventIntersection, RawEventDifference, RawPair, Infix, ExternalInfix, InternalInfix, SequentialInfix, InterleavingInfix, InterruptInfix, SlidingInfix, Replicator, ExternalReplicator, InternalReplicator, InterleavingReplicator, RawProcess, RawStop, RawSkip, RawCall, RawPrefix, RawGuard, RawIf, RawInfix, RawGeneralisedParallel, RawAlphabetisedParallel, RawHiding, RawRenaming, RawReplicated, RawDomain, RawProperty, RawRefinementOf, RawDeadlockFree, RawDivergenceFree, RawClause, RawDeclaration, RawDatatype, RawNametype, RawChannels, RawEquation, RawAssertion, RawScript}

-- the one token that is this keyword, this sign, a name, a number
pub data IsWord (k : Keyword) : List PlacedToken → Type 0 where
  word : (t : PlacedToken) → t.token ≡ KeywordToken k → IsWord k (t ∷ [])

pub data IsSign (s : Sign) : List PlacedToken → Type 0 where
  sign : (t : PlacedToken) → t.token ≡ SignToken s → IsSign s (t ∷ [])

pub data IsName : List PlacedToken → RawName → Type 0 where
  name : (t : PlacedToken) (cs : List ℕ) → t.token ≡ NameToken cs → IsName (t ∷ []) (record { spelling = cs; place = t.place })

pub data IsNumber : List PlacedToken → ℕ → Type 0 where
  number : (t : PlacedToken) (n : ℕ) → t.token ≡ NumberToken n → IsNumber (t ∷ []) n

-- name ("," name)*
pub data AreNames : List PlacedToken → List RawName → Type 0 where
  one_name : {a : List PlacedToken} {n : RawName} → IsName a n → AreNames a (n ∷ [])
  more_names : {a b c : List PlacedToken} {n : RawName} {ns : List RawName} → IsName a n → IsSign CommaSign b → AreNames c ns → AreNames (a ++ b ++ c) (n ∷ ns)

-- the operators of expressions, by their strength
pub data IsAdding : List PlacedToken → Binary → Type 0 where
  plus : {a : List PlacedToken} → IsSign PlusSign a → IsAdding a Add
  minus : {a : List PlacedToken} → IsSign MinusSign a → IsAdding a Subtract
  caret : {a : List PlacedToken} → IsSign CaretSign a → IsAdding a Concatenate

pub data IsMultiplying : List PlacedToken → Binary → Type 0 where
  times : {a : List PlacedToken} → IsSign TimesSign a → IsMultiplying a Multiply
  percent : {a : List PlacedToken} → IsSign PercentSign a → IsMultiplying a Modulus

pub data IsComparing : List PlacedToken → Binary → Type 0 where
  same : {a : List PlacedToken} → IsSign SameSign a → IsComparing a Equals
  differs : {a : List PlacedToken} → IsSign DiffersSign a → IsComparing a Differs
  less : {a : List PlacedToken} → IsSign LessSign a → IsComparing a LessThan
  at_most : {a : List PlacedToken} → IsSign AtMostSign a → IsComparing a AtMost
  greater : {a : List PlacedToken} → IsSign GreaterSign a → IsComparing a GreaterThan
  at_least : {a : List PlacedToken} → IsSign AtLeastSign a → IsComparing a AtLeast

-- the functions of one argument and of two
pub data IsUnaryWord : List PlacedToken → Unary → Type 0 where
  head_word : {a : List PlacedToken} → IsWord HeadWord a → IsUnaryWord a Head
  tail_word : {a : List PlacedToken} → IsWord TailWord a → IsUnaryWord a Tail
  null_word : {a : List PlacedToken} → IsWord NullWord a → IsUnaryWord a IsNull
  card_word : {a : List PlacedToken} → IsWord CardWord a → IsUnaryWord a Card

pub data IsBinaryWord : List PlacedToken → Binary → Type 0 where
  elem_word : {a : List PlacedToken} → IsWord ElemWord a → IsBinaryWord a IsElement
  member_word : {a : List PlacedToken} → IsWord MemberWord a → IsBinaryWord a IsMember
  union_word : {a : List PlacedToken} → IsWord UnionWord a → IsBinaryWord a Union
  inter_word : {a : List PlacedToken} → IsWord InterWord a → IsBinaryWord a Intersection
  diff_word : {a : List PlacedToken} → IsWord DiffWord a → IsBinaryWord a Difference

mutual
  -- conj ("or" conj)*
  pub data IsExpression : List PlacedToken → RawExpression → Type 0 where
    conjunction : {a : List PlacedToken} {e : RawExpression} → IsConjunction a e → IsExpression a e
    or : {a b c : List PlacedToken} {e f : RawExpression} → IsExpression a e → IsWord OrWord b → IsConjunction c f → IsExpression (a ++ b ++ c) (RawCombine Or e f)

  -- neg ("and" neg)*
  pub data IsConjunction : List PlacedToken → RawExpression → Type 0 where
    negation : {a : List PlacedToken} {e : RawExpression} → IsNegation a e → IsConjunction a e
    and : {a b c : List PlacedToken} {e f : RawExpression} → IsConjunction a e → IsWord AndWord b → IsNegation c f → IsConjunction (a ++ b ++ c) (RawCombine And e f)

  -- "not" neg | cmp
  pub data IsNegation : List PlacedToken → RawExpression → Type 0 where
    comparison : {a : List PlacedToken} {e : RawExpression} → IsComparison a e → IsNegation a e
    not : {a b : List PlacedToken} {e : RawExpression} → IsWord NotWord a → IsNegation b e → IsNegation (a ++ b) (RawApply Not e)

  -- sum [ ("==" | "!=" | "<" | "<=" | ">" | ">=") sum ]
  pub data IsComparison : List PlacedToken → RawExpression → Type 0 where
    sum : {a : List PlacedToken} {e : RawExpression} → IsSum a e → IsComparison a e
    compare : {a b c : List PlacedToken} {o : Binary} {e f : RawExpression} → IsSum a e → IsComparing b o → IsSum c f → IsComparison (a ++ b ++ c) (RawCombine o e f)

  -- prod (("+" | "-" | "^") prod)*
  pub data IsSum : List PlacedToken → RawExpression → Type 0 where
    product : {a : List PlacedToken} {e : RawExpression} → IsProduct a e → IsSum a e
    add : {a b c : List PlacedToken} {o : Binary} {e f : RawExpression} → IsSum a e → IsAdding b o → IsProduct c f → IsSum (a ++ b ++ c) (RawCombine o e f)

  -- atom (("*" | "%") atom)*
  pub data IsProduct : List PlacedToken → RawExpression → Type 0 where
    atom : {a : List PlacedToken} {e : RawExpression} → IsAtom a e → IsProduct a e
    multiply : {a b c : List PlacedToken} {o : Binary} {e f : RawExpression} → IsProduct a e → IsMultiplying b o → IsAtom c f → IsProduct (a ++ b ++ c) (RawCombine o e f)

  pub data IsAtom : List PlacedToken → RawExpression → Type 0 where
    number : {a : List PlacedToken} {n : ℕ} → IsNumber a n → IsAtom a (RawNumber n)
    name : {a : List PlacedToken} {n : RawName} → IsName a n → IsAtom a (RawUse n)
    true_word : {a : List PlacedToken} → IsWord TrueWord a → IsAtom a (RawTruth true)
    false_word : {a : List PlacedToken} → IsWord FalseWord a → IsAtom a (RawTruth false)
    bool_word : {a : List PlacedToken} → IsWord BoolWord a → IsAtom a RawBooleans
    negate : {a b : List PlacedToken} {e : RawExpression} → IsSign MinusSign a → IsAtom b e → IsAtom (a ++ b) (RawApply Negate e)
    length_of : {a b : List PlacedToken} {e : RawExpression} → IsSign HashSign a → IsAtom b e → IsAtom (a ++ b) (RawApply Length e)
    bracketed : {a b c : List PlacedToken} {e : RawExpression} → IsSign OpenRoundSign a → IsExpression b e → IsSign CloseRoundSign c → IsAtom (a ++ b ++ c) e
    -- "<" [ sum ("," sum)* ] ">"
    no_items : {a b : List PlacedToken} → IsSign LessSign a → IsSign GreaterSign b → IsAtom (a ++ b) (RawSequence no_raw_expressions)
    items : {a b c : List PlacedToken} {es : RawExpressions} → IsSign LessSign a → AreSums b es → IsSign GreaterSign c → IsAtom (a ++ b ++ c) (RawSequence es)
    -- "{" [ expr ("," expr)* ] "}" | "{" expr ".." expr "}"
    no_members : {a b : List PlacedToken} → IsSign OpenBraceSign a → IsSign CloseBraceSign b → IsAtom (a ++ b) (RawSet no_raw_expressions)
    members : {a b c : List PlacedToken} {es : RawExpressions} → IsSign OpenBraceSign a → AreExpressions b es → IsSign CloseBraceSign c → IsAtom (a ++ b ++ c) (RawSet es)
    range : {a b c d x : List PlacedToken} {e f : RawExpression} → IsSign OpenBraceSign a → IsExpression b e → IsSign RangeSign c → IsExpression d f → IsSign CloseBraceSign x →
        IsAtom (a ++ b ++ c ++ d ++ x) (RawRange e f)
    of_one : {a b c d : List PlacedToken} {o : Unary} {e : RawExpression} → IsUnaryWord a o → IsSign OpenRoundSign b → IsExpression c e → IsSign CloseRoundSign d →
        IsAtom (a ++ b ++ c ++ d) (RawApply o e)
    of_two : {a b c d x y : List PlacedToken} {o : Binary} {e f : RawExpression} → IsBinaryWord a o → IsSign OpenRoundSign b → IsExpression c e → IsSign CommaSign d →
        IsExpression x f → IsSign CloseRoundSign y → IsAtom (a ++ b ++ c ++ d ++ x ++ y) (RawCombine o e f)
    -- "(" name ("." atom)+ ")"
    constructed : {a b c d x y : List PlacedToken} {n : RawName} {e : RawExpression} {es : RawExpressions} → IsSign OpenRoundSign a → IsName b n → IsSign DotSign c → IsAtom d e →
        AreDotted x es → IsSign CloseRoundSign y → IsAtom (a ++ b ++ c ++ d ++ x ++ y) (RawConstructor n (raw_expression_and e es))

  -- sum ("," sum)*
  pub data AreSums : List PlacedToken → RawExpressions → Type 0 where
    one_sum : {a : List PlacedToken} {e : RawExpression} → IsSum a e → AreSums a (raw_expression_and e no_raw_expressions)
    more_sums : {a b c : List PlacedToken} {e : RawExpression} {es : RawExpressions} → IsSum a e → IsSign CommaSign b → AreSums c es → AreSums (a ++ b ++ c) (raw_expression_and e es)

  -- expr ("," expr)*
  pub data AreExpressions : List PlacedToken → RawExpressions → Type 0 where
    one_expression : {a : List PlacedToken} {e : RawExpression} → IsExpression a e → AreExpressions a (raw_expression_and e no_raw_expressions)
    more_expressions : {a b c : List PlacedToken} {e : RawExpression} {es : RawExpressions} → IsExpression a e → IsSign CommaSign b → AreExpressions c es →
        AreExpressions (a ++ b ++ c) (raw_expression_and e es)

  -- ("." atom)*
  pub data AreDotted : List PlacedToken → RawExpressions → Type 0 where
    no_dotted : AreDotted [] no_raw_expressions
    dotted : {a b c : List PlacedToken} {e : RawExpression} {es : RawExpressions} → IsSign DotSign a → IsAtom b e → AreDotted c es → AreDotted (a ++ b ++ c) (raw_expression_and e es)

-- evt: name ("." atom)*
pub data IsEvent : List PlacedToken → RawEvent → Type 0 where
  event : {a b : List PlacedToken} {n : RawName} {es : RawExpressions} → IsName a n → AreDotted b es → IsEvent (a ++ b) (record { channel = n; fields = es })

-- evt ("," evt)*
pub data AreEvents : List PlacedToken → List RawEvent → Type 0 where
  one_event : {a : List PlacedToken} {e : RawEvent} → IsEvent a e → AreEvents a (e ∷ [])
  more_events : {a b c : List PlacedToken} {e : RawEvent} {es : List RawEvent} → IsEvent a e → IsSign CommaSign b → AreEvents c es → AreEvents (a ++ b ++ c) (e ∷ es)

-- (("!" atom) | ("?" name [ ":" atom ]))*
pub data AreLaterFields : List PlacedToken → List RawField → Type 0 where
  no_fields : AreLaterFields [] []
  output : {a b c : List PlacedToken} {e : RawExpression} {fs : List RawField} → IsSign OutputSign a → IsAtom b e → AreLaterFields c fs → AreLaterFields (a ++ b ++ c) (RawGiven e ∷ fs)
  input : {a b c : List PlacedToken} {n : RawName} {fs : List RawField} → IsSign InputSign a → IsName b n → AreLaterFields c fs → AreLaterFields (a ++ b ++ c) (RawInput n ∷ fs)
  input_from : {a b c d x : List PlacedToken} {n : RawName} {e : RawExpression} {fs : List RawField} → IsSign InputSign a → IsName b n → IsSign ColonSign c → IsAtom d e → AreLaterFields x fs →
      AreLaterFields (a ++ b ++ c ++ d ++ x) (RawInputFrom n e ∷ fs)

-- the fields of a prefix, behind its channel's name
pub data AreFields : List PlacedToken → List RawField → Type 0 where
  later_fields : {a : List PlacedToken} {fs : List RawField} → AreLaterFields a fs → AreFields a fs
  dotted_field : {a b c : List PlacedToken} {e : RawExpression} {fs : List RawField} → IsSign DotSign a → IsAtom b e → AreFields c fs → AreFields (a ++ b ++ c) (RawGiven e ∷ fs)

-- union, inter and diff of sets of events
pub data IsSetWord : List PlacedToken → (RawEventSet → RawEventSet → RawEventSet) → Type 0 where
  union_of_sets : {a : List PlacedToken} → IsWord UnionWord a → IsSetWord a RawEventUnion
  inter_of_sets : {a : List PlacedToken} → IsWord InterWord a → IsSetWord a RawEventIntersection
  diff_of_sets : {a : List PlacedToken} → IsWord DiffWord a → IsSetWord a RawEventDifference

pub data IsEventSet : List PlacedToken → RawEventSet → Type 0 where
  no_events : {a b : List PlacedToken} → IsSign OpenBraceSign a → IsSign CloseBraceSign b → IsEventSet (a ++ b) (RawEnumeration [])
  events : {a b c : List PlacedToken} {es : List RawEvent} → IsSign OpenBraceSign a → AreEvents b es → IsSign CloseBraceSign c → IsEventSet (a ++ b ++ c) (RawEnumeration es)
  productions : {a b c : List PlacedToken} {es : List RawEvent} → IsSign OpenProductionsSign a → AreEvents b es → IsSign CloseProductionsSign c → IsEventSet (a ++ b ++ c) (RawProductions es)
  of_sets : {a b c d x y : List PlacedToken} {o : RawEventSet → RawEventSet → RawEventSet} {s t : RawEventSet} → IsSetWord a o → IsSign OpenRoundSign b → IsEventSet c s → IsSign CommaSign d →
      IsEventSet x t → IsSign CloseRoundSign y → IsEventSet (a ++ b ++ c ++ d ++ x ++ y) (o s t)

-- evt "<-" evt ("," evt "<-" evt)*
pub data ArePairs : List PlacedToken → List RawPair → Type 0 where
  one_pair : {a b c : List PlacedToken} {e f : RawEvent} → IsEvent a e → IsSign BackArrowSign b → IsEvent c f → ArePairs (a ++ b ++ c) (record { from = e; to = f } ∷ [])
  more_pairs : {a b c d x : List PlacedToken} {e f : RawEvent} {ps : List RawPair} → IsEvent a e → IsSign BackArrowSign b → IsEvent c f → IsSign CommaSign d → ArePairs x ps →
      ArePairs (a ++ b ++ c ++ d ++ x) (record { from = e; to = f } ∷ ps)

pub data IsRenamingPart : List PlacedToken → List RawPair → Type 0 where
  renaming_part : {a b c : List PlacedToken} {ps : List RawPair} → IsSign OpenRenamingSign a → ArePairs b ps → IsSign CloseRenamingSign c → IsRenamingPart (a ++ b ++ c) ps

pub data IsHidingPart : List PlacedToken → RawEventSet → Type 0 where
  hiding_part : {a b : List PlacedToken} {s : RawEventSet} → IsSign HidingSign a → IsEventSet b s → IsHidingPart (a ++ b) s

pub data IsInfix : List PlacedToken → Infix → Type 0 where
  external_infix : {a : List PlacedToken} → IsSign BoxSign a → IsInfix a ExternalInfix
  internal_infix : {a : List PlacedToken} → IsSign InternalSign a → IsInfix a InternalInfix
  sequential_infix : {a : List PlacedToken} → IsSign SemicolonSign a → IsInfix a SequentialInfix
  interleaving_infix : {a : List PlacedToken} → IsSign TripleBarSign a → IsInfix a InterleavingInfix
  interrupt_infix : {a : List PlacedToken} → IsSign InterruptSign a → IsInfix a InterruptInfix
  sliding_infix : {a : List PlacedToken} → IsSign SlidingSign a → IsInfix a SlidingInfix

pub data IsReplicator : List PlacedToken → Replicator → Type 0 where
  external_replicator : {a : List PlacedToken} → IsSign BoxSign a → IsReplicator a ExternalReplicator
  internal_replicator : {a : List PlacedToken} → IsSign InternalSign a → IsReplicator a InternalReplicator
  interleaving_replicator : {a : List PlacedToken} → IsSign TripleBarSign a → IsReplicator a InterleavingReplicator

mutual
  pub data IsProcess : List PlacedToken → RawProcess → Type 0 where
    conditional : {a b c d x y : List PlacedToken} {e : RawExpression} {p q : RawProcess} → IsWord IfWord a → IsExpression b e → IsWord ThenWord c → IsProcess d p → IsWord ElseWord x → IsProcess y q →
        IsProcess (a ++ b ++ c ++ d ++ x ++ y) (RawIf e p q)
    replicated : {a b c d x y : List PlacedToken} {o : Replicator} {n : RawName} {e : RawExpression} {p : RawProcess} → IsReplicator a o → IsName b n → IsSign ColonSign c → IsAtom d e → IsSign AtSign x →
        IsProcess y p → IsProcess (a ++ b ++ c ++ d ++ x ++ y) (RawReplicated o n e p)
    renamed : {a : List PlacedToken} {p : RawProcess} → IsRenamed a p → IsProcess a p
    hidden : {a : List PlacedToken} {p : RawProcess} → IsHidden a p → IsProcess a p
    operand : {a : List PlacedToken} {p : RawProcess} → IsOperand a p → IsProcess a p
    chain : {a : List PlacedToken} {o : Infix} {p : RawProcess} → IsChain o a p → IsProcess a p
    generalised : {a b c d x : List PlacedToken} {p q : RawProcess} {s : RawEventSet} → IsOperand a p → IsSign OpenSharedSign b → IsEventSet c s → IsSign CloseSharedSign d → IsOperand x q →
        IsProcess (a ++ b ++ c ++ d ++ x) (RawGeneralisedParallel p s q)
    alphabetised : {a b c d x y z : List PlacedToken} {p q : RawProcess} {s t : RawEventSet} → IsOperand a p → IsSign OpenSquareSign b → IsEventSet c s → IsSign DoubleBarSign d → IsEventSet x t →
        IsSign CloseSquareSign y → IsOperand z q → IsProcess (a ++ b ++ c ++ d ++ x ++ y ++ z) (RawAlphabetisedParallel p s t q)

  -- base ren+
  pub data IsRenamed : List PlacedToken → RawProcess → Type 0 where
    renamed_base : {a b : List PlacedToken} {p : RawProcess} {ps : List RawPair} → IsBase a p → IsRenamingPart b ps → IsRenamed (a ++ b) (RawRenaming p ps)
    renamed_again : {a b : List PlacedToken} {p : RawProcess} {ps : List RawPair} → IsRenamed a p → IsRenamingPart b ps → IsRenamed (a ++ b) (RawRenaming p ps)

  -- base ren* hide+
  pub data IsHidden : List PlacedToken → RawProcess → Type 0 where
    hidden_base : {a b : List PlacedToken} {p : RawProcess} {s : RawEventSet} → IsBase a p → IsHidingPart b s → IsHidden (a ++ b) (RawHiding p s)
    hidden_renamed : {a b : List PlacedToken} {p : RawProcess} {s : RawEventSet} → IsRenamed a p → IsHidingPart b s → IsHidden (a ++ b) (RawHiding p s)
    hidden_again : {a b : List PlacedToken} {p : RawProcess} {s : RawEventSet} → IsHidden a p → IsHidingPart b s → IsHidden (a ++ b) (RawHiding p s)

  -- operand (op operand)+, of one operator
  pub data IsChain : Infix → List PlacedToken → RawProcess → Type 0 where
    two : {o : Infix} {a b c : List PlacedToken} {p q : RawProcess} → IsOperand a p → IsInfix b o → IsOperand c q → IsChain o (a ++ b ++ c) (RawInfix o p q)
    longer : {o : Infix} {a b c : List PlacedToken} {p q : RawProcess} → IsChain o a p → IsInfix b o → IsOperand c q → IsChain o (a ++ b ++ c) (RawInfix o p q)

  -- event "->" operand | expr "&" operand | base
  pub data IsOperand : List PlacedToken → RawProcess → Type 0 where
    prefix : {a b c d : List PlacedToken} {n : RawName} {fs : List RawField} {p : RawProcess} → IsName a n → AreFields b fs → IsSign ArrowSign c → IsOperand d p →
        IsOperand (a ++ b ++ c ++ d) (RawPrefix n fs p)
    guard : {a b c : List PlacedToken} {e : RawExpression} {p : RawProcess} → IsExpression a e → IsSign GuardSign b → IsOperand c p → IsOperand (a ++ b ++ c) (RawGuard e p)
    base : {a : List PlacedToken} {p : RawProcess} → IsBase a p → IsOperand a p

  pub data IsBase : List PlacedToken → RawProcess → Type 0 where
    stop : {a : List PlacedToken} → IsWord StopWord a → IsBase a RawStop
    skip : {a : List PlacedToken} → IsWord SkipWord a → IsBase a RawSkip
    call : {a : List PlacedToken} {n : RawName} → IsName a n → IsBase a (RawCall n no_raw_expressions)
    call_with : {a b c d : List PlacedToken} {n : RawName} {es : RawExpressions} → IsName a n → IsSign OpenRoundSign b → AreExpressions c es → IsSign CloseRoundSign d →
        IsBase (a ++ b ++ c ++ d) (RawCall n es)
    bracketed_process : {a b c : List PlacedToken} {p : RawProcess} → IsSign OpenRoundSign a → IsProcess b p → IsSign CloseRoundSign c → IsBase (a ++ b ++ c) p

-- atom ("." atom)*, each with the place of its first token
pub data AreDomains : List PlacedToken → List RawDomain → Type 0 where
  one_domain : (t : PlacedToken) (ts : List PlacedToken) {e : RawExpression} → IsAtom (t ∷ ts) e → AreDomains (t ∷ ts) (record { place = t.place; set = e } ∷ [])
  more_domains : (t : PlacedToken) (ts : List PlacedToken) {b c : List PlacedToken} {e : RawExpression} {ds : List RawDomain} → IsAtom (t ∷ ts) e → IsSign DotSign b → AreDomains c ds →
      AreDomains (t ∷ ts ++ b ++ c) (record { place = t.place; set = e } ∷ ds)

-- name ("." atom)*
pub data IsClause : List PlacedToken → RawClause → Type 0 where
  bare_clause : {a : List PlacedToken} {n : RawName} → IsName a n → IsClause a (record { name = n; fields = [] })
  clause : {a b c : List PlacedToken} {n : RawName} {ds : List RawDomain} → IsName a n → IsSign DotSign b → AreDomains c ds → IsClause (a ++ b ++ c) (record { name = n; fields = ds })

-- clause ("|" clause)*
pub data AreClauses : List PlacedToken → List RawClause → Type 0 where
  one_clause : {a : List PlacedToken} {c : RawClause} → IsClause a c → AreClauses a (c ∷ [])
  more_clauses : {a b d : List PlacedToken} {c : RawClause} {cs : List RawClause} → IsClause a c → IsSign BarSign b → AreClauses d cs → AreClauses (a ++ b ++ d) (c ∷ cs)

pub data IsModel : List PlacedToken → Model → Type 0 where
  traces : {a : List PlacedToken} → IsSign TracesSign a → IsModel a Traces
  failures : {a : List PlacedToken} → IsSign FailuresSign a → IsModel a Failures

-- the one token that is the name spelled so, which is no keyword
pub data IsSpelled (cs : List ℕ) : List PlacedToken → Type 0 where
  spelled : (t : PlacedToken) → t.token ≡ NameToken cs → IsSpelled cs (t ∷ [])

-- "]" | "[" "F" ("]]" | "]" "]")
pub data IsFreedomEnd : List PlacedToken → Type 0 where
  plain_end : {a : List PlacedToken} → IsSign CloseSquareSign a → IsFreedomEnd a
  joined_end : {a b c : List PlacedToken} → IsSign OpenSquareSign a → IsSpelled (codes "F") b → IsSign CloseRenamingSign c → IsFreedomEnd (a ++ b ++ c)
  spaced_end : {a b c d : List PlacedToken} → IsSign OpenSquareSign a → IsSpelled (codes "F") b → IsSign CloseSquareSign c → IsSign CloseSquareSign d → IsFreedomEnd (a ++ b ++ c ++ d)

-- "[" "deadlock" "free" and its end, "[" "divergence" "free" "]"
pub data IsFreedom : List PlacedToken → RawProperty → Type 0 where
  deadlock_free : {a b c d : List PlacedToken} → IsSign OpenSquareSign a → IsSpelled (codes "deadlock") b → IsSpelled (codes "free") c → IsFreedomEnd d → IsFreedom (a ++ b ++ c ++ d) RawDeadlockFree
  divergence_free : {a b c d : List PlacedToken} → IsSign OpenSquareSign a → IsSpelled (codes "divergence") b → IsSpelled (codes "free") c → IsSign CloseSquareSign d →
      IsFreedom (a ++ b ++ c ++ d) RawDivergenceFree

-- ["not"] proc, behind "assert". A "not" there always negates, so a side that begins with one stands in parentheses.
pub data IsFirstSide : List PlacedToken → Bool → RawProcess → Type 0 where
  plain_side : (t : PlacedToken) (ts : List PlacedToken) {p : RawProcess} → t.token ≢ KeywordToken NotWord → IsProcess (t ∷ ts) p → IsFirstSide (t ∷ ts) false p
  negated_side : {a b : List PlacedToken} {p : RawProcess} → IsWord NotWord a → IsProcess b p → IsFirstSide (a ++ b) true p

pub data IsDeclaration : List PlacedToken → RawDeclaration → Type 0 where
  datatype : {a b c d : List PlacedToken} {n : RawName} {cs : List RawClause} → IsWord DatatypeWord a → IsName b n → IsSign EqualsSign c → AreClauses d cs →
      IsDeclaration (a ++ b ++ c ++ d) (RawDatatype n cs)
  nametype : (t : PlacedToken) (ts : List PlacedToken) {a b c : List PlacedToken} {n : RawName} {e : RawExpression} → IsWord NametypeWord a → IsName b n → IsSign EqualsSign c → IsExpression (t ∷ ts) e →
      IsDeclaration (a ++ b ++ c ++ t ∷ ts) (RawNametype n (record { place = t.place; set = e }))
  bare_channels : {a b : List PlacedToken} {ns : List RawName} → IsWord ChannelWord a → AreNames b ns → IsDeclaration (a ++ b) (RawChannels ns [])
  channels : {a b c d : List PlacedToken} {ns : List RawName} {ds : List RawDomain} → IsWord ChannelWord a → AreNames b ns → IsSign ColonSign c → AreDomains d ds →
      IsDeclaration (a ++ b ++ c ++ d) (RawChannels ns ds)
  equation : {a b c : List PlacedToken} {n : RawName} {p : RawProcess} → IsName a n → IsSign EqualsSign b → IsProcess c p → IsDeclaration (a ++ b ++ c) (RawEquation n [] p)
  equation_with : {a b c d x y : List PlacedToken} {n : RawName} {ns : List RawName} {p : RawProcess} → IsName a n → IsSign OpenRoundSign b → AreNames c ns → IsSign CloseRoundSign d →
      IsSign EqualsSign x → IsProcess y p → IsDeclaration (a ++ b ++ c ++ d ++ x ++ y) (RawEquation n ns p)
  assertion : (t : PlacedToken) {b c d : List PlacedToken} {n : Bool} {m : Model} {p q : RawProcess} → IsWord AssertWord (t ∷ []) → IsFirstSide b n p → IsModel c m → IsProcess d q →
      IsDeclaration (t ∷ b ++ c ++ d) (RawAssertion t.place n (RawRefinementOf m p) q)
  freedom : (t : PlacedToken) {b c d : List PlacedToken} {n : Bool} {a : RawProperty} {p : RawProcess} → IsWord AssertWord (t ∷ []) → IsFirstSide b n p → IsSign ColonSign c → IsFreedom d a →
      IsDeclaration (t ∷ b ++ c ++ d) (RawAssertion t.place n a p)

-- decl*
pub data IsScript : List PlacedToken → RawScript → Type 0 where
  no_declarations : IsScript [] []
  declarations : {a b : List PlacedToken} {d : RawDeclaration} {ds : RawScript} → IsDeclaration a d → IsScript b ds → IsScript (a ++ b) (d ∷ ds)

-- some tokens behind these make a script
abbrev pub BeginsScript : List PlacedToken → Type 0
BeginsScript ts = (more : List PlacedToken) × (s : RawScript) × IsScript (ts ++ more) s
