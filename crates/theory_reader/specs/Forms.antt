-- What is read: each form of tokens, and what is read of it.
use Rattle.std.specs.Prelude.{List, [], ◌∷◌, ℕ, Bool}
use Rattle.theory_syntax.specs.Expression.{Unary, Binary}
use Rattle.theory_syntax.specs.Process.{Model}
use Rattle.theory_text.specs.Token.{Keyword, Sign}
use Rattle.theory_text.specs.Raw.{RawName, RawExpression, RawExpressions, RawEvent, no_raw_expressions, raw_expression_and, RawEventSet, RawPair, RawField, RawProcess, Replicator, Infix, RawDomain, RawClause, RawDeclaration, RawProperty}

-- how strongly an expression holds together, the weakest first
pub data Level : Type 0 where
  Disjunction Conjunction Negation Comparison Sum Product Atom : Level

-- the level of the operands of this one's operators
abbrev pub stronger : Level → Level
stronger Disjunction = Conjunction
stronger Conjunction = Negation
stronger Negation = Comparison
stronger Comparison = Sum
stronger Sum = Product
stronger Product = Atom
stronger Atom = Atom

-- What an operand or an expression begins with: a name, perhaps in brackets; an expression that is no name; a process that
-- renamings and hidings may follow; a prefix, or a process with a guard.
pub data StartTree : Type 0 where
  StartName : (name : RawName) → StartTree
  StartExpression : (expression : RawExpression) → StartTree
  StartBase : (process : RawProcess) → StartTree
  StartOperand : (process : RawProcess) → StartTree

-- what stands in such brackets
pub data InnerTree : Type 0 where
  InnerName : (name : RawName) → InnerTree
  InnerExpression : (expression : RawExpression) → InnerTree
  InnerProcess : (process : RawProcess) → InnerTree

-- A form is read from where the tokens stand; what was read before it, as the first operand of a chain, is handed down.
pub data Form : Type 0 where
  OfSign : (sign : Sign) → Form
  OfWord : (word : Keyword) → Form
  OfName : Form
  NameBehind : (sign : Sign) → Form
  -- an expression of a level; a sign and such an expression
  AtLevel : (level : Level) → Form
  Behind : (sign : Sign) (level : Level) → Form
  -- a chain of a level; what is behind its first operand; an operator and one more operand
  ChainOf : (level operands : Level) → Form
  Chained : (level : Level) (first : RawExpression) → Form
  Compared : (first : RawExpression) → Form
  Operation : (operator : Binary) (first : RawExpression) (level : Level) → Form
  OfNegation : Form
  OfAtom : Form
  AtomOfWord : (word : Keyword) → Form
  Constant : (word : Keyword) → Form
  AtomOfSign : (sign : Sign) → Form
  Signed : (sign : Sign) (operator : Unary) → Form
  -- an expression in brackets; two; an atom in brackets, and what is between them
  Bracketed : Form
  TwoArguments : Form
  Round : Form
  Enclosed : Form
  Sequence : Form
  OfSet : Form
  Members : Form
  Range : (first : RawExpression) → Form
  -- more fields behind these, each behind a dot; more expressions behind these, each behind a comma
  Dotted : (before : List RawExpression) → Form
  Listed : (level : Level) (before : List RawExpression) → Form
  -- what is behind the atom that an expression begins with
  ExpressionFrom : (first : RawExpression) → Form
  -- names with a comma between; more names behind these
  OfNames : Form
  NamesBehind : (before : List RawName) → Form
  -- an event; events with a comma between; more events behind these
  OfEvent : Form
  OfEvents : Form
  EventsBehind : (before : List RawEvent) → Form
  -- a pair of a renaming; pairs with a comma between; more pairs behind these
  OfPair : Form
  OfPairs : Form
  PairsBehind : (before : List RawPair) → Form
  -- a set of events; a sign and one; events in `{|` and `|}`, or in braces; two sets that a keyword joins
  OfEventSet : Form
  EventSetBehind : (sign : Sign) → Form
  Productions : Form
  Enumeration : Form
  CombinedSet : (keyword : Keyword) → Form
  -- an output or an input; more of them behind these fields
  OfField : Form
  FieldsBehind : (before : List RawField) → Form
  -- a process; a keyword or a sign, and a process; `if` and an expression
  OfProcess : Form
  ProcessBehindWord : (word : Keyword) → Form
  ProcessBehind : (sign : Sign) → Form
  Conditional : Form
  OfCondition : Form
  ReplicatedOver : (operator : Replicator) → Form
  -- the process that begins with a start, a base, an operand; a base with its renamings, and with its hidings
  ProcessFrom : (start : StartTree) → Form
  FromBase : (process : RawProcess) → Form
  RenamedFrom : (process : RawProcess) → Form
  HiddenFrom : (process : RawProcess) → Form
  FromOperand : (process : RawProcess) → Form
  GeneralisedFrom : (left : RawProcess) → Form
  AlphabetisedFrom : (left : RawProcess) → Form
  -- a chain of an operator behind its first operand, and behind two and more
  ChainOver : (operator : Infix) (first : RawProcess) → Form
  ChainMore : (operator : Infix) (chain : RawProcess) → Form
  -- an operand; a sign and an operand
  OfOperand : Form
  OperandBehind : (sign : Sign) → Form
  -- what an operand or an expression begins with, and what is behind the name or the atom that it begins with
  OfStart : Form
  StopStart : Form
  SkipStart : Form
  StartOfExpression : Form
  StartOfName : Form
  StartBehindName : (name : RawName) → Form
  CallOf : (name : RawName) → Form
  Arguments : Form
  PrefixOf : (channel : RawName) → Form
  PrefixBehind : (channel : RawName) (values : List RawExpression) → Form
  StartFromName : (name : RawName) → Form
  StartOfBrackets : Form
  StartFromAtom : (atom : RawExpression) → Form
  GuardOf : (expression : RawExpression) → Form
  -- what stands in brackets, with them and without them
  BracketedInner : Form
  OfInner : Form
  InnerOfName : Form
  InnerOfDotted : (name : RawName) → Form
  InnerFrom : (start : StartTree) → Form
  InnerFromName : (name : RawName) → Form
  InnerFromStart : (start : StartTree) → Form
  -- a set of an expression's level; sets with a dot between; more sets behind these
  OfDomain : (level : Level) → Form
  OfDomains : Form
  DomainsBehind : (before : List RawDomain) → Form
  -- a constructor; constructors with a bar between; more behind these
  OfClause : Form
  OfClauses : Form
  ClausesBehind : (before : List RawClause) → Form
  OfDeclaration : Form
  OfDatatype : Form
  OfNametype : Form
  OfChannels : Form
  OfEquation : Form
  EquationWith : (name : RawName) → Form
  OfAssertion : Form
  OfFirstSide : Form
  OfModel : Form
  -- the name that is spelled so; a freedom in its brackets, and its parts
  OfSpelling : (spelling : List ℕ) → Form
  OfFreedom : Form
  DivergenceFree : Form
  DeadlockFree : Form
  FreedomEnd : Form
  DoubleEnd : Form

-- what is read of a form
abbrev pub Tree : Form → Type 0
Tree (OfSign s) = Unit {0}
Tree (OfWord k) = Unit {0}
Tree OfName = RawName
Tree (NameBehind s) = RawName
Tree TwoArguments = RawExpression × RawExpression
Tree (Dotted es) = List RawExpression
Tree (Listed l es) = List RawExpression
Tree OfNames = List RawName
Tree (NamesBehind ns) = List RawName
Tree OfEvent = RawEvent
Tree OfEvents = List RawEvent
Tree (EventsBehind es) = List RawEvent
Tree OfPair = RawPair
Tree OfPairs = List RawPair
Tree (PairsBehind ps) = List RawPair
Tree OfEventSet = RawEventSet
Tree (EventSetBehind s) = RawEventSet
Tree Productions = RawEventSet
Tree Enumeration = RawEventSet
Tree (CombinedSet k) = RawEventSet
Tree OfField = RawField
Tree (FieldsBehind fs) = List RawField
Tree OfProcess = RawProcess
Tree (ProcessBehindWord k) = RawProcess
Tree (ProcessBehind s) = RawProcess
Tree Conditional = RawProcess
Tree (ReplicatedOver o) = RawProcess
Tree (ProcessFrom s) = RawProcess
Tree (FromBase p) = RawProcess
Tree (RenamedFrom p) = RawProcess
Tree (HiddenFrom p) = RawProcess
Tree (FromOperand p) = RawProcess
Tree (GeneralisedFrom p) = RawProcess
Tree (AlphabetisedFrom p) = RawProcess
Tree (ChainOver o p) = RawProcess
Tree (ChainMore o p) = RawProcess
Tree OfOperand = RawProcess
Tree (OperandBehind s) = RawProcess
Tree OfStart = StartTree
Tree StopStart = StartTree
Tree SkipStart = StartTree
Tree StartOfExpression = StartTree
Tree StartOfName = StartTree
Tree (StartBehindName n) = StartTree
Tree (CallOf n) = StartTree
Tree Arguments = List RawExpression
Tree (PrefixOf n) = StartTree
Tree (PrefixBehind n es) = StartTree
Tree (StartFromName n) = StartTree
Tree StartOfBrackets = StartTree
Tree (StartFromAtom e) = StartTree
Tree (GuardOf e) = StartTree
Tree BracketedInner = InnerTree
Tree OfInner = InnerTree
Tree InnerOfName = InnerTree
Tree (InnerOfDotted n) = InnerTree
Tree (InnerFrom s) = InnerTree
Tree (InnerFromName n) = InnerTree
Tree (InnerFromStart s) = InnerTree
Tree (OfDomain l) = RawDomain
Tree OfDomains = List RawDomain
Tree (DomainsBehind ds) = List RawDomain
Tree OfClause = RawClause
Tree OfClauses = List RawClause
Tree (ClausesBehind cs) = List RawClause
Tree OfDeclaration = RawDeclaration
Tree OfDatatype = RawDeclaration
Tree OfNametype = RawDeclaration
Tree OfChannels = RawDeclaration
Tree OfEquation = RawDeclaration
Tree (EquationWith n) = RawDeclaration
Tree OfAssertion = RawDeclaration
Tree OfFirstSide = Bool × RawProcess
Tree OfModel = Model
Tree (OfSpelling cs) = Unit {0}
Tree OfFreedom = RawProperty
Tree DivergenceFree = Unit {0}
Tree DeadlockFree = Unit {0}
Tree FreedomEnd = Unit {0}
Tree DoubleEnd = Unit {0}
Tree _ = RawExpression

-- a list of expressions in the trees' form
abbrev pub raw_list : List RawExpression → RawExpressions
raw_list [] = no_raw_expressions
raw_list (e ∷ es) = raw_expression_and e (raw_list es)
