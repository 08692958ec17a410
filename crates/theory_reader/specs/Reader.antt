-- The reader of scripts, form by form.
use Rattle.std.specs.Prelude.{ℕ, zero, suc, ◌+◌, ◌*◌, Bool, true, false, cond, List, [], ◌∷◌, ◌++◌, length, map, Option, Some, None, is_some, Err, ◌||◌, codes}
use Rattle.std.specs.Str.{bytes_eq}
use Rattle.theory_syntax.specs.Expression as pure
use Rattle.theory_syntax.specs.Process.{Model, Traces, Failures}
use Rattle.theory_text.specs.Place.{Place}
use Rattle.theory_text.specs.Token.{Token, Keyword, keyword_spelling, Sign, sign_spelling, NameToken, PlacedToken, OrWord, AndWord, NotWord, TrueWord, FalseWord, BoolWord, HeadWord, TailWord, NullWord, ElemWord, MemberWord, UnionWord, InterWord, DiffWord, CardWord, SameSign, DiffersSign, AtMostSign, AtLeastSign, LessSign, GreaterSign, PlusSign, MinusSign, TimesSign, PercentSign, CaretSign, HashSign, RangeSign, DotSign, CommaSign, OpenRoundSign, CloseRoundSign, OpenBraceSign, CloseBraceSign, BackArrowSign, OpenProductionsSign, CloseProductionsSign, OutputSign, InputSign, ColonSign, IfWord, ThenWord, ElseWord, StopWord, SkipWord, DatatypeWord, NametypeWord, ChannelWord, AssertWord, BoxSign, InternalSign, SemicolonSign, TripleBarSign, InterruptSign, SlidingSign, OpenRenamingSign, CloseRenamingSign, HidingSign, ArrowSign, GuardSign, OpenSharedSign, CloseSharedSign, OpenSquareSign, CloseSquareSign, DoubleBarSign, AtSign, BarSign, EqualsSign, TracesSign, FailuresSign}
use Rattle.theory_text.specs.Raw.{RawName, RawExpression, RawNumber, RawTruth, RawBooleans, RawUse, RawApply, RawCombine, RawSequence, RawSet, RawRange, RawConstructor, RawEvent, RawEventSet, RawEnumeration, RawProductions, RawEventUnion, RawEventIntersection, RawEventDifference, RawPair, RawField, RawGiven, RawInput, RawInputFrom, Infix, ExternalInfix, InternalInfix, SequentialInfix, InterleavingInfix, InterruptInfix, SlidingInfix, Replicator, ExternalReplicator, InternalReplicator, InterleavingReplicator, RawProcess, RawStop, RawSkip, RawCall, RawPrefix, RawGuard, RawIf, RawInfix, RawGeneralisedParallel, RawAlphabetisedParallel, RawHiding, RawRenaming, RawReplicated, RawDomain, RawClause, RawProperty, RawRefinementOf, RawDeadlockFree, RawDivergenceFree, RawDeclaration, RawDatatype, RawNametype, RawChannels, RawEquation, RawAssertion}
use Rattle.theory_reader.specs.Forms.{Level, Disjunction, Conjunction, Negation, Comparison, Sum, Product, Atom, stronger, Form, OfSign, OfWord, OfName, NameBehind, AtLevel, Behind, ChainOf, Chained, Compared, Operation, OfNegation, OfAtom, AtomOfWord, Constant, AtomOfSign, Signed, Bracketed, TwoArguments, Round, Enclosed, Sequence, OfSet, Members, Range, Dotted, Listed, ExpressionFrom, OfEvent, OfEvents, EventsBehind, Tree, raw_list, OfPair, OfPairs, PairsBehind, OfEventSet, EventSetBehind, Productions, Enumeration, CombinedSet, OfField, FieldsBehind, OfNames, NamesBehind, StartTree, StartName, StartExpression, StartBase, StartOperand, InnerTree, InnerName, InnerExpression, InnerProcess, OfProcess, ProcessBehindWord, ProcessBehind, Conditional, OfCondition, ReplicatedOver, ProcessFrom, FromBase, RenamedFrom, HiddenFrom, FromOperand, GeneralisedFrom, AlphabetisedFrom, ChainOver, ChainMore, OfOperand, OperandBehind, OfStart, StopStart, SkipStart, StartOfExpression, StartOfName, StartBehindName, CallOf, Arguments, PrefixOf, PrefixBehind, StartFromName, StartOfBrackets, StartFromAtom, GuardOf, BracketedInner, OfInner, InnerOfName, InnerOfDotted, InnerFrom, InnerFromName, InnerFromStart, OfDomain, OfDomains, DomainsBehind, OfClause, OfClauses, ClausesBehind, OfDeclaration, OfDatatype, OfNametype, OfChannels, OfEquation, EquationWith, OfAssertion, OfFirstSide, OfModel, OfSpelling, OfFreedom, DivergenceFree, DeadlockFree, FreedomEnd, DoubleEnd}
use Rattle.theory_reader.specs.Programs.{Seen, SeenWord, SeenSign, SeenName, SeenNumber, seen_of, Standing, Here, Program, give, refuse, look, pass, form, peek, ◌>>=◌, ◌>>◌, Oracle, run_to}

-- WHAT THE NEXT TOKEN IS

unfoldable pub is_sign : Sign → Option Seen → Bool
is_sign s (Some (SeenSign u)) = bytes_eq (sign_spelling s) (sign_spelling u)
is_sign s _ = false

unfoldable pub is_word : Keyword → Option Seen → Bool
is_word k (Some (SeenWord l)) = bytes_eq (keyword_spelling k) (keyword_spelling l)
is_word k _ = false

unfoldable pub is_name : Option Seen → Bool
is_name (Some SeenName) = true
is_name _ = false

-- the comparison that a token is
abbrev pub comparison_of : Option Seen → Option pure.Binary
comparison_of (Some (SeenSign SameSign)) = Some pure.Equals
comparison_of (Some (SeenSign DiffersSign)) = Some pure.Differs
comparison_of (Some (SeenSign LessSign)) = Some pure.LessThan
comparison_of (Some (SeenSign AtMostSign)) = Some pure.AtMost
comparison_of (Some (SeenSign GreaterSign)) = Some pure.GreaterThan
comparison_of (Some (SeenSign AtLeastSign)) = Some pure.AtLeast
comparison_of _ = None

-- the operator of a level's chains that a token is
abbrev pub operator_at : Level → Option Seen → Option pure.Binary
operator_at Disjunction (Some (SeenWord OrWord)) = Some pure.Or
operator_at Conjunction (Some (SeenWord AndWord)) = Some pure.And
operator_at Sum (Some (SeenSign PlusSign)) = Some pure.Add
operator_at Sum (Some (SeenSign MinusSign)) = Some pure.Subtract
operator_at Sum (Some (SeenSign CaretSign)) = Some pure.Concatenate
operator_at Product (Some (SeenSign TimesSign)) = Some pure.Multiply
operator_at Product (Some (SeenSign PercentSign)) = Some pure.Modulus
operator_at _ _ = None

-- the function of one argument that a keyword is
abbrev pub unary_word : Keyword → Option pure.Unary
unary_word HeadWord = Some pure.Head
unary_word TailWord = Some pure.Tail
unary_word NullWord = Some pure.IsNull
unary_word CardWord = Some pure.Card
unary_word _ = None

-- the function of two arguments that a keyword is
abbrev pub binary_word : Keyword → Option pure.Binary
binary_word ElemWord = Some pure.IsElement
binary_word MemberWord = Some pure.IsMember
binary_word UnionWord = Some pure.Union
binary_word InterWord = Some pure.Intersection
binary_word DiffWord = Some pure.Difference
binary_word _ = None

-- the operator on sets of events that a keyword is
abbrev pub set_word : Keyword → Option (RawEventSet → RawEventSet → RawEventSet)
set_word UnionWord = Some RawEventUnion
set_word InterWord = Some RawEventIntersection
set_word DiffWord = Some RawEventDifference
set_word _ = None

-- SIGNS, KEYWORDS AND NAMES

abbrev pub sign : Sign → Program (Unit {0})
sign s = do
  next ← peek
  cond (is_sign s next) (pass (give tt)) refuse

abbrev pub word : Keyword → Program (Unit {0})
word k = do
  next ← peek
  cond (is_word k next) (pass (give tt)) refuse

abbrev pub characters : Token → List ℕ
characters (NameToken cs) = cs
characters _ = []

abbrev pub name_from : PlacedToken → Seen → Program RawName
name_from t SeenName = pass (give (record { spelling = characters t.token; place = t.place }))
name_from t _ = refuse

abbrev pub name_at : Option PlacedToken → Program RawName
name_at None = refuse
name_at (Some t) = name_from t (seen_of t)

-- EXPRESSIONS

abbrev pub expression : Level → Program RawExpression
expression Atom = form OfAtom
expression Negation = form OfNegation
expression Comparison = do
  first ← form (AtLevel Sum)
  form (Compared first)
expression Disjunction = form (ChainOf Disjunction Conjunction)
expression Conjunction = form (ChainOf Conjunction Negation)
expression Sum = form (ChainOf Sum Product)
expression Product = form (ChainOf Product Atom)

abbrev pub chained_by : Level → RawExpression → Option pure.Binary → Program RawExpression
chained_by l e None = give e
chained_by l e (Some o) = do
  longer ← form (Operation o e (stronger l))
  form (Chained l longer)

abbrev pub compared_by : RawExpression → Option pure.Binary → Program RawExpression
compared_by e None = give e
compared_by e (Some o) = form (Operation o e Sum)

abbrev pub atom_by : Option Seen → Program RawExpression
atom_by None = refuse
atom_by (Some (SeenNumber n)) = pass (give (RawNumber n))
atom_by (Some (SeenWord k)) = form (AtomOfWord k)
atom_by (Some (SeenSign s)) = form (AtomOfSign s)
atom_by (Some SeenName) = do
  name ← form OfName
  give (RawUse name)

abbrev pub atom_of_word_by : Keyword → Option pure.Unary → Option pure.Binary → Program RawExpression
atom_of_word_by k (Some o) _ = do
  form (OfWord k)
  operand ← form Bracketed
  give (RawApply o operand)
atom_of_word_by k None (Some o) = do
  form (OfWord k)
  two ← form TwoArguments
  give (RawCombine o two.0 two.1)
atom_of_word_by k None None = form (Constant k)

abbrev pub constant : Keyword → Program RawExpression
constant TrueWord = form (OfWord TrueWord) >> give (RawTruth true)
constant FalseWord = form (OfWord FalseWord) >> give (RawTruth false)
constant BoolWord = form (OfWord BoolWord) >> give RawBooleans
constant _ = refuse

abbrev pub atom_of_sign : Sign → Program RawExpression
atom_of_sign MinusSign = form (Signed MinusSign pure.Negate)
atom_of_sign HashSign = form (Signed HashSign pure.Length)
atom_of_sign OpenRoundSign = form Round
atom_of_sign LessSign = form Sequence
atom_of_sign OpenBraceSign = form OfSet
atom_of_sign _ = refuse

abbrev pub dotted_by : List RawExpression → Bool → Program (List RawExpression)
dotted_by es false = give es
dotted_by es true = do
  field ← form (Behind DotSign Atom)
  form (Dotted (es ++ field ∷ []))

abbrev pub listed_by : Level → List RawExpression → Bool → Program (List RawExpression)
listed_by l es false = give es
listed_by l es true = do
  item ← form (Behind CommaSign l)
  form (Listed l (es ++ item ∷ []))

abbrev pub denied : Program RawExpression
denied = do
  form (OfWord NotWord)
  operand ← form OfNegation
  give (RawApply pure.Not operand)

abbrev pub constructed : RawName → Program RawExpression
constructed name = do
  fields ← form (Dotted [])
  give (RawConstructor name (raw_list fields))

abbrev pub behind_name : RawName → Bool → Program RawExpression
behind_name name true = constructed name
behind_name name false = form (ExpressionFrom (RawUse name))

abbrev pub enclosed_from_name : Program RawExpression
enclosed_from_name = do
  name ← form OfName
  behind ← peek
  behind_name name (is_sign DotSign behind)

abbrev pub no_items : Program RawExpression
no_items = do
  form (OfSign GreaterSign)
  give (RawSequence (raw_list []))

abbrev pub some_items : Program RawExpression
some_items = do
  item ← form (AtLevel Sum)
  items ← form (Listed Sum (item ∷ []))
  form (OfSign GreaterSign)
  give (RawSequence (raw_list items))

abbrev pub no_members : Program RawExpression
no_members = do
  form (OfSign CloseBraceSign)
  give (RawSet (raw_list []))

abbrev pub members_from : RawExpression → Program RawExpression
members_from member = do
  members ← form (Listed Disjunction (member ∷ []))
  form (OfSign CloseBraceSign)
  give (RawSet (raw_list members))

abbrev pub names_by : List RawName → Bool → Program (List RawName)
names_by ns false = give ns
names_by ns true = do
  form (OfSign CommaSign)
  name ← form OfName
  form (NamesBehind (ns ++ name ∷ []))

abbrev pub events_by : List RawEvent → Bool → Program (List RawEvent)
events_by es false = give es
events_by es true = do
  form (OfSign CommaSign)
  event ← form OfEvent
  form (EventsBehind (es ++ event ∷ []))

abbrev pub pairs_by : List RawPair → Bool → Program (List RawPair)
pairs_by ps false = give ps
pairs_by ps true = do
  form (OfSign CommaSign)
  pair ← form OfPair
  form (PairsBehind (ps ++ pair ∷ []))

abbrev pub event_set_by : Bool → Bool → Option Seen → Program RawEventSet
event_set_by true _ _ = form Productions
event_set_by false true _ = form Enumeration
event_set_by false false (Some (SeenWord k)) = form (CombinedSet k)
event_set_by false false _ = refuse

abbrev pub enumerated_by : Bool → Program RawEventSet
enumerated_by true = form (OfSign CloseBraceSign) >> give (RawEnumeration [])
enumerated_by false = do
  events ← form OfEvents
  form (OfSign CloseBraceSign)
  give (RawEnumeration events)

abbrev pub combined_by : Keyword → Option (RawEventSet → RawEventSet → RawEventSet) → Program RawEventSet
combined_by k None = refuse
combined_by k (Some o) = do
  form (OfWord k)
  left ← form (EventSetBehind OpenRoundSign)
  right ← form (EventSetBehind CommaSign)
  form (OfSign CloseRoundSign)
  give (o left right)

abbrev pub input_by : RawName → Bool → Program RawField
input_by v false = give (RawInput v)
input_by v true = do
  set ← form (Behind ColonSign Atom)
  give (RawInputFrom v set)

abbrev pub field_by : Bool → Program RawField
field_by true = do
  value ← form (Behind OutputSign Atom)
  give (RawGiven value)
field_by false = do
  name ← form (NameBehind InputSign)
  next ← peek
  input_by name (is_sign ColonSign next)

abbrev pub fields_by : List RawField → Bool → Program (List RawField)
fields_by fs false = give fs
fields_by fs true = do
  field ← form OfField
  form (FieldsBehind (fs ++ field ∷ []))

-- PROCESSES

-- the sign of an operator between processes, and of one over a set
abbrev pub infix_sign : Infix → Sign
infix_sign ExternalInfix = BoxSign
infix_sign InternalInfix = InternalSign
infix_sign SequentialInfix = SemicolonSign
infix_sign InterleavingInfix = TripleBarSign
infix_sign InterruptInfix = InterruptSign
infix_sign SlidingInfix = SlidingSign

abbrev pub replicator_sign : Replicator → Sign
replicator_sign ExternalReplicator = BoxSign
replicator_sign InternalReplicator = InternalSign
replicator_sign InterleavingReplicator = TripleBarSign

-- the operator between processes, or over a set, that a token is
abbrev pub infix_at : Option Seen → Option Infix
infix_at (Some (SeenSign BoxSign)) = Some ExternalInfix
infix_at (Some (SeenSign InternalSign)) = Some InternalInfix
infix_at (Some (SeenSign SemicolonSign)) = Some SequentialInfix
infix_at (Some (SeenSign TripleBarSign)) = Some InterleavingInfix
infix_at (Some (SeenSign InterruptSign)) = Some InterruptInfix
infix_at (Some (SeenSign SlidingSign)) = Some SlidingInfix
infix_at _ = None

abbrev pub replicator_at : Option Seen → Option Replicator
replicator_at (Some (SeenSign BoxSign)) = Some ExternalReplicator
replicator_at (Some (SeenSign InternalSign)) = Some InternalReplicator
replicator_at (Some (SeenSign TripleBarSign)) = Some InterleavingReplicator
replicator_at _ = None

-- a process that is no operand begins here
abbrev pub begins_process : Option Seen → Bool
begins_process n = is_some (replicator_at n) || is_word IfWord n

abbrev pub is_suffix : Option Seen → Bool
is_suffix n = is_sign OpenRenamingSign n || is_sign HidingSign n

-- a field of a prefix, or its arrow
abbrev pub is_prefix : Option Seen → Bool
is_prefix n = is_sign DotSign n || is_sign OutputSign n || is_sign InputSign n || is_sign ArrowSign n

-- an operator between expressions
abbrev pub is_operator : Option Seen → Bool
is_operator n =
    is_some (comparison_of n) || is_some (operator_at Product n) || is_some (operator_at Sum n)
    || is_some (operator_at Conjunction n) || is_some (operator_at Disjunction n)

abbrev pub process_by : Bool → Option Replicator → Program RawProcess
process_by true _ = form Conditional
process_by false (Some o) = form (ReplicatedOver o)
process_by false None = do
  start ← form OfStart
  form (ProcessFrom start)

abbrev pub process_from : StartTree → Program RawProcess
process_from (StartName n) = form (FromBase (RawCall n (raw_list [])))
process_from (StartExpression e) = refuse
process_from (StartBase p) = form (FromBase p)
process_from (StartOperand p) = form (FromOperand p)

abbrev pub from_base_by : RawProcess → Bool → Program RawProcess
from_base_by p true = do
  renamed ← form (RenamedFrom p)
  form (HiddenFrom renamed)
from_base_by p false = form (FromOperand p)

abbrev pub renamed_by : RawProcess → Bool → Program RawProcess
renamed_by p false = give p
renamed_by p true = do
  form (OfSign OpenRenamingSign)
  pairs ← form OfPairs
  form (OfSign CloseRenamingSign)
  form (RenamedFrom (RawRenaming p pairs))

abbrev pub hidden_by : RawProcess → Bool → Program RawProcess
hidden_by p false = give p
hidden_by p true = do
  set ← form (EventSetBehind HidingSign)
  form (HiddenFrom (RawHiding p set))

abbrev pub from_operand_by : RawProcess → Option Infix → Bool → Bool → Program RawProcess
from_operand_by p (Some o) _ _ = form (ChainOver o p)
from_operand_by p None true _ = form (GeneralisedFrom p)
from_operand_by p None false true = form (AlphabetisedFrom p)
from_operand_by p None false false = give p

abbrev pub chain_by : Infix → RawProcess → Bool → Program RawProcess
chain_by o p false = give p
chain_by o p true = do
  operand ← form (OperandBehind (infix_sign o))
  form (ChainMore o (RawInfix o p operand))

abbrev pub operand_from : StartTree → Program RawProcess
operand_from (StartName n) = give (RawCall n (raw_list []))
operand_from (StartExpression e) = refuse
operand_from (StartBase p) = give p
operand_from (StartOperand p) = give p

-- WHAT AN OPERAND OR AN EXPRESSION BEGINS WITH

abbrev pub start_by : Bool → Bool → Bool → Bool → Program StartTree
start_by true _ _ _ = form StopStart
start_by false true _ _ = form SkipStart
start_by false false true _ = form StartOfName
start_by false false false true = form StartOfBrackets
start_by false false false false = form StartOfExpression

abbrev pub behind_start_name : RawName → Bool → Bool → Program StartTree
behind_start_name n true _ = form (CallOf n)
behind_start_name n false true = form (PrefixOf n)
behind_start_name n false false = form (StartFromName n)

abbrev pub start_from_name_by : RawName → Bool → Program StartTree
start_from_name_by n false = give (StartName n)
start_from_name_by n true = do
  expression ← form (ExpressionFrom (RawUse n))
  form (GuardOf expression)

abbrev pub start_from_inner : InnerTree → Program StartTree
start_from_inner (InnerName n) = form (StartFromName n)
start_from_inner (InnerExpression e) = form (StartFromAtom e)
start_from_inner (InnerProcess p) = give (StartBase p)

abbrev pub guarded_by : RawExpression → Bool → Program StartTree
guarded_by e false = give (StartExpression e)
guarded_by e true = do
  body ← form (OperandBehind GuardSign)
  give (StartOperand (RawGuard e body))

abbrev pub inner_by : Bool → Bool → Program InnerTree
inner_by true _ = do
  process ← form OfProcess
  give (InnerProcess process)
inner_by false true = form InnerOfName
inner_by false false = do
  start ← form OfStart
  form (InnerFrom start)

abbrev pub inner_of_name_by : RawName → Bool → Program InnerTree
inner_of_name_by n true = form (InnerOfDotted n)
inner_of_name_by n false = do
  start ← form (StartBehindName n)
  form (InnerFrom start)

abbrev pub inner_of_dotted_by : RawName → List RawExpression → Bool → Program InnerTree
inner_of_dotted_by n es false = give (InnerExpression (RawConstructor n (raw_list es)))
inner_of_dotted_by n es true = do
  prefix ← form (PrefixBehind n es)
  form (InnerFromStart prefix)

abbrev pub inner_from : StartTree → Program InnerTree
inner_from (StartName n) = form (InnerFromName n)
inner_from (StartExpression e) = give (InnerExpression e)
inner_from (StartBase p) = form (InnerFromStart (StartBase p))
inner_from (StartOperand p) = form (InnerFromStart (StartOperand p))

abbrev pub inner_from_name_by : RawName → Bool → Program InnerTree
inner_from_name_by n true = give (InnerName n)
inner_from_name_by n false = form (InnerFromStart (StartName n))

-- DECLARATIONS

abbrev pub domain_at : Level → Option PlacedToken → Program RawDomain
domain_at l None = refuse
domain_at l (Some t) = do
  set ← form (AtLevel l)
  give (record { place = t.place; set = set })

abbrev pub domains_by : List RawDomain → Bool → Program (List RawDomain)
domains_by ds false = give ds
domains_by ds true = do
  form (OfSign DotSign)
  domain ← form (OfDomain Atom)
  form (DomainsBehind (ds ++ domain ∷ []))

abbrev pub clause_by : RawName → Bool → Program RawClause
clause_by n false = give (record { name = n; fields = [] })
clause_by n true = do
  form (OfSign DotSign)
  fields ← form OfDomains
  give (record { name = n; fields = fields })

abbrev pub clauses_by : List RawClause → Bool → Program (List RawClause)
clauses_by cs false = give cs
clauses_by cs true = do
  form (OfSign BarSign)
  clause ← form OfClause
  form (ClausesBehind (cs ++ clause ∷ []))

abbrev pub declaration_by : Bool → Bool → Bool → Bool → Bool → Program RawDeclaration
declaration_by true _ _ _ _ = form OfDatatype
declaration_by false true _ _ _ = form OfNametype
declaration_by false false true _ _ = form OfChannels
declaration_by false false false true _ = form OfAssertion
declaration_by false false false false true = form OfEquation
declaration_by false false false false false = refuse

abbrev pub channels_by : List RawName → Bool → Program RawDeclaration
channels_by ns false = give (RawChannels ns [])
channels_by ns true = do
  form (OfSign ColonSign)
  domains ← form OfDomains
  give (RawChannels ns domains)

abbrev pub equation_by : RawName → Bool → Program RawDeclaration
equation_by n true = form (EquationWith n)
equation_by n false = do
  body ← form (ProcessBehind EqualsSign)
  give (RawEquation n [] body)

-- ASSERTIONS

abbrev pub assertion_by : Place → Bool × RawProcess → Bool → Program RawDeclaration
assertion_by place side true = do
  form (OfSign ColonSign)
  property ← form OfFreedom
  give (RawAssertion place side.0 property side.1)
assertion_by place side false = do
  model ← form OfModel
  implementation ← form OfProcess
  give (RawAssertion place side.0 (RawRefinementOf model side.1) implementation)

abbrev pub assertion_at : Option PlacedToken → Program RawDeclaration
assertion_at None = refuse
assertion_at (Some t) = do
  form (OfWord AssertWord)
  side ← form OfFirstSide
  next ← peek
  assertion_by t.place side (is_sign ColonSign next)

abbrev pub first_side_by : Bool → Program (Bool × RawProcess)
first_side_by true = do
  form (OfWord NotWord)
  process ← form OfProcess
  give (true, process)
first_side_by false = do
  process ← form OfProcess
  give (false, process)

abbrev pub model_by : Bool → Program Model
model_by true = form (OfSign TracesSign) >> give Traces
model_by false = form (OfSign FailuresSign) >> give Failures

-- the next token is the name that is spelled so
abbrev pub is_spelling : List ℕ → Token → Bool
is_spelling cs (NameToken ds) = bytes_eq cs ds
is_spelling cs _ = false

unfoldable pub is_spelled : List ℕ → Option PlacedToken → Bool
is_spelled cs None = false
is_spelled cs (Some t) = is_spelling cs t.token

abbrev pub freedom_by : Bool → Program RawProperty
freedom_by true = form DivergenceFree >> give RawDivergenceFree
freedom_by false = form DeadlockFree >> give RawDeadlockFree

abbrev pub freedom_end_by : Bool → Program (Unit {0})
freedom_end_by true = form (OfSign CloseSquareSign)
freedom_end_by false = do
  form (OfSign OpenSquareSign)
  form (OfSpelling (codes "F"))
  form DoubleEnd

abbrev pub double_end_by : Bool → Program (Unit {0})
double_end_by true = form (OfSign CloseRenamingSign)
double_end_by false = do
  form (OfSign CloseSquareSign)
  form (OfSign CloseSquareSign)

-- EACH FORM

unfoldable pub body : (f : Form) → Program (Tree f)
body (OfSign s) = sign s
body (OfWord k) = word k
body OfName = look name_at
body (NameBehind s) = form (OfSign s) >> form OfName
body (AtLevel l) = expression l
body (Behind s l) = form (OfSign s) >> form (AtLevel l)
body (ChainOf l operands) = do
  first ← form (AtLevel operands)
  form (Chained l first)
body (Chained l e) = do
  next ← peek
  chained_by l e (operator_at l next)
body (Compared e) = do
  next ← peek
  compared_by e (comparison_of next)
body (Operation o e l) = pass (do
  second ← form (AtLevel l)
  give (RawCombine o e second))
body OfNegation = do
  next ← peek
  cond (is_word NotWord next) denied (form (AtLevel Comparison))
body OfAtom = peek >>= atom_by
body (AtomOfWord k) = atom_of_word_by k (unary_word k) (binary_word k)
body (Constant k) = constant k
body (AtomOfSign s) = atom_of_sign s
body (Signed s o) = do
  operand ← form (Behind s Atom)
  give (RawApply o operand)
body Bracketed = do
  inner ← form (Behind OpenRoundSign Disjunction)
  form (OfSign CloseRoundSign)
  give inner
body TwoArguments = do
  left ← form (Behind OpenRoundSign Disjunction)
  right ← form (Behind CommaSign Disjunction)
  form (OfSign CloseRoundSign)
  give (left, right)
body Round = do
  form (OfSign OpenRoundSign)
  inner ← form Enclosed
  form (OfSign CloseRoundSign)
  give inner
body Enclosed = do
  next ← peek
  cond (is_name next) enclosed_from_name (form (AtLevel Disjunction))
body Sequence = do
  form (OfSign LessSign)
  next ← peek
  cond (is_sign GreaterSign next) no_items some_items
body OfSet = do
  form (OfSign OpenBraceSign)
  next ← peek
  cond (is_sign CloseBraceSign next) no_members (form Members)
body Members = do
  member ← form (AtLevel Disjunction)
  next ← peek
  cond (is_sign RangeSign next) (form (Range member)) (members_from member)
body (Range e) = do
  last ← form (Behind RangeSign Disjunction)
  form (OfSign CloseBraceSign)
  give (RawRange e last)
body (Dotted es) = do
  next ← peek
  dotted_by es (is_sign DotSign next)
body (Listed l es) = do
  next ← peek
  listed_by l es (is_sign CommaSign next)
body (ExpressionFrom e) = do
  product ← form (Chained Product e)
  sum ← form (Chained Sum product)
  comparison ← form (Compared sum)
  conjunction ← form (Chained Conjunction comparison)
  form (Chained Disjunction conjunction)
body OfNames = do
  name ← form OfName
  form (NamesBehind (name ∷ []))
body (NamesBehind ns) = do
  next ← peek
  names_by ns (is_sign CommaSign next)
body OfEvent = do
  channel ← form OfName
  fields ← form (Dotted [])
  give (record { channel = channel; fields = raw_list fields })
body OfEvents = do
  event ← form OfEvent
  form (EventsBehind (event ∷ []))
body (EventsBehind es) = do
  next ← peek
  events_by es (is_sign CommaSign next)
body OfPair = do
  from ← form OfEvent
  form (OfSign BackArrowSign)
  to ← form OfEvent
  give (record { from = from; to = to })
body OfPairs = do
  pair ← form OfPair
  form (PairsBehind (pair ∷ []))
body (PairsBehind ps) = do
  next ← peek
  pairs_by ps (is_sign CommaSign next)
body OfEventSet = do
  next ← peek
  event_set_by (is_sign OpenProductionsSign next) (is_sign OpenBraceSign next) next
body (EventSetBehind s) = form (OfSign s) >> form OfEventSet
body Productions = do
  form (OfSign OpenProductionsSign)
  events ← form OfEvents
  form (OfSign CloseProductionsSign)
  give (RawProductions events)
body Enumeration = do
  form (OfSign OpenBraceSign)
  next ← peek
  enumerated_by (is_sign CloseBraceSign next)
body (CombinedSet k) = combined_by k (set_word k)
body OfField = do
  next ← peek
  field_by (is_sign OutputSign next)
body (FieldsBehind fs) = do
  next ← peek
  fields_by fs (is_sign OutputSign next || is_sign InputSign next)
body OfProcess = do
  next ← peek
  process_by (is_word IfWord next) (replicator_at next)
body (ProcessBehindWord k) = form (OfWord k) >> form OfProcess
body (ProcessBehind s) = form (OfSign s) >> form OfProcess
body Conditional = do
  condition ← form OfCondition
  first ← form (ProcessBehindWord ThenWord)
  second ← form (ProcessBehindWord ElseWord)
  give (RawIf condition first second)
body OfCondition = form (OfWord IfWord) >> form (AtLevel Disjunction)
body (ReplicatedOver o) = do
  name ← form (NameBehind (replicator_sign o))
  set ← form (Behind ColonSign Atom)
  process ← form (ProcessBehind AtSign)
  give (RawReplicated o name set process)
body (ProcessFrom start) = process_from start
body (FromBase p) = do
  next ← peek
  from_base_by p (is_suffix next)
body (RenamedFrom p) = do
  next ← peek
  renamed_by p (is_sign OpenRenamingSign next)
body (HiddenFrom p) = do
  next ← peek
  hidden_by p (is_sign HidingSign next)
body (FromOperand p) = do
  next ← peek
  from_operand_by p (infix_at next) (is_sign OpenSharedSign next) (is_sign OpenSquareSign next)
body (GeneralisedFrom p) = do
  shared ← form (EventSetBehind OpenSharedSign)
  right ← form (OperandBehind CloseSharedSign)
  give (RawGeneralisedParallel p shared right)
body (AlphabetisedFrom p) = do
  of_left ← form (EventSetBehind OpenSquareSign)
  of_right ← form (EventSetBehind DoubleBarSign)
  right ← form (OperandBehind CloseSquareSign)
  give (RawAlphabetisedParallel p of_left of_right right)
body (ChainOver o p) = do
  second ← form (OperandBehind (infix_sign o))
  form (ChainMore o (RawInfix o p second))
body (ChainMore o p) = do
  next ← peek
  chain_by o p (is_sign (infix_sign o) next)
body OfOperand = do
  start ← form OfStart
  operand_from start
body (OperandBehind s) = form (OfSign s) >> form OfOperand
body OfStart = do
  next ← peek
  start_by (is_word StopWord next) (is_word SkipWord next) (is_name next) (is_sign OpenRoundSign next)
body StopStart = form (OfWord StopWord) >> give (StartBase RawStop)
body SkipStart = form (OfWord SkipWord) >> give (StartBase RawSkip)
body StartOfExpression = do
  expression ← form (AtLevel Disjunction)
  form (GuardOf expression)
body StartOfName = do
  name ← form OfName
  form (StartBehindName name)
body (StartBehindName n) = do
  next ← peek
  behind_start_name n (is_sign OpenRoundSign next) (is_prefix next)
body (CallOf n) = do
  arguments ← form Arguments
  give (StartBase (RawCall n (raw_list arguments)))
body Arguments = do
  first ← form (Behind OpenRoundSign Disjunction)
  arguments ← form (Listed Disjunction (first ∷ []))
  form (OfSign CloseRoundSign)
  give arguments
body (PrefixOf n) = do
  values ← form (Dotted [])
  form (PrefixBehind n values)
body (PrefixBehind n es) = do
  fields ← form (FieldsBehind (map RawGiven es))
  process ← form (OperandBehind ArrowSign)
  give (StartOperand (RawPrefix n fields process))
body (StartFromName n) = do
  next ← peek
  start_from_name_by n (is_operator next || is_sign GuardSign next)
body StartOfBrackets = do
  inner ← form BracketedInner
  start_from_inner inner
body (StartFromAtom e) = do
  expression ← form (ExpressionFrom e)
  form (GuardOf expression)
body (GuardOf e) = do
  next ← peek
  guarded_by e (is_sign GuardSign next)
body BracketedInner = do
  form (OfSign OpenRoundSign)
  inner ← form OfInner
  form (OfSign CloseRoundSign)
  give inner
body OfInner = do
  next ← peek
  inner_by (begins_process next) (is_name next)
body InnerOfName = do
  name ← form OfName
  next ← peek
  inner_of_name_by name (is_sign DotSign next)
body (InnerOfDotted n) = do
  values ← form (Dotted [])
  next ← peek
  inner_of_dotted_by n values (is_prefix next)
body (InnerFrom start) = inner_from start
body (InnerFromName n) = do
  next ← peek
  inner_from_name_by n (is_sign CloseRoundSign next)
body (InnerFromStart start) = do
  process ← form (ProcessFrom start)
  give (InnerProcess process)
body (OfDomain l) = look (domain_at l)
body OfDomains = do
  domain ← form (OfDomain Atom)
  form (DomainsBehind (domain ∷ []))
body (DomainsBehind ds) = do
  next ← peek
  domains_by ds (is_sign DotSign next)
body OfClause = do
  name ← form OfName
  next ← peek
  clause_by name (is_sign DotSign next)
body OfClauses = do
  clause ← form OfClause
  form (ClausesBehind (clause ∷ []))
body (ClausesBehind cs) = do
  next ← peek
  clauses_by cs (is_sign BarSign next)
body OfDeclaration = do
  next ← peek
  declaration_by (is_word DatatypeWord next) (is_word NametypeWord next) (is_word ChannelWord next)
      (is_word AssertWord next) (is_name next)
body OfDatatype = do
  form (OfWord DatatypeWord)
  name ← form OfName
  form (OfSign EqualsSign)
  clauses ← form OfClauses
  give (RawDatatype name clauses)
body OfNametype = do
  form (OfWord NametypeWord)
  name ← form OfName
  form (OfSign EqualsSign)
  domain ← form (OfDomain Disjunction)
  give (RawNametype name domain)
body OfChannels = do
  form (OfWord ChannelWord)
  names ← form OfNames
  next ← peek
  channels_by names (is_sign ColonSign next)
body OfEquation = do
  name ← form OfName
  next ← peek
  equation_by name (is_sign OpenRoundSign next)
body (EquationWith n) = do
  form (OfSign OpenRoundSign)
  parameters ← form OfNames
  form (OfSign CloseRoundSign)
  process ← form (ProcessBehind EqualsSign)
  give (RawEquation n parameters process)
body OfAssertion = look assertion_at
body OfFirstSide = do
  next ← peek
  first_side_by (is_word NotWord next)
body OfModel = do
  next ← peek
  model_by (is_sign TracesSign next)
body (OfSpelling cs) = look (λ t. cond (is_spelled cs t) (pass (give tt)) refuse)
body OfFreedom = do
  form (OfSign OpenSquareSign)
  look (λ t. freedom_by (is_spelled (codes "divergence") t))
body DivergenceFree = do
  form (OfSpelling (codes "divergence"))
  form (OfSpelling (codes "free"))
  form (OfSign CloseSquareSign)
body DeadlockFree = do
  form (OfSpelling (codes "deadlock"))
  form (OfSpelling (codes "free"))
  form FreedomEnd
body FreedomEnd = do
  next ← peek
  freedom_end_by (is_sign CloseSquareSign next)
body DoubleEnd = do
  next ← peek
  double_end_by (is_sign CloseRenamingSign next)

-- HOW LONG IT TAKES

-- how far a level is from the strongest
abbrev pub strength : Level → ℕ
strength Disjunction = 6
strength Conjunction = 5
strength Negation = 4
strength Comparison = 3
strength Sum = 2
strength Product = 1
strength Atom = 0

-- a form reads others at the same place only of lower ranks
unfoldable pub rank : Form → ℕ
rank (OfSign s) = 0
rank (OfWord k) = 0
rank OfName = 0
rank (NameBehind s) = 1
rank (AtLevel l) = 10 + 2 * strength l
rank (Behind s l) = 1
rank (ChainOf l operands) = 11 + 2 * strength operands
rank (Chained l e) = 3
rank (Compared e) = 3
rank (Operation o e l) = 1
rank OfNegation = 17
rank OfAtom = 9
rank (AtomOfWord k) = 8
rank (Constant k) = 1
rank (AtomOfSign s) = 8
rank (Signed s o) = 2
rank Bracketed = 2
rank TwoArguments = 2
rank Round = 1
rank Enclosed = 23
rank Sequence = 1
rank OfSet = 1
rank Members = 23
rank (Range e) = 2
rank (Dotted es) = 2
rank (Listed l es) = 2
rank (ExpressionFrom e) = 4
rank OfNames = 2
rank (NamesBehind ns) = 1
rank OfEvent = 3
rank OfEvents = 4
rank (EventsBehind es) = 1
rank OfPair = 4
rank OfPairs = 5
rank (PairsBehind ps) = 1
rank OfEventSet = 2
rank (EventSetBehind s) = 1
rank Productions = 1
rank Enumeration = 1
rank (CombinedSet k) = 1
rank OfField = 2
rank (FieldsBehind fs) = 3
rank OfProcess = 25
rank (ProcessBehindWord k) = 1
rank (ProcessBehind s) = 1
rank Conditional = 2
rank OfCondition = 1
rank (ReplicatedOver o) = 2
rank (ProcessFrom s) = 5
rank (FromBase p) = 4
rank (RenamedFrom p) = 1
rank (HiddenFrom p) = 2
rank (FromOperand p) = 3
rank (GeneralisedFrom p) = 2
rank (AlphabetisedFrom p) = 2
rank (ChainOver o p) = 2
rank (ChainMore o p) = 2
rank OfOperand = 25
rank (OperandBehind s) = 1
rank OfStart = 24
rank StopStart = 1
rank SkipStart = 1
rank StartOfExpression = 23
rank StartOfName = 1
rank (StartBehindName n) = 6
rank (CallOf n) = 3
rank Arguments = 2
rank (PrefixOf n) = 5
rank (PrefixBehind n es) = 4
rank (StartFromName n) = 5
rank StartOfBrackets = 2
rank (StartFromAtom e) = 5
rank (GuardOf e) = 2
rank BracketedInner = 1
rank OfInner = 26
rank InnerOfName = 1
rank (InnerOfDotted n) = 7
rank (InnerFrom s) = 8
rank (InnerFromName n) = 7
rank (InnerFromStart s) = 6
rank (OfDomain l) = 23
rank OfDomains = 24
rank (DomainsBehind ds) = 1
rank OfClause = 1
rank OfClauses = 2
rank (ClausesBehind cs) = 1
rank OfDeclaration = 2
rank OfDatatype = 1
rank OfNametype = 1
rank OfChannels = 1
rank OfEquation = 1
rank (EquationWith n) = 1
rank OfAssertion = 1
rank OfFirstSide = 26
rank OfModel = 1
rank (OfSpelling cs) = 0
rank OfFreedom = 1
rank DivergenceFree = 1
rank DeadlockFree = 1
rank FreedomEnd = 1
rank DoubleEnd = 1

-- the forms that are a token at least
unfoldable pub takes_token : Form → Bool
takes_token (Chained l e) = false
takes_token (Compared e) = false
takes_token (Dotted es) = false
takes_token (Listed l es) = false
takes_token (ExpressionFrom e) = false
takes_token (NamesBehind ns) = false
takes_token (EventsBehind es) = false
takes_token (PairsBehind ps) = false
takes_token (FieldsBehind fs) = false
takes_token (ProcessFrom s) = false
takes_token (FromBase p) = false
takes_token (RenamedFrom p) = false
takes_token (HiddenFrom p) = false
takes_token (FromOperand p) = false
takes_token (ChainMore o p) = false
takes_token (StartBehindName n) = false
takes_token (StartFromName n) = false
takes_token (StartFromAtom e) = false
takes_token (GuardOf e) = false
takes_token (InnerOfDotted n) = false
takes_token (InnerFrom s) = false
takes_token (InnerFromName n) = false
takes_token (InnerFromStart s) = false
takes_token (DomainsBehind ds) = false
takes_token (ClausesBehind cs) = false
takes_token _ = true

abbrev pub weight : Form → Standing → ℕ
weight f s = length s.left * 32 + rank f

unfoldable pub reads_within : Bool → ℕ → Oracle
reads_within limited zero f s = Err (Here, s.left)
reads_within limited (suc n) f s = run_to limited (reads_within limited n) (body f) s

-- What is read of a form, within the limit of heights or whatever the heights are. The bound is always great enough.
unfoldable pub reads_to : Bool → Oracle
reads_to limited f s = reads_within limited (suc (weight f s)) f s

abbrev pub reads : Oracle
reads = reads_to true
