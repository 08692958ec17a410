-- Each form is read as its own program says, since the bound is great enough.
use Rattle.std.proofs.Common.{◌≡◌, ℕ, zero, suc, ◌+◌, ◌*◌, ◌<◌, Bool, true, false, cond, List, length, refl, Option, Some, None, arith, inl, inr, codes}
use Rattle.std.specs.Prelude.{option_map, ◌||◌}
use Rattle.theory_syntax.specs.Expression as pure
use Rattle.theory_text.specs.Place.{Place}
use Rattle.theory_text.specs.Raw.{RawName, RawExpression, RawEvent, RawEventSet, RawPair, RawField, Replicator, RawProcess, Infix, RawDomain, RawClause}
use Rattle.theory_text.specs.Token.{Keyword, Sign, PlacedToken, TrueWord, FalseWord, BoolWord, NotWord, MinusSign, HashSign, OpenRoundSign, LessSign, OpenBraceSign, GreaterSign, CloseBraceSign, RangeSign, CommaSign, DotSign, OpenProductionsSign, OutputSign, InputSign, ColonSign, IfWord, AssertWord, BarSign, ChannelWord, CloseRenamingSign, CloseRoundSign, CloseSquareSign, DatatypeWord, GuardSign, HidingSign, NametypeWord, OpenRenamingSign, OpenSharedSign, OpenSquareSign, SkipWord, StopWord, TracesSign}
use Rattle.theory_reader.specs.Forms.{Level, Negation, Comparison, Atom, Form, OfSign, OfWord, OfName, NameBehind, AtLevel, Behind, ChainOf, Chained, Compared, Operation, OfNegation, OfAtom, AtomOfWord, Constant, AtomOfSign, Signed, Bracketed, TwoArguments, Round, Enclosed, Sequence, OfSet, Members, Range, Dotted, Listed, ExpressionFrom, OfEvent, OfEvents, EventsBehind, OfPair, OfPairs, PairsBehind, OfEventSet, EventSetBehind, Productions, Enumeration, CombinedSet, OfField, FieldsBehind, OfNames, NamesBehind, StartTree, InnerTree, StartName, StartExpression, InnerName, ProcessBehindWord, StartBase, InnerExpression, ProcessBehind, StartOperand, InnerProcess, ReplicatedOver, ProcessFrom, FromBase, AlphabetisedFrom, Arguments, BracketedInner, CallOf, ChainMore, ChainOver, ClausesBehind, Conditional, Conjunction, DeadlockFree, Disjunction, DivergenceFree, DomainsBehind, DoubleEnd, EquationWith, FreedomEnd, FromOperand, GeneralisedFrom, HiddenFrom, InnerFrom, InnerFromName, InnerFromStart, InnerOfDotted, InnerOfName, OfAssertion, OfChannels, OfClause, OfClauses, OfCondition, OfDatatype, OfDeclaration, OfDomain, OfDomains, OfEquation, OfFirstSide, OfFreedom, OfInner, OfModel, OfNametype, OfOperand, OfProcess, OfSpelling, OfStart, OperandBehind, PrefixBehind, PrefixOf, Product, RenamedFrom, SkipStart, StartBehindName, StartFromAtom, StartFromName, StartOfBrackets, StartOfExpression, StartOfName, StopStart, Sum, GuardOf}
use Rattle.theory_reader.specs.Programs.{Seen, SeenName, SeenNumber, seen_of, Standing, Program, give, refuse, pass, run, run_to, SeenWord}
use Rattle.theory_reader.specs.Reader.{is_sign, is_word, is_name, comparison_of, operator_at, unary_word, binary_word, name_from, name_at, expression, chained_by, compared_by, atom_by, atom_of_word_by, constant, atom_of_sign, dotted_by, listed_by, events_by, behind_name, body, rank, takes_token, weight, reads_within, reads_to, reads, set_word, pairs_by, event_set_by, enumerated_by, combined_by, input_by, field_by, fields_by, names_by, start_by, behind_start_name, start_from_name_by, guarded_by, inner_by, inner_of_name_by, inner_of_dotted_by, inner_from_name_by, domain_at, clause_by, declaration_by, channels_by, equation_by, assertion_at, first_side_by, model_by, freedom_by, freedom_end_by, double_end_by, process_by, process_from, from_base_by, renamed_by, hidden_by, from_operand_by, chain_by, operand_from, start_from_inner, inner_from, domains_by, clauses_by, replicator_at, is_suffix, strength, assertion_by, begins_process, infix_at, infix_sign, is_operator, is_prefix, is_spelled}
use Rattle.theory_reader.proofs.Guards.{Guarded, Shrinks, agree}

guarded_cond : {A : Type 0} (r : ℕ) (takes far b : Bool) (p q : Program A) → Guarded r takes far p → Guarded r takes far q → Guarded r takes far (cond b p q)
guarded_cond r takes far true p q g h = g
guarded_cond r takes far false p q g h = h

guarded_seen : (t : PlacedToken) (k : Seen) → Guarded 0 true false (name_from t k)
guarded_seen t SeenName = refl
guarded_seen t _ = tt

guarded_name : (t : Option PlacedToken) → Guarded 0 true false (name_at t)
guarded_name None = tt
guarded_name (Some t) = guarded_seen t (seen_of t)

guarded_level : (l : Level) → Guarded (rank (AtLevel l)) true false (expression l)
unfolding rank takes_token
guarded_level Atom = (inr (omega arith), λ x. refl)
guarded_level Negation = (inr (omega arith), λ x. refl)
guarded_level Comparison = (inr (omega arith), λ x. (inl refl, λ y. refl))
guarded_level _ = (inr (omega arith), λ x. refl)

guarded_chained : (l : Level) (e : RawExpression) (o : Option pure.Binary) → Guarded 3 false false (chained_by l e o)
unfolding rank takes_token
guarded_chained l e None = refl
guarded_chained l e (Some o) = (inr (omega arith), λ x. (inl refl, λ y. refl))

guarded_compared : (e : RawExpression) (o : Option pure.Binary) → Guarded 3 false false (compared_by e o)
unfolding rank takes_token
guarded_compared e None = refl
guarded_compared e (Some o) = (inr (omega arith), λ x. refl)

guarded_atom : (k : Option Seen) → Guarded 9 true false (atom_by k)
unfolding rank takes_token
guarded_atom None = tt
guarded_atom (Some (SeenNumber n)) = refl
guarded_atom (Some _) = (inr (omega arith), λ x. refl)

guarded_word : (k : Keyword) (o : Option pure.Unary) (u : Option pure.Binary) → Guarded 8 true false (atom_of_word_by k o u)
unfolding rank takes_token
guarded_word k (Some o) u = (inr (omega arith), λ x. (inl refl, λ y. refl))
guarded_word k None (Some u) = (inr (omega arith), λ x. (inl refl, λ y. refl))
guarded_word k None None = (inr (omega arith), λ x. refl)

guarded_constant : (k : Keyword) → Guarded 1 true false (constant k)
unfolding rank takes_token
guarded_constant TrueWord = (inr (omega arith), λ x. refl)
guarded_constant FalseWord = (inr (omega arith), λ x. refl)
guarded_constant BoolWord = (inr (omega arith), λ x. refl)
guarded_constant _ = tt

guarded_atom_sign : (s : Sign) → Guarded 8 true false (atom_of_sign s)
unfolding rank takes_token
guarded_atom_sign MinusSign = (inr (omega arith), λ x. refl)
guarded_atom_sign HashSign = (inr (omega arith), λ x. refl)
guarded_atom_sign OpenRoundSign = (inr (omega arith), λ x. refl)
guarded_atom_sign LessSign = (inr (omega arith), λ x. refl)
guarded_atom_sign OpenBraceSign = (inr (omega arith), λ x. refl)
guarded_atom_sign _ = tt

guarded_dotted : (es : List RawExpression) (b : Bool) → Guarded 2 false false (dotted_by es b)
unfolding rank takes_token
guarded_dotted es true = (inr (omega arith), λ x. (inl refl, λ y. refl))
guarded_dotted es false = refl

guarded_listed : (l : Level) (es : List RawExpression) (b : Bool) → Guarded 2 false false (listed_by l es b)
unfolding rank takes_token
guarded_listed l es true = (inr (omega arith), λ x. (inl refl, λ y. refl))
guarded_listed l es false = refl

guarded_behind_name : (v : RawName) (b : Bool) → Guarded 23 true true (behind_name v b)
guarded_behind_name v true = (inl refl, λ y. refl)
guarded_behind_name v false = (inl refl, λ y. refl)

guarded_names : (ns : List RawName) (b : Bool) → Guarded 1 false false (names_by ns b)
unfolding rank takes_token
guarded_names ns true = (inr (omega arith), λ x. (inl refl, λ y. (inl refl, λ z. refl)))
guarded_names ns false = refl

guarded_events : (es : List RawEvent) (b : Bool) → Guarded 1 false false (events_by es b)
unfolding rank takes_token
guarded_events es true = (inr (omega arith), λ x. (inl refl, λ y. (inl refl, λ z. refl)))
guarded_events es false = refl

guarded_pairs : (ps : List RawPair) (b : Bool) → Guarded 1 false false (pairs_by ps b)
unfolding rank takes_token
guarded_pairs ps true = (inr (omega arith), λ x. (inl refl, λ y. (inl refl, λ z. refl)))
guarded_pairs ps false = refl

guarded_event_set : (b c : Bool) (n : Option Seen) → Guarded 2 true false (event_set_by b c n)
unfolding rank takes_token
guarded_event_set true c n = (inr (omega arith), λ x. refl)
guarded_event_set false true n = (inr (omega arith), λ x. refl)
guarded_event_set false false (Some (SeenWord k)) = (inr (omega arith), λ x. refl)
guarded_event_set false false _ = tt

guarded_enumerated : (b : Bool) → Guarded 1 true true (enumerated_by b)
guarded_enumerated true = (inl refl, λ y. refl)
guarded_enumerated false = (inl refl, λ y. (inl refl, λ z. refl))

guarded_combined : (k : Keyword) (o : Option (RawEventSet → RawEventSet → RawEventSet)) → Guarded 1 true false (combined_by k o)
unfolding rank takes_token
guarded_combined k None = tt
guarded_combined k (Some o) = (inr (omega arith), λ x. (inl refl, λ y. (inl refl, λ z. (inl refl, λ w. refl))))

guarded_input : (v : RawName) (b : Bool) → Guarded 2 true true (input_by v b)
guarded_input v true = (inl refl, λ y. refl)
guarded_input v false = refl

guarded_field : (b : Bool) → Guarded 2 true false (field_by b)
unfolding rank takes_token
guarded_field true = (inr (omega arith), λ x. refl)
guarded_field false = (inr (omega arith), λ x t. guarded_input x (is_sign ColonSign (option_map seen_of t)))

guarded_fields : (fs : List RawField) (b : Bool) → Guarded 3 false false (fields_by fs b)
unfolding rank takes_token
guarded_fields fs true = (inr (omega arith), λ x. (inl refl, λ y. refl))
guarded_fields fs false = refl

guarded_process : (b : Bool) (o : Option Replicator) → Guarded 25 true false (process_by b o)
unfolding rank takes_token
guarded_process true o = (inr (omega arith), λ x. refl)
guarded_process false (Some o) = (inr (omega arith), λ x. refl)
guarded_process false None = (inr (omega arith), λ x. (inl refl, λ y. refl))

guarded_process_from : (s : StartTree) → Guarded 5 false false (process_from s)
unfolding rank takes_token
guarded_process_from (StartName n) = (inr (omega arith), λ x. refl)
guarded_process_from (StartExpression e) = tt
guarded_process_from (StartBase p) = (inr (omega arith), λ x. refl)
guarded_process_from (StartOperand p) = (inr (omega arith), λ x. refl)

guarded_from_base : (p : RawProcess) (b : Bool) → Guarded 4 false false (from_base_by p b)
unfolding rank takes_token
guarded_from_base p true = (inr (omega arith), λ x. (inr (omega arith), λ y. refl))
guarded_from_base p false = (inr (omega arith), λ x. refl)

guarded_renamed : (p : RawProcess) (b : Bool) → Guarded 1 false false (renamed_by p b)
unfolding rank takes_token
guarded_renamed p false = refl
guarded_renamed p true = (inr (omega arith), λ x. (inl refl, λ y. (inl refl, λ z. (inl refl, λ w. refl))))

guarded_hidden : (p : RawProcess) (b : Bool) → Guarded 2 false false (hidden_by p b)
unfolding rank takes_token
guarded_hidden p false = refl
guarded_hidden p true = (inr (omega arith), λ x. (inl refl, λ y. refl))

guarded_from_operand : (p : RawProcess) (o : Option Infix) (b c : Bool) → Guarded 3 false false (from_operand_by p o b c)
unfolding rank takes_token
guarded_from_operand p (Some o) b c = (inr (omega arith), λ x. refl)
guarded_from_operand p None true c = (inr (omega arith), λ x. refl)
guarded_from_operand p None false true = (inr (omega arith), λ x. refl)
guarded_from_operand p None false false = refl

guarded_chain : (o : Infix) (p : RawProcess) (b : Bool) → Guarded 2 false false (chain_by o p b)
unfolding rank takes_token
guarded_chain o p false = refl
guarded_chain o p true = (inr (omega arith), λ x. (inl refl, λ y. refl))

guarded_operand : (s : StartTree) → Guarded 25 true true (operand_from s)
guarded_operand (StartExpression e) = tt
guarded_operand _ = refl

guarded_start : (a b c d : Bool) → Guarded 24 true false (start_by a b c d)
unfolding rank takes_token
guarded_start true b c d = (inr (omega arith), λ x. refl)
guarded_start false true c d = (inr (omega arith), λ x. refl)
guarded_start false false true d = (inr (omega arith), λ x. refl)
guarded_start false false false true = (inr (omega arith), λ x. refl)
guarded_start false false false false = (inr (omega arith), λ x. refl)

guarded_start_name : (n : RawName) (b c : Bool) → Guarded 6 false false (behind_start_name n b c)
unfolding rank takes_token
guarded_start_name n true c = (inr (omega arith), λ x. refl)
guarded_start_name n false true = (inr (omega arith), λ x. refl)
guarded_start_name n false false = (inr (omega arith), λ x. refl)

guarded_from_name : (n : RawName) (b : Bool) → Guarded 5 false false (start_from_name_by n b)
unfolding rank takes_token
guarded_from_name n false = refl
guarded_from_name n true = (inr (omega arith), λ x. (inr (omega arith), λ y. refl))

guarded_from_inner : (i : InnerTree) → Guarded 2 true true (start_from_inner i)
guarded_from_inner (InnerName n) = (inl refl, λ x. refl)
guarded_from_inner (InnerExpression e) = (inl refl, λ x. refl)
guarded_from_inner (InnerProcess p) = refl

guarded_guard : (e : RawExpression) (b : Bool) → Guarded 2 false false (guarded_by e b)
unfolding rank takes_token
guarded_guard e false = refl
guarded_guard e true = (inr (omega arith), λ x. refl)

guarded_inner : (b c : Bool) → Guarded 26 true false (inner_by b c)
unfolding rank takes_token
guarded_inner true c = (inr (omega arith), λ x. refl)
guarded_inner false true = (inr (omega arith), λ x. refl)
guarded_inner false false = (inr (omega arith), λ x. (inl refl, λ y. refl))

guarded_inner_name : (n : RawName) (b : Bool) → Guarded 1 true true (inner_of_name_by n b)
guarded_inner_name n true = (inl refl, λ x. refl)
guarded_inner_name n false = (inl refl, λ x. (inl refl, λ y. refl))

guarded_inner_dotted : (n : RawName) (es : List RawExpression) (b : Bool) → Guarded 7 false false (inner_of_dotted_by n es b)
unfolding rank takes_token
guarded_inner_dotted n es false = refl
guarded_inner_dotted n es true = (inr (omega arith), λ x. (inl refl, λ y. refl))

guarded_inner_from : (s : StartTree) → Guarded 8 false false (inner_from s)
unfolding rank takes_token
guarded_inner_from (StartExpression e) = refl
guarded_inner_from (StartName n) = (inr (omega arith), λ x. refl)
guarded_inner_from (StartBase p) = (inr (omega arith), λ x. refl)
guarded_inner_from (StartOperand p) = (inr (omega arith), λ x. refl)

guarded_inner_from_name : (n : RawName) (b : Bool) → Guarded 7 false false (inner_from_name_by n b)
unfolding rank takes_token
guarded_inner_from_name n true = refl
guarded_inner_from_name n false = (inr (omega arith), λ x. refl)

level_below : (l : Level) → 10 + 2 * strength l < 23
level_below Disjunction = omega arith
level_below Conjunction = omega arith
level_below Negation = omega arith
level_below Comparison = omega arith
level_below Sum = omega arith
level_below Product = omega arith
level_below Atom = omega arith

guarded_domain : (l : Level) (t : Option PlacedToken) → Guarded 23 true false (domain_at l t)
unfolding rank takes_token
guarded_domain l None = tt
guarded_domain l (Some t) = (inr (level_below l), λ x. refl)

guarded_domains : (ds : List RawDomain) (b : Bool) → Guarded 1 false false (domains_by ds b)
unfolding rank takes_token
guarded_domains ds false = refl
guarded_domains ds true = (inr (omega arith), λ x. (inl refl, λ y. (inl refl, λ z. refl)))

guarded_clause : (n : RawName) (b : Bool) → Guarded 1 true true (clause_by n b)
guarded_clause n false = refl
guarded_clause n true = (inl refl, λ x. (inl refl, λ y. refl))

guarded_clauses : (cs : List RawClause) (b : Bool) → Guarded 1 false false (clauses_by cs b)
unfolding rank takes_token
guarded_clauses cs false = refl
guarded_clauses cs true = (inr (omega arith), λ x. (inl refl, λ y. (inl refl, λ z. refl)))

guarded_declaration : (a b c d e : Bool) → Guarded 2 true false (declaration_by a b c d e)
unfolding rank takes_token
guarded_declaration true b c d e = (inr (omega arith), λ x. refl)
guarded_declaration false true c d e = (inr (omega arith), λ x. refl)
guarded_declaration false false true d e = (inr (omega arith), λ x. refl)
guarded_declaration false false false true e = (inr (omega arith), λ x. refl)
guarded_declaration false false false false true = (inr (omega arith), λ x. refl)
guarded_declaration false false false false false = tt

guarded_channels : (ns : List RawName) (b : Bool) → Guarded 1 true true (channels_by ns b)
guarded_channels ns false = refl
guarded_channels ns true = (inl refl, λ x. (inl refl, λ y. refl))

guarded_equation : (n : RawName) (b : Bool) → Guarded 1 true true (equation_by n b)
guarded_equation n true = (inl refl, λ x. refl)
guarded_equation n false = (inl refl, λ x. refl)

guarded_assertion_by : (p : Place) (side : Bool × RawProcess) (b : Bool) → Guarded 1 true true (assertion_by p side b)
guarded_assertion_by p side true = (inl refl, λ x. (inl refl, λ y. refl))
guarded_assertion_by p side false = (inl refl, λ x. (inl refl, λ y. refl))

guarded_assertion : (t : Option PlacedToken) → Guarded 1 true false (assertion_at t)
unfolding rank takes_token
guarded_assertion None = tt
guarded_assertion (Some t) = (inr (omega arith), λ x. (inl refl, λ y u. guarded_assertion_by t.place y (is_sign ColonSign (option_map seen_of u))))

guarded_first_side : (b : Bool) → Guarded 26 true false (first_side_by b)
unfolding rank takes_token
guarded_first_side true = (inr (omega arith), λ x. (inl refl, λ y. refl))
guarded_first_side false = (inr (omega arith), λ x. refl)

guarded_model : (b : Bool) → Guarded 1 true false (model_by b)
unfolding rank takes_token
guarded_model true = (inr (omega arith), λ x. refl)
guarded_model false = (inr (omega arith), λ x. refl)

guarded_freedom : (b : Bool) → Guarded 1 true true (freedom_by b)
guarded_freedom true = (inl refl, λ x. refl)
guarded_freedom false = (inl refl, λ x. refl)

guarded_freedom_end : (b : Bool) → Guarded 1 true false (freedom_end_by b)
unfolding rank takes_token
guarded_freedom_end true = (inr (omega arith), λ x. refl)
guarded_freedom_end false = (inr (omega arith), λ x. (inl refl, λ y. (inl refl, λ z. refl)))

guarded_double_end : (b : Bool) → Guarded 1 true false (double_end_by b)
unfolding rank takes_token
guarded_double_end true = (inr (omega arith), λ x. refl)
guarded_double_end false = (inr (omega arith), λ x. (inl refl, λ y. refl))

guarded : (f : Form) → Guarded (rank f) (takes_token f) false (body f)
unfolding body rank takes_token
guarded (OfSign s) = λ t. guarded_cond 0 true false (is_sign s (option_map seen_of t)) (pass (give tt)) refuse refl tt
guarded (OfWord k) = λ t. guarded_cond 0 true false (is_word k (option_map seen_of t)) (pass (give tt)) refuse refl tt
guarded OfName = λ t. guarded_name t
guarded (NameBehind s) = (inr (omega arith), λ x. (inl refl, λ y. refl))
guarded (AtLevel l) = guarded_level l
guarded (Behind s l) = (inr (omega arith), λ x. (inl refl, λ y. refl))
guarded (ChainOf l operands) = (inr (omega arith), λ x. (inl refl, λ y. refl))
guarded (Chained l e) = λ t. guarded_chained l e (operator_at l (option_map seen_of t))
guarded (Compared e) = λ t. guarded_compared e (comparison_of (option_map seen_of t))
guarded (Operation o e l) = (inl refl, λ x. refl)
guarded OfNegation = λ t. guarded_cond 17 true false (is_word NotWord (option_map seen_of t)) _ _ (inr (omega arith), λ x. (inl refl, λ y. refl)) (inr (omega arith), λ x. refl)
guarded OfAtom = λ t. guarded_atom (option_map seen_of t)
guarded (AtomOfWord k) = guarded_word k (unary_word k) (binary_word k)
guarded (Constant k) = guarded_constant k
guarded (AtomOfSign s) = guarded_atom_sign s
guarded (Signed s o) = (inr (omega arith), λ x. refl)
guarded Bracketed = (inr (omega arith), λ x. (inl refl, λ y. refl))
guarded TwoArguments = (inr (omega arith), λ x. (inl refl, λ y. (inl refl, λ z. refl)))
guarded Round = (inr (omega arith), λ x. (inl refl, λ y. (inl refl, λ z. refl)))
guarded Enclosed = λ t. guarded_cond 23 true false (is_name (option_map seen_of t)) _ _ (inr (omega arith), λ x u. guarded_behind_name x (is_sign DotSign (option_map seen_of u))) (inr (omega arith), λ x. refl)
guarded Sequence = (inr (omega arith), λ x t. guarded_cond 1 true true (is_sign GreaterSign (option_map seen_of t)) _ _ (inl refl, λ y. refl) (inl refl, λ y. (inl refl, λ z. (inl refl, λ w. refl))))
guarded OfSet = (inr (omega arith), λ x t. guarded_cond 1 true true (is_sign CloseBraceSign (option_map seen_of t)) _ _ (inl refl, λ y. refl) (inl refl, λ y. refl))
guarded Members = (inr (omega arith), λ x t. guarded_cond 23 true true (is_sign RangeSign (option_map seen_of t)) _ _ (inl refl, λ y. refl) (inl refl, λ y. (inl refl, λ z. refl)))
guarded (Range e) = (inr (omega arith), λ x. (inl refl, λ y. refl))
guarded (Dotted es) = λ t. guarded_dotted es (is_sign DotSign (option_map seen_of t))
guarded (Listed l es) = λ t. guarded_listed l es (is_sign CommaSign (option_map seen_of t))
guarded (ExpressionFrom e) = (inr (omega arith), λ x. (inr (omega arith), λ y. (inr (omega arith), λ z. (inr (omega arith), λ v. (inr (omega arith), λ w. refl)))))
guarded OfNames = (inr (omega arith), λ x. (inl refl, λ y. refl))
guarded (NamesBehind ns) = λ t. guarded_names ns (is_sign CommaSign (option_map seen_of t))
guarded OfEvent = (inr (omega arith), λ x. (inl refl, λ y. refl))
guarded OfEvents = (inr (omega arith), λ x. (inl refl, λ y. refl))
guarded (EventsBehind es) = λ t. guarded_events es (is_sign CommaSign (option_map seen_of t))
guarded OfPair = (inr (omega arith), λ x. (inl refl, λ y. (inl refl, λ z. refl)))
guarded OfPairs = (inr (omega arith), λ x. (inl refl, λ y. refl))
guarded (PairsBehind ps) = λ t. guarded_pairs ps (is_sign CommaSign (option_map seen_of t))
guarded OfEventSet = λ t. guarded_event_set (is_sign OpenProductionsSign (option_map seen_of t)) (is_sign OpenBraceSign (option_map seen_of t)) (option_map seen_of t)
guarded (EventSetBehind s) = (inr (omega arith), λ x. (inl refl, λ y. refl))
guarded Productions = (inr (omega arith), λ x. (inl refl, λ y. (inl refl, λ z. refl)))
guarded Enumeration = (inr (omega arith), λ x t. guarded_enumerated (is_sign CloseBraceSign (option_map seen_of t)))
guarded (CombinedSet k) = guarded_combined k (set_word k)
guarded OfField = λ t. guarded_field (is_sign OutputSign (option_map seen_of t))
guarded (FieldsBehind fs) = λ t. guarded_fields fs (is_sign OutputSign (option_map seen_of t) || is_sign InputSign (option_map seen_of t))
guarded OfProcess = λ t. guarded_process (is_word IfWord (option_map seen_of t)) (replicator_at (option_map seen_of t))
guarded (ProcessBehindWord k) = (inr (omega arith), λ x. (inl refl, λ y. refl))
guarded (ProcessBehind s) = (inr (omega arith), λ x. (inl refl, λ y. refl))
guarded Conditional = (inr (omega arith), λ x. (inl refl, λ y. (inl refl, λ z. refl)))
guarded OfCondition = (inr (omega arith), λ x. (inl refl, λ y. refl))
guarded (ReplicatedOver o) = (inr (omega arith), λ x. (inl refl, λ y. (inl refl, λ z. refl)))
guarded (ProcessFrom s) = guarded_process_from s
guarded (FromBase p) = λ t. guarded_from_base p (is_suffix (option_map seen_of t))
guarded (RenamedFrom p) = λ t. guarded_renamed p (is_sign OpenRenamingSign (option_map seen_of t))
guarded (HiddenFrom p) = λ t. guarded_hidden p (is_sign HidingSign (option_map seen_of t))
guarded (FromOperand p) = λ t. guarded_from_operand p (infix_at (option_map seen_of t)) (is_sign OpenSharedSign (option_map seen_of t)) (is_sign OpenSquareSign (option_map seen_of t))
guarded (GeneralisedFrom p) = (inr (omega arith), λ x. (inl refl, λ y. refl))
guarded (AlphabetisedFrom p) = (inr (omega arith), λ x. (inl refl, λ y. (inl refl, λ z. refl)))
guarded (ChainOver o p) = (inr (omega arith), λ x. (inl refl, λ y. refl))
guarded (ChainMore o p) = λ t. guarded_chain o p (is_sign (infix_sign o) (option_map seen_of t))
guarded OfOperand = (inr (omega arith), λ x. guarded_operand x)
guarded (OperandBehind s) = (inr (omega arith), λ x. (inl refl, λ y. refl))
guarded OfStart = λ t. guarded_start (is_word StopWord (option_map seen_of t)) (is_word SkipWord (option_map seen_of t)) (is_name (option_map seen_of t)) (is_sign OpenRoundSign (option_map seen_of t))
guarded StopStart = (inr (omega arith), λ x. refl)
guarded SkipStart = (inr (omega arith), λ x. refl)
guarded StartOfExpression = (inr (omega arith), λ x. (inl refl, λ y. refl))
guarded StartOfName = (inr (omega arith), λ x. (inl refl, λ y. refl))
guarded (StartBehindName n) = λ t. guarded_start_name n (is_sign OpenRoundSign (option_map seen_of t)) (is_prefix (option_map seen_of t))
guarded (CallOf n) = (inr (omega arith), λ x. refl)
guarded Arguments = (inr (omega arith), λ x. (inl refl, λ y. (inl refl, λ z. refl)))
guarded (PrefixOf n) = (inr (omega arith), λ x. (inr (omega arith), λ y. refl))
guarded (PrefixBehind n es) = (inr (omega arith), λ x. (inr (omega arith), λ y. refl))
guarded (StartFromName n) = λ t. guarded_from_name n (is_operator (option_map seen_of t) || is_sign GuardSign (option_map seen_of t))
guarded StartOfBrackets = (inr (omega arith), λ x. guarded_from_inner x)
guarded (StartFromAtom e) = (inr (omega arith), λ x. (inr (omega arith), λ y. refl))
guarded (GuardOf e) = λ t. guarded_guard e (is_sign GuardSign (option_map seen_of t))
guarded BracketedInner = (inr (omega arith), λ x. (inl refl, λ y. (inl refl, λ z. refl)))
guarded OfInner = λ t. guarded_inner (begins_process (option_map seen_of t)) (is_name (option_map seen_of t))
guarded InnerOfName = (inr (omega arith), λ x t. guarded_inner_name x (is_sign DotSign (option_map seen_of t)))
guarded (InnerOfDotted n) = (inr (omega arith), λ x t. guarded_inner_dotted n x (is_prefix (option_map seen_of t)))
guarded (InnerFrom s) = guarded_inner_from s
guarded (InnerFromName n) = λ t. guarded_inner_from_name n (is_sign CloseRoundSign (option_map seen_of t))
guarded (InnerFromStart s) = (inr (omega arith), λ x. refl)
guarded (OfDomain l) = λ t. guarded_domain l t
guarded OfDomains = (inr (omega arith), λ x. (inl refl, λ y. refl))
guarded (DomainsBehind ds) = λ t. guarded_domains ds (is_sign DotSign (option_map seen_of t))
guarded OfClause = (inr (omega arith), λ x t. guarded_clause x (is_sign DotSign (option_map seen_of t)))
guarded OfClauses = (inr (omega arith), λ x. (inl refl, λ y. refl))
guarded (ClausesBehind cs) = λ t. guarded_clauses cs (is_sign BarSign (option_map seen_of t))
guarded OfDeclaration = λ t. guarded_declaration (is_word DatatypeWord (option_map seen_of t)) (is_word NametypeWord (option_map seen_of t)) (is_word ChannelWord (option_map seen_of t)) (is_word AssertWord (option_map seen_of t)) (is_name (option_map seen_of t))
guarded OfDatatype = (inr (omega arith), λ x. (inl refl, λ y. (inl refl, λ z. (inl refl, λ w. refl))))
guarded OfNametype = (inr (omega arith), λ x. (inl refl, λ y. (inl refl, λ z. (inl refl, λ w. refl))))
guarded OfChannels = (inr (omega arith), λ x. (inl refl, λ y t. guarded_channels y (is_sign ColonSign (option_map seen_of t))))
guarded OfEquation = (inr (omega arith), λ x t. guarded_equation x (is_sign OpenRoundSign (option_map seen_of t)))
guarded (EquationWith n) = (inr (omega arith), λ x. (inl refl, λ y. (inl refl, λ z. (inl refl, λ w. refl))))
guarded OfAssertion = λ t. guarded_assertion t
guarded OfFirstSide = λ t. guarded_first_side (is_word NotWord (option_map seen_of t))
guarded OfModel = λ t. guarded_model (is_sign TracesSign (option_map seen_of t))
guarded (OfSpelling cs) = λ t. guarded_cond 0 true false (is_spelled cs t) (pass (give tt)) refuse refl tt
guarded OfFreedom = (inr (omega arith), λ x t. guarded_freedom (is_spelled (codes "divergence") t))
guarded DivergenceFree = (inr (omega arith), λ x. (inl refl, λ y. (inl refl, λ z. refl)))
guarded DeadlockFree = (inr (omega arith), λ x. (inl refl, λ y. (inl refl, λ z. refl)))
guarded FreedomEnd = λ t. guarded_freedom_end (is_sign CloseSquareSign (option_map seen_of t))
guarded DoubleEnd = λ t. guarded_double_end (is_sign CloseRenamingSign (option_map seen_of t))

-- bounds that are great enough are one
pub stable : (limited : Bool) (n m : ℕ) (f : Form) (s : Standing) → weight f s < n → weight f s < m →
    (reads_within limited n f s ≡ reads_within limited m f s) × Shrinks (takes_token f) (length s.left) (reads_within limited n f s)
unfolding reads_within
stable limited zero m f s h i = absurd (omega (arith, h))
stable limited (suc n) zero f s h i = absurd (omega (arith, i))
stable limited (suc n) (suc m) f s h i =
    agree limited (reads_within limited n) (reads_within limited m) (length s.left) (rank f) (λ g t low. stable limited n m g t (omega (arith, h, low)) (omega (arith, i, low))) (body f) (takes_token f) false (guarded f) s (omega arith)

pub reads_to_is : (limited : Bool) (f : Form) (s : Standing) → reads_to limited f s ≡ run_to limited (reads_to limited) (body f) s
unfolding reads_to reads_within
reads_to_is limited f s =
    let w = weight f s in
    (agree limited (reads_within limited w) (reads_to limited) (length s.left) (rank f) (λ g t low. stable limited w (suc (weight g t)) g t low (omega arith)) (body f) (takes_token f) false (guarded f) s (omega arith)).0

pub reads_is : (f : Form) (s : Standing) → reads f s ≡ run reads (body f) s
reads_is = reads_to_is true

-- what takes a token leaves fewer
pub reads_shrinks : (limited : Bool) (f : Form) (s : Standing) → Shrinks (takes_token f) (length s.left) (reads_to limited f s)
unfolding reads_to
reads_shrinks limited f s = let w = suc (weight f s) in (stable limited w w f s (omega arith) (omega arith)).1
