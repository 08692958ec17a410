-- What is read of a form is of that form, and where reading stops the tokens that are passed begin the form.
use Rattle.theory_reader.proofs.SoundDeclarations.{EndsDeadlock, EndsDivergence, IsDomain, IsDoubleEnd, IsSide, OnEquation, assertion_says, channels_say, clause_says, clauses_from, clauses_of, datatype_says, deadlock_says, declaration_says, divergence_says, domain_says, domains_from, domains_of, double_says, end_says, equation_says, equation_with_says, first_side_says, freedom_says, model_says, nametype_says, some_clause, some_clauses, some_deadlock, some_declaration, some_divergence, some_domain, some_domains, some_double_end, some_freedom, some_freedom_end, some_model, some_on_equation, some_side, some_spelling, spelling_says}
use Rattle.theory_reader.proofs.SoundProcesses.{AreArguments, Both, InBrackets, InDotted, InNamed, InProcess, IsInner, IsStart, OnBase, OnChain, OnFirst, OnGuard, OnHidden, OnName, OnNamed, OnOperand, OnRenamed, OnStart, OnValues, alphabetised_says, arguments_say, behind_start_name_says, both_say, bracketed_inner_says, call_says, chain_more_says, chain_over_says, conditional_says, from_base_says, from_operand_says, generalised_says, guard_says, hidden_says, inner_from_name_says, inner_from_says, inner_from_start_says, inner_of_dotted_says, inner_of_name_says, inner_says, operand_says, prefix_behind_says, prefix_says, process_by_says, process_from_says, renamed_says, replicated_says, skip_says, some_arguments, some_behind, some_behind_word, some_expression, some_in_brackets, some_in_dotted, some_in_named, some_in_process, some_inner, some_on_base, some_on_chain, some_on_first, some_on_guard, some_on_hidden, some_on_name, some_on_named, some_on_operand, some_on_renamed, some_on_start, some_on_values, some_operand, some_process, some_start, start_from_atom_says, start_from_name_says, start_of_brackets_says, start_of_expression_says, start_of_name_says, start_says, stop_says}
use Rattle.std.proofs.Common.{ℕ, zero, suc, Bool, [], ◌∷◌, refl, sym, subst, append-nil, inl}
use Rattle.std.specs.Prelude.{◌||◌, option_map}
use Rattle.theory_syntax.specs.Expression.{Binary}
use Rattle.theory_text.specs.Place.{first_place}
use Rattle.theory_text.specs.Token.{NotWord, CommaSign, DotSign, RangeSign, OpenRoundSign, CloseRoundSign, OpenBraceSign, CloseBraceSign, BackArrowSign, OpenProductionsSign, OutputSign, InputSign, GuardSign, HidingSign, IfWord, OpenRenamingSign, OpenSharedSign, OpenSquareSign, SkipWord, StopWord, AssertWord, BarSign, ChannelWord, CloseRenamingSign, CloseSquareSign, DatatypeWord, NametypeWord, TracesSign}
use Rattle.theory_text.specs.Height.{Nest}
use Rattle.theory_text.specs.Raw.{RawExpression, RawNumber, RawApply, RawCombine, RawSet, RawRange, RawEnumeration, RawGiven}
use Rattle.theory_text.specs.Grammar.{IsWord, IsSign, IsName, IsExpression, IsNegation, IsComparison, IsAtom, IsEvent, AreEvents, ArePairs, IsEventSet, AreLaterFields, AreNames, IsProcess, IsOperand, AreClauses, AreDomains, IsClause, IsDeclaration, IsFreedom, IsFreedomEnd, IsModel, IsSpelled}
use Rattle.theory_reader.specs.Forms.{Level, Disjunction, Negation, Atom, Form, OfSign, OfWord, OfName, NameBehind, AtLevel, Behind, ChainOf, Chained, Compared, Operation, OfNegation, OfAtom, Constant, AtomOfWord, AtomOfSign, Bracketed, TwoArguments, Round, Enclosed, Signed, Sequence, OfSet, Members, Range, Dotted, Listed, ExpressionFrom, Tree, raw_list, OfEvent, OfEvents, EventsBehind, OfPair, OfPairs, PairsBehind, OfEventSet, EventSetBehind, Productions, Enumeration, CombinedSet, OfField, FieldsBehind, OfNames, NamesBehind, AlphabetisedFrom, Arguments, BracketedInner, CallOf, ChainMore, ChainOver, Conditional, FromBase, FromOperand, GeneralisedFrom, GuardOf, HiddenFrom, InnerFrom, InnerFromName, InnerFromStart, InnerOfDotted, InnerOfName, OfCondition, OfInner, OfOperand, OfProcess, OfStart, OperandBehind, PrefixBehind, PrefixOf, ProcessBehind, ProcessBehindWord, ProcessFrom, RenamedFrom, ReplicatedOver, SkipStart, StartBehindName, StartFromAtom, StartFromName, StartOfBrackets, StartOfExpression, StartOfName, StopStart, OfDomain, ClausesBehind, DeadlockFree, DivergenceFree, DomainsBehind, DoubleEnd, EquationWith, FreedomEnd, OfAssertion, OfChannels, OfClause, OfClauses, OfDatatype, OfDeclaration, OfDomains, OfEquation, OfFirstSide, OfFreedom, OfModel, OfNametype, OfSpelling}
use Rattle.theory_reader.specs.Programs.{seen_of, first, Standing, Oracle, run_to}
use Rattle.theory_reader.specs.Reader.{is_sign, is_word, comparison_of, operator_at, is_name, unary_word, binary_word, body, weight, reads_within, reads_to, set_word, begins_process, infix_at, infix_sign, is_operator, is_prefix, is_suffix, replicator_at}
use Rattle.theory_reader.specs.Refused.{GoesOn}
use Rattle.theory_reader.proofs.Local.{at}
use Rattle.theory_reader.proofs.SoundExpressions.{Tokens, Says, IsAt, Pair, placed_sign, placed_word, placed_number, placed_name, a_name, a_sign, a_word, zero_atom, at_each, SaysLevels, Extends, says_sign, says_behind, OperatesWith, says_operation, chained_from, ExtendsSum, compared_from, Brackets, says_bracketed, TwoBrackets, zero_expression, says_two, OnAtom, says_signed, Adds, listed_from, says_sequence, OnBrace, OnMember, range_of, says_range, says_members, says_set, name_at_says, Fields, dotted_from, FromAtom, says_from, IsEnclosed, says_round, says_enclosed, zero_brackets, zero_two, atom_of_word_says, constant_says, atom_of_sign_says, atoms_say, says_negation, ChainMeans, says_chain, level_says, says_name_behind, word_says, some_field, a_zero, no_tail}
use Rattle.theory_reader.proofs.SoundEvents.{AddsLater, says_list, events_of, says_event, a_raw_event, an_event, events_from, names_of, names_from, IsPair, a_pair, pairs_of, says_pair, pairs_from, no_events_set, event_set_says, says_set_behind, says_productions, says_enumeration, combined_says, IsField, AddsFields, field_says, fields_from, zero_output, none_later}

-- EVERY FORM

-- what it means that these tokens, where those stand, are read as this tree
abbrev pub Means : (f : Form) → Tokens → Tokens → Tree f → Type 0
Means (OfSign s) us ts x = IsSign s ts
Means (OfWord k) us ts x = IsWord k ts
Means OfName us ts x = IsName ts x
Means (NameBehind s) us ts x = Pair (IsSign s) IsName ts x
Means (AtLevel l) us ts x = IsAt l ts x
Means (Behind s l) us ts x = Pair (IsSign s) (IsAt l) ts x
Means (ChainOf l o) us ts x = ChainMeans l o ts x
Means (Chained l e) us ts x = Extends l e ts x
Means (Compared e) us ts x = ExtendsSum e ts x
Means (Operation o e l) [] ts x = Unit {0}
Means (Operation o e l) (t ∷ us) ts x = OperatesWith t o e l ts x
Means OfNegation us ts x = IsNegation ts x
Means OfAtom us ts x = IsAtom ts x
Means (AtomOfWord k) us ts x = IsAtom ts x
Means (Constant k) us ts x = IsAtom ts x
Means (AtomOfSign s) us ts x = IsAtom ts x
Means (Signed s o) us ts x = OnAtom s o ts x
Means Bracketed us ts x = Brackets ts x
Means TwoArguments us ts x = TwoBrackets ts x
Means Round us ts x = IsAtom ts x
Means Enclosed us ts x = IsEnclosed ts x
Means Sequence us ts x = IsAtom ts x
Means OfSet us ts x = IsAtom ts x
Means Members us ts x = OnBrace ts x
Means (Range e) us ts x = OnMember e ts x
Means (Dotted es) us ts x = Fields us es ts x
Means (Listed l es) us ts x = Adds l es ts x
Means (ExpressionFrom e) us ts x = FromAtom e ts x
Means OfEvent us ts x = IsEvent ts x
Means OfEvents us ts x = AreEvents ts x
Means (EventsBehind es) us ts x = AddsLater CommaSign IsEvent es ts x
Means OfNames us ts x = AreNames ts x
Means (NamesBehind ns) us ts x = AddsLater CommaSign IsName ns ts x
Means OfPair us ts x = IsPair ts x
Means OfPairs us ts x = ArePairs ts x
Means (PairsBehind ps) us ts x = AddsLater CommaSign IsPair ps ts x
Means OfEventSet us ts x = IsEventSet ts x
Means (EventSetBehind s) us ts x = Pair (IsSign s) IsEventSet ts x
Means Productions us ts x = IsEventSet ts x
Means Enumeration us ts x = IsEventSet ts x
Means (CombinedSet k) us ts x = IsEventSet ts x
Means OfField us ts x = IsField ts x
Means (FieldsBehind fs) us ts x = AddsFields fs ts x
Means OfProcess us ts x = IsProcess ts x
Means (ProcessBehindWord k) us ts x = Both (IsWord k) IsProcess ts x
Means (ProcessBehind s) us ts x = Both (IsSign s) IsProcess ts x
Means Conditional us ts x = IsProcess ts x
Means OfCondition us ts x = Both (IsWord IfWord) IsExpression ts x
Means (ReplicatedOver o) us ts x = IsProcess ts x
Means (ProcessFrom s) us ts x = OnStart s ts x
Means (FromBase p) us ts x = OnBase p ts x
Means (RenamedFrom p) us ts x = OnRenamed p ts x
Means (HiddenFrom p) us ts x = OnHidden p ts x
Means (FromOperand p) us ts x = OnOperand p ts x
Means (GeneralisedFrom p) us ts x = OnOperand p ts x
Means (AlphabetisedFrom p) us ts x = OnOperand p ts x
Means (ChainOver o p) us ts x = OnOperand p ts x
Means (ChainMore o p) us ts x = OnChain o p ts x
Means OfOperand us ts x = IsOperand ts x
Means (OperandBehind s) us ts x = Both (IsSign s) IsOperand ts x
Means OfStart us ts x = IsStart ts x
Means StopStart us ts x = IsStart ts x
Means SkipStart us ts x = IsStart ts x
Means StartOfExpression us ts x = IsStart ts x
Means StartOfName us ts x = IsStart ts x
Means (StartBehindName n) us ts x = OnName n ts x
Means (CallOf n) us ts x = OnName n ts x
Means Arguments us ts x = AreArguments ts x
Means (PrefixOf n) us ts x = OnName n ts x
Means (PrefixBehind n es) us ts x = OnValues n es ts x
Means (StartFromName n) us ts x = OnNamed n ts x
Means StartOfBrackets us ts x = IsStart ts x
Means (StartFromAtom e) us ts x = OnFirst e ts x
Means (GuardOf e) us ts x = OnGuard e ts x
Means BracketedInner us ts x = InBrackets ts x
Means OfInner us ts x = IsInner ts x
Means InnerOfName us ts x = IsInner ts x
Means (InnerOfDotted n) us ts x = InDotted n us ts x
Means (InnerFrom s) us ts x = InProcess s ts x
Means (InnerFromName n) us ts x = InNamed n ts x
Means (InnerFromStart s) us ts x = InProcess s ts x
Means (OfDomain l) us ts x = IsDomain l ts x
Means OfDomains us ts x = AreDomains ts x
Means (DomainsBehind ds) us ts x = AddsLater DotSign (IsDomain Atom) ds ts x
Means OfClause us ts x = IsClause ts x
Means OfClauses us ts x = AreClauses ts x
Means (ClausesBehind cs) us ts x = AddsLater BarSign IsClause cs ts x
Means OfDeclaration us ts x = IsDeclaration ts x
Means OfDatatype us ts x = IsDeclaration ts x
Means OfNametype us ts x = IsDeclaration ts x
Means OfChannels us ts x = IsDeclaration ts x
Means OfEquation us ts x = IsDeclaration ts x
Means (EquationWith n) us ts x = OnEquation n ts x
Means OfAssertion us ts x = IsDeclaration ts x
Means OfFirstSide us ts x = IsSide ts x
Means OfModel us ts x = IsModel ts x
Means (OfSpelling cs) us ts x = IsSpelled cs ts
Means OfFreedom us ts x = IsFreedom ts x
Means DivergenceFree us ts x = EndsDivergence ts
Means DeadlockFree us ts x = EndsDeadlock ts
Means FreedomEnd us ts x = IsFreedomEnd ts
Means DoubleEnd us ts x = IsDoubleEnd ts

abbrev pub SaysAll : Oracle → Type 0
SaysAll u = (f : Form) (q : Standing) → Says (Means f q.left) q.left (u f q)

operation_says : (limited : Bool) (u : Oracle) → SaysLevels u → (o : Binary) (e : RawExpression) (l : Level) (ts : Tokens) (n : Nest) → Says (Means (Operation o e l) ts) ts (run_to limited u (body (Operation o e l)) (at ts n))
unfolding body
operation_says limited u levels o e l [] n = ([], refl, ([], e, tt))
operation_says limited u levels o e l (t ∷ ts) n = says_operation limited u levels o e l t ts n

step : (limited : Bool) (u : Oracle) → SaysAll u → (f : Form) (q : Standing) → Says (Means f q.left) q.left (run_to limited u (body f) q)
unfolding body
step limited u all (OfSign s) q = says_sign limited u s q
step limited u all (OfWord k) q = word_says limited u k q.left q.nest (is_word k (option_map seen_of (first q.left))) refl
step limited u all OfName q = name_at_says limited u q.left q.nest
step limited u all (NameBehind s) q = says_name_behind limited u s (λ s. all (OfSign s)) (all OfName) q
step limited u all (AtLevel l) q = level_says limited u (λ l o. all (ChainOf l o)) (λ l. all (AtLevel l)) (λ e. all (Compared e)) (all OfNegation) (all OfAtom) l q
step limited u all (Behind s l) q = says_behind limited u s l (λ s. all (OfSign s)) (λ l. all (AtLevel l)) q
step limited u all (ChainOf l o) q = says_chain limited u l o (λ l. all (AtLevel l)) (λ l e. all (Chained l e)) q
step limited u all (Chained l e) q = chained_from limited u l e (λ o e l t ts n. all (Operation o e l) (at (t ∷ ts) n)) (λ l e. all (Chained l e)) q.left q.nest (operator_at l (option_map seen_of (first q.left))) refl
step limited u all (Compared e) q = compared_from limited u e (λ o e l t ts n. all (Operation o e l) (at (t ∷ ts) n)) q.left q.nest (comparison_of (option_map seen_of (first q.left))) refl
step limited u all (Operation o e l) q = operation_says limited u (λ l. all (AtLevel l)) o e l q.left q.nest
step limited u all OfNegation q = says_negation limited u (λ k. all (OfWord k)) (λ l. all (AtLevel l)) (all OfNegation) q
step limited u all OfAtom q = atoms_say limited u (all OfName) (λ k. all (AtomOfWord k)) (λ s. all (AtomOfSign s)) q.left q.nest
step limited u all (AtomOfWord k) q = atom_of_word_says limited u (λ k. all (OfWord k)) (all Bracketed) (all TwoArguments) (λ k. all (Constant k)) k q (unary_word k) (binary_word k) refl refl
step limited u all (Constant k) q = constant_says limited u (λ k. all (OfWord k)) k q
step limited u all (AtomOfSign s) q = atom_of_sign_says limited u (λ s o. all (Signed s o)) (all Round) (all Sequence) (all OfSet) s q
step limited u all (Signed s o) q = says_signed limited u (λ s l. all (Behind s l)) s o q
step limited u all Bracketed q = says_bracketed limited u (λ s. all (OfSign s)) (λ s l. all (Behind s l)) q
step limited u all TwoArguments q = says_two limited u (λ s. all (OfSign s)) (λ s l. all (Behind s l)) q
step limited u all Round q = says_round limited u (λ s. all (OfSign s)) (all Enclosed) q
step limited u all Enclosed q = says_enclosed limited u (all OfName) (λ l. all (AtLevel l)) (λ es. all (Dotted es)) (λ e. all (ExpressionFrom e)) q
step limited u all Sequence q = says_sequence limited u (λ s. all (OfSign s)) (λ l. all (AtLevel l)) (λ l es. all (Listed l es)) q
step limited u all OfSet q = says_set limited u (λ s. all (OfSign s)) (all Members) q
step limited u all Members q = says_members limited u (λ s. all (OfSign s)) (λ l. all (AtLevel l)) (λ l es. all (Listed l es)) (λ e. all (Range e)) q
step limited u all (Range e) q = says_range limited u (λ s. all (OfSign s)) (λ s l. all (Behind s l)) e q
step limited u all (Dotted es) q = dotted_from limited u es (λ s l. all (Behind s l)) (λ es. all (Dotted es)) q.left q.nest (is_sign DotSign (option_map seen_of (first q.left))) refl
step limited u all (Listed l es) q = listed_from limited u l es (λ s l. all (Behind s l)) (λ l es. all (Listed l es)) q.left q.nest (is_sign CommaSign (option_map seen_of (first q.left)))
step limited u all (ExpressionFrom e) q = says_from limited u (λ l e. all (Chained l e)) (λ e. all (Compared e)) e q
step limited u all OfEvent q = says_event limited u (all OfName) (λ es. all (Dotted es)) q
step limited u all OfEvents q = says_list CommaSign IsEvent AreEvents events_of q.left (u OfEvent q) (λ e. u (EventsBehind (e ∷ []))) (all OfEvent q) (λ e. all (EventsBehind (e ∷ [])))
step limited u all (EventsBehind es) q = events_from limited u es (λ s. all (OfSign s)) (all OfEvent) (λ es. all (EventsBehind es)) q (is_sign CommaSign (option_map seen_of (first q.left)))
step limited u all OfNames q = says_list CommaSign IsName AreNames names_of q.left (u OfName q) (λ n. u (NamesBehind (n ∷ []))) (all OfName q) (λ n. all (NamesBehind (n ∷ [])))
step limited u all (NamesBehind ns) q = names_from limited u ns (λ s. all (OfSign s)) (all OfName) (λ ns. all (NamesBehind ns)) q (is_sign CommaSign (option_map seen_of (first q.left)))
step limited u all OfPair q = says_pair limited u (λ s. all (OfSign s)) (all OfEvent) q
step limited u all OfPairs q = says_list CommaSign IsPair ArePairs pairs_of q.left (u OfPair q) (λ p. u (PairsBehind (p ∷ []))) (all OfPair q) (λ p. all (PairsBehind (p ∷ [])))
step limited u all (PairsBehind ps) q = pairs_from limited u ps (λ s. all (OfSign s)) (all OfPair) (λ ps. all (PairsBehind ps)) q (is_sign CommaSign (option_map seen_of (first q.left)))
step limited u all OfEventSet q = let n = option_map seen_of (first q.left) in event_set_says limited u (all Productions) (all Enumeration) (λ k. all (CombinedSet k)) q (is_sign OpenProductionsSign n) (is_sign OpenBraceSign n) n
step limited u all (EventSetBehind s) q = says_set_behind limited u s (λ s. all (OfSign s)) (all OfEventSet) q
step limited u all Productions q = says_productions limited u (λ s. all (OfSign s)) (all OfEvents) q
step limited u all Enumeration q = says_enumeration limited u (λ s. all (OfSign s)) (all OfEvents) q
step limited u all (CombinedSet k) q = combined_says limited u (λ s. all (OfSign s)) (λ k. all (OfWord k)) (λ s. all (EventSetBehind s)) k q (set_word k) refl
step limited u all OfField q = field_says limited u (λ s l. all (Behind s l)) (λ s. all (NameBehind s)) q (is_sign OutputSign (option_map seen_of (first q.left)))
step limited u all (FieldsBehind fs) q =
    let n = option_map seen_of (first q.left) in fields_from limited u fs (all OfField) (λ fs. all (FieldsBehind fs)) q (is_sign OutputSign n || is_sign InputSign n)
step limited u all OfProcess q = process_by_says limited u (all Conditional) (λ o. all (ReplicatedOver o)) (all OfStart) (λ s. all (ProcessFrom s)) q (is_word IfWord (option_map seen_of (first q.left))) (replicator_at (option_map seen_of (first q.left)))
step limited u all (ProcessBehindWord k) q = both_say (IsWord k) IsProcess some_process q.left (u (OfWord k) q) (u OfProcess) (all (OfWord k) q) (all OfProcess)
step limited u all (ProcessBehind s) q = both_say (IsSign s) IsProcess some_process q.left (u (OfSign s) q) (u OfProcess) (all (OfSign s) q) (all OfProcess)
step limited u all Conditional q = conditional_says limited u (all OfCondition) (λ k. all (ProcessBehindWord k)) q
step limited u all OfCondition q = both_say (IsWord IfWord) IsExpression some_expression q.left (u (OfWord IfWord) q) (u (AtLevel Disjunction)) (all (OfWord IfWord) q) (all (AtLevel Disjunction))
step limited u all (ReplicatedOver o) q = replicated_says limited u o (λ s. all (NameBehind s)) (λ s l. all (Behind s l)) (λ s. all (ProcessBehind s)) q
step limited u all (ProcessFrom s) q = process_from_says limited u (λ p. all (FromBase p)) (λ p. all (FromOperand p)) s q
step limited u all (FromBase p) q = from_base_says limited u p (λ p. all (RenamedFrom p)) (λ p. all (HiddenFrom p)) (λ p. all (FromOperand p)) q (is_suffix (option_map seen_of (first q.left)))
step limited u all (RenamedFrom p) q = renamed_says limited u p (λ s. all (OfSign s)) (all OfPairs) (λ p. all (RenamedFrom p)) q (is_sign OpenRenamingSign (option_map seen_of (first q.left)))
step limited u all (HiddenFrom p) q = hidden_says limited u p (λ s. all (EventSetBehind s)) (λ p. all (HiddenFrom p)) q (is_sign HidingSign (option_map seen_of (first q.left)))
step limited u all (FromOperand p) q = from_operand_says limited u p (λ o p. all (ChainOver o p)) (λ p. all (GeneralisedFrom p)) (λ p. all (AlphabetisedFrom p)) q (infix_at (option_map seen_of (first q.left))) (is_sign OpenSharedSign (option_map seen_of (first q.left))) (is_sign OpenSquareSign (option_map seen_of (first q.left)))
step limited u all (GeneralisedFrom p) q = generalised_says limited u p (λ s. all (EventSetBehind s)) (λ s. all (OperandBehind s)) q
step limited u all (AlphabetisedFrom p) q = alphabetised_says limited u p (λ s. all (EventSetBehind s)) (λ s. all (OperandBehind s)) q
step limited u all (ChainOver o p) q = chain_over_says limited u o p (λ s. all (OperandBehind s)) (λ o p. all (ChainMore o p)) q
step limited u all (ChainMore o p) q = chain_more_says limited u o p (λ s. all (OperandBehind s)) (λ o p. all (ChainMore o p)) q (is_sign (infix_sign o) (option_map seen_of (first q.left)))
step limited u all OfOperand q = operand_says limited u (all OfStart) q
step limited u all (OperandBehind s) q = both_say (IsSign s) IsOperand some_operand q.left (u (OfSign s) q) (u OfOperand) (all (OfSign s) q) (all OfOperand)
step limited u all OfStart q = start_says limited u (all StopStart) (all SkipStart) (all StartOfName) (all StartOfBrackets) (all StartOfExpression) q (is_word StopWord (option_map seen_of (first q.left))) (is_word SkipWord (option_map seen_of (first q.left))) (is_name (option_map seen_of (first q.left))) (is_sign OpenRoundSign (option_map seen_of (first q.left)))
step limited u all StopStart q = stop_says limited u (λ k. all (OfWord k)) q
step limited u all SkipStart q = skip_says limited u (λ k. all (OfWord k)) q
step limited u all StartOfExpression q = start_of_expression_says limited u (λ l. all (AtLevel l)) (λ e. all (GuardOf e)) q
step limited u all StartOfName q = start_of_name_says limited u (all OfName) (λ n. all (StartBehindName n)) q
step limited u all (StartBehindName n) q = behind_start_name_says limited u n (λ n. all (CallOf n)) (λ n. all (PrefixOf n)) (λ n. all (StartFromName n)) q (is_sign OpenRoundSign (option_map seen_of (first q.left))) (is_prefix (option_map seen_of (first q.left)))
step limited u all (CallOf n) q = call_says limited u n (all Arguments) q
step limited u all Arguments q = arguments_say limited u (λ s. all (OfSign s)) (λ s l. all (Behind s l)) (λ l es. all (Listed l es)) q
step limited u all (PrefixOf n) q = prefix_says limited u n (λ es. all (Dotted es)) (λ n es. all (PrefixBehind n es)) q
step limited u all (PrefixBehind n es) q = prefix_behind_says limited u n es (λ fs. all (FieldsBehind fs)) (λ s. all (OperandBehind s)) q
step limited u all (StartFromName n) q = start_from_name_says limited u n (λ e. all (ExpressionFrom e)) (λ e. all (GuardOf e)) q (is_operator (option_map seen_of (first q.left)) || is_sign GuardSign (option_map seen_of (first q.left)))
step limited u all StartOfBrackets q = start_of_brackets_says limited u (all BracketedInner) (λ n. all (StartFromName n)) (λ e. all (StartFromAtom e)) q
step limited u all (StartFromAtom e) q = start_from_atom_says limited u e (λ e. all (ExpressionFrom e)) (λ e. all (GuardOf e)) q
step limited u all (GuardOf e) q = guard_says limited u e (λ s. all (OperandBehind s)) q (is_sign GuardSign (option_map seen_of (first q.left)))
step limited u all BracketedInner q = bracketed_inner_says limited u (λ s. all (OfSign s)) (all OfInner) q
step limited u all OfInner q = inner_says limited u (all OfProcess) (all InnerOfName) (all OfStart) (λ s. all (InnerFrom s)) q (begins_process (option_map seen_of (first q.left))) (is_name (option_map seen_of (first q.left)))
step limited u all InnerOfName q = inner_of_name_says limited u (all OfName) (λ n. all (InnerOfDotted n)) (λ n. all (StartBehindName n)) (λ s. all (InnerFrom s)) q
step limited u all (InnerOfDotted n) q = inner_of_dotted_says limited u n (λ es. all (Dotted es)) (λ n es. all (PrefixBehind n es)) (λ s. all (InnerFromStart s)) q
step limited u all (InnerFrom s) q = inner_from_says limited u (λ n. all (InnerFromName n)) (λ s. all (InnerFromStart s)) s q
step limited u all (InnerFromName n) q = inner_from_name_says limited u n (λ s. all (InnerFromStart s)) q (is_sign CloseRoundSign (option_map seen_of (first q.left)))
step limited u all (InnerFromStart s) q = inner_from_start_says limited u s (λ s. all (ProcessFrom s)) q
step limited u all (OfDomain l) q = domain_says limited u l (λ l. all (AtLevel l)) q
step limited u all OfDomains q = says_list DotSign (IsDomain Atom) AreDomains domains_of q.left (u (OfDomain Atom) q) (λ d. u (DomainsBehind (d ∷ []))) (all (OfDomain Atom) q) (λ d. all (DomainsBehind (d ∷ [])))
step limited u all (DomainsBehind ds) q = domains_from limited u ds (λ s. all (OfSign s)) (all (OfDomain Atom)) (λ ds. all (DomainsBehind ds)) q (is_sign DotSign (option_map seen_of (first q.left)))
step limited u all OfClause q = clause_says limited u (all OfName) (λ s. all (OfSign s)) (all OfDomains) q
step limited u all OfClauses q = says_list BarSign IsClause AreClauses clauses_of q.left (u OfClause q) (λ c. u (ClausesBehind (c ∷ []))) (all OfClause q) (λ c. all (ClausesBehind (c ∷ [])))
step limited u all (ClausesBehind cs) q = clauses_from limited u cs (λ s. all (OfSign s)) (all OfClause) (λ cs. all (ClausesBehind cs)) q (is_sign BarSign (option_map seen_of (first q.left)))
step limited u all OfDeclaration q =
    declaration_says limited u (all OfDatatype) (all OfNametype) (all OfChannels) (all OfAssertion) (all OfEquation) q (is_word DatatypeWord (option_map seen_of (first q.left))) (is_word NametypeWord (option_map seen_of (first q.left))) (is_word ChannelWord (option_map seen_of (first q.left))) (is_word AssertWord (option_map seen_of (first q.left))) (is_name (option_map seen_of (first q.left)))
step limited u all OfDatatype q = datatype_says limited u (λ k. all (OfWord k)) (all OfName) (λ s. all (OfSign s)) (all OfClauses) q
step limited u all OfNametype q = nametype_says limited u (λ k. all (OfWord k)) (all OfName) (λ s. all (OfSign s)) (all (OfDomain Disjunction)) q
step limited u all OfChannels q = channels_say limited u (λ k. all (OfWord k)) (all OfNames) (λ s. all (OfSign s)) (all OfDomains) q
step limited u all OfEquation q = equation_says limited u (all OfName) (λ n. all (EquationWith n)) (λ s. all (ProcessBehind s)) q
step limited u all (EquationWith n) q = equation_with_says limited u n (λ s. all (OfSign s)) (all OfNames) (λ s. all (ProcessBehind s)) q
step limited u all OfAssertion q = assertion_says limited u (λ k. all (OfWord k)) (all OfFirstSide) (λ s. all (OfSign s)) (all OfFreedom) (all OfModel) (all OfProcess) q
step limited u all OfFirstSide q = first_side_says limited u (λ k. all (OfWord k)) (all OfProcess) q (is_word NotWord (option_map seen_of (first q.left))) refl
step limited u all OfModel q = model_says limited u (λ s. all (OfSign s)) q (is_sign TracesSign (option_map seen_of (first q.left)))
step limited u all (OfSpelling cs) q = spelling_says limited u cs q
step limited u all OfFreedom q = freedom_says limited u (λ s. all (OfSign s)) (all DivergenceFree) (all DeadlockFree) q
step limited u all DivergenceFree q = divergence_says limited u (λ cs. all (OfSpelling cs)) (λ s. all (OfSign s)) q
step limited u all DeadlockFree q = deadlock_says limited u (λ cs. all (OfSpelling cs)) (all FreedomEnd) q
step limited u all FreedomEnd q = end_says limited u (λ s. all (OfSign s)) (λ cs. all (OfSpelling cs)) (all DoubleEnd) q (is_sign CloseSquareSign (option_map seen_of (first q.left)))
step limited u all DoubleEnd q = double_says limited u (λ s. all (OfSign s)) q (is_sign CloseRenamingSign (option_map seen_of (first q.left)))

-- each form has some tokens
example : (f : Form) (us : Tokens) → GoesOn (Means f us) []
unfolding a_zero
example (OfSign s) us = (placed_sign s ∷ [], tt, a_sign s)
example (OfWord k) us = (placed_word k ∷ [], tt, a_word k)
example OfName us = (placed_name ∷ [], record { spelling = []; place = first_place }, a_name)
example (NameBehind s) us = (placed_sign s ∷ placed_name ∷ [], record { spelling = []; place = first_place }, (placed_sign s ∷ [], placed_name ∷ [], refl, a_sign s, a_name))
example (AtLevel l) us = (a_zero, RawNumber 0, at_each l a_zero (RawNumber 0) zero_atom)
example (Behind s l) us = (placed_sign s ∷ a_zero, RawNumber 0, (placed_sign s ∷ [], a_zero, refl, a_sign s, at_each l a_zero (RawNumber 0) zero_atom))
example (ChainOf l o) us = (a_zero, RawNumber 0, λ _. at_each l a_zero (RawNumber 0) zero_atom)
example (Chained l e) us = ([], e, λ a h. subst (λ z. IsAt l z e) (sym (append-nil a)) h)
example (Compared e) us = ([], e, λ a h. subst (λ z. IsComparison z e) (sym (append-nil a)) (IsComparison.sum h))
example (Operation o e l) [] = ([], e, tt)
example (Operation o e l) (t ∷ us) = (t ∷ a_zero, RawCombine o e (RawNumber 0), (a_zero, RawNumber 0, refl, at_each l a_zero (RawNumber 0) zero_atom, refl))
example OfNegation us = (a_zero, RawNumber 0, at_each Negation a_zero (RawNumber 0) zero_atom)
example OfAtom us = (a_zero, RawNumber 0, zero_atom)
example (AtomOfWord k) us = (a_zero, RawNumber 0, zero_atom)
example (Constant k) us = (a_zero, RawNumber 0, zero_atom)
example (AtomOfSign s) us = (a_zero, RawNumber 0, zero_atom)
example (Signed s o) us = (placed_sign s ∷ a_zero, RawApply o (RawNumber 0), (RawNumber 0, (placed_sign s ∷ [], a_zero, refl, a_sign s, zero_atom), refl))
example Bracketed us = (placed_sign OpenRoundSign ∷ placed_number ∷ placed_sign CloseRoundSign ∷ [], RawNumber 0, zero_brackets)
example TwoArguments us = (placed_sign OpenRoundSign ∷ placed_number ∷ placed_sign CommaSign ∷ placed_number ∷ placed_sign CloseRoundSign ∷ [], (RawNumber 0, RawNumber 0), zero_two)
example Round us = (a_zero, RawNumber 0, zero_atom)
example Enclosed us = (a_zero, RawNumber 0, inl zero_expression)
example Sequence us = (a_zero, RawNumber 0, zero_atom)
example OfSet us = (a_zero, RawNumber 0, zero_atom)
example Members us = (placed_sign CloseBraceSign ∷ [], RawSet (raw_list []), λ a k. IsAtom.no_members k (a_sign CloseBraceSign))
example (Range e) us = (
  placed_sign RangeSign ∷ placed_number ∷ placed_sign CloseBraceSign ∷ [],
  RawRange e (RawNumber 0),
  λ a b k h.
      range_of a b (placed_sign RangeSign ∷ placed_number ∷ []) (placed_sign RangeSign ∷ []) a_zero (placed_sign CloseBraceSign ∷ []) e (RawNumber 0) refl k h (a_sign RangeSign) zero_expression (a_sign CloseBraceSign),
)
example (Dotted es) us = some_field us es
example (Listed l es) us = ([], es, ([], sym (append-nil es), no_tail))
example (ExpressionFrom e) us = ([], e, λ a h. subst (λ z. IsExpression z e) (sym (append-nil a)) (at_each Disjunction a e h))
example OfEvent us = (placed_name ∷ [], a_raw_event, an_event)
example OfEvents us = (placed_name ∷ [], a_raw_event ∷ [], AreEvents.one_event an_event)
example (EventsBehind es) us = ([], es, ([], sym (append-nil es), none_later))
example OfNames us = (placed_name ∷ [], record { spelling = []; place = first_place } ∷ [], AreNames.one_name a_name)
example (NamesBehind ns) us = ([], ns, ([], sym (append-nil ns), none_later))
example OfPair us = (placed_name ∷ placed_sign BackArrowSign ∷ placed_name ∷ [], record { from = a_raw_event; to = a_raw_event }, a_pair)
example OfPairs us = (placed_name ∷ placed_sign BackArrowSign ∷ placed_name ∷ [], record { from = a_raw_event; to = a_raw_event } ∷ [], ArePairs.one_pair an_event (a_sign BackArrowSign) an_event)
example (PairsBehind ps) us = ([], ps, ([], sym (append-nil ps), none_later))
example (EventSetBehind s) us = (placed_sign s ∷ placed_sign OpenBraceSign ∷ placed_sign CloseBraceSign ∷ [], RawEnumeration [], (placed_sign s ∷ [], placed_sign OpenBraceSign ∷ placed_sign CloseBraceSign ∷ [], refl, a_sign s, no_events_set))
example OfEventSet us = (placed_sign OpenBraceSign ∷ placed_sign CloseBraceSign ∷ [], RawEnumeration [], no_events_set)
example Productions us = (placed_sign OpenBraceSign ∷ placed_sign CloseBraceSign ∷ [], RawEnumeration [], no_events_set)
example Enumeration us = (placed_sign OpenBraceSign ∷ placed_sign CloseBraceSign ∷ [], RawEnumeration [], no_events_set)
example (CombinedSet k) us = (placed_sign OpenBraceSign ∷ placed_sign CloseBraceSign ∷ [], RawEnumeration [], no_events_set)
example OfField us = (placed_sign OutputSign ∷ placed_number ∷ [], RawGiven (RawNumber 0), zero_output)
example (FieldsBehind fs) us = ([], fs, ([], sym (append-nil fs), AreLaterFields.no_fields))
example OfProcess us = some_process
example (ProcessBehindWord k) us = some_behind_word k IsProcess some_process
example (ProcessBehind s) us = some_behind s IsProcess some_process
example Conditional us = some_process
example OfCondition us = some_behind_word IfWord IsExpression some_expression
example (ReplicatedOver o) us = some_process
example (ProcessFrom s) us = some_on_start s
example (FromBase p) us = some_on_base p
example (RenamedFrom p) us = some_on_renamed p
example (HiddenFrom p) us = some_on_hidden p
example (FromOperand p) us = some_on_operand p
example (GeneralisedFrom p) us = some_on_operand p
example (AlphabetisedFrom p) us = some_on_operand p
example (ChainOver o p) us = some_on_operand p
example (ChainMore o p) us = some_on_chain o p
example OfOperand us = some_operand
example (OperandBehind s) us = some_behind s IsOperand some_operand
example OfStart us = some_start
example StopStart us = some_start
example SkipStart us = some_start
example StartOfExpression us = some_start
example StartOfName us = some_start
example (StartBehindName n) us = some_on_name n
example (CallOf n) us = some_on_name n
example Arguments us = some_arguments
example (PrefixOf n) us = some_on_name n
example (PrefixBehind n es) us = some_on_values n es
example (StartFromName n) us = some_on_named n
example StartOfBrackets us = some_start
example (StartFromAtom e) us = some_on_first e
example (GuardOf e) us = some_on_guard e
example BracketedInner us = some_in_brackets
example OfInner us = some_inner
example InnerOfName us = some_inner
example (InnerOfDotted n) us = some_in_dotted n us
example (InnerFrom s) us = some_in_process s
example (InnerFromName n) us = some_in_named n
example (InnerFromStart s) us = some_in_process s
example (OfDomain l) us = some_domain l
example OfDomains us = some_domains
example (DomainsBehind ds) us = ([], ds, ([], sym (append-nil ds), none_later))
example OfClause us = some_clause
example OfClauses us = some_clauses
example (ClausesBehind cs) us = ([], cs, ([], sym (append-nil cs), none_later))
example OfDeclaration us = some_declaration
example OfDatatype us = some_declaration
example OfNametype us = some_declaration
example OfChannels us = some_declaration
example OfEquation us = some_declaration
example (EquationWith n) us = some_on_equation n
example OfAssertion us = some_declaration
example OfFirstSide us = some_side
example OfModel us = some_model
example (OfSpelling cs) us = some_spelling cs
example OfFreedom us = some_freedom
example DivergenceFree us = some_divergence
example DeadlockFree us = some_deadlock
example FreedomEnd us = some_freedom_end
example DoubleEnd us = some_double_end

within_says : (limited : Bool) (n : ℕ) → SaysAll (reads_within limited n)
unfolding reads_within
within_says limited zero f q = ([], refl, example f q.left)
within_says limited (suc n) f q = step limited (reads_within limited n) (within_says limited n) f q

-- What is read of a form is of that form; where reading stops the tokens that are passed begin it.
pub reads_say : (limited : Bool) → SaysAll (reads_to limited)
unfolding reads_to
reads_say limited f q = within_says limited (suc (weight f q)) f q
