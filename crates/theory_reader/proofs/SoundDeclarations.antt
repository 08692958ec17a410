-- What is read as a declaration or a part of one is one, and where reading stops the tokens that are passed begin one.
use Rattle.theory_text.proofs.Fronts.{same_bytes}
use Rattle.theory_reader.proofs.Local.{at}
use Rattle.theory_reader.proofs.Laws.{reads_shrinks}
use Rattle.theory_reader.proofs.Signs.{is_same_word}
use Rattle.theory_reader.proofs.CompleteExpressions.{expressions_whole}
use Rattle.theory_reader.specs.Reader.{assertion_at, assertion_by, channels_by, clause_by, clauses_by, declaration_by, domain_at, domains_by, double_end_by, equation_by, first_side_by, freedom_by, freedom_end_by, is_sign, is_spelled, is_spelling, is_word, model_by, reads_to, takes_token, body}
use Rattle.theory_reader.specs.Programs.{Oracle, Outcome, Standing, and_then, run_to, seen_of, start, first, form, ◌>>=◌, seen, pass, peek, give, refuse}
use Rattle.theory_text.specs.Height.{Nest}
use Rattle.theory_text.specs.Raw.{Infix, RawAssertion, RawChannels, RawClause, RawDatatype, RawDeadlockFree, RawDeclaration, RawDivergenceFree, RawDomain, RawEquation, RawExpression, RawName, RawNametype, RawProcess, RawProperty, RawRefinementOf, RawStop, Replicator, RawNumber}
use Rattle.theory_reader.specs.Refused.{GoesOn}
use Rattle.theory_reader.proofs.Guards.{Fewer, Shrinks}
use Rattle.theory_reader.proofs.SoundProcesses.{Both, Extending, SaysForm, behind_front, some_behind, some_process, stop_process, two_parts_say, both, stops, three_parts_say, front3, four_parts_say}
use Rattle.theory_reader.specs.Forms.{AtLevel, Atom, ClausesBehind, Comparison, Conjunction, DeadlockFree, Disjunction, DivergenceFree, DomainsBehind, DoubleEnd, EquationWith, Form, FreedomEnd, Level, Negation, OfAssertion, OfChannels, OfClause, OfClauses, OfDatatype, OfDomain, OfDomains, OfEquation, OfFirstSide, OfFreedom, OfModel, OfName, OfNames, OfNametype, OfProcess, OfSign, OfSpelling, OfWord, ProcessBehind, Product, Sum, Tree}
use Rattle.theory_text.specs.Token.{AssertWord, BarSign, ChannelWord, CloseRenamingSign, CloseRoundSign, CloseSquareSign, ColonSign, DatatypeWord, DotSign, EqualsSign, FailuresSign, Keyword, KeywordToken, NameToken, NametypeWord, NotWord, NumberToken, OpenRoundSign, OpenSquareSign, PlacedToken, Sign, SignToken, StopWord, Token, TracesSign}
use Rattle.theory_reader.proofs.SoundEvents.{AddsLater, Later, says_more, one_later, none_later}
use Rattle.std.proofs.Common.{◌≡◌, ◌∙◌, ℕ, Bool, true, false, cond, List, [], ◌∷◌, ◌++◌, refl, sym, ap, subst, Some, append_assoc, append-nil, arith, length}
use Rattle.std.specs.Prelude.{◌≢◌, option_map, Ok, Err, codes}
use Rattle.theory_text.specs.Grammar.{IsName, IsSpelled, spelled, IsDeclaration, IsClause, sign, IsReplicator, IsSign, IsFreedomEnd, IsWord, AreClauses, AreDomains, AreNames, IsBase, IsChain, IsConjunction, IsExpression, IsFirstSide, IsFreedom, IsHidden, IsModel, IsNegation, IsOperand, IsProcess, IsProduct, IsRenamed, IsSum, word, name}
use Rattle.theory_text.specs.Place.{first_place}
use Rattle.theory_syntax.specs.Process.{Model, Traces, Failures}
use Rattle.theory_reader.proofs.SoundExpressions.{Tokens, Says, says_then, says_last, a_name, placed_name, IsAt, SaysLevels, SaysSigns, SaysWords, a_sign, a_word, at_each, of_sum, placed_number, placed_sign, placed_word, zero_atom, passed_says}

-- a part is read from these tokens, and then the rest
says_then_split : {A B : Type 0} (IsA : Tokens → A → Type 0) (IsB : Tokens → B → Type 0) (ts : Tokens) (o : Outcome A) (f : A → Standing → Outcome B) → Says IsA ts o →
    ((x : A) (a more left : Tokens) → ts ≡ a ++ left → IsA (a ++ more) x → GoesOn IsB a) → ((x : A) (a : Tokens) (q : Standing) → ts ≡ a ++ q.left → IsA a x → Says IsB (a ++ q.left) (f x q)) → Says IsB ts (and_then o f)
says_then_split IsA IsB ts (Ok p) f (a, e, h) after rest = subst (λ z. Says IsB z (f p.0 p.1)) (sym e) (rest p.0 a p.1 e h)
says_then_split IsA IsB ts (Err q) f (a, e, (more, x, h)) after rest = (a, e, after x a more q.1 e h)

-- WHAT IS READ IS SOME TOKEN

pub data There : Tokens → Type 0 where
  there : (t : PlacedToken) (ts : Tokens) → There (t ∷ ts)

further : {a : Tokens} (b : Tokens) → There a → There (a ++ b)
further b (there t ts) = there t (ts ++ b)

sign_there : {s : Sign} {a : Tokens} → IsSign s a → There a
sign_there (sign t e) = there t []

word_there : {k : Keyword} {a : Tokens} → IsWord k a → There a
word_there (word t e) = there t []

name_there : {a : Tokens} {n : RawName} → IsName a n → There a
name_there (name t cs e) = there t []

nothing_read : (f : Form) (x : Tree f) (r : Standing) → takes_token f ≡ true → reads_to false f (at [] start) ≡ Ok (x, r) → ⊥
nothing_read f x r takes e = let less = subst (λ o. Shrinks (takes_token f) 0 o) e (reads_shrinks false f (at [] start)) in absurd (omega (arith, subst (λ b. Fewer b (length r.left) 0) takes less))

expression_there : (a : Tokens) (e : RawExpression) → IsExpression a e → There a
unfolding takes_token
expression_there [] e h = let (m, p) = expressions_whole [] e h start in absurd (nothing_read (AtLevel Disjunction) e (at [] m) refl p)
expression_there (t ∷ ts) e h = there t ts

to_expression : (l : Level) (a : Tokens) (e : RawExpression) → IsAt l a e → IsExpression a e
to_expression Disjunction a e h = h
to_expression Conjunction a e h = IsExpression.conjunction h
to_expression Negation a e h = IsExpression.conjunction (IsConjunction.negation h)
to_expression Comparison a e h = IsExpression.conjunction (IsConjunction.negation (IsNegation.comparison h))
to_expression Sum a e h = of_sum h
to_expression Product a e h = of_sum (IsSum.product h)
to_expression Atom a e h = of_sum (IsSum.product (IsProduct.atom h))

replicator_there : {a : Tokens} {o : Replicator} → IsReplicator a o → There a
replicator_there (IsReplicator.external_replicator k) = sign_there k
replicator_there (IsReplicator.internal_replicator k) = sign_there k
replicator_there (IsReplicator.interleaving_replicator k) = sign_there k

mutual
  process_there : {a : Tokens} {p : RawProcess} → IsProcess a p → There a
  process_there (IsProcess.conditional k h l i m j) = further _ (further _ (further _ (further _ (further _ (word_there k)))))
  process_there (IsProcess.replicated k h l i m j) = further _ (further _ (further _ (further _ (further _ (replicator_there k)))))
  process_there (IsProcess.renamed h) = renamed_there h
  process_there (IsProcess.hidden h) = hidden_there h
  process_there (IsProcess.operand h) = operand_there h
  process_there (IsProcess.chain h) = chain_there h
  process_there (IsProcess.generalised h k i l j) = further _ (further _ (further _ (further _ (operand_there h))))
  process_there (IsProcess.alphabetised h k i l j m n) = further _ (further _ (further _ (further _ (further _ (further _ (operand_there h))))))

  renamed_there : {a : Tokens} {p : RawProcess} → IsRenamed a p → There a
  renamed_there (IsRenamed.renamed_base h k) = further _ (base_there h)
  renamed_there (IsRenamed.renamed_again h k) = further _ (renamed_there h)

  hidden_there : {a : Tokens} {p : RawProcess} → IsHidden a p → There a
  hidden_there (IsHidden.hidden_base h k) = further _ (base_there h)
  hidden_there (IsHidden.hidden_renamed h k) = further _ (renamed_there h)
  hidden_there (IsHidden.hidden_again h k) = further _ (hidden_there h)

  chain_there : {o : Infix} {a : Tokens} {p : RawProcess} → IsChain o a p → There a
  chain_there (IsChain.two h k i) = further _ (further _ (operand_there h))
  chain_there (IsChain.longer h k i) = further _ (further _ (chain_there h))

  operand_there : {a : Tokens} {p : RawProcess} → IsOperand a p → There a
  operand_there (IsOperand.prefix h hs k i) = further _ (further _ (further _ (name_there h)))
  operand_there (IsOperand.guard {a = a} {e = e} h k i) = further _ (further _ (expression_there a e h))
  operand_there (IsOperand.base h) = base_there h

  base_there : {a : Tokens} {p : RawProcess} → IsBase a p → There a
  base_there (IsBase.stop k) = word_there k
  base_there (IsBase.skip k) = word_there k
  base_there (IsBase.call h) = name_there h
  base_there (IsBase.call_with h k hs l) = further _ (further _ (further _ (name_there h)))
  base_there (IsBase.bracketed_process k h l) = further _ (further _ (sign_there k))

under : {A : Type 0} (IsA IsB : Tokens → A → Type 0) (ts : Tokens) (o : Outcome A) → Says IsA ts o → ((a : Tokens) (x : A) → IsA a x → IsB a x) → Says IsB ts o
under IsA IsB ts (Ok p) (a, e, h) all = (a, e, all a p.0 h)
under IsA IsB ts (Err q) (a, e, (more, x, h)) all = (a, e, (more, x, all (a ++ more) x h))

-- DOMAINS

-- an expression of a level, with the place of its first token
pub data IsDomain (l : Level) : Tokens → RawDomain → Type 0 where
  domain : (t : PlacedToken) (ts : Tokens) {e : RawExpression} → IsAt l (t ∷ ts) e → IsDomain l (t ∷ ts) (record { place = t.place; set = e })

domain_goes : (l : Level) (a more : Tokens) (e : RawExpression) → IsAt l (a ++ more) e → There (a ++ more) → GoesOn (IsDomain l) a
domain_goes l (t ∷ ts) more e h i = (more, record { place = t.place; set = e }, domain t (ts ++ more) h)
domain_goes l [] (t ∷ ts) e h i = (t ∷ ts, record { place = t.place; set = e }, domain t ts h)
domain_goes l [] [] e h i = elim i [ ]

some_zero_domain : (l : Level) → GoesOn (IsDomain l) []
some_zero_domain l = (placed_number ∷ [], record { place = placed_number.place; set = RawNumber 0 }, domain placed_number [] (at_each l (placed_number ∷ []) (RawNumber 0) zero_atom))

domain_placed : (l : Level) (t : PlacedToken) (us a left : Tokens) (e : RawExpression) → t ∷ us ≡ a ++ left → IsAt l a e → There a → IsDomain l a (record { place = t.place; set = e })
domain_placed l t us _ left e split h (there v vs) =
    let same : v ≡ t = sym (cc split) in subst (λ w. IsDomain l (v ∷ vs) (record { place = w.place; set = e })) same (domain v vs h)

domain_at_says : (limited : Bool) (u : Oracle) (l : Level) → SaysLevels u → (ts : Tokens) (n : Nest) → Says (IsDomain l) ts (run_to limited u (domain_at l (first ts)) (at ts n))
domain_at_says limited u l levels [] n = ([], refl, some_zero_domain l)
domain_at_says limited u l levels (t ∷ us) n =
    says_then_split (IsAt l) (IsDomain l) (t ∷ us) (u (AtLevel l) (at (t ∷ us) n)) (λ e p. Ok (record { place = t.place; set = e }, p)) (levels l (at (t ∷ us) n))
    (λ e a more left split h. domain_goes l a more e h (expression_there (a ++ more) e (to_expression l (a ++ more) e h)))
    (λ e a p split h. (a, refl, domain_placed l t us a p.left e split h (expression_there a e (to_expression l a e h))))

pub domain_says : (limited : Bool) (u : Oracle) (l : Level) → SaysLevels u → (q : Standing) → Says (IsDomain l) q.left (run_to limited u (body (OfDomain l)) q)
unfolding body
domain_says limited u l levels q = domain_at_says limited u l levels q.left q.nest

pub domains_of : (a c : Tokens) (d : RawDomain) (ys : List RawDomain) → IsDomain Atom a d → Later DotSign (IsDomain Atom) c ys → AreDomains (a ++ c) (d ∷ ys)
domains_of _ [] _ [] (domain t ts {e = e} h) none_later = subst (λ z. AreDomains z (record { place = t.place; set = e } ∷ [])) (sym (append-nil (t ∷ ts))) (AreDomains.one_domain t ts h)
domains_of _ _ _ _ (domain t ts {e = e} h) (one_later b d c f ys k i more) =
    subst (λ z. AreDomains z (record { place = t.place; set = e } ∷ f ∷ ys)) (append_assoc (t ∷ ts) b (d ++ c) ∙ ap (λ z. (t ∷ ts) ++ z) (sym (append_assoc b d c))) (AreDomains.more_domains t ts h k (domains_of d c f ys i more))

a_domain : RawDomain
a_domain = record { place = placed_number.place; set = RawNumber 0 }

zero_domain : IsDomain Atom (placed_number ∷ []) a_domain
unfolding a_domain
zero_domain = domain placed_number [] zero_atom

pub domains_from : (limited : Bool) (u : Oracle) (ds : List RawDomain) → SaysSigns u → SaysForm u (OfDomain Atom) (IsDomain Atom) → ((ds : List RawDomain) → SaysForm u (DomainsBehind ds) (AddsLater DotSign (IsDomain Atom) ds)) →
    (q : Standing) (b : Bool) → Says (AddsLater DotSign (IsDomain Atom) ds) q.left (run_to limited u (domains_by ds b) q)
domains_from limited u ds signs domains behinds q false = ([], refl, ([], sym (append-nil ds), none_later))
domains_from limited u ds signs domains behinds q true =
    says_more DotSign (IsDomain Atom) ds (placed_number ∷ []) a_domain zero_domain q.left (u (OfSign DotSign) q) (u (OfDomain Atom)) (λ d. u (DomainsBehind (ds ++ d ∷ []))) (signs DotSign q) domains (λ d. behinds (ds ++ d ∷ []))

pub some_domain : (l : Level) → GoesOn (IsDomain l) []
some_domain l = some_zero_domain l

pub some_domains : GoesOn AreDomains []
unfolding a_domain
some_domains = (placed_number ∷ [], a_domain ∷ [], AreDomains.one_domain placed_number [] zero_atom)

-- CONSTRUCTORS

clause_of : (a b c : Tokens) (n : RawName) (ds : List RawDomain) → IsName a n → IsSign DotSign b → AreDomains c ds → IsClause (a ++ (b ++ c)) (record { name = n; fields = ds })
clause_of a b c n ds h k hs = subst (λ z. IsClause z (record { name = n; fields = ds })) (append_assoc a b c) (IsClause.clause h k hs)

clause_by_says : (limited : Bool) (u : Oracle) → SaysSigns u → SaysForm u OfDomains AreDomains → (a : Tokens) (n : RawName) → IsName a n → (p : Standing) (b : Bool) → Says IsClause (a ++ p.left) (run_to limited u (clause_by n b) p)
clause_by_says limited u signs domains a n h p false = (a, refl, IsClause.bare_clause h)
clause_by_says limited u signs domains a n h p true =
    behind_front IsClause a p.left (run_to limited u (clause_by n true) p)
    (two_parts_say (λ ts _. IsSign DotSign ts) (λ _. AreDomains) (λ ts c. IsClause (a ++ ts) c) (λ _ ds. record { name = n; fields = ds }) (λ b c _ ds k hs. clause_of a b c n ds h k hs) (λ _. some_domains)
    p.left (u (OfSign DotSign) p) (λ _. u OfDomains) (signs DotSign p) (λ _. domains))

pub clause_says : (limited : Bool) (u : Oracle) → SaysForm u OfName IsName → SaysSigns u → SaysForm u OfDomains AreDomains → (q : Standing) → Says IsClause q.left (run_to limited u (body OfClause) q)
unfolding body
clause_says limited u names signs domains q =
    says_then IsName IsClause [] q.left (u OfName q) (λ n p. run_to limited u (clause_by n (is_sign DotSign (option_map seen_of (first p.left)))) p) (names q)
    (λ n c h. ([], record { name = n; fields = [] }, subst (λ z. IsClause z (record { name = n; fields = [] })) (sym (append-nil c)) (IsClause.bare_clause h)))
    (λ n a p h. clause_by_says limited u signs domains a n h p (is_sign DotSign (option_map seen_of (first p.left))))

pub clauses_of : (a c : Tokens) (x : RawClause) (ys : List RawClause) → IsClause a x → Later BarSign IsClause c ys → AreClauses (a ++ c) (x ∷ ys)
clauses_of a [] x [] h none_later = subst (λ z. AreClauses z (x ∷ [])) (sym (append-nil a)) (AreClauses.one_clause h)
clauses_of a _ x _ h (one_later b d c f ys k i t) =
    subst (λ z. AreClauses z (x ∷ f ∷ ys)) (append_assoc a b (d ++ c) ∙ ap (λ z. a ++ z) (sym (append_assoc b d c))) (AreClauses.more_clauses h k (clauses_of d c f ys i t))

pub a_clause : RawClause
a_clause = record { name = record { spelling = []; place = first_place }; fields = [] }

bare : IsClause (placed_name ∷ []) a_clause
unfolding a_clause
bare = IsClause.bare_clause a_name

pub clauses_from : (limited : Bool) (u : Oracle) (cs : List RawClause) → SaysSigns u → SaysForm u OfClause IsClause → ((cs : List RawClause) → SaysForm u (ClausesBehind cs) (AddsLater BarSign IsClause cs)) → (q : Standing) (b : Bool) →
    Says (AddsLater BarSign IsClause cs) q.left (run_to limited u (clauses_by cs b) q)
clauses_from limited u cs signs clauses behinds q false = ([], refl, ([], sym (append-nil cs), none_later))
clauses_from limited u cs signs clauses behinds q true =
    says_more BarSign IsClause cs (placed_name ∷ []) a_clause bare q.left (u (OfSign BarSign) q) (u OfClause) (λ c. u (ClausesBehind (cs ++ c ∷ []))) (signs BarSign q) clauses (λ c. behinds (cs ++ c ∷ []))

pub some_clause : GoesOn IsClause []
some_clause = (placed_name ∷ [], a_clause, bare)

pub some_clauses : GoesOn AreClauses []
some_clauses = (placed_name ∷ [], a_clause ∷ [], AreClauses.one_clause bare)

-- DECLARATIONS

some_names : GoesOn AreNames []
some_names = (placed_name ∷ [], record { spelling = []; place = first_place } ∷ [], AreNames.one_name a_name)

some_name : GoesOn IsName []
some_name = (placed_name ∷ [], record { spelling = []; place = first_place }, a_name)

some_sign : (s : Sign) → GoesOn (λ ts (x : Unit {0}). IsSign s ts) []
some_sign s = (placed_sign s ∷ [], tt {0}, a_sign s)

pub some_declaration : GoesOn IsDeclaration []
some_declaration = (placed_word ChannelWord ∷ placed_name ∷ [], RawChannels (record { spelling = []; place = first_place } ∷ []) [], IsDeclaration.bare_channels (a_word ChannelWord) (AreNames.one_name a_name))

pub datatype_says : (limited : Bool) (u : Oracle) → SaysWords u → SaysForm u OfName IsName → SaysSigns u → SaysForm u OfClauses AreClauses → (q : Standing) → Says IsDeclaration q.left (run_to limited u (body OfDatatype) q)
unfolding body
datatype_says limited u words names signs clauses q =
    four_parts_say (λ ts _. IsWord DatatypeWord ts) (λ _. IsName) (λ _ _ ts _. IsSign EqualsSign ts) (λ _ _ _. AreClauses) IsDeclaration (λ _ n _ cs. RawDatatype n cs) (λ a b c d _ n _ cs k h l hs. IsDeclaration.datatype k h l hs)
    (λ _. some_name) (λ _ _. some_sign EqualsSign) (λ _ _ _. some_clauses)
    q.left (u (OfWord DatatypeWord) q) (λ _. u OfName) (λ _ _. u (OfSign EqualsSign)) (λ _ _ _. u OfClauses) (words DatatypeWord q) (λ _. names) (λ _ _. signs EqualsSign) (λ _ _ _. clauses)

nametype_of : (a b c d : Tokens) (n : RawName) (x : RawDomain) → IsWord NametypeWord a → IsName b n → IsSign EqualsSign c → IsDomain Disjunction d x → IsDeclaration (((a ++ b) ++ c) ++ d) (RawNametype n x)
nametype_of a b c _ n _ k h l (domain t ts i) = IsDeclaration.nametype t ts k h l i

pub nametype_says : (limited : Bool) (u : Oracle) → SaysWords u → SaysForm u OfName IsName → SaysSigns u → SaysForm u (OfDomain Disjunction) (IsDomain Disjunction) → (q : Standing) → Says IsDeclaration q.left (run_to limited u (body OfNametype) q)
unfolding body
nametype_says limited u words names signs domains q =
    four_parts_say (λ ts _. IsWord NametypeWord ts) (λ _. IsName) (λ _ _ ts _. IsSign EqualsSign ts) (λ _ _ _. IsDomain Disjunction) IsDeclaration (λ _ n _ d. RawNametype n d) (λ a b c d _ n _ x. nametype_of a b c d n x)
    (λ _. some_name) (λ _ _. some_sign EqualsSign) (λ _ _ _. some_domain Disjunction)
    q.left (u (OfWord NametypeWord) q) (λ _. u OfName) (λ _ _. u (OfSign EqualsSign)) (λ _ _ _. u (OfDomain Disjunction)) (words NametypeWord q) (λ _. names) (λ _ _. signs EqualsSign) (λ _ _ _. domains)

channels_by_says : (limited : Bool) (u : Oracle) → SaysSigns u → SaysForm u OfDomains AreDomains → (a b : Tokens) (ns : List RawName) → IsWord ChannelWord a → AreNames b ns → (p : Standing) (c : Bool) →
    Says IsDeclaration ((a ++ b) ++ p.left) (run_to limited u (channels_by ns c) p)
channels_by_says limited u signs domains a b ns k hs p false = (a ++ b, refl, IsDeclaration.bare_channels k hs)
channels_by_says limited u signs domains a b ns k hs p true =
    behind_front IsDeclaration (a ++ b) p.left (run_to limited u (channels_by ns true) p)
    (two_parts_say (λ ts _. IsSign ColonSign ts) (λ _. AreDomains) (λ ts d. IsDeclaration ((a ++ b) ++ ts) d) (λ _ ds. RawChannels ns ds)
    (λ c d _ ds l i. subst (λ z. IsDeclaration z (RawChannels ns ds)) (append_assoc (a ++ b) c d) (IsDeclaration.channels k hs l i)) (λ _. some_domains)
    p.left (u (OfSign ColonSign) p) (λ _. u OfDomains) (signs ColonSign p) (λ _. domains))

pub channels_say : (limited : Bool) (u : Oracle) → SaysWords u → SaysForm u OfNames AreNames → SaysSigns u → SaysForm u OfDomains AreDomains → (q : Standing) → Says IsDeclaration q.left (run_to limited u (body OfChannels) q)
unfolding body
channels_say limited u words names signs domains q =
    says_then (λ ts _. IsWord ChannelWord ts) IsDeclaration [] q.left (u (OfWord ChannelWord) q) (λ _. run_to limited u (form OfNames >>= λ ns. (peek >>= λ n. channels_by ns (is_sign ColonSign n)))) (words ChannelWord q)
    (λ _ a k. let (b, ns, hs) = some_names in (b, RawChannels ns [], IsDeclaration.bare_channels k hs))
    (λ _ a p k. says_then AreNames IsDeclaration a p.left (u OfNames p) (λ ns r. run_to limited u (channels_by ns (is_sign ColonSign (option_map seen_of (first r.left)))) r) (names p)
    (λ ns b hs. ([], RawChannels ns [], subst (λ z. IsDeclaration z (RawChannels ns [])) (sym (append-nil (a ++ b))) (IsDeclaration.bare_channels k hs)))
    (λ ns b r hs. channels_by_says limited u signs domains a b ns k hs r (is_sign ColonSign (option_map seen_of (first r.left)))))

-- an equation behind its name
abbrev pub OnEquation : RawName → Tokens → RawDeclaration → Type 0
OnEquation n = Extending (λ a. IsName a n) IsDeclaration

equation_of : (n : RawName) (c : Tokens) (p : RawProcess) → Both (IsSign EqualsSign) IsProcess c p → OnEquation n c (RawEquation n [] p)
equation_of n _ p (both {a = a} {b = b} k h) = λ x i. subst (λ z. IsDeclaration z (RawEquation n [] p)) (append_assoc x a b) (IsDeclaration.equation i k h)

equation_with_of : (n : RawName) (a b c d : Tokens) (ns : List RawName) (p : RawProcess) → IsSign OpenRoundSign a → AreNames b ns → IsSign CloseRoundSign c → Both (IsSign EqualsSign) IsProcess d p → OnEquation n (((a ++ b) ++ c) ++ d) (RawEquation n ns p)
equation_with_of n a b c _ ns p k hs l (both {a = x} {b = y} m h) = λ z i.
    subst (λ w. IsDeclaration w (RawEquation n ns p)) (append_assoc (z ++ a ++ b ++ c) x y ∙ ap (λ w. w ++ (x ++ y)) (front3 z a b c) ∙ append_assoc z ((a ++ b) ++ c) (x ++ y)) (IsDeclaration.equation_with i k hs l m h)

pub some_on_equation : (n : RawName) → GoesOn (OnEquation n) []
some_on_equation n = let (c, p, h) = some_behind EqualsSign IsProcess some_process in (c, RawEquation n [] p, equation_of n c p h)

equation_by_says : (limited : Bool) (u : Oracle) (n : RawName) → ((n : RawName) → SaysForm u (EquationWith n) (OnEquation n)) → ((s : Sign) → SaysForm u (ProcessBehind s) (Both (IsSign s) IsProcess)) → (p : Standing) (b : Bool) →
    Says (OnEquation n) p.left (run_to limited u (equation_by n b) p)
equation_by_says limited u n withs processes p true = says_last (OnEquation n) (OnEquation n) (λ x. x) [] p.left (u (EquationWith n) p) (withs n p) (λ x c h. h)
equation_by_says limited u n withs processes p false = says_last (Both (IsSign EqualsSign) IsProcess) (OnEquation n) (λ x. RawEquation n [] x) [] p.left (u (ProcessBehind EqualsSign) p) (processes EqualsSign p) (λ x c h. equation_of n c x h)

pub equation_says : (limited : Bool) (u : Oracle) → SaysForm u OfName IsName → ((n : RawName) → SaysForm u (EquationWith n) (OnEquation n)) → ((s : Sign) → SaysForm u (ProcessBehind s) (Both (IsSign s) IsProcess)) → (q : Standing) →
    Says IsDeclaration q.left (run_to limited u (body OfEquation) q)
unfolding body
equation_says limited u names withs processes q =
    says_then IsName IsDeclaration [] q.left (u OfName q) (λ n p. run_to limited u (equation_by n (is_sign OpenRoundSign (option_map seen_of (first p.left)))) p) (names q)
    (λ n a h. let (c, d, k) = some_on_equation n in (c, d, k a h))
    (λ n a p h. behind_front IsDeclaration a p.left (run_to limited u (equation_by n (is_sign OpenRoundSign (option_map seen_of (first p.left)))) p)
    (under (OnEquation n) (λ ts d. IsDeclaration (a ++ ts) d) p.left _ (equation_by_says limited u n withs processes p (is_sign OpenRoundSign (option_map seen_of (first p.left)))) (λ c d k. k a h)))

pub equation_with_says : (limited : Bool) (u : Oracle) (n : RawName) → SaysSigns u → SaysForm u OfNames AreNames → ((s : Sign) → SaysForm u (ProcessBehind s) (Both (IsSign s) IsProcess)) → (q : Standing) →
    Says (OnEquation n) q.left (run_to limited u (body (EquationWith n)) q)
unfolding body
equation_with_says limited u n signs names processes q =
    four_parts_say (λ ts _. IsSign OpenRoundSign ts) (λ _. AreNames) (λ _ _ ts _. IsSign CloseRoundSign ts) (λ _ _ _. Both (IsSign EqualsSign) IsProcess) (OnEquation n) (λ _ ns _ p. RawEquation n ns p) (λ a b c d _ ns _ p. equation_with_of n a b c d ns p)
    (λ _. some_names) (λ _ _. some_sign CloseRoundSign) (λ _ _ _. some_behind EqualsSign IsProcess some_process)
    q.left (u (OfSign OpenRoundSign) q) (λ _. u OfNames) (λ _ _. u (OfSign CloseRoundSign)) (λ _ _ _. u (ProcessBehind EqualsSign)) (signs OpenRoundSign q) (λ _. names) (λ _ _. signs CloseRoundSign) (λ _ _ _. processes EqualsSign)

-- ASSERTIONS

abbrev pub IsSide : Tokens → Bool × RawProcess → Type 0
IsSide ts x = IsFirstSide ts x.0 x.1

stop_side : IsFirstSide stops false RawStop
unfolding stops placed_word
stop_side = IsFirstSide.plain_side (placed_word StopWord) [] (λ e. absurd (cc e)) stop_process

pub some_side : GoesOn IsSide []
some_side = (stops, (false, RawStop), stop_side)

not_not : (t : PlacedToken) (ts : Tokens) → is_word NotWord (option_map seen_of (first (t ∷ ts))) ≡ false → t.token ≢ KeywordToken NotWord
not_not t ts e h = let both = sym (is_same_word NotWord) ∙ sym (ap (λ k. is_word NotWord (Some (seen k))) h) ∙ e in absurd (cc both)

side_goes : (ts a more left : Tokens) (p : RawProcess) → is_word NotWord (option_map seen_of (first ts)) ≡ false → ts ≡ a ++ left → IsProcess (a ++ more) p → GoesOn IsSide a
side_goes ts [] more left p e split h = some_side
side_goes ts (t ∷ us) more left p e split h =
    (more, (false, p), IsFirstSide.plain_side t (us ++ more) (not_not t (us ++ left) (sym (ap (λ z. is_word NotWord (option_map seen_of (first z))) split) ∙ e)) h)

side_placed : (ts a left : Tokens) (p : RawProcess) → is_word NotWord (option_map seen_of (first ts)) ≡ false → ts ≡ a ++ left → IsProcess a p → There a → IsFirstSide a false p
side_placed ts _ left p e split h (there t us) = IsFirstSide.plain_side t us (not_not t (us ++ left) (sym (ap (λ z. is_word NotWord (option_map seen_of (first z))) split) ∙ e)) h

pub first_side_says : (limited : Bool) (u : Oracle) → SaysWords u → SaysForm u OfProcess IsProcess → (q : Standing) (b : Bool) → is_word NotWord (option_map seen_of (first q.left)) ≡ b → Says IsSide q.left (run_to limited u (first_side_by b) q)
first_side_says limited u words processes q true e =
    two_parts_say (λ ts _. IsWord NotWord ts) (λ _. IsProcess) IsSide (λ _ p. (true, p)) (λ a b _ p k h. IsFirstSide.negated_side k h) (λ _. some_process) q.left (u (OfWord NotWord) q) (λ _. u OfProcess) (words NotWord q) (λ _. processes)
first_side_says limited u words processes q false e =
    says_then_split IsProcess IsSide q.left (u OfProcess q) (λ p r. Ok ((false, p), r)) (processes q) (λ p a more left split h. side_goes q.left a more left p e split h) (λ p a r split h. (a, refl, side_placed q.left a r.left p e split h (process_there h)))

pub model_says : (limited : Bool) (u : Oracle) → SaysSigns u → (q : Standing) (b : Bool) → Says IsModel q.left (run_to limited u (model_by b) q)
model_says limited u signs q true = says_last (λ ts _. IsSign TracesSign ts) IsModel (λ _. Traces) [] q.left (u (OfSign TracesSign) q) (signs TracesSign q) (λ _ c h. IsModel.traces h)
model_says limited u signs q false = says_last (λ ts _. IsSign FailuresSign ts) IsModel (λ _. Failures) [] q.left (u (OfSign FailuresSign) q) (signs FailuresSign q) (λ _ c h. IsModel.failures h)

pub some_model : GoesOn IsModel []
some_model = (placed_sign TracesSign ∷ [], Traces, IsModel.traces (a_sign TracesSign))

-- SPELLINGS AND FREEDOMS

pub placed_spelling : List ℕ → PlacedToken
placed_spelling cs = record { token = NameToken cs; place = first_place; from = 0; to = 0 }

pub a_spelling : (cs : List ℕ) → IsSpelled cs (placed_spelling cs ∷ [])
unfolding placed_spelling
a_spelling cs = spelled (placed_spelling cs) refl

pub some_spelling : (cs : List ℕ) → GoesOn (λ ts (x : Unit {0}). IsSpelled cs ts) []
some_spelling cs = (placed_spelling cs ∷ [], tt {0}, a_spelling cs)

spelling_is : (cs : List ℕ) (k : Token) → is_spelling cs k ≡ true → k ≡ NameToken cs
spelling_is cs (NameToken ds) e = ap NameToken (sym (same_bytes cs ds e))
spelling_is cs (KeywordToken k) e = absurd (cc e)
spelling_is cs (SignToken s) e = absurd (cc e)
spelling_is cs (NumberToken v) e = absurd (cc e)

spelling_by : (limited : Bool) (u : Oracle) (cs : List ℕ) (ts : Tokens) (n : Nest) (b : Bool) → is_spelled cs (first ts) ≡ b → Says (λ us _. IsSpelled cs us) ts (run_to limited u (cond b (pass (give (tt {0}))) refuse) (at ts n))
unfolding is_spelled
spelling_by limited u cs ts n false e = ([], refl, some_spelling cs)
spelling_by limited u cs [] n true e = absurd (cc e)
spelling_by limited u cs (t ∷ ts) n true e =
    let is : IsSpelled cs (t ∷ []) = spelled t (spelling_is cs t.token e) in
    passed_says (λ us _. IsSpelled cs us) limited [] t ts n (run_to limited u (give (tt {0}))) ([], tt {0}, is) (λ q same. (t ∷ [], ap (λ z. t ∷ z) (sym same), is))

pub spelling_says : (limited : Bool) (u : Oracle) (cs : List ℕ) (q : Standing) → Says (λ ts _. IsSpelled cs ts) q.left (run_to limited u (body (OfSpelling cs)) q)
unfolding body
spelling_says limited u cs q = spelling_by limited u cs q.left q.nest (is_spelled cs (first q.left)) refl

-- the words of a freedom, and its end
pub data EndsDivergence : Tokens → Type 0 where
  ends_divergence : (a b : Tokens) {c : Tokens} → IsSpelled (codes "divergence") a → IsSpelled (codes "free") b → IsSign CloseSquareSign c → EndsDivergence (a ++ b ++ c)

pub data EndsDeadlock : Tokens → Type 0 where
  ends_deadlock : (a b : Tokens) {c : Tokens} → IsSpelled (codes "deadlock") a → IsSpelled (codes "free") b → IsFreedomEnd c → EndsDeadlock (a ++ b ++ c)

pub data IsDoubleEnd : Tokens → Type 0 where
  joined : {a : Tokens} → IsSign CloseRenamingSign a → IsDoubleEnd a
  spaced : {a b : Tokens} → IsSign CloseSquareSign a → IsSign CloseSquareSign b → IsDoubleEnd (a ++ b)

abbrev pub SaysSpellings : Oracle → Type 0
SaysSpellings u = (cs : List ℕ) (q : Standing) → Says (λ ts _. IsSpelled cs ts) q.left (u (OfSpelling cs) q)

some_end : GoesOn (λ ts (x : Unit {0}). IsFreedomEnd ts) []
some_end = (placed_sign CloseSquareSign ∷ [], tt {0}, IsFreedomEnd.plain_end (a_sign CloseSquareSign))

pub divergence_says : (limited : Bool) (u : Oracle) → SaysSpellings u → SaysSigns u → (q : Standing) → Says (λ ts _. EndsDivergence ts) q.left (run_to limited u (body DivergenceFree) q)
unfolding body
divergence_says limited u spellings signs q =
    three_parts_say (λ ts _. IsSpelled (codes "divergence") ts) (λ _ ts _. IsSpelled (codes "free") ts) (λ _ _ ts _. IsSign CloseSquareSign ts) (λ ts _. EndsDivergence ts) (λ _ _ x. x) (λ a b c _ _ _ h i k. ends_divergence a b h i k)
    (λ _. some_spelling (codes "free")) (λ _ _. some_sign CloseSquareSign)
    q.left (u (OfSpelling (codes "divergence")) q) (λ _. u (OfSpelling (codes "free"))) (λ _ _. u (OfSign CloseSquareSign)) (spellings (codes "divergence") q) (λ _. spellings (codes "free")) (λ _ _. signs CloseSquareSign)

pub deadlock_says : (limited : Bool) (u : Oracle) → SaysSpellings u → ((q : Standing) → Says (λ ts _. IsFreedomEnd ts) q.left (u FreedomEnd q)) → (q : Standing) → Says (λ ts _. EndsDeadlock ts) q.left (run_to limited u (body DeadlockFree) q)
unfolding body
deadlock_says limited u spellings ends q =
    three_parts_say (λ ts _. IsSpelled (codes "deadlock") ts) (λ _ ts _. IsSpelled (codes "free") ts) (λ _ _ ts _. IsFreedomEnd ts) (λ ts _. EndsDeadlock ts) (λ _ _ x. x) (λ a b c _ _ _ h i k. ends_deadlock a b h i k)
    (λ _. some_spelling (codes "free")) (λ _ _. some_end)
    q.left (u (OfSpelling (codes "deadlock")) q) (λ _. u (OfSpelling (codes "free"))) (λ _ _. u FreedomEnd) (spellings (codes "deadlock") q) (λ _. spellings (codes "free")) (λ _ _. ends)

end_of : (a b c : Tokens) → IsSign OpenSquareSign a → IsSpelled (codes "F") b → IsDoubleEnd c → IsFreedomEnd ((a ++ b) ++ c)
end_of a b c k h (joined l) = IsFreedomEnd.joined_end k h l
end_of a b _ k h (spaced {a = c} {b = d} l m) = subst IsFreedomEnd (append_assoc (a ++ b) c d) (IsFreedomEnd.spaced_end k h l m)

pub end_says : (limited : Bool) (u : Oracle) → SaysSigns u → SaysSpellings u → ((q : Standing) → Says (λ ts _. IsDoubleEnd ts) q.left (u DoubleEnd q)) → (q : Standing) (b : Bool) → Says (λ ts _. IsFreedomEnd ts) q.left (run_to limited u (freedom_end_by b) q)
end_says limited u signs spellings doubles q true = says_last (λ ts _. IsSign CloseSquareSign ts) (λ ts _. IsFreedomEnd ts) (λ x. x) [] q.left (u (OfSign CloseSquareSign) q) (signs CloseSquareSign q) (λ _ c h. IsFreedomEnd.plain_end h)
end_says limited u signs spellings doubles q false =
    three_parts_say (λ ts _. IsSign OpenSquareSign ts) (λ _ ts _. IsSpelled (codes "F") ts) (λ _ _ ts _. IsDoubleEnd ts) (λ ts _. IsFreedomEnd ts) (λ _ _ x. x) (λ a b c _ _ _. end_of a b c)
    (λ _. some_spelling (codes "F")) (λ _ _. (placed_sign CloseRenamingSign ∷ [], tt {0}, joined (a_sign CloseRenamingSign)))
    q.left (u (OfSign OpenSquareSign) q) (λ _. u (OfSpelling (codes "F"))) (λ _ _. u DoubleEnd) (signs OpenSquareSign q) (λ _. spellings (codes "F")) (λ _ _. doubles)

pub double_says : (limited : Bool) (u : Oracle) → SaysSigns u → (q : Standing) (b : Bool) → Says (λ ts _. IsDoubleEnd ts) q.left (run_to limited u (double_end_by b) q)
double_says limited u signs q true = says_last (λ ts _. IsSign CloseRenamingSign ts) (λ ts _. IsDoubleEnd ts) (λ x. x) [] q.left (u (OfSign CloseRenamingSign) q) (signs CloseRenamingSign q) (λ _ c h. joined h)
double_says limited u signs q false =
    two_parts_say (λ ts _. IsSign CloseSquareSign ts) (λ _ ts _. IsSign CloseSquareSign ts) (λ ts _. IsDoubleEnd ts) (λ _ x. x) (λ a b _ _ k l. spaced k l) (λ _. some_sign CloseSquareSign)
    q.left (u (OfSign CloseSquareSign) q) (λ _. u (OfSign CloseSquareSign)) (signs CloseSquareSign q) (λ _. signs CloseSquareSign)

divergence_of : (a c : Tokens) → IsSign OpenSquareSign a → EndsDivergence c → IsFreedom (a ++ c) RawDivergenceFree
divergence_of a _ k (ends_divergence b c {c = d} h i l) = subst (λ z. IsFreedom z RawDivergenceFree) (front3 a b c d) (IsFreedom.divergence_free k h i l)

deadlock_of : (a c : Tokens) → IsSign OpenSquareSign a → EndsDeadlock c → IsFreedom (a ++ c) RawDeadlockFree
deadlock_of a _ k (ends_deadlock b c {c = d} h i l) = subst (λ z. IsFreedom z RawDeadlockFree) (front3 a b c d) (IsFreedom.deadlock_free k h i l)

freedom_by_says : (limited : Bool) (u : Oracle) → ((q : Standing) → Says (λ ts _. EndsDivergence ts) q.left (u DivergenceFree q)) → ((q : Standing) → Says (λ ts _. EndsDeadlock ts) q.left (u DeadlockFree q)) →
    (a : Tokens) → IsSign OpenSquareSign a → (p : Standing) (b : Bool) → Says IsFreedom (a ++ p.left) (run_to limited u (freedom_by b) p)
freedom_by_says limited u divergences deadlocks a k p true = says_last (λ ts _. EndsDivergence ts) IsFreedom (λ _. RawDivergenceFree) a p.left (u DivergenceFree p) (divergences p) (λ _ c h. divergence_of a c k h)
freedom_by_says limited u divergences deadlocks a k p false = says_last (λ ts _. EndsDeadlock ts) IsFreedom (λ _. RawDeadlockFree) a p.left (u DeadlockFree p) (deadlocks p) (λ _ c h. deadlock_of a c k h)

pub some_deadlock : GoesOn (λ ts (x : Unit {0}). EndsDeadlock ts) []
some_deadlock = (
  placed_spelling (codes "deadlock") ∷ placed_spelling (codes "free") ∷ placed_sign CloseSquareSign ∷ [],
  tt {0},
  ends_deadlock (placed_spelling (codes "deadlock") ∷ []) (placed_spelling (codes "free") ∷ []) (a_spelling (codes "deadlock")) (a_spelling (codes "free")) (IsFreedomEnd.plain_end (a_sign CloseSquareSign)),
)

pub some_divergence : GoesOn (λ ts (x : Unit {0}). EndsDivergence ts) []
some_divergence = (
  placed_spelling (codes "divergence") ∷ placed_spelling (codes "free") ∷ placed_sign CloseSquareSign ∷ [],
  tt {0},
  ends_divergence (placed_spelling (codes "divergence") ∷ []) (placed_spelling (codes "free") ∷ []) (a_spelling (codes "divergence")) (a_spelling (codes "free")) (a_sign CloseSquareSign),
)

pub some_freedom_end : GoesOn (λ ts (x : Unit {0}). IsFreedomEnd ts) []
some_freedom_end = some_end

pub some_double_end : GoesOn (λ ts (x : Unit {0}). IsDoubleEnd ts) []
some_double_end = (placed_sign CloseRenamingSign ∷ [], tt {0}, joined (a_sign CloseRenamingSign))

freedom_goes : (a : Tokens) → IsSign OpenSquareSign a → GoesOn IsFreedom a
freedom_goes a k = let (c, x, h) = some_deadlock in (c, RawDeadlockFree, deadlock_of a c k h)

pub some_freedom : GoesOn IsFreedom []
some_freedom = let (c, x, h) = some_deadlock in (placed_sign OpenSquareSign ∷ c, RawDeadlockFree, deadlock_of (placed_sign OpenSquareSign ∷ []) c (a_sign OpenSquareSign) h)

pub freedom_says : (limited : Bool) (u : Oracle) → SaysSigns u → ((q : Standing) → Says (λ ts _. EndsDivergence ts) q.left (u DivergenceFree q)) → ((q : Standing) → Says (λ ts _. EndsDeadlock ts) q.left (u DeadlockFree q)) → (q : Standing) →
    Says IsFreedom q.left (run_to limited u (body OfFreedom) q)
unfolding body
freedom_says limited u signs divergences deadlocks q =
    says_then (λ ts _. IsSign OpenSquareSign ts) IsFreedom [] q.left (u (OfSign OpenSquareSign) q) (λ _ p. run_to limited u (freedom_by (is_spelled (codes "divergence") (first p.left))) p) (signs OpenSquareSign q)
    (λ _ a k. freedom_goes a k) (λ _ a p k. freedom_by_says limited u divergences deadlocks a k p (is_spelled (codes "divergence") (first p.left)))

-- an assertion behind its keyword and its first side
refinement_of : (t : PlacedToken) (b c d : Tokens) (x : Bool × RawProcess) (m : Model) (q : RawProcess) → IsWord AssertWord (t ∷ []) → IsSide b x → IsModel c m → IsProcess d q → IsDeclaration ((t ∷ [] ++ b) ++ (c ++ d)) (RawAssertion t.place x.0 (RawRefinementOf m x.1) q)
refinement_of t b c d x m q k h i j = subst (λ z. IsDeclaration z (RawAssertion t.place x.0 (RawRefinementOf m x.1) q)) (append_assoc (t ∷ b) c d) (IsDeclaration.assertion t k h i j)

freed_of : (t : PlacedToken) (b c d : Tokens) (x : Bool × RawProcess) (p : RawProperty) → IsWord AssertWord (t ∷ []) → IsSide b x → IsSign ColonSign c → IsFreedom d p → IsDeclaration ((t ∷ [] ++ b) ++ (c ++ d)) (RawAssertion t.place x.0 p x.1)
freed_of t b c d x p k h i j = subst (λ z. IsDeclaration z (RawAssertion t.place x.0 p x.1)) (append_assoc (t ∷ b) c d) (IsDeclaration.freedom t k h i j)

assertion_by_says : (limited : Bool) (u : Oracle) → SaysSigns u → SaysForm u OfFreedom IsFreedom → SaysForm u OfModel IsModel → SaysForm u OfProcess IsProcess → (t : PlacedToken) (b : Tokens) (x : Bool × RawProcess) → IsWord AssertWord (t ∷ []) → IsSide b x →
    (p : Standing) (c : Bool) → Says IsDeclaration ((t ∷ [] ++ b) ++ p.left) (run_to limited u (assertion_by t.place x c) p)
assertion_by_says limited u signs freedoms models processes t b x k h p true =
    behind_front IsDeclaration (t ∷ [] ++ b) p.left (run_to limited u (assertion_by t.place x true) p)
    (two_parts_say (λ ts _. IsSign ColonSign ts) (λ _. IsFreedom) (λ ts d. IsDeclaration ((t ∷ [] ++ b) ++ ts) d) (λ _ a. RawAssertion t.place x.0 a x.1) (λ c d _ a i j. freed_of t b c d x a k h i j) (λ _. some_freedom)
    p.left (u (OfSign ColonSign) p) (λ _. u OfFreedom) (signs ColonSign p) (λ _. freedoms))
assertion_by_says limited u signs freedoms models processes t b x k h p false =
    behind_front IsDeclaration (t ∷ [] ++ b) p.left (run_to limited u (assertion_by t.place x false) p)
    (two_parts_say IsModel (λ _. IsProcess) (λ ts d. IsDeclaration ((t ∷ [] ++ b) ++ ts) d) (λ m q. RawAssertion t.place x.0 (RawRefinementOf m x.1) q) (λ c d m q i j. refinement_of t b c d x m q k h i j) (λ _. some_process)
    p.left (u OfModel p) (λ _. u OfProcess) (models p) (λ _. processes))

side_more : (t : PlacedToken) (b : Tokens) (x : Bool × RawProcess) → IsWord AssertWord (t ∷ []) → IsSide b x → GoesOn IsDeclaration (t ∷ [] ++ b)
side_more t b x k h = let (d, a, j) = some_freedom in (placed_sign ColonSign ∷ d, RawAssertion t.place x.0 a x.1, freed_of t b (placed_sign ColonSign ∷ []) d x a k h (a_sign ColonSign) j)

word_more : (a : Tokens) → IsWord AssertWord a → GoesOn IsDeclaration a
word_more _ (word t e) = let (b, x, h) = some_side in let (more, d, k) = side_more t b x (word t e) h in (b ++ more, d, subst (λ z. IsDeclaration z d) (append_assoc (t ∷ []) b more) k)

word_goes : (a more : Tokens) → IsWord AssertWord (a ++ more) → GoesOn IsDeclaration a
word_goes a more h = let (c, d, k) = word_more (a ++ more) h in (more ++ c, d, subst (λ z. IsDeclaration z d) (append_assoc a more c) k)

assertion_sides : (limited : Bool) (u : Oracle) → SaysForm u OfFirstSide IsSide → SaysSigns u → SaysForm u OfFreedom IsFreedom → SaysForm u OfModel IsModel → SaysForm u OfProcess IsProcess → (t : PlacedToken) → IsWord AssertWord (t ∷ []) → (p : Standing) →
    Says IsDeclaration (t ∷ [] ++ p.left) (run_to limited u (form OfFirstSide >>= λ x. (peek >>= λ n. assertion_by t.place x (is_sign ColonSign n))) p)
assertion_sides limited u sides signs freedoms models processes t k p =
    says_then IsSide IsDeclaration (t ∷ []) p.left (u OfFirstSide p) (λ x r. run_to limited u (assertion_by t.place x (is_sign ColonSign (option_map seen_of (first r.left)))) r) (sides p)
    (λ x b h. side_more t b x k h) (λ x b r h. assertion_by_says limited u signs freedoms models processes t b x k h r (is_sign ColonSign (option_map seen_of (first r.left))))

assertion_word : (limited : Bool) (u : Oracle) → SaysForm u OfFirstSide IsSide → SaysSigns u → SaysForm u OfFreedom IsFreedom → SaysForm u OfModel IsModel → SaysForm u OfProcess IsProcess → (t : PlacedToken) (us a : Tokens) (p : Standing) →
    t ∷ us ≡ a ++ p.left → IsWord AssertWord a → Says IsDeclaration (a ++ p.left) (run_to limited u (form OfFirstSide >>= λ x. (peek >>= λ n. assertion_by t.place x (is_sign ColonSign n))) p)
assertion_word limited u sides signs freedoms models processes t us _ p split (word v e) =
    let same : v ≡ t = sym (cc split) in
    subst (λ w. Says IsDeclaration (v ∷ p.left) (run_to limited u (form OfFirstSide >>= λ x. (peek >>= λ n. assertion_by w.place x (is_sign ColonSign n))) p)) same (assertion_sides limited u sides signs freedoms models processes v (word v e) p)

assertion_at_says : (limited : Bool) (u : Oracle) → SaysWords u → SaysForm u OfFirstSide IsSide → SaysSigns u → SaysForm u OfFreedom IsFreedom → SaysForm u OfModel IsModel → SaysForm u OfProcess IsProcess → (ts : Tokens) (n : Nest) →
    Says IsDeclaration ts (run_to limited u (assertion_at (first ts)) (at ts n))
assertion_at_says limited u words sides signs freedoms models processes [] n = ([], refl, some_declaration)
assertion_at_says limited u words sides signs freedoms models processes (t ∷ us) n =
    says_then_split (λ ts _. IsWord AssertWord ts) IsDeclaration (t ∷ us) (u (OfWord AssertWord) (at (t ∷ us) n)) (λ _. run_to limited u (form OfFirstSide >>= λ x. (peek >>= λ n. assertion_by t.place x (is_sign ColonSign n)))) (words AssertWord (at (t ∷ us) n))
    (λ _ a more left split h. word_goes a more h) (λ _ a p split h. assertion_word limited u sides signs freedoms models processes t us a p split h)

pub assertion_says : (limited : Bool) (u : Oracle) → SaysWords u → SaysForm u OfFirstSide IsSide → SaysSigns u → SaysForm u OfFreedom IsFreedom → SaysForm u OfModel IsModel → SaysForm u OfProcess IsProcess → (q : Standing) →
    Says IsDeclaration q.left (run_to limited u (body OfAssertion) q)
unfolding body
assertion_says limited u words sides signs freedoms models processes q = assertion_at_says limited u words sides signs freedoms models processes q.left q.nest

pub declaration_says : (limited : Bool) (u : Oracle) → SaysForm u OfDatatype IsDeclaration → SaysForm u OfNametype IsDeclaration → SaysForm u OfChannels IsDeclaration → SaysForm u OfAssertion IsDeclaration → SaysForm u OfEquation IsDeclaration →
    (q : Standing) (a b c d e : Bool) → Says IsDeclaration q.left (run_to limited u (declaration_by a b c d e) q)
declaration_says limited u datatypes nametypes channels assertions equations q true b c d e = says_last IsDeclaration IsDeclaration (λ x. x) [] q.left (u OfDatatype q) (datatypes q) (λ x c h. h)
declaration_says limited u datatypes nametypes channels assertions equations q false true c d e = says_last IsDeclaration IsDeclaration (λ x. x) [] q.left (u OfNametype q) (nametypes q) (λ x c h. h)
declaration_says limited u datatypes nametypes channels assertions equations q false false true d e = says_last IsDeclaration IsDeclaration (λ x. x) [] q.left (u OfChannels q) (channels q) (λ x c h. h)
declaration_says limited u datatypes nametypes channels assertions equations q false false false true e = says_last IsDeclaration IsDeclaration (λ x. x) [] q.left (u OfAssertion q) (assertions q) (λ x c h. h)
declaration_says limited u datatypes nametypes channels assertions equations q false false false false true = says_last IsDeclaration IsDeclaration (λ x. x) [] q.left (u OfEquation q) (equations q) (λ x c h. h)
declaration_says limited u datatypes nametypes channels assertions equations q false false false false false = ([], refl, some_declaration)
