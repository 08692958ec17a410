-- Declarations of the grammar are read, whatever their heights, where the token behind them separates or begins another.
use Rattle.std.proofs.lemmas.Bool.{cases_Bool}
use Rattle.theory_reader.proofs.CompleteEvents.{first_of}
use Rattle.theory_reader.proofs.Laws.{reads_to_is}
use Rattle.theory_reader.proofs.CompleteProcesses.{process_after, process_read, word_seen}
use Rattle.theory_reader.proofs.Signs.{is_same_word, word_is_seen}
use Rattle.theory_reader.specs.Reader.{assertion_by, channels_by, clause_by, clauses_by, declaration_by, domains_by, double_end_by, equation_by, first_side_by, freedom_by, freedom_end_by, is_name, is_sign, is_spelled, is_spelling, is_word, model_by, body}
use Rattle.theory_reader.specs.Programs.{SeenName, Standing, and_then, run_to, seen, first, pass, give, refuse}
use Rattle.theory_text.specs.Raw.{RawAssertion, RawChannels, RawClause, RawDatatype, RawDeclaration, RawDomain, RawEquation, RawExpression, RawName, RawNametype, RawProcess, RawProperty, RawRefinementOf}
use Rattle.theory_text.specs.Height.{Nest}
use Rattle.theory_syntax.specs.Process.{Model}
use Rattle.theory_reader.proofs.SoundDeclarations.{IsDomain, domain}
use Rattle.theory_reader.proofs.SoundExpressions.{IsAt, seen_word}
use Rattle.theory_reader.proofs.CompleteEvents.{FirstOf, is_next, list_gets, more_first, names_get, not_next, one_first}
use Rattle.theory_reader.specs.Forms.{Atom, ClausesBehind, Comparison, Conjunction, DeadlockFree, Disjunction, DivergenceFree, DomainsBehind, DoubleEnd, EquationWith, FreedomEnd, Level, Negation, OfAssertion, OfChannels, OfClause, OfClauses, OfDatatype, OfDeclaration, OfDomain, OfDomains, OfEquation, OfFirstSide, OfFreedom, OfModel, OfNametype, OfSign, OfSpelling, Product, Sum}
use Rattle.theory_text.specs.Token.{AssertWord, BarSign, ChannelWord, CloseRenamingSign, CloseRoundSign, CloseSquareSign, ColonSign, CommaSign, DatatypeWord, DotSign, EqualsSign, FailuresSign, KeywordToken, NametypeWord, NotWord, OpenRoundSign, OpenSquareSign, PlacedToken, TracesSign}
use Rattle.std.proofs.Common.{◌≡◌, ◌∙◌, ℕ, Bool, true, false, cond, List, [], ◌∷◌, ◌++◌, refl, ap, Some, arith, append_assoc, inl, inr}
use Rattle.std.proofs.lemmas.Slice.Eq.{bytes_eq-Decides}
use Rattle.std.specs.Prelude.{◌≢◌, Ok, codes}
use Rattle.theory_text.specs.Grammar.{IsName, name, IsSign, IsWord, IsSpelled, spelled, IsClause, IsDeclaration, AreClauses, AreDomains, AreNames, IsFirstSide, IsFreedom, IsFreedomEnd, IsModel, IsProcess}
use Rattle.theory_reader.proofs.Tightness.{Stops, stops_at, parts3, parts4, parts6, stops_more}
use Rattle.theory_reader.proofs.CompleteExpressions.{Tokens, free, Gets, next, Whole, atom_gets, comparison_gets, conjunction_goes, conjunction_whole, expression_read, gets_name, gets_sign, gets_word, negation_gets, product_goes, product_whole, sign_next, sum_goes, sum_whole, bound, alone, passes}
use Rattle.theory_reader.proofs.Local.{at}

-- DOMAINS

at_level : (l : Level) (a : Tokens) (e : RawExpression) → IsAt l a e → Whole l a e
at_level Disjunction a e h = expression_read a e h
at_level Conjunction a e h = conjunction_whole a e (conjunction_goes h)
at_level Negation a e h = negation_gets h
at_level Comparison a e h = comparison_gets h
at_level Sum a e h = sum_whole a e (sum_goes h)
at_level Product a e h = product_whole a e (product_goes h)
at_level Atom a e h = atom_gets h

domain_gets : (l : Level) (a : Tokens) (d : RawDomain) → IsDomain l a d → (r : Tokens) → Stops (bound l) r → (n : Nest) → Gets (free (OfDomain l) (at (a ++ r) n)) d r
unfolding body
domain_gets l _ _ (domain t ts {e = e} h) r s n =
    let (m, f) = at_level l (t ∷ ts) e h r s n in
    (m, rw (reads_to_is false (OfDomain l) (at (t ∷ (ts ++ r)) n), f) refl)

domains_first : {a : Tokens} {ds : List RawDomain} → AreDomains a ds → FirstOf DotSign (IsDomain Atom) a ds
domains_first (AreDomains.one_domain t ts {e = e} h) = one_first DotSign (IsDomain Atom) (t ∷ ts) (record { place = t.place; set = e }) (domain t ts h)
domains_first (AreDomains.more_domains t ts {b = b} {c = c} {e = e} {ds = ds} h k hs) = more_first DotSign (IsDomain Atom) (t ∷ ts) b c (record { place = t.place; set = e }) ds (domain t ts h) k (domains_first hs)

domains_stop : (ds : List RawDomain) (q : Standing) → is_sign DotSign (next q.left) ≡ false → free (DomainsBehind ds) q ≡ Ok (ds, q)
unfolding body
domains_stop ds q e = reads_to_is false (DomainsBehind ds) q ∙ ap (λ b. run_to false free (domains_by ds b) q) e

domains_go : (ds : List RawDomain) (q : Standing) → is_sign DotSign (next q.left) ≡ true →
    free (DomainsBehind ds) q ≡ and_then (free (OfSign DotSign) q) (λ _ p. and_then (free (OfDomain Atom) p) (λ x t. and_then (free (DomainsBehind (ds ++ x ∷ [])) t) (λ y v. Ok (y, v))))
unfolding body
domains_go ds q e = reads_to_is false (DomainsBehind ds) q ∙ ap (λ b. run_to false free (domains_by ds b) q) e

first_domains : {a : Tokens} {ds : List RawDomain} → FirstOf DotSign (IsDomain Atom) a ds → (r : Tokens) → Stops 6 r → (n : Nest) → Gets (free OfDomains (at (a ++ r) n)) ds r
unfolding body
first_domains (first_of b c x ys h t) r s n =
    let (m, e) = list_gets DotSign (IsDomain Atom) (Stops 12) (free (OfDomain Atom)) (λ xs. free (DomainsBehind xs)) domains_stop domains_go (domain_gets Atom) (λ t r k. stops_at 12 r k (omega arith)) h t r (omega (arith, s)) (not_next DotSign 6 r s (omega arith)) n in
    (m, reads_to_is false OfDomains (at ((b ++ c) ++ r) n) ∙ e)

domains_get : {a : Tokens} {ds : List RawDomain} → AreDomains a ds → (r : Tokens) → Stops 6 r → (n : Nest) → Gets (free OfDomains (at (a ++ r) n)) ds r
domains_get hs r s n = first_domains (domains_first hs) r s n

-- CONSTRUCTORS

clause_named : {a : Tokens} {v : RawName} → IsName a v → (r : Tokens) (n : Nest) (b : Bool) → is_sign DotSign (next r) ≡ b → (m : Nest) × (free OfClause (at (a ++ r) n) ≡ run_to false free (clause_by v b) (at r m))
unfolding body
clause_named {a = a} {v = v} h r n b e =
    let (m, f) = gets_name h r n in
    (m, reads_to_is false OfClause (at (a ++ r) n) ∙ ap (λ o. and_then o (λ w p. run_to false free (clause_by w (is_sign DotSign (next p.left))) p)) f ∙ ap (λ x. run_to false free (clause_by v x) (at r m)) e)

clause_gets : (a : Tokens) (c : RawClause) → IsClause a c → (r : Tokens) → Stops 6 r → (n : Nest) → Gets (free OfClause (at (a ++ r) n)) c r
clause_gets _ _ (IsClause.bare_clause h) r s n = clause_named h r n false (not_next DotSign 6 r s (omega arith))
clause_gets _ _ (IsClause.clause {a = a} {b = b} {c = c} {n = v} {ds = ds} h k hs) r s n =
    let (m, e) = clause_named h (b ++ (c ++ r)) n true (is_next DotSign k (c ++ r)) in
    let (i, f) = gets_sign DotSign k (c ++ r) m in
    let (j, g) = domains_get hs r s i in
    (j, ap (λ z. free OfClause (at z n)) (parts3 a b c r) ∙ e ∙ rw (f, g) refl)

clauses_first : {a : Tokens} {cs : List RawClause} → AreClauses a cs → FirstOf BarSign IsClause a cs
clauses_first (AreClauses.one_clause {a = a} {c = c} h) = one_first BarSign IsClause a c h
clauses_first (AreClauses.more_clauses {a = a} {b = b} {d = d} {c = c} {cs = cs} h k hs) = more_first BarSign IsClause a b d c cs h k (clauses_first hs)

clauses_stop : (cs : List RawClause) (q : Standing) → is_sign BarSign (next q.left) ≡ false → free (ClausesBehind cs) q ≡ Ok (cs, q)
unfolding body
clauses_stop cs q e = reads_to_is false (ClausesBehind cs) q ∙ ap (λ b. run_to false free (clauses_by cs b) q) e

clauses_go : (cs : List RawClause) (q : Standing) → is_sign BarSign (next q.left) ≡ true →
    free (ClausesBehind cs) q ≡ and_then (free (OfSign BarSign) q) (λ _ p. and_then (free OfClause p) (λ x t. and_then (free (ClausesBehind (cs ++ x ∷ [])) t) (λ y v. Ok (y, v))))
unfolding body
clauses_go cs q e = reads_to_is false (ClausesBehind cs) q ∙ ap (λ b. run_to false free (clauses_by cs b) q) e

first_clauses : {a : Tokens} {cs : List RawClause} → FirstOf BarSign IsClause a cs → (r : Tokens) → Stops 1 r → (n : Nest) → Gets (free OfClauses (at (a ++ r) n)) cs r
unfolding body
first_clauses (first_of b c x ys h t) r s n =
    let (m, e) = list_gets BarSign IsClause (Stops 6) (free OfClause) (λ xs. free (ClausesBehind xs)) clauses_stop clauses_go clause_gets (λ t r k. stops_at 6 r k (omega arith)) h t r (omega (arith, s)) (not_next BarSign 1 r s (omega arith)) n in
    (m, reads_to_is false OfClauses (at ((b ++ c) ++ r) n) ∙ e)

-- DECLARATIONS

abbrev pub WholeDeclaration : Tokens → RawDeclaration → Type 0
WholeDeclaration a d = (r : Tokens) → Stops 1 r → (n : Nest) → Gets (free OfDeclaration (at (a ++ r) n)) d r

declaration_next : (q : Standing) (a b c d e : Bool) → is_word DatatypeWord (next q.left) ≡ a → is_word NametypeWord (next q.left) ≡ b → is_word ChannelWord (next q.left) ≡ c → is_word AssertWord (next q.left) ≡ d → is_name (next q.left) ≡ e →
    free OfDeclaration q ≡ run_to false free (declaration_by a b c d e) q
unfolding body
declaration_next q a b c d e f g h i j =
    let k = next q.left in
    reads_to_is false OfDeclaration q ∙ ap (λ x. run_to false free (declaration_by x (is_word NametypeWord k) (is_word ChannelWord k) (is_word AssertWord k) (is_name k)) q) f
    ∙ ap (λ x. run_to false free (declaration_by a x (is_word ChannelWord k) (is_word AssertWord k) (is_name k)) q) g ∙ ap (λ x. run_to false free (declaration_by a b x (is_word AssertWord k) (is_name k)) q) h
    ∙ ap (λ x. run_to false free (declaration_by a b c x (is_name k)) q) i ∙ ap (λ x. run_to false free (declaration_by a b c d x) q) j

datatype_gets : {a b c d : Tokens} {v : RawName} {cs : List RawClause} → IsWord DatatypeWord a → IsName b v → IsSign EqualsSign c → AreClauses d cs → WholeDeclaration (a ++ b ++ c ++ d) (RawDatatype v cs)
unfolding body
datatype_gets {a = a} {b = b} {c = c} {d = d} k h l hs r s n =
    let (n1, f1) = gets_word DatatypeWord k (b ++ (c ++ (d ++ r))) n in
    let (n2, f2) = gets_name h (c ++ (d ++ r)) n1 in
    let (n3, f3) = gets_sign EqualsSign l (d ++ r) n2 in
    let (n4, f4) = first_clauses (clauses_first hs) r s n3 in
    let q = at (a ++ (b ++ (c ++ (d ++ r)))) n in (
      n4,
      ap (λ z. free OfDeclaration (at z n)) (parts4 a b c d r) ∙ declaration_next q true _ _ _ _ (ap (is_word DatatypeWord) (word_seen DatatypeWord k (b ++ (c ++ (d ++ r)))) ∙ is_same_word DatatypeWord) refl refl refl refl
          ∙ alone (free OfDatatype q) ∙ rw (reads_to_is false OfDatatype q, f1, f2, f3, f4) refl,
    )

nametype_gets : {a b c : Tokens} (d : Tokens) {v : RawName} (x : RawDomain) → IsWord NametypeWord a → IsName b v → IsSign EqualsSign c → IsDomain Disjunction d x → WholeDeclaration (a ++ b ++ c ++ d) (RawNametype v x)
unfolding body is_word
nametype_gets {a = a} {b = b} {c = c} d x k h l i r s n =
    let (n1, f1) = gets_word NametypeWord k (b ++ (c ++ (d ++ r))) n in
    let (n2, f2) = gets_name h (c ++ (d ++ r)) n1 in
    let (n3, f3) = gets_sign EqualsSign l (d ++ r) n2 in
    let (n4, f4) = domain_gets Disjunction d x i r (omega (arith, s)) n3 in
    let q = at (a ++ (b ++ (c ++ (d ++ r)))) n in
    let first = word_seen NametypeWord k (b ++ (c ++ (d ++ r))) in (
      n4,
      ap (λ z. free OfDeclaration (at z n)) (parts4 a b c d r) ∙ declaration_next q false true _ _ _ (ap (is_word DatatypeWord) first) (ap (is_word NametypeWord) first ∙ is_same_word NametypeWord) refl refl refl
          ∙ alone (free OfNametype q) ∙ rw (reads_to_is false OfNametype q, f1, f2, f3, f4) refl,
    )

-- channels, and what is behind them
channels_named : {a b : Tokens} {ns : List RawName} → IsWord ChannelWord a → AreNames b ns → (r : Tokens) → is_sign CommaSign (next r) ≡ false → (n : Nest) (c : Bool) → is_sign ColonSign (next r) ≡ c →
    (m : Nest) × (free OfDeclaration (at (a ++ (b ++ r)) n) ≡ run_to false free (channels_by ns c) (at r m))
unfolding body is_word
channels_named {a = a} {b = b} {ns = ns} k hs r last n c e =
    let (n1, f1) = gets_word ChannelWord k (b ++ r) n in
    let (n2, f2) = names_get hs r last n1 in
    let q = at (a ++ (b ++ r)) n in
    let first = word_seen ChannelWord k (b ++ r) in
    let read : free OfChannels q ≡ run_to false free (channels_by ns (is_sign ColonSign (next r))) (at r n2) = rw (reads_to_is false OfChannels q, f1, f2) refl in (
      n2,
      declaration_next q false false true _ _ (ap (is_word DatatypeWord) first) (ap (is_word NametypeWord) first) (ap (is_word ChannelWord) first ∙ is_same_word ChannelWord) refl refl
          ∙ alone (free OfChannels q) ∙ read ∙ ap (λ x. run_to false free (channels_by ns x) (at r n2)) e,
    )

bare_channels_get : {a b : Tokens} {ns : List RawName} → IsWord ChannelWord a → AreNames b ns → WholeDeclaration (a ++ b) (RawChannels ns [])
bare_channels_get {a = a} {b = b} k hs r s n =
    let (m, e) = channels_named k hs r (not_next CommaSign 1 r s (omega arith)) n false (not_next ColonSign 1 r s (omega arith)) in
    (m, ap (λ z. free OfDeclaration (at z n)) (append_assoc a b r) ∙ e)

channels_get : {a b c d : Tokens} {ns : List RawName} {ds : List RawDomain} → IsWord ChannelWord a → AreNames b ns → IsSign ColonSign c → AreDomains d ds → WholeDeclaration (a ++ b ++ c ++ d) (RawChannels ns ds)
unfolding is_sign
channels_get {a = a} {b = b} {c = c} {d = d} k hs l i r s n =
    let (m, e) = channels_named k hs (c ++ (d ++ r)) (sign_next ColonSign l CommaSign (d ++ r)) n true (is_next ColonSign l (d ++ r)) in
    let (n1, f1) = gets_sign ColonSign l (d ++ r) m in
    let (n2, f2) = domains_get i r (omega (arith, s)) n1 in
    (n2, ap (λ z. free OfDeclaration (at z n)) (parts4 a b c d r) ∙ e ∙ rw (f1, f2) refl)

-- equations
equation_named : {a : Tokens} {v : RawName} → IsName a v → (r : Tokens) (n : Nest) (b : Bool) → is_sign OpenRoundSign (next r) ≡ b → (m : Nest) × (free OfDeclaration (at (a ++ r) n) ≡ run_to false free (equation_by v b) (at r m))
unfolding body is_word is_name
equation_named {v = v} (name t cs e) r n b is =
    let (m, f) = gets_name (name t cs e) r n in
    let q = at (t ∷ r) n in
    let first : next (t ∷ r) ≡ Some SeenName = ap (λ k. Some (seen k)) e in
    let read : free OfEquation q ≡ run_to false free (equation_by v (is_sign OpenRoundSign (next r))) (at r m) = rw (reads_to_is false OfEquation q, f) refl in (
      m,
      declaration_next q false false false false true (ap (is_word DatatypeWord) first) (ap (is_word NametypeWord) first) (ap (is_word ChannelWord) first) (ap (is_word AssertWord) first) (ap is_name first)
          ∙ alone (free OfEquation q) ∙ read ∙ ap (λ x. run_to false free (equation_by v x) (at r m)) is,
    )

equation_gets : {a b c : Tokens} {v : RawName} {p : RawProcess} → IsName a v → IsSign EqualsSign b → IsProcess c p → WholeDeclaration (a ++ b ++ c) (RawEquation v [] p)
unfolding is_sign
equation_gets {a = a} {b = b} {c = c} {p = p} h k i r s n =
    let (m, e) = equation_named h (b ++ (c ++ r)) n false (sign_next EqualsSign k OpenRoundSign (c ++ r)) in
    let (j, f) = process_after EqualsSign c p k (process_read i) r (omega (arith, s)) m in
    (j, ap (λ z. free OfDeclaration (at z n)) (parts3 a b c r) ∙ e ∙ rw f refl)

equation_with_gets : {a b c d x y : Tokens} {v : RawName} {ns : List RawName} {p : RawProcess} → IsName a v → IsSign OpenRoundSign b → AreNames c ns → IsSign CloseRoundSign d → IsSign EqualsSign x → IsProcess y p →
    WholeDeclaration (a ++ b ++ c ++ d ++ x ++ y) (RawEquation v ns p)
unfolding body is_sign
equation_with_gets {a = a} {b = b} {c = c} {d = d} {x = x} {y = y} {v = v} {p = p} h k hs l i o r s n =
    let rest = c ++ (d ++ (x ++ (y ++ r))) in
    let (m, e) = equation_named h (b ++ rest) n true (is_next OpenRoundSign k rest) in
    let (n1, f1) = gets_sign OpenRoundSign k rest m in
    let (n2, f2) = names_get hs (d ++ (x ++ (y ++ r))) (sign_next CloseRoundSign l CommaSign (x ++ (y ++ r))) n1 in
    let (n3, f3) = gets_sign CloseRoundSign l (x ++ (y ++ r)) n2 in
    let (n4, f4) = process_after EqualsSign y p i (process_read o) r (omega (arith, s)) n3 in
    let q = at (b ++ rest) m in
    (n4, ap (λ z. free OfDeclaration (at z n)) (parts6 a b c d x y r) ∙ e ∙ alone (free (EquationWith v) q) ∙ rw (reads_to_is false (EquationWith v) q, f1, f2, f3, f4) refl)

-- ASSERTIONS

side_next : (q : Standing) (b : Bool) → is_word NotWord (next q.left) ≡ b → free OfFirstSide q ≡ run_to false free (first_side_by b) q
unfolding body
side_next q b e = reads_to_is false OfFirstSide q ∙ ap (λ x. run_to false free (first_side_by x) q) e

not_word : (t : PlacedToken) (r : Tokens) → t.token ≢ KeywordToken NotWord → is_word NotWord (next (t ∷ r)) ≡ false
not_word t r h = elim (cases_Bool (is_word NotWord (next (t ∷ r)))) [
  | inl e ↦ absurd (h (seen_word t.token NotWord (word_is_seen NotWord (Some (seen t.token)) e)))
  | inr e ↦ e
]

side_gets : {a : Tokens} {b : Bool} {p : RawProcess} → IsFirstSide a b p → (r : Tokens) → Stops 2 r → (n : Nest) → Gets (free OfFirstSide (at (a ++ r) n)) (b, p) r
side_gets (IsFirstSide.plain_side t ts other h) r s n =
    let (m, e) = process_read h r s n in
    (m, side_next (at (t ∷ (ts ++ r)) n) false (not_word t (ts ++ r) other) ∙ rw e refl)
side_gets (IsFirstSide.negated_side {a = a} {b = b} k h) r s n =
    let (m, e) = gets_word NotWord k (b ++ r) n in
    let (i, f) = process_read h r s m in
    (i, ap (λ z. free OfFirstSide (at z n)) (append_assoc a b r) ∙ side_next (at (a ++ (b ++ r)) n) true (ap (is_word NotWord) (word_seen NotWord k (b ++ r)) ∙ is_same_word NotWord) ∙ rw (e, f) refl)

model_next : (q : Standing) (b : Bool) → is_sign TracesSign (next q.left) ≡ b → free OfModel q ≡ run_to false free (model_by b) q
unfolding body
model_next q b e = reads_to_is false OfModel q ∙ ap (λ x. run_to false free (model_by x) q) e

model_gets : {a : Tokens} {m : Model} → IsModel a m → (r : Tokens) (n : Nest) → Gets (free OfModel (at (a ++ r) n)) m r
unfolding is_sign
model_gets (IsModel.traces {a = a} k) r n = let (m, e) = gets_sign TracesSign k r n in (m, model_next (at (a ++ r) n) true (is_next TracesSign k r) ∙ rw e refl)
model_gets (IsModel.failures {a = a} k) r n = let (m, e) = gets_sign FailuresSign k r n in (m, model_next (at (a ++ r) n) false (sign_next FailuresSign k TracesSign r) ∙ rw e refl)

model_loose : {a : Tokens} {m : Model} → IsModel a m → (r : Tokens) → Stops 1 (a ++ r)
model_loose (IsModel.traces k) r = stops_at 1 r k (omega arith)
model_loose (IsModel.failures k) r = stops_at 1 r k (omega arith)

spelling_gets : (cs : List ℕ) {a : Tokens} → IsSpelled cs a → (r : Tokens) (n : Nest) → Gets (free (OfSpelling cs) (at (a ++ r) n)) (tt {0}) r
unfolding body is_spelled
spelling_gets cs (spelled t e) r n =
    let (m, p) = passes t r n in (
      m,
      reads_to_is false (OfSpelling cs) (at (t ∷ r) n) ∙ ap (λ b. run_to false free (cond b (pass (give (tt {0}))) refuse) (at (t ∷ r) n)) (ap (is_spelling cs) e ∙ (bytes_eq-Decides cs cs).1 refl)
          ∙ ap (λ o. and_then o (λ x q. Ok (x, q))) p,
    )

double_next : (q : Standing) (b : Bool) → is_sign CloseRenamingSign (next q.left) ≡ b → free DoubleEnd q ≡ run_to false free (double_end_by b) q
unfolding body
double_next q b e = reads_to_is false DoubleEnd q ∙ ap (λ x. run_to false free (double_end_by x) q) e

end_next : (q : Standing) (b : Bool) → is_sign CloseSquareSign (next q.left) ≡ b → free FreedomEnd q ≡ run_to false free (freedom_end_by b) q
unfolding body
end_next q b e = reads_to_is false FreedomEnd q ∙ ap (λ x. run_to false free (freedom_end_by x) q) e

end_gets : {a : Tokens} → IsFreedomEnd a → (r : Tokens) (n : Nest) → Gets (free FreedomEnd (at (a ++ r) n)) (tt {0}) r
unfolding is_sign
end_gets (IsFreedomEnd.plain_end {a = a} k) r n = let (m, e) = gets_sign CloseSquareSign k r n in (m, end_next (at (a ++ r) n) true (is_next CloseSquareSign k r) ∙ rw e refl)
end_gets (IsFreedomEnd.joined_end {a = a} {b = b} {c = c} k h l) r n =
    let (n1, f1) = gets_sign OpenSquareSign k (b ++ (c ++ r)) n in
    let (n2, f2) = spelling_gets (codes "F") h (c ++ r) n1 in
    let (n3, f3) = gets_sign CloseRenamingSign l r n2 in
    let double : free DoubleEnd (at (c ++ r) n2) ≡ Ok (tt {0}, at r n3) = double_next (at (c ++ r) n2) true (is_next CloseRenamingSign l r) ∙ rw f3 refl in
    (n3, ap (λ z. free FreedomEnd (at z n)) (parts3 a b c r) ∙ end_next (at (a ++ (b ++ (c ++ r))) n) false (sign_next OpenSquareSign k CloseSquareSign (b ++ (c ++ r))) ∙ rw (f1, f2, double) refl)
end_gets (IsFreedomEnd.spaced_end {a = a} {b = b} {c = c} {d = d} k h l o) r n =
    let (n1, f1) = gets_sign OpenSquareSign k (b ++ (c ++ (d ++ r))) n in
    let (n2, f2) = spelling_gets (codes "F") h (c ++ (d ++ r)) n1 in
    let (n3, f3) = gets_sign CloseSquareSign l (d ++ r) n2 in
    let (n4, f4) = gets_sign CloseSquareSign o r n3 in
    let double : free DoubleEnd (at (c ++ (d ++ r)) n2) ≡ Ok (tt {0}, at r n4) = double_next (at (c ++ (d ++ r)) n2) false (sign_next CloseSquareSign l CloseRenamingSign (d ++ r)) ∙ rw (f3, f4) refl in
    (n4, ap (λ z. free FreedomEnd (at z n)) (parts4 a b c d r) ∙ end_next (at (a ++ (b ++ (c ++ (d ++ r)))) n) false (sign_next OpenSquareSign k CloseSquareSign (b ++ (c ++ (d ++ r)))) ∙ rw (f1, f2, double) refl)

-- a freedom, by its first word
freedom_next : {a : Tokens} → IsSign OpenSquareSign a → (t : PlacedToken) (r : Tokens) (n : Nest) (b : Bool) → is_spelled (codes "divergence") (Some t) ≡ b → (m : Nest) × (free OfFreedom (at (a ++ (t ∷ r)) n) ≡ run_to false free (freedom_by b) (at (t ∷ r) m))
unfolding body
freedom_next {a = a} k t r n b e =
    let (m, f) = gets_sign OpenSquareSign k (t ∷ r) n in
    (m, reads_to_is false OfFreedom (at (a ++ (t ∷ r)) n) ∙ ap (λ o. and_then o (λ _ p. run_to false free (freedom_by (is_spelled (codes "divergence") (first p.left))) p)) f ∙ ap (λ x. run_to false free (freedom_by x) (at (t ∷ r) m)) e)

freedom_gets : {a : Tokens} {x : RawProperty} → IsFreedom a x → (r : Tokens) (n : Nest) → Gets (free OfFreedom (at (a ++ r) n)) x r
unfolding body is_spelled
freedom_gets (IsFreedom.deadlock_free {a = a} {c = c} {d = d} k (spelled t e) i j) r n =
    let (m, f) = freedom_next k t (c ++ (d ++ r)) n false (ap (is_spelling (codes "divergence")) e) in
    let (n1, f1) = spelling_gets (codes "deadlock") (spelled t e) (c ++ (d ++ r)) m in
    let (n2, f2) = spelling_gets (codes "free") i (d ++ r) n1 in
    let (n3, f3) = end_gets j r n2 in
    let whole : free DeadlockFree (at (t ∷ (c ++ (d ++ r))) m) ≡ Ok (tt {0}, at r n3) = rw (reads_to_is false DeadlockFree (at (t ∷ (c ++ (d ++ r))) m), f1, f2, f3) refl in
    (n3, ap (λ z. free OfFreedom (at z n)) (parts4 a (t ∷ []) c d r) ∙ f ∙ rw whole refl)
freedom_gets (IsFreedom.divergence_free {a = a} {c = c} {d = d} k (spelled t e) i j) r n =
    let (m, f) = freedom_next k t (c ++ (d ++ r)) n true (ap (is_spelling (codes "divergence")) e) in
    let (n1, f1) = spelling_gets (codes "divergence") (spelled t e) (c ++ (d ++ r)) m in
    let (n2, f2) = spelling_gets (codes "free") i (d ++ r) n1 in
    let (n3, f3) = gets_sign CloseSquareSign j r n2 in
    let whole : free DivergenceFree (at (t ∷ (c ++ (d ++ r))) m) ≡ Ok (tt {0}, at r n3) = rw (reads_to_is false DivergenceFree (at (t ∷ (c ++ (d ++ r))) m), f1, f2, f3) refl in
    (n3, ap (λ z. free OfFreedom (at z n)) (parts4 a (t ∷ []) c d r) ∙ f ∙ rw whole refl)

-- an assertion, behind its keyword and its first side
assertion_named : (t : PlacedToken) {b : Tokens} {x : Bool} {p : RawProcess} → IsWord AssertWord (t ∷ []) → IsFirstSide b x p → (r : Tokens) → Stops 2 r → (n : Nest) (c : Bool) → is_sign ColonSign (next r) ≡ c →
    (m : Nest) × (free OfDeclaration (at (t ∷ (b ++ r)) n) ≡ run_to false free (assertion_by t.place (x, p) c) (at r m))
unfolding body is_word
assertion_named t {b = b} {x = x} {p = p} k h r s n c e =
    let (n1, f1) = gets_word AssertWord k (b ++ r) n in
    let (n2, f2) = side_gets h r s n1 in
    let q = at (t ∷ (b ++ r)) n in
    let first = word_seen AssertWord k (b ++ r) in
    let read : free OfAssertion q ≡ run_to false free (assertion_by t.place (x, p) (is_sign ColonSign (next r))) (at r n2) = rw (reads_to_is false OfAssertion q, f1, f2) refl in (
      n2,
      declaration_next q false false false true _ (ap (is_word DatatypeWord) first) (ap (is_word NametypeWord) first) (ap (is_word ChannelWord) first) (ap (is_word AssertWord) first ∙ is_same_word AssertWord) refl
          ∙ alone (free OfAssertion q) ∙ read ∙ ap (λ z. run_to false free (assertion_by t.place (x, p) z) (at r n2)) e,
    )

refinement_gets : (t : PlacedToken) {b c d : Tokens} {x : Bool} {m : Model} {p q : RawProcess} → IsWord AssertWord (t ∷ []) → IsFirstSide b x p → IsModel c m → IsProcess d q → WholeDeclaration (t ∷ b ++ c ++ d) (RawAssertion t.place x (RawRefinementOf m p) q)
refinement_gets t {b = b} {c = c} {d = d} k h i j r s n =
    let (n1, f1) = assertion_named t k h (c ++ (d ++ r)) (stops_more 1 2 (c ++ (d ++ r)) (omega arith) (model_loose i (d ++ r))) n false (not_next ColonSign 1 (c ++ (d ++ r)) (model_loose i (d ++ r)) (omega arith)) in
    let (n2, f2) = model_gets i (d ++ r) n1 in
    let (n3, f3) = process_read j r (omega (arith, s)) n2 in
    (n3, ap (λ z. free OfDeclaration (at z n)) (parts4 (t ∷ []) b c d r) ∙ f1 ∙ rw (f2, f3) refl)

freed_gets : (t : PlacedToken) {b c d : Tokens} {x : Bool} {a : RawProperty} {p : RawProcess} → IsWord AssertWord (t ∷ []) → IsFirstSide b x p → IsSign ColonSign c → IsFreedom d a → WholeDeclaration (t ∷ b ++ c ++ d) (RawAssertion t.place x a p)
freed_gets t {b = b} {c = c} {d = d} k h i j r s n =
    let (n1, f1) = assertion_named t k h (c ++ (d ++ r)) (stops_at 2 (d ++ r) i (omega arith)) n true (is_next ColonSign i (d ++ r)) in
    let (n2, f2) = gets_sign ColonSign i (d ++ r) n1 in
    let (n3, f3) = freedom_gets j r n2 in
    (n3, ap (λ z. free OfDeclaration (at z n)) (parts4 (t ∷ []) b c d r) ∙ f1 ∙ rw (f2, f3) refl)

-- every declaration of the grammar is read
pub declaration_read : {a : Tokens} {d : RawDeclaration} → IsDeclaration a d → WholeDeclaration a d
declaration_read (IsDeclaration.datatype k h l hs) = datatype_gets k h l hs
declaration_read (IsDeclaration.nametype t ts {e = e} k h l i) = nametype_gets (t ∷ ts) (record { place = t.place; set = e }) k h l (domain t ts i)
declaration_read (IsDeclaration.bare_channels k hs) = bare_channels_get k hs
declaration_read (IsDeclaration.channels k hs l i) = channels_get k hs l i
declaration_read (IsDeclaration.equation h k i) = equation_gets h k i
declaration_read (IsDeclaration.equation_with h k hs l i j) = equation_with_gets h k hs l i j
declaration_read (IsDeclaration.assertion t k h i j) = refinement_gets t k h i j
declaration_read (IsDeclaration.freedom t k h i j) = freed_gets t k h i j
