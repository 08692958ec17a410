-- What the reader of declarations does where it stands, by what the next token is.
use Rattle.theory_text.specs.Raw.{RawClause, RawDomain, RawName, RawProcess}
use Rattle.std.proofs.Common.{◌≡◌, ◌∙◌, Bool, true, false, List, [], ◌∷◌, ◌++◌, map, refl, sym, ap, Option, Some, Ok, codes}
use Rattle.std.proofs.lemmas.List.{map-append}
use Rattle.std.specs.Prelude.{option_map}
use Rattle.theory_text.specs.Token.{PlacedToken, AssertWord, BarSign, ChannelWord, CloseRenamingSign, CloseSquareSign, ColonSign, CommaSign, DatatypeWord, DotSign, NametypeWord, NotWord, OpenRoundSign, OpenSquareSign, TracesSign}
use Rattle.theory_reader.specs.Forms.{Level, Atom, ClausesBehind, DomainsBehind, DoubleEnd, FreedomEnd, NamesBehind, OfAssertion, OfChannels, OfClause, OfClauses, OfDeclaration, OfDomain, OfDomains, OfEquation, OfFirstSide, OfFreedom, OfModel, OfName, OfNames, OfSign, OfWord}
use Rattle.theory_reader.specs.Programs.{seen_of, first, Seen, Standing, run}
use Rattle.theory_reader.specs.Reader.{body, reads, assertion_at, assertion_by, channels_by, clause_by, clauses_by, declaration_by, domain_at, domains_by, double_end_by, equation_by, first_side_by, freedom_by, freedom_end_by, is_name, is_sign, is_spelled, is_word, model_by, names_by}
use Rattle.theory_reader.proofs.Laws.{reads_is}
use Rattle.csp_parse.proofs.Loops.{alone}

-- what the next token is
abbrev next : Standing → Option Seen
next s = option_map seen_of (first s.left)

pub names_reads : (xs : List RawName) (s : Standing) (b : Bool) → is_sign CommaSign (next s) ≡ b → reads (NamesBehind xs) s ≡ run reads (names_by xs b) s
unfolding body
names_reads xs s b is = reads_is (NamesBehind xs) s ∙ ap (λ x. run reads (names_by xs x) s) is

pub names_begin : (s q : Standing) (x : RawName) → reads OfName s ≡ Ok (x, q) → reads OfNames s ≡ reads (NamesBehind (x ∷ [])) q
unfolding body
names_begin s q x read = rw (reads_is OfNames s, read) (alone (reads (NamesBehind (x ∷ [])) q))

pub names_more : {X : Type 0} (f : X → RawName) (xs ys : List X) (x : X) (s q p : Standing) → is_sign CommaSign (next s) ≡ true → reads (OfSign CommaSign) s ≡ Ok (tt {0}, q) → reads OfName q ≡ Ok (f x, p) → ys ≡ xs ++ x ∷ [] →
    reads (NamesBehind (map f xs)) s ≡ reads (NamesBehind (map f ys)) p
names_more f xs ys x s q p at sign read is =
    names_reads (map f xs) s true at ∙ rw (sign, read) (alone (reads (NamesBehind (map f xs ++ f x ∷ [])) p)) ∙ ap (λ zs. reads (NamesBehind zs) p) (sym (ap (map f) is ∙ map-append f xs (x ∷ [])))

pub domains_reads : (xs : List RawDomain) (s : Standing) (b : Bool) → is_sign DotSign (next s) ≡ b → reads (DomainsBehind xs) s ≡ run reads (domains_by xs b) s
unfolding body
domains_reads xs s b is = reads_is (DomainsBehind xs) s ∙ ap (λ x. run reads (domains_by xs x) s) is

pub domains_begin : (s q : Standing) (x : RawDomain) → reads (OfDomain Atom) s ≡ Ok (x, q) → reads OfDomains s ≡ reads (DomainsBehind (x ∷ [])) q
unfolding body
domains_begin s q x read = rw (reads_is OfDomains s, read) (alone (reads (DomainsBehind (x ∷ [])) q))

pub domains_more : {X : Type 0} (f : X → RawDomain) (xs ys : List X) (x : X) (s q p : Standing) → is_sign DotSign (next s) ≡ true → reads (OfSign DotSign) s ≡ Ok (tt {0}, q) → reads (OfDomain Atom) q ≡ Ok (f x, p) → ys ≡ xs ++ x ∷ [] →
    reads (DomainsBehind (map f xs)) s ≡ reads (DomainsBehind (map f ys)) p
domains_more f xs ys x s q p at sign read is =
    domains_reads (map f xs) s true at ∙ rw (sign, read) (alone (reads (DomainsBehind (map f xs ++ f x ∷ [])) p)) ∙ ap (λ zs. reads (DomainsBehind zs) p) (sym (ap (map f) is ∙ map-append f xs (x ∷ [])))

pub clauses_reads : (xs : List RawClause) (s : Standing) (b : Bool) → is_sign BarSign (next s) ≡ b → reads (ClausesBehind xs) s ≡ run reads (clauses_by xs b) s
unfolding body
clauses_reads xs s b is = reads_is (ClausesBehind xs) s ∙ ap (λ x. run reads (clauses_by xs x) s) is

pub clauses_begin : (s q : Standing) (x : RawClause) → reads OfClause s ≡ Ok (x, q) → reads OfClauses s ≡ reads (ClausesBehind (x ∷ [])) q
unfolding body
clauses_begin s q x read = rw (reads_is OfClauses s, read) (alone (reads (ClausesBehind (x ∷ [])) q))

pub clauses_more : {X : Type 0} (f : X → RawClause) (xs ys : List X) (x : X) (s q p : Standing) → is_sign BarSign (next s) ≡ true → reads (OfSign BarSign) s ≡ Ok (tt {0}, q) → reads OfClause q ≡ Ok (f x, p) → ys ≡ xs ++ x ∷ [] →
    reads (ClausesBehind (map f xs)) s ≡ reads (ClausesBehind (map f ys)) p
clauses_more f xs ys x s q p at sign read is =
    clauses_reads (map f xs) s true at ∙ rw (sign, read) (alone (reads (ClausesBehind (map f xs ++ f x ∷ [])) p)) ∙ ap (λ zs. reads (ClausesBehind zs) p) (sym (ap (map f) is ∙ map-append f xs (x ∷ [])))

pub domain_reads : (l : Level) (s : Standing) (t : Option PlacedToken) → t ≡ first s.left → reads (OfDomain l) s ≡ run reads (domain_at l t) s
unfolding body
domain_reads l s t e = reads_is (OfDomain l) s ∙ ap (λ x. run reads (domain_at l x) s) (sym e)

pub clause_reads : (v : RawName) (s q : Standing) (b : Bool) → reads OfName s ≡ Ok (v, q) → is_sign DotSign (next q) ≡ b → reads OfClause s ≡ run reads (clause_by v b) q
unfolding body
clause_reads v s q b read e = rw (reads_is OfClause s, read) refl ∙ ap (λ x. run reads (clause_by v x) q) e

pub bare_clause : (v : RawName) (s q : Standing) (ds : List RawDomain) → reads OfName s ≡ Ok (v, q) → is_sign DotSign (next q) ≡ false → ds ≡ [] → reads OfClause s ≡ Ok (record { name = v; fields = ds }, q)
bare_clause v s q ds read e none = clause_reads v s q false read e ∙ ap (λ zs. Ok (record { name = v; fields = zs }, q)) (sym none)

pub channels_reads : (ns : List RawName) (s p q : Standing) (b : Bool) → reads (OfWord ChannelWord) s ≡ Ok (tt {0}, p) → reads OfNames p ≡ Ok (ns, q) → is_sign ColonSign (next q) ≡ b → reads OfChannels s ≡ run reads (channels_by ns b) q
unfolding body
channels_reads ns s p q b word read e = rw (reads_is OfChannels s, word, read) refl ∙ ap (λ x. run reads (channels_by ns x) q) e

pub equation_reads : (v : RawName) (s q : Standing) (b : Bool) → reads OfName s ≡ Ok (v, q) → is_sign OpenRoundSign (next q) ≡ b → reads OfEquation s ≡ run reads (equation_by v b) q
unfolding body
equation_reads v s q b read e = rw (reads_is OfEquation s, read) refl ∙ ap (λ x. run reads (equation_by v x) q) e

pub declaration_reads : (s : Standing) (a b c d e : Bool) → is_word DatatypeWord (next s) ≡ a → is_word NametypeWord (next s) ≡ b → is_word ChannelWord (next s) ≡ c → is_word AssertWord (next s) ≡ d → is_name (next s) ≡ e →
    reads OfDeclaration s ≡ run reads (declaration_by a b c d e) s
unfolding body
declaration_reads s a b c d e f g h i j =
    reads_is OfDeclaration s ∙ ap (λ x. run reads (declaration_by x (is_word NametypeWord (next s)) (is_word ChannelWord (next s)) (is_word AssertWord (next s)) (is_name (next s))) s) f
    ∙ ap (λ x. run reads (declaration_by a x (is_word ChannelWord (next s)) (is_word AssertWord (next s)) (is_name (next s))) s) g ∙ ap (λ x. run reads (declaration_by a b x (is_word AssertWord (next s)) (is_name (next s))) s) h
    ∙ ap (λ x. run reads (declaration_by a b c x (is_name (next s))) s) i ∙ ap (λ x. run reads (declaration_by a b c d x) s) j

pub assertion_begins : (s : Standing) (t : Option PlacedToken) → t ≡ first s.left → reads OfAssertion s ≡ run reads (assertion_at t) s
unfolding body
assertion_begins s t e = reads_is OfAssertion s ∙ ap (λ x. run reads (assertion_at x) s) (sym e)

pub assertion_reads : (t : PlacedToken) (side : Bool × RawProcess) (s p q : Standing) (b : Bool) → Some t ≡ first s.left → reads (OfWord AssertWord) s ≡ Ok (tt {0}, p) → reads OfFirstSide p ≡ Ok (side, q) → is_sign ColonSign (next q) ≡ b →
    reads OfAssertion s ≡ run reads (assertion_by t.place side b) q
assertion_reads t side s p q b at word read e = assertion_begins s (Some t) at ∙ rw (word, read) refl ∙ ap (λ x. run reads (assertion_by t.place side x) q) e

pub side_reads : (s : Standing) (b : Bool) → is_word NotWord (next s) ≡ b → reads OfFirstSide s ≡ run reads (first_side_by b) s
unfolding body
side_reads s b e = reads_is OfFirstSide s ∙ ap (λ x. run reads (first_side_by x) s) e

pub model_reads : (s : Standing) (b : Bool) → is_sign TracesSign (next s) ≡ b → reads OfModel s ≡ run reads (model_by b) s
unfolding body
model_reads s b e = reads_is OfModel s ∙ ap (λ x. run reads (model_by x) s) e

pub freedom_reads : (s q : Standing) (b : Bool) → reads (OfSign OpenSquareSign) s ≡ Ok (tt {0}, q) → is_spelled (codes "divergence") (first q.left) ≡ b → reads OfFreedom s ≡ run reads (freedom_by b) q
unfolding body
freedom_reads s q b sign e = rw (reads_is OfFreedom s, sign) refl ∙ ap (λ x. run reads (freedom_by x) q) e

pub end_reads : (s : Standing) (b : Bool) → is_sign CloseSquareSign (next s) ≡ b → reads FreedomEnd s ≡ run reads (freedom_end_by b) s
unfolding body
end_reads s b e = reads_is FreedomEnd s ∙ ap (λ x. run reads (freedom_end_by x) s) e

pub double_reads : (s : Standing) (b : Bool) → is_sign CloseRenamingSign (next s) ≡ b → reads DoubleEnd s ≡ run reads (double_end_by b) s
unfolding body
double_reads s b e = reads_is DoubleEnd s ∙ ap (λ x. run reads (double_end_by x) s) e
