-- What the reader does where it stands, by what the next token is.
use Rattle.std.proofs.Common.{◌≡◌, ◌∙◌, Bool, true, false, List, [], ◌∷◌, ◌++◌, map, refl, sym, ap, Option, Some, None, Ok, Err}
use Rattle.std.specs.Prelude.{option_map, ◌||◌}
use Rattle.std.proofs.lemmas.List.{map-append}
use Rattle.theory_syntax.specs.Expression.{Unary, Binary}
use Rattle.theory_text.specs.Token.{Keyword, DotSign, CommaSign, OpenBraceSign, OpenProductionsSign, OutputSign, InputSign}
use Rattle.theory_text.specs.Raw.{RawExpression, RawEvent, RawEventSet, RawPair, RawField}
use Rattle.theory_reader.specs.Forms.{Level, stronger, Disjunction, Conjunction, Sum, Product, Atom, Behind, Chained, Compared, Operation, OfAtom, AtomOfWord, Dotted, Listed, OfSign, OfEvent, OfEvents, EventsBehind, OfPair, OfPairs, PairsBehind, OfEventSet, CombinedSet, OfField, FieldsBehind}
use Rattle.theory_reader.specs.Programs.{Seen, seen_of, first, Standing, Halt, Outcome, and_then, run}
use Rattle.theory_reader.specs.Reader.{is_sign, comparison_of, operator_at, unary_word, binary_word, chained_by, compared_by, atom_by, atom_of_word_by, dotted_by, listed_by, body, reads, events_by, set_word, pairs_by, event_set_by, combined_by, fields_by}
use Rattle.theory_reader.proofs.Laws.{reads_is}

-- what the next token is
abbrev next : Standing → Option Seen
next s = option_map seen_of (first s.left)

pub alone : {Y : Type 0} (o : Outcome Y) → and_then o (λ y s. Ok (y, s)) ≡ o
alone (Ok p) = refl
alone (Err e) = refl

pub atom_reads : (s : Standing) (n : Option Seen) → n ≡ next s → reads OfAtom s ≡ run reads (atom_by n) s
unfolding body
atom_reads s n e = reads_is OfAtom s ∙ ap (λ k. run reads (atom_by k) s) (sym e)

pub word_reads : (k : Keyword) (s : Standing) (o : Option Unary) (u : Option Binary) → unary_word k ≡ o → binary_word k ≡ u → reads (AtomOfWord k) s ≡ run reads (atom_of_word_by k o u) s
unfolding body
word_reads k s o u e h = reads_is (AtomOfWord k) s ∙ ap (λ x. run reads (atom_of_word_by k x (binary_word k)) s) e ∙ ap (λ x. run reads (atom_of_word_by k o x) s) h

pub chained_reads : (l : Level) (e : RawExpression) (s : Standing) (o : Option Binary) → operator_at l (next s) ≡ o → reads (Chained l e) s ≡ run reads (chained_by l e o) s
unfolding body
chained_reads l e s o is = reads_is (Chained l e) s ∙ ap (λ x. run reads (chained_by l e x) s) is

pub compared_reads : (e : RawExpression) (s : Standing) (o : Option Binary) → comparison_of (next s) ≡ o → reads (Compared e) s ≡ run reads (compared_by e o) s
unfolding body
compared_reads e s o is = reads_is (Compared e) s ∙ ap (λ x. run reads (compared_by e x) s) is

pub none_operates : (l : Level) → operator_at l None ≡ None
none_operates Disjunction = refl
none_operates Conjunction = refl
none_operates Sum = refl
none_operates Product = refl
none_operates _ = refl

-- one more operator of a chain
pub chained_more : (l k : Level) (e x : RawExpression) (s q : Standing) (o : Binary) → operator_at l (next s) ≡ Some o → k ≡ stronger l → reads (Operation o e k) s ≡ Ok (x, q) → reads (Chained l e) s ≡ reads (Chained l x) q
chained_more l k e x s q o is up read =
    chained_reads l e s (Some o) is ∙ ap (λ z. and_then z (λ y p. and_then (reads (Chained l y) p) (λ w r. Ok (w, r)))) (ap (λ j. reads (Operation o e j) s) (sym up) ∙ read) ∙ alone (reads (Chained l x) q)

pub chained_stops : (l k : Level) (e : RawExpression) (s : Standing) (o : Binary) (h : Halt × _) → operator_at l (next s) ≡ Some o → k ≡ stronger l → reads (Operation o e k) s ≡ Err h → reads (Chained l e) s ≡ Err h
chained_stops l k e s o h is up read =
    chained_reads l e s (Some o) is ∙ ap (λ z. and_then z (λ y p. and_then (reads (Chained l y) p) (λ w r. Ok (w, r)))) (ap (λ j. reads (Operation o e j) s) (sym up) ∙ read)

pub dotted_reads : (es : List RawExpression) (s : Standing) (b : Bool) → is_sign DotSign (next s) ≡ b → reads (Dotted es) s ≡ run reads (dotted_by es b) s
unfolding body
dotted_reads es s b is = reads_is (Dotted es) s ∙ ap (λ x. run reads (dotted_by es x) s) is

pub listed_reads : (l : Level) (es : List RawExpression) (s : Standing) (b : Bool) → is_sign CommaSign (next s) ≡ b → reads (Listed l es) s ≡ run reads (listed_by l es b) s
unfolding body
listed_reads l es s b is = reads_is (Listed l es) s ∙ ap (λ x. run reads (listed_by l es x) s) is

-- one more field, one more item
pub dotted_more : {X : Type 0} (f : X → RawExpression) (xs ys : List X) (x : X) (s q : Standing) → is_sign DotSign (next s) ≡ true → reads (Behind DotSign Atom) s ≡ Ok (f x, q) → ys ≡ xs ++ x ∷ [] →
    reads (Dotted (map f xs)) s ≡ reads (Dotted (map f ys)) q
dotted_more f xs ys x s q at read is =
    dotted_reads (map f xs) s true at ∙ rw read (alone (reads (Dotted (map f xs ++ f x ∷ [])) q)) ∙ ap (λ zs. reads (Dotted zs) q) (sym (ap (map f) is ∙ map-append f xs (x ∷ [])))

pub listed_more : {X : Type 0} (l : Level) (f : X → RawExpression) (xs ys : List X) (x : X) (s q : Standing) → is_sign CommaSign (next s) ≡ true → reads (Behind CommaSign l) s ≡ Ok (f x, q) → ys ≡ xs ++ x ∷ [] →
    reads (Listed l (map f xs)) s ≡ reads (Listed l (map f ys)) q
listed_more l f xs ys x s q at read is =
    listed_reads l (map f xs) s true at ∙ rw read (alone (reads (Listed l (map f xs ++ f x ∷ [])) q)) ∙ ap (λ zs. reads (Listed l zs) q) (sym (ap (map f) is ∙ map-append f xs (x ∷ [])))

pub events_reads : (es : List RawEvent) (s : Standing) (b : Bool) → is_sign CommaSign (next s) ≡ b → reads (EventsBehind es) s ≡ run reads (events_by es b) s
unfolding body
events_reads es s b is = reads_is (EventsBehind es) s ∙ ap (λ x. run reads (events_by es x) s) is

pub events_begin : (s q : Standing) (e : RawEvent) → reads OfEvent s ≡ Ok (e, q) → reads OfEvents s ≡ reads (EventsBehind (e ∷ [])) q
unfolding body
events_begin s q e read = rw (reads_is OfEvents s, read) (alone (reads (EventsBehind (e ∷ [])) q))

pub events_more : {X : Type 0} (f : X → RawEvent) (xs ys : List X) (x : X) (s q p : Standing) → is_sign CommaSign (next s) ≡ true → reads (OfSign CommaSign) s ≡ Ok (tt {0}, q) → reads OfEvent q ≡ Ok (f x, p) → ys ≡ xs ++ x ∷ [] →
    reads (EventsBehind (map f xs)) s ≡ reads (EventsBehind (map f ys)) p
events_more f xs ys x s q p comma sign read is =
    events_reads (map f xs) s true comma ∙ rw (sign, read) (alone (reads (EventsBehind (map f xs ++ f x ∷ [])) p)) ∙ ap (λ zs. reads (EventsBehind zs) p) (sym (ap (map f) is ∙ map-append f xs (x ∷ [])))

pub pairs_reads : (ps : List RawPair) (s : Standing) (b : Bool) → is_sign CommaSign (next s) ≡ b → reads (PairsBehind ps) s ≡ run reads (pairs_by ps b) s
unfolding body
pairs_reads ps s b is = reads_is (PairsBehind ps) s ∙ ap (λ x. run reads (pairs_by ps x) s) is

pub pairs_begin : (s q : Standing) (p : RawPair) → reads OfPair s ≡ Ok (p, q) → reads OfPairs s ≡ reads (PairsBehind (p ∷ [])) q
unfolding body
pairs_begin s q p read = rw (reads_is OfPairs s, read) (alone (reads (PairsBehind (p ∷ [])) q))

pub pairs_more : {X : Type 0} (f : X → RawPair) (xs ys : List X) (x : X) (s q p : Standing) → is_sign CommaSign (next s) ≡ true → reads (OfSign CommaSign) s ≡ Ok (tt {0}, q) → reads OfPair q ≡ Ok (f x, p) → ys ≡ xs ++ x ∷ [] →
    reads (PairsBehind (map f xs)) s ≡ reads (PairsBehind (map f ys)) p
pairs_more f xs ys x s q p comma sign read is =
    pairs_reads (map f xs) s true comma ∙ rw (sign, read) (alone (reads (PairsBehind (map f xs ++ f x ∷ [])) p)) ∙ ap (λ zs. reads (PairsBehind zs) p) (sym (ap (map f) is ∙ map-append f xs (x ∷ [])))

pub event_set_reads : (s : Standing) (b c : Bool) (n : Option Seen) → is_sign OpenProductionsSign (next s) ≡ b → is_sign OpenBraceSign (next s) ≡ c → n ≡ next s → reads OfEventSet s ≡ run reads (event_set_by b c n) s
unfolding body
event_set_reads s b c n e h i =
    reads_is OfEventSet s ∙ ap (λ x. run reads (event_set_by x (is_sign OpenBraceSign (next s)) (next s)) s) e ∙ ap (λ x. run reads (event_set_by b x (next s)) s) h ∙ ap (λ x. run reads (event_set_by b c x) s) (sym i)

pub combined_set_reads : (k : Keyword) (s : Standing) (o : Option (RawEventSet → RawEventSet → RawEventSet)) → set_word k ≡ o → reads (CombinedSet k) s ≡ run reads (combined_by k o) s
unfolding body
combined_set_reads k s o e = reads_is (CombinedSet k) s ∙ ap (λ x. run reads (combined_by k x) s) e

-- whether a field is next
abbrev pub at_field : Standing → Bool
at_field s = is_sign OutputSign (next s) || is_sign InputSign (next s)

pub fields_reads : (fs : List RawField) (s : Standing) (b : Bool) → at_field s ≡ b → reads (FieldsBehind fs) s ≡ run reads (fields_by fs b) s
unfolding body
fields_reads fs s b is = reads_is (FieldsBehind fs) s ∙ ap (λ x. run reads (fields_by fs x) s) is

pub fields_more : {X : Type 0} (f : X → RawField) (xs ys : List X) (x : X) (s q : Standing) → at_field s ≡ true → reads OfField s ≡ Ok (f x, q) → ys ≡ xs ++ x ∷ [] →
    reads (FieldsBehind (map f xs)) s ≡ reads (FieldsBehind (map f ys)) q
fields_more f xs ys x s q at read is =
    fields_reads (map f xs) s true at ∙ rw read (alone (reads (FieldsBehind (map f xs ++ f x ∷ [])) q)) ∙ ap (λ zs. reads (FieldsBehind zs) q) (sym (ap (map f) is ∙ map-append f xs (x ∷ [])))

pub first_holds : (a b : Bool) → a ≡ true → (a || b) ≡ true
first_holds true b e = refl
first_holds false b e = absurd (cc e)

pub second_holds : (a b : Bool) → b ≡ true → (a || b) ≡ true
second_holds true b e = refl
second_holds false b e = e

pub neither_holds : (a b : Bool) → a ≡ false → b ≡ false → (a || b) ≡ false
neither_holds true b e h = absurd (cc e)
neither_holds false b e h = h
