-- Names, events, sets of events, pairs and fields of the grammar are read, whatever their heights.
use Rattle.theory_reader.proofs.SoundExpressions.{seen_sign}
use Rattle.theory_reader.proofs.Laws.{reads_to_is}
use Rattle.theory_reader.proofs.Signs.{is_same_sign, sign_is_seen}
use Rattle.theory_reader.specs.Reader.{combined_by, enumerated_by, event_set_by, events_by, field_by, fields_by, input_by, names_by, pairs_by, set_word, body, is_sign}
use Rattle.theory_text.specs.Raw.{RawEnumeration, RawEvent, RawEventSet, RawExpression, RawExpressions, RawField, RawGiven, RawInput, RawInputFrom, RawName, RawPair, RawProductions}
use Rattle.theory_reader.specs.Programs.{Outcome, Seen, SeenWord, Standing, and_then, run_to, seen}
use Rattle.theory_text.specs.Height.{Nest}
use Rattle.theory_reader.proofs.SoundEvents.{IsPair, Later, one_later, none_later}
use Rattle.theory_text.specs.Token.{BackArrowSign, CloseBraceSign, CloseProductionsSign, CloseRoundSign, ColonSign, CommaSign, DiffWord, DotSign, InputSign, InterWord, Keyword, KeywordToken, OpenBraceSign, OpenProductionsSign, OpenRoundSign, OutputSign, PlacedToken, Sign, SignToken, UnionWord}
use Rattle.theory_reader.specs.Forms.{Atom, CombinedSet, Enumeration, EventSetBehind, EventsBehind, FieldsBehind, Form, NameBehind, NamesBehind, OfEvent, OfEventSet, OfEvents, OfField, OfName, OfNames, OfPair, OfPairs, OfSign, PairsBehind, Productions, Tree, raw_list}
use Rattle.std.proofs.Common.{◌≡◌, ◌∙◌, ℕ, ◌<◌, ◌≤◌, Bool, true, false, List, [], ◌∷◌, ◌++◌, refl, sym, ap, subst, Option, Some, arith, append_assoc, append-nil, inl, inr}
use Rattle.std.proofs.lemmas.Bool.{cases_Bool}
use Rattle.std.specs.Prelude.{◌||◌, Ok}
use Rattle.theory_text.specs.Grammar.{IsName, IsSign, IsEvent, AreEvents, ArePairs, AreNames, IsEventSet, AreLaterFields, IsSetWord, word, name}
use Rattle.theory_reader.proofs.Tightness.{tightness, Stops, stops_at, parts3, parts5, parts6}
use Rattle.theory_reader.proofs.CompleteExpressions.{Tokens, free, Gets, next, Whole, behind_gets, dots_get, gets_name, gets_sign, gets_word, list_back, sign_next, alone, dotted_dots, atom_gets, list_of}
use Rattle.theory_reader.proofs.Local.{at}

-- TOKENS THAT DO NOT STAND BEHIND A FORM

sign_tightness : (s : Sign) (t : PlacedToken) (ts : Tokens) → is_sign s (next (t ∷ ts)) ≡ true → tightness t.token ≡ tightness (SignToken s)
sign_tightness s t ts e = ap tightness (seen_sign t.token s (sign_is_seen s (Some (seen t.token)) e))

-- a sign that would go on does not stand where the form stops
pub not_next : (s : Sign) (k : ℕ) (r : Tokens) → Stops k r → k ≤ tightness (SignToken s) → is_sign s (next r) ≡ false
unfolding is_sign
not_next s k [] stops h = refl
not_next s k (t ∷ ts) stops h = elim (cases_Bool (is_sign s (next (t ∷ ts)))) [
  | inl e ↦ absurd (omega (arith, stops, h, sign_tightness s t ts e))
  | inr e ↦ e
]

pub is_next : (s : Sign) {b : Tokens} → IsSign s b → (r : Tokens) → is_sign s (next (b ++ r)) ≡ true
is_next s k r = sign_next s k s r ∙ is_same_sign s

-- LISTS WITH A SIGN BETWEEN

module _ {X : Type 0} (s : Sign) (Is : Tokens → X → Type 0) (End : Tokens → Type 0) (rd : Standing → Outcome X) (more : List X → Standing → Outcome (List X))
    (stops : (xs : List X) (q : Standing) → is_sign s (next q.left) ≡ false → more xs q ≡ Ok (xs, q))
    (goes : (xs : List X) (q : Standing) → is_sign s (next q.left) ≡ true → more xs q ≡ and_then (free (OfSign s) q) (λ _ p. and_then (rd p) (λ x t. and_then (more (xs ++ x ∷ []) t) (λ y v. Ok (y, v)))))
    (item : (b : Tokens) (x : X) → Is b x → (r : Tokens) → End r → (n : Nest) → Gets (rd (at (b ++ r) n)) x r)
    (ends : (t r : Tokens) → IsSign s t → End (t ++ r)) where
  later_ends : {ts : Tokens} {ys : List X} → Later s Is ts ys → (r : Tokens) → End r → End (ts ++ r)
  later_ends none_later r e = e
  later_ends (one_later a b c x ys k h t) r e = subst End (sym (parts3 a b c r)) (ends a (b ++ (c ++ r)) k)

  later_get : {ts : Tokens} {ys : List X} → Later s Is ts ys → (before : List X) (r : Tokens) → End r → is_sign s (next r) ≡ false → (n : Nest) → Gets (more before (at (ts ++ r) n)) (before ++ ys) r
  later_get none_later before r e last n = (n, stops before (at r n) last ∙ ap (λ z. Ok (z, at r n)) (sym (append-nil before)))
  later_get (one_later a b c x ys k h t) before r e last n =
      let (m, f) = gets_sign s k (b ++ (c ++ r)) n in
      let (i, g) = item b x h (c ++ r) (later_ends t r e) m in
      let (j, l) = later_get t (before ++ x ∷ []) r e last i in (
        j,
        ap (λ z. more before (at z n)) (parts3 a b c r) ∙ goes before (at (a ++ (b ++ (c ++ r))) n) (is_next s k (b ++ (c ++ r)))
            ∙ rw (f, g) (alone (more (before ++ x ∷ []) (at (c ++ r) i))) ∙ l ∙ ap (λ z. Ok (z, at r j)) (append_assoc before (x ∷ []) ys),
      )

  pub list_gets : {b c : Tokens} {x : X} {ys : List X} → Is b x → Later s Is c ys → (r : Tokens) → End r → is_sign s (next r) ≡ false → (n : Nest) →
      Gets (and_then (rd (at ((b ++ c) ++ r) n)) (λ x q. and_then (more (x ∷ []) q) (λ y p. Ok (y, p)))) (x ∷ ys) r
  list_gets {b = b} {c = c} {x = x} h t r e last n =
      let (m, f) = item b x h (c ++ r) (later_ends t r e) n in
      let (k, g) = later_get t (x ∷ []) r e last m in
      (k, ap (λ z. and_then (rd (at z n)) (λ x q. and_then (more (x ∷ []) q) (λ y p. Ok (y, p)))) (append_assoc b c r) ∙ rw f (alone (more (x ∷ []) (at (c ++ r) m))) ∙ g)

-- the first of a list, and the others
pub data FirstOf {X : Type 0} (s : Sign) (Is : Tokens → X → Type 0) : Tokens → List X → Type 0 where
  first_of : (b c : Tokens) (x : X) (ys : List X) → Is b x → Later s Is c ys → FirstOf s Is (b ++ c) (x ∷ ys)

pub one_first : {X : Type 0} (s : Sign) (Is : Tokens → X → Type 0) (a : Tokens) (x : X) → Is a x → FirstOf s Is a (x ∷ [])
one_first s Is a x h = subst (λ z. FirstOf s Is z (x ∷ [])) (append-nil a) (first_of a [] x [] h none_later)

pub more_first : {X : Type 0} (s : Sign) (Is : Tokens → X → Type 0) (a b c : Tokens) (x : X) (xs : List X) → Is a x → IsSign s b → FirstOf s Is c xs → FirstOf s Is (a ++ b ++ c) (x ∷ xs)
more_first s Is a b _ x _ h k (first_of c d y ys i t) =
    subst (λ z. FirstOf s Is z (x ∷ y ∷ ys)) (ap (λ z. a ++ z) (append_assoc b c d) ∙ sym (append_assoc a b (c ++ d))) (first_of a (b ++ c ++ d) x (y ∷ ys) h (one_later b c d y ys k i t))

-- NAMES

names_first : {a : Tokens} {ns : List RawName} → AreNames a ns → FirstOf CommaSign IsName a ns
names_first (AreNames.one_name {a = a} {n = n} h) = one_first CommaSign IsName a n h
names_first (AreNames.more_names {a = a} {b = b} {c = c} {n = n} {ns = ns} h k hs) = more_first CommaSign IsName a b c n ns h k (names_first hs)

names_stop : (ns : List RawName) (q : Standing) → is_sign CommaSign (next q.left) ≡ false → free (NamesBehind ns) q ≡ Ok (ns, q)
unfolding body
names_stop ns q e = reads_to_is false (NamesBehind ns) q ∙ ap (λ b. run_to false free (names_by ns b) q) e

names_go : (ns : List RawName) (q : Standing) → is_sign CommaSign (next q.left) ≡ true →
    free (NamesBehind ns) q ≡ and_then (free (OfSign CommaSign) q) (λ _ p. and_then (free OfName p) (λ x t. and_then (free (NamesBehind (ns ++ x ∷ [])) t) (λ y v. Ok (y, v))))
unfolding body
names_go ns q e = reads_to_is false (NamesBehind ns) q ∙ ap (λ b. run_to false free (names_by ns b) q) e

first_names : {a : Tokens} {ns : List RawName} → FirstOf CommaSign IsName a ns → (r : Tokens) → is_sign CommaSign (next r) ≡ false → (n : Nest) → Gets (free OfNames (at (a ++ r) n)) ns r
unfolding body
first_names (first_of b c x ys h t) r last n =
    let (m, e) = list_gets CommaSign IsName (λ _. Unit {0}) (free OfName) (λ xs. free (NamesBehind xs)) names_stop names_go (λ b x h r _ n. gets_name h r n) (λ t r k. tt {0}) h t r (tt {0}) last n in
    (m, reads_to_is false OfNames (at ((b ++ c) ++ r) n) ∙ e)

pub names_get : {a : Tokens} {ns : List RawName} → AreNames a ns → (r : Tokens) → is_sign CommaSign (next r) ≡ false → (n : Nest) → Gets (free OfNames (at (a ++ r) n)) ns r
names_get hs r last n = first_names (names_first hs) r last n

-- EVENTS

-- no dot is next, and no operator of a product
abbrev pub Undotted : Tokens → Type 0
Undotted r = Stops 12 r × (is_sign DotSign (next r) ≡ false)

pub undotted : (k : ℕ) (r : Tokens) → k ≤ 6 → Stops k r → Undotted r
undotted k r low s = (omega (arith, low, s), not_next DotSign 6 r (omega (arith, low, s)) (omega arith))

pub undotted_at : (s : Sign) (t r : Tokens) → IsSign s t → tightness (SignToken s) < 6 → Undotted (t ++ r)
undotted_at s t r k low = undotted 6 (t ++ r) (omega arith) (stops_at 6 r k low)

list_same : (es : RawExpressions) (n : RawName) → ◌≡◌ {A = RawEvent} (record { channel = n; fields = raw_list (list_of es) }) (record { channel = n; fields = es })
list_same es n = ap (λ z. record { channel = n; fields = z }) (list_back es)

pub event_gets : {a : Tokens} {e : RawEvent} → IsEvent a e → (r : Tokens) → Undotted r → (n : Nest) → Gets (free OfEvent (at (a ++ r) n)) e r
unfolding body
event_gets (IsEvent.event {a = a} {b = b} {n = v} {es = es} h hs) r (s, ends) n =
    let (m, f) = gets_name h (b ++ r) n in
    let (k, g) = dots_get (dotted_dots hs) [] r s ends m in (
      k,
      ap (λ z. free OfEvent (at z n)) (append_assoc a b r) ∙ rw (reads_to_is false OfEvent (at (a ++ (b ++ r)) n), f, g) refl ∙ ap (λ z. Ok (z, at r k)) (list_same es v),
    )

events_first : {a : Tokens} {es : List RawEvent} → AreEvents a es → FirstOf CommaSign IsEvent a es
events_first (AreEvents.one_event {a = a} {e = e} h) = one_first CommaSign IsEvent a e h
events_first (AreEvents.more_events {a = a} {b = b} {c = c} {e = e} {es = es} h k hs) = more_first CommaSign IsEvent a b c e es h k (events_first hs)

events_stop : (es : List RawEvent) (q : Standing) → is_sign CommaSign (next q.left) ≡ false → free (EventsBehind es) q ≡ Ok (es, q)
unfolding body
events_stop es q e = reads_to_is false (EventsBehind es) q ∙ ap (λ b. run_to false free (events_by es b) q) e

events_go : (es : List RawEvent) (q : Standing) → is_sign CommaSign (next q.left) ≡ true →
    free (EventsBehind es) q ≡ and_then (free (OfSign CommaSign) q) (λ _ p. and_then (free OfEvent p) (λ x t. and_then (free (EventsBehind (es ++ x ∷ [])) t) (λ y v. Ok (y, v))))
unfolding body
events_go es q e = reads_to_is false (EventsBehind es) q ∙ ap (λ b. run_to false free (events_by es b) q) e

first_events : {a : Tokens} {es : List RawEvent} → FirstOf CommaSign IsEvent a es → (r : Tokens) → Undotted r → is_sign CommaSign (next r) ≡ false → (n : Nest) → Gets (free OfEvents (at (a ++ r) n)) es r
unfolding body
first_events (first_of b c x ys h t) r s last n =
    let (m, e) = list_gets CommaSign IsEvent Undotted (free OfEvent) (λ xs. free (EventsBehind xs)) events_stop events_go (λ b x h. event_gets h) (λ t r k. undotted_at CommaSign t r k (omega arith)) h t r s last n in
    (m, reads_to_is false OfEvents (at ((b ++ c) ++ r) n) ∙ e)

pub events_get : {a : Tokens} {es : List RawEvent} → AreEvents a es → (r : Tokens) → Undotted r → is_sign CommaSign (next r) ≡ false → (n : Nest) → Gets (free OfEvents (at (a ++ r) n)) es r
events_get hs r s last n = first_events (events_first hs) r s last n

-- PAIRS

pair_gets : (a : Tokens) (p : RawPair) → IsPair a p → (r : Tokens) → Undotted r → (n : Nest) → Gets (free OfPair (at (a ++ r) n)) p r
unfolding body
pair_gets a p (b, c, d, is, h, k, i) r s n =
    let (m, e) = event_gets h (c ++ (d ++ r)) (undotted_at BackArrowSign c (d ++ r) k (omega arith)) n in
    let (j, f) = gets_sign BackArrowSign k (d ++ r) m in
    let (l, g) = event_gets i r s j in
    (l, ap (λ z. free OfPair (at z n)) (ap (λ z. z ++ r) is ∙ parts3 b c d r) ∙ rw (reads_to_is false OfPair (at (b ++ (c ++ (d ++ r))) n), e, f, g) refl)

pairs_first : {a : Tokens} {ps : List RawPair} → ArePairs a ps → FirstOf CommaSign IsPair a ps
pairs_first (ArePairs.one_pair {a = a} {b = b} {c = c} {e = e} {f = f} h k i) = one_first CommaSign IsPair (a ++ b ++ c) (record { from = e; to = f }) (a, b, c, refl, h, k, i)
pairs_first (ArePairs.more_pairs {a = a} {b = b} {c = c} {d = d} {x = x} {e = e} {f = f} {ps = ps} h k i l hs) =
    more_first CommaSign IsPair (a ++ b ++ c) d x (record { from = e; to = f }) ps (a, b, c, refl, h, k, i) l (pairs_first hs)

pairs_stop : (ps : List RawPair) (q : Standing) → is_sign CommaSign (next q.left) ≡ false → free (PairsBehind ps) q ≡ Ok (ps, q)
unfolding body
pairs_stop ps q e = reads_to_is false (PairsBehind ps) q ∙ ap (λ b. run_to false free (pairs_by ps b) q) e

pairs_go : (ps : List RawPair) (q : Standing) → is_sign CommaSign (next q.left) ≡ true →
    free (PairsBehind ps) q ≡ and_then (free (OfSign CommaSign) q) (λ _ p. and_then (free OfPair p) (λ x t. and_then (free (PairsBehind (ps ++ x ∷ [])) t) (λ y v. Ok (y, v))))
unfolding body
pairs_go ps q e = reads_to_is false (PairsBehind ps) q ∙ ap (λ b. run_to false free (pairs_by ps b) q) e

first_pairs : {a : Tokens} {ps : List RawPair} → FirstOf CommaSign IsPair a ps → (r : Tokens) → Undotted r → is_sign CommaSign (next r) ≡ false → (n : Nest) → Gets (free OfPairs (at (a ++ r) n)) ps r
unfolding body
first_pairs (first_of b c x ys h t) r s last n =
    let (m, e) = list_gets CommaSign IsPair Undotted (free OfPair) (λ xs. free (PairsBehind xs)) pairs_stop pairs_go pair_gets (λ t r k. undotted_at CommaSign t r k (omega arith)) h t r s last n in
    (m, reads_to_is false OfPairs (at ((b ++ c) ++ r) n) ∙ e)

pub pairs_get : {a : Tokens} {ps : List RawPair} → ArePairs a ps → (r : Tokens) → Undotted r → is_sign CommaSign (next r) ≡ false → (n : Nest) → Gets (free OfPairs (at (a ++ r) n)) ps r
pairs_get hs r s last n = first_pairs (pairs_first hs) r s last n

-- SETS OF EVENTS

abbrev pub Reads : (f : Form) → Tokens → Tree f → Type 0
Reads f a x = (r : Tokens) (n : Nest) → Gets (free f (at (a ++ r) n)) x r

set_by_next : (q : Standing) (b c : Bool) (k : Option Seen) → is_sign OpenProductionsSign (next q.left) ≡ b → is_sign OpenBraceSign (next q.left) ≡ c → next q.left ≡ k → free OfEventSet q ≡ run_to false free (event_set_by b c k) q
unfolding body
set_by_next q b c k e f g =
    reads_to_is false OfEventSet q ∙ ap (λ x. run_to false free (event_set_by x (is_sign OpenBraceSign (next q.left)) (next q.left)) q) e ∙ ap (λ x. run_to false free (event_set_by b x (next q.left)) q) f
    ∙ ap (λ x. run_to false free (event_set_by b c x) q) g

no_events_get : {a b : Tokens} → IsSign OpenBraceSign a → IsSign CloseBraceSign b → Reads OfEventSet (a ++ b) (RawEnumeration [])
unfolding body is_sign
no_events_get {a = a} {b = b} k l r n =
    let (m, e) = gets_sign OpenBraceSign k (b ++ r) n in
    let (i, f) = gets_sign CloseBraceSign l r m in
    let q = at (a ++ (b ++ r)) n in (
      i,
      ap (λ z. free OfEventSet (at z n)) (append_assoc a b r)
          ∙ set_by_next q false true _ (sign_next OpenBraceSign k OpenProductionsSign (b ++ r)) (is_next OpenBraceSign k (b ++ r)) refl ∙ alone (free Enumeration q)
          ∙ reads_to_is false Enumeration q ∙ ap (λ o. and_then o (λ _ p. run_to false free (enumerated_by (is_sign CloseBraceSign (next p.left))) p)) e
          ∙ ap (λ x. run_to false free (enumerated_by x) (at (b ++ r) m)) (is_next CloseBraceSign l r) ∙ rw f refl,
    )

events_begin_name : {a : Tokens} {es : List RawEvent} → AreEvents a es → (r : Tokens) → is_sign CloseBraceSign (next (a ++ r)) ≡ false
unfolding is_sign
events_begin_name (AreEvents.one_event (IsEvent.event (name t cs e) hs)) r = ap (λ k. is_sign CloseBraceSign (Some (seen k))) e
events_begin_name (AreEvents.more_events (IsEvent.event (name t cs e) hs) k es) r = ap (λ k. is_sign CloseBraceSign (Some (seen k))) e

enumeration_gets : {a b c : Tokens} {es : List RawEvent} → IsSign OpenBraceSign a → AreEvents b es → IsSign CloseBraceSign c → Reads OfEventSet (a ++ b ++ c) (RawEnumeration es)
unfolding body is_sign
enumeration_gets {a = a} {b = b} {c = c} k hs l r n =
    let (m, e) = gets_sign OpenBraceSign k (b ++ (c ++ r)) n in
    let (i, f) = events_get hs (c ++ r) (undotted_at CloseBraceSign c r l (omega arith)) (sign_next CloseBraceSign l CommaSign r) m in
    let (j, g) = gets_sign CloseBraceSign l r i in
    let q = at (a ++ (b ++ (c ++ r))) n in (
      j,
      ap (λ z. free OfEventSet (at z n)) (parts3 a b c r)
          ∙ set_by_next q false true _ (sign_next OpenBraceSign k OpenProductionsSign (b ++ (c ++ r))) (is_next OpenBraceSign k (b ++ (c ++ r))) refl ∙ alone (free Enumeration q)
          ∙ reads_to_is false Enumeration q ∙ ap (λ o. and_then o (λ _ p. run_to false free (enumerated_by (is_sign CloseBraceSign (next p.left))) p)) e
          ∙ ap (λ x. run_to false free (enumerated_by x) (at (b ++ (c ++ r)) m)) (events_begin_name hs (c ++ r)) ∙ rw (f, g) refl,
    )

productions_get : {a b c : Tokens} {es : List RawEvent} → IsSign OpenProductionsSign a → AreEvents b es → IsSign CloseProductionsSign c → Reads OfEventSet (a ++ b ++ c) (RawProductions es)
unfolding body is_sign
productions_get {a = a} {b = b} {c = c} k hs l r n =
    let (m, e) = gets_sign OpenProductionsSign k (b ++ (c ++ r)) n in
    let (i, f) = events_get hs (c ++ r) (undotted_at CloseProductionsSign c r l (omega arith)) (sign_next CloseProductionsSign l CommaSign r) m in
    let (j, g) = gets_sign CloseProductionsSign l r i in
    let q = at (a ++ (b ++ (c ++ r))) n in (
      j,
      ap (λ z. free OfEventSet (at z n)) (parts3 a b c r)
          ∙ set_by_next q true _ _ (is_next OpenProductionsSign k (b ++ (c ++ r))) refl refl ∙ alone (free Productions q)
          ∙ rw (reads_to_is false Productions q, e, f, g) refl,
    )

set_behind_gets : (s : Sign) {a : Tokens} (b : Tokens) (x : RawEventSet) → IsSign s a → Reads OfEventSet b x → (r : Tokens) (n : Nest) → Gets (free (EventSetBehind s) (at (a ++ (b ++ r)) n)) x r
unfolding body
set_behind_gets s {a = a} b x k h r n =
    let (m, e) = gets_sign s k (b ++ r) n in
    let (i, f) = h r m in
    (i, rw (reads_to_is false (EventSetBehind s) (at (a ++ (b ++ r)) n), e, f) refl)

set_word_is : {a : Tokens} {o : RawEventSet → RawEventSet → RawEventSet} → IsSetWord a o → (t : PlacedToken) × (k : Keyword) × (a ≡ t ∷ []) × (t.token ≡ KeywordToken k) × (set_word k ≡ Some o)
set_word_is (IsSetWord.union_of_sets (word t e)) = (t, UnionWord, refl, e, refl)
set_word_is (IsSetWord.inter_of_sets (word t e)) = (t, InterWord, refl, e, refl)
set_word_is (IsSetWord.diff_of_sets (word t e)) = (t, DiffWord, refl, e, refl)

sets_at : (t : PlacedToken) (k : Keyword) (o : RawEventSet → RawEventSet → RawEventSet) → t.token ≡ KeywordToken k → set_word k ≡ Some o → (ts : Tokens) (n : Nest) →
    free OfEventSet (at (t ∷ ts) n) ≡ run_to false free (combined_by k (Some o)) (at (t ∷ ts) n)
unfolding body is_sign
sets_at t k o e is ts n =
    let q = at (t ∷ ts) n in
    set_by_next q false false (Some (SeenWord k)) (ap (λ x. is_sign OpenProductionsSign (Some (seen x))) e) (ap (λ x. is_sign OpenBraceSign (Some (seen x))) e) (ap (λ x. Some (seen x)) e) ∙ alone (free (CombinedSet k) q)
    ∙ reads_to_is false (CombinedSet k) q ∙ ap (λ x. run_to false free (combined_by k x) q) is

joined_gets : (t : PlacedToken) (k : Keyword) {b d y : Tokens} (c x : Tokens) (o : RawEventSet → RawEventSet → RawEventSet) (v w : RawEventSet) → t.token ≡ KeywordToken k → set_word k ≡ Some o → IsSign OpenRoundSign b → Reads OfEventSet c v →
    IsSign CommaSign d → Reads OfEventSet x w → IsSign CloseRoundSign y → (r : Tokens) (n : Nest) → Gets (free OfEventSet (at (t ∷ (b ++ (c ++ (d ++ (x ++ (y ++ r)))))) n)) (o v w) r
joined_gets t k {b = b} {d = d} {y = y} c x o v w e is l h m i j r n =
    let (n1, f1) = gets_word k (word t e) (b ++ (c ++ (d ++ (x ++ (y ++ r))))) n in
    let (n2, f2) = set_behind_gets OpenRoundSign c v l h (d ++ (x ++ (y ++ r))) n1 in
    let (n3, f3) = set_behind_gets CommaSign x w m i (y ++ r) n2 in
    let (n4, f4) = gets_sign CloseRoundSign j r n3 in
    (n4, sets_at t k o e is (b ++ (c ++ (d ++ (x ++ (y ++ r))))) n ∙ rw (f1, f2, f3, f4) refl)

pub set_gets : {a : Tokens} {s : RawEventSet} → IsEventSet a s → Reads OfEventSet a s
set_gets (IsEventSet.no_events k l) = no_events_get k l
set_gets (IsEventSet.events k hs l) = enumeration_gets k hs l
set_gets (IsEventSet.productions k hs l) = productions_get k hs l
set_gets (IsEventSet.of_sets {a = a} {b = b} {c = c} {d = d} {x = x} {y = y} {o = o} {s = v} {t = w} k l h m i j) = λ r n.
    let (t, u, is, e, op) = set_word_is k in
    subst (λ z. Gets (free OfEventSet (at z n)) (o v w) r) (ap (λ z. z ++ (b ++ (c ++ (d ++ (x ++ (y ++ r)))))) (sym is) ∙ sym (parts6 a b c d x y r))
    (joined_gets t u c x o v w e op l (set_gets h) m (set_gets i) j r n)

pub set_after : (s : Sign) {a : Tokens} (b : Tokens) (x : RawEventSet) → IsSign s a → IsEventSet b x → (r : Tokens) (n : Nest) → Gets (free (EventSetBehind s) (at (a ++ (b ++ r)) n)) x r
set_after s b x k h r n = set_behind_gets s b x k (set_gets h) r n

-- FIELDS

abbrev pub at_field : Tokens → Bool
at_field r = is_sign OutputSign (next r) || is_sign InputSign (next r)

-- no field is next, nor what goes on with one
pub record Fieldless (r : Tokens) : Type 0 where
  pub output : is_sign OutputSign (next r) ≡ false
  pub input : is_sign InputSign (next r) ≡ false
  pub colon : is_sign ColonSign (next r) ≡ false
  pub loose : Stops 12 r

fields_by_next : (fs : List RawField) (q : Standing) (b : Bool) → at_field q.left ≡ b → free (FieldsBehind fs) q ≡ run_to false free (fields_by fs b) q
unfolding body
fields_by_next fs q b e = reads_to_is false (FieldsBehind fs) q ∙ ap (λ x. run_to false free (fields_by fs x) q) e

field_by_next : (q : Standing) (b : Bool) → is_sign OutputSign (next q.left) ≡ b → free OfField q ≡ run_to false free (field_by b) q
unfolding body
field_by_next q b e = reads_to_is false OfField q ∙ ap (λ x. run_to false free (field_by x) q) e

no_fields_next : (r : Tokens) → Fieldless r → at_field r ≡ false
no_fields_next r f = rw (f.output, f.input) refl

output_next : {b : Tokens} → IsSign OutputSign b → (r : Tokens) → at_field (b ++ r) ≡ true
output_next k r = rw (is_next OutputSign k r) refl

pub or_true : (b : Bool) → (b || true) ≡ true
or_true true = refl
or_true false = refl

input_next : {b : Tokens} → IsSign InputSign b → (r : Tokens) → at_field (b ++ r) ≡ true
input_next {b = b} k r = ap (λ x. is_sign OutputSign (next (b ++ r)) || x) (is_next InputSign k r) ∙ or_true (is_sign OutputSign (next (b ++ r)))

-- behind later fields no colon is next
not_colon : {c : Tokens} {fs : List RawField} → AreLaterFields c fs → (r : Tokens) → Fieldless r → is_sign ColonSign (next (c ++ r)) ≡ false
unfolding is_sign
not_colon AreLaterFields.no_fields r f = f.colon
not_colon (AreLaterFields.output {a = a} {b = b} {c = c} k h t) r f = ap (λ z. is_sign ColonSign (next z)) (parts3 a b c r) ∙ sign_next OutputSign k ColonSign (b ++ (c ++ r))
not_colon (AreLaterFields.input {a = a} {b = b} {c = c} k h t) r f = ap (λ z. is_sign ColonSign (next z)) (parts3 a b c r) ∙ sign_next InputSign k ColonSign (b ++ (c ++ r))
not_colon (AreLaterFields.input_from {a = a} {b = b} {c = c} {d = d} {x = x} k h l i t) r f = ap (λ z. is_sign ColonSign (next z)) (parts5 a b c d x r) ∙ sign_next InputSign k ColonSign (b ++ (c ++ (d ++ (x ++ r))))

pub later_loose : {c : Tokens} {fs : List RawField} → AreLaterFields c fs → (r : Tokens) → Fieldless r → Stops 12 (c ++ r)
later_loose AreLaterFields.no_fields r f = f.loose
later_loose (AreLaterFields.output {a = a} {b = b} {c = c} k h t) r f = subst (Stops 12) (sym (parts3 a b c r)) (stops_at 12 (b ++ (c ++ r)) k (omega arith))
later_loose (AreLaterFields.input {a = a} {b = b} {c = c} k h t) r f = subst (Stops 12) (sym (parts3 a b c r)) (stops_at 12 (b ++ (c ++ r)) k (omega arith))
later_loose (AreLaterFields.input_from {a = a} {b = b} {c = c} {d = d} {x = x} k h l i t) r f = subst (Stops 12) (sym (parts5 a b c d x r)) (stops_at 12 (b ++ (c ++ (d ++ (x ++ r)))) k (omega arith))

output_gets : {a : Tokens} (b : Tokens) (e : RawExpression) → IsSign OutputSign a → Whole Atom b e → (r : Tokens) → Stops 12 r → (n : Nest) → Gets (free OfField (at (a ++ (b ++ r)) n)) (RawGiven e) r
output_gets {a = a} b e k h r s n =
    let (m, f) = behind_gets OutputSign Atom b e k h r s n in
    (m, field_by_next (at (a ++ (b ++ r)) n) true (is_next OutputSign k (b ++ r)) ∙ rw f refl)

named_input : {a b : Tokens} {v : RawName} → IsSign InputSign a → IsName b v → (r : Tokens) (n : Nest) → Gets (free (NameBehind InputSign) (at (a ++ (b ++ r)) n)) v r
unfolding body
named_input {a = a} {b = b} k h r n =
    let (m, e) = gets_sign InputSign k (b ++ r) n in
    let (i, f) = gets_name h r m in
    (i, rw (reads_to_is false (NameBehind InputSign) (at (a ++ (b ++ r)) n), e, f) refl)

input_field : {a b : Tokens} {v : RawName} → IsSign InputSign a → IsName b v → (r : Tokens) → (n : Nest) (m : Nest) (c : Bool) → free (NameBehind InputSign) (at (a ++ (b ++ r)) n) ≡ Ok (v, at r m) → is_sign ColonSign (next r) ≡ c →
    free OfField (at (a ++ (b ++ r)) n) ≡ run_to false free (input_by v c) (at r m)
unfolding is_sign
input_field {a = a} {b = b} {v = v} k h r n m c e is =
    field_by_next (at (a ++ (b ++ r)) n) false (sign_next InputSign k OutputSign (b ++ r)) ∙ ap (λ o. and_then o (λ w p. run_to false free (input_by w (is_sign ColonSign (next p.left))) p)) e ∙ ap (λ x. run_to false free (input_by v x) (at r m)) is

-- one more field
one_field : (fs : List RawField) (ts r : Tokens) (n m : Nest) (f : RawField) → at_field ts ≡ true → free OfField (at ts n) ≡ Ok (f, at r m) → free (FieldsBehind fs) (at ts n) ≡ free (FieldsBehind (fs ++ f ∷ [])) (at r m)
one_field fs ts r n m f is e = fields_by_next fs (at ts n) true is ∙ rw e (alone (free (FieldsBehind (fs ++ f ∷ [])) (at r m)))

pub later_fields_get : {c : Tokens} {fs : List RawField} → AreLaterFields c fs → (before : List RawField) (r : Tokens) → Fieldless r → (n : Nest) → Gets (free (FieldsBehind before) (at (c ++ r) n)) (before ++ fs) r
later_fields_get AreLaterFields.no_fields before r f n = (n, fields_by_next before (at r n) false (no_fields_next r f) ∙ ap (λ z. Ok (z, at r n)) (sym (append-nil before)))
later_fields_get (AreLaterFields.output {a = a} {b = b} {c = c} {e = e} {fs = fs} k h t) before r f n =
    let (m, g) = output_gets b e k (atom_gets h) (c ++ r) (later_loose t r f) n in
    let (i, l) = later_fields_get t (before ++ RawGiven e ∷ []) r f m in (
      i,
      ap (λ z. free (FieldsBehind before) (at z n)) (parts3 a b c r) ∙ one_field before (a ++ (b ++ (c ++ r))) (c ++ r) n m (RawGiven e) (output_next k (b ++ (c ++ r))) g ∙ l ∙ ap (λ z. Ok (z, at r i)) (append_assoc before (RawGiven e ∷ []) fs),
    )
later_fields_get (AreLaterFields.input {a = a} {b = b} {c = c} {n = v} {fs = fs} k h t) before r f n =
    let (m, g) = named_input k h (c ++ r) n in
    let field = input_field k h (c ++ r) n m false g (not_colon t r f) in
    let (i, l) = later_fields_get t (before ++ RawInput v ∷ []) r f m in (
      i,
      ap (λ z. free (FieldsBehind before) (at z n)) (parts3 a b c r) ∙ one_field before (a ++ (b ++ (c ++ r))) (c ++ r) n m (RawInput v) (input_next k (b ++ (c ++ r))) field ∙ l ∙ ap (λ z. Ok (z, at r i)) (append_assoc before (RawInput v ∷ []) fs),
    )
later_fields_get (AreLaterFields.input_from {a = a} {b = b} {c = c} {d = d} {x = x} {n = v} {e = e} {fs = fs} k h l i t) before r f n =
    let (m, g) = named_input k h (c ++ (d ++ (x ++ r))) n in
    let (j, o) = behind_gets ColonSign Atom d e l (atom_gets i) (x ++ r) (later_loose t r f) m in
    let field = input_field k h (c ++ (d ++ (x ++ r))) n m true g (is_next ColonSign l (d ++ (x ++ r))) ∙ rw o refl in
    let (p, q) = later_fields_get t (before ++ RawInputFrom v e ∷ []) r f j in (
      p,
      ap (λ z. free (FieldsBehind before) (at z n)) (parts5 a b c d x r) ∙ one_field before (a ++ (b ++ (c ++ (d ++ (x ++ r))))) (x ++ r) n j (RawInputFrom v e) (input_next k (b ++ (c ++ (d ++ (x ++ r))))) field ∙ q
          ∙ ap (λ z. Ok (z, at r p)) (append_assoc before (RawInputFrom v e ∷ []) fs),
    )
