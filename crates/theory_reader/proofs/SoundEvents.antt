-- What is read as an event, a set of events, a pair, a field is one, and where reading stops the tokens that are passed begin one.
use Rattle.std.proofs.Common.{◌≡◌, ◌∙◌, Bool, true, false, List, [], ◌∷◌, ◌++◌, refl, sym, ap, subst, Option, Some, None, append_assoc, append-nil}
use Rattle.std.specs.Prelude.{option_map, Ok, Err}
use Rattle.theory_text.specs.Place.{first_place}
use Rattle.theory_text.specs.Token.{Keyword, Sign, UnionWord, InterWord, DiffWord, CommaSign, OpenRoundSign, CloseRoundSign, OpenBraceSign, CloseBraceSign, BackArrowSign, OpenProductionsSign, CloseProductionsSign, OutputSign, InputSign, ColonSign}
use Rattle.theory_text.specs.Raw.{RawName, RawExpression, RawNumber, RawEvent, RawEventSet, RawEnumeration, RawProductions, RawEventUnion, RawEventIntersection, RawEventDifference, RawPair, RawField, RawGiven, RawInput, RawInputFrom}
use Rattle.theory_text.specs.Grammar.{IsWord, IsSign, IsName, IsAtom, AreDotted, IsEvent, AreEvents, ArePairs, IsEventSet, IsSetWord, AreLaterFields, AreNames}
use Rattle.theory_reader.specs.Forms.{Atom, OfSign, OfWord, OfName, NameBehind, Behind, Dotted, raw_list, OfEvent, OfEvents, EventsBehind, OfPair, PairsBehind, OfEventSet, EventSetBehind, Productions, Enumeration, CombinedSet, OfField, FieldsBehind, NamesBehind}
use Rattle.theory_reader.specs.Programs.{SeenWord, seen_of, first, Standing, Outcome, Here, and_then, give, form, ◌>>=◌, ◌>>◌, Oracle, run_to, Seen}
use Rattle.theory_reader.specs.Reader.{is_sign, body, events_by, set_word, pairs_by, event_set_by, enumerated_by, combined_by, input_by, field_by, fields_by, names_by}
use Rattle.theory_reader.proofs.SoundExpressions.{Tokens, Says, says_then, says_last, Pair, placed_sign, placed_number, placed_name, a_name, a_sign, zero_atom, SaysSigns, SaysWords, SaysBehind, Fields, SaysDots}

-- LISTS WITH A SIGN BETWEEN

-- more items, each behind the sign
pub data Later {X : Type 0} (s : Sign) (Is : Tokens → X → Type 0) : Tokens → List X → Type 0 where
  none_later : Later s Is [] []
  one_later : (a b c : Tokens) (x : X) (xs : List X) → IsSign s a → Is b x → Later s Is c xs → Later s Is (a ++ b ++ c) (x ∷ xs)

abbrev pub AddsLater : {X : Type 0} → Sign → (Tokens → X → Type 0) → List X → Tokens → List X → Type 0
AddsLater {X} s Is es ts xs = (ys : List X) × (xs ≡ es ++ ys) × Later s Is ts ys

pub single : {X : Type 0} (s : Sign) (Is : Tokens → X → Type 0) (a b : Tokens) (x : X) → IsSign s a → Is b x → Later s Is (a ++ b) (x ∷ [])
single s Is a b x k h = subst (λ z. Later s Is z (x ∷ [])) (append-nil (a ++ b)) (one_later a b [] x [] k h none_later)

-- the first item, and more
pub says_list : {X : Type 0} (s : Sign) (Is : Tokens → X → Type 0) (AreAll : Tokens → List X → Type 0) → ((a c : Tokens) (x : X) (ys : List X) → Is a x → Later s Is c ys → AreAll (a ++ c) (x ∷ ys)) →
    (ts : Tokens) (o : Outcome X) (f : X → Standing → Outcome (List X)) → Says Is ts o → ((x : X) (p : Standing) → Says (AddsLater s Is (x ∷ [])) p.left (f x p)) → Says AreAll ts (and_then o (λ x p. and_then (f x p) (λ y r. Ok (y, r))))
says_list s Is AreAll makes ts o f first more =
    says_then Is AreAll [] ts o (λ x p. and_then (f x p) (λ y r. Ok (y, r))) first
    (λ x a h. ([], x ∷ [], makes a [] x [] h none_later))
    (λ x a p h. says_last (AddsLater s Is (x ∷ [])) AreAll (λ y. y) a p.left (f x p) (more x p) (λ y c (ys, is, t). subst (λ z. AreAll (a ++ c) z) (sym is) (makes a c x ys h t)))

-- the sign, one more item, and more; there are such an item and a sign
pub says_more : {X : Type 0} (s : Sign) (Is : Tokens → X → Type 0) (es : List X) (d : Tokens) (i : X) → Is d i → (ts : Tokens) (o : Outcome (Unit {0})) (f : Standing → Outcome X) (g : X → Standing → Outcome (List X)) →
    Says (λ us _. IsSign s us) ts o → ((p : Standing) → Says Is p.left (f p)) → ((x : X) (p : Standing) → Says (AddsLater s Is (es ++ x ∷ [])) p.left (g x p)) →
    Says (AddsLater s Is es) ts (and_then o (λ _ p. and_then (f p) (λ x r. and_then (g x r) (λ y t. Ok (y, t)))))
says_more s Is es d i item ts o f g signed items more =
    says_then (λ us _. IsSign s us) (AddsLater s Is es) [] ts o (λ _ p. and_then (f p) (λ x r. and_then (g x r) (λ y t. Ok (y, t)))) signed
    (λ _ a k. (d, es ++ i ∷ [], (i ∷ [], refl, single s Is a d i k item)))
    (λ _ a p k. says_then Is (AddsLater s Is es) a p.left (f p) (λ x r. and_then (g x r) (λ y t. Ok (y, t))) (items p)
    (λ x b h. ([], es ++ x ∷ [], (x ∷ [], refl, subst (λ z. Later s Is z (x ∷ [])) (sym (append-nil (a ++ b))) (single s Is a b x k h))))
    (λ x b q h. says_last (AddsLater s Is (es ++ x ∷ [])) (AddsLater s Is es) (λ y. y) (a ++ b) q.left (g x q) (more x q)
    (λ y c (ys, is, t). (x ∷ ys, is ∙ append_assoc es (x ∷ []) ys, one_later a b c x ys k h t))))

-- EVENTS

pub events_of : (a c : Tokens) (e : RawEvent) (ys : List RawEvent) → IsEvent a e → Later CommaSign IsEvent c ys → AreEvents (a ++ c) (e ∷ ys)
events_of a [] e [] h none_later = subst (λ z. AreEvents z (e ∷ [])) (sym (append-nil a)) (AreEvents.one_event h)
events_of a _ e _ h (one_later b d c f ys k i t) =
    subst (λ z. AreEvents z (e ∷ f ∷ ys)) (append_assoc a b (d ++ c) ∙ ap (λ z. a ++ z) (sym (append_assoc b d c))) (AreEvents.more_events h k (events_of d c f ys i t))

pub bare_event : (a : Tokens) (v : RawName) → IsName a v → IsEvent a (record { channel = v; fields = raw_list [] })
bare_event a v h = subst (λ z. IsEvent z (record { channel = v; fields = raw_list [] })) (append-nil a) (IsEvent.event h AreDotted.no_dotted)

pub says_event : (limited : Bool) (u : Oracle) → ((q : Standing) → Says IsName q.left (u OfName q)) → SaysDots u → (q : Standing) → Says IsEvent q.left (run_to limited u (body OfEvent) q)
unfolding body
says_event limited u names dots q =
    says_then IsName IsEvent [] q.left (u OfName q) (λ v. run_to limited u (form (Dotted []) >>= λ fs. give (record { channel = v; fields = raw_list fs }))) (names q)
    (λ v a h. ([], record { channel = v; fields = raw_list [] }, subst (λ z. IsEvent z (record { channel = v; fields = raw_list [] })) (sym (append-nil a)) (bare_event a v h)))
    (λ v a p h. says_last (Fields p.left []) IsEvent (λ fs. record { channel = v; fields = raw_list fs }) a p.left (u (Dotted []) p) (dots [] p)
    (λ xs d (ys, is, t, some). subst (λ z. IsEvent (a ++ d) (record { channel = v; fields = raw_list z })) (sym is) (IsEvent.event h t)))

pub a_raw_event : RawEvent
a_raw_event = record { channel = record { spelling = []; place = first_place }; fields = raw_list [] }

pub an_event : IsEvent (placed_name ∷ []) a_raw_event
unfolding a_raw_event
an_event = bare_event (placed_name ∷ []) (record { spelling = []; place = first_place }) a_name

pub events_from : (limited : Bool) (u : Oracle) (es : List RawEvent) → SaysSigns u → ((q : Standing) → Says IsEvent q.left (u OfEvent q)) → ((es : List RawEvent) (q : Standing) → Says (AddsLater CommaSign IsEvent es) q.left (u (EventsBehind es) q)) →
    (q : Standing) (b : Bool) → Says (AddsLater CommaSign IsEvent es) q.left (run_to limited u (events_by es b) q)
events_from limited u es signs events behinds q false = ([], refl, ([], sym (append-nil es), none_later))
events_from limited u es signs events behinds q true = says_more CommaSign IsEvent es (placed_name ∷ []) a_raw_event an_event q.left (u (OfSign CommaSign) q) (u OfEvent) (λ e. u (EventsBehind (es ++ e ∷ []))) (signs CommaSign q) events (λ e. behinds (es ++ e ∷ []))

-- NAMES

pub names_of : (a c : Tokens) (n : RawName) (ys : List RawName) → IsName a n → Later CommaSign IsName c ys → AreNames (a ++ c) (n ∷ ys)
names_of a [] n [] h none_later = subst (λ z. AreNames z (n ∷ [])) (sym (append-nil a)) (AreNames.one_name h)
names_of a _ n _ h (one_later b d c m ys k i t) =
    subst (λ z. AreNames z (n ∷ m ∷ ys)) (append_assoc a b (d ++ c) ∙ ap (λ z. a ++ z) (sym (append_assoc b d c))) (AreNames.more_names h k (names_of d c m ys i t))

pub names_from : (limited : Bool) (u : Oracle) (ns : List RawName) → SaysSigns u → ((q : Standing) → Says IsName q.left (u OfName q)) → ((ns : List RawName) (q : Standing) → Says (AddsLater CommaSign IsName ns) q.left (u (NamesBehind ns) q)) →
    (q : Standing) (b : Bool) → Says (AddsLater CommaSign IsName ns) q.left (run_to limited u (names_by ns b) q)
names_from limited u ns signs names behinds q false = ([], refl, ([], sym (append-nil ns), none_later))
names_from limited u ns signs names behinds q true = says_more CommaSign IsName ns (placed_name ∷ []) (record { spelling = []; place = first_place }) a_name q.left (u (OfSign CommaSign) q) (u OfName) (λ n. u (NamesBehind (ns ++ n ∷ []))) (signs CommaSign q) names (λ n. behinds (ns ++ n ∷ []))

-- PAIRS

abbrev pub IsPair : Tokens → RawPair → Type 0
IsPair ts p = (a : Tokens) × (b : Tokens) × (c : Tokens) × (ts ≡ (a ++ b) ++ c) × IsEvent a p.from × IsSign BackArrowSign b × IsEvent c p.to

pub a_pair : IsPair (placed_name ∷ placed_sign BackArrowSign ∷ placed_name ∷ []) (record { from = a_raw_event; to = a_raw_event })
a_pair = (placed_name ∷ [], placed_sign BackArrowSign ∷ [], placed_name ∷ [], refl, an_event, a_sign BackArrowSign, an_event)

pub pairs_of : (a c : Tokens) (p : RawPair) (ys : List RawPair) → IsPair a p → Later CommaSign IsPair c ys → ArePairs (a ++ c) (p ∷ ys)
pairs_of a [] p [] (x, y, z, is, h, k, i) none_later = subst (λ w. ArePairs w (p ∷ [])) (sym (append-nil a ∙ is)) (ArePairs.one_pair h k i)
pairs_of a _ p _ (x, y, z, is, h, k, i) (one_later d b c f ys l j t) =
    subst (λ w. ArePairs w (p ∷ f ∷ ys)) (sym (ap (λ w. w ++ (d ++ b ++ c)) is ∙ ap (λ w. (x ++ y ++ z) ++ w) (append_assoc d b c) ∙ sym (append_assoc (x ++ y ++ z) d (b ++ c)))) (ArePairs.more_pairs h k i l (pairs_of b c f ys j t))

pub says_pair : (limited : Bool) (u : Oracle) → SaysSigns u → ((q : Standing) → Says IsEvent q.left (u OfEvent q)) → (q : Standing) → Says IsPair q.left (run_to limited u (body OfPair) q)
unfolding body
says_pair limited u signs events q =
    says_then IsEvent IsPair [] q.left (u OfEvent q) (λ e. run_to limited u (form (OfSign BackArrowSign) >>= λ _. form OfEvent >>= λ f. give (record { from = e; to = f }))) (events q)
    (λ e a h. (
      placed_sign BackArrowSign ∷ placed_name ∷ [],
      record { from = e; to = a_raw_event },
      (a, placed_sign BackArrowSign ∷ [], placed_name ∷ [], sym (append_assoc a (placed_sign BackArrowSign ∷ []) (placed_name ∷ [])), h, a_sign BackArrowSign, an_event),
    ))
    (λ e a p h. says_then (λ ts _. IsSign BackArrowSign ts) IsPair a p.left (u (OfSign BackArrowSign) p) (λ _. run_to limited u (form OfEvent >>= λ f. give (record { from = e; to = f }))) (signs BackArrowSign p)
    (λ _ b k. (placed_name ∷ [], record { from = e; to = a_raw_event }, (a, b, placed_name ∷ [], refl, h, k, an_event)))
    (λ _ b o k. says_last IsEvent IsPair (λ f. record { from = e; to = f }) (a ++ b) o.left (u OfEvent o) (events o) (λ f c i. (a, b, c, refl, h, k, i))))

pub pairs_from : (limited : Bool) (u : Oracle) (ps : List RawPair) → SaysSigns u → ((q : Standing) → Says IsPair q.left (u OfPair q)) → ((ps : List RawPair) (q : Standing) → Says (AddsLater CommaSign IsPair ps) q.left (u (PairsBehind ps) q)) →
    (q : Standing) (b : Bool) → Says (AddsLater CommaSign IsPair ps) q.left (run_to limited u (pairs_by ps b) q)
pairs_from limited u ps signs pairs behinds q false = ([], refl, ([], sym (append-nil ps), none_later))
pairs_from limited u ps signs pairs behinds q true =
    says_more CommaSign IsPair ps (placed_name ∷ placed_sign BackArrowSign ∷ placed_name ∷ []) (record { from = a_raw_event; to = a_raw_event }) a_pair q.left (u (OfSign CommaSign) q) (u OfPair) (λ p. u (PairsBehind (ps ++ p ∷ []))) (signs CommaSign q) pairs (λ p. behinds (ps ++ p ∷ []))

-- SETS OF EVENTS

pub no_events_set : IsEventSet (placed_sign OpenBraceSign ∷ placed_sign CloseBraceSign ∷ []) (RawEnumeration [])
no_events_set = IsEventSet.no_events (a_sign OpenBraceSign) (a_sign CloseBraceSign)

pub no_set_yet : (ts : Tokens) → Says IsEventSet ts (Err (Here, ts))
no_set_yet ts = ([], refl, (placed_sign OpenBraceSign ∷ placed_sign CloseBraceSign ∷ [], RawEnumeration [], no_events_set))

pub event_set_says : (limited : Bool) (u : Oracle) → ((q : Standing) → Says IsEventSet q.left (u Productions q)) → ((q : Standing) → Says IsEventSet q.left (u Enumeration q)) → ((k : Keyword) (q : Standing) → Says IsEventSet q.left (u (CombinedSet k) q)) →
    (q : Standing) (b c : Bool) (n : Option Seen) → Says IsEventSet q.left (run_to limited u (event_set_by b c n) q)
event_set_says limited u productions enumerations combined q true c n = says_last IsEventSet IsEventSet (λ x. x) [] q.left (u Productions q) (productions q) (λ x c h. h)
event_set_says limited u productions enumerations combined q false true n = says_last IsEventSet IsEventSet (λ x. x) [] q.left (u Enumeration q) (enumerations q) (λ x c h. h)
event_set_says limited u productions enumerations combined q false false (Some (SeenWord k)) = says_last IsEventSet IsEventSet (λ x. x) [] q.left (u (CombinedSet k) q) (combined k q) (λ x c h. h)
event_set_says limited u productions enumerations combined q false false _ = no_set_yet q.left

pub says_set_behind : (limited : Bool) (u : Oracle) (s : Sign) → SaysSigns u → ((q : Standing) → Says IsEventSet q.left (u OfEventSet q)) → (q : Standing) → Says (Pair (IsSign s) IsEventSet) q.left (run_to limited u (body (EventSetBehind s)) q)
unfolding body
says_set_behind limited u s signs sets q =
    says_then (λ ts _. IsSign s ts) (Pair (IsSign s) IsEventSet) [] q.left (u (OfSign s) q) (λ _. run_to limited u (form OfEventSet)) (signs s q)
    (λ _ c h. (placed_sign OpenBraceSign ∷ placed_sign CloseBraceSign ∷ [], RawEnumeration [], (c, placed_sign OpenBraceSign ∷ placed_sign CloseBraceSign ∷ [], refl, h, no_events_set)))
    (λ _ a p h. says_last IsEventSet (Pair (IsSign s) IsEventSet) (λ e. e) a p.left (u OfEventSet p) (sets p) (λ e b k. (a, b, refl, h, k)))

-- events between two signs
pub events_between : (limited : Bool) (u : Oracle) (s t : Sign) (make : List RawEvent → RawEventSet) → ((a b c : Tokens) (es : List RawEvent) → IsSign s a → AreEvents b es → IsSign t c → IsEventSet (a ++ b ++ c) (make es)) → SaysSigns u →
    ((q : Standing) → Says AreEvents q.left (u OfEvents q)) → (a : Tokens) (p : Standing) → IsSign s a → Says IsEventSet (a ++ p.left) (run_to limited u (form OfEvents >>= λ es. (form (OfSign t) >> give (make es))) p)
events_between limited u s t make makes signs events a p k =
    says_then AreEvents IsEventSet a p.left (u OfEvents p) (λ es. run_to limited u (form (OfSign t) >> give (make es))) (events p)
    (λ es b h. (placed_sign t ∷ [], make es, makes a b (placed_sign t ∷ []) es k h (a_sign t)))
    (λ es b o h. says_last (λ ts _. IsSign t ts) IsEventSet (λ _. make es) (a ++ b) o.left (u (OfSign t) o) (signs t o) (λ _ c l. makes a b c es k h l))

pub says_productions : (limited : Bool) (u : Oracle) → SaysSigns u → ((q : Standing) → Says AreEvents q.left (u OfEvents q)) → (q : Standing) → Says IsEventSet q.left (run_to limited u (body Productions) q)
unfolding body
says_productions limited u signs events q =
    says_then (λ ts _. IsSign OpenProductionsSign ts) IsEventSet [] q.left (u (OfSign OpenProductionsSign) q) (λ _. run_to limited u (form OfEvents >>= λ es. (form (OfSign CloseProductionsSign) >> give (RawProductions es)))) (signs OpenProductionsSign q)
    (λ _ a k. (placed_name ∷ placed_sign CloseProductionsSign ∷ [], RawProductions (a_raw_event ∷ []), subst (λ z. IsEventSet z (RawProductions (a_raw_event ∷ []))) (append_assoc a (placed_name ∷ []) (placed_sign CloseProductionsSign ∷ [])) (IsEventSet.productions k (AreEvents.one_event an_event) (a_sign CloseProductionsSign))))
    (λ _ a p k. events_between limited u OpenProductionsSign CloseProductionsSign RawProductions (λ a b c es. IsEventSet.productions) signs events a p k)

pub enumerated_says : (limited : Bool) (u : Oracle) → SaysSigns u → ((q : Standing) → Says AreEvents q.left (u OfEvents q)) → (a : Tokens) (p : Standing) → IsSign OpenBraceSign a → (b : Bool) → Says IsEventSet (a ++ p.left) (run_to limited u (enumerated_by b) p)
enumerated_says limited u signs events a p k true = says_last (λ ts _. IsSign CloseBraceSign ts) IsEventSet (λ _. RawEnumeration []) a p.left (u (OfSign CloseBraceSign) p) (signs CloseBraceSign p) (λ _ c l. IsEventSet.no_events k l)
enumerated_says limited u signs events a p k false = events_between limited u OpenBraceSign CloseBraceSign RawEnumeration (λ a b c es. IsEventSet.events) signs events a p k

pub says_enumeration : (limited : Bool) (u : Oracle) → SaysSigns u → ((q : Standing) → Says AreEvents q.left (u OfEvents q)) → (q : Standing) → Says IsEventSet q.left (run_to limited u (body Enumeration) q)
unfolding body
says_enumeration limited u signs events q =
    says_then (λ ts _. IsSign OpenBraceSign ts) IsEventSet [] q.left (u (OfSign OpenBraceSign) q) (λ _ p. run_to limited u (enumerated_by (is_sign CloseBraceSign (option_map seen_of (first p.left)))) p) (signs OpenBraceSign q)
    (λ _ a k. (placed_sign CloseBraceSign ∷ [], RawEnumeration [], IsEventSet.no_events k (a_sign CloseBraceSign)))
    (λ _ a p k. enumerated_says limited u signs events a p k (is_sign CloseBraceSign (option_map seen_of (first p.left))))

pub set_makes : (k : Keyword) (o : RawEventSet → RawEventSet → RawEventSet) (a : Tokens) → set_word k ≡ Some o → IsWord k a → IsSetWord a o
set_makes UnionWord o a e w = let same : RawEventUnion ≡ o = cc e in subst (IsSetWord a) same (IsSetWord.union_of_sets w)
set_makes InterWord o a e w = let same : RawEventIntersection ≡ o = cc e in subst (IsSetWord a) same (IsSetWord.inter_of_sets w)
set_makes DiffWord o a e w = let same : RawEventDifference ≡ o = cc e in subst (IsSetWord a) same (IsSetWord.diff_of_sets w)
set_makes _ o a e w = absurd (cc e)

pub sets_joined : (a e f y : Tokens) (o : RawEventSet → RawEventSet → RawEventSet) (s t : RawEventSet) → IsSetWord a o → Pair (IsSign OpenRoundSign) IsEventSet e s → Pair (IsSign CommaSign) IsEventSet f t → IsSign CloseRoundSign y → IsEventSet (((a ++ e) ++ f) ++ y) (o s t)
sets_joined a e f y o s t w (b, c, is, k, h) (d, x, same, l, i) m =
    subst (λ z. IsEventSet z (o s t))
    (sym (ap (λ z. a ++ z ++ f ++ y) is ∙ ap (λ z. z ++ f ++ y) (sym (append_assoc a b c)) ∙ ap (λ z. (a ++ b ++ c) ++ z ++ y) same ∙ ap (λ z. z ++ y) (sym (append_assoc (a ++ b ++ c) d x))))
    (IsEventSet.of_sets w k h l i m)

pub combined_says : (limited : Bool) (u : Oracle) → SaysSigns u → SaysWords u → ((s : Sign) (q : Standing) → Says (Pair (IsSign s) IsEventSet) q.left (u (EventSetBehind s) q)) →
    (k : Keyword) (q : Standing) (o : Option (RawEventSet → RawEventSet → RawEventSet)) → set_word k ≡ o → Says IsEventSet q.left (run_to limited u (combined_by k o) q)
combined_says limited u signs words behinds k q None e = no_set_yet q.left
combined_says limited u signs words behinds k q (Some o) e =
    let two : Tokens = placed_sign OpenBraceSign ∷ placed_sign CloseBraceSign ∷ [] in
    let none : RawEventSet = RawEnumeration [] in
    says_then (λ ts _. IsWord k ts) IsEventSet [] q.left (u (OfWord k) q) (λ _. run_to limited u (form (EventSetBehind OpenRoundSign) >>= λ s. form (EventSetBehind CommaSign) >>= λ t. (form (OfSign CloseRoundSign) >> give (o s t)))) (words k q)
    (λ _ a w. (
      placed_sign OpenRoundSign ∷ placed_sign OpenBraceSign ∷ placed_sign CloseBraceSign ∷ placed_sign CommaSign ∷ placed_sign OpenBraceSign ∷ placed_sign CloseBraceSign ∷ placed_sign CloseRoundSign ∷ [],
      o none none,
      subst (λ z. IsEventSet z (o none none)) (append_assoc (a ++ placed_sign OpenRoundSign ∷ two) (placed_sign CommaSign ∷ two) (placed_sign CloseRoundSign ∷ []) ∙ append_assoc a (placed_sign OpenRoundSign ∷ two) (placed_sign CommaSign ∷ two ++ placed_sign CloseRoundSign ∷ []))
          (sets_joined a (placed_sign OpenRoundSign ∷ two) (placed_sign CommaSign ∷ two) (placed_sign CloseRoundSign ∷ []) o none none (set_makes k o a e w) (placed_sign OpenRoundSign ∷ [], two, refl, a_sign OpenRoundSign, no_events_set) (placed_sign CommaSign ∷ [], two, refl, a_sign CommaSign, no_events_set) (a_sign CloseRoundSign)),
    ))
    (λ _ a p w. says_then (Pair (IsSign OpenRoundSign) IsEventSet) IsEventSet a p.left (u (EventSetBehind OpenRoundSign) p) (λ s. run_to limited u (form (EventSetBehind CommaSign) >>= λ t. (form (OfSign CloseRoundSign) >> give (o s t)))) (behinds OpenRoundSign p)
    (λ s b h. (
      placed_sign CommaSign ∷ placed_sign OpenBraceSign ∷ placed_sign CloseBraceSign ∷ placed_sign CloseRoundSign ∷ [],
      o s none,
      subst (λ z. IsEventSet z (o s none)) (append_assoc (a ++ b) (placed_sign CommaSign ∷ two) (placed_sign CloseRoundSign ∷ []))
          (sets_joined a b (placed_sign CommaSign ∷ two) (placed_sign CloseRoundSign ∷ []) o s none (set_makes k o a e w) h (placed_sign CommaSign ∷ [], two, refl, a_sign CommaSign, no_events_set) (a_sign CloseRoundSign)),
    ))
    (λ s b r h. says_then (Pair (IsSign CommaSign) IsEventSet) IsEventSet (a ++ b) r.left (u (EventSetBehind CommaSign) r) (λ t. run_to limited u (form (OfSign CloseRoundSign) >> give (o s t))) (behinds CommaSign r)
    (λ t c i. (placed_sign CloseRoundSign ∷ [], o s t, sets_joined a b c (placed_sign CloseRoundSign ∷ []) o s t (set_makes k o a e w) h i (a_sign CloseRoundSign)))
    (λ t c v i. says_last (λ ts _. IsSign CloseRoundSign ts) IsEventSet (λ _. o s t) ((a ++ b) ++ c) v.left (u (OfSign CloseRoundSign) v) (signs CloseRoundSign v) (λ _ d l. sets_joined a b c d o s t (set_makes k o a e w) h i l))))

-- FIELDS

-- these tokens are a field in front of others
abbrev pub IsField : Tokens → RawField → Type 0
IsField ts f = (c : Tokens) (fs : List RawField) → AreLaterFields c fs → AreLaterFields (ts ++ c) (f ∷ fs)

abbrev pub AddsFields : List RawField → Tokens → List RawField → Type 0
AddsFields fs ts xs = (ys : List RawField) × (xs ≡ fs ++ ys) × AreLaterFields ts ys

pub given_field : (ts : Tokens) (e : RawExpression) → Pair (IsSign OutputSign) IsAtom ts e → IsField ts (RawGiven e)
given_field ts e (a, b, is, k, h) c fs t = subst (λ z. AreLaterFields (z ++ c) (RawGiven e ∷ fs)) (sym is) (AreLaterFields.output k h t)

pub bare_input : (ts : Tokens) (v : RawName) → Pair (IsSign InputSign) IsName ts v → IsField ts (RawInput v)
bare_input ts v (a, b, is, k, h) c fs t = subst (λ z. AreLaterFields (z ++ c) (RawInput v ∷ fs)) (sym is) (AreLaterFields.input k h t)

pub input_with : (ts us : Tokens) (v : RawName) (e : RawExpression) → Pair (IsSign InputSign) IsName ts v → Pair (IsSign ColonSign) IsAtom us e → IsField (ts ++ us) (RawInputFrom v e)
input_with ts us v e (a, b, is, k, h) (x, y, same, l, i) c fs t =
    subst (λ z. AreLaterFields z (RawInputFrom v e ∷ fs)) (sym (ap (λ z. z ++ us ++ c) is ∙ ap (λ z. (a ++ b) ++ z ++ c) same ∙ ap (λ z. z ++ c) (sym (append_assoc (a ++ b) x y)))) (AreLaterFields.input_from k h l i t)

pub input_says : (limited : Bool) (u : Oracle) → SaysBehind u → (v : RawName) (a : Tokens) (p : Standing) → Pair (IsSign InputSign) IsName a v → (b : Bool) → Says IsField (a ++ p.left) (run_to limited u (input_by v b) p)
input_says limited u behinds v a p h false = (a, refl, bare_input a v h)
input_says limited u behinds v a p h true = says_last (Pair (IsSign ColonSign) IsAtom) IsField (λ e. RawInputFrom v e) a p.left (u (Behind ColonSign Atom) p) (behinds ColonSign Atom p) (λ e c i. input_with a c v e h i)

pub field_says : (limited : Bool) (u : Oracle) → SaysBehind u → ((s : Sign) (q : Standing) → Says (Pair (IsSign s) IsName) q.left (u (NameBehind s) q)) → (q : Standing) (b : Bool) → Says IsField q.left (run_to limited u (field_by b) q)
field_says limited u behinds names q true = says_last (Pair (IsSign OutputSign) IsAtom) IsField (λ e. RawGiven e) [] q.left (u (Behind OutputSign Atom) q) (behinds OutputSign Atom q) (λ e c h. given_field c e h)
field_says limited u behinds names q false =
    says_then (Pair (IsSign InputSign) IsName) IsField [] q.left (u (NameBehind InputSign) q) (λ v p. run_to limited u (input_by v (is_sign ColonSign (option_map seen_of (first p.left)))) p) (names InputSign q)
    (λ v a h. ([], RawInput v, subst (λ z. IsField z (RawInput v)) (sym (append-nil a)) (bare_input a v h)))
    (λ v a p h. input_says limited u behinds v a p h (is_sign ColonSign (option_map seen_of (first p.left))))

pub fields_from : (limited : Bool) (u : Oracle) (fs : List RawField) → ((q : Standing) → Says IsField q.left (u OfField q)) → ((fs : List RawField) (q : Standing) → Says (AddsFields fs) q.left (u (FieldsBehind fs) q)) →
    (q : Standing) (b : Bool) → Says (AddsFields fs) q.left (run_to limited u (fields_by fs b) q)
fields_from limited u fs fields behinds q false = ([], refl, ([], sym (append-nil fs), AreLaterFields.no_fields))
fields_from limited u fs fields behinds q true =
    says_then IsField (AddsFields fs) [] q.left (u OfField q) (λ f. run_to limited u (form (FieldsBehind (fs ++ f ∷ [])))) (fields q)
    (λ f a h. ([], fs ++ f ∷ [], (f ∷ [], refl, h [] [] AreLaterFields.no_fields)))
    (λ f a p h. says_last (AddsFields (fs ++ f ∷ [])) (AddsFields fs) (λ xs. xs) a p.left (u (FieldsBehind (fs ++ f ∷ [])) p) (behinds (fs ++ f ∷ []) p) (λ xs c (ys, is, t). (f ∷ ys, is ∙ append_assoc fs (f ∷ []) ys, h c ys t)))

pub zero_output : IsField (placed_sign OutputSign ∷ placed_number ∷ []) (RawGiven (RawNumber 0))
zero_output = given_field (placed_sign OutputSign ∷ placed_number ∷ []) (RawNumber 0) (placed_sign OutputSign ∷ [], placed_number ∷ [], refl, a_sign OutputSign, zero_atom)
