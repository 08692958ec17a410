-- What a declared name means is what its row says.
use Rattle.std.specs.Prelude.{◌<◌, nat_lt, ⊤, cond, flat_map, take, slice_get, option_map, option_and_then}
use Rattle.std.specs.Option.{option_or}
use Rattle.std.specs.Str.{bytes_eq}
use Rattle.std.proofs.lemmas.Bool.{lt-ltb, le-ltb, ltb-true, ltb-false}
use Rattle.std.proofs.lemmas.Option.{slice_get_within}
use Rattle.std.proofs.lemmas.List.{append_assoc, map-append}
use Rattle.std.proofs.lemmas.Slice.Eq.{bytes_eq-Decides}
use Rattle.std.proofs.Common.{◌≡◌, ◌≤◌, ℕ, zero, suc, ◌+◌, Bool, true, false, List, [], ◌∷◌, ◌++◌, append-nil, length, length-append, Option, Some, None, refl, sym, ap, ◌∙◌, subst, arith}
use Rattle.theory_text.specs.Raw.{RawName, RawDeclaration, RawDatatype, RawNametype, RawChannels, RawEquation, RawAssertion, RawScript}
use Rattle.theory_checking.specs.Names.{clause_names, Class, DatatypeName, ConstructorName, NametypeName, ChannelName, EquationName, Meaning, Declared, Bound, declared_as, names_of, spellings, number_in, declared_meaning}
use Rattle.theory_checking.specs.Sets.{behind_each}
use Rattle.theory_checking.specs.Faults.{NoneRefused}
use Rattle.theory_checking.specs.Rules.{all_declared, IsRedeclared}
use Rattle.theory_checking.specs.DeclaredRows.{Row, numbered_rows, rows_declared, declared_rows, row_spellings, EachOnce, meaning_in}
use Rattle.theory_checking.proofs.Spellings.{number_of_append, none_in_append, none_in_one}
use Rattle.theory_checking.proofs.DeclaredRows.{rows_have_spellings, rows_counted, rows_of_one_more, first_rows, rows_once, none_redeclared_above}

-- ---- the rows of one class

abbrev same_class : Class → Class → Bool
same_class DatatypeName DatatypeName = true
same_class ConstructorName ConstructorName = true
same_class NametypeName NametypeName = true
same_class ChannelName ChannelName = true
same_class EquationName EquationName = true
same_class _ _ = false

its_own_class : (c : Class) → same_class c c ≡ true
its_own_class DatatypeName = refl
its_own_class ConstructorName = refl
its_own_class NametypeName = refl
its_own_class ChannelName = refl
its_own_class EquationName = refl

abbrev chosen : Class → Meaning → List ℕ → List (List ℕ) → List (List ℕ)
chosen class (Declared c k) s ss = cond (same_class class c) (s ∷ ss) ss
chosen class (Bound k) s ss = ss

abbrev of_class : Class → List Row → List (List ℕ)
of_class class [] = []
of_class class (r ∷ rows) = chosen class r.1 r.0 (of_class class rows)

chosen_append : (class : Class) (m : Meaning) (s : List ℕ) (ss ts : List (List ℕ)) → chosen class m s (ss ++ ts) ≡ chosen class m s ss ++ ts
chosen_append class (Bound k) s ss ts = refl
chosen_append class (Declared c k) s ss ts = go (same_class class c)
  where
    go : (b : Bool) → cond b (s ∷ (ss ++ ts)) (ss ++ ts) ≡ cond b (s ∷ ss) ss ++ ts
    go true = refl
    go false = refl

of_class_append : (class : Class) (xs ys : List Row) → of_class class (xs ++ ys) ≡ of_class class xs ++ of_class class ys
of_class_append class [] ys = refl
of_class_append class (r ∷ xs) ys = ap (chosen class r.1 r.0) (of_class_append class xs ys) ∙ chosen_append class r.1 r.0 (of_class class xs) (of_class class ys)

of_numbered : (class c : Class) (n : ℕ) (xs : List RawName) → of_class class (numbered_rows c n xs) ≡ cond (same_class class c) (spellings xs) []
of_numbered class c n [] = go (same_class class c)
  where
    go : (b : Bool) → [] ≡ cond b (spellings []) []
    go true = refl
    go false = refl
of_numbered class c n (x ∷ xs) = go (same_class class c) (of_numbered class c (suc n) xs)
  where
    go : (b : Bool) → of_class class (numbered_rows c (suc n) xs) ≡ cond b (spellings xs) [] →
        cond b (x.spelling ∷ of_class class (numbered_rows c (suc n) xs)) (of_class class (numbered_rows c (suc n) xs)) ≡ cond b (spellings (x ∷ xs)) []
    go true e = ap (λ ss. x.spelling ∷ ss) e
    go false e = e

of_declared : (class : Class) (above : RawScript) (d : RawDeclaration) → of_class class (rows_declared above d) ≡ spellings (declared_as class d)
of_declared DatatypeName above (RawDatatype name cs) = ap (λ ss. name.spelling ∷ ss) (of_numbered DatatypeName ConstructorName (length (names_of ConstructorName above)) (clause_names cs))
of_declared ConstructorName above (RawDatatype name cs) = of_numbered ConstructorName ConstructorName (length (names_of ConstructorName above)) (clause_names cs)
of_declared NametypeName above (RawDatatype name cs) = of_numbered NametypeName ConstructorName (length (names_of ConstructorName above)) (clause_names cs)
of_declared ChannelName above (RawDatatype name cs) = of_numbered ChannelName ConstructorName (length (names_of ConstructorName above)) (clause_names cs)
of_declared EquationName above (RawDatatype name cs) = of_numbered EquationName ConstructorName (length (names_of ConstructorName above)) (clause_names cs)
of_declared DatatypeName above (RawNametype name domain) = refl
of_declared ConstructorName above (RawNametype name domain) = refl
of_declared NametypeName above (RawNametype name domain) = refl
of_declared ChannelName above (RawNametype name domain) = refl
of_declared EquationName above (RawNametype name domain) = refl
of_declared DatatypeName above (RawChannels names domains) = of_numbered DatatypeName ChannelName (length (names_of ChannelName above)) names
of_declared ConstructorName above (RawChannels names domains) = of_numbered ConstructorName ChannelName (length (names_of ChannelName above)) names
of_declared NametypeName above (RawChannels names domains) = of_numbered NametypeName ChannelName (length (names_of ChannelName above)) names
of_declared ChannelName above (RawChannels names domains) = of_numbered ChannelName ChannelName (length (names_of ChannelName above)) names
of_declared EquationName above (RawChannels names domains) = of_numbered EquationName ChannelName (length (names_of ChannelName above)) names
of_declared DatatypeName above (RawEquation name ns p) = refl
of_declared ConstructorName above (RawEquation name ns p) = refl
of_declared NametypeName above (RawEquation name ns p) = refl
of_declared ChannelName above (RawEquation name ns p) = refl
of_declared EquationName above (RawEquation name ns p) = refl
of_declared DatatypeName above (RawAssertion place n a p) = refl
of_declared ConstructorName above (RawAssertion place n a p) = refl
of_declared NametypeName above (RawAssertion place n a p) = refl
of_declared ChannelName above (RawAssertion place n a p) = refl
of_declared EquationName above (RawAssertion place n a p) = refl

of_behind : (class : Class) (above ds : RawScript) → of_class class (behind_each rows_declared above ds) ≡ spellings (flat_map (declared_as class) ds)
of_behind class above [] = refl
of_behind class above (d ∷ ds) =
    of_class_append class (rows_declared above d) (behind_each rows_declared (above ++ d ∷ []) ds)
    ∙ ap (λ ss. ss ++ of_class class (behind_each rows_declared (above ++ d ∷ []) ds)) (of_declared class above d)
    ∙ ap (λ ss. spellings (declared_as class d) ++ ss) (of_behind class (above ++ d ∷ []) ds)
    ∙ sym (map-append (λ n. n.spelling) (declared_as class d) (flat_map (declared_as class) ds))

of_rows : (class : Class) (raw : RawScript) → of_class class (declared_rows raw) ≡ names_of class raw
of_rows class raw = of_behind class [] raw

-- ---- each row's number is that of the rows of its class before it

abbrev IsCounted : List Row → Meaning → Type 0
IsCounted before (Declared c k) = k ≡ length (of_class c before)
IsCounted before (Bound k) = ⊥

abbrev AreCounted : List Row → List Row → Type 0
AreCounted before [] = ⊤
AreCounted before (r ∷ rows) = IsCounted before r.1 × AreCounted (before ++ r ∷ []) rows

counted_both : (before xs ys : List Row) → AreCounted before xs → AreCounted (before ++ xs) ys → AreCounted before (xs ++ ys)
counted_both before [] ys h k = let P : List Row → Type 0 = λ zs. AreCounted zs ys in subst P (append-nil before) k
counted_both before (r ∷ xs) ys h k = (h.0, counted_both (before ++ r ∷ []) xs ys h.1 (let P : List Row → Type 0 = λ zs. AreCounted zs ys in subst P (sym (append_assoc before (r ∷ []) xs)) k))

one_more_of : (c : Class) (n : ℕ) (s : List ℕ) (before : List Row) → n ≡ length (of_class c before) → suc n ≡ length (of_class c (before ++ (s, Declared c n) ∷ []))
one_more_of c n s before e =
    let own : of_class c ((s, Declared c n) ∷ []) ≡ s ∷ [] = ap (λ b. cond b (s ∷ []) []) (its_own_class c) in
    let count : length (of_class c (before ++ (s, Declared c n) ∷ [])) ≡ length (of_class c before) + 1 =
    ap length (of_class_append c before ((s, Declared c n) ∷ []) ∙ ap (λ zs. of_class c before ++ zs) own) ∙ length-append (of_class c before) (s ∷ []) in
    omega (arith, e, count)

numbered_counted : (c : Class) (n : ℕ) (xs : List RawName) (before : List Row) → n ≡ length (of_class c before) → AreCounted before (numbered_rows c n xs)
numbered_counted c n [] before e = tt
numbered_counted c n (x ∷ xs) before e = (e, numbered_counted c (suc n) xs (before ++ (x.spelling, Declared c n) ∷ []) (one_more_of c n x.spelling before e))

class_count : (class : Class) (raw : RawScript) → length (names_of class raw) ≡ length (of_class class (declared_rows raw))
class_count class raw = sym (ap length (of_rows class raw))

declared_counted : (above : RawScript) (d : RawDeclaration) → AreCounted (declared_rows above) (rows_declared above d)
declared_counted above (RawDatatype name cs) =
    let head : Row = (name.spelling, Declared DatatypeName (length (names_of DatatypeName above))) in (
      class_count DatatypeName above,
      numbered_counted ConstructorName (length (names_of ConstructorName above)) (clause_names cs) (declared_rows above ++ (name.spelling, Declared DatatypeName (length (names_of DatatypeName above))) ∷ [])
          (class_count ConstructorName above
          ∙ sym (ap length (of_class_append ConstructorName (declared_rows above)
          ((name.spelling, Declared DatatypeName (length (names_of DatatypeName above))) ∷ [])
          ∙ append-nil (of_class ConstructorName (declared_rows above))))),
    )
declared_counted above (RawNametype name domain) = (class_count NametypeName above, tt)
declared_counted above (RawChannels names domains) = numbered_counted ChannelName (length (names_of ChannelName above)) names (declared_rows above) (class_count ChannelName above)
declared_counted above (RawEquation name ns p) = (class_count EquationName above, tt)
declared_counted above (RawAssertion place n a p) = tt

behind_counted : (above ds : RawScript) → AreCounted (declared_rows above) (behind_each rows_declared above ds)
behind_counted above [] = tt
behind_counted above (d ∷ ds) =
    counted_both (declared_rows above) (rows_declared above d) (behind_each rows_declared (above ++ d ∷ []) ds) (declared_counted above d)
    (let P : List Row → Type 0 = λ zs. AreCounted zs (behind_each rows_declared (above ++ d ∷ []) ds) in subst P (rows_of_one_more above d) (behind_counted (above ++ d ∷ []) ds))

-- ---- what the rows say

-- a meaning by the number in each class
abbrev means_by : (Class → Option ℕ) → Option Meaning
means_by g =
    option_or (option_map (Declared DatatypeName) (g DatatypeName))
    (option_or (option_map (Declared ConstructorName) (g ConstructorName)) (option_or (option_map (Declared NametypeName) (g NametypeName))
    (option_or (option_map (Declared ChannelName) (g ChannelName)) (option_map (Declared EquationName) (g EquationName)))))

means_same : (g h : Class → Option ℕ) → ((c : Class) → g c ≡ h c) → means_by g ≡ means_by h
means_same g h e = rw (e DatatypeName, e ConstructorName, e NametypeName, e ChannelName, e EquationName) refl

means_none : (g : Class → Option ℕ) → ((c : Class) → g c ≡ None) → means_by g ≡ None
means_none g e = means_same g (λ c. None) e

means_one : (g : Class → Option ℕ) (c : Class) (k : ℕ) → g c ≡ Some k → ((d : Class) → same_class d c ≡ false → g d ≡ None) → means_by g ≡ Some (Declared c k)
means_one g DatatypeName k e none = rw e refl
means_one g ConstructorName k e none = rw (none DatatypeName refl, e) refl
means_one g NametypeName k e none = rw (none DatatypeName refl, none ConstructorName refl, e) refl
means_one g ChannelName k e none = rw (none DatatypeName refl, none ConstructorName refl, none NametypeName refl, e) refl
means_one g EquationName k e none = rw (none DatatypeName refl, none ConstructorName refl, none NametypeName refl, none ChannelName refl, e) refl

-- a spelling of no row is of no row of a class
none_of_class : (class : Class) (rows : List Row) (s : List ℕ) → number_in (row_spellings rows) s ≡ None → number_in (of_class class rows) s ≡ None
none_of_class class [] s e = refl
none_of_class class (r ∷ rows) s e = go (bytes_eq r.0 s) (number_in (row_spellings rows) s) refl (none_of_class class rows s) e
  where
    by : (m : Meaning) → bytes_eq r.0 s ≡ false → number_in (of_class class rows) s ≡ None → number_in (chosen class m r.0 (of_class class rows)) s ≡ None
    by (Bound k) differ none = none
    by (Declared c k) differ none = pick (same_class class c)
      where
        pick : (b : Bool) → number_in (cond b (r.0 ∷ of_class class rows) (of_class class rows)) s ≡ None
        pick true = rw (differ, none) refl
        pick false = none

    go : (b : Bool) (o : Option ℕ) → bytes_eq r.0 s ≡ b → (o ≡ None → number_in (of_class class rows) s ≡ None) → cond b (Some 0) (option_map suc o) ≡ None →
        number_in (chosen class r.1 r.0 (of_class class rows)) s ≡ None
    go true o differ rest i = absurd (cc i)
    go false (Some k) differ rest i = absurd (cc i)
    go false None differ rest i = by r.1 differ (rest refl)

row_says : (before rows : List Row) (s : List ℕ) → AreCounted before rows → EachOnce (row_spellings rows) → ((c : Class) → number_in (of_class c before) s ≡ None) →
    means_by (λ c. number_in (of_class c (before ++ rows)) s) ≡ meaning_in rows s
row_says before [] s counted once absent = means_none (λ c. number_in (of_class c (before ++ [])) s) (λ c. ap (λ z. number_in (of_class c z) s) (append-nil before) ∙ absent c)
row_says before (r ∷ rows) s counted once absent = go (bytes_eq r.0 s) refl (λ still. row_says (before ++ r ∷ []) rows s counted.1 once.1 still)
  where
    at : (c : Class) → of_class c (before ++ r ∷ rows) ≡ of_class c before ++ chosen c r.1 r.0 (of_class c rows)
    at c = of_class_append c before (r ∷ rows)

    said : (m : Meaning) → bytes_eq r.0 s ≡ true → IsCounted before m → means_by (λ c. number_in (of_class c before ++ chosen c m r.0 (of_class c rows)) s) ≡ Some m
    said (Bound k) same is = absurd is
    said (Declared d k) same is = means_one (λ c. number_in (of_class c before ++ cond (same_class c d) (r.0 ∷ of_class c rows) (of_class c rows)) s) d k own other
      where
        number : k ≡ length (of_class d before)
        number = is

        none : (c : Class) → number_in (of_class c rows) s ≡ None
        none c = none_of_class c rows s (ap (number_in (row_spellings rows)) (sym ((bytes_eq-Decides r.0 s).0 same)) ∙ once.0)

        own : number_in (of_class d before ++ cond (same_class d d) (r.0 ∷ of_class d rows) (of_class d rows)) s ≡ Some k
        own =
            let e : length (of_class d before) + 0 ≡ k = omega (arith, number) in
            ap (λ b. number_in (of_class d before ++ cond b (r.0 ∷ of_class d rows) (of_class d rows)) s) (its_own_class d)
            ∙ number_of_append (of_class d before) (r.0 ∷ of_class d rows) s (absent d)
            ∙ ap (λ b. option_map (λ j. length (of_class d before) + j) (cond b (Some 0) (option_map suc (number_in (of_class d rows) s)))) same
            ∙ ap Some e

        other : (c : Class) → same_class c d ≡ false → number_in (of_class c before ++ cond (same_class c d) (r.0 ∷ of_class c rows) (of_class c rows)) s ≡ None
        other c unlike = ap (λ b. number_in (of_class c before ++ cond b (r.0 ∷ of_class c rows) (of_class c rows)) s) unlike
            ∙ none_in_append (of_class c before) (of_class c rows) s (absent c) (none c)

    still : bytes_eq r.0 s ≡ false → (c : Class) → number_in (of_class c (before ++ r ∷ [])) s ≡ None
    still differ c = ap (λ zs. number_in zs s) (of_class_append c before (r ∷ []))
        ∙ none_in_append (of_class c before) (of_class c (r ∷ [])) s (absent c) (none_of_class c (r ∷ []) s (none_in_one r.0 s differ))

    go : (b : Bool) → bytes_eq r.0 s ≡ b →
        (((c : Class) → number_in (of_class c (before ++ r ∷ [])) s ≡ None) →
        means_by (λ c. number_in (of_class c ((before ++ r ∷ []) ++ rows)) s) ≡ meaning_in rows s) →
        means_by (λ c. number_in (of_class c (before ++ r ∷ rows)) s) ≡ cond b (Some r.1) (meaning_in rows s)
    go true same rest =
        means_same (λ c. number_in (of_class c (before ++ r ∷ rows)) s) (λ c. number_in (of_class c before ++ chosen c r.1 r.0 (of_class c rows)) s)
        (λ c. ap (λ zs. number_in zs s) (at c)) ∙ said r.1 same counted.0
    go false differ rest = ap (λ zs. means_by (λ c. number_in (of_class c zs) s)) (sym (append_assoc before (r ∷ []) rows)) ∙ rest (still differ)

-- What a declared name means is what its row says.
pub meaning_is_row : (raw : RawScript) (s : List ℕ) → NoneRefused IsRedeclared (all_declared raw) → declared_meaning raw s ≡ meaning_in (declared_rows raw) s
meaning_is_row raw s none =
    means_same (λ c. number_in (names_of c raw) s) (λ c. number_in (of_class c (declared_rows raw)) s) (λ c. ap (λ zs. number_in zs s) (sym (of_rows c raw)))
    ∙ row_says [] (declared_rows raw) s (behind_counted [] raw) (rows_once raw none) (λ c. refl)

-- For the declarations above it is what the first rows say.
pub meaning_above_is_row : (raw above more : RawScript) (s : List ℕ) → NoneRefused IsRedeclared (all_declared raw) → raw ≡ above ++ more →
    declared_meaning above s ≡ meaning_in (take (length (all_declared above)) (declared_rows raw)) s
meaning_above_is_row raw above more s none is =
    let P : RawScript → Type 0 = λ ds. NoneRefused IsRedeclared (all_declared ds) in
    meaning_is_row above s (none_redeclared_above above more (subst P is none))
    ∙ ap (λ rows. meaning_in rows s) (sym (first_rows above more) ∙ ap (λ ds. take (length (all_declared above)) (declared_rows ds)) (sym is))

-- A spelling that is nowhere declared has no meaning as a declared one.
pub undeclared_means_nothing : (raw : RawScript) (s : List ℕ) → number_in (spellings (all_declared raw)) s ≡ None → declared_meaning raw s ≡ None
undeclared_means_nothing raw s e =
    means_none (λ c. number_in (names_of c raw) s)
    (λ c. ap (λ zs. number_in zs s) (sym (of_rows c raw)) ∙ none_of_class c (declared_rows raw) s (ap (λ zs. number_in zs s) (rows_have_spellings raw) ∙ e))

-- ---- where a row stands

-- what the first n rows say of a spelling, by the place of its first row
pub meaning_by_place : (rows : List Row) (n : ℕ) (s : List ℕ) →
    meaning_in (take n rows) s ≡ option_and_then (λ i. cond (nat_lt i n) (option_map (λ r. r.1) (slice_get rows i)) None) (number_in (row_spellings rows) s)
meaning_by_place rows zero s = go (number_in (row_spellings rows) s)
  where
    go : (o : Option ℕ) → None ≡ option_and_then (λ i. cond (nat_lt i 0) (option_map (λ r. r.1) (slice_get rows i)) None) o
    go None = refl
    go (Some i) = ap (λ b. cond b (option_map (λ r. r.1) (slice_get rows i)) None) (sym (le-ltb i 0 (omega arith)))
meaning_by_place [] (suc n) s = refl
meaning_by_place (r ∷ rows) (suc n) s = go (bytes_eq r.0 s) (number_in (row_spellings rows) s) (meaning_by_place rows n s)
  where
    go : (b : Bool) (o : Option ℕ) → meaning_in (take n rows) s ≡ option_and_then (λ i. cond (nat_lt i n) (option_map (λ t. t.1) (slice_get rows i)) None) o →
        cond b (Some r.1) (meaning_in (take n rows) s) ≡ option_and_then (λ i. cond (nat_lt i (suc n)) (option_map (λ t. t.1) (slice_get (r ∷ rows) i)) None) (cond b (Some 0) (option_map suc o))
    go true o rest = ap (λ c. cond c (Some r.1) None) (sym (lt-ltb 0 (suc n) (omega arith)))
    go false None rest = rest
    go false (Some i) rest = rest ∙ ap (λ c. cond c (option_map (λ t. t.1) (slice_get rows i)) None) (same_test i (nat_lt i n) refl)
      where
        same_test : (j : ℕ) (b : Bool) → nat_lt j n ≡ b → nat_lt j n ≡ nat_lt (suc j) (suc n)
        same_test j true e = let small : j < n = ltb-true j n e in e ∙ sym (lt-ltb (suc j) (suc n) (omega (arith, small)))
        same_test j false e = let large : n ≤ j = ltb-false j n e in e ∙ sym (le-ltb (suc j) (suc n) (omega (arith, large)))

-- a row that stands at a place, where spellings stand once
place_of_row : (rows : List Row) (i : ℕ) (s : List ℕ) (m : Meaning) → EachOnce (row_spellings rows) → slice_get rows i ≡ Some (s, m) → number_in (row_spellings rows) s ≡ Some i
place_of_row [] i s m once e = absurd (cc e)
place_of_row (r ∷ rows) zero s m once e =
    let same : r ≡ (s, m) = cc e in
    let itself : bytes_eq r.0 s ≡ true = (bytes_eq-Decides r.0 s).1 (ap (λ t. t.0) same) in ap (λ b. cond b (Some 0) (option_map suc (number_in (row_spellings rows) s))) itself
place_of_row (r ∷ rows) (suc i) s m once e = go (bytes_eq r.0 s) refl (place_of_row rows i s m once.1 e)
  where
    go : (b : Bool) → bytes_eq r.0 s ≡ b → number_in (row_spellings rows) s ≡ Some i → cond b (Some 0) (option_map suc (number_in (row_spellings rows) s)) ≡ Some (suc i)
    go false differ there = ap (option_map suc) there
    go true same there =
        let none : number_in (row_spellings rows) s ≡ None = ap (number_in (row_spellings rows)) (sym ((bytes_eq-Decides r.0 s).0 same)) ∙ once.0 in
        let both : Some i ≡ None = sym there ∙ none in absurd (cc both)

pair_same : (r : Row) (s : List ℕ) (m : Meaning) → r.0 ≡ s → r.1 ≡ m → r ≡ (s, m)
pair_same r s m a b = ap (λ x. (x, r.1)) a ∙ ap (λ y. (s, y)) b

found_row : (rows : List Row) (n : ℕ) (s : List ℕ) (m : Meaning) → meaning_in (take n rows) s ≡ Some m → (i : ℕ) × (slice_get rows i ≡ Some (s, m)) × (i < n)
found_row rows zero s m e = absurd (cc e)
found_row [] (suc n) s m e = absurd (cc e)
found_row (r ∷ rows) (suc n) s m e = go (bytes_eq r.0 s) refl (λ f. found_row rows n s m f) e
  where
    go : (b : Bool) → bytes_eq r.0 s ≡ b → (meaning_in (take n rows) s ≡ Some m → (i : ℕ) × (slice_get rows i ≡ Some (s, m)) × (i < n)) → cond b (Some r.1) (meaning_in (take n rows) s) ≡ Some m →
        (i : ℕ) × (slice_get (r ∷ rows) i ≡ Some (s, m)) × (i < suc n)
    go true same rest f = let says : r.1 ≡ m = cc f in (0, ap Some (pair_same r s m ((bytes_eq-Decides r.0 s).0 same) says), omega arith)
    go false differ rest f = let h = rest f in let small : h.0 < n = h.2 in (suc h.0, h.1, omega (arith, small))

module _ (raw above more : RawScript) (once : NoneRefused IsRedeclared (all_declared raw)) (is : raw ≡ above ++ more) where
  by_place : (i : ℕ) (s : List ℕ) (m : Meaning) → slice_get (declared_rows raw) i ≡ Some (s, m) → declared_meaning above s ≡ cond (nat_lt i (length (all_declared above))) (Some m) None
  by_place i s m e =
      meaning_above_is_row raw above more s once is ∙ meaning_by_place (declared_rows raw) (length (all_declared above)) s
      ∙ ap (option_and_then (λ j. cond (nat_lt j (length (all_declared above))) (option_map (λ r. r.1) (slice_get (declared_rows raw) j)) None))
      (place_of_row (declared_rows raw) i s m (rows_once raw once) e)
      ∙ ap (λ o. cond (nat_lt i (length (all_declared above))) (option_map (λ r. r.1) o) None) e

  -- A row among those of the declarations above tells what its spelling means there, and one behind them tells that it means nothing there.
  pub row_above : (i : ℕ) (s : List ℕ) (m : Meaning) → slice_get (declared_rows raw) i ≡ Some (s, m) → i < length (all_declared above) → declared_meaning above s ≡ Some m
  row_above i s m e small = by_place i s m e ∙ ap (λ b. cond b (Some m) None) (lt-ltb i (length (all_declared above)) small)

  pub row_below : (i : ℕ) (s : List ℕ) (m : Meaning) → slice_get (declared_rows raw) i ≡ Some (s, m) → length (all_declared above) ≤ i → declared_meaning above s ≡ None
  row_below i s m e large = by_place i s m e ∙ go (nat_lt i (length (all_declared above))) refl
    where
      go : (b : Bool) → nat_lt i (length (all_declared above)) ≡ b → cond b (Some m) None ≡ None
      go false f = refl
      go true f = let small : i < length (all_declared above) = ltb-true i (length (all_declared above)) f in absurd (omega (arith, small, large))

  -- where no row has the spelling, it means nothing
  pub no_row : (s : List ℕ) → number_in (row_spellings (declared_rows raw)) s ≡ None → declared_meaning above s ≡ None
  no_row s e =
      meaning_above_is_row raw above more s once is ∙ meaning_by_place (declared_rows raw) (length (all_declared above)) s
      ∙ ap (option_and_then (λ j. cond (nat_lt j (length (all_declared above))) (option_map (λ r. r.1) (slice_get (declared_rows raw) j)) None)) e

  -- and what a spelling means there is what some row among the first says
  pub meant_by_row : (s : List ℕ) (m : Meaning) → declared_meaning above s ≡ Some m → (i : ℕ) × (slice_get (declared_rows raw) i ≡ Some (s, m)) × (i < length (all_declared above))
  meant_by_row s m e = found_row (declared_rows raw) (length (all_declared above)) s m (sym (meaning_above_is_row raw above more s once is) ∙ e)

-- where no more than the declared names of the whole tree are asked for
pub row_tells : (raw : RawScript) (i : ℕ) (s : List ℕ) (m : Meaning) → NoneRefused IsRedeclared (all_declared raw) → slice_get (declared_rows raw) i ≡ Some (s, m) → declared_meaning raw s ≡ Some m
row_tells raw i s m once e =
    let small : i < length (declared_rows raw) = slice_get_within (declared_rows raw) i (s, m) e in
    row_above raw raw [] once (sym (append-nil raw)) i s m e (subst (λ z. i < z) (rows_counted raw) small)

-- ---- the names of a class stand once

once_of_class : (class : Class) (rows : List Row) → EachOnce (row_spellings rows) → EachOnce (of_class class rows)
once_of_class class [] once = tt
once_of_class class (r ∷ rows) once = by r.1 (once_of_class class rows once.1)
  where
    by : (m : Meaning) → EachOnce (of_class class rows) → EachOnce (chosen class m r.0 (of_class class rows))
    by (Bound k) rest = rest
    by (Declared c k) rest = pick (same_class class c)
      where
        pick : (b : Bool) → EachOnce (cond b (r.0 ∷ of_class class rows) (of_class class rows))
        pick true = (none_of_class class rows r.0 once.0, rest)
        pick false = rest

pub names_once : (class : Class) (raw : RawScript) → NoneRefused IsRedeclared (all_declared raw) → EachOnce (names_of class raw)
names_once class raw none = let P : List (List ℕ) → Type 0 = EachOnce in subst P (of_rows class raw) (once_of_class class (declared_rows raw) (rows_once raw none))
