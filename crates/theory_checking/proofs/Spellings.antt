-- Numbers in lists of spellings, and lists in which each spelling stands once.
use Rattle.std.specs.List.{position, position_from}
use Rattle.theory_checking.specs.Walks.{AreNumbered}
use Rattle.theory_checking.proofs.Resolving.{numbered_left, numbered_right, all_numbered}
use Rattle.std.proofs.lemmas.Iterator.Adapters.{position_from-zero}
use Rattle.std.proofs.lemmas.List.{reverse-append}
use Rattle.std.specs.Prelude.{reverse, ◌||◌, cond, is_some, flat_map, map, slice_get, option_map}
use Rattle.std.specs.Str.{bytes_eq}
use Rattle.std.proofs.lemmas.Grind.{flat_map-append}
use Rattle.std.proofs.lemmas.List.{map-append}
use Rattle.std.proofs.lemmas.Slice.Eq.{bytes_eq-Decides}
use Rattle.std.proofs.Common.{◌≡◌, ℕ, zero, suc, ◌+◌, Bool, true, false, List, [], ◌∷◌, ◌++◌, length, Option, Some, None, refl, sym, ap, ◌∙◌, subst, arith}
use Rattle.theory_text.specs.Raw.{RawName, RawDeclaration, RawScript}
use Rattle.theory_checking.specs.Names.{with_spellings, bound_spellings, bound_in_declaration, spellings, number_in, has_spelling}
use Rattle.theory_checking.specs.DeclaredRows.{EachOnce}

-- ---- numbers in lists of spellings

pub number_of_append : (ss ts : List (List ℕ)) (s : List ℕ) → number_in ss s ≡ None → number_in (ss ++ ts) s ≡ option_map (λ k. length ss + k) (number_in ts s)
number_of_append [] ts s none = go (number_in ts s)
  where
    go : (o : Option ℕ) → o ≡ option_map (λ k. 0 + k) o
    go None = refl
    go (Some k) = let e : k ≡ 0 + k = omega arith in ap Some e
number_of_append (r ∷ ss) ts s none = go (bytes_eq r s) (number_in ss s) (number_of_append ss ts s) none
  where
    up : (o : Option ℕ) → option_map suc (option_map (λ k. length ss + k) o) ≡ option_map (λ k. suc (length ss) + k) o
    up None = refl
    up (Some k) = let e : suc (length ss + k) ≡ suc (length ss) + k = omega arith in ap Some e

    go : (b : Bool) (o : Option ℕ) → (o ≡ None → number_in (ss ++ ts) s ≡ option_map (λ k. length ss + k) (number_in ts s)) → cond b (Some 0) (option_map suc o) ≡ None →
        cond b (Some 0) (option_map suc (number_in (ss ++ ts) s)) ≡ option_map (λ k. suc (length ss) + k) (number_in ts s)
    go true o rest e = absurd (cc e)
    go false (Some k) rest e = absurd (cc e)
    go false None rest e = ap (option_map suc) (rest refl) ∙ up (number_in ts s)

-- none in both, none in one of them
pub none_in_append : (ss ts : List (List ℕ)) (s : List ℕ) → number_in ss s ≡ None → number_in ts s ≡ None → number_in (ss ++ ts) s ≡ None
none_in_append ss ts s none none' = number_of_append ss ts s none ∙ ap (option_map (λ k. length ss + k)) none'

pub none_in_first : (ss ts : List (List ℕ)) (s : List ℕ) → number_in (ss ++ ts) s ≡ None → number_in ss s ≡ None
none_in_first [] ts s e = refl
none_in_first (r ∷ ss) ts s e = go (bytes_eq r s) (number_in (ss ++ ts) s) (none_in_first ss ts s) e
  where
    go : (b : Bool) (o : Option ℕ) → (o ≡ None → number_in ss s ≡ None) → cond b (Some 0) (option_map suc o) ≡ None → cond b (Some 0) (option_map suc (number_in ss s)) ≡ None
    go true o rest i = absurd (cc i)
    go false (Some k) rest i = absurd (cc i)
    go false None rest i = ap (option_map suc) (rest refl)

pub none_in_second : (ss ts : List (List ℕ)) (s : List ℕ) → number_in (ss ++ ts) s ≡ None → number_in ts s ≡ None
none_in_second [] ts s e = e
none_in_second (r ∷ ss) ts s e = go (bytes_eq r s) (number_in (ss ++ ts) s) (none_in_second ss ts s) e
  where
    go : (b : Bool) (o : Option ℕ) → (o ≡ None → number_in ts s ≡ None) → cond b (Some 0) (option_map suc o) ≡ None → number_in ts s ≡ None
    go true o rest i = absurd (cc i)
    go false (Some k) rest i = absurd (cc i)
    go false None rest i = rest refl

pub none_in_one : (t s : List ℕ) → bytes_eq t s ≡ false → number_in (t ∷ []) s ≡ None
none_in_one t s e = rw e refl

-- ---- spellings that stand once

pub once_in_first : (ss ts : List (List ℕ)) → EachOnce (ss ++ ts) → EachOnce ss
once_in_first [] ts h = tt
once_in_first (s ∷ ss) ts h = (none_in_first ss ts s h.0, once_in_first ss ts h.1)

pub has_there : (ss ts : List (List ℕ)) (s : List ℕ) → has_spelling (ss ++ s ∷ ts) s ≡ true
has_there ss ts s = go (number_in (ss ++ s ∷ ts) s) refl
  where
    go : (o : Option ℕ) → number_in (ss ++ s ∷ ts) s ≡ o → is_some (number_in (ss ++ s ∷ ts) s) ≡ true
    go (Some k) e = ap is_some e
    go None e =
        let here : number_in (s ∷ ts) s ≡ None = none_in_second ss (s ∷ ts) s e in
        let same : bytes_eq s s ≡ true = (bytes_eq-Decides s s).1 refl in
        let both : Some 0 ≡ None = sym (ap (λ b. cond b (Some 0) (option_map suc (number_in ts s))) same) ∙ here in absurd (cc both)

-- ---- places

pub place_of_spelling : (ss : List (List ℕ)) (i : ℕ) (s : List ℕ) → EachOnce ss → slice_get ss i ≡ Some s → number_in ss s ≡ Some i
place_of_spelling [] i s once e = absurd (cc e)
place_of_spelling (t ∷ ss) zero s once e =
    let same : t ≡ s = cc e in
    let itself : bytes_eq t s ≡ true = (bytes_eq-Decides t s).1 same in ap (λ b. cond b (Some 0) (option_map suc (number_in ss s))) itself
place_of_spelling (t ∷ ss) (suc i) s once e = go (bytes_eq t s) refl (place_of_spelling ss i s once.1 e)
  where
    go : (b : Bool) → bytes_eq t s ≡ b → number_in ss s ≡ Some i → cond b (Some 0) (option_map suc (number_in ss s)) ≡ Some (suc i)
    go false differ there = ap (option_map suc) there
    go true same there =
        let none : number_in ss s ≡ None = ap (number_in ss) (sym ((bytes_eq-Decides t s).0 same)) ∙ once.0 in
        let both : Some i ≡ None = sym there ∙ none in absurd (cc both)

pub spelling_at_place : (ss : List (List ℕ)) (s : List ℕ) (i : ℕ) → number_in ss s ≡ Some i → slice_get ss i ≡ Some s
spelling_at_place [] s i e = absurd (cc e)
spelling_at_place (t ∷ ss) s i e = go (bytes_eq t s) (number_in ss s) refl (λ j f. spelling_at_place ss s j f) e
  where
    go : (b : Bool) (o : Option ℕ) → bytes_eq t s ≡ b → ((j : ℕ) → o ≡ Some j → slice_get ss j ≡ Some s) → cond b (Some 0) (option_map suc o) ≡ Some i → slice_get (t ∷ ss) i ≡ Some s
    go true o same rest f = let is : 0 ≡ i = cc f in ap (slice_get (t ∷ ss)) (sym is) ∙ ap Some ((bytes_eq-Decides t s).0 same)
    go false (Some j) same rest f = let is : suc j ≡ i = cc f in ap (slice_get (t ∷ ss)) (sym is) ∙ rest j refl
    go false None same rest f = absurd (cc f)

-- The first place at which a test passes is the number, where the test is that of the spelling.
pub place_by_test : {K : Type 0} (p : K → Bool) (spelling : K → List ℕ) (ks : List K) (s : List ℕ) →
    ((i : ℕ) (k : K) → slice_get ks i ≡ Some k → p k ≡ bytes_eq (spelling k) s) → position p ks ≡ number_in (map spelling ks) s
place_by_test {K} p spelling ks s tells = position_from-zero p ks ∙ from 0 ks tells ∙ plain (number_in (map spelling ks) s)
  where
    plain : (o : Option ℕ) → option_map (λ k. 0 + k) o ≡ o
    plain None = refl
    plain (Some k) = let e : 0 + k ≡ k = omega arith in ap Some e

    up : (n : ℕ) (o : Option ℕ) → option_map (λ k. n + 1 + k) o ≡ option_map (λ k. n + k) (option_map suc o)
    up n None = refl
    up n (Some k) = let e : n + 1 + k ≡ n + suc k = omega arith in ap Some e

    from : (n : ℕ) (xs : List K) → ((i : ℕ) (k : K) → slice_get xs i ≡ Some k → p k ≡ bytes_eq (spelling k) s) → position_from p n xs ≡ option_map (λ k. n + k) (number_in (map spelling xs) s)
    from n [] is = refl
    from n (x ∷ xs) is = go (p x) (bytes_eq (spelling x) s) (is 0 x refl) (from (n + 1) xs (λ i k e. is (suc i) k e))
      where
        go : (a b : Bool) → a ≡ b → position_from p (n + 1) xs ≡ option_map (λ k. n + 1 + k) (number_in (map spelling xs) s) →
            cond a (Some n) (position_from p (n + 1) xs) ≡ option_map (λ k. n + k) (cond b (Some 0) (option_map suc (number_in (map spelling xs) s)))
        go true true e rest = let f : n ≡ n + 0 = omega arith in ap Some f
        go true false e rest = absurd (cc e)
        go false true e rest = absurd (cc e)
        go false false e rest = rest ∙ up n (number_in (map spelling xs) s)

-- ---- further spellings, one at a time

pub with_more : (ss ts us : List (List ℕ)) → with_spellings ss (ts ++ us) ≡ with_spellings (with_spellings ss ts) us
with_more ss [] us = refl
with_more ss (t ∷ ts) us = with_more (cond (has_spelling ss t) ss (ss ++ t ∷ [])) ts us

pub with_one_more : (ss ts : List (List ℕ)) (t : List ℕ) → with_spellings ss (ts ++ t ∷ []) ≡ cond (has_spelling (with_spellings ss ts) t) (with_spellings ss ts) (with_spellings ss ts ++ t ∷ [])
with_one_more ss ts t = with_more ss ts (t ∷ [])

pub with_known : (ss ts : List (List ℕ)) (t : List ℕ) → has_spelling (with_spellings ss ts) t ≡ true → with_spellings ss (ts ++ t ∷ []) ≡ with_spellings ss ts
with_known ss ts t e = with_one_more ss ts t ∙ ap (λ b. cond b (with_spellings ss ts) (with_spellings ss ts ++ t ∷ [])) e

pub with_new : (ss ts : List (List ℕ)) (t : List ℕ) → has_spelling (with_spellings ss ts) t ≡ false → with_spellings ss (ts ++ t ∷ []) ≡ with_spellings ss ts ++ t ∷ []
with_new ss ts t e = with_one_more ss ts t ∙ ap (λ b. cond b (with_spellings ss ts) (with_spellings ss ts ++ t ∷ [])) e

-- a number stays when more are added
pub number_stays : (ss ts : List (List ℕ)) (s : List ℕ) (k : ℕ) → number_in ss s ≡ Some k → number_in (ss ++ ts) s ≡ Some k
number_stays [] ts s k e = absurd (cc e)
number_stays (r ∷ ss) ts s k e = go (bytes_eq r s) (number_in ss s) (λ j f. number_stays ss ts s j f) e
  where
    go : (b : Bool) (o : Option ℕ) → ((j : ℕ) → o ≡ Some j → number_in (ss ++ ts) s ≡ Some j) → cond b (Some 0) (option_map suc o) ≡ Some k →
        cond b (Some 0) (option_map suc (number_in (ss ++ ts) s)) ≡ Some k
    go true o rest f = f
    go false (Some j) rest f = ap (option_map suc) (rest j refl) ∙ f
    go false None rest f = absurd (cc f)

pub number_stays_with : (ss ts : List (List ℕ)) (s : List ℕ) (k : ℕ) → number_in ss s ≡ Some k → number_in (with_spellings ss ts) s ≡ Some k
number_stays_with ss [] s k e = e
number_stays_with ss (t ∷ ts) s k e = number_stays_with (cond (has_spelling ss t) ss (ss ++ t ∷ [])) ts s k (go (has_spelling ss t))
  where
    go : (b : Bool) → number_in (cond b ss (ss ++ t ∷ [])) s ≡ Some k
    go true = e
    go false = number_stays ss (t ∷ []) s k e

-- each stands once
none_if_not_had : (ss : List (List ℕ)) (t : List ℕ) → has_spelling ss t ≡ false → number_in ss t ≡ None
none_if_not_had ss t e = go (number_in ss t) e
  where
    go : (o : Option ℕ) → is_some o ≡ false → o ≡ None
    go None f = refl
    go (Some k) f = absurd (cc f)

pub once_with_new : (ss : List (List ℕ)) (t : List ℕ) → EachOnce ss → number_in ss t ≡ None → EachOnce (ss ++ t ∷ [])
once_with_new [] t once none = (refl, tt)
once_with_new (s ∷ ss) t once none = go (bytes_eq s t) refl (number_in ss t) refl (λ e. once_with_new ss t once.1 e) none
  where
    turned : bytes_eq s t ≡ false → (b : Bool) → bytes_eq t s ≡ b → bytes_eq t s ≡ false
    turned differ false e = e
    turned differ true e = let both : false ≡ true = sym differ ∙ (bytes_eq-Decides s t).1 (sym ((bytes_eq-Decides t s).0 e)) in absurd (cc both)

    go : (b : Bool) → bytes_eq s t ≡ b → (o : Option ℕ) → number_in ss t ≡ o → (number_in ss t ≡ None → EachOnce (ss ++ t ∷ [])) →
        cond b (Some 0) (option_map suc o) ≡ None → EachOnce ((s ∷ ss) ++ t ∷ [])
    go true same o is rest f = absurd (cc f)
    go false differ (Some k) is rest f = absurd (cc f)
    go false differ None is rest f = (none_in_append ss (t ∷ []) s once.0 (none_in_one t s (turned differ (bytes_eq t s) refl)), rest is)

pub once_with_spellings : (ss ts : List (List ℕ)) → EachOnce ss → EachOnce (with_spellings ss ts)
once_with_spellings ss [] once = once
once_with_spellings ss (t ∷ ts) once = once_with_spellings (cond (has_spelling ss t) ss (ss ++ t ∷ [])) ts (go (has_spelling ss t) refl)
  where
    go : (b : Bool) → has_spelling ss t ≡ b → EachOnce (cond b ss (ss ++ t ∷ []))
    go true e = once
    go false e = once_with_new ss t once (none_if_not_had ss t e)

-- ---- the bound names of a tree

pub bound_once : (raw : RawScript) → EachOnce (bound_spellings raw)
bound_once raw = once_with_spellings [] (spellings (flat_map bound_in_declaration raw)) tt

-- the number of a name that is met stays its number in the tree
pub number_stays_in_tree : (raw : RawScript) (met more : List RawName) (s : List ℕ) (k : ℕ) → flat_map bound_in_declaration raw ≡ met ++ more →
    number_in (with_spellings [] (spellings met)) s ≡ Some k → number_in (bound_spellings raw) s ≡ Some k
number_stays_in_tree raw met more s k is e =
    ap (λ zs. number_in zs s) (ap (λ ns. with_spellings [] (spellings ns)) is ∙ ap (with_spellings []) (map-append (λ n. n.spelling) met more) ∙ with_more [] (spellings met) (spellings more))
    ∙ number_stays_with (with_spellings [] (spellings met)) (spellings more) s k e

-- the bound names of each declaration of the tree have their numbers
pub bound_are_numbered : (raw above below : RawScript) (d : RawDeclaration) → raw ≡ above ++ d ∷ below → AreNumbered (bound_spellings raw) (bound_in_declaration d)
bound_are_numbered raw above below d is =
    let all : AreNumbered (bound_spellings raw) (flat_map bound_in_declaration raw) = all_numbered [] (flat_map bound_in_declaration raw) in
    let P : List RawName → Type 0 = AreNumbered (bound_spellings raw) in
    let parts : AreNumbered (bound_spellings raw) (flat_map bound_in_declaration above ++ (bound_in_declaration d ++ flat_map bound_in_declaration below)) =
    subst P (ap (flat_map bound_in_declaration) is ∙ flat_map-append bound_in_declaration above (d ∷ below)) all in
    numbered_left (bound_spellings raw) (bound_in_declaration d) (flat_map bound_in_declaration below)
    (numbered_right (bound_spellings raw) (flat_map bound_in_declaration above) (bound_in_declaration d ++ flat_map bound_in_declaration below) parts)

-- ---- the names that are bound, in any order

has_both : (ss ts : List (List ℕ)) (s : List ℕ) → has_spelling (ss ++ ts) s ≡ (has_spelling ss s || has_spelling ts s)
has_both [] ts s = refl
has_both (r ∷ ss) ts s = go (bytes_eq r s) (number_in ss s) (number_in (ss ++ ts) s) (has_both ss ts s)
  where
    go : (b : Bool) (o p : Option ℕ) → is_some p ≡ (is_some o || has_spelling ts s) → is_some (cond b (Some 0) (option_map suc p)) ≡ (is_some (cond b (Some 0) (option_map suc o)) || has_spelling ts s)
    go true o p e = refl
    go false None None e = e
    go false None (Some k) e = e
    go false (Some j) None e = e
    go false (Some j) (Some k) e = e

pub has_reversed : (ss : List (List ℕ)) (s : List ℕ) → has_spelling (reverse ss) s ≡ has_spelling ss s
has_reversed [] s = refl
has_reversed (r ∷ ss) s =
    ap (λ zs. has_spelling zs s) (reverse-append (r ∷ []) ss) ∙ has_both (reverse ss) (r ∷ []) s ∙ ap (λ b. b || has_spelling (r ∷ []) s) (has_reversed ss s)
    ∙ turned (has_spelling ss s) (has_spelling (r ∷ []) s) ∙ sym (has_both (r ∷ []) ss s)
  where
    turned : (a b : Bool) → (a || b) ≡ (b || a)
    turned true true = refl
    turned true false = refl
    turned false true = refl
    turned false false = refl
