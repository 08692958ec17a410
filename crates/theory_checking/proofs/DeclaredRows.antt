-- The rows of the declared names of a tree: their spellings, and those of the declarations above.
use Rattle.std.specs.Prelude.{cond, flat_map, take, option_map}
use Rattle.std.specs.Str.{bytes_eq}
use Rattle.std.proofs.lemmas.Grind.{flat_map-append}
use Rattle.std.proofs.lemmas.List.{append_assoc, map-append, length-map}
use Rattle.std.proofs.lemmas.Slice.Eq.{bytes_eq-Decides}
use Rattle.std.proofs.Math.Seq.{take-append_seam}
use Rattle.std.proofs.Common.{◌≡◌, ◌≤◌, ℕ, suc, ◌+◌, Bool, true, false, List, [], ◌∷◌, ◌++◌, append-nil, length, length-append, Option, Some, None, refl, sym, ap, ◌∙◌, subst, arith}
use Rattle.theory_text.specs.Raw.{RawName, RawDeclaration, RawDatatype, RawNametype, RawChannels, RawEquation, RawAssertion, RawScript}
use Rattle.theory_checking.specs.Names.{Class, ConstructorName, ChannelName, Declared, declared, declared_as, names_of, clause_names, spellings, number_in, has_spelling}
use Rattle.theory_checking.specs.Sets.{behind_each}
use Rattle.theory_checking.specs.Faults.{KindFault, DeclaredTwice, fault_number, NoneRefused, IsFirstRefused}
use Rattle.theory_checking.specs.Refusals.{IsKindRefusal, in_first_pass}
use Rattle.theory_checking.proofs.FirstRefused.{EachFine, each_of_none, none_refused}
use Rattle.theory_checking.specs.Rules.{all_declared, IsRedeclared, redeclared}
use Rattle.theory_checking.specs.DeclaredRows.{numbered_rows, rows_declared, declared_rows, row_spellings, EachOnce}
use Rattle.theory_checking.proofs.ScriptThere.{behind-append, behind_one_more}
use Rattle.theory_checking.proofs.Spellings.{has_there}

-- ---- the spellings of the rows

pub numbered_spellings : (class : Class) (n : ℕ) (xs : List RawName) → row_spellings (numbered_rows class n xs) ≡ spellings xs
numbered_spellings class n [] = refl
numbered_spellings class n (x ∷ xs) = ap (λ ss. x.spelling ∷ ss) (numbered_spellings class (suc n) xs)

pub spellings_declared : (above : RawScript) (d : RawDeclaration) → row_spellings (rows_declared above d) ≡ spellings (declared d)
spellings_declared above (RawDatatype name clauses) = ap (λ ss. name.spelling ∷ ss) (numbered_spellings ConstructorName (length (names_of ConstructorName above)) (clause_names clauses))
spellings_declared above (RawNametype name domain) = refl
spellings_declared above (RawChannels names domains) = numbered_spellings ChannelName (length (names_of ChannelName above)) names
spellings_declared above (RawEquation name parameters body) = refl
spellings_declared above (RawAssertion place n a p) = refl

spellings_behind : (above ds : RawScript) → row_spellings (behind_each rows_declared above ds) ≡ spellings (all_declared ds)
spellings_behind above [] = refl
spellings_behind above (d ∷ ds) =
    map-append (λ r. r.0) (rows_declared above d) (behind_each rows_declared (above ++ d ∷ []) ds)
    ∙ ap (λ ss. ss ++ row_spellings (behind_each rows_declared (above ++ d ∷ []) ds)) (spellings_declared above d)
    ∙ ap (λ ss. spellings (declared d) ++ ss) (spellings_behind (above ++ d ∷ []) ds)
    ∙ sym (map-append (λ n. n.spelling) (declared d) (all_declared ds))

pub rows_have_spellings : (raw : RawScript) → row_spellings (declared_rows raw) ≡ spellings (all_declared raw)
rows_have_spellings raw = spellings_behind [] raw

pub rows_counted : (raw : RawScript) → length (declared_rows raw) ≡ length (all_declared raw)
rows_counted raw = sym (length-map (declared_rows raw) (λ r. r.0)) ∙ ap length (rows_have_spellings raw) ∙ length-map (all_declared raw) (λ n. n.spelling)

-- ---- the rows of the declarations above

pub rows_of_one_more : (above : RawScript) (d : RawDeclaration) → declared_rows (above ++ d ∷ []) ≡ declared_rows above ++ rows_declared above d
rows_of_one_more above d = behind_one_more rows_declared above d

pub rows_go_on : (above more : RawScript) → declared_rows (above ++ more) ≡ declared_rows above ++ behind_each rows_declared above more
rows_go_on above more = behind-append rows_declared [] above more

pub first_rows : (above more : RawScript) → take (length (all_declared above)) (declared_rows (above ++ more)) ≡ declared_rows above
first_rows above more =
    ap (λ n. take n (declared_rows (above ++ more))) (sym (rows_counted above)) ∙ ap (take (length (declared_rows above))) (rows_go_on above more)
    ∙ take-append_seam (declared_rows above) (behind_each rows_declared above more)

pub declared_go_on : (above more : RawScript) → all_declared (above ++ more) ≡ all_declared above ++ all_declared more
declared_go_on above more = flat_map-append declared above more

-- ---- names that are declared once

-- where a spelling has a number, a name of that spelling stands
found : (s : List ℕ) (xs : List RawName) (k : ℕ) → number_in (spellings xs) s ≡ Some k →
    (before : List RawName) × (x : RawName) × (after : List RawName) × (xs ≡ before ++ x ∷ after) × (x.spelling ≡ s)
found s [] k e = absurd (cc e)
found s (x ∷ xs) k e = go (bytes_eq x.spelling s) (number_in (spellings xs) s) refl (λ j f. found s xs j f) e
  where
    go : (b : Bool) (o : Option ℕ) → bytes_eq x.spelling s ≡ b →
        ((j : ℕ) → o ≡ Some j → (before : List RawName) × (y : RawName) × (after : List RawName) × (xs ≡ before ++ y ∷ after) × (y.spelling ≡ s)) →
        cond b (Some 0) (option_map suc o) ≡ Some k → (before : List RawName) × (y : RawName) × (after : List RawName) × (x ∷ xs ≡ before ++ y ∷ after) × (y.spelling ≡ s)
    go true o same rest i = ([], x, xs, refl, (bytes_eq-Decides x.spelling s).0 same)
    go false (Some j) same rest i = let h = rest j refl in (x ∷ h.0, h.1, h.2, ap (λ z. x ∷ z) h.3, h.4)
    go false None same rest i = absurd (cc i)

once_behind : (done xs : List RawName) → NoneRefused IsRedeclared (done ++ xs) → EachOnce (spellings xs)
once_behind done [] none = tt
once_behind done (x ∷ xs) none = (
  here (number_in (spellings xs) x.spelling) refl,
  once_behind (done ++ x ∷ []) xs (let P : List RawName → Type 0 = NoneRefused IsRedeclared in subst P (sym (append_assoc done (x ∷ []) xs)) none),
)
  where
    here : (o : Option ℕ) → number_in (spellings xs) x.spelling ≡ o → number_in (spellings xs) x.spelling ≡ None
    here None e = e
    here (Some k) e =
        let h = found x.spelling xs k e in
        let stands : done ++ x ∷ xs ≡ (done ++ x ∷ h.0) ++ h.1 ∷ h.2 = ap (λ z. done ++ x ∷ z) h.3 ∙ sym (append_assoc done (x ∷ h.0) (h.1 ∷ h.2)) in
        let before : has_spelling (spellings (done ++ x ∷ h.0)) h.1.spelling ≡ true =
        ap (λ z. has_spelling z h.1.spelling) (map-append (λ n. n.spelling) done (x ∷ h.0))
        ∙ ap (has_spelling (spellings done ++ x.spelling ∷ spellings h.0)) h.4 ∙ has_there (spellings done) (spellings h.0) x.spelling in
        absurd (none (done ++ x ∷ h.0) h.2 h.1 DeclaredTwice stands (redeclared before))

pub declared_once : (raw : RawScript) → NoneRefused IsRedeclared (all_declared raw) → EachOnce (spellings (all_declared raw))
declared_once raw none = once_behind [] (all_declared raw) none

pub rows_once : (raw : RawScript) → NoneRefused IsRedeclared (all_declared raw) → EachOnce (row_spellings (declared_rows raw))
rows_once raw none = let P : List (List ℕ) → Type 0 = EachOnce in subst P (sym (rows_have_spellings raw)) (declared_once raw none)

-- what is declared above is declared once too
pub none_redeclared_above : (above more : RawScript) → NoneRefused IsRedeclared (all_declared (above ++ more)) → NoneRefused IsRedeclared (all_declared above)
none_redeclared_above above more none before after x f e =
    none before (after ++ all_declared more) x f (declared_go_on above more ∙ ap (λ zs. zs ++ all_declared more) e ∙ append_assoc before (x ∷ after) (all_declared more))

-- ---- the first pass, name by name

each_join : {A : Type 0} (R : List A → A → KindFault → Type 0) (done xs ys : List A) → EachFine R done xs → EachFine R (done ++ xs) ys → EachFine R done (xs ++ ys)
each_join {A} R done [] ys h k = let P : List A → Type 0 = λ zs. EachFine R zs ys in subst P (append-nil done) k
each_join {A} R done (x ∷ xs) ys h k = (h.0, each_join R (done ++ x ∷ []) xs ys h.1 (let P : List A → Type 0 = λ zs. EachFine R zs ys in subst P (sym (append_assoc done (x ∷ []) xs)) k))

not_redeclared : (before : List RawName) (n : RawName) → has_spelling (spellings before) n.spelling ≡ false → (f : KindFault) → ¬ (IsRedeclared before n f)
not_redeclared before n e f (redeclared h) = let both : false ≡ true = sym e ∙ h in cc both

-- a name that stands nowhere before is not refused, and one that does is the first that is refused
pub once_with_one_more : (before : List RawName) (n : RawName) → NoneRefused IsRedeclared before → has_spelling (spellings before) n.spelling ≡ false → NoneRefused IsRedeclared (before ++ n ∷ [])
once_with_one_more before n none e =
    none_refused IsRedeclared (before ++ n ∷ []) (each_join IsRedeclared [] before (n ∷ []) (each_of_none IsRedeclared [] before none) (not_redeclared before n e, tt))

pub redeclared_first : (before after : List RawName) (n : RawName) → NoneRefused IsRedeclared before → has_spelling (spellings before) n.spelling ≡ true →
    IsFirstRefused IsRedeclared (before ++ n ∷ after) n DeclaredTwice
redeclared_first before after n none e = record { before = before; after = after; stands = refl; refused = redeclared e; lowest = lowest; none_before = none }
  where
    lowest : (g : KindFault) → IsRedeclared before n g → 2 ≤ fault_number g
    lowest g (redeclared h) = omega arith

pub redeclared_is_refusal : (raw : RawScript) (before after : List RawName) (n : RawName) → all_declared raw ≡ before ++ n ∷ after →
    NoneRefused IsRedeclared before → has_spelling (spellings before) n.spelling ≡ true →
    IsKindRefusal raw DeclaredTwice n.place
redeclared_is_refusal raw before after n is none e =
    let P : List RawName → Type 0 = λ all. IsFirstRefused IsRedeclared all n DeclaredTwice in in_first_pass (subst P (sym is) (redeclared_first before after n none e))

-- ---- numbers go on

pub numbered_one_more : (class : Class) (n : ℕ) (xs : List RawName) (x : RawName) → numbered_rows class n (xs ++ x ∷ []) ≡ numbered_rows class n xs ++ (x.spelling, Declared class (n + length xs)) ∷ []
numbered_one_more class n [] x = let e : n ≡ n + 0 = omega arith in ap (λ k. (x.spelling, Declared class k) ∷ []) e
numbered_one_more class n (y ∷ xs) x =
    let e : suc n + length xs ≡ n + suc (length xs) = omega arith in
    ap (λ rows. (y.spelling, Declared class n) ∷ rows) (numbered_one_more class (suc n) xs x ∙ ap (λ k. numbered_rows class (suc n) xs ++ (x.spelling, Declared class k) ∷ []) e)

pub names_of_one_more : (class : Class) (above : RawScript) (d : RawDeclaration) → names_of class (above ++ d ∷ []) ≡ names_of class above ++ spellings (declared_as class d)
names_of_one_more class above d =
    ap spellings (flat_map-append (declared_as class) above (d ∷ []) ∙ ap (λ zs. flat_map (declared_as class) above ++ zs) (append-nil (declared_as class d)))
    ∙ map-append (λ n. n.spelling) (flat_map (declared_as class) above) (declared_as class d)

pub class_counts : (class : Class) (above : RawScript) (d : RawDeclaration) → length (names_of class (above ++ d ∷ [])) ≡ length (names_of class above) + length (declared_as class d)
class_counts class above d =
    ap length (names_of_one_more class above d) ∙ length-append (names_of class above) (spellings (declared_as class d))
    ∙ ap (λ k. length (names_of class above) + k) (length-map (declared_as class d) (λ n. n.spelling))
