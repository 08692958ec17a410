-- Kinds fit the sets so far just where the equations so far are solved.
use Rattle.std.proofs.Common.{◌≡◌, ℕ, zero, suc, ◌+◌, ◌≤◌, ◌<◌, List, [], ◌∷◌, ◌++◌, append-nil, length, length-append, map, take, drop, slice_get, Option, Some, refl, sym, ◌∙◌, ap, ap₂, subst, arith}
use Rattle.std.specs.Prelude.{⊤, flat_map, replicate, option_map, ◌↔◌}
use Rattle.theory_syntax.specs.Expression.{Expression}
use Rattle.theory_syntax.specs.Types.{Types}
use Rattle.theory_syntax.proofs.Places.{drop_at}
use Rattle.theory_semantics.specs.Kinds.Kind.{Kind, IntKind, Kinds, InTurn, BeginsInTurn, Each}
use Rattle.theory_text.specs.Raw.{RawName, RawDomain, RawClause, RawDeclaration, RawDatatype, RawNametype, RawChannels, RawScript}
use Rattle.theory_checking.specs.Names.{constructor_fields}
use Rattle.theory_checking.specs.Sets.{behind_each, set_expression, clause_sets, nametypes_declared, clauses_declared, channels_declared, nametype_sets, constructor_sets, channel_sets, IsSetOf, FitSets}
use Rattle.theory_checking.specs.Sites.{with_clause}
use Rattle.theory_checking.specs.Rules.{parameters_declared, SomeFit}
use Rattle.theory_checking.specs.Inference.Chain.{Assignment}
use Rattle.theory_checking.specs.Inference.State.{State, nothing_known, KindEquation, IsSolved, HasNoSolution}
use Rattle.theory_checking.specs.Inference.Equations.{Ask, Numbering, kinds_under, IsBelow, AreOwners}
use Rattle.theory_checking.specs.Inference.Items.{behind_set, of_set, behind_copies, of_copies, HaveShape, AreNumbersFor}
use Rattle.theory_checking.specs.Inference.Sets.{FitFirstSets, IsBeginningOf, IsColumn}
use Rattle.std.proofs.lemmas.Option.{slice_get-map}
use Rattle.std.proofs.lemmas.List.{append_assoc, map-append, length-map}
use Rattle.theory_semantics.proofs.Misfits.{each_got}
use Rattle.theory_checking.proofs.AskingExpressions.{hangs}
use Rattle.theory_semantics.proofs.Misfits.{in_turn_length, begins}
use Rattle.theory_semantics.proofs.KindedSets.{begins_all}
use Rattle.theory_checking.proofs.ScriptThere.{behind-append, behind_one_more}
use Rattle.theory_checking.proofs.FitsAbove.{taken_front}
use Rattle.theory_checking.proofs.Meant.{at_place}
use Rattle.theory_checking.proofs.Sizes.{sizes_of_constructors}
use Rattle.theory_checking.proofs.UsedAbove.{SetSized, sized_kept, AllSetsSized, all_sized, first_sized, own_table, fields_below}
use Rattle.theory_checking.proofs.Asking.{each_less, fixed_numbers, ask_nothing, ask_same, ask_both, below_more, asked_none, asked_some}
use Rattle.theory_checking.proofs.AskingItems.{repeated, repeated_rows, rows_counted, set_asked, set_hangs_on}

-- ---- from the first kinds of many to those of the sets so far

begin_turn : {A B : Type 0} (R S : A → B → Type 0) (P : A → Type 0) → ((x : A) → P x → (y : B) → R x y → S x y) → (xs : List A) (ys : List B) → Each P xs →
    BeginsInTurn R xs ys → InTurn S xs (take (length xs) ys)
begin_turn R S P f [] ys each h = tt
begin_turn R S P f (x ∷ xs) [] each h = absurd h
begin_turn R S P f (x ∷ xs) (y ∷ ys) each h = (f x each.0 y h.0, begin_turn R S P f xs ys each.1 h.1)

-- each row cut to the length of its partner
abbrev cut_rows : {A B : Type 0} → List (List A) → List (List B) → List (List B)
cut_rows [] kss = []
cut_rows (r ∷ rows) [] = []
cut_rows (r ∷ rows) (ks ∷ kss) = take (length r) ks ∷ cut_rows rows kss

begin_rows : {A B : Type 0} (R S : A → B → Type 0) (P : A → Type 0) → ((x : A) → P x → (y : B) → R x y → S x y) →
    (rows : List (List A)) (kss : List (List B)) → Each (Each P) rows → BeginsInTurn (BeginsInTurn R) rows kss →
    InTurn (InTurn S) rows (cut_rows rows kss)
begin_rows R S P f [] kss each h = tt
begin_rows R S P f (r ∷ rows) [] each h = absurd h
begin_rows R S P f (r ∷ rows) (ks ∷ kss) each h = (begin_turn R S P f r ks each.0 h.0, begin_rows R S P f rows kss each.1 h.1)

take_whole : {A : Type 0} (xs : List A) → take (length xs) xs ≡ xs
take_whole [] = refl
take_whole (x ∷ xs) = ap (λ z. x ∷ z) (take_whole xs)

-- a row of so many fields stays as it is
cut_whole : {A : Type 0} (rows : List (List A)) (kss : List (List Kind)) (c p : ℕ) (ks : List Kind) → slice_get (map length rows) c ≡ Some p → length ks ≡ p →
    slice_get kss c ≡ Some ks → slice_get (cut_rows rows kss) c ≡ Some ks
cut_whole [] kss c p ks got same e = absurd (cc got)
cut_whole (r ∷ rows) [] c p ks got same e = absurd (cc e)
cut_whole (r ∷ rows) (js ∷ kss) zero p ks got same e =
    let q : length r ≡ p = cc got in let is : js ≡ ks = cc e in ap Some (ap (take (length r)) is ∙ ap (λ n. take n ks) (q ∙ sym same) ∙ take_whole ks)
cut_whole (r ∷ rows) (js ∷ kss) (suc c) p ks got same e = cut_whole rows kss c p ks got same e

pub first_sets_fit : (types : Types) (so_far : RawScript) (kinds : Kinds) → FitFirstSets types so_far kinds → SomeFit types so_far
first_sets_fit types so_far kinds h = (
  cut,
  record {
    nametypes = begin_turn (IsSetOf types kinds) (IsSetOf types cut) (SetSized m ls) kept (nametype_sets so_far) kinds.nametypes sized.nametypes h.nametypes;
    constructors = begin_rows (IsSetOf types kinds) (IsSetOf types cut) (SetSized m ls) kept (constructor_sets so_far) kinds.constructors sized.constructors h.constructors;
    channels = begin_rows (IsSetOf types kinds) (IsSetOf types cut) (SetSized m ls) kept (channel_sets so_far) kinds.channels sized.channels h.channels;
  },
)
  where
    m : ℕ
    m = length (nametype_sets so_far)

    ls : List ℕ
    ls = flat_map constructor_fields so_far

    cut : Kinds
    cut = record {
      nametypes = take m kinds.nametypes;
      constructors = cut_rows (constructor_sets so_far) kinds.constructors;
      channels = cut_rows (channel_sets so_far) kinds.channels;
      parameters = kinds.parameters;
    }

    sized : AllSetsSized m ls so_far
    sized = all_sized m ls so_far (own_table so_far)

    kept : (e : Option Expression) → SetSized m ls e → (k : Kind) → IsSetOf types kinds e k → IsSetOf types cut e k
    kept = sized_kept types kinds cut m ls (λ n small k e. taken_front kinds.nametypes m n k small e)
        (λ c p got ks same e. cut_whole (constructor_sets so_far) kinds.constructors c p ks (ap (λ z. slice_get z c) (sizes_of_constructors so_far) ∙ got) same e)

-- ---- from the kinds of the sets so far to kinds for the tree

abbrev pad_row : List Kind → ℕ → List Kind
pad_row ks zero = []
pad_row [] (suc n) = IntKind ∷ pad_row [] n
pad_row (k ∷ ks) (suc n) = k ∷ pad_row ks n

padded_length : (ks : List Kind) (n : ℕ) → length (pad_row ks n) ≡ n
padded_length ks zero = refl
padded_length [] (suc n) = ap suc (padded_length [] n)
padded_length (k ∷ ks) (suc n) = ap suc (padded_length ks n)

padded_found : (ks : List Kind) (n i : ℕ) (k : Kind) → length ks ≤ n → slice_get ks i ≡ Some k → slice_get (pad_row ks n) i ≡ Some k
padded_found [] n i k le e = absurd (cc e)
padded_found (j ∷ ks) zero i k le e = absurd (omega arith)
padded_found (j ∷ ks) (suc n) zero k le e = e
padded_found (j ∷ ks) (suc n) (suc i) k le e = padded_found ks n i k (omega arith) e

padded_begins : {A : Type 0} (R S : A → Kind → Type 0) (P : A → Type 0) → ((x : A) → P x → (y : Kind) → R x y → S x y) → (xs : List A) (ks : List Kind) (n : ℕ) → length xs ≤ n →
    Each P xs → InTurn R xs ks → BeginsInTurn S xs (pad_row ks n)
padded_begins R S P f [] ks n le each h = tt
padded_begins R S P f (x ∷ xs) [] n le each h = absurd h
padded_begins R S P f (x ∷ xs) (k ∷ ks) zero le each h = absurd (omega (arith, le))
padded_begins R S P f (x ∷ xs) (k ∷ ks) (suc n) le each h = (f x each.0 k h.0, padded_begins R S P f xs ks n (omega (arith, le)) each.1 h.1)

abbrev pad_rows : List (List Kind) → List ℕ → List (List Kind)
pad_rows kss [] = []
pad_rows [] (l ∷ ls) = pad_row [] l ∷ pad_rows [] ls
pad_rows (ks ∷ kss) (l ∷ ls) = pad_row ks l ∷ pad_rows kss ls

padded_lengths : (kss : List (List Kind)) (ls : List ℕ) → map length (pad_rows kss ls) ≡ ls
padded_lengths kss [] = refl
padded_lengths [] (l ∷ ls) = ap₂ ◌∷◌ (padded_length [] l) (padded_lengths [] ls)
padded_lengths (ks ∷ kss) (l ∷ ls) = ap₂ ◌∷◌ (padded_length ks l) (padded_lengths kss ls)

padded_rows_begin : {A : Type 0} (R S : A → Kind → Type 0) (P : A → Type 0) → ((x : A) → P x → (y : Kind) → R x y → S x y) →
    (rows : List (List A)) (kss : List (List Kind)) (others : List (List A)) → BeginsInTurn (λ r s. length r ≤ length s) rows others →
    Each (Each P) rows → InTurn (InTurn R) rows kss → BeginsInTurn (BeginsInTurn S) rows (pad_rows kss (map length others))
padded_rows_begin R S P f [] kss others le each h = tt
padded_rows_begin R S P f (r ∷ rows) [] others le each h = absurd h
padded_rows_begin R S P f (r ∷ rows) (ks ∷ kss) [] le each h = absurd le
padded_rows_begin R S P f (r ∷ rows) (ks ∷ kss) (s ∷ others) le each h =
    (padded_begins R S P f r ks (length s) le.0 each.0 h.0, padded_rows_begin R S P f rows kss others le.1 each.1 h.1)

pad_whole : (ks : List Kind) → pad_row ks (length ks) ≡ ks
pad_whole [] = refl
pad_whole (k ∷ ks) = ap (λ z. k ∷ z) (pad_whole ks)

padded_whole : (kss : List (List Kind)) (ls : List ℕ) (c p : ℕ) (ks : List Kind) → slice_get ls c ≡ Some p → length ks ≡ p → slice_get kss c ≡ Some ks → slice_get (pad_rows kss ls) c ≡ Some ks
padded_whole kss [] c p ks got same e = absurd (cc got)
padded_whole [] (l ∷ ls) c p ks got same e = absurd (cc e)
padded_whole (js ∷ kss) (l ∷ ls) zero p ks got same e =
    let q : l ≡ p = cc got in let is : js ≡ ks = cc e in ap Some (ap (λ z. pad_row z l) is ∙ ap (pad_row ks) (q ∙ sym same) ∙ pad_whole ks)
padded_whole (js ∷ kss) (l ∷ ls) (suc c) p ks got same e = padded_whole kss ls c p ks got same e

pub padded : (types : Types) (raw so_far : RawScript) → IsBeginningOf raw so_far → SomeFit types so_far → (kinds : Kinds) × HaveShape raw kinds × FitFirstSets types so_far kinds
padded types raw so_far begins fit = (
  full,
  record {
    nametypes = padded_length fit.0.nametypes (length (nametype_sets raw));
    constructors = padded_lengths fit.0.constructors (map length (constructor_sets raw));
    channels = padded_lengths fit.0.channels (map length (channel_sets raw));
    parameters = repeated_rows (flat_map parameters_declared raw);
  },
  record {
    nametypes = padded_begins (IsSetOf types fit.0) (IsSetOf types full) (SetSized m ls) kept (nametype_sets so_far) fit.0.nametypes (length (nametype_sets raw)) begins.nametypes
        sized.nametypes fit.1.nametypes;
    constructors = padded_rows_begin (IsSetOf types fit.0) (IsSetOf types full) (SetSized m ls) kept (constructor_sets so_far) fit.0.constructors (constructor_sets raw) begins.constructors
        sized.constructors fit.1.constructors;
    channels = padded_rows_begin (IsSetOf types fit.0) (IsSetOf types full) (SetSized m ls) kept (channel_sets so_far) fit.0.channels (channel_sets raw) begins.channels
        sized.channels fit.1.channels;
  },
)
  where
    m : ℕ
    m = length (nametype_sets begins.above)

    ls : List ℕ
    ls = flat_map constructor_fields begins.above

    full : Kinds
    full = record {
      nametypes = pad_row fit.0.nametypes (length (nametype_sets raw));
      constructors = pad_rows fit.0.constructors (map length (constructor_sets raw));
      channels = pad_rows fit.0.channels (map length (channel_sets raw));
      parameters = map repeated (flat_map parameters_declared raw);
    }

    sized : AllSetsSized m ls so_far
    sized = subst (AllSetsSized m ls) (sym begins.stands) (first_sized m ls begins.above begins.last begins.one (own_table begins.above))

    small : length fit.0.nametypes ≤ length (nametype_sets raw)
    small =
        let e : length (nametype_sets so_far) ≡ length fit.0.nametypes = in_turn_length (IsSetOf types fit.0) (nametype_sets so_far) fit.0.nametypes fit.1.nametypes in
        let le : length (nametype_sets so_far) ≤ length (nametype_sets raw) = begins.nametypes in omega (arith, e, le)

    -- a constructor above has as many fields in the tree
    in_tree : (c p : ℕ) → slice_get ls c ≡ Some p → slice_get (map length (constructor_sets raw)) c ≡ Some p
    in_tree c p got = ap (λ z. slice_get z c) (sizes_of_constructors raw ∙ ap (flat_map constructor_fields) begins.in_tree) ∙ fields_below begins.above begins.below c p got

    kept : (e : Option Expression) → SetSized m ls e → (k : Kind) → IsSetOf types fit.0 e k → IsSetOf types full e k
    kept = sized_kept types fit.0 full m ls (λ n within k e. padded_found fit.0.nametypes (length (nametype_sets raw)) n k small e)
        (λ c p got ks same e. padded_whole fit.0.constructors (map length (constructor_sets raw)) c p ks (in_tree c p got) same e)

-- ---- the equations so far

module _ (types : Types) (raw so_far : RawScript) (o : Numbering) (n m : ℕ) (es : List KindEquation) (numbers : AreNumbersFor raw n o)
    (sets : Ask n es m (λ a. FitFirstSets types so_far (kinds_under a o))) where
  pub some_first_fit : (t : State) → IsSolved nothing_known es t → SomeFit types so_far
  some_first_fit t solved = let x = asked_some n m es (λ a. FitFirstSets types so_far (kinds_under a o)) sets t solved in first_sets_fit types so_far (kinds_under x.0 o) x.2

  pub no_first_fit : IsBeginningOf raw so_far → HasNoSolution nothing_known es → ¬ (SomeFit types so_far)
  no_first_fit begins none fit =
      let f = padded types raw so_far begins fit in
      let c = numbers.cover f.0 f.1 in
      asked_none n m es (λ a. FitFirstSets types so_far (kinds_under a o)) sets none c.0 (subst (FitFirstSets types so_far) (sym c.1) f.2)

-- ---- one declaration more, and all

begins_both : {A B : Type 0} (P : A → B → Type 0) (xs ys : List A) (zs : List B) → BeginsInTurn P (xs ++ ys) zs ↔ (BeginsInTurn P xs zs × BeginsInTurn P ys (drop (length xs) zs))
begins_both P [] ys zs = (λ h. (tt, h), λ h. h.1)
begins_both P (x ∷ xs) ys [] = (λ h. absurd h, λ h. absurd h.0)
begins_both P (x ∷ xs) ys (z ∷ zs) = let rest = begins_both P xs ys zs in (λ h. let r = rest.0 h.1 in ((h.0, r.0), r.1), λ h. (h.0.0, rest.1 (h.0.1, h.1)))

rows_all : {A B : Type 0} (P : A → B → Type 0) (xs : List (List A)) (ys : List (List B)) → map length ys ≡ map length xs → BeginsInTurn (BeginsInTurn P) xs ys → InTurn (InTurn P) xs ys
rows_all P [] [] e h = tt
rows_all P [] (y ∷ ys) e h = absurd (cc e)
rows_all P (x ∷ xs) [] e h = absurd h
rows_all P (x ∷ xs) (y ∷ ys) e h = let first : length y ≡ length x = cc e in let rest : map length ys ≡ map length xs = cc e in (begins_all P x y h.0 (sym first), rows_all P xs ys rest h.1)

pub all_sets_fit : (types : Types) (raw : RawScript) (kinds : Kinds) → HaveShape raw kinds → FitFirstSets types raw kinds → FitSets types raw kinds
all_sets_fit types raw kinds shape h = record {
  nametypes = begins_all (IsSetOf types kinds) (nametype_sets raw) kinds.nametypes h.nametypes (sym shape.nametypes);
  constructors = rows_all (IsSetOf types kinds) (constructor_sets raw) kinds.constructors shape.constructors h.constructors;
  channels = rows_all (IsSetOf types kinds) (channel_sets raw) kinds.channels shape.channels h.channels;
}

pub one_declaration_more : (types : Types) (above : RawScript) (d : RawDeclaration) (kinds : Kinds) →
    FitFirstSets types (above ++ d ∷ []) kinds ↔
    (FitFirstSets types above kinds × BeginsInTurn (IsSetOf types kinds) (nametypes_declared above d) (drop (length (nametype_sets above)) kinds.nametypes) ×
    BeginsInTurn (BeginsInTurn (IsSetOf types kinds)) (clauses_declared above d) (drop (length (constructor_sets above)) kinds.constructors) ×
    BeginsInTurn (BeginsInTurn (IsSetOf types kinds)) (channels_declared above d) (drop (length (channel_sets above)) kinds.channels))
one_declaration_more types above d kinds =
    let e = behind_one_more nametypes_declared above d in
    let g = behind_one_more clauses_declared above d in
    let f = behind_one_more channels_declared above d in
    let p = begins_both (IsSetOf types kinds) (nametype_sets above) (nametypes_declared above d) kinds.nametypes in
    let r = begins_both (BeginsInTurn (IsSetOf types kinds)) (constructor_sets above) (clauses_declared above d) kinds.constructors in
    let q = begins_both (BeginsInTurn (IsSetOf types kinds)) (channel_sets above) (channels_declared above d) kinds.channels in (
      λ h.
          let x = p.0 (subst (λ z. BeginsInTurn (IsSetOf types kinds) z kinds.nametypes) e h.nametypes) in
          let w = r.0 (subst (λ z. BeginsInTurn (BeginsInTurn (IsSetOf types kinds)) z kinds.constructors) g h.constructors) in
          let y = q.0 (subst (λ z. BeginsInTurn (BeginsInTurn (IsSetOf types kinds)) z kinds.channels) f h.channels) in
          (record { nametypes = x.0; constructors = w.0; channels = y.0 }, x.1, w.1, y.1),
      λ h. record {
        nametypes = subst (λ z. BeginsInTurn (IsSetOf types kinds) z kinds.nametypes) (sym e) (p.1 (h.0.nametypes, h.1));
        constructors = subst (λ z. BeginsInTurn (BeginsInTurn (IsSetOf types kinds)) z kinds.constructors) (sym g) (r.1 (h.0.constructors, h.2));
        channels = subst (λ z. BeginsInTurn (BeginsInTurn (IsSetOf types kinds)) z kinds.channels) (sym f) (q.1 (h.0.channels, h.3));
      },
    )

shape_under : (raw : RawScript) (n : ℕ) (o : Numbering) (a : Assignment) → AreNumbersFor raw n o → HaveShape raw (kinds_under a o)
shape_under raw n o a numbers = record {
  nametypes = length-map o.nametypes a ∙ numbers.nametypes;
  constructors = rows_counted a o.constructors ∙ numbers.constructors;
  channels = rows_counted a o.channels ∙ numbers.channels;
  parameters = rows_counted a o.parameters ∙ numbers.parameters;
}

rows_front : {A B : Type 0} (P : A → B → Type 0) (xs : List (List A)) (ys : List (List B)) → InTurn (InTurn P) xs ys → BeginsInTurn (BeginsInTurn P) xs ys
rows_front P [] [] h = tt
rows_front P [] (y ∷ ys) h = absurd h
rows_front P (x ∷ xs) [] h = absurd h
rows_front P (x ∷ xs) (y ∷ ys) h = (begins P x y h.0, rows_front P xs ys h.1)

pub all_asked : (types : Types) (raw : RawScript) (o : Numbering) (n m : ℕ) (es : List KindEquation) → AreNumbersFor raw n o →
    Ask n es m (λ a. FitFirstSets types raw (kinds_under a o)) → Ask n es m (λ a. FitSets types raw (kinds_under a o))
all_asked types raw o n m es numbers h =
    ask_same n m es (λ a. FitFirstSets types raw (kinds_under a o)) (λ a. FitSets types raw (kinds_under a o)) h (λ a x. all_sets_fit types raw (kinds_under a o) (shape_under raw n o a numbers) x)
    (λ a x. record {
      nametypes = begins (IsSetOf types (kinds_under a o)) (nametype_sets raw) (kinds_under a o).nametypes x.nametypes;
      constructors = rows_front (IsSetOf types (kinds_under a o)) (constructor_sets raw) (kinds_under a o).constructors x.constructors;
      channels = rows_front (IsSetOf types (kinds_under a o)) (channel_sets raw) (kinds_under a o).channels x.channels;
    })

-- nothing is asked before the first declaration
pub none_asked : (types : Types) (o : Numbering) (n : ℕ) → Ask n [] n (λ a. FitFirstSets types [] (kinds_under a o))
none_asked types o n = ask_same n n [] (λ a. ⊤) (λ a. FitFirstSets types [] (kinds_under a o)) (ask_nothing n) (λ a x. record { nametypes = tt; constructors = tt; channels = tt }) (λ a x. tt)

pub nametype_asked : (types : Types) (above : RawScript) (o : Numbering) (n m x : ℕ) (es : List KindEquation) (name : RawName) (domain : RawDomain) →
    AreOwners types o → IsBelow n o → slice_get o.nametypes (length (nametype_sets above)) ≡ Some x →
    Ask n es m (λ a. FitFirstSets types above (kinds_under a o)) →
    Ask n (es ++ of_set types o m (set_expression above domain) x) (behind_set m (set_expression above domain)) (λ a. FitFirstSets types (above ++ RawNametype name domain ∷ []) (kinds_under a o))
nametype_asked types above o n m x es name domain owners below found h =
    let e = set_expression above domain in
    let small : x < n = each_got (λ i. i < n) o.nametypes (length (nametype_sets above)) x below.nametypes found in
    let le : n ≤ m = h.rising in
    ask_same n (behind_set m e) (es ++ of_set types o m e x) (λ a. FitFirstSets types above (kinds_under a o) × IsSetOf types (kinds_under a o) e (a x))
    (λ a. FitFirstSets types (above ++ RawNametype name domain ∷ []) (kinds_under a o))
    (ask_both n m (behind_set m e) es (of_set types o m e x) (λ a. FitFirstSets types above (kinds_under a o)) (λ a. IsSetOf types (kinds_under a o) e (a x)) h
    (set_asked types o owners m e x (below_more n m o le below) (omega arith)) (set_hangs_on types o owners n e x below small))
    (λ a y. (one_declaration_more types above (RawNametype name domain) (kinds_under a o)).1
    (y.0, subst (λ z. BeginsInTurn (IsSetOf types (kinds_under a o)) (e ∷ []) z) (sym (tail_of a)) (y.1, tt), tt, tt))
    (λ a y.
    let z = (one_declaration_more types above (RawNametype name domain) (kinds_under a o)).0 y in
    let w : BeginsInTurn (IsSetOf types (kinds_under a o)) (e ∷ []) (a x ∷ drop (suc (length (nametype_sets above))) (map a o.nametypes)) =
    subst (λ z. BeginsInTurn (IsSetOf types (kinds_under a o)) (e ∷ []) z) (tail_of a) z.1 in (z.0, w.0))
  where
    tail_of : (a : Assignment) → drop (length (nametype_sets above)) (map a o.nametypes) ≡ a x ∷ drop (suc (length (nametype_sets above))) (map a o.nametypes)
    tail_of a = drop_at (map a o.nametypes) (length (nametype_sets above)) (a x) (slice_get-map a o.nametypes (length (nametype_sets above)) ∙ ap (option_map a) found)

-- ---- declarations of channels, field by field

drop_mapped : {A B : Type 0} (f : A → B) (n : ℕ) (xs : List A) → drop n (map f xs) ≡ map f (drop n xs)
drop_mapped f zero xs = refl
drop_mapped f (suc n) [] = refl
drop_mapped f (suc n) (x ∷ xs) = drop_mapped f n xs

module _ (P : Option Expression → Kind → Type 0) (a : Assignment) (fs : List (Option Expression)) (e : Option Expression) where
  row_more : (row : List ℕ) (m : ℕ) → slice_get row (length fs) ≡ Some m → BeginsInTurn P (fs ++ e ∷ []) (map a row) ↔ (BeginsInTurn P fs (map a row) × P e (a m))
  row_more row m found =
      let both = begins_both P fs (e ∷ []) (map a row) in
      let is = drop_at (map a row) (length fs) (a m) (slice_get-map a row (length fs) ∙ ap (option_map a) found) in (
        λ h. let x = both.0 h in let y : BeginsInTurn P (e ∷ []) (a m ∷ drop (suc (length fs)) (map a row)) = subst (λ z. BeginsInTurn P (e ∷ []) z) is x.1 in (x.0, y.0),
        λ h. both.1 (h.0, subst (λ z. BeginsInTurn P (e ∷ []) z) (sym is) (h.1, tt)),
      )

  rows_more : (names : List RawName) (ms : List ℕ) (rows : List (List ℕ)) → length ms ≡ length names → IsColumn (length fs) ms rows →
      BeginsInTurn (BeginsInTurn P) (replicate (length names) (fs ++ e ∷ [])) (map (map a) rows)
      ↔ (BeginsInTurn (BeginsInTurn P) (replicate (length names) fs) (map (map a) rows) × Each (P e) (map a ms))
  rows_more [] [] rows same column = (λ h. (tt, tt), λ h. tt)
  rows_more [] (m ∷ ms) rows same column = absurd (cc same)
  rows_more (x ∷ names) [] rows same column = absurd (cc same)
  rows_more (x ∷ names) (m ∷ ms) [] same column = absurd column
  rows_more (x ∷ names) (m ∷ ms) (row ∷ rows) same column =
      let first = row_more row m column.0 in
      let rest = rows_more names ms rows (cc same) column.1 in
      (λ h. let u = first.0 h.0 in let v = rest.0 h.1 in ((u.0, v.0), (u.1, v.1)), λ h. (first.1 (h.0.0, h.1.0), rest.1 (h.0.1, h.1.1)))

module _ (types : Types) (o : Numbering) (owners : AreOwners types o) where
  copies_asked : (n : ℕ) (e : Option Expression) (ms : List ℕ) → IsBelow n o → Each (λ m. m < n) ms →
      Ask n (of_copies types o n e ms) (behind_copies n e ms) (λ a. Each (IsSetOf types (kinds_under a o) e) (map a ms))
  copies_asked n e [] below small = ask_nothing n
  copies_asked n e (m ∷ ms) below small =
      let p = behind_set n e in
      let first = set_asked types o owners n e m below small.0 in
      ask_both n p (behind_copies p e ms) (of_set types o n e m) (of_copies types o p e ms) (λ a. IsSetOf types (kinds_under a o) e (a m))
      (λ a. Each (IsSetOf types (kinds_under a o) e) (map a ms)) first
      (copies_asked p e ms (below_more n p o first.rising below) (each_less n p ms first.rising small.1))
      (hangs types o owners n [] (λ K S ks. Each (IsSetOf types K e) ks) (λ a. map a ms) (below, tt) (fixed_numbers n ms small.1))

  column_small : (n i : ℕ) (ms : List ℕ) (rows : List (List ℕ)) → Each (Each (λ m. m < n)) rows → IsColumn i ms rows → Each (λ m. m < n) ms
  column_small n i [] rows small h = tt
  column_small n i (m ∷ ms) [] small h = absurd h
  column_small n i (m ∷ ms) (row ∷ rows) small h = (each_got (λ k. k < n) row i m small.0 h.0, column_small n i ms rows small.1 h.1)

  drop_each : (P : List ℕ → Type 0) (n : ℕ) (xs : List (List ℕ)) → Each P xs → Each P (drop n xs)
  drop_each P zero xs h = h
  drop_each P (suc n) [] h = tt
  drop_each P (suc n) (x ∷ xs) h = drop_each P n xs h.1

  module _ (above : RawScript) (names : List RawName) (ds : List RawDomain) (d : RawDomain) (ms : List ℕ) (same : length ms ≡ length names)
      (column : IsColumn (length ds) ms (drop (length (channel_sets above)) o.channels)) where
    -- one more field, for the kinds
    field_more : (a : Assignment) → FitFirstSets types (above ++ RawChannels names (ds ++ d ∷ []) ∷ []) (kinds_under a o) ↔
        (FitFirstSets types (above ++ RawChannels names ds ∷ []) (kinds_under a o) × Each (IsSetOf types (kinds_under a o) (set_expression above d)) (map a ms))
    field_more a =
        let K = kinds_under a o in
        let fs = map (set_expression above) ds in
        let e = set_expression above d in
        let c = length (channel_sets above) in
        let here : IsColumn (length fs) ms (drop c o.channels) = subst (λ i. IsColumn i ms (drop c o.channels)) (sym (length-map ds (set_expression above))) column in
        let long = one_declaration_more types above (RawChannels names (ds ++ d ∷ [])) K in
        let short = one_declaration_more types above (RawChannels names ds) K in
        let more = rows_more (IsSetOf types K) a fs e names ms (drop c o.channels) same here in
        let moved : map (set_expression above) (ds ++ d ∷ []) ≡ fs ++ e ∷ [] = map-append (set_expression above) ds (d ∷ []) in
        let away : drop c (map (map a) o.channels) ≡ map (map a) (drop c o.channels) = drop_mapped (map a) c o.channels in (
          λ h.
              let x = long.0 h in
              let y : BeginsInTurn (BeginsInTurn (IsSetOf types K)) (replicate (length names) (fs ++ e ∷ [])) (map (map a) (drop c o.channels)) =
              subst (λ z. BeginsInTurn (BeginsInTurn (IsSetOf types K)) (replicate (length names) (fs ++ e ∷ [])) z) away
              (subst (λ z. BeginsInTurn (BeginsInTurn (IsSetOf types K)) (replicate (length names) z) (drop c (map (map a) o.channels))) moved x.3) in
              let w = more.0 y in (short.1 (x.0, tt, tt, subst (λ z. BeginsInTurn (BeginsInTurn (IsSetOf types K)) (replicate (length names) fs) z) (sym away) w.0), w.1),
          λ h.
              let x = short.0 h.0 in
              let y = more.1 (subst (λ z. BeginsInTurn (BeginsInTurn (IsSetOf types K)) (replicate (length names) fs) z) away x.3, h.1) in
              long.1 (
                x.0,
                tt,
                tt,
                subst (λ z. BeginsInTurn (BeginsInTurn (IsSetOf types K)) (replicate (length names) z) (drop c (map (map a) o.channels))) (sym moved)
                    (subst (λ z. BeginsInTurn (BeginsInTurn (IsSetOf types K)) (replicate (length names) (fs ++ e ∷ [])) z) (sym away) y),
              ),
        )

    pub field_asked : (n m : ℕ) (es : List KindEquation) → IsBelow n o → Ask n es m (λ a. FitFirstSets types (above ++ RawChannels names ds ∷ []) (kinds_under a o)) →
        Ask n (es ++ of_copies types o m (set_expression above d) ms) (behind_copies m (set_expression above d) ms)
        (λ a. FitFirstSets types (above ++ RawChannels names (ds ++ d ∷ []) ∷ []) (kinds_under a o))
    field_asked n m es below h =
        let e = set_expression above d in
        let small = column_small n (length ds) ms (drop (length (channel_sets above)) o.channels) (drop_each (Each (λ m. m < n)) (length (channel_sets above)) o.channels below.channels) column in
        ask_same n (behind_copies m e ms) (es ++ of_copies types o m e ms)
        (λ a. FitFirstSets types (above ++ RawChannels names ds ∷ []) (kinds_under a o) × Each (IsSetOf types (kinds_under a o) e) (map a ms))
        (λ a. FitFirstSets types (above ++ RawChannels names (ds ++ d ∷ []) ∷ []) (kinds_under a o))
        (ask_both n m (behind_copies m e ms) es (of_copies types o m e ms) (λ a. FitFirstSets types (above ++ RawChannels names ds ∷ []) (kinds_under a o))
        (λ a. Each (IsSetOf types (kinds_under a o) e) (map a ms)) h
        (copies_asked m e ms (below_more n m o h.rising below) (each_less n m ms h.rising small))
        (hangs types o owners n [] (λ K S ks. Each (IsSetOf types K e) ks) (λ a. map a ms) (below, tt) (fixed_numbers n ms small)))
        (λ a x. (field_more a).1 x) (λ a x. (field_more a).0 x)

-- ---- datatypes, clause by clause and field by field

begins_last : {A B : Type 0} (P : A → B → Type 0) (xs : List A) (y : A) (zs : List B) (z : B) → slice_get zs (length xs) ≡ Some z → BeginsInTurn P (xs ++ y ∷ []) zs ↔ (BeginsInTurn P xs zs × P y z)
begins_last P xs y zs z found =
    let both = begins_both P xs (y ∷ []) zs in
    let is = drop_at zs (length xs) z found in (
      λ h. let x = both.0 h in let w : BeginsInTurn P (y ∷ []) (z ∷ drop (suc (length xs)) zs) = subst (λ s. BeginsInTurn P (y ∷ []) s) is x.1 in (x.0, w.0),
      λ h. both.1 (h.0, subst (λ s. BeginsInTurn P (y ∷ []) s) (sym is) (h.1, tt)),
    )

-- the sets of the constructors before a clause
abbrev pub before_clause : RawScript → List RawClause → List (List (Option Expression))
before_clause above before = constructor_sets above ++ map (clause_sets above) before

before_counted : (above : RawScript) (before : List RawClause) → length (before_clause above before) ≡ length (constructor_sets above) + length before
before_counted above before = length-append (constructor_sets above) (map (clause_sets above) before) ∙ ap (λ n. length (constructor_sets above) + n) (length-map before (clause_sets above))

clause_rows : (above : RawScript) (name : RawName) (before : List RawClause) (c : RawName) (fs : List RawDomain) →
    constructor_sets (with_clause above name before c fs) ≡ before_clause above before ++ map (set_expression above) fs ∷ []
clause_rows above name before c fs =
    let x : RawClause = record { name = c; fields = fs } in
    behind_one_more clauses_declared above (RawDatatype name (before ++ x ∷ []))
    ∙ ap (λ z. constructor_sets above ++ z) (map-append (clause_sets above) before (x ∷ []))
    ∙ sym (append_assoc (constructor_sets above) (map (clause_sets above) before) (map (set_expression above) fs ∷ []))

module _ (types : Types) (o : Numbering) (above : RawScript) (name : RawName) (before : List RawClause) (c : RawName) (row : List ℕ)
    (found : slice_get o.constructors (length (constructor_sets above) + length before) ≡ Some row) where
  found_under : (a : Assignment) → slice_get (map (map a) o.constructors) (length (before_clause above before)) ≡ Some (map a row)
  found_under a =
      ap (slice_get (map (map a) o.constructors)) (before_counted above before)
      ∙ slice_get-map (map a) o.constructors (length (constructor_sets above) + length before) ∙ ap (option_map (map a)) found

  -- kinds fit the sets up to a clause just where they fit those before it and the first of its own
  clause_more : (a : Assignment) (fs : List RawDomain) → FitFirstSets types (with_clause above name before c fs) (kinds_under a o) ↔
      (FitFirstSets types (above ++ RawDatatype name before ∷ []) (kinds_under a o) × BeginsInTurn (IsSetOf types (kinds_under a o)) (map (set_expression above) fs) (map a row))
  clause_more a fs =
      let K = kinds_under a o in
      let x : RawClause = record { name = c; fields = fs } in
      let long = RawDatatype name (before ++ x ∷ []) in
      let short = RawDatatype name before in
      let e : nametype_sets (above ++ long ∷ []) ≡ nametype_sets (above ++ short ∷ []) = behind_one_more nametypes_declared above long ∙ sym (behind_one_more nametypes_declared above short) in
      let f : channel_sets (above ++ long ∷ []) ≡ channel_sets (above ++ short ∷ []) = behind_one_more channels_declared above long ∙ sym (behind_one_more channels_declared above short) in
      let g : constructor_sets (above ++ short ∷ []) ≡ before_clause above before = behind_one_more clauses_declared above short in
      let last = begins_last (BeginsInTurn (IsSetOf types K)) (before_clause above before) (map (set_expression above) fs) K.constructors (map a row) (found_under a) in (
        λ h.
            let y = last.0 (subst (λ z. BeginsInTurn (BeginsInTurn (IsSetOf types K)) z K.constructors) (clause_rows above name before c fs) h.constructors) in (
              record {
                nametypes = subst (λ z. BeginsInTurn (IsSetOf types K) z K.nametypes) e h.nametypes;
                constructors = subst (λ z. BeginsInTurn (BeginsInTurn (IsSetOf types K)) z K.constructors) (sym g) y.0;
                channels = subst (λ z. BeginsInTurn (BeginsInTurn (IsSetOf types K)) z K.channels) f h.channels;
              },
              y.1,
            ),
        λ h. record {
          nametypes = subst (λ z. BeginsInTurn (IsSetOf types K) z K.nametypes) (sym e) h.0.nametypes;
          constructors = subst (λ z. BeginsInTurn (BeginsInTurn (IsSetOf types K)) z K.constructors) (sym (clause_rows above name before c fs))
              (last.1 (subst (λ z. BeginsInTurn (BeginsInTurn (IsSetOf types K)) z K.constructors) g h.0.constructors, h.1));
          channels = subst (λ z. BeginsInTurn (BeginsInTurn (IsSetOf types K)) z K.channels) (sym f) h.0.channels;
        },
      )

  -- one more clause asks for nothing
  clause_heads : (n m : ℕ) (es : List KindEquation) → Ask n es m (λ a. FitFirstSets types (above ++ RawDatatype name before ∷ []) (kinds_under a o)) →
      Ask n es m (λ a. FitFirstSets types (with_clause above name before c []) (kinds_under a o))
  clause_heads n m es h =
      ask_same n m es (λ a. FitFirstSets types (above ++ RawDatatype name before ∷ []) (kinds_under a o)) (λ a. FitFirstSets types (with_clause above name before c []) (kinds_under a o)) h
      (λ a x. (clause_more a []).1 (x, tt)) (λ a y. ((clause_more a []).0 y).0)

  -- and one more field of it for its set
  pub clause_field_asked : (n m x : ℕ) (es : List KindEquation) (fs : List RawDomain) (d : RawDomain) → AreOwners types o → IsBelow n o → slice_get row (length fs) ≡ Some x →
      Ask n es m (λ a. FitFirstSets types (with_clause above name before c fs) (kinds_under a o)) →
      Ask n (es ++ of_set types o m (set_expression above d) x) (behind_set m (set_expression above d)) (λ a. FitFirstSets types (with_clause above name before c (fs ++ d ∷ [])) (kinds_under a o))
  clause_field_asked n m x es fs d owners below got h =
      let e = set_expression above d in
      let ss = map (set_expression above) fs in
      let i = length (constructor_sets above) + length before in
      let small : x < n = each_got (λ j. j < n) row (length fs) x (each_got (Each (λ j. j < n)) o.constructors i row below.constructors found) got in
      let le : n ≤ m = h.rising in
      let here : slice_get row (length ss) ≡ Some x = ap (slice_get row) (length-map fs (set_expression above)) ∙ got in
      let moved : map (set_expression above) (fs ++ d ∷ []) ≡ ss ++ e ∷ [] = map-append (set_expression above) fs (d ∷ []) in
      ask_same n (behind_set m e) (es ++ of_set types o m e x) (λ a. FitFirstSets types (with_clause above name before c fs) (kinds_under a o) × IsSetOf types (kinds_under a o) e (a x))
      (λ a. FitFirstSets types (with_clause above name before c (fs ++ d ∷ [])) (kinds_under a o))
      (ask_both n m (behind_set m e) es (of_set types o m e x) (λ a. FitFirstSets types (with_clause above name before c fs) (kinds_under a o)) (λ a. IsSetOf types (kinds_under a o) e (a x)) h
      (set_asked types o owners m e x (below_more n m o le below) (omega (arith, small, le))) (set_hangs_on types o owners n e x below small))
      (λ a y.
      let z = (clause_more a fs).0 y.0 in
      let r = row_more (IsSetOf types (kinds_under a o)) a ss e row x here in
      (clause_more a (fs ++ d ∷ [])).1 (z.0, subst (λ s. BeginsInTurn (IsSetOf types (kinds_under a o)) s (map a row)) (sym moved) (r.1 (z.1, y.1))))
      (λ a y.
      let z = (clause_more a (fs ++ d ∷ [])).0 y in
      let r = row_more (IsSetOf types (kinds_under a o)) a ss e row x here in
      let w = r.0 (subst (λ s. BeginsInTurn (IsSetOf types (kinds_under a o)) s (map a row)) moved z.1) in ((clause_more a fs).1 (z.0, w.0), w.1))

pub clause_asked : (types : Types) (o : Numbering) (above : RawScript) (name : RawName) (before : List RawClause) (c : RawName) (n m : ℕ) (es : List KindEquation) →
    length (constructor_sets above) + length before < length o.constructors → Ask n es m (λ a. FitFirstSets types (above ++ RawDatatype name before ∷ []) (kinds_under a o)) →
    Ask n es m (λ a. FitFirstSets types (with_clause above name before c []) (kinds_under a o))
clause_asked types o above name before c n m es small h =
    let there = at_place o.constructors (length (constructor_sets above) + length before) small in clause_heads types o above name before c there.0 there.1 n m es h

-- where kinds fit the clauses of a datatype, some fit the first ones and the first fields of the last of these
row_first : {A B : Type 0} (P : A → B → Type 0) (fs gs : List A) (ks : List B) → InTurn P (fs ++ gs) ks → BeginsInTurn P fs ks
row_first P [] gs ks h = tt
row_first P (f ∷ fs) gs [] h = absurd h
row_first P (f ∷ fs) gs (k ∷ ks) h = (h.0, row_first P fs gs ks h.1)

rows_first : {A B : Type 0} (P : A → B → Type 0) (front : List (List A)) (fs gs : List A) (others : List (List A)) (kss : List (List B)) →
    InTurn (InTurn P) (front ++ (fs ++ gs) ∷ others) kss → BeginsInTurn (BeginsInTurn P) (front ++ fs ∷ []) kss
rows_first P [] fs gs others [] h = absurd h
rows_first P [] fs gs others (ks ∷ kss) h = (row_first P fs gs ks h.0, tt)
rows_first P (r ∷ front) fs gs others [] h = absurd h
rows_first P (r ∷ front) fs gs others (ks ∷ kss) h = (begins P r ks h.0, rows_first P front fs gs others kss h.1)

pub fit_fewer_clauses : (types : Types) (above : RawScript) (name : RawName) (before rest : List RawClause) (constructor : RawName) (fields more : List RawDomain) →
    SomeFit types (above ++ RawDatatype name (before ++ record { name = constructor; fields = fields ++ more } ∷ rest) ∷ []) → SomeFit types (with_clause above name before constructor fields)
fit_fewer_clauses types above name before rest constructor fields more fit = first_sets_fit types short fit.0 (record {
  nametypes = subst (λ z. BeginsInTurn (IsSetOf types fit.0) z fit.0.nametypes) names (begins (IsSetOf types fit.0) (nametype_sets long) fit.0.nametypes fit.1.nametypes);
  constructors = subst (λ z. BeginsInTurn (BeginsInTurn (IsSetOf types fit.0)) z fit.0.constructors) (sym (clause_rows above name before constructor fields))
      (rows_first (IsSetOf types fit.0) (before_clause above before) fs gs others fit.0.constructors (subst (λ z. InTurn (InTurn (IsSetOf types fit.0)) z fit.0.constructors) rows fit.1.constructors));
  channels = subst (λ z. BeginsInTurn (BeginsInTurn (IsSetOf types fit.0)) z fit.0.channels) channels (rows_front (IsSetOf types fit.0) (channel_sets long) fit.0.channels fit.1.channels);
})
  where
    whole : RawClause
    whole = record { name = constructor; fields = fields ++ more }

    first : RawClause
    first = record { name = constructor; fields = fields }

    d : RawDeclaration
    d = RawDatatype name (before ++ whole ∷ rest)

    long : RawScript
    long = above ++ d ∷ []

    short : RawScript
    short = with_clause above name before constructor fields

    fs : List (Option Expression)
    fs = map (set_expression above) fields

    gs : List (Option Expression)
    gs = map (set_expression above) more

    others : List (List (Option Expression))
    others = map (clause_sets above) rest

    names : nametype_sets long ≡ nametype_sets short
    names = behind_one_more nametypes_declared above d ∙ sym (behind_one_more nametypes_declared above (RawDatatype name (before ++ first ∷ [])))

    channels : channel_sets long ≡ channel_sets short
    channels = behind_one_more channels_declared above d ∙ sym (behind_one_more channels_declared above (RawDatatype name (before ++ first ∷ [])))

    rows : constructor_sets long ≡ before_clause above before ++ (fs ++ gs) ∷ others
    rows =
        behind_one_more clauses_declared above d ∙ ap (λ z. constructor_sets above ++ z) (map-append (clause_sets above) before (whole ∷ rest))
        ∙ sym (append_assoc (constructor_sets above) (map (clause_sets above) before) (clause_sets above whole ∷ others))
        ∙ ap (λ z. before_clause above before ++ z ∷ others) (map-append (set_expression above) fields more)

-- ---- declarations that ask for nothing

left_over : {A : Type 0} (n l : ℕ) (xs : List A) → n + l ≤ length xs → l ≤ length (drop n xs)
left_over zero l xs le = omega (arith, le)
left_over (suc n) l [] le = absurd (omega arith)
left_over (suc n) l (x ∷ xs) le = left_over n l xs (omega arith)

empty_rows : {A B : Type 0} (P : A → B → Type 0) (l : ℕ) (rows : List (List B)) → l ≤ length rows → BeginsInTurn (BeginsInTurn P) (replicate l []) rows
empty_rows P zero rows le = tt
empty_rows P (suc l) [] le = absurd (omega arith)
empty_rows P (suc l) (r ∷ rows) le = (tt, empty_rows P l rows (omega arith))

module _ (types : Types) (above : RawScript) (o : Numbering) (n m : ℕ) (es : List KindEquation) (h : Ask n es m (λ a. FitFirstSets types above (kinds_under a o))) where
  pub other_asked : (d : RawDeclaration) → nametypes_declared above d ≡ [] → clauses_declared above d ≡ [] → channels_declared above d ≡ [] → Ask n es m (λ a. FitFirstSets types (above ++ d ∷ []) (kinds_under a o))
  other_asked d e g f =
      ask_same n m es (λ a. FitFirstSets types above (kinds_under a o)) (λ a. FitFirstSets types (above ++ d ∷ []) (kinds_under a o)) h
      (λ a x. (one_declaration_more types above d (kinds_under a o)).1 (
        x,
        subst (λ z. BeginsInTurn (IsSetOf types (kinds_under a o)) z (drop (length (nametype_sets above)) (kinds_under a o).nametypes)) (sym e) tt,
        subst (λ z. BeginsInTurn (BeginsInTurn (IsSetOf types (kinds_under a o))) z (drop (length (constructor_sets above)) (kinds_under a o).constructors)) (sym g) tt,
        subst (λ z. BeginsInTurn (BeginsInTurn (IsSetOf types (kinds_under a o))) z (drop (length (channel_sets above)) (kinds_under a o).channels)) (sym f) tt,
      ))
      (λ a y. ((one_declaration_more types above d (kinds_under a o)).0 y).0)

  pub heads_asked : (names : List RawName) → length (channel_sets above) + length names ≤ length o.channels →
      Ask n es m (λ a. FitFirstSets types (above ++ RawChannels names [] ∷ []) (kinds_under a o))
  heads_asked names le =
      ask_same n m es (λ a. FitFirstSets types above (kinds_under a o)) (λ a. FitFirstSets types (above ++ RawChannels names [] ∷ []) (kinds_under a o)) h
      (λ a x. (one_declaration_more types above (RawChannels names []) (kinds_under a o)).1 (x, tt, tt, enough a))
      (λ a y. ((one_declaration_more types above (RawChannels names []) (kinds_under a o)).0 y).0)
    where
      enough : (a : Assignment) → BeginsInTurn (BeginsInTurn (IsSetOf types (kinds_under a o))) (replicate (length names) []) (drop (length (channel_sets above)) (map (map a) o.channels))
      enough a =
          empty_rows (IsSetOf types (kinds_under a o)) (length names) (drop (length (channel_sets above)) (map (map a) o.channels))
          (left_over (length (channel_sets above)) (length names) (map (map a) o.channels) (subst (λ k. length (channel_sets above) + length names ≤ k) (sym (length-map o.channels (map a))) le))

-- ---- beginnings of a tree

no_longer : {A : Type 0} (xs ys : List A) → length xs ≤ length (xs ++ ys)
no_longer [] ys = omega arith
no_longer (x ∷ xs) ys = let le : length xs ≤ length (xs ++ ys) = no_longer xs ys in omega (arith, le)

same_front : (xs ys zs : List (List (Option Expression))) → BeginsInTurn (λ r s. length r ≤ length s) ys zs → BeginsInTurn (λ r s. length r ≤ length s) (xs ++ ys) (xs ++ zs)
same_front [] ys zs h = h
same_front (x ∷ xs) ys zs h = (omega arith, same_front xs ys zs h)

copies_front : (l : ℕ) (fs gs : List (Option Expression)) (more : List (List (Option Expression))) → BeginsInTurn (λ r s. length r ≤ length s) (replicate l fs) (replicate l (fs ++ gs) ++ more)
copies_front zero fs gs more = tt
copies_front (suc l) fs gs more = (no_longer fs gs, copies_front l fs gs more)

rows_above : (f : RawScript → RawDeclaration → List (List (Option Expression))) (so_far more : RawScript) → BeginsInTurn (λ r s. length r ≤ length s) (behind_each f [] so_far) (behind_each f [] (so_far ++ more))
rows_above f so_far more =
    let R = same_front (behind_each f [] so_far) [] (behind_each f so_far more) tt in
    subst (λ z. BeginsInTurn (λ r s. length r ≤ length s) (behind_each f [] so_far) z) (sym (behind-append f [] so_far more))
    (subst (λ z. BeginsInTurn (λ r s. length r ≤ length s) z (behind_each f [] so_far ++ behind_each f so_far more)) (append-nil (behind_each f [] so_far)) R)

pub beginning_above : (so_far more : RawScript) → IsBeginningOf (so_far ++ more) so_far
beginning_above so_far more = record {
  above = so_far;
  last = [];
  below = more;
  stands = sym (append-nil so_far);
  in_tree = refl;
  one = omega arith;
  nametypes = subst (λ z. length (nametype_sets so_far) ≤ length z) (sym (behind-append nametypes_declared [] so_far more))
      (no_longer (nametype_sets so_far) (behind_each nametypes_declared so_far more));
  constructors = rows_above clauses_declared so_far more;
  channels = rows_above channels_declared so_far more;
}

-- of the rows of a tree, those above a declaration and some first ones of its own
rows_within : (f : RawScript → RawDeclaration → List (List (Option Expression))) (above : RawScript) (short long : RawDeclaration) (below : RawScript) →
    ((more : List (List (Option Expression))) → BeginsInTurn (λ r s. length r ≤ length s) (f above short) (f above long ++ more)) →
    BeginsInTurn (λ r s. length r ≤ length s) (behind_each f [] (above ++ short ∷ [])) (behind_each f [] (above ++ long ∷ below))
rows_within f above short long below own =
    let more = behind_each f (above ++ long ∷ []) below in
    subst (λ z. BeginsInTurn (λ r s. length r ≤ length s) z (behind_each f [] (above ++ long ∷ below))) (sym (behind_one_more f above short))
    (subst (λ z. BeginsInTurn (λ r s. length r ≤ length s) (behind_each f [] above ++ f above short) z) (sym (behind-append f [] above (long ∷ below)))
    (same_front (behind_each f [] above) (f above short) (f above long ++ more) (own more)))

-- no more nametypes, where the declaration has none
names_within : (above : RawScript) (short : RawDeclaration) (all : RawScript) → nametypes_declared above short ≡ [] → length (nametype_sets (above ++ short ∷ [])) ≤ length (nametype_sets (above ++ all))
names_within above short all none =
    let k = behind_one_more nametypes_declared above short ∙ ap (λ z. nametype_sets above ++ z) none ∙ append-nil (nametype_sets above) in
    subst (λ z. length z ≤ length (nametype_sets (above ++ all))) (sym k)
    (subst (λ z. length (nametype_sets above) ≤ length z) (sym (behind-append nametypes_declared [] above all)) (no_longer (nametype_sets above) (behind_each nametypes_declared above all)))

pub beginning_in_fields : (above : RawScript) (names : List RawName) (ds rest : List RawDomain) (below : RawScript) →
    IsBeginningOf (above ++ RawChannels names (ds ++ rest) ∷ below) (above ++ RawChannels names ds ∷ [])
beginning_in_fields above names ds rest below =
    let d = RawChannels names (ds ++ rest) in
    let fs = map (set_expression above) ds in
    record {
      above = above;
      last = RawChannels names ds ∷ [];
      below = d ∷ below;
      stands = refl;
      in_tree = refl;
      one = omega arith;
      nametypes = names_within above (RawChannels names ds) (d ∷ below) refl;
      constructors = rows_within clauses_declared above (RawChannels names ds) d below (λ more. tt);
      channels = rows_within channels_declared above (RawChannels names ds) d below (λ more.
          subst (λ z. BeginsInTurn (λ r s. length r ≤ length s) (replicate (length names) fs) (replicate (length names) z ++ more)) (sym (map-append (set_expression above) ds rest))
          (copies_front (length names) fs (map (set_expression above) rest) more));
    }

-- a constructor with its first fields, behind the clauses before it
pub beginning_in_clauses : (above : RawScript) (name : RawName) (before rest : List RawClause) (constructor : RawName) (fields more : List RawDomain) (below : RawScript) →
    IsBeginningOf (above ++ RawDatatype name (before ++ record { name = constructor; fields = fields ++ more } ∷ rest) ∷ below) (with_clause above name before constructor fields)
beginning_in_clauses above name before rest constructor fields more below =
    let c : RawClause = record { name = constructor; fields = fields } in
    let long : RawClause = record { name = constructor; fields = fields ++ more } in
    let d = RawDatatype name (before ++ long ∷ rest) in
    let fs = map (set_expression above) fields in
    let css = map (clause_sets above) before in
    let others = map (clause_sets above) rest in
    record {
      above = above;
      last = RawDatatype name (before ++ c ∷ []) ∷ [];
      below = d ∷ below;
      stands = refl;
      in_tree = refl;
      one = omega arith;
      nametypes = names_within above (RawDatatype name (before ++ c ∷ [])) (d ∷ below) refl;
      constructors = rows_within clauses_declared above (RawDatatype name (before ++ c ∷ [])) d below (λ z.
          subst (λ s. BeginsInTurn (λ r s. length r ≤ length s) s (map (clause_sets above) (before ++ long ∷ rest) ++ z)) (sym (map-append (clause_sets above) before (c ∷ [])))
          (subst (λ s. BeginsInTurn (λ r s. length r ≤ length s) (css ++ fs ∷ []) (s ++ z)) (sym (map-append (clause_sets above) before (long ∷ rest)))
          (subst (λ s. BeginsInTurn (λ r s. length r ≤ length s) (css ++ fs ∷ []) s) (sym (append_assoc css (clause_sets above long ∷ others) z))
          (same_front css (fs ∷ []) (clause_sets above long ∷ (others ++ z))
          (subst (λ s. length fs ≤ length s) (sym (map-append (set_expression above) fields more)) (no_longer fs (map (set_expression above) more)), tt)))));
      channels = rows_within channels_declared above (RawDatatype name (before ++ c ∷ [])) d below (λ z. tt);
    }
