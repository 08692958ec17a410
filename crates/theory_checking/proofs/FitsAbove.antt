-- Kinds that fit the sets so far fit those above too.
use Rattle.std.specs.Prelude.{flat_map, replicate, slice_get, take}
use Rattle.std.proofs.Common.{◌≡◌, ℕ, zero, suc, ◌<◌, List, [], ◌∷◌, ◌++◌, length, map, Option, Some, refl, sym, ap, ◌∙◌, subst, arith}
use Rattle.std.proofs.lemmas.List.{map-append, length-map}
use Rattle.std.proofs.lemmas.Option.{slice_get_within}
use Rattle.theory_syntax.specs.Expression.{Expression}
use Rattle.theory_syntax.specs.Types.{Types}
use Rattle.theory_semantics.specs.Kinds.Kind.{Kind, Kinds, InTurn, Each}
use Rattle.theory_text.specs.Raw.{RawName, RawDomain, RawDeclaration, RawChannels, RawScript}
use Rattle.theory_checking.specs.Names.{constructor_fields}
use Rattle.theory_checking.specs.Sets.{behind_each, set_expression, nametypes_declared, clauses_declared, channels_declared, nametype_sets, constructor_sets, channel_sets, IsSetOf}
use Rattle.theory_checking.specs.Rules.{SomeFit}
use Rattle.theory_checking.proofs.ScriptThere.{behind-append, behind_one_more}
use Rattle.theory_checking.proofs.Sizes.{sizes_of_constructors}
use Rattle.theory_checking.proofs.Unrefused.{set_kept, turn_map}
use Rattle.theory_checking.proofs.UsedAbove.{SetSized, AgreesFor, sized_kept, AllSetsSized, all_sized, own_table}

-- ---- the first kinds suffice

pub taken_front : {A : Type 0} (ks : List A) (m n : ℕ) (k : A) → n < m → slice_get ks n ≡ Some k → slice_get (take m ks) n ≡ Some k
taken_front [] m n k small e = absurd (cc e)
taken_front (x ∷ ks) zero n k small e = absurd (omega (arith, small))
taken_front (x ∷ ks) (suc m) zero k small e = e
taken_front (x ∷ ks) (suc m) (suc n) k small e = taken_front ks m n k (omega (arith, small)) e

-- the first of the sets, with the first of the kinds
turn_front : {A : Type 0} {B : Type 0} (R S : A → B → Type 0) (P : A → Type 0) → ((x : A) → P x → (y : B) → R x y → S x y) → (xs more : List A) (ys : List B) →
    Each P xs → InTurn R (xs ++ more) ys → InTurn S xs (take (length xs) ys)
turn_front R S P f [] more ys each h = tt
turn_front R S P f (x ∷ xs) more (y ∷ ys) each h = (f x each.0 y h.0, turn_front R S P f xs more ys each.1 h.1)
turn_front R S P f (x ∷ xs) more [] each h = absurd h

turn_same : {A : Type 0} {B : Type 0} (R S : A → B → Type 0) (P : A → Type 0) → ((x : A) → P x → (y : B) → R x y → S x y) → (xs : List A) (ys : List B) → Each P xs → InTurn R xs ys → InTurn S xs ys
turn_same R S P f [] [] each h = tt
turn_same R S P f (x ∷ xs) (y ∷ ys) each h = (f x each.0 y h.0, turn_same R S P f xs ys each.1 h.1)
turn_same R S P f (x ∷ xs) [] each h = absurd h
turn_same R S P f [] (y ∷ ys) each h = absurd h

pub fit_above : (types : Types) (above more : RawScript) → SomeFit types (above ++ more) → SomeFit types above
fit_above types above more fit = (
  cut,
  record {
    nametypes = nametypes;
    constructors = rows constructor_sets clauses_declared (λ x. refl) fit.0.constructors sized.constructors fit.1.constructors;
    channels = rows channel_sets channels_declared (λ x. refl) fit.0.channels sized.channels fit.1.channels;
  },
)
  where
    m : ℕ
    m = length (nametype_sets above)

    ls : List ℕ
    ls = flat_map constructor_fields above

    cut : Kinds
    cut = record {
      nametypes = take m fit.0.nametypes;
      constructors = take (length (constructor_sets above)) fit.0.constructors;
      channels = take (length (channel_sets above)) fit.0.channels;
      parameters = fit.0.parameters;
    }

    sized : AllSetsSized m ls above
    sized = all_sized m ls above (own_table above)

    fields : (c p : ℕ) → slice_get ls c ≡ Some p → AgreesFor fit.0 cut c p
    fields c p got ks l e =
        let small : c < length ls = slice_get_within ls c p got in
        let counted : length (constructor_sets above) ≡ length ls = sym (length-map (constructor_sets above) length) ∙ ap length (sizes_of_constructors above) in
        taken_front fit.0.constructors (length (constructor_sets above)) c ks (omega (arith, small, counted)) e

    kept : (e : Option Expression) → SetSized m ls e → (k : Kind) → IsSetOf types fit.0 e k → IsSetOf types cut e k
    kept = sized_kept types fit.0 cut m ls (λ n small k e. taken_front fit.0.nametypes m n k small e) fields

    nametypes : InTurn (IsSetOf types cut) (nametype_sets above) (take m fit.0.nametypes)
    nametypes =
        let P : List (Option Expression) → Type 0 = λ es. InTurn (IsSetOf types fit.0) es fit.0.nametypes in
        turn_front (IsSetOf types fit.0) (IsSetOf types cut) (SetSized m ls) kept (nametype_sets above) (behind_each nametypes_declared ([] ++ above) more) fit.0.nametypes
        sized.nametypes (subst P (behind-append nametypes_declared [] above more) fit.1.nametypes)

    rows : (sets : RawScript → List (List (Option Expression))) (f : RawScript → RawDeclaration → List (List (Option Expression))) → ((x : RawScript) → sets x ≡ behind_each f [] x) → (kss : List (List Kind)) →
        Each (Each (SetSized m ls)) (sets above) → InTurn (InTurn (IsSetOf types fit.0)) (sets (above ++ more)) kss → InTurn (InTurn (IsSetOf types cut)) (sets above) (take (length (sets above)) kss)
    rows sets f are kss within h =
        let P : List (List (Option Expression)) → Type 0 = λ es. InTurn (InTurn (IsSetOf types fit.0)) es kss in
        turn_front (InTurn (IsSetOf types fit.0)) (InTurn (IsSetOf types cut)) (Each (SetSized m ls))
        (λ es w ks i. turn_same (IsSetOf types fit.0) (IsSetOf types cut) (SetSized m ls) kept es ks w i)
        (sets above) (behind_each f ([] ++ above) more) kss within
        (subst P (are (above ++ more) ∙ behind-append f [] above more ∙ ap (λ z. z ++ behind_each f ([] ++ above) more) (sym (are above))) h)

-- ---- within a declaration of channels

-- the kinds of the channels from the n-th on, cut after their first m fields
cut_after : ℕ → ℕ → List (List Kind) → List (List Kind)
cut_after n m [] = []
cut_after zero m (ks ∷ kss) = take m ks ∷ cut_after zero m kss
cut_after (suc n) m (ks ∷ kss) = ks ∷ cut_after n m kss

turn_take : {A : Type 0} (R : A → Kind → Type 0) (xs ys : List A) (ks : List Kind) → InTurn R (xs ++ ys) ks → InTurn R xs (take (length xs) ks)
turn_take R [] ys ks h = tt
turn_take R (x ∷ xs) ys (k ∷ ks) h = (h.0, turn_take R xs ys ks h.1)
turn_take R (x ∷ xs) ys [] h = absurd h

turn_copies : {A : Type 0} (R : A → Kind → Type 0) (xs ys : List A) (names : List RawName) (kss : List (List Kind)) →
    InTurn (InTurn R) (replicate (length names) (xs ++ ys)) kss → InTurn (InTurn R) (replicate (length names) xs) (cut_after 0 (length xs) kss)
unfolding cut_after
turn_copies R xs ys [] [] h = tt
turn_copies R xs ys [] (ks ∷ kss) h = absurd h
turn_copies R xs ys (n ∷ ns) [] h = absurd h
turn_copies R xs ys (n ∷ ns) (ks ∷ kss) h = (turn_take R xs ys ks h.0, turn_copies R xs ys ns kss h.1)

turn_cut : {A : Type 0} (R : A → Kind → Type 0) (front : List (List A)) (xs ys : List A) (names : List RawName) (kss : List (List Kind)) →
    InTurn (InTurn R) (front ++ replicate (length names) (xs ++ ys)) kss →
    InTurn (InTurn R) (front ++ replicate (length names) xs) (cut_after (length front) (length xs) kss)
unfolding cut_after
turn_cut R [] xs ys names kss h = turn_copies R xs ys names kss h
turn_cut R (f ∷ front) xs ys names [] h = absurd h
turn_cut R (f ∷ front) xs ys names (ks ∷ kss) h = (h.0, turn_cut R front xs ys names kss h.1)

pub fit_fewer : (types : Types) (above : RawScript) (names : List RawName) (ds more : List RawDomain) →
    SomeFit types (above ++ RawChannels names (ds ++ more) ∷ []) → SomeFit types (above ++ RawChannels names ds ∷ [])
fit_fewer types above names ds more fit = (cut, record { nametypes = nametypes; constructors = constructors; channels = channels })
  where
    cut : Kinds
    cut = record {
      nametypes = fit.0.nametypes;
      constructors = fit.0.constructors;
      channels = cut_after (length (channel_sets above)) (length (map (set_expression above) ds)) fit.0.channels;
      parameters = fit.0.parameters;
    }

    kept : (es : List (Option Expression)) (ks : List Kind) → InTurn (IsSetOf types fit.0) es ks → InTurn (IsSetOf types cut) es ks
    kept es ks h = turn_map (IsSetOf types fit.0) (IsSetOf types cut) (set_kept types fit.0 cut (λ n k e. e) (λ c ks e. e)) es ks h

    nametypes : InTurn (IsSetOf types cut) (nametype_sets (above ++ RawChannels names ds ∷ [])) fit.0.nametypes
    nametypes =
        let P : List (Option Expression) → Type 0 = λ es. InTurn (IsSetOf types cut) es fit.0.nametypes in
        subst P (behind_one_more nametypes_declared above (RawChannels names (ds ++ more)) ∙ sym (behind_one_more nametypes_declared above (RawChannels names ds)))
        (kept (nametype_sets (above ++ RawChannels names (ds ++ more) ∷ [])) fit.0.nametypes fit.1.nametypes)

    constructors : InTurn (InTurn (IsSetOf types cut)) (constructor_sets (above ++ RawChannels names ds ∷ [])) fit.0.constructors
    constructors =
        let P : List (List (Option Expression)) → Type 0 = λ es. InTurn (InTurn (IsSetOf types cut)) es fit.0.constructors in
        subst P (behind_one_more clauses_declared above (RawChannels names (ds ++ more)) ∙ sym (behind_one_more clauses_declared above (RawChannels names ds)))
        (turn_map (InTurn (IsSetOf types fit.0)) (InTurn (IsSetOf types cut)) kept (constructor_sets (above ++ RawChannels names (ds ++ more) ∷ [])) fit.0.constructors fit.1.constructors)

    before : InTurn (InTurn (IsSetOf types fit.0)) (channel_sets above ++ replicate (length names) (map (set_expression above) ds ++ map (set_expression above) more)) fit.0.channels
    before =
        let P : List (List (Option Expression)) → Type 0 = λ es. InTurn (InTurn (IsSetOf types fit.0)) es fit.0.channels in
        subst P (behind_one_more channels_declared above (RawChannels names (ds ++ more))
        ∙ ap (λ z. channel_sets above ++ replicate (length names) z) (map-append (set_expression above) ds more)) fit.1.channels

    channels : InTurn (InTurn (IsSetOf types cut)) (channel_sets (above ++ RawChannels names ds ∷ [])) (cut_after (length (channel_sets above)) (length (map (set_expression above) ds)) fit.0.channels)
    channels =
        let P : List (List (Option Expression)) → Type 0 =
        λ es. InTurn (InTurn (IsSetOf types cut)) es (cut_after (length (channel_sets above)) (length (map (set_expression above) ds)) fit.0.channels) in
        subst P (sym (behind_one_more channels_declared above (RawChannels names ds)))
        (turn_map (InTurn (IsSetOf types fit.0)) (InTurn (IsSetOf types cut)) kept
        (channel_sets above ++ replicate (length names) (map (set_expression above) ds))
        (cut_after (length (channel_sets above)) (length (map (set_expression above) ds)) fit.0.channels)
        (turn_cut (IsSetOf types fit.0) (channel_sets above) (map (set_expression above) ds) (map (set_expression above) more) names fit.0.channels before))
