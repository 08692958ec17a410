-- The field sets of the channels so far, and of all in the end.
use Rattle.std.specs.Prelude.{◌↔◌, replicate, slice_get}
use Rattle.std.proofs.lemmas.List.{append_assoc, map-append, length-map}
use Rattle.std.proofs.lemmas.Option.{slice_get_within}
use Rattle.std.proofs.Common.{◌≡◌, ◌<◌, ◌≤◌, ℕ, zero, suc, ◌+◌, List, [], ◌∷◌, ◌++◌, append-nil, length, length-append, map, Option, Some, None, refl, sym, ap, ap₂, ◌∙◌, subst, inl, inr, ◌⊎◌, arith}
use Rattle.theory_syntax.specs.Value.{Value}
use Rattle.theory_text.specs.Raw.{RawDeclaration, RawScript}
use Rattle.theory_checking.specs.Resolving.{every}
use Rattle.theory_checking.specs.Sets.{behind_each, types_of, channels_declared, channel_sets, field_members, channel_members}
use Rattle.theory_checking.specs.Rules.{SomeFit, HasFieldSets}
use Rattle.theory_checking.proofs.Counts.{length-replicate}
use Rattle.theory_checking.proofs.FitsAbove.{fit_above}
use Rattle.theory_checking.proofs.ScriptThere.{behind-append, behind_one_more}
use Rattle.csp_kinds.specs.Members.{channels_above}
use Rattle.csp_kinds.specs.Passing.{AreCutOff}
use Rattle.csp_kinds.proofs.Evaluating.{front}

abbrev pub Sets : Type 0
Sets = List (List Value)

-- ---- copies of nothing

pub copies_join : {A : Type 0} (m n : ℕ) (x : A) → replicate m x ++ replicate n x ≡ replicate (m + n) x
copies_join zero n x = let e : n ≡ 0 + n = omega arith in ap (λ k. replicate k x) e
copies_join (suc m) n x = let e : suc (m + n) ≡ suc m + n = omega arith in ap (λ xs. x ∷ xs) (copies_join m n x) ∙ ap (λ k. replicate k x) e

nothing_there : {A : Type 0} (n c : ℕ) (x : A) → slice_get (replicate n None) c ≡ Some (Some x) → ⊥
nothing_there zero c x e = cc e
nothing_there (suc n) zero x e = cc e
nothing_there (suc n) (suc c) x e = nothing_there n c x e

-- what is there stands before the copies of nothing
pub stands_before : {A : Type 0} (xs : List (Option A)) (n c : ℕ) (x : A) → slice_get (xs ++ replicate n None) c ≡ Some (Some x) → slice_get xs c ≡ Some (Some x)
stands_before [] n c x e = absurd (nothing_there n c x e)
stands_before (y ∷ xs) n zero x e = e
stands_before (y ∷ xs) n (suc c) x e = stands_before xs n c x e

-- ---- one declaration more

pub counted_and_one : (above : RawScript) (d : RawDeclaration) → length (channel_sets (above ++ d ∷ [])) ≡ length (channel_sets above) + length (channels_declared above d)
counted_and_one above d = ap length (behind_one_more channels_declared above d) ∙ length-append (channel_sets above) (channels_declared above d)

module _ (raw above : RawScript) (d : RawDeclaration) (sets : List (Option Sets)) (n : ℕ) (many : n ≡ length (channels_declared above d)) where
  longer_counted : length sets ≡ length (channel_sets above) → length (sets ++ replicate n None) ≡ length (channel_sets (above ++ d ∷ []))
  longer_counted same =
      let added = length-append sets (replicate {A = Option Sets} n None) in
      let copies = length-replicate {A = Option Sets} n None in
      let all = counted_and_one above d in omega (arith, same, many, added, copies, all)

  -- the first declaration with whose sets no kinds fit
  pub cut_here : SomeFit (types_of raw) above → ¬ (SomeFit (types_of raw) (above ++ d ∷ [])) → sets ≡ channels_above raw above → AreCutOff raw (above ++ d ∷ []) (sets ++ replicate n None)
  cut_here some none is = record {
    fitted = above;
    misfit = d;
    more = [];
    stands = refl;
    some = some;
    none = none;
    rest = n;
    begins = ap (λ cs. cs ++ replicate n None) is;
    counted = longer_counted (ap length is ∙ length-map (channel_sets above) (every (field_members raw)));
  }

  -- one behind it
  pub cut_before : AreCutOff raw above sets → AreCutOff raw (above ++ d ∷ []) (sets ++ replicate n None)
  cut_before cut = record {
    fitted = cut.fitted;
    misfit = cut.misfit;
    more = cut.more ++ d ∷ [];
    stands = ap (λ ds. ds ++ d ∷ []) cut.stands ∙ append_assoc cut.fitted (cut.misfit ∷ cut.more) (d ∷ []);
    some = cut.some;
    none = cut.none;
    rest = cut.rest + n;
    begins = ap (λ cs. cs ++ replicate n None) cut.begins ∙ append_assoc (channels_above raw cut.fitted) (replicate cut.rest None) (replicate n None) ∙ ap (λ cs. channels_above raw cut.fitted ++ cs) (copies_join cut.rest n None);
    counted = longer_counted cut.counted;
  }

-- ---- all declarations

pub channels_begin : (raw above below : RawScript) → raw ≡ above ++ below → (rest : List (Option Sets)) × (channel_members raw ≡ channels_above raw above ++ rest)
channels_begin raw above below stands = (
  map (every (field_members raw)) (behind_each channels_declared above below),
  ap (λ ds. map (every (field_members raw)) (channel_sets ds)) stands ∙ ap (map (every (field_members raw))) (behind-append channels_declared [] above below)
      ∙ map-append (every (field_members raw)) (channel_sets above) (behind_each channels_declared above below),
)

-- where kinds fit all sets, the members of a channel's sets are its field sets
pub all_fitting : (raw : RawScript) (sets : List (Option Sets)) → SomeFit (types_of raw) raw → sets ≡ channels_above raw raw → (c : ℕ) (values : Sets) → (slice_get sets c ≡ Some (Some values)) ↔ HasFieldSets raw c values
all_fitting raw sets some is c values = (forth, λ h. ap (λ cs. slice_get cs c) is ∙ h.members)
  where
    forth : slice_get sets c ≡ Some (Some values) → HasFieldSets raw c values
    forth e =
        let here : slice_get (channel_members raw) c ≡ Some (Some values) = ap (λ cs. slice_get cs c) (sym is) ∙ e in
        let within : c < length (channel_members raw) = slice_get_within (channel_members raw) c (Some values) here in
        let size = length-map (channel_sets raw) (every (field_members raw)) in
        record { members = here; so_far = raw; below = []; stands = sym (append-nil raw); declared = omega (arith, within, size); fit = some }

-- a beginning of a list is longer than another one by at least one thing, or it begins that
longer_or_not : {A : Type 0} (xs ys vs ws : List A) (y : A) → xs ++ vs ≡ ys ++ y ∷ ws → ((more : List A) × (xs ≡ (ys ++ y ∷ []) ++ more)) ⊎ ((more : List A) × (ys ≡ xs ++ more))
longer_or_not [] ys vs ws y e = inr (ys, refl)
longer_or_not (x ∷ xs) [] vs ws y e = let same : x ≡ y = cc e in inl (xs, ap (λ z. z ∷ xs) same)
longer_or_not (x ∷ xs) (z ∷ ys) vs ws y e =
    let same : x ≡ z = cc e in
    let rest : xs ++ vs ≡ ys ++ y ∷ ws = cc e in
    go same (longer_or_not xs ys vs ws y rest)
  where
    go : x ≡ z → ((more : List _) × (xs ≡ (ys ++ y ∷ []) ++ more)) ⊎ ((more : List _) × (ys ≡ xs ++ more)) → ((more : List _) × (x ∷ xs ≡ (z ∷ ys ++ y ∷ []) ++ more)) ⊎ ((more : List _) × (z ∷ ys ≡ (x ∷ xs) ++ more))
    go same (inl h) = inl (h.0, ap₂ (λ a zs. a ∷ zs) same h.1)
    go same (inr h) = inr (h.0, ap₂ (λ a zs. a ∷ zs) (sym same) h.1)

-- where no kinds fit from a declaration on, they are so of the channels above it alone
pub all_cut_off : (raw : RawScript) (sets : List (Option Sets)) → AreCutOff raw raw sets → (c : ℕ) (values : Sets) → (slice_get sets c ≡ Some (Some values)) ↔ HasFieldSets raw c values
all_cut_off raw sets cut c values = (forth, back)
  where
    begins : (rest : List (Option Sets)) × (channel_members raw ≡ channels_above raw cut.fitted ++ rest)
    begins = channels_begin raw cut.fitted (cut.misfit ∷ cut.more) cut.stands

    size : length (channels_above raw cut.fitted) ≡ length (channel_sets cut.fitted)
    size = length-map (channel_sets cut.fitted) (every (field_members raw))

    forth : slice_get sets c ≡ Some (Some values) → HasFieldSets raw c values
    forth e =
        let here = stands_before (channels_above raw cut.fitted) cut.rest c values (ap (λ cs. slice_get cs c) (sym cut.begins) ∙ e) in
        let within = slice_get_within (channels_above raw cut.fitted) c (Some values) here in
        record {
          members = ap (λ cs. slice_get cs c) begins.1 ∙ front (channels_above raw cut.fitted) begins.0 c within ∙ here;
          so_far = cut.fitted;
          below = cut.misfit ∷ cut.more;
          stands = cut.stands;
          declared = omega (arith, within, size);
          fit = cut.some;
        }

    fewer : (above more : RawScript) → cut.fitted ≡ above ++ more → length (channel_sets above) ≤ length (channel_sets cut.fitted)
    fewer above more is =
        let all = ap (λ ds. length (channel_sets ds)) is ∙ ap length (behind-append channels_declared [] above more) ∙ length-append (channel_sets above) (behind_each channels_declared above more) in omega (arith, all)

    back : HasFieldSets raw c values → slice_get sets c ≡ Some (Some values)
    back h = go (longer_or_not h.so_far cut.fitted h.below cut.more cut.misfit (sym h.stands ∙ cut.stands))
      where
        found : c < length (channel_sets cut.fitted) → slice_get sets c ≡ Some (Some values)
        found small =
            let within : c < length (channels_above raw cut.fitted) = omega (arith, small, size) in
            ap (λ cs. slice_get cs c) cut.begins ∙ front (channels_above raw cut.fitted) (replicate cut.rest None) c within
            ∙ sym (front (channels_above raw cut.fitted) begins.0 c within) ∙ ap (λ cs. slice_get cs c) (sym begins.1) ∙ h.members

        go : ((more : RawScript) × (h.so_far ≡ (cut.fitted ++ cut.misfit ∷ []) ++ more)) ⊎ ((more : RawScript) × (cut.fitted ≡ h.so_far ++ more)) → slice_get sets c ≡ Some (Some values)
        go (inl k) = absurd (cut.none (fit_above (types_of raw) (cut.fitted ++ cut.misfit ∷ []) k.0 (subst (SomeFit (types_of raw)) k.1 h.fit)))
        go (inr k) = let le = fewer h.so_far k.0 k.1 in let small = h.declared in found (omega (arith, le, small))
