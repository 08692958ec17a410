-- The text of a loop from one of its states on.
use Rattle.std.proofs.Common.{◌≡◌, ℕ, zero, suc, ◌+◌, ◌-◌, ◌<◌, ◌≤◌, List, [], ◌∷◌, ◌++◌, Option, Some, None, option_map, length, map, drop, get_or, slice_get, refl, sym, ◌∙◌, ap, append-nil, arith}
use Rattle.theory_syntax.specs.Value.{Tau}
use Rattle.std.proofs.lemmas.Option.{slice_get-get_or, slice_get-map, slice_get_past, slice_get_read}
use Rattle.std.specs.Borrow.{Bor}
use Rattle.std.specs.Slice.{IsItemAt}
use Rattle.theory_syntax.specs.Process.{Process, Stop}
use Rattle.theory_syntax.proofs.Places.{drop_at, get_some}
use Rattle.theory_origins.specs.Origin.{Origin}
use Rattle.theory_explanation.specs.Counterexamples.{Loop}
use Rattle.theory_explanation.specs.Loops.{back_text, few_taus, left_out_line, loop_text, taus_told}
use Rattle.theory_explanation.specs.Legend.{legend}
use Rattle.theory_explanation.specs.PartNames.{PartName, part_names_behind}
use Rattle.theory_explanation.specs.Steps.{behind_line, state_line, step_line}
use Rattle.theory_explanation.specs.Styles.{Style}
use Rattle.counterexample.specs.Loops.{next_text}

-- what is left of the text from the state at the place on, where parts have such names, of which few taus are to be told in
-- all
abbrev pub taus_left : Style → ℕ → ℕ → ℕ → List Process → List (Option Origin) → ℕ → List PartName → List ℕ
taus_left style few n back states origins i parts = few_taus style (few - i) (n + i) back parts (drop i states) (drop i origins)

pub taus_whole : (style : Style) (few n back : ℕ) (parts : List PartName) (states : List Process) (origins : List (Option Origin)) → taus_left style few n back states origins 0 parts ≡ few_taus style few n back parts states origins
taus_whole style few n back parts states origins =
    ap (λ k. few_taus style k (n + 0) back parts states origins) (let e : few - 0 ≡ few = omega arith in e)
    ∙ ap (λ k. few_taus style few k back parts states origins) (let e : n + 0 ≡ n = omega arith in e)

drop_past : {X : Type 0} (xs : List X) (i : ℕ) → slice_get xs i ≡ None → drop i xs ≡ []
drop_past [] zero none = refl
drop_past [] (suc i) none = refl
drop_past (x ∷ xs) zero none = absurd (cc none)
drop_past (x ∷ xs) (suc i) none = drop_past xs i none

no_origins : (style : Style) (few n back : ℕ) (parts : List PartName) (states : List Process) → few_taus style few n back parts states [] ≡ []
no_origins style few n back parts [] = refl
no_origins style few n back parts (s ∷ states) = refl

module _ (style : Style) (few n back : ℕ) (states : List Process) (origins : List (Option Origin)) (i : ℕ) (parts : List PartName) where
  pub no_tau_left : slice_get origins i ≡ None → taus_left style few n back states origins i parts ≡ []
  no_tau_left none = ap (few_taus style (few - i) (n + i) back parts (drop i states)) (drop_past origins i none) ∙ no_origins style (few - i) (n + i) back parts (drop i states)

  pub no_loop_left : length states ≤ i → taus_left style few n back states origins i parts ≡ []
  no_loop_left past = ap (λ ss. few_taus style (few - i) (n + i) back parts ss (drop i origins)) (by states i past)
    where
      by : (ss : List Process) (k : ℕ) → length ss ≤ k → drop k ss ≡ []
      by [] zero low = refl
      by [] (suc k) low = refl
      by (s ∷ ss) zero low = let l : suc (length ss) ≤ 0 = low in absurd (omega (arith, l))
      by (s ∷ ss) (suc k) low = by ss k (let l : suc (length ss) ≤ suc k = low in omega (arith, l))

  module _ (s : Process) (o : Option Origin) (here : slice_get states i ≡ Some s) (told : slice_get origins i ≡ Some o) where
    pub taus_cut : few ≡ i → taus_left style few n back states origins i parts ≡ left_out_line (length states - i) back
    taus_cut same =
        let none : few - i ≡ 0 = omega (arith, same) in
        ap (λ k. few_taus style k (n + i) back parts (drop i states) (drop i origins)) none
        ∙ ap (λ ss. few_taus style 0 (n + i) back parts ss (drop i origins)) (drop_at states i s here)
        ∙ ap (λ os. few_taus style 0 (n + i) back parts (s ∷ drop (suc i) states) os) (drop_at origins i o told)
        ∙ ap (λ k. left_out_line k back) (counted states i s here)
      where
        counted : (ss : List Process) (k : ℕ) (u : Process) → slice_get ss k ≡ Some u → suc (length (drop (suc k) ss)) ≡ length ss - k
        counted [] k u at = absurd (cc at)
        counted (v ∷ ss) zero u at = omega arith
        counted (v ∷ ss) (suc k) u at = let h = counted ss k u at in omega (arith, h)

    abbrev line : List ℕ
    line = step_line (legend style.names parts) (n + i) Tau o []

    abbrev more : List PartName
    more = part_names_behind parts o

    from : i < few → taus_left style few n back states origins i parts ≡ few_taus style (suc (few - (i + 1))) (n + i) back parts (s ∷ drop (suc i) states) (o ∷ drop (suc i) origins)
    from low =
        let some : few - i ≡ suc (few - (i + 1)) = omega (arith, low) in
        ap (λ k. few_taus style k (n + i) back parts (drop i states) (drop i origins)) some
        ∙ ap (λ ss. few_taus style (suc (few - (i + 1))) (n + i) back parts ss (drop i origins)) (drop_at states i s here)
        ∙ ap (few_taus style (suc (few - (i + 1))) (n + i) back parts (s ∷ drop (suc i) states)) (drop_at origins i o told)

    next : suc i ≡ i + 1
    next = omega arith

    -- the last tau leads back
    pub taus_end : i < few → slice_get states (i + 1) ≡ None → taus_left style few n back states origins i parts ≡ line ++ (state_line (back_text back) ++ taus_left style few n back states origins (i + 1) more)
    taus_end low none =
        let last : drop (suc i) states ≡ [] = ap (λ k. drop k states) next ∙ drop_past states (i + 1) none in
        let nothing : taus_left style few n back states origins (i + 1) more ≡ [] = ap (λ ss. few_taus style (few - (i + 1)) (n + (i + 1)) back more ss (drop (i + 1) origins)) (drop_past states (i + 1) none) in
        from low
        ∙ ap (λ ss. few_taus style (suc (few - (i + 1))) (n + i) back parts (s ∷ ss) (o ∷ drop (suc i) origins)) last
        ∙ ap (λ ts. line ++ ts) (sym (append-nil (state_line (back_text back))) ∙ ap (λ ts. state_line (back_text back) ++ ts) (sym nothing))

    -- another one leads to the next state
    pub taus_on : (t : Process) → i < few → slice_get states (i + 1) ≡ Some t →
        taus_left style few n back states origins i parts ≡ line ++ (behind_line style.names style.width s t ++ taus_left style few n back states origins (i + 1) more)
    taus_on t low there =
        let rest : drop (suc i) states ≡ t ∷ drop (suc (suc i)) states = drop_at states (suc i) t (ap (slice_get states) next ∙ there) in
        let number : suc (n + i) ≡ n + (i + 1) = omega arith in
        from low
        ∙ ap (λ ss. few_taus style (suc (few - (i + 1))) (n + i) back parts (s ∷ ss) (o ∷ drop (suc i) origins)) rest
        ∙ ap (λ ss. line ++ (behind_line style.names style.width s t ++ few_taus style (few - (i + 1)) (suc (n + i)) back more ss (drop (suc i) origins))) (sym rest)
        ∙ ap (λ k. line ++ (behind_line style.names style.width s t ++ few_taus style (few - (i + 1)) k back more (drop (suc i) states) (drop (suc i) origins))) number
        ∙ ap (λ k. line ++ (behind_line style.names style.width s t ++ few_taus style (few - (i + 1)) (n + (i + 1)) back more (drop k states) (drop k origins))) next

    pub taus_next : i < few →
        taus_left style few n back states origins i parts ≡ line ++ (next_text style back s (slice_get states (i + 1)) ++ taus_left style few n back states origins (i + 1) more)
    taus_next low = by (slice_get states (i + 1)) refl
      where
        by : (t : Option Process) → slice_get states (i + 1) ≡ t → taus_left style few n back states origins i parts ≡ line ++ (next_text style back s (slice_get states (i + 1)) ++ taus_left style few n back states origins (i + 1) more)
        by (Some t) at = taus_on t low at ∙ ap (λ z. line ++ (next_text style back s z ++ taus_left style few n back states origins (i + 1) more)) (sym at)
        by None at = taus_end low at ∙ ap (λ z. line ++ (next_text style back s z ++ taus_left style few n back states origins (i + 1) more)) (sym at)

  pub taus_cut_within : (o : Option Origin) → i < length states → slice_get origins i ≡ Some o → few ≡ i → taus_left style few n back states origins i parts ≡ left_out_line (length states - i) back
  taus_cut_within o low told same = taus_cut (get_or states i Stop) o (slice_get-get_or states i Stop low) told same

-- all of it, from the number of the first state on
pub loop_whole : (style : Style) (n few : ℕ) (parts : List PartName) (loop : Loop) → few ≡ taus_told style.taus loop.states →
    few_taus style few (n + 1) (n + loop.back) parts loop.states loop.origins ≡ loop_text style parts n (Some loop)
loop_whole style n few parts loop same =
    ap (λ k. few_taus style k (n + 1) (n + loop.back) parts loop.states loop.origins) same
    ∙ ap (λ k. few_taus style (taus_told style.taus loop.states) k (n + loop.back) parts loop.states loop.origins) (let e : n + 1 ≡ suc n = omega arith in e)

-- ---- items that are lent

-- what is lent of the item at the place, if there is one, stands for what stands there
pub lent_at : {X Y : Type 0} (f : X → Y) (xs : List X) (i : ℕ) (r : Option (Bor X)) → IsItemAt xs i r → option_map (λ x. f x.now) r ≡ slice_get (map f xs) i
lent_at f xs i (Some x) at = sym (get_some f xs i x.now (slice_get_read xs (length xs) i x.now refl at.3.0 at.1))
lent_at f xs i None at = sym (slice_get-map f xs i ∙ ap (option_map f) (slice_get_past xs i at.3))
