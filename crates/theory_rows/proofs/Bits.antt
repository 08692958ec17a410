-- Acceptances as bits.
use Rattle.std.proofs.Common.{◌≡◌, ◌↔◌, ⊎_elim, ℕ, zero, suc, ◌<◌, Bool, true, false, not, ◌&&◌, ◌||◌, List, [], ◌∷◌, Some, get_or, length, slice_get, refl, sym, ap, subst, ◌∙◌, arith, Contains}
use Rattle.std.specs.Prelude.{IsTrue, IsFalse}
use Rattle.std.proofs.lemmas.Bool.{eqb-true, or_cases, or_left, or_right}
use Rattle.theory_syntax.specs.Value.{Action, Event, Tau, Tick, Ev, event_eq, has_action}
use Rattle.theory_syntax.specs.Process.{Process, Script}
use Rattle.theory_syntax.proofs.Equalities.{event_refl}
use Rattle.theory_syntax.proofs.Members.{contains_cases, contains_here, contains_none, contains_there}
use Rattle.theory_search.specs.Acceptances.{AreEnough, IsAcceptanceOfSome, IsWithin, SomeWithin}
use Rattle.theory_search.specs.Moves.{NodeAccepts}
use Rattle.theory_search.specs.Search.{NormalForm}
use Rattle.csp_rows.specs.declared.numbers.ActionId.{ActionId}
use Rattle.csp_rows.specs.declared.numbers.ActionId.TheVariants as by_number
use Rattle.csp_rows.specs.Numbering.{IsNumbered, Numbering, action_at}
use Rattle.csp_rows.specs.Numbers.{AreAllNumbered}
use Rattle.csp_rows.proofs.Members.{all_contained}
use Rattle.theory_rows.specs.Bits.{AreActionsBy, AreOffersOf, IsOfferBy, IsOfferOf, Offer, first_bit, has_number, has_tick, is_event, is_subset, is_tick, later_bits, lies_within, some_lies_within}

-- ---- tests

and_both : (a b : Bool) → (a && b) ≡ true → (a ≡ true) × (b ≡ true)
and_both true b e = (refl, e)
and_both false b e = absurd (cc e)

both_and : (a b : Bool) → a ≡ true → b ≡ true → (a && b) ≡ true
both_and true b e f = f
both_and false b e f = absurd (cc e)

implied : (a b : Bool) → (not a || b) ≡ true → a ≡ true → b ≡ true
implied true b e f = e
implied false b e f = absurd (cc f)

implies : (a b : Bool) → (a ≡ true → b ≡ true) → (not a || b) ≡ true
implies true b h = h refl
implies false b h = refl

not_true : (b : Bool) → (b ≡ true → ⊥) → b ≡ false
not_true true h = absurd (h refl)
not_true false h = refl

same_tests : (a b : Bool) → (a ≡ true → b ≡ true) → (b ≡ true → a ≡ true) → a ≡ b
same_tests true b to back = sym (to refl)
same_tests false b to back = sym (not_true b (λ e. let f = back e in cc f))

-- ---- subsets

first_is : (bs : List Bool) → get_or bs 0 false ≡ first_bit bs
first_is [] = refl
first_is (b ∷ bs) = refl

later_is : (bs : List Bool) (n : ℕ) → get_or bs (suc n) false ≡ get_or (later_bits bs) n false
later_is [] zero = refl
later_is [] (suc n) = refl
later_is (b ∷ bs) n = refl

subset_bits : (bs others : List Bool) → is_subset bs others ≡ true → (n : ℕ) → get_or bs n false ≡ true → get_or others n false ≡ true
subset_bits [] others e zero h = absurd (cc h)
subset_bits [] others e (suc n) h = absurd (cc h)
subset_bits (b ∷ bs) others e zero h = first_is others ∙ implied b (first_bit others) (and_both (not b || first_bit others) (is_subset bs (later_bits others)) e).0 h
subset_bits (b ∷ bs) others e (suc n) h = later_is others n ∙ subset_bits bs (later_bits others) (and_both (not b || first_bit others) (is_subset bs (later_bits others)) e).1 n h

bits_subset : (bs others : List Bool) → ((n : ℕ) → n < length bs → get_or bs n false ≡ true → get_or others n false ≡ true) → is_subset bs others ≡ true
bits_subset [] others h = refl
bits_subset (b ∷ bs) others h =
    both_and (not b || first_bit others) (is_subset bs (later_bits others)) (implies b (first_bit others) (λ e. sym (first_is others) ∙ h 0 (omega arith) e))
    (bits_subset bs (later_bits others) (λ n lt e. sym (later_is others n) ∙ h (suc n) (omega (arith, lt)) e))

-- ---- offers

module _ (z : Numbering) (a b : Offer) (xs ys : List Action) (left : IsOfferOf z a xs) (right : IsOfferOf z b ys) where
  lies : IsTrue (lies_within a b) → IsWithin xs ys
  lies e Tau has = absurd (let f = sym has ∙ left.no_tau in cc f)
  lies e Tick has = let both = and_both (not a.tick || b.tick) (is_subset a.events b.events) e in sym right.tick ∙ implied a.tick b.tick both.0 (left.tick ∙ has)
  lies e (Ev x) has =
      let both = and_both (not a.tick || b.tick) (is_subset a.events b.events) e in
      let n = left.numbered x has in
      let here : has_action xs (Ev (z.event n.0)) ≡ true = ap (λ (y : Event). has_action xs (Ev y)) n.2 ∙ has in
      let there : has_action ys (Ev (z.event n.0)) ≡ true = right.events n.0 n.1 ∙ subset_bits a.events b.events both.1 n.0 (sym (left.events n.0 n.1) ∙ here) in
      sym (ap (λ (y : Event). has_action ys (Ev y)) n.2) ∙ there

  within_lies : IsWithin xs ys → IsTrue (lies_within a b)
  within_lies within =
      both_and (not a.tick || b.tick) (is_subset a.events b.events) (implies a.tick b.tick (λ e. right.tick ∙ within Tick (sym left.tick ∙ e)))
      (bits_subset a.events b.events (λ n lt e. let few : n < z.events = let f = left.few in omega (arith, lt, f) in sym (right.events n few) ∙ within (Ev (z.event n)) (left.events n few ∙ e)))

  pub lies_exactly : IsTrue (lies_within a b) ↔ IsWithin xs ys
  lies_exactly = (lies, within_lies)

module _ (z : Numbering) (o : Offer) (xs : List Action) (is : IsOfferOf z o xs) where
  some_lies : (ks : List Offer) (lists : List (List Action)) → AreOffersOf z ks lists → IsTrue (some_lies_within ks o) → SomeWithin lists xs
  some_lies [] [] are e = absurd (cc e)
  some_lies [] (l ∷ lists) are e = absurd are
  some_lies (k ∷ ks) [] are e = absurd are
  some_lies (k ∷ ks) (l ∷ lists) are e =
      ⊎_elim (λ h. (l, contains_here l lists, (lies_exactly z k o l xs are.0 is).0 h)) (λ h. let r = some_lies ks lists are.1 h in (r.0, contains_there l lists r.0 r.1, r.2)) (or_cases (lies_within k o) (some_lies_within ks o) e)

  lies_some : (ks : List Offer) (lists : List (List Action)) → AreOffersOf z ks lists → SomeWithin lists xs → IsTrue (some_lies_within ks o)
  lies_some [] [] are (ys, has, within) = absurd (contains_none ys has)
  lies_some [] (l ∷ lists) are some = absurd are
  lies_some (k ∷ ks) [] are some = absurd are
  lies_some (k ∷ ks) (l ∷ lists) are (ys, has, within) =
      ⊎_elim (λ e. or_left (lies_within k o) (some_lies_within ks o) ((lies_exactly z k o l xs are.0 is).1 (subst (λ (zs : List Action). IsWithin zs xs) (sym e) within)))
      (λ h. or_right (lies_within k o) (some_lies_within ks o) (lies_some ks lists are.1 (ys, h, within))) (contains_cases l lists ys has)

  pub some_exactly : (ks : List Offer) (lists : List (List Action)) → AreOffersOf z ks lists → IsTrue (some_lies_within ks o) ↔ SomeWithin lists xs
  some_exactly ks lists are = (some_lies ks lists are, lies_some ks lists are)

-- ---- what a node accepts

pub enough_accepts : (script : Script) (normal : NormalForm) (node : ℕ) (states : List Process) (lists : List (List Action)) (xs : List Action) → slice_get normal.states node ≡ Some states → AreEnough (IsAcceptanceOfSome script states) lists →
    SomeWithin lists xs ↔ NodeAccepts script (Some normal) node xs
enough_accepts script normal node states lists xs at are = (
  λ (ys, has, within). let u = are.each ys has in (states, u.0, ys, at, u.1, u.2, within),
  λ (others, u, ys, there, has, accepted, within).
      let e : Some others ≡ Some states = sym there ∙ at in
      let same : others ≡ states = cc e in
      let k = are.enough ys (u, subst (λ (us : List Process). Contains us u) same has, accepted) in
      (k.0, k.1, λ x h. within x (k.2 x h)),
)

-- ---- by the actions of steps

tick_listed : (ids : List ActionId) → has_tick ids ≡ true → Contains ids by_number.Tick
tick_listed [] e = absurd (cc e)
tick_listed (by_number.Tick ∷ ids) e = contains_here by_number.Tick ids
tick_listed (by_number.Tau ∷ ids) e = contains_there by_number.Tau ids by_number.Tick (tick_listed ids e)
tick_listed (by_number.Event n ∷ ids) e = contains_there (by_number.Event n) ids by_number.Tick (tick_listed ids e)

listed_tick : (ids : List ActionId) → Contains ids by_number.Tick → has_tick ids ≡ true
listed_tick [] has = absurd (contains_none by_number.Tick has)
listed_tick (x ∷ ids) has = ⊎_elim (λ e. or_left (is_tick x) (has_tick ids) (ap is_tick e)) (λ more. or_right (is_tick x) (has_tick ids) (listed_tick ids more)) (contains_cases x ids by_number.Tick has)

-- an action that is the event of this number
abbrev IsEventOf : ℕ → ActionId → Type 0
IsEventOf n x = is_event n x ≡ true

number_listed : (ids : List ActionId) (n : ℕ) → has_number ids n ≡ true → (x : ActionId) × Contains ids x × IsEventOf n x
number_listed [] n e = absurd (cc e)
number_listed (x ∷ ids) n e =
    ⊎_elim (λ h. (x, contains_here x ids, h)) (λ h. let r = number_listed ids n h in (r.0, contains_there x ids r.0 r.1, r.2)) (or_cases (is_event n x) (has_number ids n) e)

listed_number : (ids : List ActionId) (n : ℕ) (x : ActionId) → Contains ids x → IsEventOf n x → has_number ids n ≡ true
listed_number [] n x has is = absurd (contains_none x has)
listed_number (y ∷ ids) n x has is =
    ⊎_elim (λ e. or_left (is_event n y) (has_number ids n) (ap (is_event n) e ∙ is)) (λ more. or_right (is_event n y) (has_number ids n) (listed_number ids n x more is)) (contains_cases y ids x has)

module _ (z : Numbering) where
  event_is : (n : ℕ) (x : ActionId) → IsEventOf n x → action_at z x ≡ Ev (z.event n)
  event_is n by_number.Tau e = absurd (cc e)
  event_is n by_number.Tick e = absurd (cc e)
  event_is n (by_number.Event m) e = ap (λ (k : ℕ). Ev (z.event k)) (sym (eqb-true n m.0 e))

  -- an action that is the event of a number has that number
  has_event_number : (n : ℕ) (x : ActionId) → n < z.events → IsNumbered z.events x → action_at z x ≡ Ev (z.event n) → IsEventOf n x
  has_event_number n by_number.Tau few small e = absurd (cc e)
  has_event_number n by_number.Tick few small e = absurd (cc e)
  has_event_number n (by_number.Event m) few small e =
      let f : z.event m.0 ≡ z.event n = cc e in
      sym (z.apart n m.0 few small) ∙ ap (λ (y : Event). event_eq (z.event n) y) f ∙ event_refl (z.event n)

  tick_is : (x : ActionId) → action_at z x ≡ Tick → x ≡ by_number.Tick
  tick_is by_number.Tau e = absurd (cc e)
  tick_is by_number.Tick e = refl
  tick_is (by_number.Event m) e = absurd (cc e)

  number_of_event : (x : ActionId) (e : Event) → IsNumbered z.events x → action_at z x ≡ Ev e → (n : ℕ) × (n < z.events) × (z.event n ≡ e)
  number_of_event by_number.Tau e small is = absurd (cc is)
  number_of_event by_number.Tick e small is = absurd (cc is)
  number_of_event (by_number.Event m) e small is = (m.0, small, cc is)

pub offer_by_numbers : (z : Numbering) (ids : List ActionId) (xs : List Action) (o : Offer) → AreAllNumbered z.events ids → AreActionsBy z ids xs → IsFalse (has_action xs Tau) → IsOfferBy z.events ids o → IsOfferOf z o xs
offer_by_numbers z ids xs o small are none by = record {
  tick = by.tick ∙ same_tests (has_tick ids) (has_action xs Tick) (λ e. (are Tick).1 (by_number.Tick, tick_listed ids e, refl))
      (λ h. let i = (are Tick).0 h in listed_tick ids (subst (λ (x : ActionId). Contains ids x) (tick_is z i.0 i.2) i.1));
  events = λ n few.
      same_tests (has_action xs (Ev (z.event n))) (get_or o.events n false)
      (λ h.
      let i = (are (Ev (z.event n))).0 h in
      by.events_by n few ∙ listed_number ids n i.0 i.1 (has_event_number z n i.0 few (all_contained (λ (x : ActionId). IsNumbered z.events x) ids i.0 small i.1) i.2))
      (λ e. let i = number_listed ids n (sym (by.events_by n few) ∙ e) in (are (Ev (z.event n))).1 (i.0, i.1, event_is z n i.0 i.2));
  few = by.few;
  numbered = λ e h. let i = (are (Ev e)).0 h in number_of_event z i.0 e (all_contained (λ (x : ActionId). IsNumbered z.events x) ids i.0 small i.1) i.2;
  no_tau = none;
}
