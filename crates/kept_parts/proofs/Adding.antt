-- One part more, at the end.
use Rattle.std.proofs.Common.{◌≡◌, ◌<◌, ◌^◌, ◌+◌, ℕ, zero, suc, Bool, true, false, List, [], ◌∷◌, ◌++◌, length, map, get_or, slice_get, Some, None, Contains, inl, inr, ⊎_elim, ◌⊎◌, refl, sym, ◌∙◌, ap, subst, arith, length-append}
use Rattle.std.proofs.lemmas.List.{length-map, map-append}
use Rattle.std.proofs.lemmas.Option.{slice_get_within}
use Rattle.theory_syntax.specs.Process.{Process, Omega, Script}
use Rattle.theory_syntax.proofs.Places.{get_cases, get_end, get_front, get_only}
use Rattle.theory_semantics.proofs.Rising.{stands_from_Contains}
use Rattle.theory_shapes.specs.Alphabet.{alphabet}
use Rattle.theory_search.specs.Growth.{StaysIn}
use Rattle.theory_search.proofs.Growing.{added_grows}
use Rattle.csp_packed.specs.Packed.{packed_process}
use Rattle.csp_packed.specs.declared.packed_term.PackedTerm.{PackedTerm}
use Rattle.csp_term.specs.declared.term.Term.{Term}
use Rattle.csp_term.specs.Term.{process_of}
use Rattle.csp_rows.specs.declared.part.Part.{Part}
use Rattle.kept_parts.specs.declared.parts.Parts.{Parts}
use Rattle.kept_parts.specs.Changed.{Extends, HasRowMore, HasSameRows, steps_of}
use Rattle.kept_parts.specs.Kept.{IsKeptOf, IsPartOf, IsShown}
use Rattle.kept_parts.specs.KnownSteps.{AreKeptOf, AreKnown, processes_of, script_in, spelled_of}
use Rattle.kept_parts.proofs.Stepping.{still_shown}

-- what a list has stays where one more comes
stays_front : {X : Type 0} (xs : List X) (x : X) → StaysIn xs (xs ++ x ∷ [])
stays_front xs x i y at = get_front xs (x ∷ []) i y at

fired_more : (fs : List Bool) (n : ℕ) → get_or (fs ++ false ∷ []) n false ≡ get_or fs n false
fired_more [] zero = refl
fired_more [] (suc n) = refl
fired_more (f ∷ fs) zero = refl
fired_more (f ∷ fs) (suc n) = fired_more fs n

unfired_past : (fs : List Bool) (n : ℕ) → n ≡ length fs → get_or fs n false ≡ false
unfired_past [] n end = refl
unfired_past (f ∷ fs) zero end = absurd (omega (arith, end))
unfired_past (f ∷ fs) (suc n) end = unfired_past fs n (omega (arith, end))

told_more : {A : Type 0} (part : Part A) → part.steps ≡ None → (parts : List (Part A)) (n : ℕ) → steps_of (slice_get (parts ++ part ∷ []) n) ≡ steps_of (slice_get parts n)
told_more part none [] zero = none
told_more part none [] (suc n) = refl
told_more part none (p ∷ parts) zero = refl
told_more part none (p ∷ parts) (suc n) = told_more part none parts n

module _ {A : Type 0} (script : Script) (ps : List Process) (p : Process) (parts : List (Part A)) (part : Part A) (fired : List Bool) (of_script : IsPartOf script p) (is_kept : IsKeptOf p part) (unfired : part.steps ≡ None) where
  -- what is kept of the new one
  new_kept : (q : Process) (r : Part A) → q ≡ p → r ≡ part → IsKeptOf q r
  new_kept q r same is = subst (λ z. IsKeptOf z r) (sym same) (subst (IsKeptOf p) (sym is) is_kept)

  new_shown : (more : List Process) (q : Process) (r : Part A) (b : Bool) → r ≡ part → b ≡ false → IsShown script (alphabet script) more q b r.steps
  new_shown more q r true is not = absurd (cc not)
  new_shown more q r false is not = ap (λ z. z.steps) is ∙ unfired

  -- the first of all
  pub kept_alone : p ≡ Omega → AreKeptOf script (p ∷ []) (part ∷ []) (false ∷ [])
  kept_alone ended = record {
    first = ap Some ended;
    distinct = λ i j t at there. (get_only p t i at).0 ∙ sym (get_only p t j there).0;
    of_script = λ n q at. subst (IsPartOf script) (sym (get_only p q n at).1) of_script;
    few = omega arith;
    all_kept = refl;
    all_marked = refl;
    kept = λ n q r at there. new_kept q r (get_only p q n at).1 (get_only part r n there).1;
    shown = λ n q r at there. new_shown (p ∷ []) q r (get_or (false ∷ []) n false) (get_only part r n there).1 (fired_more [] n);
  }

  module _ (kept : AreKeptOf script ps parts fired) (absent : Contains ps p → ⊥) (room : length ps + 1 < 2 ^ 32) where
    abbrev more : List Process
    more = ps ++ p ∷ []

    each_kept : (n : ℕ) (q : Process) (r : Part A) → (slice_get ps n ≡ Some q) ⊎ ((n ≡ length ps) × (q ≡ p)) → (slice_get parts n ≡ Some r) ⊎ ((n ≡ length parts) × (r ≡ part)) → IsKeptOf q r
    each_kept n q r (inl a) (inl b) = kept.kept n q r a b
    each_kept n q r (inl a) (inr b) = let within = slice_get_within ps n q a in let even = kept.all_kept in let end = b.0 in absurd (omega (arith, within, even, end))
    each_kept n q r (inr a) (inl b) = let within = slice_get_within parts n r b in let even = kept.all_kept in let end = a.0 in absurd (omega (arith, within, even, end))
    each_kept n q r (inr a) (inr b) = new_kept q r a.1 b.1

    each_shown : (n : ℕ) (q : Process) (r : Part A) → (slice_get ps n ≡ Some q) ⊎ ((n ≡ length ps) × (q ≡ p)) → (slice_get parts n ≡ Some r) ⊎ ((n ≡ length parts) × (r ≡ part)) →
        IsShown script (alphabet script) more q (get_or fired n false) r.steps
    each_shown n q r (inl a) (inl b) = still_shown (alphabet script) ps more (stays_front ps p) script q (get_or fired n false) r.steps (kept.shown n q r a b)
    each_shown n q r (inl a) (inr b) = let within = slice_get_within ps n q a in let even = kept.all_kept in let end = b.0 in absurd (omega (arith, within, even, end))
    each_shown n q r (inr a) (inl b) = let within = slice_get_within parts n r b in let even = kept.all_kept in let end = a.0 in absurd (omega (arith, within, even, end))
    each_shown n q r (inr a) (inr b) = new_shown more q r (get_or fired n false) b.1 (unfired_past fired n (a.0 ∙ sym kept.all_marked))

    pub kept_more : AreKeptOf script more (parts ++ part ∷ []) (fired ++ false ∷ [])
    kept_more = record {
      first = get_front ps (p ∷ []) 0 Omega kept.first;
      distinct = (added_grows p ps more (inr (absent, refl))).distinct kept.distinct;
      of_script = λ n q at. ⊎_elim (λ h. kept.of_script n q h) (λ h. subst (IsPartOf script) (sym h.1) of_script) (get_cases ps p n q at);
      few = let long = length-append ps (p ∷ []) in omega (arith, long, room);
      all_kept = let long = length-append ps (p ∷ []) in let wide = length-append parts (part ∷ []) in let even = kept.all_kept in omega (arith, long, wide, even);
      all_marked = let long = length-append ps (p ∷ []) in let wide = length-append fired (false ∷ []) in let even = kept.all_marked in omega (arith, long, wide, even);
      kept = λ n q r at there. each_kept n q r (get_cases ps p n q at) (get_cases parts part n r there);
      shown = λ n q r at there.
          subst (λ b. IsShown script (alphabet script) more q b r.steps) (sym (fired_more fired n)) (each_shown n q r (get_cases ps p n q at) (get_cases parts part n r there));
    }

-- the same, for lists that are these
pub kept_as : {A : Type 0} (script other : Script) (ps qs : List Process) (parts rows : List (Part A)) (fired marks : List Bool) → other ≡ script → qs ≡ ps → rows ≡ parts → marks ≡ fired →
    AreKeptOf script ps parts fired → AreKeptOf other qs rows marks
kept_as script other ps qs parts rows fired marks a b c d kept =
    subst (λ s. AreKeptOf s qs rows marks) (sym a) (subst (λ zs. AreKeptOf script zs rows marks) (sym b) (subst (λ zs. AreKeptOf script ps zs marks) (sym c) (subst (λ zs. AreKeptOf script ps parts zs) (sym d) kept)))

module _ {A : Type 0} (old new : Parts A) where
  -- the same rows are known as well
  pub known_same : HasSameRows old new → AreKnown old → AreKnown new
  known_same same known = record {
    spelled = same.spellings ∙ (known.spelled ∙ ap (map process_of) (sym same.terms));
    kept = kept_as (script_in old) (script_in new) (processes_of old) (processes_of new) old.parts.items new.parts.items old.fired.items new.fired.items same.script (ap (map process_of) same.terms) same.parts same.fired known.kept;
  }

  pub extends_same : HasSameRows old new → Extends old new
  extends_same same = record {
    script = same.script;
    stays = λ i x at. subst (λ (ts : List (Term A)). slice_get (map process_of ts) i ≡ Some x) (sym same.terms) at;
    fired = λ n. ap (λ (fs : List Bool). get_or fs n false) same.fired;
    steps = λ n. ap (λ (rs : List (Part A)). steps_of (slice_get rs n)) same.parts;
  }

  module _ (packed : PackedTerm A) (term : Term A) (part : Part A) (added : HasRowMore packed term part old new) (packs : packed_process packed ≡ process_of term) (unfired : part.steps ≡ None) where
    abbrev p : Process
    p = process_of term

    abbrev ps : List Process
    ps = processes_of old

    processes_more : processes_of new ≡ ps ++ p ∷ []
    processes_more = ap (map process_of) added.terms ∙ map-append process_of old.terms.items (term ∷ [])

    pub extends_more : Extends old new
    extends_more = record {
      script = added.script;
      stays = λ i x at. subst (λ (zs : List Process). slice_get zs i ≡ Some x) (sym processes_more) (get_front ps (p ∷ []) i x at);
      fired = λ n. ap (λ (fs : List Bool). get_or fs n false) added.fired ∙ fired_more old.fired.items n;
      steps = λ n. ap (λ (rs : List (Part A)). steps_of (slice_get rs n)) added.parts ∙ told_more part unfired old.parts.items n;
    }

    spelled_more : AreKnown old → (Contains ps p → ⊥) → spelled_of new ≡ ps ++ p ∷ []
    spelled_more known absent =
        ⊎_elim (λ there. absurd (absent (subst (λ (zs : List Process). Contains zs p) known.spelled (subst (Contains (spelled_of old)) packs there.0)))) (λ new_one. new_one.1 ∙ (ap (λ (zs : List Process). zs ++ packed_process packed ∷ []) known.spelled ∙ ap (λ (q : Process). ps ++ q ∷ []) packs))
        added.spellings

    pub known_more : AreKnown old → (Contains ps p → ⊥) → IsPartOf (script_in old) p → IsKeptOf p part → length ps + 1 < 2 ^ 32 → AreKnown new
    known_more known absent of_script is_kept room = record {
      spelled = spelled_more known absent ∙ sym processes_more;
      kept =
          kept_as (script_in old) (script_in new) (ps ++ p ∷ []) (processes_of new) (old.parts.items ++ part ∷ []) new.parts.items (old.fired.items ++ false ∷ []) new.fired.items added.script processes_more added.parts added.fired
          (kept_more (script_in old) ps p old.parts.items part old.fired.items of_script is_kept unfired known.kept absent room);
    }

    -- it stands at the end
    pub stands_last : (n : ℕ) → n ≡ length old.terms.items → slice_get (processes_of new) n ≡ Some p
    stands_last n end = ap (λ (zs : List Process). slice_get zs n) processes_more ∙ (ap (slice_get (ps ++ p ∷ [])) (end ∙ sym (length-map old.terms.items process_of)) ∙ get_end ps p)

    -- and it is alone where nothing was there
    pub only : old.terms.items ≡ [] → processes_of new ≡ p ∷ []
    only none = processes_more ∙ ap (λ (ts : List (Term A)). map process_of ts ++ p ∷ []) none

    only_spelled : spelled_of old ≡ [] → spelled_of new ≡ p ∷ []
    only_spelled none =
        ⊎_elim (λ there. absurd (cc (stands_from_Contains [] (packed_process packed) (subst (λ (zs : List Process). Contains zs (packed_process packed)) none there.0)).1)) (λ new_one. new_one.1 ∙ (ap (λ (zs : List Process). zs ++ packed_process packed ∷ []) none ∙ ap (λ (q : Process). q ∷ []) packs))
        added.spellings

    pub known_alone : old.terms.items ≡ [] → spelled_of old ≡ [] → old.parts.items ≡ [] → old.fired.items ≡ [] → p ≡ Omega → IsPartOf (script_in old) p → IsKeptOf p part → AreKnown new
    known_alone no_terms no_spellings no_parts no_marks ended of_script is_kept = record {
      spelled = only_spelled no_spellings ∙ sym (only no_terms);
      kept =
          kept_as (script_in old) (script_in new) (p ∷ []) (processes_of new) (part ∷ []) new.parts.items (false ∷ []) new.fired.items added.script (only no_terms) (added.parts ∙ ap (λ (rs : List (Part A)). rs ++ part ∷ []) no_parts)
          (added.fired ∙ ap (λ (fs : List Bool). fs ++ false ∷ []) no_marks) (kept_alone (script_in old) [] p [] part [] of_script is_kept unfired ended);
    }
