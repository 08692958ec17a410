-- Two kinds are made one, or cannot be.
use Rattle.std.proofs.Common.{◌≡◌, ◌≢◌, ℕ, zero, suc, ◌≤◌, ◌<◌, nat_eq, Bool, true, false, cond, length, map, List, [], ◌∷◌, ◌++◌, Option, Some, None, refl, sym, ◌∙◌, ap, subst, arith}
use Rattle.std.specs.Prelude.{IfSome, unwrap_or, option_map, set}
use Rattle.std.proofs.lemmas.Bool.{cond-true, cond-false, eqb-true, eqb-false, eq-eqb, ne_eqb}
use Rattle.theory_semantics.specs.Kinds.Kind.{Kind, IntKind, BoolKind, DatatypeKind, SequenceKind, SetKind}
use Rattle.theory_checking.specs.Inference.Chain.{Chain, IntEnd, BoolEnd, DatatypeEnd, OpenEnd, SequenceOver, SetOver, Assignment, kind_of, open_end, with_ends, in_place_of}
use Rattle.theory_checking.specs.Inference.State.{State, nothing_known, state_of, Satisfies, IsOpenIn, IsResolved, looked_up, resolve, bound_to, KindEquation, Solves, IsSolved, HasNoSolution, IsUnified, CannotBeOne, ends_in, bind_open, unify_resolved, unify, solve}

-- ---- kinds of chains

pub kind_of_ends : (f : ℕ → Chain) (a : Assignment) (c : Chain) → kind_of a (with_ends f c) ≡ kind_of (λ n. kind_of a (f n)) c
kind_of_ends f a IntEnd = refl
kind_of_ends f a BoolEnd = refl
kind_of_ends f a (DatatypeEnd d) = refl
kind_of_ends f a (OpenEnd n) = refl
kind_of_ends f a (SequenceOver c) = ap SequenceKind (kind_of_ends f a c)
kind_of_ends f a (SetOver c) = ap SetKind (kind_of_ends f a c)

pub same_kind : (a b : Assignment) (c : Chain) → IfSome (open_end c) (λ n. a n ≡ b n) → kind_of a c ≡ kind_of b c
same_kind a b IntEnd h = refl
same_kind a b BoolEnd h = refl
same_kind a b (DatatypeEnd d) h = refl
same_kind a b (OpenEnd n) h = h
same_kind a b (SequenceOver c) h = ap SequenceKind (same_kind a b c h)
same_kind a b (SetOver c) h = ap SetKind (same_kind a b c h)

at_end : (P : ℕ → Type 0) (o : Option ℕ) → ((n : ℕ) → o ≡ Some n → P n) → IfSome o P
at_end P None h = tt
at_end P (Some n) h = h n refl

-- with the same kinds at all ends
equal_kinds : (a b : Assignment) (c : Chain) → ((n : ℕ) → a n ≡ b n) → kind_of a c ≡ kind_of b c
equal_kinds a b c h = same_kind a b c (at_end (λ n. a n ≡ b n) (open_end c) (λ n e. h n))

ends_of_ends : (P : ℕ → Type 0) (f : ℕ → Chain) (c : Chain) → IfSome (open_end c) (λ n. IfSome (open_end (f n)) P) → IfSome (open_end (with_ends f c)) P
ends_of_ends P f IntEnd h = tt
ends_of_ends P f BoolEnd h = tt
ends_of_ends P f (DatatypeEnd d) h = tt
ends_of_ends P f (OpenEnd n) h = h
ends_of_ends P f (SequenceOver c) h = ends_of_ends P f c h
ends_of_ends P f (SetOver c) h = ends_of_ends P f c h

pub map_end : (P Q : ℕ → Type 0) (o : Option ℕ) → ((n : ℕ) → o ≡ Some n → P n → Q n) → IfSome o P → IfSome o Q
map_end P Q None f h = tt
map_end P Q (Some n) f h = f n refl h

-- ---- a look-up

looked_up_kind : (s : State) (a : Assignment) → Satisfies a s → (n : ℕ) → kind_of a (looked_up s n) ≡ a n
looked_up_kind s a sat n = by_chain (s n) refl
  where
    by_chain : (o : Option Chain) → s n ≡ o → kind_of a (unwrap_or o (OpenEnd n)) ≡ a n
    by_chain None e = refl
    by_chain (Some c) e = sym (sat n c e)

pub resolve_kind : (s : State) (a : Assignment) (c : Chain) → Satisfies a s → kind_of a (resolve s c) ≡ kind_of a c
resolve_kind s a c sat = kind_of_ends (looked_up s) a c ∙ equal_kinds (λ n. kind_of a (looked_up s n)) a c (looked_up_kind s a sat)

pub resolve_open : (s : State) (c : Chain) → IsResolved s → IsOpenIn s (resolve s c)
resolve_open s c resolved = ends_of_ends (λ n. s n ≡ None) (looked_up s) c (at_end (λ n. IsOpenIn s (looked_up s n)) (open_end c) (λ n e. by_chain n (s n) refl))
  where
    by_chain : (n : ℕ) (o : Option Chain) → s n ≡ o → IsOpenIn s (unwrap_or o (OpenEnd n))
    by_chain n None e = e
    by_chain n (Some d) e = resolved n d e

-- each choice for the numbers that are not bound is part of an assignment that satisfies a resolved state
pub chosen : (s : State) (a : Assignment) → IsResolved s → (b : Assignment) × Satisfies b s × ((n : ℕ) → s n ≡ None → b n ≡ a n)
chosen s a resolved = (b, satisfied, λ n e. ap (λ o. kind_of a (unwrap_or o (OpenEnd n))) e)
  where
    b : Assignment
    b n = kind_of a (looked_up s n)

    free : (n : ℕ) → s n ≡ None → a n ≡ kind_of a (looked_up s n)
    free n e = sym (ap (λ o. kind_of a (unwrap_or o (OpenEnd n))) e)

    satisfied : Satisfies (λ n. kind_of a (looked_up s n)) s
    satisfied n c e =
        ap (λ o. kind_of a (unwrap_or o (OpenEnd n))) e ∙ same_kind a (λ m. kind_of a (looked_up s m)) c
        (map_end (λ m. s m ≡ None) (λ m. a m ≡ kind_of a (looked_up s m)) (open_end c) (λ m same. free m) (resolved n c e))

-- ---- an open end is bound

module _ (s : State) (n : ℕ) (c : Chain) (resolved : IsResolved s) (free : s n ≡ None) (unbound : IsOpenIn s c) (other : ends_in n c ≡ false) where
  still_free : (m : ℕ) → nat_eq n m ≡ false → s m ≡ None → bound_to s n c m ≡ None
  still_free m differs e = cond-false (nat_eq n m) (Some c) (option_map (with_ends (in_place_of n c)) (s m)) differs ∙ ap (option_map (with_ends (in_place_of n c))) e

  other_end : (m : ℕ) → open_end c ≡ Some m → nat_eq n m ≡ false
  other_end m e = let P : Option ℕ → Type 0 = λ o. elim o [ Some k ↦ nat_eq n k | None ↦ false ] ≡ false in subst P e other

  chain_open : IsOpenIn (bound_to s n c) c
  chain_open = map_end (λ m. s m ≡ None) (λ m. bound_to s n c m ≡ None) (open_end c) (λ m e h. still_free m (other_end m e) h) unbound

  pub bound_resolved : IsResolved (bound_to s n c)
  bound_resolved m d e = by_number (nat_eq n m) refl e
    where
      by_end : (k : ℕ) (t : Bool) → nat_eq n k ≡ t → s k ≡ None → IsOpenIn (bound_to s n c) (cond t c (OpenEnd k))
      by_end k true is h = chain_open
      by_end k false is h = still_free k is h

      by_old : (o : Option Chain) → s m ≡ o → option_map (with_ends (in_place_of n c)) o ≡ Some d → IsOpenIn (bound_to s n c) d
      by_old None is f = absurd (cc f)
      by_old (Some x) is f =
          let same : with_ends (in_place_of n c) x ≡ d = cc f in
          subst (IsOpenIn (bound_to s n c)) same
          (ends_of_ends (λ k. bound_to s n c k ≡ None) (in_place_of n c) x
          (map_end (λ k. s k ≡ None) (λ k. IsOpenIn (bound_to s n c) (in_place_of n c k)) (open_end x) (λ k _ h. by_end k (nat_eq n k) refl h)
          (resolved m x is)))

      by_number : (t : Bool) → nat_eq n m ≡ t → cond t (Some c) (option_map (with_ends (in_place_of n c)) (s m)) ≡ Some d → IsOpenIn (bound_to s n c) d
      by_number true is f = let same : c ≡ d = cc f in subst (IsOpenIn (bound_to s n c)) same chain_open
      by_number false is f = by_old (s m) refl f

  module _ (a : Assignment) where
    -- where the number has the chain's kind, the chain may take its place
    placed : a n ≡ kind_of a c → (d : Chain) → kind_of a (with_ends (in_place_of n c) d) ≡ kind_of a d
    placed same d = kind_of_ends (in_place_of n c) a d ∙ equal_kinds (λ k. kind_of a (in_place_of n c k)) a d (λ k. by_test k (nat_eq n k) refl)
      where
        by_test : (k : ℕ) (t : Bool) → nat_eq n k ≡ t → kind_of a (cond t c (OpenEnd k)) ≡ a k
        by_test k true is = sym same ∙ ap a (eqb-true n k is)
        by_test k false is = refl

    here : Satisfies a (bound_to s n c) → a n ≡ kind_of a c
    here sat = sat n c (cond-true (nat_eq n n) (Some c) (option_map (with_ends (in_place_of n c)) (s n)) (eq-eqb n n refl))

    before : Satisfies a (bound_to s n c) → Satisfies a s
    before sat m d e = by_number (nat_eq n m) refl
      where
        by_number : (t : Bool) → nat_eq n m ≡ t → a m ≡ kind_of a d
        by_number true is = absurd (cc (sym free ∙ ap s (eqb-true n m is) ∙ e))
        by_number false is =
            sat m (with_ends (in_place_of n c) d)
            (cond-false (nat_eq n m) (Some c) (option_map (with_ends (in_place_of n c)) (s m)) is ∙ ap (option_map (with_ends (in_place_of n c))) e)
            ∙ placed (here sat) d

    after : Satisfies a s → a n ≡ kind_of a c → Satisfies a (bound_to s n c)
    after sat same m d e = by_number (nat_eq n m) refl e
      where
        by_old : (o : Option Chain) → s m ≡ o → option_map (with_ends (in_place_of n c)) o ≡ Some d → a m ≡ kind_of a d
        by_old None is f = absurd (cc f)
        by_old (Some x) is f = let alike : with_ends (in_place_of n c) x ≡ d = cc f in sat m x is ∙ sym (placed same x) ∙ ap (kind_of a) alike

        by_number : (t : Bool) → nat_eq n m ≡ t → cond t (Some c) (option_map (with_ends (in_place_of n c)) (s m)) ≡ Some d → a m ≡ kind_of a d
        by_number true is f = let alike : c ≡ d = cc f in ap a (sym (eqb-true n m is)) ∙ same ∙ ap (kind_of a) alike
        by_number false is f = by_old (s m) refl f

  pub bound_unified : IsUnified s (OpenEnd n) c (bound_to s n c)
  bound_unified = record { resolved = bound_resolved; just = λ a. (λ sat. (before a sat, (here a sat, tt)), λ h. after a h.0 h.1.0) }

-- ---- an open end in a longer chain

abbrev kind_size : Kind → ℕ
kind_size IntKind = 0
kind_size BoolKind = 0
kind_size (DatatypeKind d) = 0
kind_size (SequenceKind k) = suc (kind_size k)
kind_size (SetKind k) = suc (kind_size k)

no_smaller : (a : Assignment) (n : ℕ) (c : Chain) → open_end c ≡ Some n → kind_size (a n) ≤ kind_size (kind_of a c)
no_smaller a n IntEnd e = absurd (cc e)
no_smaller a n BoolEnd e = absurd (cc e)
no_smaller a n (DatatypeEnd d) e = absurd (cc e)
no_smaller a n (OpenEnd m) e = let same : m ≡ n = cc e in subst (λ k. kind_size (a n) ≤ kind_size (a k)) (sym same) (omega arith)
no_smaller a n (SequenceOver c) e = let le : kind_size (a n) ≤ kind_size (kind_of a c) = no_smaller a n c e in omega arith
no_smaller a n (SetOver c) e = let le : kind_size (a n) ≤ kind_size (kind_of a c) = no_smaller a n c e in omega arith

-- ---- two resolved chains

-- what is answered is right
abbrev pub IsRight : State → List KindEquation → Option State → Type 0
IsRight s es None = HasNoSolution s es
IsRight s es (Some t) = IsSolved s es t

-- equations that say the same
right_same : (s : State) (es fs : List KindEquation) (o : Option State) → ((a : Assignment) → Satisfies a s → Solves a es → Solves a fs) →
    ((a : Assignment) → Satisfies a s → Solves a fs → Solves a es) → IsRight s es o → IsRight s fs o
right_same s es fs None f g h = λ a sat solves. h a sat (g a sat solves)
right_same s es fs (Some t) f g h = record {
  resolved = h.resolved;
  just = λ a. (λ sat. (((h.just a).0 sat).0, f a ((h.just a).0 sat).0 ((h.just a).0 sat).1), λ x. (h.just a).1 (x.0, g a x.0 x.1));
}

pub nothing_done : (s : State) (es : List KindEquation) → IsResolved s → ((a : Assignment) → Satisfies a s → Solves a es) → IsSolved s es s
nothing_done s es resolved h = record { resolved = resolved; just = λ a. (λ sat. (sat, h a sat), λ x. x.0) }

module _ (s : State) (resolved : IsResolved s) where
  longer : (n : ℕ) (c : Chain) → ((a : Assignment) → open_end c ≡ Some n → a n ≢ kind_of a c) → s n ≡ None → IsOpenIn s c →
      IsRight s ((OpenEnd n, c) ∷ []) (cond (ends_in n c) None (Some (bound_to s n c)))
  longer n c misfit free unbound = by_test (ends_in n c) refl
    where
      found : (o : Option ℕ) → elim o [ Some m ↦ nat_eq n m | None ↦ false ] ≡ true → o ≡ Some n
      found None e = absurd (cc e)
      found (Some m) e = ap Some (sym (eqb-true n m e))

      by_test : (t : Bool) → ends_in n c ≡ t → IsRight s ((OpenEnd n, c) ∷ []) (cond t None (Some (bound_to s n c)))
      by_test true is = λ a sat h. misfit a (found (open_end c) is) h.0
      by_test false is = bound_unified s n c resolved free unbound is

  no_end : (n : ℕ) (c : Chain) → open_end c ≡ None → (a : Assignment) → open_end c ≡ Some n → a n ≢ kind_of a c
  no_end n c e a f = absurd (cc (sym e ∙ f))

  bind_right : (n : ℕ) (c : Chain) → s n ≡ None → IsOpenIn s c → IsRight s ((OpenEnd n, c) ∷ []) (bind_open s n c)
  bind_right n IntEnd free unbound = longer n IntEnd (no_end n IntEnd refl) free unbound
  bind_right n BoolEnd free unbound = longer n BoolEnd (no_end n BoolEnd refl) free unbound
  bind_right n (DatatypeEnd d) free unbound = longer n (DatatypeEnd d) (no_end n (DatatypeEnd d) refl) free unbound
  bind_right n (OpenEnd m) free unbound = by_test (nat_eq n m) refl
    where
      by_test : (t : Bool) → nat_eq n m ≡ t → IsRight s ((OpenEnd n, OpenEnd m) ∷ []) (cond t (Some s) (Some (bound_to s n (OpenEnd m))))
      by_test true is = nothing_done s ((OpenEnd n, OpenEnd m) ∷ []) resolved (λ a sat. (ap a (eqb-true n m is), tt))
      by_test false is = bound_unified s n (OpenEnd m) resolved free unbound is
  bind_right n (SequenceOver c) free unbound = longer n (SequenceOver c) (λ a e same. larger_sequence a c (no_smaller a n c e) same) free unbound
    where
      larger_sequence : (a : Assignment) (c : Chain) → kind_size (a n) ≤ kind_size (kind_of a c) → a n ≢ SequenceKind (kind_of a c)
      larger_sequence a c le e = let is : kind_size (a n) ≡ suc (kind_size (kind_of a c)) = ap kind_size e in omega arith
  bind_right n (SetOver c) free unbound = longer n (SetOver c) (λ a e same. larger_set a c (no_smaller a n c e) same) free unbound
    where
      larger_set : (a : Assignment) (c : Chain) → kind_size (a n) ≤ kind_size (kind_of a c) → a n ≢ SetKind (kind_of a c)
      larger_set a c le e = let is : kind_size (a n) ≡ suc (kind_size (kind_of a c)) = ap kind_size e in omega arith

  swapped : (c d : Chain) (o : Option State) → IsRight s ((d, c) ∷ []) o → IsRight s ((c, d) ∷ []) o
  swapped c d o h = right_same s ((d, c) ∷ []) ((c, d) ∷ []) o (λ a sat e. (sym e.0, tt)) (λ a sat e. (sym e.0, tt)) h

  pub unify_right : (c d : Chain) → IsOpenIn s c → IsOpenIn s d → IsRight s ((c, d) ∷ []) (unify_resolved s c d)
  unify_right (SequenceOver c) (SequenceOver d) g h =
      right_same s ((c, d) ∷ []) ((SequenceOver c, SequenceOver d) ∷ []) (unify_resolved s c d) (λ a sat e. (ap SequenceKind e.0, tt)) (λ a sat e. (cc e.0, tt)) (unify_right c d g h)
  unify_right (SetOver c) (SetOver d) g h =
      right_same s ((c, d) ∷ []) ((SetOver c, SetOver d) ∷ []) (unify_resolved s c d) (λ a sat e. (ap SetKind e.0, tt)) (λ a sat e. (cc e.0, tt)) (unify_right c d g h)
  unify_right (OpenEnd n) d g h = bind_right n d g h
  unify_right c (OpenEnd m) g h = swapped c (OpenEnd m) (bind_open s m c) (bind_right m c h g)
  unify_right IntEnd IntEnd g h = nothing_done s ((IntEnd, IntEnd) ∷ []) resolved (λ a sat. (refl, tt))
  unify_right BoolEnd BoolEnd g h = nothing_done s ((BoolEnd, BoolEnd) ∷ []) resolved (λ a sat. (refl, tt))
  unify_right (DatatypeEnd c) (DatatypeEnd d) g h = by_test (nat_eq c d) refl
    where
      by_test : (t : Bool) → nat_eq c d ≡ t → IsRight s ((DatatypeEnd c, DatatypeEnd d) ∷ []) (cond t (Some s) None)
      by_test true is = nothing_done s ((DatatypeEnd c, DatatypeEnd d) ∷ []) resolved (λ a sat. (ap DatatypeKind (eqb-true c d is), tt))
      by_test false is = λ a sat e. let same : c ≡ d = cc e.0 in eqb-false c d is same
  unify_right c d g h = λ a sat e. absurd (cc e.0)

  pub made_one : (c d : Chain) → IsRight s ((c, d) ∷ []) (unify s c d)
  made_one c d =
      right_same s ((resolve s c, resolve s d) ∷ []) ((c, d) ∷ []) (unify s c d) (λ a sat e. (sym (resolve_kind s a c sat) ∙ e.0 ∙ resolve_kind s a d sat, tt))
      (λ a sat e. (resolve_kind s a c sat ∙ e.0 ∙ sym (resolve_kind s a d sat), tt))
      (unify_right (resolve s c) (resolve s d) (resolve_open s c resolved) (resolve_open s d resolved))

-- ---- equations in turn

pub solves_front : (a : Assignment) (es fs : List KindEquation) → Solves a (es ++ fs) → Solves a es
solves_front a [] fs h = tt
solves_front a (e ∷ es) fs h = (h.0, solves_front a es fs h.1)

pub solves_back : (a : Assignment) (es fs : List KindEquation) → Solves a (es ++ fs) → Solves a fs
solves_back a [] fs h = h
solves_back a (e ∷ es) fs h = solves_back a es fs h.1

pub solves_both : (a : Assignment) (es fs : List KindEquation) → Solves a es → Solves a fs → Solves a (es ++ fs)
solves_both a [] fs g h = h
solves_both a (e ∷ es) fs g h = (g.0, solves_both a es fs g.1 h)

pub solved_then : (s t u : State) (es fs : List KindEquation) → IsSolved s es t → IsSolved t fs u → IsSolved s (es ++ fs) u
solved_then s t u es fs g h = record {
  resolved = h.resolved;
  just = λ a. (
    λ sat. let x = (h.just a).0 sat in let y = (g.just a).0 x.0 in (y.0, solves_both a es fs y.1 x.1),
    λ z. (h.just a).1 ((g.just a).1 (z.0, solves_front a es fs z.1), solves_back a es fs z.1),
  );
}

pub unsolved_then : (s t : State) (es fs : List KindEquation) → IsSolved s es t → HasNoSolution t fs → HasNoSolution s (es ++ fs)
unsolved_then s t es fs g h = λ a sat z. h a ((g.just a).1 (sat, solves_front a es fs z)) (solves_back a es fs z)

pub unsolved_first : (s : State) (es fs : List KindEquation) → HasNoSolution s es → HasNoSolution s (es ++ fs)
unsolved_first s es fs h = λ a sat z. h a sat (solves_front a es fs z)

pub solve_right : (s : State) (es : List KindEquation) → IsResolved s → IsRight s es (solve s es)
solve_right s [] resolved = nothing_done s [] resolved (λ a sat. tt)
solve_right s (e ∷ es) resolved = by_first (unify s e.0 e.1) (made_one s resolved e.0 e.1) (λ t h. solve_right t es h)
  where
    by_rest : (t : State) (o : Option State) → IsSolved s (e ∷ []) t → IsRight t es o → IsRight s (e ∷ es) o
    by_rest t None g h = unsolved_then s t (e ∷ []) es g h
    by_rest t (Some u) g h = solved_then s t u (e ∷ []) es g h

    by_first : (o : Option State) → IsRight s (e ∷ []) o → ((t : State) → IsResolved t → IsRight t es (solve t es)) → IsRight s (e ∷ es) (elim o [ Some t ↦ solve t es | None ↦ None ])
    by_first None h rest = unsolved_first s (e ∷ []) es h
    by_first (Some t) h rest = by_rest t (solve t es) h (rest t h.resolved)

pub nothing_resolved : IsResolved nothing_known
nothing_resolved n c e = absurd (cc e)

-- ---- the steps one by one

pub under_sequences : (s : State) (c d : Chain) (o : Option State) → IsRight s ((c, d) ∷ []) o → IsRight s ((SequenceOver c, SequenceOver d) ∷ []) o
under_sequences s c d o h = right_same s ((c, d) ∷ []) ((SequenceOver c, SequenceOver d) ∷ []) o (λ a sat e. (ap SequenceKind e.0, tt)) (λ a sat e. (cc e.0, tt)) h

pub under_sets : (s : State) (c d : Chain) (o : Option State) → IsRight s ((c, d) ∷ []) o → IsRight s ((SetOver c, SetOver d) ∷ []) o
under_sets s c d o h = right_same s ((c, d) ∷ []) ((SetOver c, SetOver d) ∷ []) o (λ a sat e. (ap SetKind e.0, tt)) (λ a sat e. (cc e.0, tt)) h

pub turned : (s : State) (c d : Chain) (o : Option State) → IsRight s ((c, d) ∷ []) o → IsRight s ((d, c) ∷ []) o
turned s c d o h = right_same s ((c, d) ∷ []) ((d, c) ∷ []) o (λ a sat e. (sym e.0, tt)) (λ a sat e. (sym e.0, tt)) h

pub from_resolved : (s : State) (c d : Chain) (o : Option State) → IsRight s ((resolve s c, resolve s d) ∷ []) o → IsRight s ((c, d) ∷ []) o
from_resolved s c d o h =
    right_same s ((resolve s c, resolve s d) ∷ []) ((c, d) ∷ []) o (λ a sat e. (sym (resolve_kind s a c sat) ∙ e.0 ∙ resolve_kind s a d sat, tt))
    (λ a sat e. (resolve_kind s a c sat ∙ e.0 ∙ sym (resolve_kind s a d sat), tt)) h

larger : (k j : Kind) → kind_size k ≤ kind_size j → k ≢ SequenceKind j
larger k j le e = let is : kind_size k ≡ suc (kind_size j) = ap kind_size e in omega arith

larger_set_kind : (k j : Kind) → kind_size k ≤ kind_size j → k ≢ SetKind j
larger_set_kind k j le e = let is : kind_size k ≡ suc (kind_size j) = ap kind_size e in omega arith

pub longer_sequence : (s : State) (n : ℕ) (c : Chain) → open_end c ≡ Some n → CannotBeOne s (OpenEnd n) (SequenceOver c)
longer_sequence s n c e = λ a sat x. larger (a n) (kind_of a c) (no_smaller a n c e) x.0

pub longer_set : (s : State) (n : ℕ) (c : Chain) → open_end c ≡ Some n → CannotBeOne s (OpenEnd n) (SetOver c)
longer_set s n c e = λ a sat x. larger_set_kind (a n) (kind_of a c) (no_smaller a n c e) x.0

pub is_solved : (s : State) (es : List KindEquation) (o : Option State) (t : State) → IsRight s es o → o ≡ Some t → IsSolved s es t
is_solved s es o t h e = subst (IsRight s es) e h

pub is_unsolved : (s : State) (es : List KindEquation) (o : Option State) → IsRight s es o → o ≡ None → HasNoSolution s es
is_unsolved s es o h e = subst (IsRight s es) e h

-- ---- states that say the same of each number

satisfies_same : (a : Assignment) (s t : State) → ((n : ℕ) → s n ≡ t n) → Satisfies a s → Satisfies a t
satisfies_same a s t same sat n c e = sat n c (same n ∙ e)

pub same_after : (s t u : State) (es : List KindEquation) → ((n : ℕ) → t n ≡ u n) → IsSolved s es t → IsSolved s es u
same_after s t u es same h = record {
  resolved = λ n c e. map_end (λ m. t m ≡ None) (λ m. u m ≡ None) (open_end c) (λ m is free. sym (same m) ∙ free) (h.resolved n c (same n ∙ e));
  just = λ a. (λ sat. (h.just a).0 (satisfies_same a u t (λ n. sym (same n)) sat), λ x. satisfies_same a t u same ((h.just a).1 x));
}

pub same_before : (s t u : State) (es : List KindEquation) → ((n : ℕ) → s n ≡ u n) → IsSolved s es t → IsSolved u es t
same_before s t u es same h = record {
  resolved = h.resolved;
  just = λ a. (λ sat. let x = (h.just a).0 sat in (satisfies_same a s u same x.0, x.1), λ x. (h.just a).1 (satisfies_same a u s (λ n. sym (same n)) x.0, x.1));
}

pub same_none : (s u : State) (es : List KindEquation) → ((n : ℕ) → s n ≡ u n) → HasNoSolution s es → HasNoSolution u es
same_none s u es same h = λ a sat. h a (satisfies_same a u s (λ n. sym (same n)) sat)

pub longer_list : (cs : List (Option Chain)) (n : ℕ) → state_of (cs ++ None ∷ []) n ≡ state_of cs n
longer_list [] zero = refl
longer_list [] (suc n) = refl
longer_list (c ∷ cs) zero = refl
longer_list (c ∷ cs) (suc n) = longer_list cs n

state_mapped : (f : Option Chain → Option Chain) (cs : List (Option Chain)) (m : ℕ) → f None ≡ None → state_of (map f cs) m ≡ f (state_of cs m)
state_mapped f [] m e = sym e
state_mapped f (c ∷ cs) zero e = refl
state_mapped f (c ∷ cs) (suc m) e = state_mapped f cs m e

zero_differs : (m : ℕ) → nat_eq zero (suc m) ≡ false
zero_differs m = ne_eqb zero (suc m) (λ e. absurd (cc e))

suc_differs : (n : ℕ) → nat_eq (suc n) zero ≡ false
suc_differs n = ne_eqb (suc n) zero (λ e. absurd (cc e))

both_suc : (n m : ℕ) → nat_eq (suc n) (suc m) ≡ nat_eq n m
both_suc n m = by_test (nat_eq n m) refl
  where
    by_test : (t : Bool) → nat_eq n m ≡ t → nat_eq (suc n) (suc m) ≡ nat_eq n m
    by_test true is = eq-eqb (suc n) (suc m) (ap suc (eqb-true n m is)) ∙ sym is
    by_test false is = ne_eqb (suc n) (suc m) (λ e. eqb-false n m is (cc e)) ∙ sym is

pub bound_list : (f : Option Chain → Option Chain) (x : Option Chain) (cs : List (Option Chain)) (n m : ℕ) → f None ≡ None → n < length cs →
    state_of (set (map f cs) n x) m ≡ cond (nat_eq n m) x (f (state_of cs m))
bound_list f x [] n m e small = absurd (omega arith)
bound_list f x (c ∷ cs) zero zero e small = refl
bound_list f x (c ∷ cs) zero (suc m) e small = state_mapped f cs m e ∙ sym (cond-false (nat_eq zero (suc m)) x (f (state_of cs m)) (zero_differs m))
bound_list f x (c ∷ cs) (suc n) zero e small = sym (cond-false (nat_eq (suc n) zero) x (f c) (suc_differs n))
bound_list f x (c ∷ cs) (suc n) (suc m) e small = bound_list f x cs n m e (omega arith) ∙ ap (λ t. cond t x (f (state_of cs m))) (sym (both_suc n m))
