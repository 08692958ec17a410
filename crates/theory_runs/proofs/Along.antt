-- The states after the traces of a path's beginnings, one more action at a time.
use Rattle.std.proofs.Common.{◌≡◌, ◌+◌, ℕ, ◌≤◌, ⊎_elim, ◌⊎◌, inl, inr, List, [], ◌∷◌, ◌++◌, length, slice_get, Some, take, sym, ◌∙◌, ap, subst, arith, append-nil, length-append}
use Rattle.std.proofs.lemmas.List.{take-append-le, take_all}
use Rattle.std.proofs.lemmas.Option.{slice_get_within}
use Rattle.theory_syntax.specs.Value.{Action, Tau}
use Rattle.theory_syntax.specs.Process.{Process, Script}
use Rattle.theory_syntax.proofs.Places.{get_cases, get_only}
use Rattle.theory_semantics.specs.Meaning.Transitions.{IsVisible}
use Rattle.theory_semantics.specs.Meaning.Runs.{trace, IsAfter}
use Rattle.theory_semantics.proofs.Running.{trace-append, snoc_trace}
use Rattle.theory_search.specs.Counting.{AreMoreThan}
use Rattle.theory_search.specs.Growth.{AreDistinct}
use Rattle.theory_runs.specs.States.{AreAfter, AreStatesAlong, AreSmall, AreMoreAlong}

tau_trace : (path : List Action) → trace (path ++ Tau ∷ []) ≡ trace path
tau_trace path = trace-append path (Tau ∷ []) ∙ append-nil (trace path)

-- ---- the states after one more action

pub after_tau : (script : Script) (t : Process) (path : List Action) (states : List Process) → AreAfter script t (trace path) states → AreAfter script t (trace (path ++ Tau ∷ [])) states
after_tau script t path states = subst (λ s. AreAfter script t s states) (sym (tau_trace path))

pub after_visible : (script : Script) (t : Process) (path : List Action) (x : Action) (states : List Process) → IsVisible x → AreAfter script t (trace path ++ x ∷ []) states →
    AreAfter script t (trace (path ++ x ∷ [])) states
after_visible script t path x states visible = subst (λ s. AreAfter script t s states) (sym (snoc_trace path x visible))

pub many_visible : (script : Script) (t : Process) (path : List Action) (x : Action) (n : ℕ) → IsVisible x → AreMoreThan ◌≡◌ n (IsAfter script t (trace path ++ x ∷ [])) →
    AreMoreThan ◌≡◌ n (IsAfter script t (trace (path ++ x ∷ [])))
many_visible script t path x n visible = subst (λ s. AreMoreThan ◌≡◌ n (IsAfter script t s)) (sym (snoc_trace path x visible))

-- ---- the lists of states

pub along_none : (script : Script) (t : Process) (states : List Process) (all : List (List Process)) → AreAfter script t [] states → all ≡ states ∷ [] → AreStatesAlong script t [] all
along_none script t states all after is = record {
  long = ap length is;
  each = λ i others at.
      let h = get_only states others i (sym (ap (λ ss. slice_get ss i) is) ∙ at) in
      subst (λ k. AreAfter script t (trace (take k [])) others) (sym h.0) (subst (AreAfter script t []) (sym h.1) after);
}

-- the last list has the states after the whole path
pub along_last : (script : Script) (t : Process) (path : List Action) (all : List (List Process)) (last : List Process) → AreStatesAlong script t path all → slice_get all (length path) ≡ Some last →
    AreAfter script t (trace path) last
along_last script t path all last along at = subst (λ p. AreAfter script t (trace p) last) (take_all (length path) path (omega arith)) (along.each (length path) last at)

pub along_more : (script : Script) (t : Process) (path longer : List Action) (x : Action) (all more : List (List Process)) (states : List Process) → AreStatesAlong script t path all →
    AreAfter script t (trace (path ++ x ∷ [])) states → longer ≡ path ++ x ∷ [] → more ≡ all ++ states ∷ [] →
    AreStatesAlong script t longer more
along_more script t path longer x all more states along after is pushed =
    let long : length longer ≡ length path + 1 = ap length is ∙ length-append path (x ∷ []) in
    let many : length more ≡ length all + 1 = ap length pushed ∙ length-append all (states ∷ []) in
    record { long = omega (arith, long, many, along.long); each = each }
  where
    each : (i : ℕ) (others : List Process) → slice_get more i ≡ Some others → AreAfter script t (trace (take i longer)) others
    each i others at = by (get_cases all states i others (sym (ap (λ ss. slice_get ss i) pushed) ∙ at))
      where
        by : (slice_get all i ≡ Some others) ⊎ ((i ≡ length all) × (others ≡ states)) → AreAfter script t (trace (take i longer)) others
        by (inl h) =
            let low = slice_get_within all i others h in
            let same : take i longer ≡ take i path = ap (take i) is ∙ take-append-le i path (x ∷ []) (omega (arith, low, along.long)) in
            subst (λ p. AreAfter script t (trace p) others) (sym same) (along.each i others h)
        by (inr h) =
            let long : length (path ++ x ∷ []) ≡ length path + 1 = length-append path (x ∷ []) in
            let same : take i longer ≡ path ++ x ∷ [] = ap (take i) is ∙ take_all i (path ++ x ∷ []) (omega (arith, h.0, along.long, long)) in
            subst (λ p. AreAfter script t (trace p) others) (sym same) (subst (AreAfter script t (trace (path ++ x ∷ []))) (sym h.1) after)

pub small_none : (n : ℕ) (states : List Process) (all : List (List Process)) → AreDistinct states × (length states ≤ n) → all ≡ states ∷ [] → AreSmall n all
small_none n states all small is i others at =
    let h = get_only states others i (sym (ap (λ ss. slice_get ss i) is) ∙ at) in subst (λ ss. AreDistinct ss × (length ss ≤ n)) (sym h.1) small

pub small_more : (n : ℕ) (all more : List (List Process)) (states : List Process) → AreSmall n all → AreDistinct states × (length states ≤ n) → more ≡ all ++ states ∷ [] → AreSmall n more
small_more n all more states small one pushed i others at =
    ⊎_elim (λ h. small i others h) (λ h. subst (λ ss. AreDistinct ss × (length ss ≤ n)) (sym h.1) one) (get_cases all states i others (sym (ap (λ ss. slice_get ss i) pushed) ∙ at))

-- more states than there may be, after one more action of a path
pub many_along : (n : ℕ) (script : Script) (t : Process) (path done : List Action) (x : Action) (i : ℕ) → take i path ≡ done ++ x ∷ [] →
    AreMoreThan ◌≡◌ n (IsAfter script t (trace (done ++ x ∷ []))) → AreMoreAlong n script t path
many_along n script t path done x i is many = (i, subst (λ p. AreMoreThan ◌≡◌ n (IsAfter script t (trace p))) (sym is) many)
