-- Processes ask part by part.
use Rattle.std.proofs.Common.{◌≡◌, ℕ, suc, List, [], ◌∷◌, ◌++◌, Option, Some, None, refl, sym, inl, inr, ◌∙◌, ap, append_assoc}
use Rattle.std.specs.Prelude.{slice_get}
use Rattle.theory_syntax.specs.Expression.{Expression}
use Rattle.theory_syntax.specs.Process.{Field, EventSet, RenamingPair, Script, Process, Prefix, Guard, If, GeneralisedParallel, AlphabetisedParallel, Hiding, Renaming, SlidingChoice}
use Rattle.theory_checking.specs.Inference.Chain as chain
use Rattle.theory_checking.specs.Inference.State.{KindEquation}
use Rattle.theory_checking.specs.Inference.Equations as numbers
use Rattle.theory_checking.specs.Inference.Equations.{never, when}
use Rattle.theory_checking.specs.Inference.Expressions.{behind_expression, of_expression}
use Rattle.theory_checking.specs.Inference.Processes.{behind_event_set, behind_fields, behind_pairs, behind_process, names_behind, of_event_set, of_fields, of_pairs, of_process}
use Rattle.theory_syntax.specs.declared.process_operator.ProcessOperator.{ProcessOperator}
use Rattle.theory_syntax.specs.declared.process_operator.ProcessOperator.TheVariants as binary
use Rattle.theory_syntax.specs.declared.process_operator.ReplicatedOperator.{ReplicatedOperator}
use Rattle.theory_syntax.specs.declared.process_operator.ReplicatedOperator.TheVariants as replicated
use Rattle.theory_syntax.specs.Operators.{binary_process, replicated_process}
use Rattle.csp_inference.specs.declared.equations.Equations.{Equations}
use Rattle.csp_inference.specs.Equations.{Adds, AreHopeless, Asks, HasNames, equations_of, exactly, hopelessly, names_behind_prefix}
use Rattle.csp_inference.proofs.Adding.{knows_then}
use Rattle.csp_inference.proofs.Asking.{asks_knows, asks_same, asks_then, hopeless_back, hopeless_front, hopeless_same, never_hopeless}

-- what has no solution has none with others in its place
pub asks_hopeless : {A : Type 0} (s t : Equations A) (es fs : List KindEquation) (n m : ℕ) → AreHopeless es → AreHopeless fs → Asks s t es n → Asks s t fs m
asks_hopeless s t es fs n m none less (exactly h) =
    hopelessly (hopeless_back (equations_of s) fs less)
    (hopeless_same (equations_of s ++ es) (equations_of t) (sym h.met) (hopeless_back (equations_of s) es none)) h.known
asks_hopeless s t es fs n m none less (hopelessly whole now known) = hopelessly (hopeless_back (equations_of s) fs less) now known

-- what has no solution yet has none with more
still_hopeless : {A : Type 0} (s t : Equations A) (es : List KindEquation) (n : ℕ) → AreHopeless (equations_of s) → Asks s t es n → AreHopeless (equations_of t)
still_hopeless s t es n none (exactly h) = hopeless_same (equations_of s ++ es) (equations_of t) (sym h.met) (hopeless_front (equations_of s) es none)
still_hopeless s t es n none (hopelessly whole now known) = now

so_far : {A : Type 0} (s t : Equations A) (es : List KindEquation) (n : ℕ) → AreHopeless (equations_of t) → Asks s t es n → AreHopeless (equations_of s ++ es)
so_far s t es n none (exactly h) = hopeless_same (equations_of t) (equations_of s ++ es) h.met none
so_far s t es n none (hopelessly whole now known) = whole

module _ {A : Type 0} (script : Script) (o : numbers.Numbering) (names : numbers.Numbered) (s : Equations A) (p : Process) where
  -- What the process asks, when the equations are those of t.
  abbrev pub Asked : Equations A → Type 0
  Asked t = Asks s t (of_process script o s.next names p) (behind_process s.next p)

  abbrev pub Part : Equations A → Equations A → Process → Type 0
  Part t u q = Asks t u (of_process script o t.next names q) (behind_process t.next q)

  abbrev pub Condition : Equations A → Equations A → Expression → chain.Chain → Type 0
  Condition t u e k = Asks t u (of_expression script.types o t.next names e k) (behind_expression t.next e)

  abbrev pub Events : Equations A → Equations A → EventSet → Type 0
  Events t u a = Asks t u (of_event_set script.types o t.next names a) (behind_event_set t.next a)

  pub whole : (t : Equations A) (q : Process) → p ≡ q → Asks s t (of_process script o s.next names q) (behind_process s.next q) → Asked t
  whole t q is h =
      asks_same s t (of_process script o s.next names q) (of_process script o s.next names p) (behind_process s.next q) (behind_process s.next p)
      (ap (of_process script o s.next names) (sym is)) (ap (behind_process s.next) (sym is)) h

  next_part : (t u : Equations A) (es : List KindEquation) (n : ℕ) (q : Process) → Asks s t es n → Part t u q → Asks s u (es ++ of_process script o n names q) (behind_process n q)
  next_part t u es n q first second = asks_then s t u es n (λ m. of_process script o m names q) (λ m. behind_process m q) first second

  next_events : (t u : Equations A) (es : List KindEquation) (n : ℕ) (a : EventSet) → Asks s t es n → Events t u a → Asks s u (es ++ of_event_set script.types o n names a) (behind_event_set n a)
  next_events t u es n a first second = asks_then s t u es n (λ m. of_event_set script.types o m names a) (λ m. behind_event_set m a) first second

  pub asked_guard : (t u : Equations A) (e : Expression) (q : Process) → p ≡ Guard e q → Condition s t e chain.BoolEnd → Part t u q → Asked u
  asked_guard t u e q is first second = whole u (Guard e q) is (next_part t u (of_expression script.types o s.next names e chain.BoolEnd) (behind_expression s.next e) q first second)

  pub asked_if : (t u v : Equations A) (e : Expression) (q r : Process) → p ≡ If e q r → Condition s t e chain.BoolEnd → Part t u q → Part u v r → Asked v
  asked_if t u v e q r is first second third =
      let front = next_part t u (of_expression script.types o s.next names e chain.BoolEnd) (behind_expression s.next e) q first second in
      whole v (If e q r) is
      (next_part u v (of_expression script.types o s.next names e chain.BoolEnd ++ of_process script o (behind_expression s.next e) names q)
      (behind_process (behind_expression s.next e) q) r front third)

  pub asked_binary : (t u : Equations A) (op : ProcessOperator) (q r : Process) → p ≡ binary_process op q r → Part s t q → Part t u r → Asked u
  asked_binary t u op q r is first second =
      whole u (binary_process op q r) is
      (asks_same s u (of_process script o s.next names q ++ of_process script o (behind_process s.next q) names r)
      (of_process script o s.next names (binary_process op q r)) (behind_process (behind_process s.next q) r)
      (behind_process s.next (binary_process op q r)) (by_operator op) (behind_operator op)
      (next_part t u (of_process script o s.next names q) (behind_process s.next q) r first second))
    where
      by_operator : (op : ProcessOperator) → of_process script o s.next names q ++ of_process script o (behind_process s.next q) names r ≡ of_process script o s.next names (binary_process op q r)
      by_operator binary.ExternalChoice = refl
      by_operator binary.InternalChoice = refl
      by_operator binary.Sequential = refl
      by_operator binary.Interleaving = refl
      by_operator binary.Interrupt = refl

      behind_operator : (op : ProcessOperator) → behind_process (behind_process s.next q) r ≡ behind_process s.next (binary_process op q r)
      behind_operator binary.ExternalChoice = refl
      behind_operator binary.InternalChoice = refl
      behind_operator binary.Sequential = refl
      behind_operator binary.Interleaving = refl
      behind_operator binary.Interrupt = refl

  pub asked_sliding : (t u : Equations A) (q r : Process) → p ≡ SlidingChoice q r → Part s t q → Part t u r → Asked u
  asked_sliding t u q r is first second =
      whole u (SlidingChoice q r) is (next_part t u (of_process script o s.next names q) (behind_process s.next q) r first second)

  pub asked_generalised : (t u v : Equations A) (q r : Process) (a : EventSet) → p ≡ GeneralisedParallel q a r → Part s t q → Events t u a → Part u v r → Asked v
  asked_generalised t u v q r a is first second third =
      let front = next_events t u (of_process script o s.next names q) (behind_process s.next q) a first second in
      whole v (GeneralisedParallel q a r) is
      (next_part u v (of_process script o s.next names q ++ of_event_set script.types o (behind_process s.next q) names a) (behind_event_set (behind_process s.next q) a) r front third)

  pub asked_alphabetised : (t u v w : Equations A) (q r : Process) (a b : EventSet) → p ≡ AlphabetisedParallel q a b r → Part s t q → Events t u a → Events u v b → Part v w r → Asked w
  asked_alphabetised t u v w q r a b is first second third last =
      let es = of_process script o s.next names q ++ of_event_set script.types o (behind_process s.next q) names a in
      let n = behind_event_set (behind_process s.next q) a in
      let front = next_events t u (of_process script o s.next names q) (behind_process s.next q) a first second in
      let middle = next_events u v es n b front third in
      whole w (AlphabetisedParallel q a b r) is (next_part v w (es ++ of_event_set script.types o n names b) (behind_event_set n b) r middle last)

  pub asked_hiding : (t u : Equations A) (q : Process) (a : EventSet) → p ≡ Hiding q a → Part s t q → Events t u a → Asked u
  asked_hiding t u q a is first second = whole u (Hiding q a) is (next_events t u (of_process script o s.next names q) (behind_process s.next q) a first second)

  pub asked_renaming : (t u : Equations A) (q : Process) (rs : List RenamingPair) → p ≡ Renaming q rs → Part s t q → Asks t u (of_pairs script o t.next names rs) (behind_pairs t.next rs) → Asked u
  asked_renaming t u q rs is first second =
      whole u (Renaming q rs) is (asks_then s t u (of_process script o s.next names q) (behind_process s.next q) (λ m. of_pairs script o m names rs) (λ m. behind_pairs m rs) first second)

  -- a number for the name, its set, and the process with the name
  pub asked_replicated : (t u v : Equations A) (op : ReplicatedOperator) (x n : ℕ) (e : Expression) (q : Process) (inner : numbers.Numbered) →
      p ≡ replicated_process op x e q → n ≡ s.next → inner ≡ (x, n) ∷ names → Adds s t [] (suc s.next) → Condition t u e (chain.SetOver (chain.OpenEnd n)) →
      Asks u v (of_process script o u.next inner q) (behind_process u.next q) → Asked v
  asked_replicated t u v op x n e q inner is numbered named fresh first second =
      let es = of_expression script.types o (suc s.next) names e (chain.SetOver (chain.OpenEnd s.next)) in
      let k = behind_expression (suc s.next) e in
      let named_here = named ∙ ap (λ m. (x, m) ∷ names) numbered in
      let kind = ap (λ m. of_expression script.types o t.next names e (chain.SetOver (chain.OpenEnd m))) numbered in
      let set = asks_same t u (of_expression script.types o t.next names e (chain.SetOver (chain.OpenEnd n)))
      (of_expression script.types o t.next names e (chain.SetOver (chain.OpenEnd s.next))) (behind_expression t.next e) (behind_expression t.next e) kind refl
      first in
      let front = asks_then s t u [] (suc s.next) (λ m. of_expression script.types o m names e (chain.SetOver (chain.OpenEnd s.next))) (λ m. behind_expression m e) (exactly fresh) set in
      let body = asks_same u v (of_process script o u.next inner q) (of_process script o u.next ((x, s.next) ∷ names) q) (behind_process u.next q)
      (behind_process u.next q) (ap (λ ns. of_process script o u.next ns q) named_here) refl second in
      whole v (replicated_process op x e q) is
      (asks_same s v (es ++ of_process script o k ((x, s.next) ∷ names) q) (of_process script o s.next names (replicated_process op x e q))
      (behind_process k q) (behind_process s.next (replicated_process op x e q)) (by_operator op) (behind_operator op)
      (asks_then s u v es k (λ m. of_process script o m ((x, s.next) ∷ names) q) (λ m. behind_process m q) front body))
    where
      by_operator : (op : ReplicatedOperator) →
          of_expression script.types o (suc s.next) names e (chain.SetOver (chain.OpenEnd s.next))
          ++ of_process script o (behind_expression (suc s.next) e) ((x, s.next) ∷ names) q ≡ of_process script o s.next names (replicated_process op x e q)
      by_operator replicated.ExternalChoice = refl
      by_operator replicated.InternalChoice = refl
      by_operator replicated.Interleaving = refl

      behind_operator : (op : ReplicatedOperator) → behind_process (behind_expression (suc s.next) e) q ≡ behind_process s.next (replicated_process op x e q)
      behind_operator replicated.ExternalChoice = refl
      behind_operator replicated.InternalChoice = refl
      behind_operator replicated.Interleaving = refl

  -- the fields of a prefix, and the process with the names behind its inputs
  pub asked_prefix : (t u : Equations A) (c : ℕ) (fs : List Field) (q : Process) (inner : numbers.Numbered) →
      p ≡ Prefix c fs q → Asks s t (when (slice_get o.channels c) (of_fields script.types o s.next names fs)) (behind_fields s.next fs) →
      HasNames t inner (names_behind_prefix o names c fs) →
      Asks t u (of_process script o t.next inner q) (behind_process t.next q) → Asked u
  asked_prefix t u c fs q inner is first named second = whole u (Prefix c fs q) is (by_names named)
    where
      by_channel : (r : Option (List ℕ)) →
          slice_get o.channels c ≡ r →
          Asks s u (when (slice_get o.channels c) (of_fields script.types o s.next names fs)
          ++ of_process script o (behind_fields s.next fs) (names_behind_prefix o names c fs) q) (behind_process (behind_fields s.next fs) q) →
          Asks s u (of_process script o s.next names (Prefix c fs q)) (behind_process s.next (Prefix c fs q))
      by_channel (Some ms) found h =
          asks_same s u _ (of_process script o s.next names (Prefix c fs q)) (behind_process (behind_fields s.next fs) q) (behind_process (behind_fields s.next fs) q)
          (ap (λ r. when r (of_fields script.types o s.next names fs) ++ of_process script o (behind_fields s.next fs) (elim r [ Some ms ↦ names_behind names fs ms | None ↦ names ]) q) found
          ∙ sym (ap (λ r. when r (λ ms. of_fields script.types o s.next names fs ms ++ of_process script o (behind_fields s.next fs) (names_behind names fs ms) q)) found)) refl h
      by_channel None found h =
          asks_hopeless s u _ (of_process script o s.next names (Prefix c fs q)) (behind_process (behind_fields s.next fs) q) (behind_process (behind_fields s.next fs) q)
          (hopeless_front (when (slice_get o.channels c) (of_fields script.types o s.next names fs))
          (of_process script o (behind_fields s.next fs) (names_behind_prefix o names c fs) q)
          (hopeless_same never (when (slice_get o.channels c) (of_fields script.types o s.next names fs))
          (sym (ap (λ r. when r (of_fields script.types o s.next names fs)) found)) never_hopeless))
          (hopeless_same never (of_process script o s.next names (Prefix c fs q))
          (sym (ap (λ r. when r (λ ms. of_fields script.types o s.next names fs ms ++ of_process script o (behind_fields s.next fs) (names_behind names fs ms) q)) found))
          never_hopeless) h

      by_names : HasNames t inner (names_behind_prefix o names c fs) → Asks s u (of_process script o s.next names (Prefix c fs q)) (behind_process s.next (Prefix c fs q))
      by_names (inl same) =
          by_channel (slice_get o.channels c) refl
          (asks_then s t u (when (slice_get o.channels c) (of_fields script.types o s.next names fs)) (behind_fields s.next fs)
          (λ m. of_process script o m (names_behind_prefix o names c fs) q) (λ m. behind_process m q) first
          (asks_same t u (of_process script o t.next inner q) (of_process script o t.next (names_behind_prefix o names c fs) q) (behind_process t.next q)
          (behind_process t.next q) (ap (λ ns. of_process script o t.next ns q) same) refl second))
      by_names (inr none) =
          by_channel (slice_get o.channels c) refl
          (hopelessly
          (hopeless_same ((equations_of s ++ when (slice_get o.channels c) (of_fields script.types o s.next names fs))
          ++ of_process script o (behind_fields s.next fs) (names_behind_prefix o names c fs) q) _
          (append_assoc (equations_of s) (when (slice_get o.channels c) (of_fields script.types o s.next names fs))
          (of_process script o (behind_fields s.next fs) (names_behind_prefix o names c fs) q))
          (hopeless_front (equations_of s ++ when (slice_get o.channels c) (of_fields script.types o s.next names fs))
          (of_process script o (behind_fields s.next fs) (names_behind_prefix o names c fs) q)
          (so_far s t (when (slice_get o.channels c) (of_fields script.types o s.next names fs)) (behind_fields s.next fs) none first)))
          (still_hopeless t u (of_process script o t.next inner q) (behind_process t.next q) none second)
          (knows_then s t u (asks_knows s t (when (slice_get o.channels c) (of_fields script.types o s.next names fs)) (behind_fields s.next fs) first)
          (asks_knows t u (of_process script o t.next inner q) (behind_process t.next q) second)))
