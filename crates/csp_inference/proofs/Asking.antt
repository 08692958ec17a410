-- Parts ask one after the other, and some have no solution.
use Rattle.std.proofs.Common.{◌≡◌, ◌≢◌, ℕ, suc, ◌+◌, ◌<◌, ◌≤◌, List, [], ◌∷◌, ◌++◌, length, map, drop, get_or, Option, Some, None, refl, sym, subst, ◌∙◌, ap, ap₂, append_assoc, append-nil, arith}
use Rattle.std.specs.Prelude.{slice_get, option_map}
use Rattle.std.proofs.lemmas.List.{drop_more, drop_all}
use Rattle.std.proofs.lemmas.Option.{slice_get-get_or, slice_get-map, slice_get_past}
use Rattle.theory_syntax.specs.Expression as expression
use Rattle.theory_syntax.specs.Expression.{to_expressions}
use Rattle.theory_syntax.specs.Types.{Types}
use Rattle.theory_checking.specs.Inference.Chain as chain
use Rattle.theory_checking.specs.Inference.State as pure
use Rattle.theory_checking.specs.Inference.Equations as numbers
use Rattle.theory_checking.specs.Inference.Equations.{never, when}
use Rattle.theory_checking.specs.Inference.Expressions.{behind_expression, of_expression, of_all, of_first}
use Rattle.theory_checking.proofs.Unifying.{solves_back, solves_front}
use Rattle.csp_inference.specs.declared.equations.Equations.{Equations}
use Rattle.csp_inference.specs.Equations.{Adds, AreHopeless, Asks, KnowsTheSame, exactly, hopelessly, equations_of}
use Rattle.csp_inference.proofs.Adding.{adds_then, adds_same, knows_then}

-- ---- equations with no solution

pub hopeless_front : (es fs : List pure.KindEquation) → AreHopeless es → AreHopeless (es ++ fs)
hopeless_front es fs h = λ a solves. h a (solves_front a es fs solves)

pub hopeless_back : (es fs : List pure.KindEquation) → AreHopeless fs → AreHopeless (es ++ fs)
hopeless_back es fs h = λ a solves. h a (solves_back a es fs solves)

pub hopeless_same : (es fs : List pure.KindEquation) → es ≡ fs → AreHopeless es → AreHopeless fs
hopeless_same es fs same h = subst AreHopeless same h

pub never_hopeless : AreHopeless never
never_hopeless = λ a solves. absurd (cc solves.0)

-- ---- parts in turn

-- an equation that nothing solves stands for all that have no solution
pub never_asks : {A : Type 0} (s t : Equations A) (es : List pure.KindEquation) (n m : ℕ) → AreHopeless es → Adds s t never n → Asks s t es m
never_asks s t es n m none adds =
    hopelessly (hopeless_back (equations_of s) es none)
    (hopeless_same (equations_of s ++ never) (equations_of t) (sym adds.met) (hopeless_back (equations_of s) never never_hopeless)) adds.known

pub asks_then : {A : Type 0} (s t u : Equations A) (es : List pure.KindEquation) (n : ℕ) (F : ℕ → List pure.KindEquation) (M : ℕ → ℕ) →
    Asks s t es n → Asks t u (F t.next) (M t.next) → Asks s u (es ++ F n) (M n)
asks_then s t u es n F M (exactly first) (exactly second) = exactly (adds_then s t u es n F M first second)
asks_then s t u es n F M (exactly first) (hopelessly second now alike) =
    hopelessly (hopeless_same (equations_of t ++ F t.next) (equations_of s ++ (es ++ F n)) (ap₂ (λ xs m. xs ++ F m) first.met first.next ∙ append_assoc (equations_of s) es (F n)) second) now
    (knows_then s t u first.known alike)
asks_then s t u es n F M (hopelessly first now same) (exactly second) =
    hopelessly (hopeless_same ((equations_of s ++ es) ++ F n) (equations_of s ++ (es ++ F n)) (append_assoc (equations_of s) es (F n)) (hopeless_front (equations_of s ++ es) (F n) first))
    (hopeless_same (equations_of t ++ F t.next) (equations_of u) (sym second.met) (hopeless_front (equations_of t) (F t.next) now)) (knows_then s t u same second.known)
asks_then s t u es n F M (hopelessly first now same) (hopelessly second then alike) =
    hopelessly (hopeless_same ((equations_of s ++ es) ++ F n) (equations_of s ++ (es ++ F n)) (append_assoc (equations_of s) es (F n)) (hopeless_front (equations_of s ++ es) (F n) first)) then
    (knows_then s t u same alike)

pub asks_same : {A : Type 0} (s t : Equations A) (es fs : List pure.KindEquation) (n m : ℕ) → es ≡ fs → n ≡ m → Asks s t es n → Asks s t fs m
asks_same s t es fs n m same next (exactly h) = exactly (adds_same s t es fs n m same next h)
asks_same s t es fs n m same next (hopelessly h now known) = hopelessly (hopeless_same (equations_of s ++ es) (equations_of s ++ fs) (ap (λ xs. equations_of s ++ xs) same) h) now known

pub asks_knows : {A : Type 0} (s t : Equations A) (es : List pure.KindEquation) (n : ℕ) → Asks s t es n → KnowsTheSame s t
asks_knows s t es n (exactly adds) = adds.known
asks_knows s t es n (hopelessly whole now known) = known

-- ---- what is left to ask for

-- What is left gives, behind the equations so far, all that is asked for; or there is no solution anyway. The same is
-- known in either case.
pub data Remains {A : Type 0} (start now : Equations A) (whole rest : List pure.KindEquation) (last after : ℕ) : Type 0 where
  exact : equations_of now ++ rest ≡ equations_of start ++ whole → after ≡ last → KnowsTheSame start now → Remains start now whole rest last after
  hopeless : AreHopeless (equations_of start ++ whole) → AreHopeless (equations_of now) → KnowsTheSame start now → Remains start now whole rest last after

module _ {A : Type 0} (start now : Equations A) (whole : List pure.KindEquation) (last : ℕ) where
  pub remains_same : (rest more : List pure.KindEquation) (after behind : ℕ) → rest ≡ more → after ≡ behind → Remains start now whole rest last after → Remains start now whole more last behind
  remains_same rest more after behind same next (exact met end known) = exact (ap (λ es. equations_of now ++ es) (sym same) ∙ met) (sym next ∙ end) known
  remains_same rest more after behind same next (hopeless all none known) = hopeless all none known

  -- one part more
  pub remains_more : (new : Equations A) (part : List pure.KindEquation) (n : ℕ) (F : ℕ → List pure.KindEquation) (M : ℕ → ℕ) →
      Remains start now whole (part ++ F n) last (M n) → Asks now new part n → Remains start new whole (F new.next) last (M new.next)
  remains_more new part n F M (exact met end known) (exactly adds) =
      exact (ap₂ (λ es m. es ++ F m) adds.met adds.next ∙ append_assoc (equations_of now) part (F n) ∙ met) (ap M adds.next ∙ end)
      (knows_then start now new known adds.known)
  remains_more new part n F M (exact met end known) (hopelessly one then same) =
      hopeless (hopeless_same ((equations_of now ++ part) ++ F n) (equations_of start ++ whole) (append_assoc (equations_of now) part (F n) ∙ met)
      (hopeless_front (equations_of now ++ part) (F n) one)) then (knows_then start now new known same)
  remains_more new part n F M (hopeless all none known) (exactly adds) =
      hopeless all (hopeless_same (equations_of now ++ part) (equations_of new) (sym adds.met) (hopeless_front (equations_of now) part none))
      (knows_then start now new known adds.known)
  remains_more new part n F M (hopeless all none known) (hopelessly one then same) = hopeless all then (knows_then start now new known same)

  -- nothing is left
  pub remains_none : (rest : List pure.KindEquation) (after : ℕ) → rest ≡ [] → after ≡ now.next → Remains start now whole rest last after → Asks start now whole last
  remains_none rest after none still (exact met end known) =
      exactly (record { met = sym (ap (λ es. equations_of now ++ es) none ∙ append-nil (equations_of now)) ∙ met; next = sym still ∙ end; known = known })
  remains_none rest after none still (hopeless all now_none known) = hopelessly all now_none known

-- what is left of a list of parts
abbrev pub Left : {A X : Type 0} → (ℕ → List X → List pure.KindEquation) → (ℕ → List X → ℕ) → Equations A → Equations A → List X → ℕ → Type 0
Left F M start now xs i = Remains start now (F start.next xs) (F now.next (drop i xs)) (M start.next xs) (M now.next (drop i xs))

module _ {A X : Type 0} (F : ℕ → List X → List pure.KindEquation) (M : ℕ → List X → ℕ) (start now : Equations A) (xs : List X) (i : ℕ) where
  pub left_more : (G : ℕ → X → List pure.KindEquation) (B : ℕ → X → ℕ) (new : Equations A) (x : X) →
      ((n : ℕ) (ys : List X) → F n (x ∷ ys) ≡ G n x ++ F (B n x) ys) → ((n : ℕ) (ys : List X) → M n (x ∷ ys) ≡ M (B n x) ys) →
      i < length xs → x ≡ get_or xs i x → Left F M start now xs i → Asks now new (G now.next x) (B now.next x) → Left F M start new xs (i + 1)
  left_more G B new x first behind within read left asks =
      let ys = drop (i + 1) xs in
      let cut = drop_more xs i x within ∙ ap (λ z. z ∷ ys) (sym read) in
      remains_more start now (F start.next xs) (M start.next xs) new (G now.next x) (B now.next x) (λ n. F n ys) (λ n. M n ys)
      (remains_same start now (F start.next xs) (M start.next xs) (F now.next (drop i xs)) (G now.next x ++ F (B now.next x) ys) (M now.next (drop i xs))
      (M (B now.next x) ys) (ap (F now.next) cut ∙ first now.next ys) (ap (M now.next) cut ∙ behind now.next ys) left) asks

  pub left_none : ((n : ℕ) → F n [] ≡ []) → ((n : ℕ) → M n [] ≡ n) → length xs ≤ i → Left F M start now xs i → Asks start now (F start.next xs) (M start.next xs)
  left_none none still over left =
      let cut = drop_all i xs over in
      remains_none start now (F start.next xs) (M start.next xs) (F now.next (drop i xs)) (M now.next (drop i xs)) (ap (F now.next) cut ∙ none now.next)
      (ap (M now.next) cut ∙ still now.next) left

-- what is left of two lists of parts
abbrev pub LeftBoth : {A X Y : Type 0} → (ℕ → List X → List Y → List pure.KindEquation) → (ℕ → List X → ℕ) → Equations A → Equations A → List X → List Y → ℕ → Type 0
LeftBoth F M start now xs ys i = Remains start now (F start.next xs ys) (F now.next (drop i xs) (drop i ys)) (M start.next xs) (M now.next (drop i xs))

module _ {A X Y : Type 0} (F : ℕ → List X → List Y → List pure.KindEquation) (M : ℕ → List X → ℕ) (start now : Equations A) (xs : List X) (ys : List Y) (i : ℕ) where
  pub both_more : (G : ℕ → X → Y → List pure.KindEquation) (B : ℕ → X → ℕ) (new : Equations A) (x : X) (y : Y) →
      ((n : ℕ) (us : List X) (vs : List Y) → F n (x ∷ us) (y ∷ vs) ≡ G n x y ++ F (B n x) us vs) → ((n : ℕ) (us : List X) → M n (x ∷ us) ≡ M (B n x) us) →
      i < length xs → i < length ys → x ≡ get_or xs i x → y ≡ get_or ys i y → LeftBoth F M start now xs ys i → Asks now new (G now.next x y) (B now.next x) → LeftBoth F M start new xs ys (i + 1)
  both_more G B new x y first behind in_xs in_ys read seen left asks =
      let us = drop (i + 1) xs in
      let vs = drop (i + 1) ys in
      let cut = drop_more xs i x in_xs ∙ ap (λ z. z ∷ us) (sym read) in
      let slice = drop_more ys i y in_ys ∙ ap (λ z. z ∷ vs) (sym seen) in
      remains_more start now (F start.next xs ys) (M start.next xs) new (G now.next x y) (B now.next x) (λ n. F n us vs) (λ n. M n us)
      (remains_same start now (F start.next xs ys) (M start.next xs) (F now.next (drop i xs) (drop i ys)) (G now.next x y ++ F (B now.next x) us vs)
      (M now.next (drop i xs)) (M (B now.next x) us) (ap₂ (F now.next) cut slice ∙ first now.next us vs) (ap (M now.next) cut ∙ behind now.next us) left) asks

  pub both_none : ((n : ℕ) (vs : List Y) → F n [] vs ≡ []) → ((n : ℕ) → M n [] ≡ n) → length xs ≤ i → LeftBoth F M start now xs ys i → Asks start now (F start.next xs ys) (M start.next xs)
  both_none none still over left =
      let cut = drop_all i xs over in
      remains_none start now (F start.next xs ys) (M start.next xs) (F now.next (drop i xs) (drop i ys)) (M now.next (drop i xs))
      (ap (λ us. F now.next us (drop i ys)) cut ∙ none now.next (drop i ys)) (ap (M now.next) cut ∙ still now.next) left

-- ---- what is asked where something is found

-- what a look at a place of a list finds
pub found_at : {X : Type 0} (xs ys : List X) (i : ℕ) (x : X) → xs ≡ ys → i < length xs → x ≡ get_or xs i x → slice_get ys i ≡ Some x
found_at xs ys i x same within read = ap (λ zs. slice_get zs i) (sym same) ∙ slice_get-get_or xs i x within ∙ ap Some (sym read)

pub not_found : {X Y : Type 0} (f : X → Y) (xs ys : List X) (i : ℕ) → xs ≡ ys → length xs ≤ i → slice_get (map f ys) i ≡ None
not_found f xs ys i same le = slice_get-map f ys i ∙ ap (option_map f) (ap (λ zs. slice_get zs i) (sym same) ∙ slice_get_past xs i le)

-- what is asked where something is found, or not
pub found_asks : {A X : Type 0} (s t : Equations A) (o : Option X) (x : X) (f : X → List pure.KindEquation) (m : ℕ) → o ≡ Some x → Asks s t (f x) m → Asks s t (when o f) m
found_asks s t o x f m is h = asks_same s t (f x) (when o f) m m (ap (λ p. when p f) (sym is)) refl h

pub none_asks : {A X : Type 0} (s t : Equations A) (o : Option X) (f : X → List pure.KindEquation) (n m : ℕ) → o ≡ None → Adds s t never n → Asks s t (when o f) m
none_asks s t o f n m is h = never_asks s t (when o f) n m (hopeless_same never (when o f) (ap (λ p. when p f) (sym is)) never_hopeless) h

-- ---- expressions with the kinds of numbers in turn

module _ (types : Types) (o : numbers.Numbering) (names : numbers.Numbered) where
  pub unequal_hopeless : (n : ℕ) (es : List expression.Expression) (ms : List ℕ) → length es ≢ length ms → AreHopeless (of_all types o n names (to_expressions es) ms)
  unequal_hopeless n [] [] differ = absurd (differ refl)
  unequal_hopeless n [] (m ∷ ms) differ = never_hopeless
  unequal_hopeless n (e ∷ es) [] differ = never_hopeless
  unequal_hopeless n (e ∷ es) (m ∷ ms) differ =
      hopeless_back (of_expression types o n names e (chain.OpenEnd m)) (of_all types o (behind_expression n e) names (to_expressions es) ms)
      (unequal_hopeless (behind_expression n e) es ms (λ same. differ (ap suc same)))

  pub many_hopeless : (n : ℕ) (es : List expression.Expression) (ms : List ℕ) → length ms < length es → AreHopeless (of_first types o n names (to_expressions es) ms)
  many_hopeless n [] ms many = absurd (omega arith)
  many_hopeless n (e ∷ es) [] many = never_hopeless
  many_hopeless n (e ∷ es) (m ∷ ms) many =
      hopeless_back (of_expression types o n names e (chain.OpenEnd m)) (of_first types o (behind_expression n e) names (to_expressions es) ms)
      (many_hopeless (behind_expression n e) es ms (omega arith))

  pub all_are_first : (n : ℕ) (es : List expression.Expression) (ms : List ℕ) → length es ≡ length ms → of_first types o n names (to_expressions es) ms ≡ of_all types o n names (to_expressions es) ms
  all_are_first n [] [] same = refl
  all_are_first n [] (m ∷ ms) same = absurd (omega arith)
  all_are_first n (e ∷ es) [] same = absurd (omega arith)
  all_are_first n (e ∷ es) (m ∷ ms) same = ap (λ xs. of_expression types o n names e (chain.OpenEnd m) ++ xs) (all_are_first (behind_expression n e) es ms (omega arith))
