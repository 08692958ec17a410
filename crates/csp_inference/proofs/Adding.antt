-- Equations are added part by part.
use Rattle.std.proofs.Common.{◌≡◌, ℕ, List, [], ◌∷◌, ◌++◌, refl, ◌∙◌, ap, append_assoc, Result, Ok, Err}
use Rattle.std.specs.Prelude.{IfOk}
use Rattle.theory_checking.specs.Inference.State as pure
use Rattle.csp_inference.specs.declared.equations.Equations.{Equations}
use Rattle.csp_inference.specs.Equations.{Adds, KnowsTheSame, equations_of}

-- the same is known from one to the next
pub knows_then : {A : Type 0} (s t u : Equations A) → KnowsTheSame s t → KnowsTheSame t u → KnowsTheSame s u
knows_then s t u first second = λ n. first n ∙ second n

pub knows_itself : {A : Type 0} (s : Equations A) → KnowsTheSame s s
knows_itself s = λ n. refl

-- equations are added behind those of a first part
pub adds_then : {A : Type 0} (s t u : Equations A) (es : List pure.KindEquation) (n : ℕ) (F : ℕ → List pure.KindEquation) (M : ℕ → ℕ) →
    Adds s t es n → Adds t u (F t.next) (M t.next) → Adds s u (es ++ F n) (M n)
adds_then s t u es n F M first second = record {
  met = second.met ∙ ap (λ xs. xs ++ F t.next) first.met ∙ append_assoc (equations_of s) es (F t.next) ∙ ap (λ m. equations_of s ++ (es ++ F m)) first.next;
  next = second.next ∙ ap M first.next;
  known = knows_then s t u first.known second.known;
}

-- the same equations, and the same next number
pub adds_same : {A : Type 0} (s t : Equations A) (es fs : List pure.KindEquation) (n m : ℕ) → es ≡ fs → n ≡ m → Adds s t es n → Adds s t fs m
adds_same s t es fs n m same next h = record { met = h.met ∙ ap (λ xs. equations_of s ++ xs) same; next = h.next ∙ next; known = h.known }

-- a new number, and one equation by it
pub adds_one : {A : Type 0} (s t u : Equations A) (m : ℕ) (e f : pure.KindEquation) → Adds s t [] m → Adds t u (e ∷ []) t.next → e ≡ f → Adds s u (f ∷ []) m
adds_one s t u m e f fresh pushed same = adds_same s u (e ∷ []) (f ∷ []) m m (ap (λ x. x ∷ []) same) refl (adds_then s t u [] m (λ _. e ∷ []) (λ k. k) fresh pushed)

-- what is known of a call that went well
pub if_ok : {X E : Type 0} {P Q : X → Type 0} (r : Result X E) → ((x : X) → P x → Q x) → IfOk r P → IfOk r Q
if_ok (Ok x) f h = f x h
if_ok (Err e) f h = h
