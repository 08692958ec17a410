-- Ways that are found, by those that they stand for.
use Rattle.std.proofs.Common.{◌≡◌, IfOk, List, [], ◌∷◌, sym, ◌∙◌, ap, ap₂, subst, Result, Ok, Err}
use Rattle.std.specs.declared.vec.Vec.{Vec}
use Rattle.theory_syntax.specs.Value.{Action}
use Rattle.theory_syntax.specs.Process.{Process, Script}
use Rattle.theory_origins.specs.Ways as meaning
use Rattle.theory_origins.specs.Ways.{AreWays}
use Rattle.csp_moves.specs.declared.way.Way.{Way}
use Rattle.csp_moves.specs.Way.{AreFound, AreFoundIn, ways_of}

module _ {A E : Type 0} (s : Script) (p : Process) (x : Action) (t : Process) where
  pub found_in : (r : Result (Vec (Way A) A) E) (ws vs : List meaning.Way) → IfOk r (λ ways. ways_of ways ≡ ws) → ws ≡ vs → AreWays s p x t vs → IfOk r (AreFoundIn s p x t)
  found_in (Ok ways) ws vs is same are = let P : List meaning.Way → Type 0 = λ w. AreWays s p x t w in subst P (sym (is ∙ same)) are
  found_in (Err e) ws vs is same are = tt

module _ {A E : Type 0} (p : Process) (x : Action) (t : Process) where
  pub found_all : (r : Result (Vec (Way A) A) E) (ws vs : List meaning.Way) → IfOk r (λ ways. ways_of ways ≡ ws) → ws ≡ vs → ((s : Script) → AreWays s p x t vs) → IfOk r (AreFound p x t)
  found_all (Ok ways) ws vs is same are = λ s. let P : List meaning.Way → Type 0 = λ w. AreWays s p x t w in subst P (sym (is ∙ same)) (are s)
  found_all (Err e) ws vs is same are = tt

pub one_same : (a b : meaning.Way) → a ≡ b → a ∷ [] ≡ b ∷ []
one_same a b e = ap (λ w. w ∷ []) e

pub two_same : (a b c d : meaning.Way) → a ≡ b → c ≡ d → a ∷ c ∷ [] ≡ b ∷ d ∷ []
two_same a b c d e f = ap₂ (λ v w. v ∷ w ∷ []) e f

pub three_same : (a b c d v w : meaning.Way) → a ≡ b → c ≡ d → v ≡ w → a ∷ c ∷ v ∷ [] ≡ b ∷ d ∷ w ∷ []
three_same a b c d v w e f g = ap₂ (λ i j. i ∷ j) e (two_same c d v w f g)

pub four_same : (a b c d v w i j : meaning.Way) → a ≡ b → c ≡ d → v ≡ w → i ≡ j → a ∷ c ∷ v ∷ i ∷ [] ≡ b ∷ d ∷ w ∷ j ∷ []
four_same a b c d v w i j e f g h = ap₂ (λ k l. k ∷ l) e (three_same c d v w i j f g h)

-- what follows from what is said of a result
pub if_so : {X E : Type 0} {P Q : X → Type 0} (r : Result X E) → IfOk r P → ((x : X) → P x → Q x) → IfOk r Q
if_so (Ok x) h step = step x h
if_so (Err e) h step = tt
