-- A form is read in turns that end: before a token is passed only forms of lower ranks are read.
use Rattle.std.proofs.Common.{◌≡◌, ◌∙◌, ℕ, suc, ◌+◌, ◌*◌, ◌<◌, ◌≤◌, Bool, true, false, ◌||◌, ◌&&◌, List, [], ◌∷◌, length, refl, ap, Option, arith}
use Rattle.std.proofs.Common.{inl, inr}
use Rattle.std.proofs.lemmas.Bool.{cases_Bool}
use Rattle.std.specs.Prelude.{⊤, ◌⊎◌, IsTrue, nat_lt, not, Ok, Err}
use Rattle.theory_text.specs.Token.{PlacedToken}
use Rattle.theory_text.specs.Height.{Nest, nesting, after_token, nest_height, greatest_height}
use Rattle.theory_reader.specs.Forms.{Level, Disjunction, Conjunction, Negation, Comparison, Sum, Product, Atom, Form, AtLevel, ChainOf, Tree}
use Rattle.theory_reader.specs.Programs.{first, Standing, Outcome, and_then, count_to, pass_from_to, passed_to, Program, give, refuse, look, pass, call, Oracle, run_to}
use Rattle.theory_reader.specs.Reader.{strength, rank, takes_token, weight}

-- the forms that take a token at least
abbrev pub Fewer : Bool → ℕ → ℕ → Type 0
Fewer true n m = n < m
Fewer false n m = n ≤ m

-- what was read took a token, or none, of so many
abbrev pub Shrinks : {A : Type 0} → Bool → ℕ → Outcome A → Type 0
Shrinks b m (Ok p) = Fewer b (length p.1.left) m
Shrinks b m (Err e) = ⊤

pub fewer : (b : Bool) (n m : ℕ) → Fewer b n m → n ≤ m
fewer true n m h = omega (arith, h)
fewer false n m h = h

-- Calls of a program that has passed a token are free, the others are of lower ranks than r; where `takes` it gives only behind a token.
abbrev pub Guarded : {A : Type 0} → ℕ → Bool → Bool → Program A → Type 0
Guarded r takes far (give x) = IsTrue (not takes || far)
Guarded r takes far refuse = ⊤
Guarded r takes far (look k) = (t : Option PlacedToken) → Guarded r takes far (k t)
Guarded r takes far (pass p) = Guarded r takes true p
Guarded r takes far (call f k) = ((far ≡ true) ⊎ (rank f < r)) × ((x : Tree f) → Guarded r takes (far || takes_token f) (k x))

-- what is so many tokens or fewer, counted so
give_fewer : (takes far : Bool) (n m : ℕ) → IsTrue (not takes || far) → Fewer far n m → Fewer takes n m
give_fewer true true n m g h = h
give_fewer true false n m g h = absurd (cc g)
give_fewer false far n m g h = fewer far n m h

-- a form may be read by a program of rank r that stands behind a token, or not
light : (far : Bool) (f : Form) (s : Standing) (m r : ℕ) → rank f < 32 → (far ≡ true) ⊎ (rank f < r) → Fewer far (length s.left) m → weight f s < m * 32 + r
light true f s m r small may h = omega (arith, small, h)
light false f s m r small may h = elim may [
  | inl e ↦ absurd (cc e)
  | inr low ↦ omega (arith, low, h)
]

count_same : (limited : Bool) (n : Nest) (ts : List PlacedToken) → Shrinks false (length ts) (count_to limited n ts)
count_same limited n [] = omega arith
count_same limited n (t ∷ ts) = elim (cases_Bool (limited && nat_lt greatest_height (nest_height (after_token (nesting t.token) n)))) [
  | inl e ↦ rw e tt
  | inr e ↦ rw e (omega arith)
]

shrinks_more : {A : Type 0} (m : ℕ) (o : Outcome A) → Shrinks false m o → Shrinks true (suc m) o
shrinks_more m (Ok p) h = omega (arith, h)
shrinks_more m (Err e) h = tt

pass_fewer : (limited : Bool) (ts : List PlacedToken) (n : Nest) → Shrinks true (length ts) (pass_from_to limited ts n)
pass_fewer limited [] n = tt
pass_fewer limited (t ∷ ts) n = shrinks_more (length ts) (count_to limited n ts) (count_same limited n ts)

fewer_behind : (far b : Bool) (k n m : ℕ) → Fewer b k n → Fewer far n m → Fewer (far || b) k m
fewer_behind true true k n m h i = omega (arith, h, i)
fewer_behind true false k n m h i = omega (arith, h, i)
fewer_behind false true k n m h i = omega (arith, h, i)
fewer_behind false false k n m h i = omega (arith, h, i)

behind_token : (far : Bool) (k m : ℕ) → Fewer (far || true) k m → k < m
behind_token true k m h = h
behind_token false k m h = h

level_small : (l : Level) → 10 + 2 * strength l < 32
level_small Disjunction = omega arith
level_small Conjunction = omega arith
level_small Negation = omega arith
level_small Comparison = omega arith
level_small Sum = omega arith
level_small Product = omega arith
level_small Atom = omega arith

chain_small : (l : Level) → 11 + 2 * strength l < 32
chain_small l = omega (arith, level_small l)

rank_small : (f : Form) → rank f < 32
unfolding rank
rank_small (AtLevel l) = level_small l
rank_small (ChainOf l operands) = chain_small operands
rank_small _ = omega arith

-- two oracles that agree on what a program may read
abbrev pub Agree : Oracle → Oracle → ℕ → Type 0
Agree o u w = (f : Form) (s : Standing) → weight f s < w → (o f s ≡ u f s) × Shrinks (takes_token f) (length s.left) (o f s)

-- a step, and a program behind it that stands behind a token, or not
abbrev Same : {A : Type 0} → Bool → ℕ → Outcome A → Outcome A → Type 0
Same takes m x y = (x ≡ y) × Shrinks takes m x

same_then : {A B : Type 0} (takes far b : Bool) (m n : ℕ) (x y : Outcome A) (f g : A → Standing → Outcome B) → x ≡ y → Shrinks b n x → Fewer far n m →
    ((a : A) (s : Standing) → Fewer (far || b) (length s.left) m → Same takes m (f a s) (g a s)) → Same takes m (and_then x f) (and_then y g)
same_then takes far b m n (Ok p) y f g e h i k = let more = k p.0 p.1 (fewer_behind far b (length p.1.left) n m h i) in (more.0 ∙ ap (λ z. and_then z g) e, more.1)
same_then takes far b m n (Err q) y f g e h i k = (ap (λ z. and_then z g) e, tt)

pub agree : (limited : Bool) (o u : Oracle) (m r : ℕ) → Agree o u (m * 32 + r) → {A : Type 0} (p : Program A) (takes far : Bool) → Guarded r takes far p → (s : Standing) → Fewer far (length s.left) m → Same takes m (run_to limited o p s) (run_to limited u p s)
agree limited o u m r same (give x) takes far g s h = (refl, give_fewer takes far (length s.left) m g h)
agree limited o u m r same refuse takes far g s h = (refl, tt)
agree limited o u m r same (look k) takes far g s h = agree limited o u m r same (k (first s.left)) takes far (g (first s.left)) s h
agree limited o u m r same (pass p) takes far g s h =
    same_then takes far true m (length s.left) (passed_to limited s) (passed_to limited s) (λ _. run_to limited o p) (λ _. run_to limited u p) refl (pass_fewer limited s.left s.nest) h
    (λ a q i. agree limited o u m r same p takes true g q (behind_token far (length q.left) m i))
agree limited o u m r same (call f k) takes far g s h =
    let read = same f s (light far f s m r (rank_small f) g.0 h) in
    same_then takes far (takes_token f) m (length s.left) (o f s) (u f s) (λ x. run_to limited o (k x)) (λ x. run_to limited u (k x)) read.0 read.1 h
    (λ a q i. agree limited o u m r same (k a) takes (far || takes_token f) (g.1 a) q i)
