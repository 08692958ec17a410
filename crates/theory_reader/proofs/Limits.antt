-- A reader within the limit of heights reads what one without it reads, or stops at a token that is too high.
use Rattle.std.proofs.Common.{◌≡◌, ℕ, zero, suc, Bool, true, false, cond, List, [], ◌∷◌, refl, sym, ap, subst}
use Rattle.std.specs.Prelude.{⊤, nat_lt, Ok, Err}
use Rattle.theory_text.specs.Token.{PlacedToken}
use Rattle.theory_text.specs.Height.{Nest, nesting, after_token, nest_height, greatest_height}
use Rattle.theory_reader.specs.Forms.{Form}
use Rattle.theory_reader.specs.Programs.{first, Standing, Outcome, Halt, Here, High, and_then, count_to, pass_from_to, passed_to, Program, give, refuse, look, pass, call, Oracle, run_to}
use Rattle.theory_reader.specs.Reader.{body, weight, reads_within, reads_to}

abbrev pub StopsAlike : {A : Type 0} → Halt → List PlacedToken → Outcome A → Type 0
StopsAlike Here ts o = o ≡ Err (Here, ts)
StopsAlike High ts o = ⊤

abbrev pub Bounds : {A : Type 0} → Outcome A → Outcome A → Type 0
Bounds (Ok p) o = o ≡ Ok p
Bounds (Err e) o = StopsAlike e.0 e.1 o

stops_then : {A B : Type 0} (h : Halt) (ts : List PlacedToken) (y : Outcome A) (g : A → Standing → Outcome B) → StopsAlike h ts y → StopsAlike h ts (and_then y g)
stops_then Here ts y g e = ap (λ z. and_then z g) e
stops_then High ts y g e = tt

bounds_then : {A B : Type 0} (x y : Outcome A) (f g : A → Standing → Outcome B) → Bounds x y → ((a : A) (q : Standing) → Bounds (f a q) (g a q)) → Bounds (and_then x f) (and_then y g)
bounds_then (Ok p) y f g e k = subst (λ z. Bounds (f p.0 p.1) (and_then z g)) (sym e) (k p.0 p.1)
bounds_then (Err q) y f g e k = stops_then q.0 q.1 y g e

bounds_cond : (c : Bool) (ts : List PlacedToken) (s : Standing) → Bounds (cond c (Err (High, ts)) (Ok (tt {0}, s))) (Ok (tt {0}, s))
bounds_cond true ts s = tt
bounds_cond false ts s = refl

count_bounds : (n : Nest) (ts : List PlacedToken) → Bounds (count_to true n ts) (count_to false n ts)
count_bounds n [] = refl
count_bounds n (t ∷ ts) = bounds_cond (nat_lt greatest_height (nest_height (after_token (nesting t.token) n))) (t ∷ ts) (record { left = t ∷ ts; nest = after_token (nesting t.token) n })

pass_bounds : (ts : List PlacedToken) (n : Nest) → Bounds (pass_from_to true ts n) (pass_from_to false ts n)
pass_bounds [] n = refl
pass_bounds (t ∷ ts) n = count_bounds n ts

bounds : (o u : Oracle) → ((f : Form) (s : Standing) → Bounds (o f s) (u f s)) → {A : Type 0} (p : Program A) (s : Standing) → Bounds (run_to true o p s) (run_to false u p s)
bounds o u all (give x) s = refl
bounds o u all refuse s = refl
bounds o u all (look k) s = bounds o u all (k (first s.left)) s
bounds o u all (pass p) s = bounds_then (passed_to true s) (passed_to false s) (λ _. run_to true o p) (λ _. run_to false u p) (pass_bounds s.left s.nest) (λ x q. bounds o u all p q)
bounds o u all (call f k) s = bounds_then (o f s) (u f s) (λ x. run_to true o (k x)) (λ x. run_to false u (k x)) (all f s) (λ x q. bounds o u all (k x) q)

within_bounds : (n : ℕ) (f : Form) (s : Standing) → Bounds (reads_within true n f s) (reads_within false n f s)
unfolding reads_within
within_bounds zero f s = refl
within_bounds (suc n) f s = bounds (reads_within true n) (reads_within false n) (within_bounds n) (body f) s

pub reads_bounds : (f : Form) (s : Standing) → Bounds (reads_to true f s) (reads_to false f s)
unfolding reads_to
reads_bounds f s = within_bounds (suc (weight f s)) f s
