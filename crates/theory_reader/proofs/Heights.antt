-- A limited reader passes tokens within the limit of heights, and stops at the first one above it.
use Rattle.std.proofs.Common.{◌≡◌, ◌∙◌, ℕ, zero, suc, ◌<◌, ◌≤◌, true, List, [], ◌∷◌, ◌++◌, refl, sym, ap, subst, append_assoc, arith, inl, inr}
use Rattle.std.proofs.lemmas.Bool.{cases_Bool}
use Rattle.std.specs.Prelude.{nat_lt, Ok, Err}
use Rattle.theory_text.specs.Token.{PlacedToken}
use Rattle.theory_text.specs.Height.{Nest, nesting, after_token, after_tokens, nest_height, greatest_height}
use Rattle.theory_reader.specs.Counted.{CountsFirst, AreLow, StopsAt, Counts}
use Rattle.theory_reader.specs.Forms.{Form}
use Rattle.theory_reader.specs.Programs.{first, Standing, Outcome, Here, and_then, count_to, pass_from_to, passed_to, Program, give, refuse, look, pass, call, Oracle, run_to}
use Rattle.theory_reader.specs.Reader.{body, weight, reads_within, reads_to}

pub after_both : (n : Nest) (a b : List PlacedToken) → after_tokens n (a ++ b) ≡ after_tokens (after_tokens n a) b
after_both n [] b = refl
after_both n (t ∷ ts) b = after_both (after_token (nesting t.token) n) ts b

pub low_both : (n : Nest) (a b : List PlacedToken) → AreLow n a → AreLow (after_tokens n a) b → AreLow n (a ++ b)
low_both n [] b h k = k
low_both n (t ∷ ts) b h k = (h.0, low_both (after_token (nesting t.token) n) ts b h.1 k)

first_low : (n m : Nest) (ts : List PlacedToken) → CountsFirst n ts m → StopsAt Here n ts
first_low n m [] c = tt
first_low n m (t ∷ ts) c = subst (λ x. nest_height x ≤ greatest_height) c.0 c.1

-- one outcome behind another
behind : {A : Type 0} (n : Nest) (ts a us : List PlacedToken) (o : Outcome A) → ts ≡ a ++ us → AreLow n a → Counts (after_tokens n a) us o → Counts n ts o
behind n ts a us (Ok p) e low (b, is, c, more) =
    (a ++ b, e ∙ ap (λ z. a ++ z) is ∙ sym (append_assoc a b p.1.left), subst (λ m. CountsFirst m p.1.left p.1.nest) (sym (after_both n a b)) c, low_both n a b low more)
behind n ts a us (Err q) e low (b, is, c, more) =
    (a ++ b, e ∙ ap (λ z. a ++ z) is ∙ sym (append_assoc a b q.1), subst (λ m. StopsAt q.0 m q.1) (sym (after_both n a b)) c, low_both n a b low more)

counts_then : {A B : Type 0} (n : Nest) (ts : List PlacedToken) (o : Outcome A) (f : A → Standing → Outcome B) → Counts n ts o → ((x : A) (q : Standing) (m : Nest) → CountsFirst m q.left q.nest → Counts m q.left (f x q)) → Counts n ts (and_then o f)
counts_then n ts (Ok p) f (a, is, c, low) rest = behind n ts a p.1.left (f p.0 p.1) is low (rest p.0 p.1 (after_tokens n a) c)
counts_then n ts (Err q) f h rest = h

-- the next token is counted, where the one before it is
count_counts : (m : Nest) (ts : List PlacedToken) → Counts m ts (count_to true m ts)
count_counts m [] = ([], refl, refl, tt)
count_counts m (t ∷ ts) = elim (cases_Bool (nat_lt greatest_height (nest_height (after_token (nesting t.token) m)))) [
  | inl e ↦ let high : greatest_height < nest_height (after_token (nesting t.token) m) = grind (arith, e) in rw e ([], refl, high, tt)
  | inr e ↦ let low : nest_height (after_token (nesting t.token) m) ≤ greatest_height = grind (arith, e) in rw e ([], refl, (refl, low), tt)
]

pass_counts : (ts : List PlacedToken) (n m : Nest) → CountsFirst n ts m → Counts n ts (pass_from_to true ts m)
pass_counts [] n m c = ([], refl, tt, tt)
pass_counts (t ∷ ts) n m c =
    let low = subst (λ x. nest_height x ≤ greatest_height) c.0 c.1 in
    behind n (t ∷ ts) (t ∷ []) ts (count_to true m ts) refl (low, tt) (subst (λ x. Counts x ts (count_to true m ts)) c.0 (count_counts m ts))

abbrev CountsAll : Oracle → Type 0
CountsAll o = (f : Form) (s : Standing) (n : Nest) → CountsFirst n s.left s.nest → Counts n s.left (o f s)

heights : (o : Oracle) → CountsAll o → {A : Type 0} (p : Program A) (s : Standing) (n : Nest) → CountsFirst n s.left s.nest → Counts n s.left (run_to true o p s)
heights o all (give x) s n c = ([], refl, c, tt)
heights o all refuse s n c = ([], refl, first_low n s.nest s.left c, tt)
heights o all (look k) s n c = heights o all (k (first s.left)) s n c
heights o all (pass p) s n c = counts_then n s.left (passed_to true s) (λ _. run_to true o p) (pass_counts s.left n s.nest c) (λ x q m d. heights o all p q m d)
heights o all (call f k) s n c = counts_then n s.left (o f s) (λ x. run_to true o (k x)) (all f s n c) (λ x q m d. heights o all (k x) q m d)

within_heights : (n : ℕ) → CountsAll (reads_within true n)
unfolding reads_within
within_heights zero f s n c = ([], refl, first_low n s.nest s.left c, tt)
within_heights (suc k) f s n c = heights (reads_within true k) (within_heights k) (body f) s n c

pub reads_count : CountsAll (reads_to true)
unfolding reads_to
reads_count f s n c = within_heights (suc (weight f s)) f s n c
