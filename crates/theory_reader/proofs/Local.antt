-- What is read, and why reading stops, hangs on the tokens that are passed and on the next one alone.
use Rattle.std.proofs.Common.{◌≡◌, ◌∙◌, ℕ, zero, suc, ◌+◌, Bool, true, false, cond, ◌&&◌, List, [], ◌∷◌, ◌++◌, refl, sym, ap, Some, None, arith, append_assoc}
use Rattle.std.proofs.lemmas.List.{append_cancel_right}
use Rattle.std.specs.Prelude.{nat_lt, Ok, Err}
use Rattle.theory_text.specs.Token.{PlacedToken}
use Rattle.theory_text.specs.Height.{Nest, nesting, after_token, nest_height, greatest_height}
use Rattle.theory_reader.specs.Forms.{Form}
use Rattle.theory_reader.specs.Programs.{first, Standing, Outcome, Here, High, and_then, count_to, pass_from_to, passed_to, Program, give, refuse, look, pass, call, Oracle, run_to}
use Rattle.theory_reader.specs.Reader.{body, weight, reads_within, reads_to}
use Rattle.theory_reader.proofs.Laws.{stable}

-- the tokens that an outcome leaves, and the same outcome with others left
abbrev pub rest : {A : Type 0} → Outcome A → List PlacedToken
rest (Ok p) = p.1.left
rest (Err e) = e.1

abbrev pub leaving : {A : Type 0} → Outcome A → List PlacedToken → Outcome A
leaving (Ok p) ts = Ok (p.0, record { left = ts; nest = p.1.nest })
leaving (Err e) ts = Err (e.0, ts)

abbrev pub at : List PlacedToken → Nest → Standing
at ts n = record { left = ts; nest = n }

-- whatever stands behind the first token that is left, the outcome is the same
abbrev pub Follows : {A : Type 0} → (Standing → Outcome A) → Standing → List PlacedToken → Outcome A → Type 0
Follows g s front o = (later : List PlacedToken) → first later ≡ first (rest o) → g (at (front ++ later) s.nest) ≡ leaving o later

abbrev pub Local : {A : Type 0} → (Standing → Outcome A) → Standing → Outcome A → Type 0
Local g s o = (front : List PlacedToken) × (s.left ≡ front ++ rest o) × Follows g s front o

first_same : (front a b : List PlacedToken) → first a ≡ first b → first (front ++ a) ≡ first (front ++ b)
first_same [] a b e = e
first_same (t ∷ ts) a b e = refl

local_then : {A B : Type 0} (g : Standing → Outcome A) (f : A → Standing → Outcome B) (s : Standing) (o : Outcome A) → g s ≡ o → Local g s o → ((x : A) (q : Standing) → Local (f x) q (f x q)) →
    Local (λ z. and_then (g z) f) s (and_then o f)
local_then g f s (Ok p) e (a, is, h) k =
    let more = k p.0 p.1 in
    let b = more.0 in (
      a ++ b,
      is ∙ ap (λ z. a ++ z) more.1 ∙ sym (append_assoc a b (rest (f p.0 p.1))),
      λ later same.
          ap (λ z. and_then (g (at z s.nest)) f) (append_assoc a b later)
          ∙ ap (λ z. and_then z f) (h (b ++ later) (first_same b later (rest (f p.0 p.1)) same ∙ ap first (sym more.1)))
          ∙ more.2 later same,
    )
local_then g f s (Err q) e (a, is, h) k = (a, is, λ later same. ap (λ z. and_then z f) (h later same))

-- tokens that are counted, or whose first one is too high
abbrev counted : Bool → List PlacedToken → Nest → Outcome (Unit {0})
counted true ts m = Err (High, ts)
counted false ts m = Ok (tt, at ts m)

counted_is : (c : Bool) (ts : List PlacedToken) (m : Nest) {o : Outcome (Unit {0})} → counted c ts m ≡ o → cond c (Err (High, ts)) (Ok (tt, at ts m)) ≡ o
counted_is true ts m e = e
counted_is false ts m e = e

counted_rest : (c : Bool) (ts : List PlacedToken) (m : Nest) → ts ≡ rest (counted c ts m)
counted_rest true ts m = refl
counted_rest false ts m = refl

counted_leaving : (c : Bool) (ts us : List PlacedToken) (m : Nest) → counted c us m ≡ leaving (counted c ts m) us
counted_leaving true ts us m = refl
counted_leaving false ts us m = refl

same_first : (t u : PlacedToken) → Some u ≡ Some t → u ≡ t
same_first t u e = cc e

over : Bool → Nest → PlacedToken → Bool
over limited n t = limited && nat_lt greatest_height (nest_height (after_token (nesting t.token) n))

count_is : (limited : Bool) (n : Nest) (t : PlacedToken) (ts : List PlacedToken) → count_to limited n (t ∷ ts) ≡ counted (over limited n t) (t ∷ ts) (after_token (nesting t.token) n)
unfolding over
count_is limited n t ts = counted_is (over limited n t) (t ∷ ts) (after_token (nesting t.token) n) refl

count_rests : (limited : Bool) (n : Nest) (ts : List PlacedToken) → ts ≡ rest (count_to limited n ts)
count_rests limited n [] = refl
count_rests limited n (t ∷ ts) = counted_rest (over limited n t) (t ∷ ts) (after_token (nesting t.token) n) ∙ ap rest (sym (count_is limited n t ts))

count_follows : (limited : Bool) (n : Nest) (ts us : List PlacedToken) → first us ≡ first ts → count_to limited n us ≡ leaving (count_to limited n ts) us
count_follows limited n [] [] e = refl
count_follows limited n [] (u ∷ us) e = absurd (cc e)
count_follows limited n (t ∷ ts) [] e = absurd (cc e)
count_follows limited n (t ∷ ts) (u ∷ us) e =
    count_is limited n u us ∙ ap (λ v. counted (over limited n v) (u ∷ us) (after_token (nesting v.token) n)) (same_first t u e)
    ∙ counted_leaving (over limited n t) (t ∷ ts) (u ∷ us) (after_token (nesting t.token) n) ∙ ap (λ o. leaving o (u ∷ us)) (sym (count_is limited n t ts))

none_left : (limited : Bool) (later : List PlacedToken) (n : Nest) → first later ≡ None → pass_from_to limited later n ≡ Err (Here, later)
none_left limited [] n e = refl
none_left limited (t ∷ ts) n e = absurd (cc e)

pass_local : (limited : Bool) (ts : List PlacedToken) (n : Nest) → Local (passed_to limited) (at ts n) (pass_from_to limited ts n)
pass_local limited [] n = ([], refl, λ later same. none_left limited later n same)
pass_local limited (t ∷ ts) n = (t ∷ [], ap (λ z. t ∷ z) (count_rests limited n ts), λ later same. count_follows limited n ts later (same ∙ ap first (sym (count_rests limited n ts))))

pub local : (limited : Bool) (o : Oracle) → ((f : Form) (s : Standing) → Local (o f) s (o f s)) → {A : Type 0} (p : Program A) (s : Standing) → Local (run_to limited o p) s (run_to limited o p s)
local limited o all (give x) s = ([], refl, λ later same. refl)
local limited o all refuse s = ([], refl, λ later same. refl)
local limited o all (look k) s =
    let more = local limited o all (k (first s.left)) s in
    let r = rest (run_to limited o (k (first s.left)) s) in (
      more.0,
      more.1,
      λ later same.
          ap (λ t. run_to limited o (k t) (at (more.0 ++ later) s.nest)) (first_same more.0 later r same ∙ ap first (sym more.1)) ∙ more.2 later same,
    )
local limited o all (pass p) s = local_then (passed_to limited) (λ _. run_to limited o p) s (passed_to limited s) refl (pass_local limited s.left s.nest) (λ x q. local limited o all p q)
local limited o all (call f k) s = local_then (o f) (λ x. run_to limited o (k x)) s (o f s) refl (all f s) (λ x q. local limited o all (k x) q)

pub within_local : (limited : Bool) (n : ℕ) (f : Form) (s : Standing) → Local (reads_within limited n f) s (reads_within limited n f s)
unfolding reads_within
within_local limited zero f s = ([], refl, λ later same. refl)
within_local limited (suc n) f s = local limited (reads_within limited n) (within_local limited n) (body f) s

-- the bound does not matter
pub reads_local : (limited : Bool) (f : Form) (s : Standing) → Local (reads_to limited f) s (reads_to limited f s)
unfolding reads_to
reads_local limited f s =
    let w = suc (weight f s) in
    let one = within_local limited w f s in
    let r = rest (reads_within limited w f s) in (
      one.0,
      one.1,
      λ later same.
          let q = at (one.0 ++ later) s.nest in
          let n = w + suc (weight f q) in
          let wide : reads_within limited n f s ≡ reads_within limited w f s = (stable limited n w f s (omega arith) (omega arith)).0 in
          let two = within_local limited n f s in
          let fronts : two.0 ≡ one.0 = append_cancel_right two.0 one.0 r (ap (λ z. two.0 ++ rest z) (sym wide) ∙ sym two.1 ∙ one.1) in
          (stable limited (suc (weight f q)) n f q (omega arith) (omega arith)).0
          ∙ ap (λ z. reads_within limited n f (at (z ++ later) s.nest)) (sym fronts)
          ∙ two.2 later (same ∙ ap (λ z. first (rest z)) (sym wide))
          ∙ ap (λ z. leaving z later) wide,
    )
