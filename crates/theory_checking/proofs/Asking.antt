-- What equations ask for, put together from what their parts ask for.
use Rattle.std.proofs.Common.{◌≡◌, ℕ, suc, ◌≤◌, ◌<◌, nat_eq, List, [], ◌∷◌, ◌++◌, map, Option, Some, None, refl, sym, ◌∙◌, ap, ap₂, subst, arith}
use Rattle.std.specs.Prelude.{⊤}
use Rattle.std.proofs.lemmas.Bool.{cond-true, cond-false, eq-eqb, ne_eqb}
use Rattle.theory_semantics.specs.Kinds.Kind.{Kind, IntKind, Kinds, Each}
use Rattle.theory_checking.specs.Inference.Chain.{Chain, Assignment, kind_of, open_end, assign, AgreeBelow}
use Rattle.theory_checking.specs.Inference.State.{State, nothing_known, Satisfies, KindEquation, IsSolved, HasNoSolution}
use Rattle.theory_checking.specs.Inference.Equations.{Ask, never, when, Numbering, kinds_under, Numbered, scope_under, IsBelow, NamesBelow, IsChainBelow}
use Rattle.theory_checking.proofs.Unifying.{chosen, same_kind, map_end, solves_front, solves_back, solves_both}

-- ---- assignments that agree

pub agree_less : (n m : ℕ) (a b : Assignment) → n ≤ m → AgreeBelow m a b → AgreeBelow n a b
agree_less n m a b le agree = λ k small. agree k (omega arith)

pub agree_on : (n m : ℕ) (a b c : Assignment) → n ≤ m → AgreeBelow n a b → AgreeBelow m b c → AgreeBelow n a c
agree_on n m a b c le f g = λ k small. g k (omega arith) ∙ f k small

pub assigned : (n : ℕ) (k : Kind) (a : Assignment) → assign n k a n ≡ k
assigned n k a = cond-true (nat_eq n n) k (a n) (eq-eqb n n refl)

pub assigned_above : (n : ℕ) (k : Kind) (a : Assignment) → AgreeBelow n a (assign n k a)
assigned_above n k a m small = cond-false (nat_eq n m) k (a m) (ne_eqb n m (λ e. differs e small))
  where
    differs : n ≡ m → m < n → ⊥
    differs e small = omega arith

-- what hangs on the numbers below n alone
abbrev pub Fixed : {X : Type 0} → ℕ → (Assignment → X) → Type 0
Fixed n f = (a b : Assignment) → AgreeBelow n a b → f b ≡ f a

abbrev pub Hangs : ℕ → (Assignment → Type 0) → Type 0
Hangs n D = (a b : Assignment) → AgreeBelow n a b → D a → D b

pub fixed_more : {X : Type 0} (n m : ℕ) (f : Assignment → X) → n ≤ m → Fixed n f → Fixed m f
fixed_more n m f le h a b agree = h a b (agree_less n m a b le agree)

pub fixed_chain : (n : ℕ) (c : Chain) → IsChainBelow n c → Fixed n (λ a. kind_of a c)
fixed_chain n c below a b agree = same_kind b a c (map_end (λ m. m < n) (λ m. b m ≡ a m) (open_end c) (λ m e small. agree m small) below)

-- ---- what equations ask for

pub ask_nothing : (n : ℕ) → Ask n [] n (λ a. ⊤)
ask_nothing n = record {
  rising = omega arith;
  settled = λ a b agree h. tt;
  sound = λ a h. tt;
  complete = λ a h. (a, λ k small. refl, tt);
}

pub ask_equal : (n : ℕ) (c d : Chain) → Fixed n (λ a. kind_of a c) → Fixed n (λ a. kind_of a d) → Ask n ((c, d) ∷ []) n (λ a. kind_of a c ≡ kind_of a d)
ask_equal n c d f g = record {
  rising = omega arith;
  settled = λ a b agree h. (f a b agree ∙ h.0 ∙ sym (g a b agree), tt);
  sound = λ a h. h.0;
  complete = λ a h. (a, λ k small. refl, (h, tt));
}

pub ask_both : (n m p : ℕ) (es fs : List KindEquation) (D E : Assignment → Type 0) → Ask n es m D → Ask m fs p E → Hangs n E → Ask n (es ++ fs) p (λ a. D a × E a)
ask_both n m p es fs D E g h hangs = record {
  rising = let le : n ≤ m = g.rising in let lf : m ≤ p = h.rising in omega arith;
  settled = λ a b agree x. solves_both b es fs (g.settled a b (agree_less m p a b h.rising agree) (solves_front a es fs x)) (h.settled a b agree (solves_back a es fs x));
  sound = λ a x. (g.sound a (solves_front a es fs x), h.sound a (solves_back a es fs x));
  complete = λ a x.
      let y = g.complete a x.0 in
      let z = h.complete y.0 (hangs a y.0 y.1 x.1) in
      (z.0, agree_on n m a y.0 z.0 g.rising y.1 z.1, solves_both z.0 es fs (g.settled y.0 z.0 z.1 y.2) z.2);
}

-- with more numbers of one's own
pub ask_more : (n m p : ℕ) (es : List KindEquation) (D E : Assignment → Type 0) → n ≤ m → Ask m es p D → ((a : Assignment) → D a → E a) →
    ((a : Assignment) → E a → (b : Assignment) × AgreeBelow n a b × D b) → Ask n es p E
ask_more n m p es D E le g up down = record {
  rising = let lf : m ≤ p = g.rising in omega arith;
  settled = g.settled;
  sound = λ a x. up a (g.sound a x);
  complete = λ a x.
      let y = down a x in
      let z = g.complete y.0 y.2 in
      (z.0, agree_on n m a y.0 z.0 le y.1 z.1, z.2);
}

pub ask_same : (n p : ℕ) (es : List KindEquation) (D E : Assignment → Type 0) → Ask n es p D → ((a : Assignment) → D a → E a) → ((a : Assignment) → E a → D a) → Ask n es p E
ask_same n p es D E g up down = ask_more n n p es D E (omega arith) g up (λ a x. (a, λ k small. refl, down a x))

pub ask_never : (n p : ℕ) (D : Assignment → Type 0) → n ≤ p → ((a : Assignment) → ¬ (D a)) → Ask n never p D
ask_never n p D le none = record {
  rising = le;
  settled = λ a b agree h. h;
  sound = λ a h. absurd (cc h.0);
  complete = λ a h. absurd (none a h);
}

pub ask_when : {A : Type 0} (n p : ℕ) (o : Option A) (f : A → List KindEquation) (D : Assignment → Type 0) → n ≤ p → ((x : A) → o ≡ Some x → Ask n (f x) p D) →
    (o ≡ None → (a : Assignment) → ¬ (D a)) → Ask n (when o f) p D
ask_when n p (Some x) f D le some none = some x refl
ask_when n p None f D le some none = ask_never n p D le (none refl)

-- a number of one's own, n, for what a kind F is made of
pub ask_own : (n p : ℕ) (k w : Chain) (F : Kind → Kind) (es : List KindEquation) (I E : Assignment → Kind → Type 0) →
    ((a : Assignment) → kind_of a w ≡ F (a n)) → Fixed n (λ a. kind_of a k) → Ask (suc n) es p (λ a. I a (a n)) →
    ((a b : Assignment) (j : Kind) → AgreeBelow n a b → I a j → I b j) → ((a : Assignment) (j : Kind) → I a j → E a (F j)) →
    ((a : Assignment) (i : Kind) → E a i → (j : Kind) × (F j ≡ i) × I a j) → Ask n ((w, k) ∷ es) p (λ a. E a (kind_of a k))
ask_own n p k w F es I E is fixed inner hangs up down =
    ask_more n (suc n) p ((w, k) ∷ es) (λ a. (kind_of a w ≡ kind_of a k) × I a (a n)) (λ a. E a (kind_of a k)) (omega arith)
    (ask_both (suc n) (suc n) p ((w, k) ∷ []) es (λ a. kind_of a w ≡ kind_of a k) (λ a. I a (a n))
    (ask_equal (suc n) w k fixed_own (fixed_more n (suc n) (λ a. kind_of a k) (omega arith) fixed)) inner inner_hangs) sound complete
  where
    fixed_own : Fixed (suc n) (λ a. kind_of a w)
    fixed_own a b agree = is b ∙ ap F (agree n (omega arith)) ∙ sym (is a)

    inner_hangs : Hangs (suc n) (λ a. I a (a n))
    inner_hangs a b agree h = subst (I b) (sym (agree n (omega arith))) (hangs a b (a n) (agree_less n (suc n) a b (omega arith) agree) h)

    sound : (a : Assignment) → (kind_of a w ≡ kind_of a k) × I a (a n) → E a (kind_of a k)
    sound a x = subst (E a) (sym (is a) ∙ x.0) (up a (a n) x.1)

    complete : (a : Assignment) → E a (kind_of a k) → (b : Assignment) × AgreeBelow n a b × ((kind_of b w ≡ kind_of b k) × I b (b n))
    complete a x =
        let y = down a (kind_of a k) x in
        let agree : AgreeBelow n a (assign n y.0 a) = assigned_above n y.0 a in (
          assign n y.0 a,
          agree,
          (is (assign n y.0 a) ∙ ap F (assigned n y.0 a) ∙ y.1 ∙ sym (fixed a (assign n y.0 a) agree), subst (I (assign n y.0 a)) (sym (assigned n y.0 a)) (hangs a (assign n y.0 a) y.0 agree y.2)),
        )

-- ---- numbers below n

pub fixed_numbers : (n : ℕ) (ms : List ℕ) → Each (λ m. m < n) ms → Fixed n (λ a. map a ms)
fixed_numbers n [] h a b agree = refl
fixed_numbers n (m ∷ ms) h a b agree = ap₂ ◌∷◌ (agree m h.0) (fixed_numbers n ms h.1 a b agree)

pub fixed_rows : (n : ℕ) (rows : List (List ℕ)) → Each (Each (λ m. m < n)) rows → Fixed n (λ a. map (map a) rows)
fixed_rows n [] h a b agree = refl
fixed_rows n (r ∷ rows) h a b agree = ap₂ ◌∷◌ (fixed_numbers n r h.0 a b agree) (fixed_rows n rows h.1 a b agree)

abbrev pub made_of : List Kind → List (List Kind) → List (List Kind) → List (List Kind) → Kinds
made_of ks kcs kss kps = record { nametypes = ks; constructors = kcs; channels = kss; parameters = kps }

pub same_record : (ks js : List Kind) (kcs jcs kss jss kps jps : List (List Kind)) → ks ≡ js → kcs ≡ jcs → kss ≡ jss → kps ≡ jps → made_of ks kcs kss kps ≡ made_of js jcs jss jps
same_record ks js kcs jcs kss jss kps jps e d f g =
    ap (λ z. made_of z kcs kss kps) e ∙ ap (λ z. made_of js z kss kps) d ∙ ap (λ z. made_of js jcs z kps) f ∙ ap (λ z. made_of js jcs jss z) g

pub fixed_kinds : (n : ℕ) (o : Numbering) → IsBelow n o → Fixed n (λ a. kinds_under a o)
fixed_kinds n o below a b agree =
    same_record (map b o.nametypes) (map a o.nametypes) (map (map b) o.constructors) (map (map a) o.constructors) (map (map b) o.channels) (map (map a) o.channels) (map (map b) o.parameters) (map (map a) o.parameters)
    (fixed_numbers n o.nametypes below.nametypes a b agree) (fixed_rows n o.constructors below.constructors a b agree) (fixed_rows n o.channels below.channels a b agree)
    (fixed_rows n o.parameters below.parameters a b agree)

pub fixed_names : (n : ℕ) (names : Numbered) → NamesBelow n names → Fixed n (λ a. scope_under a names)
fixed_names n [] h a b agree = refl
fixed_names n (x ∷ names) h a b agree = ap₂ ◌∷◌ (ap (λ k. (x.0, k)) (agree x.1 h.0)) (fixed_names n names h.1 a b agree)

-- ---- with more numbers

pub each_less : (n m : ℕ) (xs : List ℕ) → n ≤ m → Each (λ x. x < n) xs → Each (λ x. x < m) xs
each_less n m [] le h = tt
each_less n m (x ∷ xs) le h = let small : x < n = h.0 in (omega arith, each_less n m xs le h.1)

pub rows_less : (n m : ℕ) (rows : List (List ℕ)) → n ≤ m → Each (Each (λ x. x < n)) rows → Each (Each (λ x. x < m)) rows
rows_less n m [] le h = tt
rows_less n m (r ∷ rows) le h = (each_less n m r le h.0, rows_less n m rows le h.1)

pub below_more : (n m : ℕ) (o : Numbering) → n ≤ m → IsBelow n o → IsBelow m o
below_more n m o le h = record {
  nametypes = each_less n m o.nametypes le h.nametypes;
  constructors = rows_less n m o.constructors le h.constructors;
  channels = rows_less n m o.channels le h.channels;
  parameters = rows_less n m o.parameters le h.parameters;
}

pub names_more : (n m : ℕ) (names : Numbered) → n ≤ m → NamesBelow n names → NamesBelow m names
names_more n m [] le h = tt
names_more n m (b ∷ names) le h = let small : b.1 < n = h.0 in (omega arith, names_more n m names le h.1)

-- ---- what is asked, where the equations are solved

module _ (n m : ℕ) (es : List KindEquation) (D : Assignment → Type 0) (asked : Ask n es m D) where
  pub asked_sound : (t : State) → IsSolved nothing_known es t → (a : Assignment) → Satisfies a t → D a
  asked_sound t solved a sat = asked.sound a ((solved.just a).0 sat).1

  pub asked_complete : (t : State) → IsSolved nothing_known es t → (a : Assignment) → D a → (b : Assignment) × AgreeBelow n a b × Satisfies b t
  asked_complete t solved a h = let x = asked.complete a h in (x.0, x.1, (solved.just x.0).1 (unknown x.0, x.2))
    where
      unknown : (b : Assignment) → Satisfies b nothing_known
      unknown b n c e = absurd (cc e)

  pub asked_none : HasNoSolution nothing_known es → (a : Assignment) → ¬ (D a)
  asked_none none a h = let x = asked.complete a h in none x.0 (λ n c e. absurd (cc e)) x.2

  pub asked_some : (t : State) → IsSolved nothing_known es t → (a : Assignment) × Satisfies a t × D a
  asked_some t solved = let x = chosen t (λ k. IntKind) solved.resolved in (x.0, x.1, asked_sound t solved x.0 x.1)
