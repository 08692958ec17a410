-- All constructors of a datatype, each with all fields of its sets, rise.
use Rattle.std.proofs.Common.{◌≡◌, ℕ, List, [], ◌∷◌, ◌++◌, map, Result, Ok, Err, refl, ap, ◌∙◌, subst}
use Rattle.std.specs.Prelude.{⊤, flat_map}
use Rattle.std.specs.declared.cmp.Ordering.{Ordering}
use Rattle.std.specs.declared.cmp.Ordering.TheVariants.{Less}
use Rattle.std.specs.Ordering.{is_lt, nat_cmp, ordering_then}
use Rattle.std.specs.Cmp.{IsTotalOrder, nat_cmp_total}
use Rattle.std.proofs.lemmas.Cmp.{tied_itself}
use Rattle.theory_syntax.specs.Value.{Value, Constructor, Values, to_values, value_cmp, values_cmp}
use Rattle.theory_syntax.specs.Types.{Types}
use Rattle.theory_syntax.proofs.Orders.{value_total}
use Rattle.theory_syntax.proofs.Equalities.{is_lt-Less}
use Rattle.theory_semantics.specs.Meaning.Evaluation.{Cause, ◌and_then◌, constructor_sets, choices, with_all_fields, constructors}
use Rattle.theory_semantics.specs.Meaning.Offers.{RisesBy}
use Rattle.theory_semantics.specs.Kinds.Kind.{Each}
use Rattle.theory_semantics.proofs.Misfits.{each_append}
use Rattle.theory_semantics.proofs.Rising.{rises_behind}

-- ---- each is less than all behind it

abbrev Below : {X : Type 0} → (X → X → Ordering) → X → List X → Type 0
Below R x ys = Each (λ y. R x y ≡ Less) ys

abbrev pub Apart : {X : Type 0} → (X → X → Ordering) → List X → Type 0
Apart R [] = ⊤
Apart R (x ∷ xs) = Below R x xs × Apart R xs

pub apart_rises : {X : Type 0} (R : X → X → Ordering) (xs : List X) → Apart R xs → RisesBy R xs
apart_rises R [] h = tt
apart_rises R (x ∷ []) h = tt
apart_rises R (x ∷ y ∷ ys) h = (ap is_lt h.0.0, apart_rises R (y ∷ ys) h.1)

module _ {X : Type 0} (R : X → X → Ordering) (total : IsTotalOrder R) where
  below_more : (x y : X) (ys : List X) → R x y ≡ Less → Below R y ys → Below R x ys
  below_more x y [] e h = tt
  below_more x y (z ∷ zs) e h = (total.trans x y z e h.0, below_more x y zs e h.1)

  all_below : (x : X) (xs : List X) → RisesBy R (x ∷ xs) → Below R x xs
  all_below x [] h = tt
  all_below x (y ∷ ys) h = let e = is_lt-Less (R x y) h.0 in (e, below_more x y ys e (all_below y ys h.1))

  pub rises_apart : (xs : List X) → RisesBy R xs → Apart R xs
  rises_apart [] h = tt
  rises_apart (x ∷ xs) h = (all_below x xs h, rises_apart xs (rises_behind R x xs h))

apart_append : {X : Type 0} (R : X → X → Ordering) (xs ys : List X) → Apart R xs → Apart R ys → Each (λ x. Below R x ys) xs → Apart R (xs ++ ys)
apart_append R [] ys h k e = k
apart_append R (x ∷ xs) ys h k e = (each_append (λ y. R x y ≡ Less) xs ys h.0 e.0, apart_append R xs ys h.1 k e.1)

each_none : {X : Type 0} (R : X → X → Ordering) (xs : List X) → Each (λ x. Below R x []) xs
each_none R [] = tt
each_none R (x ∷ xs) = (tt, each_none R xs)

each_more : {X : Type 0} (R : X → X → Ordering) (xs ys zs : List X) → Each (λ x. Below R x ys) xs → Each (λ x. Below R x zs) xs → Each (λ x. Below R x (ys ++ zs)) xs
each_more R [] ys zs h k = tt
each_more R (x ∷ xs) ys zs h k = (each_append (λ y. R x y ≡ Less) ys zs h.0 k.0, each_more R xs ys zs h.1 k.1)

-- lists that rise, one for each of a list that rises
module _ {A X : Type 0} (S : A → A → Ordering) (R : X → X → Ordering) (f : A → List X) (own : (a : A) → Apart R (f a))
    (others : (a b : A) → S a b ≡ Less → Each (λ x. Below R x (f b)) (f a)) where
  before : (a : A) (s : List A) → Below S a s → Each (λ x. Below R x (flat_map f s)) (f a)
  before a [] h = each_none R (f a)
  before a (b ∷ s) h = each_more R (f a) (f b) (flat_map f s) (others a b h.0) (before a s h.1)

  blocks : (s : List A) → Apart S s → Apart R (flat_map f s)
  blocks [] h = tt
  blocks (a ∷ s) h = apart_append R (f a) (flat_map f s) (own a) (blocks s h.1) (before a s h.0)

module _ {A X : Type 0} (S : A → A → Ordering) (R : X → X → Ordering) (g : A → X) (keeps : (a b : A) → S a b ≡ Less → R (g a) (g b) ≡ Less) where
  mapped_below : (a : A) (s : List A) → Below S a s → Below R (g a) (map g s)
  mapped_below a [] h = tt
  mapped_below a (b ∷ s) h = (keeps a b h.0, mapped_below a s h.1)

  mapped_apart : (s : List A) → Apart S s → Apart R (map g s)
  mapped_apart [] h = tt
  mapped_apart (a ∷ s) h = (mapped_below a s h.0, mapped_apart s h.1)

-- ---- choices

abbrev list_cmp : List Value → List Value → Ordering
list_cmp vs ws = values_cmp (to_values vs) (to_values ws)

each_first : (v w : Value) → value_cmp v w ≡ Less → (xs ys : List (List Value)) → Each (λ x. Below list_cmp x (map (λ vs. w ∷ vs) ys)) (map (λ vs. v ∷ vs) xs)
each_first v w e [] ys = tt
each_first v w e (x ∷ xs) ys = (go ys, each_first v w e xs ys)
  where
    go : (zs : List (List Value)) → Below list_cmp (v ∷ x) (map (λ vs. w ∷ vs) zs)
    go [] = tt
    go (z ∷ zs) = (ap (λ o. ordering_then o (list_cmp x z)) e, go zs)

choices_apart : (sets : List (List Value)) → Each (RisesBy value_cmp) sets → Apart list_cmp (choices sets)
choices_apart [] h = (tt, tt)
choices_apart (set ∷ sets) h =
    blocks value_cmp list_cmp (λ v. map (λ vs. v ∷ vs) (choices sets))
    (λ v. mapped_apart list_cmp list_cmp (λ vs. v ∷ vs) (λ x y e. ap (λ o. ordering_then o (list_cmp x y)) (tied_itself value_total v) ∙ e) (choices sets) (choices_apart sets h.1))
    (λ v w e. each_first v w e (choices sets) (choices sets)) set (rises_apart value_cmp value_total set h.0)

fields_apart : (k : ℕ) (sets : List (List Value)) → Each (RisesBy value_cmp) sets → Apart value_cmp (with_all_fields k sets)
fields_apart k sets h =
    mapped_apart list_cmp value_cmp (λ vs. Constructor k (to_values vs)) (λ x y e. ap (λ o. ordering_then o (list_cmp x y)) (tied_itself nat_cmp_total k) ∙ e) (choices sets) (choices_apart sets h)

-- ---- constructors

then_ok : {A B : Type 0} (r : Result A Cause) (f : A → Result B Cause) (y : B) → (r and_then f) ≡ Ok y → (x : A) × (r ≡ Ok x) × (f x ≡ Ok y)
then_ok (Ok x) f y e = (x, refl, e)
then_ok (Err c) f y e = absurd (cc e)

less_than_all : (k j : ℕ) → nat_cmp k j ≡ Less → (x : Values) (css : List (List Value)) → Below value_cmp (Constructor k x) (map (λ vs. Constructor j (to_values vs)) css)
less_than_all k j e x [] = tt
less_than_all k j e x (vs ∷ css) = (ap (λ o. ordering_then o (values_cmp x (to_values vs))) e, less_than_all k j e x css)

module _ (types : Types) (rise : (k : ℕ) (sets : List (List Value)) → constructor_sets types k ≡ Ok sets → Each (RisesBy value_cmp) sets) where
  parts : (k : ℕ) (ks : List ℕ) (vs : List Value) → constructors types (k ∷ ks) ≡ Ok vs →
      (sets : List (List Value)) × (ws : List Value) × (constructor_sets types k ≡ Ok sets) × (constructors types ks ≡ Ok ws) × (with_all_fields k sets ++ ws ≡ vs)
  parts k ks vs is =
      let first = then_ok (constructor_sets types k) (λ s. constructors types ks and_then λ us. Ok (with_all_fields k s ++ us)) vs is in
      let rest = then_ok (constructors types ks) (λ us. Ok (with_all_fields k first.0 ++ us)) vs first.2 in
      (first.0, rest.0, first.1, rest.1, cc rest.2)

  behind : (k : ℕ) (x : Values) (ks : List ℕ) (vs : List Value) → Below nat_cmp k ks → constructors types ks ≡ Ok vs → Below value_cmp (Constructor k x) vs
  behind k x [] vs h is = let none : [] ≡ vs = cc is in subst (Below value_cmp (Constructor k x)) none tt
  behind k x (j ∷ ks) vs h is =
      let p = parts j ks vs is in
      subst (Below value_cmp (Constructor k x)) p.4
      (each_append (λ y. value_cmp (Constructor k x) y ≡ Less) (with_all_fields j p.0) p.1 (less_than_all k j h.0 x (choices p.0)) (behind k x ks p.1 h.1 p.3))

  each_behind : (k : ℕ) (css : List (List Value)) (ks : List ℕ) (vs : List Value) → Below nat_cmp k ks → constructors types ks ≡ Ok vs →
      Each (λ x. Below value_cmp x vs) (map (λ us. Constructor k (to_values us)) css)
  each_behind k [] ks vs h is = tt
  each_behind k (us ∷ css) ks vs h is = (behind k (to_values us) ks vs h is, each_behind k css ks vs h is)

  constructors_apart : (ks : List ℕ) (vs : List Value) → Apart nat_cmp ks → constructors types ks ≡ Ok vs → Apart value_cmp vs
  constructors_apart [] vs h is = let none : [] ≡ vs = cc is in subst (Apart value_cmp) none tt
  constructors_apart (k ∷ ks) vs h is =
      let p = parts k ks vs is in
      subst (Apart value_cmp) p.4
      (apart_append value_cmp (with_all_fields k p.0) p.1 (fields_apart k p.0 (rise k p.0 p.2)) (constructors_apart ks p.1 h.1 p.3) (each_behind k (choices p.0) ks p.1 h.0 p.3))

  pub constructors_rise : (ks : List ℕ) (vs : List Value) → RisesBy nat_cmp ks → constructors types ks ≡ Ok vs → RisesBy value_cmp vs
  constructors_rise ks vs h is = apart_rises value_cmp vs (constructors_apart ks vs (rises_apart nat_cmp nat_cmp_total ks h) is)
