-- Values ask part by part.
use Rattle.std.proofs.Common.{◌≡◌, ◌≢◌, ℕ, zero, suc, ◌+◌, ◌<◌, ◌≤◌, true, false, cond, List, [], ◌∷◌, ◌++◌, append-nil, length, map, drop, get_or, refl, sym, ◌∙◌, ap, ap₂, arith}
use Rattle.std.proofs.lemmas.List.{drop_all, get_or_default, length-map}
use Rattle.std.specs.declared.vec.Vec.{Vec}
use Rattle.theory_syntax.specs.Value as pure
use Rattle.theory_syntax.specs.Value.{to_values}
use Rattle.theory_semantics.specs.Meaning.Limits.{value_size, values_size}
use Rattle.theory_semantics.specs.Meaning.Offers.{rises}
use Rattle.theory_checking.specs.Inference.Chain as chain
use Rattle.theory_checking.specs.Inference.State as state
use Rattle.theory_checking.specs.Inference.Equations as numbers
use Rattle.theory_checking.specs.Inference.Equations.{never}
use Rattle.theory_checking.specs.Inference.Expressions.{behind_value, behind_values, of_rising, of_value, of_values, of_values_in_turn}
use Rattle.csp_value.specs.declared.name.ConId.{ConId}
use Rattle.csp_value.specs.declared.value.Value.{Value}
use Rattle.csp_value.specs.declared.value.Value.TheVariants as views
use Rattle.csp_value.specs.declared.set.SetOf.{SetOf}
use Rattle.csp_value.specs.Value.{members_of, value_of, values_of}
use Rattle.csp_value.proofs.Forms.{listed, unlisted, value_of_con, value_of_seq, value_of_set}
use Rattle.csp_inference.specs.declared.chain.KindNumber.{KindNumber}
use Rattle.csp_inference.specs.declared.equations.Equations.{Equations}
use Rattle.csp_inference.specs.Equations.{Adds, AreHopeless, Asks, equations_of, exactly}
use Rattle.csp_inference.proofs.Adding.{adds_same, knows_itself}
use Rattle.csp_inference.proofs.Asking.{LeftBoth, asks_same, asks_then, both_more, hopeless_back, never_hopeless, remains_none}

-- the equations of values of the code, and the next number behind them
abbrev pub asked_values : {A : Type 0} → numbers.Numbering → chain.Chain → ℕ → List (Value A) → List state.KindEquation
asked_values o k n vs = of_values o n (to_values (values_of vs)) k

abbrev pub asked_in_turn : {A : Type 0} → numbers.Numbering → ℕ → List (Value A) → List KindNumber → List state.KindEquation
asked_in_turn o n vs ms = of_values_in_turn o n (to_values (values_of vs)) (map (λ m. m.0) ms)

abbrev pub behind_asked : {A : Type 0} → ℕ → List (Value A) → ℕ
behind_asked n vs = behind_values n (to_values (values_of vs))

-- the value of a constructor, a sequence and a set, by its parts as they are read
pub of_constructor : {A : Type 0} (v : Value A) (k : ConId) (fields : Vec (Value A) A) (read : List (Value A)) →
    v ≡ views.Con k fields → read ≡ fields.items → value_of v ≡ pure.Constructor k.0 (to_values (values_of read))
of_constructor {A} v k fields read is same = ap value_of is ∙ value_of_con A k fields ∙ ap (λ vs. pure.Constructor k.0 (to_values (values_of vs))) (sym same)

pub of_sequence : {A : Type 0} (v : Value A) (items : Vec (Value A) A) (read : List (Value A)) → v ≡ views.Seq items → read ≡ items.items → value_of v ≡ pure.Sequence (to_values (values_of read))
of_sequence {A} v items read is same = ap value_of is ∙ value_of_seq A items ∙ ap (λ vs. pure.Sequence (to_values (values_of vs))) (sym same)

pub of_set : {A : Type 0} (v : Value A) (s : SetOf A) (read : List (Value A)) → v ≡ views.Set s → values_of read ≡ pure.values_list (members_of s) → value_of v ≡ pure.Set (to_values (values_of read))
of_set {A} v s read is same = ap value_of is ∙ value_of_set A s ∙ ap pure.Set (sym (unlisted (members_of s)) ∙ ap to_values (sym same))

-- a member is smaller than the values that it is one of
pub member_size : {A : Type 0} (vs : List (Value A)) (i : ℕ) (v : Value A) → i < length vs → v ≡ get_or vs i v → value_size (value_of v) < suc (values_size (to_values (values_of vs)))
member_size [] i v within read = absurd (omega arith)
member_size (w ∷ ws) zero v within read = let same = ap (λ x. value_size (value_of x)) read in omega arith
member_size (w ∷ ws) (suc i) v within read = let smaller = member_size ws i v (omega arith) read in omega arith

module _ {A : Type 0} (o : numbers.Numbering) (s : Equations A) (k : chain.Chain) (v : pure.Value) where
  -- What the value asks, when the equations are those of t.
  abbrev pub Asked : Equations A → Type 0
  Asked t = Asks s t (of_value o s.next v k) (behind_value s.next v)

  pub whole : (t : Equations A) (w : pure.Value) → v ≡ w → Asks s t (of_value o s.next w k) (behind_value s.next w) → Asked t
  whole t w is h =
      asks_same s t (of_value o s.next w k) (of_value o s.next v k) (behind_value s.next w) (behind_value s.next v) (ap (λ x. of_value o s.next x k) (sym is))
      (ap (behind_value s.next) (sym is)) h

  -- an open kind for the items, and then the items
  module _ (t u : Equations A) (n : ℕ) (vs : pure.Values) (numbered : n ≡ s.next) where
    abbrev pub Items : Type 0
    Items = Asks t u (of_values o t.next vs (chain.OpenEnd n)) (behind_values t.next vs)

    same_items : Items → Asks t u (of_values o t.next vs (chain.OpenEnd s.next)) (behind_values t.next vs)
    same_items items =
        asks_same t u (of_values o t.next vs (chain.OpenEnd n)) (of_values o t.next vs (chain.OpenEnd s.next)) (behind_values t.next vs) (behind_values t.next vs)
        (ap (λ m. of_values o t.next vs (chain.OpenEnd m)) numbered) refl items

    pub asked_sequence : v ≡ pure.Sequence vs → Adds s t ((chain.SequenceOver (chain.OpenEnd s.next), k) ∷ []) (suc s.next) → Items → Asked u
    asked_sequence is opened items =
        whole u (pure.Sequence vs) is
        (asks_then s t u ((chain.SequenceOver (chain.OpenEnd s.next), k) ∷ []) (suc s.next) (λ m. of_values o m vs (chain.OpenEnd s.next)) (λ m. behind_values m vs)
        (exactly opened) (same_items items))

    -- and then whether they rise
    pub asked_set : (w : Equations A) → v ≡ pure.Set vs → Adds s t ((chain.SetOver (chain.OpenEnd s.next), k) ∷ []) (suc s.next) → Items →
        Adds u w (of_rising vs) u.next → Asked w
    asked_set w is opened items rising =
        whole w (pure.Set vs) is
        (asks_then s t w ((chain.SetOver (chain.OpenEnd s.next), k) ∷ []) (suc s.next) (λ m. of_values o m vs (chain.OpenEnd s.next) ++ of_rising vs)
        (λ m. behind_values m vs) (exactly opened)
        (asks_then t u w (of_values o t.next vs (chain.OpenEnd s.next)) (behind_values t.next vs) (λ m. of_rising vs) (λ m. m) (same_items items) (exactly rising)))

-- nothing is added for members that rise, and what no kinds solve for others
pub rising_adds_none : {A : Type 0} (s : Equations A) (vs : List pure.Value) → rises vs ≡ true → Adds s s (of_rising (to_values vs)) s.next
rising_adds_none s vs is =
    let e : of_rising (to_values vs) ≡ [] = ap (λ b. cond b [] never) (ap rises (listed vs) ∙ is) in
    record { met = sym (ap (λ es. equations_of s ++ es) e ∙ append-nil (equations_of s)); next = refl; known = knows_itself s }

pub falling_adds_never : {A : Type 0} (s t : Equations A) (vs : List pure.Value) → rises vs ≡ false → Adds s t never s.next → Adds s t (of_rising (to_values vs)) s.next
falling_adds_never s t vs is h = adds_same s t never (of_rising (to_values vs)) s.next s.next (sym (ap (λ b. cond b [] never) (ap rises (listed vs) ∙ is))) refl h

-- ---- values with the kinds of numbers in turn

module _ (o : numbers.Numbering) where
  unequal_hopeless : (n : ℕ) (vs : List pure.Value) (ms : List ℕ) → length vs ≢ length ms → AreHopeless (of_values_in_turn o n (to_values vs) ms)
  unequal_hopeless n [] [] differ = absurd (differ refl)
  unequal_hopeless n [] (m ∷ ms) differ = never_hopeless
  unequal_hopeless n (v ∷ vs) [] differ = never_hopeless
  unequal_hopeless n (v ∷ vs) (m ∷ ms) differ =
      hopeless_back (of_value o n v (chain.OpenEnd m)) (of_values_in_turn o (behind_value n v) (to_values vs) ms)
      (unequal_hopeless (behind_value n v) vs ms (λ same. differ (ap suc same)))

module _ {A : Type 0} (o : numbers.Numbering) where
  pub unequal : (n : ℕ) (vs : List (Value A)) (ms : List KindNumber) → length vs ≢ length ms → AreHopeless (asked_in_turn o n vs ms)
  unequal n vs ms differ =
      unequal_hopeless o n (values_of vs) (map (λ m. m.0) ms) (λ same. differ (sym (length-map vs value_of) ∙ same ∙ length-map ms (λ m. m.0)))

  -- one value more
  pub turn_more : (start now new : Equations A) (vs : List (Value A)) (ms : List KindNumber) (i : ℕ) (v : Value A) (d : KindNumber) →
      i < length vs → length vs ≡ length ms → v ≡ get_or vs i v → LeftBoth (asked_in_turn o) behind_asked start now vs ms i →
      Asks now new (of_value o now.next (value_of v) (chain.OpenEnd (get_or ms i d).0)) (behind_value now.next (value_of v)) →
      LeftBoth (asked_in_turn o) behind_asked start new vs ms (i + 1)
  turn_more start now new vs ms i v d within same read left asks =
      let in_numbers : i < length ms = omega arith in
      both_more (asked_in_turn o) behind_asked start now vs ms i (λ n x m. of_value o n (value_of x) (chain.OpenEnd m.0)) (λ n x. behind_value n (value_of x)) new v
      (get_or ms i d) (λ n us ws. refl) (λ n us. refl) within in_numbers read (get_or_default ms i d (get_or ms i d) in_numbers) left asks

  pub turn_all : (start now : Equations A) (vs : List (Value A)) (ms : List KindNumber) (i : ℕ) →
      length vs ≤ i → length vs ≡ length ms → LeftBoth (asked_in_turn o) behind_asked start now vs ms i → Asks start now (asked_in_turn o start.next vs ms) (behind_asked start.next vs)
  turn_all start now vs ms i over same left =
      let cut = drop_all i vs over in
      let past : length ms ≤ i = omega arith in
      let slice = drop_all i ms past in
      remains_none start now (asked_in_turn o start.next vs ms) (behind_asked start.next vs) (asked_in_turn o now.next (drop i vs) (drop i ms))
      (behind_asked now.next (drop i vs)) (ap₂ (asked_in_turn o now.next) cut slice) (ap (behind_asked now.next) cut) left
