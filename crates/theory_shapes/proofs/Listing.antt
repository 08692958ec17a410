-- The alphabet has exactly the events of the script.
use Rattle.std.proofs.Common.{◌≡◌, ℕ, ◌+◌, zero, suc, Bool, true, false, ◌||◌, List, [], ◌∷◌, map, Some, slice_get, refl, sym, ap, subst, ◌∙◌, Contains, arith}
use Rattle.std.specs.List.{AllByRecursion}
use Rattle.std.proofs.lemmas.List.Elements.{Contains-append_left, Contains-append_right}
use Rattle.theory_syntax.specs.Value.{Value, Event, has_value, value_cmp, value_eq}
use Rattle.theory_syntax.specs.Process.{Script}
use Rattle.theory_syntax.proofs.Equalities.{is_eq-Equal, value_same}
use Rattle.theory_syntax.proofs.Members.{contains_here, contains_there, contains_none}
use Rattle.theory_semantics.specs.Kinds.Kind.{InTurn}
use Rattle.theory_shapes.specs.Alphabet.{IsEventOf, alphabet, each_before, events_from, field_lists, with_fields}
use Rattle.theory_shapes.proofs.Doing.{Has, own_members}
use Rattle.theory_shapes.proofs.Results.{all_append, all_made, one_of_all}

contains_map : {X Y : Type 0} (f : X → Y) (xs : List X) (x : X) → Contains xs x → Contains (map f xs) (f x)
contains_map f [] x h = absurd (contains_none x h)
contains_map f (y ∷ ys) x (zero, h, e) = (0, omega arith, ap f e)
contains_map f (y ∷ ys) x (suc k, h, e) = contains_there (f y) (map f ys) (f x) (contains_map f ys x (k, omega arith, e))

pub all_map : {X Y : Type 0} (P : Y → Type 0) (f : X → Y) (xs : List X) → AllByRecursion (λ x. P (f x)) xs → AllByRecursion P (map f xs)
all_map P f [] all = tt
all_map P f (x ∷ xs) all = (all.0, all_map P f xs all.1)

-- ---- lists of fields

before_has : (set : List Value) (lists : List (List Value)) (v : Value) (vs : List Value) → Has v set → Contains lists vs → Contains (each_before set lists) (v ∷ vs)
before_has [] lists v vs h has = absurd (cc h)
before_has (w ∷ ws) lists v vs h has = by_test (value_eq v w) refl h (λ rest. before_has ws lists v vs rest has)
  where
    by_test : (b : Bool) → value_eq v w ≡ b → (b || has_value ws v) ≡ true → (Has v ws → Contains (each_before ws lists) (v ∷ vs)) → Contains (each_before (w ∷ ws) lists) (v ∷ vs)
    by_test true e f later =
        let same : w ≡ v = sym (value_same v w (is_eq-Equal (value_cmp v w) e)) in
        Contains-append_left (map (λ l. w ∷ l) lists) (each_before ws lists) (v ∷ vs) (subst (λ (z : Value). Contains (map (λ l. w ∷ l) lists) (z ∷ vs)) same (contains_map (λ l. w ∷ l) lists vs has))
    by_test false e f later = Contains-append_right (map (λ l. w ∷ l) lists) (each_before ws lists) (v ∷ vs) (later f)

lists_have : (vs : List Value) (sets : List (List Value)) → InTurn Has vs sets → Contains (field_lists sets) vs
lists_have [] [] h = contains_here [] []
lists_have [] (set ∷ sets) h = absurd h
lists_have (v ∷ vs) [] h = absurd h
lists_have (v ∷ vs) (set ∷ sets) h = before_has set (field_lists sets) v vs h.0 (lists_have vs sets h.1)

before_are : (set all : List Value) (sets lists : List (List Value)) → AllByRecursion (λ v. Has v all) set → AllByRecursion (λ vs. InTurn Has vs sets) lists → AllByRecursion (λ vs. InTurn Has vs (all ∷ sets)) (each_before set lists)
before_are [] all sets lists are each = tt
before_are (v ∷ vs) all sets lists are each =
    all_append (λ vs. InTurn Has vs (all ∷ sets)) (map (λ l. v ∷ l) lists) (each_before vs lists)
    (all_map (λ vs. InTurn Has vs (all ∷ sets)) (λ l. v ∷ l) lists (all_made (λ l. InTurn Has l sets) (λ l. InTurn Has (v ∷ l) (all ∷ sets)) (λ l h. (are.0, h)) lists each))
    (before_are vs all sets lists are.1 each)

lists_are : (sets : List (List Value)) → AllByRecursion (λ vs. InTurn Has vs sets) (field_lists sets)
lists_are [] = (tt, tt)
lists_are (set ∷ sets) = before_are set set sets (field_lists sets) (own_members set) (lists_are sets)

-- ---- channels

channels_have : (c k : ℕ) (channels : List (List (List Value))) (sets : List (List Value)) (vs : List Value) → slice_get channels k ≡ Some sets → InTurn Has vs sets → Contains (events_from c channels) (record { channel = c + k; fields = vs })
channels_have c k [] sets vs is h = absurd (cc is)
channels_have c zero (first ∷ more) sets vs is h =
    let same : first ≡ sets = cc is in
    let here : Contains (with_fields c (field_lists first)) (record { channel = c; fields = vs }) = contains_map (λ vs. record { channel = c; fields = vs }) (field_lists first) vs (subst (λ (z : List (List Value)). Contains (field_lists z) vs) (sym same) (lists_have vs sets h)) in
    Contains-append_left (with_fields c (field_lists first)) (events_from (suc c) more) (record { channel = c + 0; fields = vs })
    (subst (λ (d : ℕ). Contains (with_fields c (field_lists first)) (record { channel = d; fields = vs })) (omega arith) here)
channels_have c (suc k) (first ∷ more) sets vs is h =
    Contains-append_right (with_fields c (field_lists first)) (events_from (suc c) more) (record { channel = c + suc k; fields = vs })
    (subst (λ (d : ℕ). Contains (events_from (suc c) more) (record { channel = d; fields = vs })) (omega arith) (channels_have (suc c) k more sets vs is h))

module _ (script : Script) where
  channels_are : (c : ℕ) (more : List (List (List Value))) → ((i : ℕ) → slice_get script.channels (c + i) ≡ slice_get more i) → AllByRecursion (IsEventOf script) (events_from c more)
  channels_are c [] same = tt
  channels_are c (sets ∷ more) same =
      let found : slice_get script.channels c ≡ Some sets = ap (slice_get script.channels) (omega arith) ∙ same 0 in
      all_append (IsEventOf script) (with_fields c (field_lists sets)) (events_from (suc c) more)
      (all_map (IsEventOf script) (λ vs. record { channel = c; fields = vs }) (field_lists sets) (all_made (λ vs. InTurn Has vs sets) (λ vs. IsEventOf script (record { channel = c; fields = vs })) (λ vs h. (sets, found, h)) (field_lists sets) (lists_are sets)))
      (channels_are (suc c) more (λ i. ap (slice_get script.channels) (omega arith) ∙ same (suc i)))

  pub alphabet_has : (e : Event) → IsEventOf script e → Contains (alphabet script) e
  alphabet_has e (sets, is, h) = subst (λ (d : ℕ). Contains (alphabet script) (record { channel = d; fields = e.fields })) (omega arith) (channels_have 0 e.channel script.channels sets e.fields is h)

  pub alphabet_is : (e : Event) → Contains (alphabet script) e → IsEventOf script e
  alphabet_is e has = one_of_all (IsEventOf script) (alphabet script) e (channels_are 0 script.channels (λ i. ap (slice_get script.channels) (omega arith))) has
