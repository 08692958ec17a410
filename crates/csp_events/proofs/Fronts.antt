-- An event begins with one of some beginnings where one of its fronts, its channel with its first fields, is among them.
use Rattle.std.proofs.Common.{◌≡◌, ℕ, zero, suc, ◌+◌, ◌<◌, ◌≤◌, true, false, ◌&&◌, List, [], ◌∷◌, length, take, Contains, nat_eq, refl, sym, ◌∙◌, ap, ap₂, subst, ⊎_elim, arith}
use Rattle.std.proofs.lemmas.List.{take_all, take-map}
use Rattle.std.specs.declared.cmp.Ordering.{Ordering}
use Rattle.std.specs.declared.cmp.Ordering.TheVariants.{Less, Equal, Greater}
use Rattle.std.specs.List.{list_any, starts_with}
use Rattle.std.specs.Ordering.{is_eq, ordering_then}
use Rattle.std.specs.Cmp.{both_ways}
use Rattle.std.proofs.lemmas.Bool.{eq-eqb, eqb-true, and_parts, cases_lt}
use Rattle.theory_syntax.specs.Value as pure
use Rattle.theory_syntax.specs.Value.{Event, event_eq, value_cmp, value_eq}
use Rattle.theory_semantics.specs.Meaning.Events.{begins_with}
use Rattle.theory_syntax.proofs.Equalities.{event_refl, event_same, is_eq-Equal, value_refl, value_same}
use Rattle.csp_value.specs.declared.action.Event.{Event as CodeEvent}
use Rattle.csp_value.specs.declared.value.Value.{Value}
use Rattle.csp_value.specs.Action.{event_of}
use Rattle.csp_value.specs.Value.{value_of}
use Rattle.csp_events.specs.Testing.{event_with}
use Rattle.csp_events.proofs.Enumerating.{any_from, any_of}

-- the channel with the first k fields
abbrev pub front : ℕ → Event → Event
front k e = record { channel = e.channel; fields = take k e.fields }

-- ---- lists

-- a list starts with each of its fronts
starts_with_front : (vs : List pure.Value) (k : ℕ) → starts_with value_eq vs (take k vs) ≡ true
starts_with_front vs zero = refl
starts_with_front [] (suc k) = refl
starts_with_front (v ∷ vs) (suc k) = ap₂ ◌&&◌ (ap is_eq (value_refl v)) (starts_with_front vs k)

-- what a list starts with is one of them
is_front : (vs ws : List pure.Value) → starts_with value_eq vs ws ≡ true → take (length ws) vs ≡ ws
is_front vs [] h = refl
is_front [] (w ∷ ws) h = absurd (cc h)
is_front (v ∷ vs) (w ∷ ws) h =
    let both = and_parts (value_eq w v) (starts_with value_eq vs ws) h in
    ap₂ (λ x xs. x ∷ xs) (sym (value_same w v (is_eq-Equal (value_cmp w v) both.0))) (is_front vs ws both.1)

-- ---- events

module _ (e : Event) where
  -- an event begins with each of its fronts
  begins_with_front : (k : ℕ) → begins_with e (front k e) ≡ true
  begins_with_front k = ap₂ ◌&&◌ (eq-eqb e.channel e.channel refl) (starts_with_front e.fields k)

  -- and with itself
  begins_with_all : begins_with e e ≡ true
  begins_with_all = ap (begins_with e) (λ i. record { channel = e.channel; fields = sym (take_all (length e.fields) e.fields (omega arith)) i }) ∙ begins_with_front (length e.fields)

  -- what an event begins with is a front of it
  front_is : (b : Event) → begins_with e b ≡ true → front (length b.fields) e ≡ b
  front_is b h =
      let both = and_parts (nat_eq e.channel b.channel) (starts_with value_eq e.fields b.fields) h in
      let c = eqb-true e.channel b.channel both.0 in
      let vs = is_front e.fields b.fields both.1 in
      λ i. record { channel = c i; fields = vs i }

  module _ (bs : List Event) where
    -- a front is among them
    pub begun_by : (k : ℕ) → list_any (event_eq (front k e)) bs ≡ true → true ≡ list_any (begins_with e) bs
    begun_by k h =
        let r = any_of (event_eq (front k e)) bs h in
        sym (any_from (begins_with e) bs r.0 r.1 (ap (begins_with e) (sym (event_same (front k e) r.0 r.2)) ∙ begins_with_front k))

    -- no shorter front is
    pub begun_at_last : ((k : ℕ) → k < length e.fields → list_any (event_eq (front k e)) bs ≡ false) → list_any (event_eq e) bs ≡ list_any (begins_with e) bs
    begun_at_last none = both_ways (list_any (event_eq e) bs) (list_any (begins_with e) bs) to back
      where
        to : list_any (event_eq e) bs ≡ true → list_any (begins_with e) bs ≡ true
        to h = let r = any_of (event_eq e) bs h in any_from (begins_with e) bs r.0 r.1 (ap (begins_with e) (sym (event_same e r.0 r.2)) ∙ begins_with_all)

        back : list_any (begins_with e) bs ≡ true → list_any (event_eq e) bs ≡ true
        back h = ⊎_elim shorter whole (cases_lt (length r.0.fields) (length e.fields))
          where
            r : (b : Event) × Contains bs b × (begins_with e b ≡ true)
            r = any_of (begins_with e) bs h

            whole : length e.fields ≤ length r.0.fields → list_any (event_eq e) bs ≡ true
            whole all =
                let same : e ≡ r.0 = (λ i. record { channel = e.channel; fields = sym (take_all (length r.0.fields) e.fields all) i }) ∙ front_is r.0 r.2 in
                any_from (event_eq e) bs r.0 r.1 (ap (event_eq e) (sym same) ∙ event_refl e)

            shorter : length r.0.fields < length e.fields → list_any (event_eq e) bs ≡ true
            shorter fewer =
                let k = length r.0.fields in
                let among = any_from (event_eq (front k e)) bs r.0 r.1 (ap (event_eq (front k e)) (sym (front_is r.0 r.2)) ∙ event_refl (front k e)) in
                absurd (cc (sym (none k fewer) ∙ among))

-- ---- one more front

pub none_further : {P : ℕ → Type 0} (n : ℕ) → ((k : ℕ) → k < n → P k) → P n → (k : ℕ) → k < n + 1 → P k
none_further {P} n all here k within = ⊎_elim (λ below. all k below) (λ above. subst P (let e : n ≡ k = omega (arith, above, within) in e) here) (cases_lt k n)

-- the channel with the first fields of an event of the code
pub front_with : {A : Type 0} (e : CodeEvent A) (k : ℕ) (vs : List (Value A)) → vs ≡ take k e.fields.items → event_with e.channel vs ≡ front k (event_of e)
front_with e k vs is = ap (event_with e.channel) is ∙ (λ i. record { channel = e.channel.0; fields = sym (take-map value_of k e.fields.items) i })

-- ---- an order that the first comparison decides

pub decided : (r o : Ordering) → (r ≡ Equal → ⊥) → r ≡ ordering_then r o
decided Less o differs = refl
decided Equal o differs = absurd (differs refl)
decided Greater o differs = refl
