-- The derived order of values is the order of what they stand for.
use denote.RattleType
use mir.Syntax
use denote.Enum.Declared
use denote.Hole.Holds
use Rattle.std.proofs.Common.{◌≡◌, refl, sym, ◌∙◌, ap, ap₂, subst, inl, inr, ℤ, Bool, List, [], ◌∷◌, map}
use Rattle.std.specs.declared.alloc.Allocator as allocator
use Rattle.std.specs.declared.vec.Vec.{Vec}
use Rattle.std.specs.declared.cmp.Ordering.{Ordering}
use Rattle.std.specs.Ordering.{nat_cmp, ordering_then}
use Rattle.std.specs.Cmp.Lexicographic.{slice_cmp}
use Rattle.theory_syntax.specs.Value as pure
use Rattle.csp_value.specs.declared.name.ConId.{ConId}
use Rattle.csp_value.specs.declared.value.Value.{Value, roll-Value}
use Rattle.csp_value.specs.declared.set.SetOf.{SetOf, out-SetOf, roll-SetOf, out-roll-SetOf}
use Rattle.csp_value.specs.declared.value.Value.TheFolds.{map-Value, map-SetOf, ind-Value, ind-SetOf, claims}
use Rattle.csp_value.specs.declared.value.Value.TheVariants as views
use Rattle.csp_value.specs.declared.value.Value.TheOpen as layer
use Rattle.csp_value.specs.declared.value.Value.TheBlock as block
use Rattle.csp_value.specs.contracts.value.ValueOrd.TheImpl as impl
use Rattle.csp_value.specs.contracts.value.ValueOrd.TheImpl.Laws as laws
use Rattle.csp_value.specs.contracts.set.SetOfOrd.TheImpl as set_impl
use Rattle.csp_value.specs.contracts.set.SetOfOrd.TheImpl.Laws as set_laws
use Rattle.csp_value.specs.contracts.value.Value as contract
use Rattle.csp_value.specs.Value.{value_of, values_of, members_of}
use Rattle.csp_value.proofs.Forms.{value_of_int, value_of_bool, value_of_con, value_of_seq, value_of_set, members_of_set}

module _ (R : RattleType.RattleType) (A : allocator.Ghosts R.Denot) (ad dd : Syntax.Dict) where
  abbrev pub cmp : Value R.Denot → Value R.Denot → Ordering
  cmp = (impl.ghosts R A ad dd).cmp

  abbrev pub set_cmp : SetOf R.Denot → SetOf R.Denot → Ordering
  set_cmp = (set_impl.ghosts R A ad dd).cmp

  abbrev Agrees : Value R.Denot → Value R.Denot → Type 0
  Agrees a b = cmp a b ≡ pure.value_cmp (value_of a) (value_of b)

  abbrev IsOrdered : Value R.Denot → Type 0
  IsOrdered a = (b : Value R.Denot) → Agrees a b

  abbrev IsOrderedSet : SetOf R.Denot → Type 0
  IsOrderedSet s = (t : SetOf R.Denot) → set_cmp s t ≡ pure.values_cmp (members_of s) (members_of t)

  abbrev AreOrdered : List (Value R.Denot) → Type 0
  AreOrdered vs = (ws : List (Value R.Denot)) → slice_cmp cmp vs ws ≡ pure.values_cmp (pure.to_values (values_of vs)) (pure.to_values (values_of ws))

  abbrev int : ℤ → Value R.Denot
  int n = views.Int n

  abbrev bool : Bool → Value R.Denot
  bool b = views.Bool b

  abbrev con : ConId → Vec (Value R.Denot) R.Denot → Value R.Denot
  con k v = views.Con k v

  abbrev seq : Vec (Value R.Denot) R.Denot → Value R.Denot
  seq v = views.Seq v

  abbrev set : SetOf R.Denot → Value R.Denot
  set s = views.Set s

  -- ---- the parts of a value of each form

  parts_int : (n : ℤ) → contract.as_values R A (int n) ≡ inl (n, tt)
  parts_int n = contract.the_beta R A (inl (n, tt))

  parts_bool : (b : Bool) → contract.as_values R A (bool b) ≡ inr (inl (b, tt))
  parts_bool b = contract.the_beta R A (inr (inl (b, tt)))

  parts_con : (k : ConId) (u : Vec (Value R.Denot) R.Denot) → contract.as_values R A (con k u) ≡ inr (inr (inl (k, (u, tt))))
  parts_con k u = contract.the_beta R A (inr (inr (inl (k, (u, tt)))))

  parts_seq : (v : Vec (Value R.Denot) R.Denot) → contract.as_values R A (seq v) ≡ inr (inr (inr (inl (v, tt))))
  parts_seq v = contract.the_beta R A (inr (inr (inr (inl (v, tt)))))

  parts_set : (s : SetOf R.Denot) → contract.as_values R A (set s) ≡ inr (inr (inr (inr (inl (s, tt)))))
  parts_set s = contract.the_beta R A (inr (inr (inr (inr (inl (s, tt))))))

  -- ---- two values, by their forms

  int_int : (n n' : ℤ) → Agrees (int n) (int n')
  int_int n n' = laws.is R A ad dd (int n) (int n') ∙ rw (parts_int n, parts_int n', value_of_int R.Denot n, value_of_int R.Denot n') refl

  int_bool : (n : ℤ) (b : Bool) → Agrees (int n) (bool b)
  int_bool n b = laws.is R A ad dd (int n) (bool b) ∙ rw (parts_int n, parts_bool b, value_of_int R.Denot n, value_of_bool R.Denot b) refl

  int_con : (n : ℤ) (k : ConId) (u : Vec (Value R.Denot) R.Denot) → Agrees (int n) (con k u)
  int_con n k u = laws.is R A ad dd (int n) (con k u) ∙ rw (parts_int n, parts_con k u, value_of_int R.Denot n, value_of_con R.Denot k u) refl

  int_seq : (n : ℤ) (v : Vec (Value R.Denot) R.Denot) → Agrees (int n) (seq v)
  int_seq n v = laws.is R A ad dd (int n) (seq v) ∙ rw (parts_int n, parts_seq v, value_of_int R.Denot n, value_of_seq R.Denot v) refl

  int_set : (n : ℤ) (s : SetOf R.Denot) → Agrees (int n) (set s)
  int_set n s = laws.is R A ad dd (int n) (set s) ∙ rw (parts_int n, parts_set s, value_of_int R.Denot n, value_of_set R.Denot s) refl

  bool_int : (b : Bool) (n : ℤ) → Agrees (bool b) (int n)
  bool_int b n = laws.is R A ad dd (bool b) (int n) ∙ rw (parts_bool b, parts_int n, value_of_bool R.Denot b, value_of_int R.Denot n) refl

  bool_bool : (b b' : Bool) → Agrees (bool b) (bool b')
  bool_bool b b' = laws.is R A ad dd (bool b) (bool b') ∙ rw (parts_bool b, parts_bool b', value_of_bool R.Denot b, value_of_bool R.Denot b') refl

  bool_con : (b : Bool) (k : ConId) (u : Vec (Value R.Denot) R.Denot) → Agrees (bool b) (con k u)
  bool_con b k u = laws.is R A ad dd (bool b) (con k u) ∙ rw (parts_bool b, parts_con k u, value_of_bool R.Denot b, value_of_con R.Denot k u) refl

  bool_seq : (b : Bool) (v : Vec (Value R.Denot) R.Denot) → Agrees (bool b) (seq v)
  bool_seq b v = laws.is R A ad dd (bool b) (seq v) ∙ rw (parts_bool b, parts_seq v, value_of_bool R.Denot b, value_of_seq R.Denot v) refl

  bool_set : (b : Bool) (s : SetOf R.Denot) → Agrees (bool b) (set s)
  bool_set b s = laws.is R A ad dd (bool b) (set s) ∙ rw (parts_bool b, parts_set s, value_of_bool R.Denot b, value_of_set R.Denot s) refl

  con_int : (k : ConId) (u : Vec (Value R.Denot) R.Denot) (n : ℤ) → Agrees (con k u) (int n)
  con_int k u n = laws.is R A ad dd (con k u) (int n) ∙ rw (parts_con k u, parts_int n, value_of_con R.Denot k u, value_of_int R.Denot n) refl

  con_bool : (k : ConId) (u : Vec (Value R.Denot) R.Denot) (b : Bool) → Agrees (con k u) (bool b)
  con_bool k u b = laws.is R A ad dd (con k u) (bool b) ∙ rw (parts_con k u, parts_bool b, value_of_con R.Denot k u, value_of_bool R.Denot b) refl

  con_con : (k k' : ConId) (u u' : Vec (Value R.Denot) R.Denot) → AreOrdered u.items → Agrees (con k u) (con k' u')
  con_con k k' u u' same =
      laws.is R A ad dd (con k u) (con k' u') ∙ rw (parts_con k u, parts_con k' u', value_of_con R.Denot k u, value_of_con R.Denot k' u') (ap (ordering_then (nat_cmp k.0 k'.0)) (same u'.items))

  con_seq : (k : ConId) (u : Vec (Value R.Denot) R.Denot) (v : Vec (Value R.Denot) R.Denot) → Agrees (con k u) (seq v)
  con_seq k u v = laws.is R A ad dd (con k u) (seq v) ∙ rw (parts_con k u, parts_seq v, value_of_con R.Denot k u, value_of_seq R.Denot v) refl

  con_set : (k : ConId) (u : Vec (Value R.Denot) R.Denot) (s : SetOf R.Denot) → Agrees (con k u) (set s)
  con_set k u s = laws.is R A ad dd (con k u) (set s) ∙ rw (parts_con k u, parts_set s, value_of_con R.Denot k u, value_of_set R.Denot s) refl

  seq_int : (v : Vec (Value R.Denot) R.Denot) (n : ℤ) → Agrees (seq v) (int n)
  seq_int v n = laws.is R A ad dd (seq v) (int n) ∙ rw (parts_seq v, parts_int n, value_of_seq R.Denot v, value_of_int R.Denot n) refl

  seq_bool : (v : Vec (Value R.Denot) R.Denot) (b : Bool) → Agrees (seq v) (bool b)
  seq_bool v b = laws.is R A ad dd (seq v) (bool b) ∙ rw (parts_seq v, parts_bool b, value_of_seq R.Denot v, value_of_bool R.Denot b) refl

  seq_con : (v : Vec (Value R.Denot) R.Denot) (k : ConId) (u : Vec (Value R.Denot) R.Denot) → Agrees (seq v) (con k u)
  seq_con v k u = laws.is R A ad dd (seq v) (con k u) ∙ rw (parts_seq v, parts_con k u, value_of_seq R.Denot v, value_of_con R.Denot k u) refl

  seq_seq : (v v' : Vec (Value R.Denot) R.Denot) → AreOrdered v.items → Agrees (seq v) (seq v')
  seq_seq v v' same = laws.is R A ad dd (seq v) (seq v') ∙ rw (parts_seq v, parts_seq v', value_of_seq R.Denot v, value_of_seq R.Denot v') (same v'.items)

  seq_set : (v : Vec (Value R.Denot) R.Denot) (s : SetOf R.Denot) → Agrees (seq v) (set s)
  seq_set v s = laws.is R A ad dd (seq v) (set s) ∙ rw (parts_seq v, parts_set s, value_of_seq R.Denot v, value_of_set R.Denot s) refl

  set_int : (s : SetOf R.Denot) (n : ℤ) → Agrees (set s) (int n)
  set_int s n = laws.is R A ad dd (set s) (int n) ∙ rw (parts_set s, parts_int n, value_of_set R.Denot s, value_of_int R.Denot n) refl

  set_bool : (s : SetOf R.Denot) (b : Bool) → Agrees (set s) (bool b)
  set_bool s b = laws.is R A ad dd (set s) (bool b) ∙ rw (parts_set s, parts_bool b, value_of_set R.Denot s, value_of_bool R.Denot b) refl

  set_con : (s : SetOf R.Denot) (k : ConId) (u : Vec (Value R.Denot) R.Denot) → Agrees (set s) (con k u)
  set_con s k u = laws.is R A ad dd (set s) (con k u) ∙ rw (parts_set s, parts_con k u, value_of_set R.Denot s, value_of_con R.Denot k u) refl

  set_seq : (s : SetOf R.Denot) (v : Vec (Value R.Denot) R.Denot) → Agrees (set s) (seq v)
  set_seq s v = laws.is R A ad dd (set s) (seq v) ∙ rw (parts_set s, parts_seq v, value_of_set R.Denot s, value_of_seq R.Denot v) refl

  set_set : (s s' : SetOf R.Denot) → IsOrderedSet s → Agrees (set s) (set s')
  set_set s s' same = laws.is R A ad dd (set s) (set s') ∙ rw (parts_set s, parts_set s', value_of_set R.Denot s, value_of_set R.Denot s') (same s')

  -- a value is one of its forms
  by_form : (P : Value R.Denot → Type 0) → ((n : ℤ) → P (int n)) → ((b : Bool) → P (bool b)) → ((k : ConId) (v : Vec (Value R.Denot) R.Denot) → P (con k v)) → ((v : Vec (Value R.Denot) R.Denot) → P (seq v)) → ((s : SetOf R.Denot) → P (set s)) → (a : Value R.Denot) → P a
  by_form P at_int at_bool at_con at_seq at_set a =
      let made : (v : Declared.Choice (contract.the_parts R A)) → P (contract.the_make R A v) = λ v. elim v as (λ v. P (contract.the_make R A v)) [
        | inl x ↦ at_int x.0
        | inr (inl x) ↦ at_bool x.0
        | inr (inr (inl x)) ↦ at_con x.0 x.1.0
        | inr (inr (inr (inl x))) ↦ at_seq x.0
        | inr (inr (inr (inr (inl x)))) ↦ at_set x.0
        | inr (inr (inr (inr (inr z)))) ↦ absurd z
      ] in subst P (contract.the_eta R A a) (made (contract.as_values R A a))

  at_int : (n : ℤ) → IsOrdered (int n)
  at_int n = by_form (Agrees (int n)) (int_int n) (int_bool n) (int_con n) (int_seq n) (int_set n)

  at_bool : (b : Bool) → IsOrdered (bool b)
  at_bool b = by_form (Agrees (bool b)) (bool_int b) (bool_bool b) (bool_con b) (bool_seq b) (bool_set b)

  at_con : (k : ConId) (v : Vec (Value R.Denot) R.Denot) → AreOrdered v.items → IsOrdered (con k v)
  at_con k v same = by_form (Agrees (con k v)) (con_int k v) (con_bool k v) (λ l w. con_con k l v w same) (con_seq k v) (con_set k v)

  at_seq : (v : Vec (Value R.Denot) R.Denot) → AreOrdered v.items → IsOrdered (seq v)
  at_seq v same = by_form (Agrees (seq v)) (seq_int v) (seq_bool v) (seq_con v) (λ w. seq_seq v w same) (seq_set v)

  at_set : (s : SetOf R.Denot) → IsOrderedSet s → IsOrdered (set s)
  at_set s same = by_form (Agrees (set s)) (set_int s) (set_bool s) (set_con s) (set_seq s) (λ w. set_set s w same)

  -- ---- all values together

  -- a value whose parts are ordered
  abbrev Part : Type 0
  Part = Holds.Such (block.the_family R.Denot) (claims R.Denot IsOrdered IsOrderedSet) block.member-Value

  abbrev SetPart : Type 0
  SetPart = Holds.Such (block.the_family R.Denot) (claims R.Denot IsOrdered IsOrderedSet) block.member-SetOf

  members_ordered : (ws : List Part) → AreOrdered (map (λ e. e.0) ws)
  members_ordered [] [] = refl
  members_ordered [] (y ∷ ys) = refl
  members_ordered (w ∷ ws) [] = refl
  members_ordered (w ∷ ws) (y ∷ ys) = ap₂ ordering_then (w.1 y) (members_ordered ws ys)

  abbrev Layer : Type 0
  Layer = layer.Value-F R.Denot (Value R.Denot) (SetOf R.Denot)

  abbrev IsOrderedLayer : Layer → Type 0
  IsOrderedLayer x = IsOrdered (roll-Value R.Denot x)

  step : (x : Layer) (y : layer.Value-F R.Denot Part SetPart) → map-Value R.Denot Part SetPart (Value R.Denot) (SetOf R.Denot) (λ e. e.0) (λ e. e.0) y ≡ x → IsOrderedLayer x
  step x (layer.Int n) is = subst IsOrderedLayer is (subst IsOrdered (sym (views.rolls-Int n)) (at_int n))
  step x (layer.Bool b) is = subst IsOrderedLayer is (subst IsOrdered (sym (views.rolls-Bool b)) (at_bool b))
  step x (layer.Con k v) is = subst IsOrderedLayer is (subst IsOrdered (sym (views.rolls-Con k _)) (at_con k _ (members_ordered v.items)))
  step x (layer.Seq v) is = subst IsOrderedLayer is (subst IsOrdered (sym (views.rolls-Seq _)) (at_seq _ (members_ordered v.items)))
  step x (layer.Set s) is = subst IsOrderedLayer is (subst IsOrdered (sym (views.rolls-Set s.0)) (at_set s.0 s.1))

  abbrev SetLayer : Type 0
  SetLayer = layer.SetOf-F R.Denot (Value R.Denot) (SetOf R.Denot)

  abbrev IsOrderedSetLayer : SetLayer → Type 0
  IsOrderedSetLayer x = IsOrderedSet (roll-SetOf R.Denot x)

  sets : (s t : SetOf R.Denot) → AreOrdered (out-SetOf R.Denot s).members.items → set_cmp s t ≡ pure.values_cmp (members_of s) (members_of t)
  sets s t same = set_laws.is R A ad dd s t ∙ rw (members_of_set R.Denot s, members_of_set R.Denot t) (same (out-SetOf R.Denot t).members.items)

  set_step : (x : SetLayer) (y : layer.SetOf-F R.Denot Part SetPart) → map-SetOf R.Denot Part SetPart (Value R.Denot) (SetOf R.Denot) (λ e. e.0) (λ e. e.0) y ≡ x → IsOrderedSetLayer x
  set_step x y is t =
      sets (roll-SetOf R.Denot x) t (let P : SetLayer → Type 0 = λ z. AreOrdered z.members.items in subst P (is ∙ sym (out-roll-SetOf R.Denot x)) (members_ordered y.members.items))

  pub ordered : (a : Value R.Denot) → IsOrdered a
  ordered = ind-Value R.Denot IsOrdered IsOrderedSet step set_step

  pub ordered_set : (s : SetOf R.Denot) → IsOrderedSet s
  ordered_set = ind-SetOf R.Denot IsOrdered IsOrderedSet step set_step
