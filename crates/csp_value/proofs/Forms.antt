-- What a value stands for, by its form.
use Rattle.std.proofs.Common.{◌≡◌, refl, sym, ◌∙◌, ap, ℤ, Bool, List, [], ◌∷◌}
use Rattle.std.specs.declared.vec.Vec.{Vec}
use Rattle.theory_syntax.specs.Value as pure
use Rattle.csp_value.specs.declared.name.ConId.{ConId}
use Rattle.csp_value.specs.declared.value.Value.{Value}
use Rattle.csp_value.specs.declared.set.SetOf.{SetOf, out-SetOf, roll-SetOf}
use Rattle.csp_value.specs.declared.value.Value.TheFolds.{fold-roll-Value, fold-roll-SetOf, fold_out-SetOf}
use Rattle.csp_value.specs.declared.value.Value.TheVariants as views
use Rattle.csp_value.specs.declared.value.Value.TheOpen as layer
use Rattle.csp_value.specs.Value.{value_of, values_of, members_of, value_step, members_step}

-- a list of values is the list of the values of itself
pub listed : (vs : List pure.Value) → pure.values_list (pure.to_values vs) ≡ vs
listed [] = refl
listed (v ∷ vs) = ap (λ ws. v ∷ ws) (listed vs)

-- and the other way round
pub unlisted : (vs : pure.Values) → pure.to_values (pure.values_list vs) ≡ vs
unlisted pure.no_values = refl
unlisted (pure.value_and v vs) = ap (pure.value_and v) (unlisted vs)

module _ (A : Type 0) where
  pub value_of_int : (n : ℤ) → value_of {A = A} (views.Int n) ≡ pure.Integer n
  value_of_int n = ap (value_of {A = A}) (sym (views.rolls-Int n)) ∙ fold-roll-Value A pure.Value pure.Values value_step members_step (layer.Int n)

  pub value_of_bool : (b : Bool) → value_of {A = A} (views.Bool b) ≡ pure.Truth b
  value_of_bool b = ap (value_of {A = A}) (sym (views.rolls-Bool b)) ∙ fold-roll-Value A pure.Value pure.Values value_step members_step (layer.Bool b)

  pub value_of_con : (k : ConId) (vs : Vec (Value A) A) → value_of {A = A} (views.Con k vs) ≡ pure.Constructor k.0 (pure.to_values (values_of vs.items))
  value_of_con k vs = ap (value_of {A = A}) (sym (views.rolls-Con k vs)) ∙ fold-roll-Value A pure.Value pure.Values value_step members_step (layer.Con k vs)

  pub value_of_seq : (vs : Vec (Value A) A) → value_of {A = A} (views.Seq vs) ≡ pure.Sequence (pure.to_values (values_of vs.items))
  value_of_seq vs = ap (value_of {A = A}) (sym (views.rolls-Seq vs)) ∙ fold-roll-Value A pure.Value pure.Values value_step members_step (layer.Seq vs)

  pub value_of_set : (s : SetOf A) → value_of {A = A} (views.Set s) ≡ pure.Set (members_of s)
  value_of_set s = ap (value_of {A = A}) (sym (views.rolls-Set s)) ∙ fold-roll-Value A pure.Value pure.Values value_step members_step (layer.Set s)

  pub members_of_set : (s : SetOf A) → members_of s ≡ pure.to_values (values_of (out-SetOf A s).members.items)
  members_of_set s = fold_out-SetOf A pure.Value pure.Values value_step members_step s

  -- the members of a set as a list
  pub members_listed : (s : SetOf A) → pure.values_list (members_of s) ≡ values_of (out-SetOf A s).members.items
  members_listed s = ap pure.values_list (members_of_set s) ∙ listed (values_of (out-SetOf A s).members.items)

  -- the members of a set that is made of a list
  pub members_of_made : (v : Vec (Value A) A) → members_of (roll-SetOf A (record { members = v })) ≡ pure.to_values (values_of v.items)
  members_of_made v = fold-roll-SetOf A pure.Value pure.Values value_step members_step (record { members = v })
