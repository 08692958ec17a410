-- The orders tell different values and events apart.
use Rattle.std.proofs.Common.{◌≡◌, Bool, true, false, List, [], ◌∷◌, refl, sym, ap, ap₂}
use Rattle.std.specs.declared.cmp.Ordering.{Ordering}
use Rattle.std.specs.declared.cmp.Ordering.TheVariants.{Less, Equal, Greater}
use Rattle.std.specs.Ordering.{is_eq, is_lt, nat_cmp, bool_cmp, ordering_then, ordering_reverse}
use Rattle.std.specs.FinMap.{nat_cmp-IsAntisymmetric, int_cmp-IsAntisymmetric, slice_cmp-IsAntisymmetric}
use Rattle.std.specs.Cmp.{nat_cmp_is, int_cmp_is}
use Rattle.std.specs.Cmp.Lexicographic.{slice_cmp}
use Rattle.theory_syntax.specs.Value.{Value, Integer, Truth, Constructor, Sequence, Set, Values, no_values, value_and, value_cmp, values_cmp, Event, event_cmp, event_eq}

-- two orders in turn that tie tie both
pub then_first : (r s : Ordering) → ordering_then r s ≡ Equal → r ≡ Equal
then_first Less s e = e
then_first Equal s e = refl
then_first Greater s e = e

pub then_second : (r s : Ordering) → ordering_then r s ≡ Equal → s ≡ Equal
then_second Less s e = absurd (let f : Less ≡ Equal = e in cc)
then_second Equal s e = e
then_second Greater s e = absurd (let f : Greater ≡ Equal = e in cc)

pub is_eq-Equal : (r : Ordering) → is_eq r ≡ true → r ≡ Equal
is_eq-Equal Less e = absurd (cc e)
is_eq-Equal Equal e = refl
is_eq-Equal Greater e = absurd (cc e)

pub is_lt-Less : (r : Ordering) → is_lt r ≡ true → r ≡ Less
is_lt-Less Less e = refl
is_lt-Less Equal e = absurd (cc e)
is_lt-Less Greater e = absurd (cc e)

-- an order turned around ties where it does
pub is_eq-reverse : (r : Ordering) → is_eq (ordering_reverse r) ≡ is_eq r
is_eq-reverse Less = refl
is_eq-reverse Equal = refl
is_eq-reverse Greater = refl

bool_same : (a b : Bool) → bool_cmp a b ≡ Equal → a ≡ b
bool_same false false e = refl
bool_same false true e = absurd (cc e)
bool_same true false e = absurd (cc e)
bool_same true true e = refl

mutual
  pub value_same : (v w : Value) → value_cmp v w ≡ Equal → v ≡ w
  value_same (Integer m) (Integer n) e = ap Integer (int_cmp-IsAntisymmetric m n e)
  value_same (Truth a) (Truth b) e = ap Truth (bool_same a b e)
  value_same (Constructor m vs) (Constructor n ws) e =
      ap₂ Constructor (nat_cmp-IsAntisymmetric m n (then_first (nat_cmp m n) (values_cmp vs ws) e)) (values_same vs ws (then_second (nat_cmp m n) (values_cmp vs ws) e))
  value_same (Sequence vs) (Sequence ws) e = ap Sequence (values_same vs ws e)
  value_same (Set vs) (Set ws) e = ap Set (values_same vs ws e)
  value_same _ _ e = absurd (cc e)

  pub values_same : (vs ws : Values) → values_cmp vs ws ≡ Equal → vs ≡ ws
  values_same no_values no_values e = refl
  values_same no_values (value_and w ws) e = absurd (cc e)
  values_same (value_and v vs) no_values e = absurd (cc e)
  values_same (value_and v vs) (value_and w ws) e = ap₂ value_and (value_same v w (then_first (value_cmp v w) (values_cmp vs ws) e)) (values_same vs ws (then_second (value_cmp v w) (values_cmp vs ws) e))

bool_refl : (b : Bool) → bool_cmp b b ≡ Equal
bool_refl true = refl
bool_refl false = refl

mutual
  pub value_refl : (v : Value) → value_cmp v v ≡ Equal
  value_refl (Integer m) = sym (int_cmp_is m m Equal refl)
  value_refl (Truth b) = bool_refl b
  value_refl (Constructor k vs) = ap₂ ordering_then (sym (nat_cmp_is k k Equal refl)) (values_refl vs)
  value_refl (Sequence vs) = values_refl vs
  value_refl (Set vs) = values_refl vs

  pub values_refl : (vs : Values) → values_cmp vs vs ≡ Equal
  values_refl no_values = refl
  values_refl (value_and v vs) = ap₂ ordering_then (value_refl v) (values_refl vs)

pub fields_refl : (vs : List Value) → slice_cmp value_cmp vs vs ≡ Equal
fields_refl [] = refl
fields_refl (v ∷ vs) = ap₂ ordering_then (value_refl v) (fields_refl vs)

pub event_same : (e f : Event) → event_eq e f ≡ true → e ≡ f
event_same e f same =
    let both = is_eq-Equal (event_cmp e f) same in
    let c = nat_cmp-IsAntisymmetric e.channel f.channel (then_first (nat_cmp e.channel f.channel) (slice_cmp value_cmp e.fields f.fields) both) in
    let v = slice_cmp-IsAntisymmetric value_same e.fields f.fields (then_second (nat_cmp e.channel f.channel) (slice_cmp value_cmp e.fields f.fields) both) in
    λ i. record { channel = c i; fields = v i }

pub event_refl : (e : Event) → event_eq e e ≡ true
event_refl e = ap is_eq (ap₂ ordering_then (sym (nat_cmp_is e.channel e.channel Equal refl)) (fields_refl e.fields))
