-- What operators make of sequences and sets, in the words of the code.
use Rattle.std.proofs.Common.{◌≡◌, ℕ, zero, suc, nat_eq, nat_le, Bool, true, false, List, [], ◌∷◌, ◌++◌, length, map, slice_get, None, pos, Ok, Err, refl, sym, ◌∙◌, ap, ap₂, arith}
use Rattle.std.proofs.lemmas.Bool.{eqb-true}
use Rattle.std.proofs.lemmas.List.{map-append, length-map}
use Rattle.std.specs.List.{remove}
use Rattle.std.specs.declared.vec.Vec.{Vec}
use Rattle.theory_syntax.specs.Value as pure
use Rattle.theory_syntax.specs.Expression as operator
use Rattle.theory_semantics.specs.Meaning.Evaluation.{Overflow, apply, combine, integer, is_empty, max_members, sequence, set_of, tail_of}
use Rattle.csp_value.specs.declared.value.Value.{Value}
use Rattle.csp_value.specs.declared.value.Value.TheVariants as views
use Rattle.csp_value.specs.declared.set.SetOf.{SetOf}
use Rattle.csp_value.specs.Value.{members_of, value_of, values_of}
use Rattle.csp_value.proofs.Forms.{listed, value_of_seq, value_of_set, unlisted}

-- a value that is this sequence, or this set
pub seq_is : {A : Type 0} (v : Value A) (items : Vec (Value A) A) → v ≡ views.Seq items → value_of v ≡ pure.Sequence (pure.to_values (values_of items.items))
seq_is {A} v items is = ap value_of is ∙ value_of_seq A items

pub set_is : {A : Type 0} (v : Value A) (s : SetOf A) → v ≡ views.Set s → value_of v ≡ pure.Set (members_of s)
set_is {A} v s is = ap value_of is ∙ value_of_set A s

-- as many values as things that stand for them
pub as_many : {A : Type 0} (items : List (Value A)) (vs : List pure.Value) → values_of items ≡ vs → length vs ≡ length items
as_many items vs same = ap length (sym same) ∙ length-map items value_of

-- ---- limits

pub set_few : (vs : pure.Values) → nat_le (length (pure.values_list vs)) max_members ≡ true → set_of (pure.values_list vs) ≡ Ok (pure.Set vs)
set_few vs few = rw few (ap (λ ws. Ok (pure.Set ws)) (unlisted vs))

pub set_many : (vs : List pure.Value) → nat_le (length vs) max_members ≡ false → set_of vs ≡ Err Overflow
set_many vs many = rw many refl

-- ---- sequences

pub length_is : {A : Type 0} (v : Value A) (items : Vec (Value A) A) (n : ℕ) → v ≡ views.Seq items → n ≡ length items.items → integer (pos n) ≡ apply operator.Length (value_of v)
length_is v items n is counted =
    ap (λ m. integer (pos m)) (counted ∙ sym (as_many items.items (values_of items.items) refl) ∙ ap length (sym (listed (values_of items.items)))) ∙ sym (ap (apply operator.Length) (seq_is v items is))

zero_below : (n : ℕ) → suc n ≡ 0 → ⊥
zero_below n e = omega arith

not_zero : (n : ℕ) → false ≡ nat_eq (suc n) 0
not_zero n = by_test (nat_eq (suc n) 0) refl
  where
    by_test : (b : Bool) → nat_eq (suc n) 0 ≡ b → false ≡ b
    by_test false e = refl
    by_test true e = let zero_is : suc n ≡ 0 = eqb-true (suc n) 0 e in absurd (zero_below n zero_is)

null_list : {A : Type 0} (xs : List (Value A)) → is_empty (pure.values_list (pure.to_values (values_of xs))) ≡ nat_eq (length xs) 0
null_list [] = refl
null_list (x ∷ xs) = not_zero (length xs)

pub null_is : {A : Type 0} (v : Value A) (items : Vec (Value A) A) (b : Bool) → v ≡ views.Seq items → b ≡ nat_eq (length items.items) 0 → apply operator.IsNull (value_of v) ≡ Ok (pure.Truth b)
null_is v items b is tested = ap (apply operator.IsNull) (seq_is v items is) ∙ ap (λ c. Ok (pure.Truth c)) (null_list items.items ∙ sym tested)

tail_list : {A : Type 0} (xs : List (Value A)) → nat_eq (length xs) 0 ≡ false → tail_of (pure.values_list (pure.to_values (values_of xs))) ≡ Ok (pure.Sequence (pure.to_values (values_of (remove xs 0))))
tail_list [] e = absurd (cc e)
tail_list (x ∷ xs) e = ap (λ vs. Ok (pure.Sequence (pure.to_values vs))) (listed (values_of xs))

pub tail_is : {A : Type 0} (v : Value A) (items rest : Vec (Value A) A) → v ≡ views.Seq items → nat_eq (length items.items) 0 ≡ false → rest.items ≡ remove items.items 0 → apply operator.Tail (value_of v) ≡ Ok (value_of {A = A} (views.Seq rest))
tail_is {A} v items rest is some removed =
    ap (apply operator.Tail) (seq_is v items is) ∙ tail_list items.items some ∙ ap (λ xs. Ok (pure.Sequence (pure.to_values (values_of xs)))) (sym removed) ∙ ap Ok (sym (value_of_seq A rest))

pub concat_is : {A : Type 0} (l r : Value A) (xs ys both : Vec (Value A) A) → l ≡ views.Seq xs → r ≡ views.Seq ys → both.items ≡ xs.items ++ ys.items → sequence (values_of both.items) ≡ combine operator.Concatenate (value_of l) (value_of r)
concat_is l r xs ys both left right joined =
    ap sequence (ap values_of joined ∙ map-append value_of xs.items ys.items ∙ sym (ap₂ ◌++◌ (listed (values_of xs.items)) (listed (values_of ys.items))))
    ∙ sym (ap₂ (combine operator.Concatenate) (seq_is l xs left) (seq_is r ys right))

-- ---- sets

pub sets_are : {A : Type 0} (op : operator.Binary) (l r : Value A) (s t : SetOf A) → l ≡ views.Set s → r ≡ views.Set t → combine op (value_of l) (value_of r) ≡ combine op (pure.Set (members_of s)) (pure.Set (members_of t))
sets_are op l r s t left right = ap₂ (combine op) (set_is l s left) (set_is r t right)

pub card_is : {A : Type 0} (v : Value A) (s : SetOf A) (n : ℕ) → v ≡ views.Set s → n ≡ length (pure.values_list (members_of s)) → integer (pos n) ≡ apply operator.Card (value_of v)
card_is v s n is counted = ap (λ m. integer (pos m)) counted ∙ sym (ap (apply operator.Card) (set_is v s is))

-- the set of what a list has
pub set_listed : (ms : pure.Values) (vs : List pure.Value) → ms ≡ pure.to_values vs → set_of (pure.values_list ms) ≡ set_of vs
set_listed ms vs is = ap set_of (ap pure.values_list is ∙ listed vs)

-- ---- tables

pub get_none : {X Y : Type 0} (f : X → Y) (xs : List X) (i : ℕ) → slice_get xs i ≡ None → slice_get (map f xs) i ≡ None
get_none f [] i at = refl
get_none f (y ∷ ys) zero at = absurd (cc at)
get_none f (y ∷ ys) (suc i) at = get_none f ys i at
