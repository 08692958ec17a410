-- The texts and the sizes of values.
use Rattle.std.proofs.Common.{◌≡◌, ℕ, zero, suc, ◌<◌, ◌≤◌, List, [], ◌∷◌, ◌++◌, length, get_or, map, refl, sym, ◌∙◌, ap, append_assoc, arith}
use Rattle.std.specs.Prelude.{codes, ◌==◌, false}
use Rattle.std.specs.List.{join_with_byte}
use Rattle.std.specs.declared.vec.Vec.{Vec}
use Rattle.theory_syntax.specs.Value as pure
use Rattle.theory_semantics.specs.Meaning.Limits.{value_size, values_size}
use Rattle.theory_search.specs.Printing.{dotted_text, fields_text, name_at, value_text, values_text}
use Rattle.csp_value.specs.declared.value.Value.{Value}
use Rattle.csp_value.specs.declared.value.Value.TheVariants as views
use Rattle.csp_value.specs.declared.set.SetOf.{SetOf}
use Rattle.csp_value.specs.Value.{value_of, values_of, members_of}
use Rattle.csp_value.proofs.Forms.{value_of_seq, value_of_set, unlisted}

-- values with a comma between each two
pub joined : (names : List (List ℕ)) (v : pure.Value) (vs : List pure.Value) → values_text names (pure.to_values (v ∷ vs)) ≡ join_with_byte 44 (map (value_text names) (v ∷ vs))
joined names v [] = refl
joined names v (w ∷ ws) = ap (λ (ts : List ℕ). value_text names v ++ (44 ∷ ts)) (joined names w ws)

-- values with a point before each
dotted : (names : List (List ℕ)) (vs : List pure.Value) → dotted_text names (pure.to_values vs) ≡ fields_text names vs
dotted names [] = refl
dotted names (v ∷ vs) = ap (λ ts. codes "." ++ (value_text names v ++ ts)) (dotted names vs)

-- a constructor that has fields
pub with_fields : {A : Type 0} (names : List (List ℕ)) (k : ℕ) (fields : List (Value A)) → (length fields == 0) ≡ false →
    value_text names (pure.Constructor k (pure.to_values (values_of fields))) ≡ codes "(" ++ (name_at names k ++ (fields_text names (values_of fields) ++ codes ")"))
with_fields names k [] some = absurd (cc some)
with_fields names k (v ∷ vs) some = ap (λ ts. codes "(" ++ (name_at names k ++ (ts ++ codes ")"))) (dotted names (values_of (v ∷ vs)))

-- the members of a sequence or a set, as they are read
pub of_sequence : {A : Type 0} (v : Value A) (vs : Vec (Value A) A) (read : List (Value A)) → v ≡ views.Seq vs → read ≡ vs.items → value_of v ≡ pure.Sequence (pure.to_values (values_of read))
of_sequence {A} v vs read is same = ap value_of is ∙ value_of_seq A vs ∙ ap (λ ws. pure.Sequence (pure.to_values (values_of ws))) (sym same)

pub of_set : {A : Type 0} (v : Value A) (s : SetOf A) (read : List (Value A)) → v ≡ views.Set s → values_of read ≡ pure.values_list (members_of s) → value_of v ≡ pure.Set (pure.to_values (values_of read))
of_set {A} v s read is same = ap value_of is ∙ value_of_set A s ∙ ap pure.Set (sym (ap pure.to_values same ∙ unlisted (members_of s)))

-- a member is no larger than all of them
pub member_size : {A : Type 0} (values : List (Value A)) (i : ℕ) (v : Value A) → i < length values → v ≡ get_or values i v → value_size (value_of v) ≤ values_size (pure.to_values (values_of values))
member_size [] i v within read = absurd (omega (arith, within))
member_size (w ∷ ws) zero v within read =
    let e : value_size (value_of v) ≡ value_size (value_of w) = ap (λ u. value_size (value_of u)) read in
    omega (arith, e)
member_size (w ∷ ws) (suc i) v within read =
    let h : suc i < suc (length ws) = within in
    let rest = member_size ws i v (omega (arith, h)) read in
    omega (arith, rest)
