-- The chain of instances, one more at a time.
use Rattle.std.proofs.Common.{◌≡◌, ℕ, ◌+◌, ◌<◌, List, [], ◌∷◌, ◌++◌, map, take, length, get_or, Ok, refl, sym, ◌∙◌, ap}
use Rattle.std.proofs.lemmas.List.{map-append, take_more}
use Rattle.theory_syntax.specs.Value as pure
use Rattle.theory_syntax.specs.Expression.{Expression}
use Rattle.theory_syntax.specs.Process.{Process}
use Rattle.theory_syntax.specs.Types.{Types}
use Rattle.theory_semantics.specs.Meaning.Chains.{left_grouped}
use Rattle.theory_semantics.specs.Meaning.Evaluation.{◌and_then◌, value}
use Rattle.theory_semantics.specs.Meaning.Events.{elements, instances, members_of}
use Rattle.theory_semantics.specs.Meaning.Substitution.{put}
use Rattle.csp_value.specs.declared.value.Value.{Value}
use Rattle.csp_value.specs.declared.set.SetOf.{SetOf}
use Rattle.csp_value.specs.declared.value.Value.TheVariants as views
use Rattle.csp_value.specs.Value.{members_of as set_members, value_of, values_of}
use Rattle.csp_expression.proofs.Forming.{set_is}

-- the instance for a value
abbrev pub instance_of : {A : Type 0} → ℕ → Process → Value A → Process
instance_of n p v = put ((n, value_of v) ∷ []) p

pub instances_are : {A : Type 0} (n : ℕ) (p : Process) (vs : List (Value A)) → instances n p (values_of vs) ≡ map (instance_of n p) vs
instances_are n p [] = refl
instances_are n p (v ∷ vs) = ap (λ qs. instance_of n p v ∷ qs) (instances_are n p vs)

grouped_more : (op : Process → Process → Process) (p : Process) (qs : List Process) (q : Process) → left_grouped op p (qs ++ q ∷ []) ≡ op (left_grouped op p qs) q
grouped_more op p [] q = refl
grouped_more op p (r ∷ qs) q = grouped_more op (op p r) qs q

-- the chain with one more instance
pub chain_more : {A : Type 0} (op : Process → Process → Process) (n : ℕ) (p : Process) (first : Process) (items : List (Value A)) (i : ℕ) (item : Value A) → i < length items → item ≡ get_or items i item →
    left_grouped op first (map (instance_of n p) (take (i + 1) items)) ≡ op (left_grouped op first (map (instance_of n p) (take i items))) (instance_of n p item)
chain_more op n p first items i item within read =
    ap (left_grouped op first)
    (ap (map (instance_of n p)) (take_more items i item within ∙ ap (λ z. take i items ++ z ∷ []) (sym read)) ∙ map-append (instance_of n p) (take i items) (item ∷ []))
    ∙ grouped_more op first (map (instance_of n p) (take i items)) (instance_of n p item)

-- the elements of a set that is seen
pub seen_elements : {A : Type 0} (types : Types) (e : Expression) (v : Value A) (set : SetOf A) (vs : List (Value A)) → value types e ≡ Ok (value_of v) → v ≡ views.Set set → values_of vs ≡ pure.values_list (set_members set) →
    elements types e ≡ Ok (values_of vs)
seen_elements types e v set vs seen is listed = ap (λ r. r and_then λ w. members_of w) seen ∙ ap members_of (set_is v set is) ∙ ap Ok (sym listed)
