-- The values of expressions one after the other.
use denote.Param.Weighed.{most}
use Rattle.std.proofs.Common.{◌≡◌, ℕ, ◌+◌, ◌<◌, List, [], ◌∷◌, ◌++◌, length, take, drop, get_or, Result, Ok, Err, refl, sym, ◌∙◌, ap, max, arith}
use Rattle.std.proofs.lemmas.List.{take_more, drop_more, take-append-drop, map-append}
use Rattle.std.specs.declared.vec.Vec.{Vec}
use Rattle.theory_syntax.specs.Value as pure
use Rattle.theory_syntax.specs.Expression.{Expression, ConstructorOf, SequenceOf, SetOf, to_expressions}
use Rattle.theory_syntax.specs.Types.{Types}
use Rattle.theory_semantics.specs.Meaning.Evaluation.{Cause, ◌and_then◌, in_field_set, sequence, set_of, value, values}
use Rattle.csp_value.specs.declared.name.ConId.{ConId}
use Rattle.csp_value.specs.declared.value.Value.{Value}
use Rattle.csp_value.specs.Value.{value_of, values_of}
use Rattle.csp_expression.specs.declared.expr.Expr.{Expr, size-Expr}
use Rattle.csp_expression.specs.declared.expr.Expr.TheViews.{sized-Constructor}
use Rattle.csp_expression.specs.declared.expr.Expr.TheVariants as views
use Rattle.csp_expression.specs.declared.no_value.NoValue.{NoValue}
use Rattle.csp_expression.specs.declared.no_value.NoValue.TheVariants as variant
use Rattle.csp_expression.specs.Evaluation.{GivesAll, Sees}
use Rattle.theory_semantics.specs.Meaning.Substitution.{Bindings, put_expression}
use Rattle.csp_expression.specs.Bindings.{puts}
use Rattle.csp_expression.specs.Expression.{expression_of}
use Rattle.csp_expression.specs.Agreement.{AgreesWith}
use Rattle.csp_expression.specs.Cause.{cause_of}
use Rattle.csp_expression.specs.Given.{given}
use Rattle.csp_expression.proofs.ExpressionForms.{of_constructor, of_sequence, of_set}
use Rattle.csp_expression.proofs.ExpressionPutting.{put_list}

-- the values of two lists are those of the first, then those of the second
pub values_append : (types : Types) (es fs : List Expression) → values types (to_expressions (es ++ fs)) ≡ (values types (to_expressions es) and_then λ vs. values types (to_expressions fs) and_then λ ws. Ok (vs ++ ws))
values_append types [] fs = alone (values types (to_expressions fs))
  where
    alone : (r : Result (List pure.Value) Cause) → r ≡ (r and_then λ ws. Ok ws)
    alone (Ok ws) = refl
    alone (Err c) = refl
values_append types (d ∷ ds) fs = by_first (value types d) (values_append types ds fs)
  where
    by_last : (v : pure.Value) (vs : List pure.Value) (r : Result (List pure.Value) Cause) → ((r and_then λ ws. Ok (vs ++ ws)) and_then λ us. Ok (v ∷ us)) ≡ (r and_then λ ws. Ok (v ∷ (vs ++ ws)))
    by_last v vs (Ok ws) = refl
    by_last v vs (Err c) = refl

    by_rest : (v : pure.Value) (r : Result (List pure.Value) Cause) →
        ((r and_then λ vs. values types (to_expressions fs) and_then λ ws. Ok (vs ++ ws)) and_then λ us. Ok (v ∷ us)) ≡ ((r and_then λ vs. Ok (v ∷ vs)) and_then λ vs. values types (to_expressions fs) and_then λ ws. Ok (vs ++ ws))
    by_rest v (Ok vs) = by_last v vs (values types (to_expressions fs))
    by_rest v (Err c) = refl

    by_first : (r : Result pure.Value Cause) → values types (to_expressions (ds ++ fs)) ≡ (values types (to_expressions ds) and_then λ vs. values types (to_expressions fs) and_then λ ws. Ok (vs ++ ws)) →
        (r and_then λ v. values types (to_expressions (ds ++ fs)) and_then λ us. Ok (v ∷ us)) ≡ ((r and_then λ v. values types (to_expressions ds) and_then λ vs. Ok (v ∷ vs)) and_then λ vs. values types (to_expressions fs) and_then λ ws. Ok (vs ++ ws))
    by_first (Ok v) rest = ap (λ r. r and_then λ us. Ok (v ∷ us)) rest ∙ by_rest v (values types (to_expressions ds))
    by_first (Err c) rest = refl

-- one more value
pub value_more : (types : Types) (es : List Expression) (e : Expression) (vs : List pure.Value) (v : pure.Value) → values types (to_expressions es) ≡ Ok vs → value types e ≡ Ok v → values types (to_expressions (es ++ e ∷ [])) ≡ Ok (vs ++ v ∷ [])
value_more types es e vs v so_far one =
    values_append types es (e ∷ []) ∙ ap (λ r. r and_then λ us. values types (to_expressions (e ∷ [])) and_then λ ws. Ok (us ++ ws)) so_far ∙ ap (λ r. (r and_then λ w. Ok (w ∷ [])) and_then λ ws. Ok (vs ++ ws)) one

-- the first cause
pub value_stops : (types : Types) (es fs : List Expression) (e : Expression) (vs : List pure.Value) (c : Cause) → values types (to_expressions es) ≡ Ok vs → value types e ≡ Err c → values types (to_expressions (es ++ e ∷ fs)) ≡ Err c
value_stops types es fs e vs c so_far one =
    values_append types es (e ∷ fs) ∙ ap (λ r. r and_then λ us. values types (to_expressions (e ∷ fs)) and_then λ ws. Ok (us ++ ws)) so_far
    ∙ ap (λ r. (r and_then λ w. values types (to_expressions fs) and_then λ ws. Ok (w ∷ ws)) and_then λ ws. Ok (vs ++ ws)) one

module _ {A : Type 0} (types : Types) (bs : Bindings) (items : List (Expr A)) (i : ℕ) (all : List (Value A)) (item : Expr A) where
  -- the values of the first i items are these
  abbrev Found : Type 0
  Found = values types (to_expressions (puts bs (take i items))) ≡ Ok (values_of all)

  -- the item's value is the next
  pub found_more : (x : Value A) (more : List (Value A)) → Found → i < length items → item ≡ get_or items i item → value types (put_expression bs (expression_of item)) ≡ Ok (value_of x) → more ≡ all ++ x ∷ [] →
      values types (to_expressions (puts bs (take (i + 1) items))) ≡ Ok (values_of more)
  found_more x more so_far within read one pushed =
      let longer = take_more items i item within ∙ ap (λ z. take i items ++ z ∷ []) (sym read) in
      ap (λ es. values types (to_expressions (puts bs es))) longer ∙ ap (λ es. values types (to_expressions es)) (map-append (λ e. put_expression bs (expression_of e)) (take i items) (item ∷ []))
      ∙ value_more types (puts bs (take i items)) (put_expression bs (expression_of item)) (values_of all) (value_of x) so_far one ∙ ap Ok (sym (map-append value_of all (x ∷ [])) ∙ ap values_of (sym pushed))

  -- the item has no value
  pub found_none : (fault : NoValue) → Found → i < length items → item ≡ get_or items i item → Sees {A = A} (Err fault) (value types (put_expression bs (expression_of item))) → GivesAll {A = A} (Err fault) (values types (to_expressions (puts bs items)))
  found_none variant.Memory so_far within read none = tt
  found_none (variant.Cause c) so_far within read none =
      let rest = drop_more items i item within ∙ ap (λ z. z ∷ drop (i + 1) items) (sym read) in
      let whole = sym (take-append-drop i items) ∙ ap (λ zs. take i items ++ zs) rest in
      ap (λ es. values types (to_expressions (puts bs es))) whole ∙ ap (λ es. values types (to_expressions es)) (map-append (λ e. put_expression bs (expression_of e)) (take i items) (item ∷ drop (i + 1) items))
      ∙ value_stops types (puts bs (take i items)) (puts bs (drop (i + 1) items)) (put_expression bs (expression_of item)) (values_of all) (cause_of c) so_far none

-- the same, where it is not yet known which item is next
abbrev pub FoundSoFar : {A : Type 0} → Types → Bindings → List (Expr A) → ℕ → List (Value A) → Type 0
FoundSoFar types bs items i all = values types (to_expressions (puts bs (take i items))) ≡ Ok (values_of all)

-- a sequence or a set has the values of its parts
pub value_of_sequence : {A : Type 0} (types : Types) (bs : Bindings) (self : Expr A) (items : Vec (Expr A) A) (read : List (Expr A)) → self ≡ views.Sequence items → read ≡ items.items →
    value types (put_expression bs (expression_of self)) ≡ (values types (to_expressions (puts bs read)) and_then λ vs. sequence vs)
value_of_sequence {A} types bs self items read is same =
    ap (λ e. value types (put_expression bs e)) (ap expression_of is ∙ of_sequence A items) ∙ ap (λ es. value types (SequenceOf es)) (sym (put_list bs items.items)) ∙ ap (λ es. value types (SequenceOf (to_expressions (puts bs es)))) (sym same)

pub value_of_set_form : {A : Type 0} (types : Types) (bs : Bindings) (self : Expr A) (members : Vec (Expr A) A) (read : List (Expr A)) → self ≡ views.Set members → read ≡ members.items →
    value types (put_expression bs (expression_of self)) ≡ (values types (to_expressions (puts bs read)) and_then λ vs. set_of (pure.sorted_values vs))
value_of_set_form {A} types bs self members read is same =
    ap (λ e. value types (put_expression bs e)) (ap expression_of is ∙ of_set A members) ∙ ap (λ es. value types (SetOf es)) (sym (put_list bs members.items)) ∙ ap (λ es. value types (SetOf (to_expressions (puts bs es)))) (sym same)

pub value_of_constructor : {A : Type 0} (types : Types) (bs : Bindings) (self : Expr A) (k : ConId) (fields : Vec (Expr A) A) (read : List (Expr A)) → self ≡ views.Constructor k fields → read ≡ fields.items →
    value types (put_expression bs (expression_of self)) ≡ value types (ConstructorOf k.0 (to_expressions (puts bs read)))
value_of_constructor {A} types bs self k fields read is same =
    ap (λ e. value types (put_expression bs e)) (ap expression_of is ∙ of_constructor A k fields) ∙ ap (λ es. value types (ConstructorOf k.0 es)) (sym (put_list bs fields.items)) ∙ ap (λ es. value types (ConstructorOf k.0 (to_expressions (puts bs es)))) (sym same)

-- what has no value has none behind it either
pub none_behind : {X Y V W : Type 0} (one : V → X) (several : W → Y) (why : NoValue) (r : Result X Cause) (f : X → Result Y Cause) → AgreesWith one (Err why) r → AgreesWith several (Err why) (r and_then f)
none_behind one several (variant.Cause c) r f none = ap (λ s. s and_then f) none
none_behind one several variant.Memory r f none = tt

-- the set of a given field decides on its value
pub given_found : (types : Types) (e : Expression) (set : List pure.Value) (v : pure.Value) → value types e ≡ Ok v → given types e set ≡ in_field_set set v
given_found types e set v is = ap (λ r. r and_then λ w. in_field_set set w) is

-- the fields of a constructor are smaller than it
pub fields_smaller : (A : Type 0) (self : Expr A) (k : ConId) (fields : Vec (Expr A) A) (read : List (Expr A)) → self ≡ views.Constructor k fields → read ≡ fields.items → most (size-Expr A) read < size-Expr A self
fields_smaller A self k fields read is same =
    let whole : size-Expr A self ≡ max 0 (max (most (size-Expr A) fields.items) 0) + 1 = ap (size-Expr A) is ∙ sized-Constructor A k fields in
    let part : most (size-Expr A) read ≡ most (size-Expr A) fields.items = ap (most (size-Expr A)) same in
    omega (arith, whole, part)
