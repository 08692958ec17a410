-- The parts of an expression that has no list too long, and the spelling of its lists.
use Rattle.theory_semantics.specs.Meaning.Limits.{expression_size, expressions_size}
use Rattle.std.proofs.Common.{◌≡◌, ◌<◌, ◌≤◌, ◌^◌, ◌+◌, zero, suc, map, get_or, arith, ℕ, List, [], ◌∷◌, ◌++◌, length, ap, sym, subst, ◌∙◌}
use Rattle.std.specs.List.{AllByRecursion}
use Rattle.theory_syntax.specs.Expression.{Expression, ConstructorOf, SequenceOf, SetOf, to_expressions}
use Rattle.theory_spelling.specs.Spelling.{list_spelling, number_spelling, expression_spelling, event_spelling}
use Rattle.theory_spelling.specs.Spellable.{IsShort}
use Rattle.theory_spelling.specs.Packable.{IsPackableExpression, ArePackableExpressions, ArePackableArguments, IsPackableList}
use Rattle.theory_spelling.specs.Ranges.{IsInRangeExpression, AreInRangeExpressions}
use Rattle.theory_spelling.proofs.Taking.{expressions_listed, arguments}

packable_each : (es : List Expression) → ArePackableExpressions (to_expressions es) → AllByRecursion IsPackableExpression es
packable_each [] fits = tt
packable_each (e ∷ es) fits = (fits.0, packable_each es fits.1)

pub packable_arguments : (es : List Expression) → ArePackableArguments (to_expressions es) → IsPackableList IsPackableExpression es
packable_arguments es fits = (subst IsShort (expressions_listed es) fits.0, packable_each es fits.1)

pub packable_sequence : (e : Expression) (es : List Expression) → e ≡ SequenceOf (to_expressions es) → IsPackableExpression e → IsPackableList IsPackableExpression es
packable_sequence e es is fits = let told : IsPackableExpression (SequenceOf (to_expressions es)) = subst IsPackableExpression is fits in packable_arguments es told

pub packable_set : (e : Expression) (es : List Expression) → e ≡ SetOf (to_expressions es) → IsPackableExpression e → IsPackableList IsPackableExpression es
packable_set e es is fits = let told : IsPackableExpression (SetOf (to_expressions es)) = subst IsPackableExpression is fits in packable_arguments es told

pub packable_fields : (e : Expression) (k : ℕ) (es : List Expression) → e ≡ ConstructorOf k (to_expressions es) → IsPackableExpression e → IsPackableList IsPackableExpression es
packable_fields e k es is fits = let told : IsPackableExpression (ConstructorOf k (to_expressions es)) = subst IsPackableExpression is fits in packable_arguments es told

pub spelled_sequence : (e : Expression) (es : List Expression) → e ≡ SequenceOf (to_expressions es) → expression_spelling e ≡ 0x4b ∷ list_spelling expression_spelling es
spelled_sequence e es is = ap expression_spelling is ∙ ap (λ (bytes : List ℕ). 0x4b ∷ bytes) (arguments es)

pub spelled_set : (e : Expression) (es : List Expression) → e ≡ SetOf (to_expressions es) → expression_spelling e ≡ 0x4c ∷ list_spelling expression_spelling es
spelled_set e es is = ap expression_spelling is ∙ ap (λ (bytes : List ℕ). 0x4c ∷ bytes) (arguments es)

pub spelled_constructor : (e : Expression) (k : ℕ) (es : List Expression) → e ≡ ConstructorOf k (to_expressions es) → expression_spelling e ≡ 0x51 ∷ (number_spelling k ++ list_spelling expression_spelling es)
spelled_constructor e k es is = ap expression_spelling is ∙ ap (λ (bytes : List ℕ). 0x51 ∷ (number_spelling k ++ bytes)) (arguments es)

-- an event: its channel, then its fields
pub spelled_event : (c : ℕ) (es : List Expression) → event_spelling (record { channel = c; fields = to_expressions es }) ≡ number_spelling c ++ list_spelling expression_spelling es
spelled_event c es = ap (λ (bytes : List ℕ). number_spelling c ++ bytes) (arguments es)

-- ---- numbers in range

pub ranged_each : (es : List Expression) → AllByRecursion IsInRangeExpression es → AreInRangeExpressions (to_expressions es)
ranged_each [] h = tt
ranged_each (e ∷ es) h = (h.0, ranged_each es h.1)

pub ranged_sequence : (e : Expression) (es : List Expression) → e ≡ SequenceOf (to_expressions es) → AllByRecursion IsInRangeExpression es → IsInRangeExpression e
ranged_sequence e es is h = subst IsInRangeExpression (sym is) (ranged_each es h)

pub ranged_set : (e : Expression) (es : List Expression) → e ≡ SetOf (to_expressions es) → AllByRecursion IsInRangeExpression es → IsInRangeExpression e
ranged_set e es is h = subst IsInRangeExpression (sym is) (ranged_each es h)

pub ranged_constructor : (e : Expression) (k : ℕ) (es : List Expression) → e ≡ ConstructorOf k (to_expressions es) → k < 2 ^ 32 → AllByRecursion IsInRangeExpression es → IsInRangeExpression e
ranged_constructor e k es is small h = subst IsInRangeExpression (sym is) (small, ranged_each es h)

-- ---- sizes

pub sequence_smaller : (e : Expression) (es : List Expression) → e ≡ SequenceOf (to_expressions es) → expression_size e ≡ 1 + expressions_size (to_expressions es)
sequence_smaller e es is = ap expression_size is

pub set_smaller : (e : Expression) (es : List Expression) → e ≡ SetOf (to_expressions es) → expression_size e ≡ 1 + expressions_size (to_expressions es)
set_smaller e es is = ap expression_size is

pub fields_smaller : (e : Expression) (k : ℕ) (es : List Expression) → e ≡ ConstructorOf k (to_expressions es) → expression_size e ≡ 1 + expressions_size (to_expressions es)
fields_smaller e k es is = ap expression_size is

pub item_no_greater : {X : Type 0} (view : X → Expression) (xs : List X) (i : ℕ) (x : X) → i < length xs → x ≡ get_or xs i x → expression_size (view x) ≤ expressions_size (to_expressions (map view xs))
item_no_greater view [] i x within read = absurd (omega arith)
item_no_greater view (y ∷ ys) zero x within read = let same : expression_size (view x) ≡ expression_size (view y) = ap (λ z. expression_size (view z)) read in omega arith
item_no_greater view (y ∷ ys) (suc i) x within read = let rest : expression_size (view x) ≤ expressions_size (to_expressions (map view ys)) = item_no_greater view ys i x (omega arith) read in omega arith
