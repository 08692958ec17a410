-- The parts of a value that has no list too long, their sizes, and the spelling of each form.
use Rattle.std.proofs.Common.{◌≡◌, ℕ, zero, suc, ◌+◌, ◌<◌, ◌≤◌, false, true, List, [], ◌∷◌, ◌++◌, length, map, get_or, sym, ap, subst, ◌∙◌, arith}
use Rattle.std.specs.List.{AllByRecursion}
use Rattle.std.specs.Prelude.{◌==◌}
use Rattle.theory_syntax.specs.Value.{Value, Constructor, Sequence, Set, Values, to_values, values_list}
use Rattle.theory_semantics.specs.Meaning.Limits.{value_size, values_size}
use Rattle.theory_spelling.specs.Spelling.{list_spelling, number_spelling, value_spelling}
use Rattle.theory_spelling.specs.Spellable.{IsShort}
use Rattle.theory_spelling.specs.Packable.{IsPackableValue, ArePackableValues, IsPackableList}
use Rattle.theory_spelling.specs.Ranges.{IsInRangeValue, AreInRangeValues}
use Rattle.theory_spelling.proofs.Taking.{values_listed, counted}
use Rattle.theory_spelling.proofs.Again.{values_made}

packable_each : (vs : List Value) → ArePackableValues (to_values vs) → AllByRecursion IsPackableValue vs
packable_each [] fits = tt
packable_each (v ∷ vs) fits = (fits.0, packable_each vs fits.1)

pub packable_items : (v : Value) (vs : List Value) → v ≡ Sequence (to_values vs) → IsPackableValue v → IsPackableList IsPackableValue vs
packable_items v vs is fits =
    let told : IsPackableValue (Sequence (to_values vs)) = subst IsPackableValue is fits in
    (subst IsShort (values_listed vs) told.0, packable_each vs told.1)

pub packable_fields : (v : Value) (k : ℕ) (vs : List Value) → v ≡ Constructor k (to_values vs) → IsPackableValue v → IsPackableList IsPackableValue vs
packable_fields v k vs is fits =
    let told : IsPackableValue (Constructor k (to_values vs)) = subst IsPackableValue is fits in
    (subst IsShort (values_listed vs) told.0, packable_each vs told.1)

pub packable_members : (v : Value) (vs : Values) (ws : List Value) → v ≡ Set vs → ws ≡ values_list vs → IsPackableValue v → IsPackableList IsPackableValue ws
packable_members v vs ws is listed fits =
    let told : IsPackableValue (Set vs) = subst IsPackableValue is fits in
    let each : ArePackableValues (to_values ws) = subst ArePackableValues (sym (ap to_values listed ∙ values_made vs)) told.1 in
    (subst IsShort (sym listed) told.0, packable_each ws each)

pub spelled_items : (v : Value) (vs : List Value) → v ≡ Sequence (to_values vs) → value_spelling v ≡ 0x63 ∷ list_spelling value_spelling vs
spelled_items v vs is = ap value_spelling is ∙ ap (λ (bytes : List ℕ). 0x63 ∷ bytes) (counted vs)

-- a constructor with some fields
pub spelled_constructor : {X : Type 0} (view : X → Value) (k : ℕ) (xs : List X) → false ≡ (length xs == 0) → value_spelling (Constructor k (to_values (map view xs))) ≡ 0x65 ∷ (number_spelling k ++ list_spelling value_spelling (map view xs))
spelled_constructor view k [] some = let told : false ≡ true = some in absurd (cc told)
spelled_constructor view k (x ∷ xs) some = ap (λ (bytes : List ℕ). 0x65 ∷ (number_spelling k ++ bytes)) (counted (map view (x ∷ xs)))

pub spelled_members : (v : Value) (vs : Values) (ws : List Value) → v ≡ Set vs → ws ≡ values_list vs → value_spelling v ≡ 0x64 ∷ list_spelling value_spelling ws
spelled_members v vs ws is listed =
    let made : vs ≡ to_values ws = sym (values_made vs) ∙ ap to_values (sym listed) in
    ap value_spelling (is ∙ ap Set made) ∙ ap (λ (bytes : List ℕ). 0x64 ∷ bytes) (counted ws)

pub items_smaller : (v : Value) (vs : List Value) → v ≡ Sequence (to_values vs) → value_size v ≡ 1 + values_size (to_values vs)
items_smaller v vs is = ap value_size is

pub fields_smaller : (v : Value) (k : ℕ) (vs : List Value) → v ≡ Constructor k (to_values vs) → value_size v ≡ 1 + values_size (to_values vs)
fields_smaller v k vs is = ap value_size is

pub members_smaller : (v : Value) (vs : Values) (ws : List Value) → v ≡ Set vs → ws ≡ values_list vs → value_size v ≡ 1 + values_size (to_values ws)
members_smaller v vs ws is listed = ap value_size is ∙ ap (λ us. 1 + values_size us) (sym (values_made vs) ∙ ap to_values (sym listed))

pub item_no_greater : {X : Type 0} (view : X → Value) (xs : List X) (i : ℕ) (x : X) → i < length xs → x ≡ get_or xs i x → value_size (view x) ≤ values_size (to_values (map view xs))
item_no_greater view [] i x within read = absurd (omega arith)
item_no_greater view (y ∷ ys) zero x within read = let same : value_size (view x) ≡ value_size (view y) = ap (λ z. value_size (view z)) read in omega arith
item_no_greater view (y ∷ ys) (suc i) x within read = let rest : value_size (view x) ≤ values_size (to_values (map view ys)) = item_no_greater view ys i x (omega arith) read in omega arith

pub ranged_fields : (vs : List Value) → AllByRecursion IsInRangeValue vs → AreInRangeValues (to_values vs)
ranged_fields [] h = tt
ranged_fields (v ∷ vs) h = (h.0, ranged_fields vs h.1)

pub ranged_items : (v : Value) (vs : List Value) → v ≡ Sequence (to_values vs) → AllByRecursion IsInRangeValue vs → IsInRangeValue v
ranged_items v vs is h = subst IsInRangeValue (sym is) (ranged_fields vs h)

pub ranged_members : (v : Value) (vs : Values) (ws : List Value) → v ≡ Set vs → ws ≡ values_list vs → AllByRecursion IsInRangeValue ws → IsInRangeValue v
ranged_members v vs ws is listed h =
    let made : vs ≡ to_values ws = sym (values_made vs) ∙ ap to_values (sym listed) in
    subst IsInRangeValue (sym (is ∙ ap Set made)) (ranged_fields ws h)
