-- The sizes and the depths of fields together.
use Rattle.std.proofs.Common.{◌≡◌, ℕ, ◌+◌, max, List, [], ◌∷◌, refl, sym, ap, arith}
use Rattle.std.proofs.Math.Nat.{max-eq_left}
use Rattle.theory_syntax.specs.Process as pure
use Rattle.theory_semantics.specs.Meaning.Limits.{fields_depth, fields_size}
use Rattle.csp_term.specs.declared.field.Field.{Field}
use Rattle.csp_term.specs.Field.{field_of, fields_of}

abbrev pub field_size : {A : Type 0} → Field A → ℕ
field_size f = fields_size (field_of f ∷ [])

abbrev pub field_sizes : {A : Type 0} → List (Field A) → ℕ
field_sizes fs = fields_size (fields_of fs)

abbrev pub field_depth : {A : Type 0} → Field A → ℕ
field_depth f = fields_depth (field_of f ∷ [])

abbrev pub field_depths : {A : Type 0} → List (Field A) → ℕ
field_depths fs = fields_depth (fields_of fs)

size_first : (f : pure.Field) (fs : List pure.Field) → fields_size (f ∷ fs) ≡ fields_size (f ∷ []) + fields_size fs
size_first (pure.Given e) fs = omega arith
size_first (pure.Input n) fs = omega arith
size_first (pure.InputFrom n e) fs = omega arith

depth_first : (f : pure.Field) (fs : List pure.Field) → fields_depth (f ∷ fs) ≡ max (fields_depth (f ∷ [])) (fields_depth fs)
depth_first (pure.Given e) fs = ap (λ n. max n (fields_depth fs)) (sym (max-eq_left (omega arith)))
depth_first (pure.Input n) fs = refl
depth_first (pure.InputFrom n e) fs = ap (λ n. max n (fields_depth fs)) (sym (max-eq_left (omega arith)))

pub field_sizes_step : {A : Type 0} (f : Field A) (fs : List (Field A)) → field_sizes (f ∷ fs) ≡ field_size f + field_sizes fs
field_sizes_step f fs = size_first (field_of f) (fields_of fs)

pub field_depths_step : {A : Type 0} (f : Field A) (fs : List (Field A)) → field_depths (f ∷ fs) ≡ max (field_depth f) (field_depths fs)
field_depths_step f fs = depth_first (field_of f) (fields_of fs)
