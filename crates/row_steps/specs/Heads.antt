-- The bytes that spellings begin with.
use Rattle.std.specs.Prelude.{ℕ, Bool, true, not, ◌||◌, nat_eq, List, [], ◌∷◌}

-- those of terms with an operator at their head that stays
abbrev pub is_standing : ℕ → Bool
is_standing head = nat_eq head 0x0b || nat_eq head 0x0d || nat_eq head 0x0e || nat_eq head 0x0f || nat_eq head 0x10

-- whether bytes that spell a term are those of a part
abbrev pub begin_a_part : List ℕ → Bool
begin_a_part [] = true
begin_a_part (head ∷ bytes) = not (is_standing head)
