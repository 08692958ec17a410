-- How many parameters and fields are declared and given.
use Rattle.std.specs.Prelude.{ℕ, Bool, true, not, ◌||◌, nat_eq, nat_lt, Option, Some, None}

-- so many are given as are declared, where that is known
abbrev pub agree : Option ℕ → ℕ → Bool
agree (Some p) k = nat_eq p k
agree None k = true

-- no more are given than are declared
abbrev pub suffice : Option ℕ → ℕ → Bool
suffice (Some p) k = not (nat_lt p k)
suffice None k = true

-- there are none, or as many
abbrev pub fields_agree : Option ℕ → Option ℕ → Bool
fields_agree None other = true
fields_agree (Some p) None = nat_eq p 0
fields_agree (Some p) (Some q) = nat_eq p 0 || nat_eq q p
