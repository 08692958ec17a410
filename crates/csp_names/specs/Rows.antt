-- Rows, each of a spelling with what stands beside it.
use Rattle.std.specs.Prelude.{ℕ, cond, List, [], ◌∷◌, map, Option, Some, None, ⊤}
use Rattle.std.specs.Borrow.{Bor}
use Rattle.std.specs.Str.{bytes_eq, chars, IsUtf8}

-- what stands beside the first of the rows that has the spelling
abbrev pub row_at : {V : Type 0} → List (List ℕ × V) → List ℕ → Option V
row_at [] s = None
row_at (r ∷ rs) s = cond (bytes_eq r.0 s) (Some r.1) (row_at rs s)

-- the entries of a map by the bytes of spellings, as rows
abbrev pub spelled : {V : Type 0} → List (Bor (List ℕ) × V) → List (List ℕ × V)
spelled es = map (λ e. (chars e.0.now, e.1)) es

-- the keys are texts
abbrev pub AreTexts : {V : Type 0} → List (Bor (List ℕ) × V) → Type 0
AreTexts [] = ⊤
AreTexts (e ∷ es) = IsUtf8 e.0.now × AreTexts es

-- the rows with this one in the place of the first that has its spelling, or behind the others
abbrev pub put_row : {V : Type 0} → List (List ℕ × V) → List ℕ → V → List (List ℕ × V)
put_row [] s v = (s, v) ∷ []
put_row (r ∷ rs) s v = cond (bytes_eq r.0 s) ((r.0, v) ∷ rs) (r ∷ put_row rs s v)
