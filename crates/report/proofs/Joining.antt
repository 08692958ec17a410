-- A list of texts with a comma between each two.
use Rattle.std.proofs.Common.{◌≡◌, ℕ, List, [], ◌∷◌, ◌++◌, sym, ap, append-nil, append_assoc}
use Rattle.std.specs.List.{join_with_byte}

-- the texts, each behind a comma
abbrev pub following : List (List ℕ) → List ℕ
following [] = []
following (x ∷ xs) = (44 ∷ x) ++ following xs

pub joins : (x : List ℕ) (xs : List (List ℕ)) → join_with_byte 44 (x ∷ xs) ≡ x ++ following xs
joins x [] = sym (append-nil x)
joins x (y ∷ ys) = ap (λ zs. x ++ (44 ∷ zs)) (joins y ys)
