-- The order of two parts, by what is found of them.
use Rattle.std.proofs.Common.{◌≡◌, ℕ, zero, suc, List, [], ◌∷◌, map, slice_get, Option, refl, ◌∙◌, ap, ap₂}
use Rattle.std.specs.Option.{option_map}
use Rattle.csp_term.specs.declared.term.Term.{Term}
use Rattle.csp_term.specs.Term.{process_of}
use Rattle.kept_parts.specs.KnownSteps.{found_cmp, part_cmp}

mapped : {X Y : Type 0} (f : X → Y) (xs : List X) (n : ℕ) → option_map f (slice_get xs n) ≡ slice_get (map f xs) n
mapped f [] n = refl
mapped f (x ∷ xs) zero = refl
mapped f (x ∷ xs) (suc n) = mapped f xs n

pub told : {A : Type 0} (ts : List (Term A)) (n m : ℕ) (a b : Option (Term A)) → a ≡ slice_get ts n → b ≡ slice_get ts m → found_cmp (option_map process_of a) (option_map process_of b) ≡ part_cmp (map process_of ts) n m
told ts n m a b one other = ap₂ found_cmp (ap (option_map process_of) one ∙ mapped process_of ts n) (ap (option_map process_of) other ∙ mapped process_of ts m)
