-- Texts that are lent.
use Rattle.std.specs.Prelude.{ℕ, List, map}
use Rattle.std.specs.Borrow.{Bor}

abbrev pub texts_of : List (Bor (List ℕ)) → List (List ℕ)
texts_of ws = map (λ w. w.now) ws
