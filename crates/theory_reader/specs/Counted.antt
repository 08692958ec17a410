-- The heights of the tokens that are passed, counted behind those before them.
use Rattle.std.specs.Prelude.{◌≡◌, ◌<◌, ◌≤◌, List, [], ◌∷◌, ◌++◌, Ok, Err, ⊤}
use Rattle.theory_text.specs.Token.{PlacedToken}
use Rattle.theory_text.specs.Height.{Nest, nesting, after_token, after_tokens, nest_height, greatest_height}
use Rattle.theory_reader.specs.Forms.{Form}
use Rattle.theory_reader.specs.Programs.{Standing, Halt, Here, High, Outcome}
use Rattle.theory_reader.specs.Reader.{reads}

-- The first of these tokens, if there is one, is within the limit of heights behind n, and m is where it leads.
abbrev pub CountsFirst : Nest → List PlacedToken → Nest → Type 0
CountsFirst n [] m = m ≡ n
CountsFirst n (t ∷ ts) m = (m ≡ after_token (nesting t.token) n) × (nest_height m ≤ greatest_height)

-- each of these tokens is
abbrev pub AreLow : Nest → List PlacedToken → Type 0
AreLow n [] = ⊤
AreLow n (t ∷ ts) = (nest_height (after_token (nesting t.token) n) ≤ greatest_height) × AreLow (after_token (nesting t.token) n) ts

-- the first of these tokens, at which reading stops, is within the limit or above it
abbrev pub StopsAt : Halt → Nest → List PlacedToken → Type 0
StopsAt Here n [] = ⊤
StopsAt Here n (t ∷ ts) = nest_height (after_token (nesting t.token) n) ≤ greatest_height
StopsAt High n [] = ⊥
StopsAt High n (t ∷ ts) = greatest_height < nest_height (after_token (nesting t.token) n)

-- The tokens that are passed are within the limit behind n, and so is the next one, but where reading stops for its height.
abbrev pub Counts : {A : Type 0} → Nest → List PlacedToken → Outcome A → Type 0
Counts n ts (Ok p) = (a : List PlacedToken) × (ts ≡ a ++ p.1.left) × CountsFirst (after_tokens n a) p.1.left p.1.nest × AreLow n a
Counts n ts (Err e) = (a : List PlacedToken) × (ts ≡ a ++ e.1) × StopsAt e.0 (after_tokens n a) e.1 × AreLow n a

-- so are those that are read as this form
abbrev pub ReadsLow : Form → Type 0
ReadsLow f = (s : Standing) (n : Nest) → CountsFirst n s.left s.nest → Counts n s.left (reads f s)
