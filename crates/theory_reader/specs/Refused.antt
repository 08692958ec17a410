-- What it says that a reader stops.
use Rattle.std.specs.Prelude.{◌≡◌, false, List, [], ◌∷◌, ◌++◌, Ok, Err}
use Rattle.theory_text.specs.Token.{PlacedToken}
use Rattle.theory_text.specs.Height.{Nest}
use Rattle.theory_reader.specs.Forms.{Form, Tree}
use Rattle.theory_reader.specs.Programs.{Standing, Halt, Here}
use Rattle.theory_reader.specs.Reader.{reads_to, reads}

-- all tokens of a form are read, whatever their heights
abbrev pub ReadsWhole : (f : Form) → (List PlacedToken → Tree f → Type 0) → Type 0
ReadsWhole f Is = (ts : List PlacedToken) (x : Tree f) → Is ts x → (n : Nest) → (m : Nest) × (reads_to false f (record { left = ts; nest = n }) ≡ Ok (x, record { left = []; nest = m }))

-- some tokens behind these are of the form
abbrev pub GoesOn : {X : Type 0} → (List PlacedToken → X → Type 0) → List PlacedToken → Type 0
GoesOn {X} Is ts = (more : List PlacedToken) × (x : X) × Is (ts ++ more) x

-- with the next token the tokens in front begin nothing of the form, or at the end they are none
abbrev pub IsRefusedBehind : {X : Type 0} → (List PlacedToken → X → Type 0) → List PlacedToken → List PlacedToken → Type 0
IsRefusedBehind {X} Is front [] = (x : X) → ¬ (Is (front ++ []) x)
IsRefusedBehind Is front (t ∷ ts) = ¬ (GoesOn Is (front ++ t ∷ []))

-- what is read is of the form, and where reading stops the tokens that are passed begin it
abbrev pub ReadsSome : (f : Form) → (List PlacedToken → Tree f → Type 0) → Type 0
ReadsSome f Is =
    ((s q : Standing) (x : Tree f) → reads f s ≡ Ok (x, q) → (front : List PlacedToken) × (s.left ≡ front ++ q.left) × Is front x)
    × ((s : Standing) (h : Halt) (left : List PlacedToken) → reads f s ≡ Err (h, left) → (front : List PlacedToken) × (s.left ≡ front ++ left) × GoesOn Is front)

-- where the reader stops, some of the form begin with the passed tokens, and none go on with the next one
abbrev pub RefusesNext : (f : Form) → (List PlacedToken → Tree f → Type 0) → Type 0
RefusesNext f Is = (s : Standing) (left : List PlacedToken) → reads f s ≡ Err (Here, left) → (front : List PlacedToken) × (s.left ≡ front ++ left) × GoesOn Is front × IsRefusedBehind Is front left
