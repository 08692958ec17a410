-- What a reader of tokens has read: what the definitions' reader reads, unless memory was refused.
use Rattle.std.specs.Prelude.{◌≡◌, ◌<◌, ◌≤◌, List, map, drop, length, Option, option_map, Result, Ok, Err, IfOk, ⊤}
use Rattle.theory_text.specs.Token.{PlacedToken}
use Rattle.csp_lex.specs.Tokens.{placed_token}
use Rattle.theory_reader.specs.Forms.{Form, Tree}
use Rattle.theory_reader.specs.Programs.{Seen, seen_of, first, Standing, Here, High, Outcome}
use Rattle.theory_reader.specs.Reader.{reads}
use Rattle.csp_parse.specs.declared.parsers.Parser.{Parser}
use Rattle.csp_parse.specs.declared.stops.Stopped.{Stopped}
use Rattle.csp_parse.specs.declared.stops.Stopped.TheVariants as stop
use Rattle.csp_parse.specs.Nests.{nest_of}

-- the tokens that are left to read
abbrev pub left_of : {A : Type 0} → Parser A → List PlacedToken
left_of p = map placed_token (drop p.position p.tokens.now)

abbrev pub standing_of : {A : Type 0} → Parser A → Standing
standing_of p = record { left = left_of p; nest = nest_of p.nest }

-- what the next token is
abbrev pub next_of : {A : Type 0} → Parser A → Option Seen
next_of p = option_map seen_of (first (left_of p))

-- the outcome is a stop where the tokens stand; refused memory says nothing
abbrev pub Halts : {A Y : Type 0} → Outcome Y → Stopped → Parser A → Type 0
Halts o stop.Here new = o ≡ Err (Here, left_of new)
Halts o stop.High new = o ≡ Err (High, left_of new)
Halts o stop.Memory new = ⊤

-- the outcome is that of the definitions
abbrev pub Gives : {A X Y : Type 0} → Outcome Y → (X → Y) → Result X Stopped → Parser A → Type 0
Gives o tree (Ok x) new = o ≡ Ok (tree x, standing_of new)
Gives o tree (Err e) new = Halts o e new

-- this form is read, as these trees
abbrev pub Reads : {A X : Type 0} (f : Form) → (X → Tree f) → Parser A → Result X Stopped → Parser A → Type 0
Reads f tree old result new = Gives (reads f (standing_of old)) tree result new

-- what is read takes a token at least, or none
abbrev pub Shortens : {A X : Type 0} → Parser A → Result X Stopped → Parser A → Type 0
Shortens old result new = IfOk result (λ _. length (left_of new) < length (left_of old))

abbrev pub Keeps : {A X : Type 0} → Parser A → Result X Stopped → Parser A → Type 0
Keeps old result new = IfOk result (λ _. length (left_of new) ≤ length (left_of old))
