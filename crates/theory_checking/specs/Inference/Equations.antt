-- What equations with numbers of their own ask for.
use Rattle.std.specs.Prelude.{◌≡◌, ◌↔◌, ℕ, ◌≤◌, ◌<◌, nat_eq, cond, List, [], ◌∷◌, map, Option, Some, None, slice_get, IfSome}
use Rattle.theory_syntax.specs.Types.{Types}
use Rattle.theory_semantics.specs.Kinds.Kind.{Kinds, Scope, Each}
use Rattle.theory_semantics.specs.Kinds.Values.{IsConstructorOf}
use Rattle.theory_checking.specs.Inference.Chain.{Chain, IntEnd, BoolEnd, Assignment, AgreeBelow, open_end}
use Rattle.theory_checking.specs.Inference.State.{KindEquation, Solves}

-- The equations, in which the numbers from n up to m are new, ask for D: who solves them has D,
-- and who has D solves them with some kinds for the new numbers. From m on numbers do not matter.
pub record Ask (n : ℕ) (es : List KindEquation) (m : ℕ) (D : Assignment → Type 0) : Type 0 where
  pub rising : n ≤ m
  pub settled : (a b : Assignment) → AgreeBelow m a b → Solves a es → Solves b es
  pub sound : (a : Assignment) → Solves a es → D a
  pub complete : (a : Assignment) → D a → (b : Assignment) × AgreeBelow n a b × Solves b es

-- an equation that no kinds solve
abbrev pub never : List KindEquation
never = (IntEnd, BoolEnd) ∷ []

-- the equations for what is found, and `never` where nothing is
abbrev pub when : {A : Type 0} → Option A → (A → List KindEquation) → List KindEquation
when (Some x) f = f x
when None f = never

-- The numbers of the kinds of a script's parts: of the members of each nametype, of the fields of each constructor and channel
-- and of the parameters of each equation. And for each constructor its datatype.
pub record Numbering : Type 0 where
  pub owners : List ℕ
  pub nametypes : List ℕ
  pub constructors : List (List ℕ)
  pub channels : List (List ℕ)
  pub parameters : List (List ℕ)

abbrev pub kinds_under : Assignment → Numbering → Kinds
kinds_under a o = record { nametypes = map a o.nametypes; constructors = map (map a) o.constructors; channels = map (map a) o.channels; parameters = map (map a) o.parameters }

-- bound names with the numbers of their kinds, inner ones first
abbrev pub Numbered : Type 0
Numbered = List (ℕ × ℕ)

abbrev pub scope_under : Assignment → Numbered → Scope
scope_under a names = map (λ b. (b.0, a b.1)) names

abbrev pub number_of_name : Numbered → ℕ → Option ℕ
number_of_name [] n = None
number_of_name (b ∷ bs) n = cond (nat_eq b.0 n) (Some b.1) (number_of_name bs n)

-- All numbers in use are below n.
pub record IsBelow (n : ℕ) (o : Numbering) : Type 0 where
  pub nametypes : Each (λ m. m < n) o.nametypes
  pub constructors : Each (Each (λ m. m < n)) o.constructors
  pub channels : Each (Each (λ m. m < n)) o.channels
  pub parameters : Each (Each (λ m. m < n)) o.parameters

abbrev pub NamesBelow : ℕ → Numbered → Type 0
NamesBelow n names = Each (λ b. b.1 < n) names

abbrev pub IsChainBelow : ℕ → Chain → Type 0
IsChainBelow n c = IfSome (open_end c) (λ m. m < n)

-- each constructor is of its datatype and of no other one
abbrev pub AreOwners : Types → Numbering → Type 0
AreOwners types o = (d c : ℕ) → IsConstructorOf types d c ↔ (slice_get o.owners c ≡ Some d)

-- the numbers of a script without names
abbrev pub no_numbers : Numbering
no_numbers = record { owners = []; nametypes = []; constructors = []; channels = []; parameters = [] }
