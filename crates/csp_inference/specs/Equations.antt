-- Equations that are met one after the other.
use Rattle.std.specs.Prelude.{◌≡◌, ◌⊎◌, ℕ, List, ◌++◌, map, slice_get, Some, None}
use Rattle.theory_checking.specs.Inference.Chain.{Assignment}
use Rattle.theory_checking.specs.Inference.State as pure
use Rattle.theory_checking.specs.Inference.Equations.{Numbered, Numbering}
use Rattle.theory_checking.specs.Inference.Processes.{names_behind}
use Rattle.theory_syntax.specs.Process.{Field}
use Rattle.csp_inference.specs.declared.equations.KindEquation.{KindEquation}
use Rattle.csp_inference.specs.declared.equations.Equations.{Equations}
use Rattle.csp_inference.specs.Chain.{demand_of}
use Rattle.csp_inference.specs.State.{SaysTheSame, state_in}

abbrev pub equation_of : KindEquation → pure.KindEquation
equation_of e = (demand_of e.left, demand_of e.right)

abbrev pub equations_of : {A : Type 0} → Equations A → List pure.KindEquation
equations_of s = map equation_of s.met.items

-- The same is known of each kind.
abbrev pub KnowsTheSame : {A : Type 0} → Equations A → Equations A → Type 0
KnowsTheSame old new = SaysTheSame (state_in old.state) (state_in new.state)

-- Behind the equations so far stand these, m is the next number, and the same is known.
pub record Adds {A : Type 0} (old new : Equations A) (es : List pure.KindEquation) (m : ℕ) : Type 0 where
  pub met : equations_of new ≡ equations_of old ++ es
  pub next : new.next ≡ m
  pub known : KnowsTheSame old new

-- No kinds solve the equations.
abbrev pub AreHopeless : List pure.KindEquation → Type 0
AreHopeless es = (a : Assignment) → ¬ pure.Solves a es

-- These equations stand behind those so far, and m is the next number. Or those so far have no solution with these, and
-- those that stand there now have none either; then the next number does not matter. The same is known in either case.
pub data Asks {A : Type 0} (old new : Equations A) (es : List pure.KindEquation) (m : ℕ) : Type 0 where
  exactly : Adds old new es m → Asks old new es m
  hopelessly : AreHopeless (equations_of old ++ es) → AreHopeless (equations_of new) → KnowsTheSame old new → Asks old new es m

-- These are the names, or the equations have no solution anyway.
abbrev pub HasNames : {A : Type 0} → Equations A → Numbered → Numbered → Type 0
HasNames now names wanted = (names ≡ wanted) ⊎ AreHopeless (equations_of now)

-- the names behind the inputs of a prefix of the channel
abbrev pub names_behind_prefix : Numbering → Numbered → ℕ → List Field → Numbered
names_behind_prefix o names c fs = elim (slice_get o.channels c) [ Some ms ↦ names_behind names fs ms | None ↦ names ]
