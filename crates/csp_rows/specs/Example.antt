-- A small row: `STOP ||| SKIP`.
use Rattle.std.specs.Prelude.{◌≡◌, ℕ, List, [], ◌∷◌}
use Rattle.theory_syntax.specs.Process.{Interleaving, Skip, Stop}
use Rattle.theory_shapes.specs.Shape as pure
use Rattle.csp_rows.specs.declared.composed.SideBits.{SideBits}
use Rattle.csp_rows.specs.declared.numbers.ActionId.TheVariants.{Tick}
use Rattle.csp_rows.specs.declared.part.Part.{Part}
use Rattle.csp_rows.specs.declared.step.PartStep.{PartStep}
use Rattle.csp_rows.specs.Rows.{kept}
use Rattle.csp_rows.specs.Shapes.{Composed, Hole}
use Rattle.csp_rows.specs.Row.{Row}

-- what is kept of a part of one node: its bytes and its steps
pub record IsOneNode {A : Type 0} (part : Part A) (bytes : List ℕ) (steps : List PartStep) : Type 0 where
  pub spelled : part.spelling.items ≡ bytes
  pub nodes : part.size ≡ 1
  pub deep : part.depth ≡ 1
  pub done : kept part.steps ≡ steps

-- a tick, to the part that has ended
abbrev pub ends : PartStep
ends = record { action = Tick; target = record { 0 = 0 } }

-- three parts are kept, of which the second and the third stand in the row
abbrev pub small_row : {A : Type 0} → SideBits A → Part A → Part A → Part A → Row A
small_row bits omega_part stop_part skip_part = record {
  term = Interleaving Stop Skip;
  shape = pure.Composed pure.Interleaved pure.Hole pure.Hole;
  tree = Composed bits (Hole 0) (Hole 1);
  numbers = record { 0 = 1 } ∷ record { 0 = 2 } ∷ [];
  parts = omega_part ∷ stop_part ∷ skip_part ∷ [];
  bytes = 0x0b ∷ 0x01 ∷ 0x02 ∷ [];
  places = record { start = 1; end = 2 } ∷ record { start = 2; end = 3 } ∷ [];
  nodes = 3;
  over = 1 ∷ 1 ∷ [];
}
