-- The walks that those of the code stand for.
use Rattle.std.specs.Prelude.{◌≡◌, ℕ, List, Option, Some, map, option_map, slice_get}
use Rattle.theory_semantics.specs.Kinds.Scripts.{IsTermOf}
use Rattle.theory_origins.specs.Origin as origin
use Rattle.theory_walk.specs.Moves as pure
use Rattle.theory_walk.specs.Moves.{IsMenu, moves_in}
use Rattle.theory_walk.specs.Trails.{AreTaken, Trail, further, here}
use Rattle.theory_walk.specs.Walks.{Place}
use Rattle.csp_value.specs.Action.{action_of}
use Rattle.csp_term.specs.Script.{script_of}
use Rattle.csp_term.specs.Term.{process_of}
use Rattle.csp_moves.specs.Origin.{origin_of}
use Rattle.csp_replay.specs.Hindrance.{hindrance_of}
use Rattle.state_walk.specs.declared.menu.Menu.{Menu}
use Rattle.state_walk.specs.declared.menu.Menu.TheVariants as menu
use Rattle.state_walk.specs.declared.menu.Move.{Move}
use Rattle.state_walk.specs.declared.walk.Walk.{Walk}

abbrev pub origin_in : {A : Type 0} → Move A → Option origin.Origin
origin_in m = option_map origin_of m.origin

abbrev pub move_of : {A : Type 0} → Move A → pure.Move
move_of m = record { action = action_of m.action; origin = origin_in m; target = process_of m.target }

abbrev pub moves_listed : {A : Type 0} → List (Move A) → List pure.Move
moves_listed moves = map move_of moves

abbrev pub menu_of : {A : Type 0} → Menu A → pure.Menu
menu_of (menu.Offers moves) = pure.Offers (moves_listed moves.items)
menu_of (menu.Stuck by) = pure.Stuck (hindrance_of by)

abbrev pub trail_of : {A : Type 0} → Walk A → Trail
trail_of w = record { start = process_of w.start; taken = moves_listed w.taken.items }

abbrev pub place_of : {A : Type 0} → Walk A → Place
place_of w = record { trail = trail_of w; menu = menu_of w.menu }

-- The moves of a walk are steps of its script from its start on, and its menu is that of the state where it is.
pub record IsKept {A : Type 0} (w : Walk A) : Type 0 where
  pub closed : IsTermOf (script_of w.script.now) (process_of w.start)
  pub taken : AreTaken (script_of w.script.now) (process_of w.start) (moves_listed w.taken.items)
  pub menu : IsMenu (script_of w.script.now) (here (trail_of w)) (menu_of w.menu)

abbrev pub IsSameScript : {A : Type 0} → Walk A → Walk A → Type 0
IsSameScript old new = script_of new.script.now ≡ script_of old.script.now

-- the move at the place was taken
abbrev pub GoesBy : {A : Type 0} → ℕ → Walk A → Walk A → Type 0
GoesBy place old new = (m : pure.Move) × (slice_get (moves_in (menu_of old.menu)) place ≡ Some m) × (trail_of new ≡ further (trail_of old) m)
