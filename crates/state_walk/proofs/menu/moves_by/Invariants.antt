-- The moves so far are steps that are told, and these are left of all.
use Rattle.std.proofs.Common.{◌≡◌, ◌++◌, length, map}
use Rattle.std.specs.Vec.Iter.{into_iter_items, into_iter_len}
use Rattle.theory_walk.specs.Moves.{AreTold, step_in}
use Rattle.csp_fire.specs.Form.{step_of}
use Rattle.csp_term.specs.Script.{script_of_parts}
use Rattle.csp_term.specs.Term.{process_of}
use Rattle.state_walk.specs.Walks.{moves_listed}
use Rattle.state_walk.proofs.menu.moves_by.Given as goal

abbrev pub invariant-loop-step : goal.invariant-loop-step
invariant-loop-step g l = record {
  all : map step_in (moves_listed l.moves.items) ++ map step_of (into_iter_items l.step-iterator) ≡ map step_of l.fn.steps.items;
  told : AreTold (script_of_parts l.script) (process_of l.term) (moves_listed l.moves.items);
  left : into_iter_len l.step-iterator ≡ length (into_iter_items l.step-iterator);
}
