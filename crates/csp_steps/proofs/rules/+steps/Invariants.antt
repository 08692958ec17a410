-- A rule that looks at a part goes on to it, so each call counts less than six times the height of the term.
use Rattle.std.proofs.Common.{◌+◌, ◌*◌, max, take, Ok}
use Rattle.theory_syntax.specs.Process.{Process}
use Rattle.theory_semantics.specs.Meaning.Transitions.{left_grouped}
use Rattle.csp_term.specs.Script.{script_of_parts}
use Rattle.csp_steps.specs.Composing.{IsSideOf}
use Rattle.csp_steps.specs.Replicating.{instances_of, looking_process}
use Rattle.csp_steps.proofs.Smaller.{height_of}
use Rattle.csp_steps.proofs.rules.+steps.Given as goal

abbrev pub decreases-conditional::steps : goal.decreases-conditional::steps
decreases-conditional::steps g l = 1 + 6 * max (height_of l.first.now) (height_of l.second.now)

abbrev pub decreases-guard::steps : goal.decreases-guard::steps
decreases-guard::steps g l = 1 + 6 * height_of l.body.now

abbrev pub decreases-side::under : goal.decreases-side::under
decreases-side::under g l = 1 + 6 * height_of l.term.now

abbrev pub decreases-side::both : goal.decreases-side::both
decreases-side::both g l = 2 + 6 * max (height_of l.left.now) (height_of l.right.now)

abbrev pub decreases-binary : goal.decreases-binary
decreases-binary g l = 4 + 6 * max (height_of l.left.now) (height_of l.right.now)

abbrev pub decreases-choice::external : goal.decreases-choice::external
decreases-choice::external g l = 3 + 6 * max (height_of l.left.now) (height_of l.right.now)

abbrev pub decreases-sequential::steps : goal.decreases-sequential::steps
decreases-sequential::steps g l = 3 + 6 * max (height_of l.left.now) (height_of l.right.now)

abbrev pub decreases-interrupt::steps : goal.decreases-interrupt::steps
decreases-interrupt::steps g l = 3 + 6 * max (height_of l.left.now) (height_of l.right.now)

abbrev pub decreases-sliding::steps : goal.decreases-sliding::steps
decreases-sliding::steps g l = 3 + 6 * max (height_of l.left.now) (height_of l.right.now)

abbrev pub decreases-parallel::interleaving : goal.decreases-parallel::interleaving
decreases-parallel::interleaving g l = 3 + 6 * max (height_of l.left.now) (height_of l.right.now)

abbrev pub decreases-parallel::generalised : goal.decreases-parallel::generalised
decreases-parallel::generalised g l = 3 + 6 * max (height_of l.left.now) (height_of l.right.now)

abbrev pub decreases-parallel::alphabetised : goal.decreases-parallel::alphabetised
decreases-parallel::alphabetised g l = 3 + 6 * max (height_of l.left.now) (height_of l.right.now)

abbrev pub decreases-hiding::steps : goal.decreases-hiding::steps
decreases-hiding::steps g l = 1 + 6 * height_of l.body.now

abbrev pub decreases-renaming::steps : goal.decreases-renaming::steps
decreases-renaming::steps g l = 1 + 6 * height_of l.body.now

abbrev pub decreases-replicated::steps : goal.decreases-replicated::steps
decreases-replicated::steps g l = 5 + 6 * height_of l.body.now

abbrev pub decreases-replicated::Instances::external : goal.decreases-replicated::Instances::external
decreases-replicated::Instances::external g l = 4 + 6 * height_of l.self.now.body.now

abbrev pub decreases-replicated::Instances::interleaving : goal.decreases-replicated::Instances::interleaving
decreases-replicated::Instances::interleaving g l = 4 + 6 * height_of l.self.now.body.now

abbrev pub decreases-replicated::Instances::internal : goal.decreases-replicated::Instances::internal
decreases-replicated::Instances::internal g l = 4 + 6 * height_of l.self.now.body.now

abbrev pub invariant-replicated::Instances::chain-loop-value : goal.invariant-replicated::Instances::chain-loop-value
invariant-replicated::Instances::chain-loop-value g l =
    (p : Process) → IsSideOf (script_of_parts l.self.script.now) p (Ok l.fn.first) →
    IsSideOf (script_of_parts l.self.script.now) (left_grouped (looking_process l.operator) p (instances_of l.self (take l.value-index l.others))) (Ok l.chain)

abbrev pub decreases-replicated::Instances::chain : goal.decreases-replicated::Instances::chain
decreases-replicated::Instances::chain g l = 3 + 6 * height_of l.self.now.body.now

abbrev pub decreases-replicated::Instances::side : goal.decreases-replicated::Instances::side
decreases-replicated::Instances::side g l = 2 + 6 * height_of l.self.now.body.now

abbrev pub decreases-steps : goal.decreases-steps
decreases-steps g l = 6 * height_of l.term.now
