use Rattle.std.proofs.Common.{◌≡◌, ◌<◌, map, reverse}
use Rattle.theory_text.specs.Height.{ended_height, nest_height}
use Rattle.csp_parse.specs.Nests.{group_of, nest_of}
use Rattle.csp_parse.proofs.nests.Nest.height.Given as goal

abbrev pub invariant-loop-around : goal.invariant-loop-around
invariant-loop-around g l = nest_height (nest_of l.self) < 4294967296 → ended_height (group_of l.group) (reverse (map group_of l.around-iterator.iter.rest.now)) ≡ nest_height (nest_of l.self)
