-- A set has its members, and no other value has any.
use Rattle.std.proofs.Common.{ap}
use Rattle.theory_semantics.specs.Meaning.Evaluation.{IllKinded}
use Rattle.theory_semantics.specs.Meaning.Events.{members_of}
use Rattle.csp_expression.proofs.Forming.{set_is}
use Rattle.csp_settling.proofs.Members.{no_members}
use Rattle.csp_moves.proofs.replicated.members_of_value.Goals as goal

pub returns-in-Set : goal.returns-in-Set
returns-in-Set g c = ap members_of (set_is c.args.value c.in-Set.members c.in-Set.is)

pub returns : goal.returns
returns g c = (IllKinded, no_members g.row.A g.A.Allocator c.args.value c.in_default.not-Set)
