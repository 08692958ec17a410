-- What is named stands there.
use Rattle.std.proofs.Common.{◌<◌, List, length, subst, inl, inr, lit≤}
use Rattle.std.proofs.lemmas.Option.{slice_get_within}
use Rattle.theory_walk.specs.Answers.{named}
use Rattle.theory_walk.specs.Moves as pure
use Rattle.theory_walk.specs.Moves.{moves_in}
use Rattle.csp_print.specs.Names.{names_of}
use Rattle.state_walk.specs.Naming.{IsNamed}
use Rattle.state_walk.specs.Walks.{menu_of, moves_listed}
use Rattle.state_walk.specs.declared.naming.Meant.{Meant}
use Rattle.state_walk.proofs.walk.Walk.take.Goals as goal

pub moves-requires : goal.moves-requires
moves-requires g c = elim g.met.A.AllocHandle.small [ inl e ↦ rw (e.0, e.1) (search (lit≤)) | inr e ↦ rw (e.0, e.1) (search (lit≤)) ]

pub named-requires : goal.named-requires
named-requires g c = elim g.met.A.AllocHandle.small [ inl e ↦ rw (e.0, e.1) (search (lit≤)) | inr e ↦ rw (e.0, e.1) (search (lit≤)) ]

pub go-requires-clause-inside : goal.go-requires-clause-inside
go-requires-clause-inside g c =
    let all = moves_listed c.moves.result.now in
    let meant = subst (λ (m : Meant). IsNamed all m (named (names_of c.args.names.now) all c.args.text.now)) c.in-One.is c.in_ok-found.ensures in
    subst (λ (ms : List pure.Move). c.in-One.place < length ms) c.moves.ensures (slice_get_within all c.in-One.place meant.0 meant.1)
