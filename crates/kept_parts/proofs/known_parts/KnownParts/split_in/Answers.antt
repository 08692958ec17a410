use Rattle.kept_parts.proofs.Keeping.{split_found}
use Rattle.kept_parts.proofs.known_parts.KnownParts.split_in.Goals as goal

pub returns-in_ok-row-in-Some : goal.returns-in_ok-row-in-Some
returns-in_ok-row-in-Some g c =
    split_found c.args.self.now c.requires.known.parts c.all.ensures.serve c.args.shape.now c.requires.shape c.in-Some.last c.in-Some.is c.args.term.now c.bytes.result.now c.bytes.ensures.spelled c.all.result.now c.all.ensures.all c.deref.result.now c.deref.ensures.value _ c.in_ok-row-in-Some.row
    c.in_ok-row-in-Some.ensures
