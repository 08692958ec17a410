use Rattle.std.proofs.Common.{Option, Some, subst}
use Rattle.theory_spelling.proofs.ShortLists.{within_is_short}
use Rattle.csp_term.specs.Script.{script_of}
use Rattle.csp_term.specs.Term.{process_of}
use Rattle.kept_parts.specs.declared.last_shape.LastShape.{LastShape}
use Rattle.kept_parts.specs.Known.{IsShapeAnswered}
use Rattle.kept_parts.proofs.Apart.{apart_in}
use Rattle.kept_parts.proofs.Keeping.{row_in_last}
use Rattle.kept_parts.proofs.known_parts.KnownParts.keep_shape.Goals as goal

pub places_of-requires : goal.places_of-requires
places_of-requires g c = within_is_short (process_of c.args.term.now) c.requires.within

pub returns-in_ok-turn_to_new-in-Some-clause-row : goal.returns-in_ok-turn_to_new-in-Some-clause-row
returns-in_ok-turn_to_new-in-Some-clause-row g c =
    let t = process_of c.args.term.now in
    let I : Option (LastShape g.row.A.Denot) → Type 0 = IsShapeAnswered (script_of c.args.script.now) t in
    let answered = subst I c.in-Some.is c.in_ok-shape.ensures in
    let row = apart_in c.args.self.now.parts t (process_of c.in-Some.shape.term) _ answered.0 c.requires.numbers c.in_ok-places-in-Some.ensures.runs in
    row_in_last c.args.self.now c.turn_to_new.new.self (Some c.in-Some.shape) t _ c.turn_to_new.ensures.parts c.turn_to_new.ensures.last row
