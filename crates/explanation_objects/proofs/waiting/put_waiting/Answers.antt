-- Where there are several parts, each is told.
use Rattle.std.proofs.Common.{◌≤◌, List, [], ◌∷◌, length, map, sym, subst, arith}
use Rattle.std.specs.Prelude.{codes}
use Rattle.theory_objects.specs.Accounts.{part_fields}
use Rattle.theory_objects.specs.Fields.{Field, field_tokens}
use Rattle.csp_print.specs.Names.{names_of}
use Rattle.counterexample.specs.Counterexample.{waiting_of}
use Rattle.explanation_objects.specs.Putting.{Puts}
use Rattle.explanation_objects.proofs.Objects.{listed_objects}
use Rattle.explanation_objects.proofs.Parts.{few_parts, many_parts}
use Rattle.explanation_objects.proofs.Putting.{HasPut, nothing}
use Rattle.explanation_objects.proofs.waiting.put_waiting.Goals as goal

pub returns-then-parts-lt2 : goal.returns-then-parts-lt2
returns-then-parts-lt2 g c =
    let few = c.if-parts-lt2.true in
    let P : List Field → Type 0 = λ fs. HasPut c.args.writer.now c.args.writer.now (field_tokens fs) in
    subst P (sym (few_parts (names_of c.args.names.now) c.args.parts.now (omega (arith, few)))) (nothing c.args.writer.now)

pub returns : goal.returns
returns g c =
    let names = names_of c.args.names.now in
    let ws = c.args.parts.now in
    let more = c.if-parts-lt2.false in
    let many : 2 ≤ length ws = omega (arith, more) in
    let r = c.end_array.result in
    let new = c.end_array.new.self in
    subst (Puts r c.args.writer.now new) (many_parts names ws many)
    (listed_objects r c.args.writer.now c.key.new.self c.begin_array.new.self c.put_each_part.new.writer new (codes "waiting") (map (part_fields names) (map waiting_of ws))
    (c.in_ok-key.ensures.room.0, c.in_ok-key.ensures.ok) (c.in_ok-begin_array.ensures.room.0, c.in_ok-begin_array.ensures.ok) c.in_ok-put_each_part.ensures c.end_array.ensures)
