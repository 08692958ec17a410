-- One part is put behind the other.
use Rattle.std.proofs.Common.{◌≡◌, ◌+◌, List, [], ◌∷◌, suc, add-one, map, drop, drop-cons, sym, ap, ◌∙◌}
use Rattle.std.proofs.lemmas.List.{drop_all}
use Rattle.theory_objects.specs.Accounts.{part_fields}
use Rattle.csp_print.specs.Names.{names_of}
use Rattle.counterexample.specs.Counterexample.{waiting_of}
use Rattle.counterexample.specs.declared.waiting.Waiting.{Waiting}
use Rattle.explanation_objects.specs.Putting.{object_tokens, objects_tokens}
use Rattle.explanation_objects.proofs.Putting.{comes_to_end, goes_on}
use Rattle.explanation_objects.proofs.waiting.put_each_part.Goals as goal

pub loop-part-preserved : goal.loop-part-preserved
loop-part-preserved g c =
    let all = c.args.parts.now in
    let i = c.loop-part.part-index in
    let x = c.part-item.result in
    let names = names_of c.args.names.now in
    let left = λ (xs : List (Waiting g.row.A.Denot)). objects_tokens (map (part_fields names) (map waiting_of xs)) in
    let first : drop i all ≡ x ∷ drop (i + 1) all = rw add-one (drop-cons all i x c.loop-part-test.true ∙ ap (λ y. y ∷ drop (suc i) all) (sym c.part-item.is)) in
    goes_on c.args.writer.now c.loop-part.writer c.put_part.new.writer (object_tokens (part_fields names (waiting_of x))) (left (drop i all)) (left (drop (i + 1) all)) (left all) c.loop-part.invariant (ap left first) c.in_ok-put_part.ensures

pub returns : goal.returns
returns g c =
    let all = c.args.parts.now in
    let names = names_of c.args.names.now in
    let left = λ (xs : List (Waiting g.row.A.Denot)). objects_tokens (map (part_fields names) (map waiting_of xs)) in
    comes_to_end c.args.writer.now c.loop-part.writer (left (drop c.loop-part.part-index all)) (left all) c.loop-part.invariant (ap left (drop_all c.loop-part.part-index all c.loop-part-test.false))
