use Rattle.std.proofs.Common.{◌≡◌, ◌++◌, ◌∷◌, []}
use Rattle.std.proofs.lemmas.Result.{err_from_is_err_and}
use Rattle.std.proofs.lemmas.List.{map_push}
use Rattle.csp_events.specs.Events.{renaming_pair_of, renaming_pairs_of}
use Rattle.theory_spelling.specs.Reading.{items_at, pair_at}
use Rattle.csp_spell.proofs.Repeating.{goes_on, ends, is_done}
use Rattle.csp_spell.proofs.read_events.read_each_pair.Goals as goal

pub returns-in_err-pair : goal.returns-in_err-pair
returns-in_err-pair g c =
    let read = pair_at c.args.depth in
    let e = err_from_is_err_and c.from_residual.result c.from_residual.ensures.1 in
    rw (e.1, e.2) (ends read (items_at read c.args.count c.args.bytes.now) c.in_err-pair.field-0.0 (renaming_pairs_of c.loop.pairs.items) c.args.count c.loop.counter c.loop.rest.now c.loop-test.true c.in_err-pair.ensures c.loop.invariant)

pub loop-preserved : goal.loop-preserved
loop-preserved g c =
    let read = pair_at c.args.depth in
    let x = c.in_ok-pair.pair in
    let e : renaming_pairs_of c.push.new.self.items ≡ renaming_pairs_of c.loop.pairs.items ++ renaming_pair_of x ∷ [] = rw c.in_ok-push.ensures.items (map_push _ c.loop.pairs.items x) in
    rw e (goes_on read (items_at read c.args.count c.args.bytes.now) (renaming_pairs_of c.loop.pairs.items) c.args.count c.loop.counter c.loop.rest.now (renaming_pair_of x) c.in_ok-pair.after.now c.loop-test.true c.in_ok-pair.ensures c.loop.invariant)

pub returns : goal.returns
returns g c =
    let read = pair_at c.args.depth in
    is_done read (items_at read c.args.count c.args.bytes.now) (renaming_pairs_of c.loop.pairs.items) c.args.count c.loop.counter c.loop.rest.now c.loop-test.false c.loop.invariant
