use Rattle.std.proofs.Common.{arith, refl}
use Rattle.std.proofs.lemmas.Bool.Decides.{Decides-eqb}
use Rattle.std.proofs.lemmas.Option.{slice_get_read}
use Rattle.std.proofs.lemmas.Slice.Eq.{strip_prefix_is}
use Rattle.std.specs.Prelude.{None, Some, length}
use Rattle.csp_rows.proofs.Fronts.{in_front, not_in_front}
use Rattle.csp_rows.proofs.splitting.run_of.Goals as goal

pub returns-in-Some-strip_prefix : goal.returns-in-Some-strip_prefix
returns-in-Some-strip_prefix g c =
    let n = c.args.number in
    let parts = c.args.parts.now in
    let bytes = c.args.bytes.now in
    let part = c.in-Some.part.now in
    let run = c.as_slice.result.now in
    let behind = c.in-Some-strip_prefix.behind in
    let there = slice_get_read parts (length parts) n.0 part refl c.in-Some.ensures.lookup.3.0 c.in-Some.ensures.lookup.1 in
    let is = strip_prefix_is Decides-eqb bytes run (Some behind) c.in-Some-strip_prefix.ensures.cases in
    ((0, omega arith, refl), in_front parts bytes n part run behind.now c.in-Some.ensures.lookup.3.0 there c.as_slice.ensures.value is)

pub returns-in-None : goal.returns-in-None
returns-in-None g c =
    let n = c.args.number in
    let parts = c.args.parts.now in
    let bytes = c.args.bytes.now in
    let part = c.in-Some.part.now in
    let run = c.as_slice.result.now in
    let there = slice_get_read parts (length parts) n.0 part refl c.in-Some.ensures.lookup.3.0 c.in-Some.ensures.lookup.1 in
    let never = strip_prefix_is Decides-eqb bytes run None c.in-None.ensures.cases in
    (not_in_front parts bytes n part run there c.as_slice.ensures.value never, tt)
