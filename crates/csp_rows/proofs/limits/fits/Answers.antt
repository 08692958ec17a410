use Rattle.std.proofs.Common.{◌+◌, leb, arith}
use Rattle.std.proofs.lemmas.Bool.{leb-true}
use Rattle.csp_rows.proofs.Measuring.{limits_told}
use Rattle.csp_rows.proofs.limits.fits.Goals as goal

pub returns-then-grown-room-clause-limits : goal.returns-then-grown-room-clause-limits
returns-then-grown-room-clause-limits g c =
    let size_is = c.from.ensures in
    let put_in_is = c.put_in.ensures.total in
    let taken_out_is = c.taken_out-room.ensures.total in
    let few = c.if-grown-room.true in
    limits_told c.args.size c.args.changes.now c.args.row.now c.args.levels.now c.args.parts.now c.are_shallow.result
    (λ all. (omega (arith, few, size_is, put_in_is, taken_out_is), c.are_shallow.ensures.0 all), λ h. c.are_shallow.ensures.1 h.1)

pub returns-else-grown-room-clause-limits : goal.returns-else-grown-room-clause-limits
returns-else-grown-room-clause-limits g c =
    let size_is = c.from.ensures in
    let put_in_is = c.put_in.ensures.total in
    let taken_out_is = c.taken_out-room.ensures.total in
    let many = c.if-grown-room.false in
    let grown = c.from.result + c.put_in.result in
    let room = 2000 + c.taken_out-room.result in
    limits_told c.args.size c.args.changes.now c.args.row.now c.args.levels.now c.args.parts.now (leb grown room)
    (λ all. absurd (let h = leb-true grown room all in omega (arith, many, h)), λ h. absurd (let few = h.0 in omega (arith, few, many, size_is, put_in_is, taken_out_is)))
