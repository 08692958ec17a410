-- The byte is kept behind the others, or there are enough of them.
use Rattle.std.proofs.Common.{arith}
use Rattle.walk_program.proofs.ReadLines.{kept_full, kept_whole}
use Rattle.walk_program.proofs.lines.keep.Goals as goal

pub returns-in_ok-push : goal.returns-in_ok-push
returns-in_ok-push g c =
    let few = c.if-len-le-MOST_BYTES.true in
    let size = c.len.ensures in
    let same = c.args.kept.now.ok.0 in
    kept_whole c.args.kept.now.items c.push.new.self.items c.args.byte (omega (arith, few, size, same)) c.in_ok-push.ensures.items

pub returns-else-len-le-MOST_BYTES : goal.returns-else-len-le-MOST_BYTES
returns-else-len-le-MOST_BYTES g c =
    let many = c.if-len-le-MOST_BYTES.false in
    let size = c.len.ensures in
    let same = c.args.kept.now.ok.0 in
    let few = c.requires in
    kept_full c.args.kept.now.items c.args.byte (omega (arith, many, size, same, few))
