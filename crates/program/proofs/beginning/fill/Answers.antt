use Rattle.std.proofs.Common.{ap, sym, subst, ◌∙◌, ◌++◌, ◌+◌, ◌-◌, arith, rules, length, le_refl, take}
use Rattle.std.proofs.lemmas.Slice.{take-put_mid_below}
use Rattle.std.specs.Io.KnownBytes.{Consumes}
use Rattle.std.proofs.KnownBytes.{Consumes-trans, Consumes-kept}
use borrow.Rule.Slice.PartMut.{put_mid}
use Rattle.program.proofs.FileBeginnings.{take_split, slice_range-put_mid}
use Rattle.program.proofs.beginning.fill.Goals as goal
use Rattle.program.proofs.beginning.fill.Goals.{in-Ok, in-Err}

pub loop-preserved : goal.loop-preserved
loop-preserved g c =
    let from = c.loop.filled in
    let room = length c.loop.room - from in
    let within = c.loop.invariant.1 in
    elim c.match-read.branch [
      | in-Ok w ↦
          let n = w.in-Ok.count in
          let part = slice_range-put_mid from room n c.loop.room c.read.new.buf within w.in-Ok.ensures.bound.0 in
          let joined = take_split from (from + n) c.loop.room (put_mid from room c.loop.room c.read.new.buf) (omega arith) (take-put_mid_below _ _ _ _ _ (le_refl _) within) in
          rw w.filled-is (search rules, search rules, subst (Consumes _ _) (ap (λ l. take from c.loop.room ++ l) (sym part) ∙ joined) (Consumes-trans _ _ _ _ _ c.loop.invariant.2 w.in-Ok.ensures.bytes.0))
      | in-Err w ↦
          rw w.filled-is (search rules, search rules, subst (Consumes _ _) (sym (take-put_mid_below _ _ _ _ _ (le_refl _) within)) (Consumes-kept _ _ _ _ c.loop.invariant.2 w.in-Err.ensures.bytes))
    ]
