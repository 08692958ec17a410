-- Putting no value in copies.
use Rattle.std.proofs.Common.{◌≡◌, IfOk, subst}
use Rattle.theory_syntax.specs.Process as pure
use Rattle.csp_events.specs.Events.{renaming_pair_of}
use Rattle.csp_events.proofs.EventPutting.{put_nothing_in_pair}
use Rattle.csp_events.proofs.renaming_pair.RenamingPair.try_copy.Goals as goal

pub returns : goal.returns
returns g c =
    let P : pure.RenamingPair → Type 0 = λ r. IfOk c.put_in.result (λ copy. renaming_pair_of copy ≡ r) in
    subst P (put_nothing_in_pair (renaming_pair_of c.args.self.now)) c.put_in.ensures
