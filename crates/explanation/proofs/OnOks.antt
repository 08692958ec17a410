-- What holds where a call was well.
use Rattle.std.proofs.Common.{Result, Ok, Err, IfOk}

pub if_ok_so : {T E : Type 0} (r : Result T E) (P Q : T → Type 0) → ((t : T) → P t → Q t) → IfOk r P → IfOk r Q
if_ok_so (Ok t) P Q weaker is = weaker t is
if_ok_so (Err e) P Q weaker is = tt
