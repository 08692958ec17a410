-- What holds of an answer, where there is one.
use Rattle.std.proofs.Common.{Result, Ok, Err, IfOk}

pub if_ok-map : {T E : Type 0} (P Q : T → Type 0) (r : Result T E) → ((x : T) → P x → Q x) → IfOk r P → IfOk r Q
if_ok-map P Q (Ok x) f h = f x h
if_ok-map P Q (Err e) f h = tt
