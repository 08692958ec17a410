-- What a call answers.
use Rattle.std.specs.Prelude.{IfOk, OnOk, Result, Ok, Err}

-- what holds of a result that is there by what its call ensures
pub by_call : {X E : Type 0} (P Q : X → Type 0) (r : Result X E) → ((x : X) → P x → Q x) → IfOk r P → IfOk r Q
by_call P Q (Ok x) each h = each x h
by_call P Q (Err e) each h = h

-- what holds where a call ends well
pub by_end : {X E : Type 0} (P Q : Type 0) (r : Result X E) → (P → Q) → OnOk r P → OnOk r Q
by_end P Q (Ok x) so h = so h
by_end P Q (Err e) so h = h
