-- A text that is given to an output, whatever comes of it.
use Rattle.std.proofs.Common.{List, ℕ, inl, inr}
use Rattle.std.specs.Prelude.{Result, Ok, Err, OnOk, OnErr}
use Rattle.report.specs.Sending.{Sends, Breaks}
use Rattle.program.specs.Given.{Sent}
use Rattle.program.specs.Running.{IsGiven}

pub given : {X E : Type 0} (out : Sent) (text : List ℕ) (r : Result X E) → OnOk r (Sends out.old out.new out.failed text) → OnErr r (Breaks out.old out.new out.failed text) → IsGiven out text
given out text (Ok x) sends breaks = inl sends
given out text (Err e) sends breaks = inr breaks
