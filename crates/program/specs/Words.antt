-- What comes of the words that a program is started with.
use Rattle.std.specs.Prelude.{◌≡◌, ℕ, List}
use Rattle.std.specs.Borrow.{Bor, MutBor}
use Rattle.program.specs.Given.{Sent}
use Rattle.program.specs.Refusal.{refusal_line}
use Rattle.program.specs.Running.{IsGiven, texts_of}
use Rattle.program.specs.declared.refusal.Refusal.{Refusal}

-- Nothing is run: the line of a refusal was given to the error output, and nothing to the other one, and the status is
-- that of a refusal.
pub record IsUnrun (why : Refusal) (out err : Sent) (status : ℕ) : Type 0 where
  pub output : out.Unchanged
  pub line : IsGiven err (refusal_line why)
  pub told : status ≡ 3

-- A call on words of these texts, and on the two outputs, may answer the status, and leave them so.
pub record IsRun {O E : Type 0} (may_answer : Bor (List (Bor (List ℕ))) → MutBor O → MutBor E → ℕ → MutBor O → MutBor E → Type 0) (texts : List (List ℕ)) (old new : O) (told_old told_new : E) (status : ℕ) : Type 0 where
  pub words : Bor (List (Bor (List ℕ)))
  pub out : MutBor O
  pub err : MutBor E
  pub out_left : MutBor O
  pub err_left : MutBor E
  pub of_texts : texts_of words.now ≡ texts
  pub before : (out.now ≡ old) × (err.now ≡ told_old)
  pub called : may_answer words out err status out_left err_left
  pub after : (out_left.now ≡ new) × (err_left.now ≡ told_new)
