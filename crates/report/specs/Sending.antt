-- What a sink does with what it is given.
use Rattle.std.specs.Prelude.{◌≡◌, ℕ, zero, suc, Bool, true, false, List, [], ◌∷◌, ◌++◌, Option, Result, Ok, Err, OnOk, OnErr}
use Rattle.std.specs.Io.KnownBytes.{Appends}

-- a call that failed, or that took nothing of a text that is not empty
abbrev pub breaks_down : {E : Type 0} → Result ℕ E → List ℕ → Bool
breaks_down (Err e) text = true
breaks_down (Ok n) [] = false
breaks_down (Ok zero) (b ∷ text) = true
breaks_down (Ok (suc n)) (b ∷ text) = false

-- The whole text was taken, and the sink has not failed.
pub record Sends (old new : Option (List ℕ)) (failed : Bool) (text : List ℕ) : Type 0 where
  pub bytes : Appends old new text
  pub works : failed ≡ false

-- A beginning of the text was taken, and the sink has failed.
pub record Breaks (old new : Option (List ℕ)) (failed : Bool) (text : List ℕ) : Type 0 where
  pub sent : List ℕ
  pub lost : List ℕ
  pub beginning : text ≡ sent ++ lost
  pub bytes : Appends old new sent
  pub broken : failed ≡ true

-- A text was given to a sink. Where the answer is good, it went out whole; where it is an error, a beginning of it did,
-- and the sink has failed.
abbrev pub IsSent : {S T E : Type 0} → (S → Option (List ℕ)) → (S → Bool) → S → S → List ℕ → Result T E → Type 0
IsSent taken has_failed old new text answer = OnOk answer (Sends (taken old) (taken new) (has_failed new) text)

abbrev pub IsCutShort : {S T E : Type 0} → (S → Option (List ℕ)) → (S → Bool) → S → S → List ℕ → Result T E → Type 0
IsCutShort taken has_failed old new text answer = OnErr answer (Breaks (taken old) (taken new) (has_failed new) text)
