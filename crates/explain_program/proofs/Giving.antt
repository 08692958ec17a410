-- One explanation that is given to a sink.
use Rattle.std.proofs.Common.{◌≡◌, ℕ, zero, suc, ◌<◌, Bool, List, [], ◌∷◌, length, map, get_or, refl, sym, ap, subst, append-nil, arith}
use Rattle.std.specs.Prelude.{Option}
use Rattle.theory_syntax.specs.Process.{Script, Assertion}
use Rattle.theory_search.specs.Outcome.{Bounds, Outcome, Holds, Fails, Unknown, Denied}
use Rattle.theory_search.specs.Truth.{IsRight, IsRightAsWritten}
use Rattle.explanation.specs.Running.{HasViolation}
use Rattle.report.specs.Sending.{Sends}
use Rattle.theory_unfolding.specs.Assertions.{settled_assertion}
use Rattle.program.specs.Running.{outcome_status}
use Rattle.program.proofs.Answering.{right_read}
use Rattle.explain_program.specs.Asking.{Request, one_at}
use Rattle.explain_program.specs.Giving.{AreTold, GoesOut}
use Rattle.named_scripts.specs.Naming.{Labels}
use Rattle.explain_program.specs.Telling.{IsToldAsAsked}

-- the assertion at the place is the only one there
pub alone_at : {S : Type 0} (assertion_of : S → Assertion) (assertions : List S) (i : ℕ) (a : S) → i < length assertions → a ≡ get_or assertions i a → one_at i (map assertion_of assertions) ≡ assertion_of a ∷ []
alone_at assertion_of [] i a within read = absurd (omega (arith, within))
alone_at assertion_of (x ∷ xs) zero a within read = ap (λ y. assertion_of y ∷ []) (sym read)
alone_at assertion_of (x ∷ xs) (suc i) a within read = alone_at assertion_of xs i a (omega (arith, within)) read

-- a right outcome of one assertion, told in a text
pub one_told : (request : Request) (script : Script) (labels : Labels) (n : ℕ) (asked : List Assertion) (a : Assertion) (o : Outcome) (Q : List Outcome → List ℕ → Type 0) → asked ≡ a ∷ [] →
    IsRightAsWritten script (settled_assertion script a) request.bounds o → (text : List ℕ) → IsToldAsAsked request script labels n a (settled_assertion script a) o text → Q (o ∷ []) text → AreTold request script labels n asked Q
one_told request script labels n asked a o Q alone right text told out =
    let T : List Assertion → Type 0 = λ xs. AreTold request script labels n xs Q in
    subst T (sym alone) (record {
      outcomes = o ∷ [];
      text = text;
      right = (right_read script request.bounds script.unfolds refl a o right, tt);
      told = (text, [], sym (append-nil text), told, refl);
      went_out = out;
    })

-- it went out, and the status is that of the one outcome
pub went_out : (o : Outcome) (old new : Option (List ℕ)) (failed : Bool) (text : List ℕ) → Sends old new failed text → GoesOut old new failed (outcome_status o) (o ∷ []) text
went_out o old new failed text sends = record { bytes = sends; status_is = omega arith }

-- a violation that a right outcome shows is one
pub right_has_violation : (script : Script) (a : Assertion) (bounds : Bounds) (o : Outcome) → IsRight script a bounds o → HasViolation script a o
right_has_violation script a bounds Holds right = tt
right_has_violation script a bounds (Fails v) right = right.true_of
right_has_violation script a bounds (Unknown why) right = tt
right_has_violation script a bounds Denied right = tt
