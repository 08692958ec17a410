-- What terms are unfolded to, as the code tells it. Of what is past the limits nothing is told but that.
use Rattle.std.specs.Prelude.{◌≡◌, ◌⊎◌, ⊤, ℕ, Bool, true, false, IsFalse, cond, List, Option, Some, None, Result, Ok, Err, option_map}
use denote.Ref.{Bor}
use Rattle.theory_syntax.specs.Value.{Value}
use Rattle.theory_syntax.specs.Process.{Process}
use Rattle.theory_semantics.specs.Meaning.Evaluation.{Cause}
use Rattle.theory_semantics.specs.Meaning.Limits.{fits}
use Rattle.theory_semantics.specs.Meaning.Unfolding.{chained, unfold_calls, unfolded_or, settled_within}
use Rattle.csp_expression.specs.Agreement.{AgreesBy}
use Rattle.csp_expression.specs.declared.no_value.NoValue.{NoValue}
use Rattle.csp_term.specs.declared.term.Term.{Term}
use Rattle.csp_term.specs.declared.script.ScriptParts.{ScriptParts}
use Rattle.csp_term.specs.Script.{script_of_parts}
use Rattle.csp_term.specs.Term.{process_of}
use Rattle.csp_settling.specs.declared.truth.Decision.{Decision}
use Rattle.csp_settling.specs.declared.truth.Decision.TheVariants as decision
use Rattle.csp_settling.specs.declared.unfolded.Unfolded.{Unfolded}
use Rattle.csp_settling.specs.declared.unfolded.Unfolded.TheVariants as unfolded
use Rattle.csp_settling.specs.declared.unfolded.Sides.{Sides}
use Rattle.csp_settling.specs.declared.unfolded.Sides.TheVariants as sides

-- the first process is unfolded to the second one
abbrev pub TellsUnfolded : {A : Type 0} → Process → Process → Unfolded A → Type 0
TellsUnfolded p v unfolded.Same = v ≡ p
TellsUnfolded p v (unfolded.To t) = process_of t ≡ v
TellsUnfolded p v unfolded.Past = IsFalse (fits v)

abbrev pub IsPast : {A : Type 0} → Unfolded A → Type 0
IsPast unfolded.Past = ⊤
IsPast _ = ⊥

-- p is unfolded to v, and q to w
abbrev pub TellsSides : {A : Type 0} → Process → Process → Process → Process → Sides A → Type 0
TellsSides p v q w sides.Same = (v ≡ p) × (w ≡ q)
TellsSides p v q w (sides.To l r) = (process_of l ≡ v) × (process_of r ≡ w)
TellsSides p v q w sides.Past = IsFalse (fits v) ⊎ IsFalse (fits w)

-- the call in whose body a term stands, if it stands in one
abbrev pub call_of : {A : Type 0} → Option (Bor (Term A)) → Option Process
call_of within = option_map (λ t. process_of t.now) within

-- the process with its active calls unfolded, each with at most so many more in a row
abbrev pub calls_unfolded : {A : Type 0} → ScriptParts A → ℕ → Option (Bor (Term A)) → Process → Process
calls_unfolded script more within p = unfold_calls (script_of_parts script) (settled_within more (script_of_parts script)) (call_of within) p

-- the term is the process, if that is within the limits
abbrev pub IsWithin : {A : Type 0} → Option (Term A) → Process → Type 0
IsWithin o p = option_map process_of o ≡ cond (fits p) (Some p) None

-- what a call stands for, if it is within the limits, or the first cause
abbrev pub IsCalled : {A : Type 0} → Result (Option (Term A)) NoValue → Result Process Cause → Type 0
IsCalled x r = AgreesBy (λ o r. (p : Process) × (r ≡ Ok p) × IsWithin o p) x r

-- The chain of the instances, if there are any: what a replicated form stands for, whatever stands for a chain of none.
abbrev pub IsChain : {A : Type 0} → (Process → Process → Process) → ℕ → Process → Result (List Value) Cause → Option (Term A) → Type 0
IsChain op n p r (Some t) = (empty : Process) → chained op empty n p r ≡ Some (process_of t)
IsChain op n p r None = (empty : Process) → (chained op empty n p r ≡ None) ⊎ (chained op empty n p r ≡ Some empty)

-- A form that stands for this process is seen through by the term of it. Without a term, the form is left.
abbrev pub IsSeenAs : {A : Type 0} → ScriptParts A → ℕ → Option (Bor (Term A)) → Option Process → Option (Term A) → Type 0
IsSeenAs script more within o (Some t) = o ≡ Some (process_of t)
IsSeenAs script more within o None = (p : Process) → unfolded_or (settled_within more (script_of_parts script) (call_of within)) p o ≡ p

-- what is told of the truth of a condition
abbrev pub IsTruth : Result Bool Cause → Decision → Type 0
IsTruth r decision.Holds = r ≡ Ok true
IsTruth r decision.Fails = r ≡ Ok false
IsTruth r decision.Faulty = (c : Cause) × (r ≡ Err c)
