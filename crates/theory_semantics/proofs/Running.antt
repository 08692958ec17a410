-- Runs that go on by one step, and their traces.
use Rattle.std.proofs.Common.{◌≡◌, List, [], ◌∷◌, ◌++◌, refl, sym, ap, subst}
use Rattle.theory_syntax.specs.Value.{Action, Tau, Tick, Ev}
use Rattle.theory_syntax.specs.Process.{Process, Script}
use Rattle.theory_semantics.specs.Meaning.Transitions.{IsVisible, Step}
use Rattle.theory_semantics.specs.Meaning.Runs.{Run, trace, IsTrace}

pub trace-append : (p q : List Action) → trace (p ++ q) ≡ trace p ++ trace q
trace-append [] q = refl
trace-append (Tau ∷ p) q = trace-append p q
trace-append (Tick ∷ p) q = ap (λ s. Tick ∷ s) (trace-append p q)
trace-append (Ev e ∷ p) q = ap (λ s. Ev e ∷ s) (trace-append p q)

-- a visible action stays in the trace, and tau does not
pub trace-visible : (x : Action) → IsVisible x → trace (x ∷ []) ≡ x ∷ []
trace-visible Tau v = absurd v
trace-visible Tick v = refl
trace-visible (Ev e) v = refl

pub Run-snoc : (script : Script) (p : List Action) (t u v : Process) (x : Action) → Run script t p u → Step script u x v → Run script t (p ++ x ∷ []) v
Run-snoc script [] t u v x run step = (v, subst (λ w. Step script w x v) (sym run) step, refl)
Run-snoc script (y ∷ p) t u v x run step = (run.0, run.1, Run-snoc script p run.0 u v x run.2 step)

-- the trace of a path that goes on by a visible action
pub snoc_trace : (p : List Action) (x : Action) → IsVisible x → trace (p ++ x ∷ []) ≡ trace p ++ x ∷ []
snoc_trace p x v = rw (trace-append p (x ∷ []), trace-visible x v) refl

-- every process has the empty trace
pub empty_trace : (script : Script) (t : Process) → IsTrace script t []
empty_trace script t = (t, ([], refl, refl))
