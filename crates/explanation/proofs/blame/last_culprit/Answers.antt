-- The last of the states is the one that is looked at.
use Rattle.std.proofs.Common.{◌≡◌, ◌-◌, suc, List, [], ◌∷◌, length, map, slice_get, Some, sym, ◌∙◌, ap, subst, arith}
use Rattle.theory_syntax.specs.Process.{Script}
use Rattle.theory_faults.specs.Processes.{culprit_in}
use Rattle.theory_explanation.specs.Culprits.{last_culprit}
use Rattle.csp_term.specs.declared.term.Term.{Term}
use Rattle.csp_term.specs.Term.{process_of}
use Rattle.csp_faults.specs.Culprit.{Finds}
use Rattle.explanation.proofs.blame.last_culprit.Goals as goal

last_in : {A : Type 0} (s : Script) (ts : List (Term A)) (t : Term A) → Some t ≡ slice_get ts (length ts - 1) → last_culprit s (map process_of ts) ≡ culprit_in s (process_of t)
last_in s [] t is = absurd (cc is)
last_in s (u ∷ []) t is = let e : Some t ≡ Some u = is in let same : t ≡ u = cc e in ap (λ v. culprit_in s (process_of v)) (sym same)
last_in s (u ∷ v ∷ ts) t is = let e : length (u ∷ v ∷ ts) - 1 ≡ suc (length (v ∷ ts) - 1) = omega arith in last_in s (v ∷ ts) t (is ∙ ap (slice_get (u ∷ v ∷ ts)) e)

pub returns-in-Some : goal.returns-in-Some
returns-in-Some g c =
    subst (Finds c.culprit_in.result)
    (ap (λ s. culprit_in s (process_of c.in-Some.state.now)) c.parts.ensures.value ∙ sym (last_in c.args.script.now c.args.states.now c.in-Some.state.now c.in-Some.ensures.value))
    c.culprit_in.ensures
