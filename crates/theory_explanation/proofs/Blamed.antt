-- What is to blame at the end of a run that is told.
use Rattle.std.proofs.Common.{◌≡◌, List, [], ◌∷◌, ◌∙◌, sym, subst, ap, Option, Some}
use Rattle.theory_syntax.specs.Value.{Action}
use Rattle.theory_syntax.specs.Process.{Process, Script}
use Rattle.theory_semantics.specs.Meaning.Evaluation.{Cause}
use Rattle.theory_origins.specs.Origin.{Origin}
use Rattle.theory_faults.specs.Culprit.{Culprit}
use Rattle.theory_faults.specs.Processes.{culprit_in}
use Rattle.theory_faults.specs.Truth.{IsToBlame}
use Rattle.theory_faults.proofs.Processes.{culprit_explains}
use Rattle.theory_runs.specs.States.{Visits}
use Rattle.theory_runs.specs.Stuck.{ByCause}
use Rattle.theory_explanation.specs.Culprits.{last_culprit}
use Rattle.theory_explanation.specs.Faults.{IsToldRun}

-- the states on the way of a path begin with the first one
begins : (script : Script) (path : List Action) (t end : Process) (states : List Process) → Visits script t path states end → (rest : List Process) × (states ≡ t ∷ rest)
begins script [] t end states visits = ([], visits.0)
begins script (x ∷ path) t end states visits = (visits.1, visits.2)

-- and the last one is the end
last_visited : (script : Script) (path : List Action) (t end : Process) (states : List Process) → Visits script t path states end → last_culprit script states ≡ culprit_in script end
last_visited script [] t end states visits = ap (last_culprit script) visits.0 ∙ ap (culprit_in script) visits.1
last_visited script (x ∷ path) t end states visits =
    let behind = begins script path visits.0 end visits.1 visits.4 in
    ap (last_culprit script) (visits.2 ∙ ap (λ us. t ∷ us) behind.1) ∙ ap (last_culprit script) (sym behind.1) ∙ last_visited script path visits.0 end visits.1 visits.4

pub run_blamed : (script : Script) (t : Process) (why : Cause) (path : List Action) (states : List Process) (origins : List (Option Origin)) →
    IsToldRun script t (ByCause why) path states origins → IsToBlame script (last_culprit script states) (Some why)
run_blamed script t why path states origins told =
    let end = told.run.end in
    let P : Option Culprit → Type 0 = λ o. IsToBlame script o (Some why) in
    let Q : Option Cause → Type 0 = λ o. IsToBlame script (culprit_in script end) o in
    subst P (sym (last_visited script path t end states told.run.visits)) (subst Q told.run.stuck.cause (culprit_explains script end))
