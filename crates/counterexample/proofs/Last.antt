-- The last of the states along a path.
use Rattle.std.proofs.Common.{◌≡◌, ◌<◌, ℕ, suc, List, [], ◌∷◌, Vec, Some, length, get_or, slice_get, map, sym, ◌∙◌, ap, subst, arith}
use Rattle.std.proofs.lemmas.List.{length-map}
use Rattle.std.proofs.lemmas.Option.{slice_get-get_or, slice_get_within}
use Rattle.theory_syntax.specs.Value as pure
use Rattle.theory_syntax.specs.Process.{Process, Script}
use Rattle.theory_syntax.proofs.Places.{get_some}
use Rattle.theory_semantics.specs.Kinds.Scripts.{IsTermOf}
use Rattle.theory_semantics.specs.Meaning.Runs.{trace}
use Rattle.theory_semantics.specs.Meaning.Violations.{Violation}
use Rattle.theory_semantics.proofs.KindedSteps.{run_closed}
use Rattle.theory_runs.specs.Layers.{AreTermsOf}
use Rattle.theory_runs.specs.States.{AreStatesAlong, IsReplay, Visits}
use Rattle.theory_runs.proofs.Along.{along_last}
use Rattle.theory_runs.proofs.Visiting.{run_of}
use Rattle.theory_runs.proofs.Closing.{after_closed}
use Rattle.csp_value.specs.Action.{action_of}
use Rattle.csp_value.specs.declared.action.Action.{Action}
use Rattle.csp_term.specs.Term.{process_of}
use Rattle.csp_term.specs.declared.term.Term.{Term}
use Rattle.csp_replay.specs.Along.{states_listed}

module _ {A : Type 0} (script : Script) (t : Process) (path : List (Action A)) (all : List (Vec (Term A) A)) (along : AreStatesAlong script t (map action_of path) (states_listed all)) where
  -- there are states after the whole path
  pub has_last : length path < length all
  has_last =
      let long = length-map path action_of in
      let many = length-map all (λ states. map process_of states.items) in
      let is = along.long in
      omega (arith, long, many, is)

  module _ (last : Vec (Term A) A) (read : last ≡ get_or all (length path) last) where
    pub last_stands : slice_get (states_listed all) (length (map action_of path)) ≡ Some (map process_of last.items)
    last_stands =
        let at = get_some (λ states. map process_of states.items) all (length path) last (slice_get-get_or all (length path) last has_last ∙ ap Some (sym read)) in
        subst (λ k. slice_get (states_listed all) k ≡ Some (map process_of last.items)) (sym (length-map path action_of)) at

    -- they are terms of the script
    pub last_closed : IsTermOf script t → AreTermsOf script (map process_of last.items)
    last_closed closed = after_closed script t (trace (map action_of path)) (map process_of last.items) (along_last script t (map action_of path) (states_listed all) (map process_of last.items) along last_stands) closed

-- the last of the states on the way of a path is its end
pub last_visited : (script : Script) (path : List pure.Action) (t u : Process) (states : List Process) → Visits script t path states u → slice_get states (length path) ≡ Some u
last_visited script [] t u states visits = ap (λ ss. slice_get ss 0) visits.0 ∙ ap Some visits.1
last_visited script (x ∷ path) t u states visits = ap (λ ss. slice_get ss (suc (length path))) visits.2 ∙ last_visited script path visits.0 u visits.1 visits.4

-- it stands for the one that is read there
pub last_read : {A : Type 0} (script : Script) (path : List pure.Action) (t u : Process) (states : List (Term A)) (i : ℕ) (last : Term A) → Visits script t path (map process_of states) u → i ≡ length path →
    last ≡ get_or states i last → process_of last ≡ u
last_read script path t u states i last visits same read =
    let at = last_visited script path t u (map process_of states) visits in
    let here : slice_get (map process_of states) i ≡ Some u = ap (slice_get (map process_of states)) same ∙ at in
    let long = length-map states process_of in
    let inside : i < length (map process_of states) = slice_get_within (map process_of states) i u here in
    let stands = get_some process_of states i last (slice_get-get_or states i last (omega (arith, long, inside)) ∙ ap Some (sym read)) in
    let e : Some (process_of last) ≡ Some u = sym stands ∙ here in cc e

-- the end of a replay from a term of the script is one
pub end_closed : (script : Script) (p : Process) (v : Violation) (states : List Process) (replay : IsReplay script p v states) → IsTermOf script p → IsTermOf script replay.end
end_closed script p v states replay closed =
    (closed.0, closed.1, run_closed script closed.0 closed.1.sets closed.1.equations v.path p replay.end (run_of script v.path p replay.end states replay.visits) closed.2)
