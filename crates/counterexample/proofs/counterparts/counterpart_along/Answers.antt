-- The states along the path, and what is told of the last ones.
use Rattle.std.proofs.Common.{List, map, sym, subst, inl, inr, lit≤}
use Rattle.theory_semantics.specs.Kinds.Scripts.{IsTermOf}
use Rattle.theory_runs.specs.Acceptances.{AreLeastAcceptances}
use Rattle.theory_runs.specs.Initials.{AreInitials}
use Rattle.theory_runs.specs.Layers.{AreTermsOf}
use Rattle.csp_value.specs.Action.{action_of}
use Rattle.csp_term.specs.Script.{script_of}
use Rattle.csp_term.specs.Term.{process_of}
use Rattle.csp_term.specs.declared.term.Term.{Term}
use Rattle.csp_replay.specs.Along.{TellsStates}
use Rattle.csp_replay.specs.Offers.{offers_listed}
use Rattle.csp_replay.specs.declared.along.Along.{Along}
use Rattle.counterexample.proofs.Last.{last_closed, last_stands}
use Rattle.counterexample.proofs.counterparts.counterpart_along.Goals as goal

pub states_along-requires : goal.states_along-requires
states_along-requires g c =
    let closed : IsTermOf (script_of c.args.script.now) (process_of c.args.specification.now) = c.requires in
    elim g.met.A.AllocHandle.small [ inl e ↦ rw (e.0, e.1) (search (lit≤, closed)) | inr e ↦ rw (e.0, e.1) (search (lit≤, closed)) ]

pub returns-in_default : goal.returns-in_default
returns-in_default g c =
    let T : Along g.row.A.Denot → Type 0 = λ along. TellsStates (script_of c.args.script.now) (process_of c.args.specification.now) (map action_of c.args.path.now) c.args.most along in
    subst T c.in_default.is c.in_ok-along.ensures

pub initials_of-requires : goal.initials_of-requires
initials_of-requires g c =
    let script = script_of c.args.script.now in
    let t = process_of c.args.specification.now in
    let path = c.args.path.now in
    let T : Along g.row.A.Denot → Type 0 = λ along. TellsStates script t (map action_of path) c.args.most along in
    let told = subst T c.in-States.is c.in_ok-along.ensures in
    let P : List (Term g.row.A.Denot) → Type 0 = λ ts. AreTermsOf script (map process_of ts) in
    let closed : AreTermsOf script (map process_of c.deref.result.now) =
    subst P (sym c.deref.ensures.value) (last_closed script t path c.in-States.states.items told.0 c.index-last.result.now c.index-last.ensures c.requires) in
    elim g.met.A.AllocHandle.small [ inl e ↦ rw (e.0, e.1) (search (lit≤, closed)) | inr e ↦ rw (e.0, e.1) (search (lit≤, closed)) ]

pub least_acceptances_of-requires : goal.least_acceptances_of-requires
least_acceptances_of-requires g c =
    let script = script_of c.args.script.now in
    let t = process_of c.args.specification.now in
    let path = c.args.path.now in
    let T : Along g.row.A.Denot → Type 0 = λ along. TellsStates script t (map action_of path) c.args.most along in
    let told = subst T c.in-States.is c.in_ok-along.ensures in
    let P : List (Term g.row.A.Denot) → Type 0 = λ ts. AreTermsOf script (map process_of ts) in
    let closed : AreTermsOf script (map process_of c.deref-2.result.now) =
    subst P (sym c.deref-2.ensures.value) (last_closed script t path c.in-States.states.items told.0 c.index-last.result.now c.index-last.ensures c.requires) in
    elim g.met.A.AllocHandle.small [ inl e ↦ rw (e.0, e.1) (search (lit≤, closed)) | inr e ↦ rw (e.0, e.1) (search (lit≤, closed)) ]

pub returns : goal.returns
returns g c =
    let script = script_of c.args.script.now in
    let t = process_of c.args.specification.now in
    let path = c.args.path.now in
    let T : Along g.row.A.Denot → Type 0 = λ along. TellsStates script t (map action_of path) c.args.most along in
    let told = subst T c.in-States.is c.in_ok-along.ensures in
    let I : List (Term g.row.A.Denot) → Type 0 = λ ts. AreInitials script (map process_of ts) (map action_of c.in_ok-initials.initials.items) in
    let L : List (Term g.row.A.Denot) → Type 0 = λ ts. AreLeastAcceptances script (map process_of ts) (offers_listed c.in_ok-acceptances.acceptances.items) in
    record {
      along = told.0;
      small = told.1;
      last = map process_of c.index-last.result.now.items;
      at_end = last_stands script t path c.in-States.states.items told.0 c.index-last.result.now c.index-last.ensures;
      initials_of = subst I c.deref.ensures.value c.in_ok-initials.ensures;
      acceptances_of = subst L c.deref-2.ensures.value c.in_ok-acceptances.ensures;
    }
