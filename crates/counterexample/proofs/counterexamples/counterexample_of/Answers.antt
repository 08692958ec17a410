-- The states of the replay, or why there are none.
use Rattle.std.proofs.Common.{Option, IfSome, map, sym, subst, inl, inr, lit≤}
use Rattle.theory_syntax.specs.Process.{Process}
use Rattle.theory_semantics.specs.Kinds.Scripts.{IsTermOf}
use Rattle.theory_explanation.specs.Counterexamples.{IsToldBeside}
use Rattle.csp_replay.specs.Replays.{TellsReplay}
use Rattle.csp_replay.specs.declared.replaying.Replay.{Replay}
use Rattle.csp_term.specs.Script.{assertion_of, script_of}
use Rattle.csp_term.specs.Term.{process_of}
use Rattle.verdict.specs.Outcome.{violation_of}
use Rattle.counterexample.specs.Counterexample.{IsReplayed, counterexample_of, specification_in}
use Rattle.counterexample.proofs.counterexamples.counterexample_of.Goals as goal

pub replay_of-requires : goal.replay_of-requires
replay_of-requires g c =
    let closed : IsTermOf (script_of c.args.script.now) (process_of c.args.assertion.now.implementation) = c.requires.terms.implementation in
    elim g.met.A.AllocHandle.small [ inl e ↦ rw (e.0, e.1) (search (lit≤, closed)) | inr e ↦ rw (e.0, e.1) (search (lit≤, closed)) ]

pub along-requires : goal.along-requires
along-requires g c =
    let script = script_of c.args.script.now in
    let a = assertion_of c.args.assertion.now in
    let v = violation_of c.args.shown.now in
    let start : IsTermOf script a.implementation = c.requires.terms.implementation in
    let S : Option Process → Type 0 = λ s. IfSome s (IsTermOf script) in
    let specification : IfSome (specification_in c.specification.result) (IsTermOf script) = subst S (sym c.specification.ensures) c.requires.terms.specification in
    let R : Replay g.row.A.Denot → Type 0 = λ r. TellsReplay script a.implementation v c.args.reach r in
    let replay : IsReplayed script a.implementation v (map process_of c.in-States.states.items) c.in-States.lasso = subst R c.in-States.is c.in_ok-replay.ensures in
    elim g.met.A.AllocHandle.small [
      | inl e ↦ rw (e.0, e.1) (search (lit≤, start, specification, replay))
      | inr e ↦ rw (e.0, e.1) (search (lit≤, start, specification, replay))
    ]

pub returns-in_ok-found-in-States : goal.returns-in_ok-found-in-States
returns-in_ok-found-in-States g c =
    let script = script_of c.args.script.now in
    let a = assertion_of c.args.assertion.now in
    let v = violation_of c.args.shown.now in
    let T : Option Process → Type 0 = λ spec. IsToldBeside script a.implementation script spec v c.args.most (counterexample_of c.in_ok-found-in-States.found) in
    subst T c.specification.ensures c.in_ok-found-in-States.ensures.told
