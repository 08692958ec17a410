-- What is found spreads the run, and its steps come from what is told.
use Rattle.std.proofs.Common.{◌≡◌, suc, List, Option, IfSome, length, map, sym, ap, subst, inl, inr, lit≤, arith}
use Rattle.std.proofs.lemmas.List.{length-map}
use Rattle.theory_syntax.specs.Process.{Script}
use Rattle.theory_syntax.specs.Readings.{by_tau}
use Rattle.theory_semantics.specs.Kinds.Scripts.{IsTermOf}
use Rattle.theory_spread_runs.specs.Spread.{Spreads}
use Rattle.theory_spread_runs.proofs.Spreading.{spread_even}
use Rattle.theory_explanation.specs.Counterexamples.{AreOriginsAlong}
use Rattle.csp_value.specs.Action.{action_of}
use Rattle.csp_value.specs.declared.action.Action.{Action}
use Rattle.csp_term.specs.Script.{script_of}
use Rattle.csp_term.specs.Term.{process_of}
use Rattle.csp_term.specs.declared.term.Term.{Term}
use Rattle.csp_replay.specs.declared.way_to_stuck.StuckRun.{StuckRun}
use Rattle.spread_runs.specs.Spread.{SpreadsRun}
use Rattle.spread_runs.specs.declared.runs.SpreadRun.{SpreadRun}
use Rattle.counterexample.specs.Counterexample.{origins_listed}
use Rattle.counterexample.proofs.Spreads.{term_written}
use Rattle.explanation.specs.ToldRuns.{SpreadsTold}
use Rattle.explanation.proofs.spread_sides.spread_told.Goals as goal

pub spread_run-requires : goal.spread_run-requires
spread_run-requires g c =
    let script = script_of c.args.script.now in
    let written = script_of c.in_ok-written.written in
    let t = process_of c.args.start.now in
    let closed : IsTermOf written t = term_written g.row.A.Denot script written c.in_ok-written.ensures t c.requires.closed in
    let path = ap length c.deref.ensures.value in
    let states = ap length c.deref-2.ensures.value in
    let long = c.requires.even in
    let even : length c.deref-2.result.now ≡ suc (length c.deref.result.now) = omega (arith, path, states, long) in
    elim g.met.A.AllocHandle.small [ inl e ↦ rw (e.0, e.1) (search (lit≤, closed, even)) | inr e ↦ rw (e.0, e.1) (search (lit≤, closed, even)) ]

pub told_run-requires : goal.told_run-requires
told_run-requires g c =
    let written = script_of c.in_ok-written.written in
    let t = process_of c.args.start.now in
    let run = c.in-Some.longer in
    let O : Option (SpreadRun g.row.A.Denot) → Type 0 = λ o. IfSome o (SpreadsRun written t (map action_of c.deref.result.now) (map process_of c.deref-2.result.now)) in
    let long = spread_even written (subst O c.in-Some.is c.in_ok-found.ensures) in
    let states = length-map run.states.items process_of in
    let actions = length-map run.path.items action_of in
    let even : length run.states.items ≡ suc (length run.path.items) = omega (arith, long, states, actions) in even

pub returns : goal.returns
returns g c =
    let script = script_of c.args.script.now in
    let written = script_of c.in_ok-written.written in
    let is : written ≡ by_tau script = c.in_ok-written.ensures in
    let t = process_of c.args.start.now in
    let told = c.args.told.now in
    let run = c.in-Some.longer in
    let longer = map action_of run.path.items in
    let more = map process_of run.states.items in
    let origins = origins_listed c.in_ok-spread.spread.origins.items in
    let O : Option (SpreadRun g.row.A.Denot) → Type 0 = λ o. IfSome o (SpreadsRun written t (map action_of c.deref.result.now) (map process_of c.deref-2.result.now)) in
    let found = subst O c.in-Some.is c.in_ok-found.ensures in
    let P : List (Action g.row.A.Denot) → Type 0 = λ path. Spreads written t (map action_of path) (map process_of c.deref-2.result.now) longer more in
    let S : List (Term g.row.A.Denot) → Type 0 = λ states. Spreads written t (map action_of told.run.path.items) (map process_of states) longer more in
    let W : Script → Type 0 = λ r. Spreads r t (map action_of told.run.path.items) (map process_of told.run.states.items) longer more in
    let G : Script → Type 0 = λ r. AreOriginsAlong r longer more origins in
    let T : StuckRun g.row.A.Denot → Type 0 = λ r. SpreadsTold script t told (record { run = r; origins = c.in_ok-spread.spread.origins }) in
    subst T (sym c.in_ok-spread.ensures.0)
    (record {
      at_once = c.requires.at_once;
      spread = subst W is (subst S c.deref-2.ensures.value (subst P c.deref.ensures.value found));
      told = subst G is c.in_ok-spread.ensures.1;
    })
