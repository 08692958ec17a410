-- The state where the walk stands is the last one.
use Rattle.std.proofs.Common.{[], ◌∷◌, List, Option, IfSome, map, sym, ◌∙◌, ap, subst}
use Rattle.std.proofs.lemmas.List.{map-append}
use Rattle.theory_syntax.specs.Process.{Process}
use Rattle.theory_spread_runs.specs.Spread.{Spreads}
use Rattle.csp_value.specs.Action.{action_of}
use Rattle.csp_term.specs.Script.{script_of}
use Rattle.csp_term.specs.Term.{process_of}
use Rattle.spread_runs.specs.Spread.{SpreadsWalk}
use Rattle.spread_runs.specs.declared.walk.Walk.{Walk}
use Rattle.spread_runs.proofs.runs.spread_run.Goals as goal

pub returns : goal.returns
returns g c =
    let written = script_of c.args.written.now in
    let t = process_of c.args.start.now in
    let path = map action_of c.args.path.now in
    let states = map process_of c.args.states.now in
    let walk = c.in-Some.walk in
    let O : Option (Walk g.row.A.Denot) → Type 0 = λ o. IfSome o (SpreadsWalk written t path states) in
    let spread = subst O c.in-Some.is c.in_ok-found.ensures in
    let M : List Process → Type 0 = λ ms. Spreads written t path states (map action_of walk.path.items) ms in
    subst M (sym (ap (map process_of) c.in_ok-push.ensures.items ∙ map-append process_of walk.behind.items (walk.here ∷ []))) spread
