-- One tau more.
use Rattle.std.proofs.Common.{◌≡◌, [], ◌∷◌, ◌++◌, map, replicate, sym, ◌∙◌, ap, arith}
use Rattle.std.proofs.lemmas.List.{map-append}
use Rattle.theory_syntax.specs.Value.{Tau}
use Rattle.csp_value.specs.Action.{action_of}
use Rattle.spread_runs.proofs.Rounds.{one_tau_more}
use Rattle.spread_runs.proofs.loops.taus.Goals as goal

pub loop-preserved : goal.loop-preserved
loop-preserved g c =
    let taus = c.loop.taus.items in
    let inside = c.loop-test.true in
    record {
      taus = ap (map action_of) c.in_ok-push.ensures.items ∙ map-append action_of taus _ ∙ ap (λ xs. xs ++ Tau ∷ []) c.loop.invariant.taus ∙ sym (one_tau_more c.loop.counter);
      few = omega (arith, inside);
    }

pub returns : goal.returns
returns g c =
    let past = c.loop-test.false in
    let few = c.loop.invariant.few in
    let end : c.loop.counter ≡ c.args.count = omega (arith, past, few) in
    c.loop.invariant.taus ∙ ap (λ n. replicate n Tau) end
