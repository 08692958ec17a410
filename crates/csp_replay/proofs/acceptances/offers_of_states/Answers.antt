-- What one more state offers.
use Rattle.std.proofs.Common.{◌≡◌, ◌++◌, [], List, map, Contains, Some, sym, ◌∙◌, ap, subst, arith, inl, inr, lit≤}
use Rattle.std.proofs.lemmas.List.{length-map, map-append}
use Rattle.std.proofs.lemmas.Option.{slice_get-get_or}
use Rattle.theory_syntax.specs.Value as pure
use Rattle.theory_syntax.proofs.Places.{get_some}
use Rattle.theory_semantics.specs.Kinds.Scripts.{IsTermOf}
use Rattle.theory_semantics.specs.Meaning.Offers.{IsAcceptance}
use Rattle.theory_semantics.proofs.Rising.{Contains-from_stands}
use Rattle.theory_runs.specs.Gathering.{Gathers}
use Rattle.theory_runs.proofs.Gathering.{IsOfFirst, gather_none, gather_more, gather_all, gathers_list, gathers_same}
use Rattle.csp_value.specs.Action.{action_of}
use Rattle.csp_term.specs.Script.{script_of}
use Rattle.csp_term.specs.Term.{process_of}
use Rattle.csp_replay.specs.Offers.{offers_listed}
use Rattle.csp_replay.proofs.acceptances.offers_of_states.Goals as goal

pub loop-state-init : goal.loop-state-init
loop-state-init g c =
    let R = IsAcceptance (script_of c.args.script.now) in
    let states = map process_of c.args.states.now in
    let P : List (List pure.Action) → Type 0 = λ os. Gathers [] (IsOfFirst R states 0) os in
    subst P (sym (ap offers_listed c.new-all.ensures.items)) (gather_none R states [])

pub offers_of_term-requires : goal.offers_of_term-requires
offers_of_term-requires g c =
    let states = c.args.states.now in
    let i = c.loop-state.state-index in
    let u = c.state-item.result in
    let at = get_some process_of states i u (slice_get-get_or states i u c.loop-state-test.true ∙ ap Some (sym c.state-item.is)) in
    let closed : IsTermOf (script_of c.args.script.now) (process_of u) = c.requires (process_of u) (Contains-from_stands (map process_of states) (process_of u) (i, at)) in
    elim g.met.A.AllocHandle.small [ inl e ↦ rw (e.0, e.1) (search (lit≤, closed)) | inr e ↦ rw (e.0, e.1) (search (lit≤, closed)) ]

pub loop-state-preserved : goal.loop-state-preserved
loop-state-preserved g c =
    let script = script_of c.args.script.now in
    let states = c.args.states.now in
    let i = c.loop-state.state-index in
    let u = c.state-item.result in
    let at = get_some process_of states i u (slice_get-get_or states i u c.loop-state-test.true ∙ ap Some (sym c.state-item.is)) in
    let now = c.loop-state.all.items in
    let more = c.append.new.self.items in
    let offers = c.in_ok-offers.offers.items in
    let pushed : offers_listed more ≡ offers_listed now ++ offers_listed offers = ap offers_listed c.in_ok-append.ensures.items ∙ map-append (λ offer. map action_of offer.items) now offers in
    gather_more (IsAcceptance script) (map process_of states) [] i (offers_listed now) (offers_listed more) (process_of u) c.loop-state.invariant at
    (gathers_same (Contains (offers_listed offers)) (IsAcceptance script (process_of u)) (offers_listed now) (offers_listed more) (λ xs. ((c.in_ok-offers.ensures xs).1, (c.in_ok-offers.ensures xs).0)) (gathers_list (offers_listed now) (offers_listed offers) (offers_listed more) pushed))

pub returns : goal.returns
returns g c =
    let long = length-map c.args.states.now process_of in
    let past = c.loop-state-test.false in
    gather_all (IsAcceptance (script_of c.args.script.now)) (map process_of c.args.states.now) [] c.loop-state.state-index (offers_listed c.loop-state.all.items) c.loop-state.invariant (omega (arith, long, past))
