-- Where the steps come from, what the specification has beside them, the loop, and the parts that wait.
use Rattle.std.proofs.Common.{◌≡◌, ◌∙◌, suc, List, IfSome, length, map, option_map, sym, subst, ap, inl, inr, lit≤, lit<, arith}
use Rattle.std.proofs.lemmas.List.{length-map}
use Rattle.theory_semantics.specs.Kinds.Scripts.{IsTermOf}
use Rattle.theory_explanation.specs.Counterexamples.{AreOriginsAlong, AreWaitingFor, IsCounterpartFor}
use Rattle.theory_explanation.proofs.Replays.{replay_length}
use Rattle.csp_value.specs.Action.{action_of}
use Rattle.csp_value.specs.declared.action.Action.{Action}
use Rattle.csp_term.specs.Script.{script_of}
use Rattle.csp_term.specs.Term.{process_of}
use Rattle.csp_term.specs.declared.term.Term.{Term}
use Rattle.verdict.specs.Outcome.{evidence_of, violation_of}
use Rattle.counterexample.specs.Counterexample.{counterpart_of, origins_listed, specification_in, waiting_of}
use Rattle.counterexample.proofs.Last.{end_closed, last_read}
use Rattle.counterexample.proofs.LoopsOf.{comes_back, loop_told}
use Rattle.counterexample.proofs.counterexamples.along.Goals as goal

pub origins_along-requires : goal.origins_along-requires
origins_along-requires g c =
    let states = c.args.states.items in
    let long = replay_length (script_of c.args.sides.now.script.now) (process_of c.args.sides.now.start.now) (violation_of c.args.shown.now) (map process_of states) c.requires.replay.0 in
    let terms = length-map states process_of in
    let actions = length-map c.args.shown.now.path.items action_of in
    let path = ap length c.deref.ensures.value in
    let read = ap length c.deref-2.ensures.value in
    let given : length c.deref-2.result.now ≡ suc (length c.deref.result.now) = omega (arith, long, terms, actions, path, read) in
    elim g.met.A.AllocHandle.small [ inl e ↦ rw (e.0, e.1) (search (lit≤, given)) | inr e ↦ rw (e.0, e.1) (search (lit≤, given)) ]

pub counterpart_for-requires : goal.counterpart_for-requires
counterpart_for-requires g c =
    let given : IfSome (specification_in c.args.sides.now.specification) (IsTermOf (script_of c.args.sides.now.other.now)) = c.requires.specification in
    elim g.met.A.AllocHandle.small [ inl e ↦ rw (e.0, e.1) (search (lit≤, given)) | inr e ↦ rw (e.0, e.1) (search (lit≤, given)) ]

pub looping_of-requires : goal.looping_of-requires
looping_of-requires g c = comes_back g.row.A.Denot (script_of c.args.sides.now.script.now) (evidence_of c.args.shown.now.evidence) c.requires.replay.0.end c.args.lasso c.requires.replay.1

pub drop-origins-requires-room-T-Destruct : goal.drop-origins-requires-room-T-Destruct
drop-origins-requires-room-T-Destruct g c κs within = elim g.met.A.AllocHandle.small [ inl e ↦ rw (e.0, e.1) (lit< tt) | inr e ↦ rw (e.0, e.1) (lit< tt) ]

pub drop-counterpart-requires-in_err-looping-room-T-Destruct : goal.drop-counterpart-requires-in_err-looping-room-T-Destruct
drop-counterpart-requires-in_err-looping-room-T-Destruct g c κs within = elim g.met.A.AllocHandle.small [ inl e ↦ rw (e.0, e.1) (lit< tt) | inr e ↦ rw (e.0, e.1) (lit< tt) ]

pub drop-counterpart-requires-in_err-looping-2-room-T-Destruct : goal.drop-counterpart-requires-in_err-looping-2-room-T-Destruct
drop-counterpart-requires-in_err-looping-2-room-T-Destruct g c κs within = elim g.met.A.AllocHandle.small [ inl e ↦ rw (e.0, e.1) (lit< tt) | inr e ↦ rw (e.0, e.1) (lit< tt) ]

pub drop-origins-requires-in_err-looping-room-T-Destruct : goal.drop-origins-requires-in_err-looping-room-T-Destruct
drop-origins-requires-in_err-looping-room-T-Destruct g c κs within = elim g.met.A.AllocHandle.small [ inl e ↦ rw (e.0, e.1) (lit< tt) | inr e ↦ rw (e.0, e.1) (lit< tt) ]

pub drop-looping-requires-in_err-waiting-room-T-Destruct : goal.drop-looping-requires-in_err-waiting-room-T-Destruct
drop-looping-requires-in_err-waiting-room-T-Destruct g c κs within = elim g.met.A.AllocHandle.small [ inl e ↦ rw (e.0, e.1) (lit< tt) | inr e ↦ rw (e.0, e.1) (lit< tt) ]

pub drop-counterpart-requires-in_err-waiting-2-room-T-Destruct : goal.drop-counterpart-requires-in_err-waiting-2-room-T-Destruct
drop-counterpart-requires-in_err-waiting-2-room-T-Destruct g c κs within = elim g.met.A.AllocHandle.small [ inl e ↦ rw (e.0, e.1) (lit< tt) | inr e ↦ rw (e.0, e.1) (lit< tt) ]

pub drop-counterpart-requires-in_err-waiting-3-room-T-Destruct : goal.drop-counterpart-requires-in_err-waiting-3-room-T-Destruct
drop-counterpart-requires-in_err-waiting-3-room-T-Destruct g c κs within = elim g.met.A.AllocHandle.small [ inl e ↦ rw (e.0, e.1) (lit< tt) | inr e ↦ rw (e.0, e.1) (lit< tt) ]

pub drop-origins-requires-in_err-waiting-room-T-Destruct : goal.drop-origins-requires-in_err-waiting-room-T-Destruct
drop-origins-requires-in_err-waiting-room-T-Destruct g c κs within = elim g.met.A.AllocHandle.small [ inl e ↦ rw (e.0, e.1) (lit< tt) | inr e ↦ rw (e.0, e.1) (lit< tt) ]

pub index-requires : goal.index-requires
index-requires g c =
    let states = c.args.states.items in
    let path = c.args.shown.now.path in
    let long = replay_length (script_of c.args.sides.now.script.now) (process_of c.args.sides.now.start.now) (violation_of c.args.shown.now) (map process_of states) c.requires.replay.0 in
    let terms = length-map states process_of in
    let actions = length-map path.items action_of in
    let asked = c.len.ensures in
    let steps = path.ok.0 in
    let kept = c.args.states.ok.0 in
    omega (arith, long, terms, actions, asked, steps, kept)

pub waiting_at-requires : goal.waiting_at-requires
waiting_at-requires g c =
    let script = script_of c.args.sides.now.script.now in
    let t = process_of c.args.sides.now.start.now in
    let v = violation_of c.args.shown.now in
    let replay = c.requires.replay.0 in
    let same = last_read script v.path t replay.end c.args.states.items c.len.result c.index.result.now replay.visits (c.len.ensures ∙ c.args.shown.now.path.ok.0 ∙ sym (length-map c.args.shown.now.path.items action_of)) c.index.ensures in
    let closed : IsTermOf script (process_of c.index.result.now) = subst (IsTermOf script) (sym same) (end_closed script t v (map process_of c.args.states.items) replay c.requires.start) in
    elim g.met.A.AllocHandle.small [ inl e ↦ rw (e.0, e.1) (search (lit≤, closed)) | inr e ↦ rw (e.0, e.1) (search (lit≤, closed)) ]

pub returns-clause-told : goal.returns-clause-told
returns-clause-told g c =
    let script = script_of c.args.sides.now.script.now in
    let t = process_of c.args.sides.now.start.now in
    let v = violation_of c.args.shown.now in
    let most = c.args.most in
    let replay = c.requires.replay.0 in
    let origins = origins_listed c.in_ok-origins.origins.items in
    let P : List (Action g.row.A.Denot) → Type 0 = λ path. AreOriginsAlong script (map action_of path) (map process_of c.deref-2.result.now) origins in
    let S : List (Term g.row.A.Denot) → Type 0 = λ states. AreOriginsAlong script v.path (map process_of states) origins in
    let counterpart = option_map counterpart_of c.in_ok-counterpart.counterpart in
    let other = script_of c.args.sides.now.other.now in
    let spec = specification_in c.args.sides.now.specification in
    let Q : List (Action g.row.A.Denot) → Type 0 = λ path. IsCounterpartFor other spec (map action_of path) most counterpart in
    let same = last_read script v.path t replay.end c.args.states.items c.len.result c.index.result.now replay.visits (c.len.ensures ∙ c.args.shown.now.path.ok.0 ∙ sym (length-map c.args.shown.now.path.items action_of)) c.index.ensures in
    record {
      replay = replay;
      origins = subst S c.deref-2.ensures.value (subst P c.deref.ensures.value c.in_ok-origins.ensures);
      counterpart = subst Q c.deref-3.ensures.value c.in_ok-counterpart.ensures;
      loop = loop_told g.row.A.Denot script v.evidence replay.end c.args.lasso c.in_ok-looping.looping c.requires.replay.1 c.in_ok-looping.ensures;
      waiting = subst (λ u. AreWaitingFor script v.evidence u (map waiting_of c.in_ok-waiting.waiting.items)) same c.in_ok-waiting.ensures;
    }
