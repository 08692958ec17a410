-- A replay is spread, and what is told of it is told by the script as it is written.
use Rattle.std.proofs.Common.{◌≡◌, suc, List, Option, IfSome, length, map, sym, ap, subst, inl, inr, lit<, lit≤, arith}
use Rattle.std.proofs.lemmas.List.{length-map}
use Rattle.theory_syntax.specs.Process.{Process}
use Rattle.theory_semantics.specs.Kinds.Scripts.{IsTermOf}
use Rattle.theory_explanation.proofs.Replays.{replay_length}
use Rattle.csp_value.specs.Action.{action_of}
use Rattle.csp_term.specs.Script.{assertion_of, script_of}
use Rattle.csp_term.specs.Term.{process_of}
use Rattle.csp_term.specs.declared.term.Term.{Term}
use Rattle.csp_replay.specs.Replays.{TellsReplay}
use Rattle.csp_replay.specs.declared.replaying.Replay.{Replay}
use Rattle.verdict.specs.Outcome.{violation_of}
use Rattle.counterexample.specs.Counterexample.{ComesBack, IsReplayed, specification_in}
use Rattle.counterexample.specs.Spreading.{BeginsIn, SpreadsLasso, SpreadsReplay}
use Rattle.counterexample.specs.declared.spreading.SpreadLasso.{SpreadLasso}
use Rattle.counterexample.specs.declared.spreading.SpreadReplay.{SpreadReplay}
use Rattle.counterexample.proofs.Last.{end_closed}
use Rattle.counterexample.proofs.LoopsOf.{comes_back}
use Rattle.counterexample.proofs.Spreads.{begins_in, replayed_by_tau, term_written, told_by_tau}
use Rattle.counterexample.proofs.spreading.spread_at_once.Goals as goal

pub replay_of-requires : goal.replay_of-requires
replay_of-requires g c =
    let closed : IsTermOf (script_of c.args.script.now) (process_of c.args.assertion.now.implementation) = c.requires.terms.implementation in
    elim g.met.A.AllocHandle.small [ inl e ↦ rw (e.0, e.1) (search (lit≤, closed)) | inr e ↦ rw (e.0, e.1) (search (lit≤, closed)) ]

pub spread_replay-requires : goal.spread_replay-requires
spread_replay-requires g c =
    let script = script_of c.args.script.now in
    let a = assertion_of c.args.assertion.now in
    let v = violation_of c.args.shown.now in
    let closed : IsTermOf (script_of c.in_ok-written.written) (process_of c.args.start.now) = term_written g.row.A.Denot script (script_of c.in_ok-written.written) c.in_ok-written.ensures (process_of c.args.start.now) c.requires.start in
    let R : Replay g.row.A.Denot → Type 0 = λ r. TellsReplay script a.implementation v c.args.style.now.reach r in
    let replayed : IsReplayed script a.implementation v (map process_of c.in-States.states.items) c.in-States.lasso = subst R c.in-States.is c.in_ok-replay.ensures in
    let long = replay_length script a.implementation v (map process_of c.in-States.states.items) replayed.0 in
    let terms = length-map c.in-States.states.items process_of in
    let actions = length-map c.args.shown.now.path.items action_of in
    let read = ap length c.deref.ensures.value in
    let even : length c.deref.result.now ≡ suc (length c.args.shown.now.path.items) = omega (arith, long, terms, actions, read) in
    elim g.met.A.AllocHandle.small [ inl e ↦ rw (e.0, e.1) (search (lit≤, closed, even)) | inr e ↦ rw (e.0, e.1) (search (lit≤, closed, even)) ]

pub spread_lasso-requires : goal.spread_lasso-requires
spread_lasso-requires g c =
    let script = script_of c.args.script.now in
    let written = script_of c.in_ok-written.written in
    let a = assertion_of c.args.assertion.now in
    let v = violation_of c.args.shown.now in
    let R : Replay g.row.A.Denot → Type 0 = λ r. TellsReplay script a.implementation v c.args.style.now.reach r in
    let replayed : IsReplayed script a.implementation v (map process_of c.in-States.states.items) c.in-States.lasso = subst R c.in-States.is c.in_ok-replay.ensures in
    let end = end_closed script a.implementation v (map process_of c.in-States.states.items) replayed.0 c.requires.terms.implementation in
    let closed : BeginsIn written c.in-States.lasso = begins_in g.row.A.Denot script written c.in_ok-written.ensures v.evidence replayed.0.end c.in-States.lasso end replayed.1 in
    let comes : ComesBack c.in-States.lasso = comes_back g.row.A.Denot script v.evidence replayed.0.end c.in-States.lasso replayed.1 in
    record { closed = closed; comes = comes }

pub along-requires : goal.along-requires
along-requires g c =
    let script = script_of c.args.script.now in
    let written = script_of c.in_ok-written.written in
    let is = c.in_ok-written.ensures in
    let t = process_of c.args.start.now in
    let a = assertion_of c.args.assertion.now in
    let v = violation_of c.args.shown.now in
    let run = c.in-Some.told in
    let more = map process_of run.states.items in
    let start : IsTermOf written t = term_written g.row.A.Denot script written is t c.requires.start in
    let S : Option Process → Type 0 = λ s. IfSome s (IsTermOf script) in
    let specification : IfSome (specification_in c.specification.result) (IsTermOf script) = subst S (sym c.specification.ensures) c.requires.terms.specification in
    let R : Replay g.row.A.Denot → Type 0 = λ r. TellsReplay script a.implementation v c.args.style.now.reach r in
    let replayed : IsReplayed script a.implementation v (map process_of c.in-States.states.items) c.in-States.lasso = subst R c.in-States.is c.in_ok-replay.ensures in
    let T : List (Term g.row.A.Denot) → Type 0 = λ ts. IfSome c.in_ok-found.found (SpreadsReplay written t v (map process_of ts)) in
    let O : Option (SpreadReplay g.row.A.Denot) → Type 0 = λ o. IfSome o (SpreadsReplay written t v (map process_of c.in-States.states.items)) in
    let spread : SpreadsReplay written t v (map process_of c.in-States.states.items) run = subst O c.in-Some.is (subst T c.deref.ensures.value c.in_ok-found.ensures) in
    let L : SpreadLasso g.row.A.Denot → Type 0 = SpreadsLasso written c.in-States.lasso in
    let lassos = subst L c.in-Found.is c.in_ok-round.ensures in
    let replay : IsReplayed written t (violation_of run.shown) more c.in-Found.lasso =
    replayed_by_tau g.row.A.Denot script written is t a.implementation v (violation_of run.shown) (map process_of c.in-States.states.items) more spread.spread spread.like c.in-States.lasso c.in-Found.lasso replayed lassos in
    elim g.met.A.AllocHandle.small [
      | inl e ↦ rw (e.0, e.1) (search (lit≤, start, specification, replay))
      | inr e ↦ rw (e.0, e.1) (search (lit≤, start, specification, replay))
    ]

pub returns : goal.returns
returns g c =
    let script = script_of c.args.script.now in
    let written = script_of c.in_ok-written.written in
    let is = c.in_ok-written.ensures in
    let t = process_of c.args.start.now in
    let a = assertion_of c.args.assertion.now in
    let v = violation_of c.args.shown.now in
    let run = c.in-Some.told in
    let states = map process_of c.in-States.states.items in
    let R : Replay g.row.A.Denot → Type 0 = λ r. TellsReplay script a.implementation v c.args.style.now.reach r in
    let replayed : IsReplayed script a.implementation v states c.in-States.lasso = subst R c.in-States.is c.in_ok-replay.ensures in
    let T : List (Term g.row.A.Denot) → Type 0 = λ ts. IfSome c.in_ok-found.found (SpreadsReplay written t v (map process_of ts)) in
    let O : Option (SpreadReplay g.row.A.Denot) → Type 0 = λ o. IfSome o (SpreadsReplay written t v states) in
    let spread : SpreadsReplay written t v states run = subst O c.in-Some.is (subst T c.deref.ensures.value c.in_ok-found.ensures) in
    told_by_tau g.row.A.Denot script written is t a v c.args.style.now.most states (map process_of run.states.items) (specification_in c.specification.result) (record { shown = run.shown; counterexample = c.in_ok-counterexample.counterexample }) c.requires.at_once replayed.0
    spread.spread spread.like (ap (λ ts. map process_of ts.items) c.in_ok-counterexample.ensures.states) c.specification.ensures c.in_ok-counterexample.ensures.told

pub drop-told-requires-room-T-Destruct : goal.drop-told-requires-room-T-Destruct
drop-told-requires-room-T-Destruct g c κs within = elim g.met.A.AllocHandle.small [ inl e ↦ rw (e.0, e.1) (lit< tt) | inr e ↦ rw (e.0, e.1) (lit< tt) ]

pub drop-requires-in_err-round-2-room-T-Destruct : goal.drop-requires-in_err-round-2-room-T-Destruct
drop-requires-in_err-round-2-room-T-Destruct g c κs within = elim g.met.A.AllocHandle.small [ inl e ↦ rw (e.0, e.1) (lit< tt) | inr e ↦ rw (e.0, e.1) (lit< tt) ]

pub drop-told-requires-in_default-round-room-T-Destruct : goal.drop-told-requires-in_default-round-room-T-Destruct
drop-told-requires-in_default-round-room-T-Destruct g c κs within = elim g.met.A.AllocHandle.small [ inl e ↦ rw (e.0, e.1) (lit< tt) | inr e ↦ rw (e.0, e.1) (lit< tt) ]

pub drop-requires-in_default-round-2-room-T-Destruct : goal.drop-requires-in_default-round-2-room-T-Destruct
drop-requires-in_default-round-2-room-T-Destruct g c κs within = elim g.met.A.AllocHandle.small [ inl e ↦ rw (e.0, e.1) (lit< tt) | inr e ↦ rw (e.0, e.1) (lit< tt) ]

pub drop-shown-requires-room-T-Destruct : goal.drop-shown-requires-room-T-Destruct
drop-shown-requires-room-T-Destruct g c κs within = elim g.met.A.AllocHandle.small [ inl e ↦ rw (e.0, e.1) (lit< tt) | inr e ↦ rw (e.0, e.1) (lit< tt) ]

pub drop-requires-in_err-counterexample-2-room-T-Destruct : goal.drop-requires-in_err-counterexample-2-room-T-Destruct
drop-requires-in_err-counterexample-2-room-T-Destruct g c κs within = elim g.met.A.AllocHandle.small [ inl e ↦ rw (e.0, e.1) (lit< tt) | inr e ↦ rw (e.0, e.1) (lit< tt) ]

pub array_drop-told-requires : goal.array_drop-told-requires
array_drop-told-requires g c = elim g.met.A.AllocHandle.small [ inl e ↦ rw (e.0, e.1) (lit< tt) | inr e ↦ rw (e.0, e.1) (lit< tt) ]

pub array_drop-told-requires-in_default-round : goal.array_drop-told-requires-in_default-round
array_drop-told-requires-in_default-round g c = elim g.met.A.AllocHandle.small [ inl e ↦ rw (e.0, e.1) (lit< tt) | inr e ↦ rw (e.0, e.1) (lit< tt) ]

pub array_drop-shown-requires : goal.array_drop-shown-requires
array_drop-shown-requires g c = elim g.met.A.AllocHandle.small [ inl e ↦ rw (e.0, e.1) (lit< tt) | inr e ↦ rw (e.0, e.1) (lit< tt) ]
