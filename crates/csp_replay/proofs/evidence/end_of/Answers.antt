-- One more term shows it, or does not.
use Rattle.std.proofs.Common.{sym, subst, arith, inl, inr, lit<}
use Rattle.theory_semantics.proofs.Rising.{Contains-from_stands}
use Rattle.theory_syntax.specs.Process.{Process, Script}
use Rattle.theory_runs.specs.States.{Shows}
use Rattle.theory_runs.proofs.Scanning.{none_zero, none_more, none_at_all}
use Rattle.csp_term.specs.Script.{script_of}
use Rattle.csp_term.specs.Term.{process_of}
use Rattle.verdict.specs.Outcome.{evidence_of}
use Rattle.csp_replay.specs.Layer.{terms_of}
use Rattle.csp_replay.proofs.evidence.end_of.Goals as goal

pub term-requires : goal.term-requires
term-requires g c = let low = c.loop-place-test.true in let long = c.len-place-end.ensures in omega (arith, low, long)

pub fire-requires : goal.fire-requires
fire-requires g c =
    let t = process_of c.term.result.now in
    record { closed = c.requires.closed t (Contains-from_stands (terms_of c.args.layer.now) t (c.loop-place.place, c.term.ensures)) }

pub returns-then-shows : goal.returns-then-shows
returns-then-shows g c =
    let e = evidence_of c.args.evidence.now in
    let here = c.in_ok-expansion.ensures in
    let InScript : Script → Type 0 = λ s. Shows s (process_of c.term.result.now) e in
    let OfTerm : Process → Type 0 = λ t. Shows c.in_ok-expansion.expansion.script t e in
    (process_of c.term.result.now, c.term.ensures, subst InScript here.script (subst OfTerm here.term (c.shows.ensures.0 c.if-shows.true)))

pub loop-place-preserved : goal.loop-place-preserved
loop-place-preserved g c =
    let e = evidence_of c.args.evidence.now in
    let script = script_of c.args.script.now in
    let here = c.in_ok-expansion.ensures in
    let t = process_of c.term.result.now in
    let InScript : Script → Type 0 = λ s. Shows s t e in
    let OfTerm : Process → Type 0 = λ u. Shows c.in_ok-expansion.expansion.script u e in
    none_more (λ u. Shows script u e) (terms_of c.args.layer.now) c.loop-place.place t c.term.ensures
    (λ shows. let told = c.shows.ensures.1 (subst OfTerm (sym here.term) (subst InScript (sym here.script) shows)) in let no = c.if-shows.false in cc (told, no)) c.loop-place.invariant

pub loop-place-init : goal.loop-place-init
loop-place-init g c = none_zero (λ u. Shows (script_of c.args.script.now) u (evidence_of c.args.evidence.now)) (terms_of c.args.layer.now)

pub returns : goal.returns
returns g c =
    let long = c.len-place-end.ensures in
    let past = c.loop-place-test.false in
    none_at_all (λ u. Shows (script_of c.args.script.now) u (evidence_of c.args.evidence.now)) (terms_of c.args.layer.now) c.loop-place.place (omega (arith, long, past)) c.loop-place.invariant

pub drop-expansion-inside-requires-then-shows-room-T-Destruct : goal.drop-expansion-inside-requires-then-shows-room-T-Destruct
drop-expansion-inside-requires-then-shows-room-T-Destruct g c κs within = elim g.met.A.AllocHandle.small [ inl e ↦ rw (e.0, e.1) (lit< tt) | inr e ↦ rw (e.0, e.1) (lit< tt) ]

pub drop-expansion-inside-requires-else-shows-room-T-Destruct : goal.drop-expansion-inside-requires-else-shows-room-T-Destruct
drop-expansion-inside-requires-else-shows-room-T-Destruct g c κs within = elim g.met.A.AllocHandle.small [ inl e ↦ rw (e.0, e.1) (lit< tt) | inr e ↦ rw (e.0, e.1) (lit< tt) ]
