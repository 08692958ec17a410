-- Evidence at once and by tau.
use Rattle.std.proofs.Common.{◌≡◌, List, ◌∷◌, ◌++◌, [], refl, sym, ◌∙◌, ap, subst}
use Rattle.theory_syntax.specs.Value.{Action}
use Rattle.theory_syntax.specs.Process.{Process, Traces, Failures, Property, RefinementOf, DeadlockFree, DivergenceFree, specification_of, Assertion, Unfolding, ByTau, AtOnce, Script}
use Rattle.theory_syntax.specs.Readings.{at_once, by_tau, reading}
use Rattle.theory_semantics.specs.Meaning.Runs.{trace, IsTrace, IsKnown}
use Rattle.theory_semantics.specs.Meaning.Offers.{AllBut, IsFailure}
use Rattle.theory_semantics.specs.Meaning.Violations.{Evidence, ByEvent, ByOffers, ByDeadlock, ByDivergence, Violation, IsViolation, IsEvidence}
use Rattle.theory_runs.specs.States.{IsReplay, Shows}
use Rattle.theory_runs.proofs.Visiting.{run_of}
use Rattle.theory_unfolding.specs.Assertions.{HasViolationLike}
use Rattle.theory_unfolding.specs.Unfolded.{itself}
use Rattle.theory_unfolding.proofs.Offering.{can_back, accepts_back, deadlocked_back}
use Rattle.theory_unfolding.proofs.Diverging.{diverges_back}
use Rattle.theory_spread_runs.specs.Spread.{Spreads}
use Rattle.theory_spread_runs.proofs.Spreading.{spread_visits}

shown_at_once : (s : Script) (t : Process) (e : Evidence) → Shows (at_once s) t e → Shows (by_tau s) t e
shown_at_once s t (ByEvent x) shows = can_back s t x shows
shown_at_once s t (ByOffers xs) shows = accepts_back s t xs shows
shown_at_once s t ByDeadlock shows = deadlocked_back s t shows
shown_at_once s t ByDivergence shows = diverges_back s t t (0, itself) shows

-- the script as its own names are read
read_so : (s : Script) (u : Unfolding) → s.unfolds ≡ u → s ≡ reading u s
read_so s u e = ap (λ v. reading v s) e

shown_as_read : (s : Script) (t : Process) (e : Evidence) (u : Unfolding) → s.unfolds ≡ u → Shows s t e → Shows (by_tau s) t e
shown_as_read s t e ByTau read shows = let S : Script → Type 0 = λ o. Shows o t e in subst S (read_so s ByTau read) shows
shown_as_read s t e AtOnce read shows = let S : Script → Type 0 = λ o. Shows o t e in shown_at_once s t e (subst S (read_so s AtOnce read) shows)

pub shown_by_tau : (s : Script) (t : Process) (e : Evidence) → Shows s t e → Shows (by_tau s) t e
shown_by_tau s t e shows = shown_as_read s t e s.unfolds refl shows

pub spread_replay : (s : Script) (t u : Process) (v : Violation) (longer : List Action) (states more : List Process) → Spreads (by_tau s) t v.path states longer more → IsReplay s u v states →
    IsReplay (by_tau s) t (record { path = longer; evidence = v.evidence }) more
spread_replay s t u v longer states more spread replay =
    record { end = replay.end; visits = spread_visits (by_tau s) s spread u replay.end replay.visits; shows = shown_by_tau s replay.end v.evidence replay.shows }

-- Evidence hangs on the trace of a path alone, and on what its end shows.
evidence_along : (s : Script) (a : Property) (p q : List Action) (t u : Process) (e : Evidence) → trace p ≡ trace q → Shows s t e → IsEvidence s a q u e → IsEvidence s a p t e
evidence_along s (RefinementOf model spec) p q t u (ByEvent x) same shows h =
    let T : List Action → Type 0 = λ z. IsTrace s spec (z ++ x ∷ []) in (h.0, shows, λ is. h.2 (subst T same is))
evidence_along s (RefinementOf Failures spec) p q t u (ByOffers xs) same shows h =
    let F : List Action → Type 0 = λ z. IsFailure s spec z (AllBut xs) in (shows, λ is. h.1 (subst F same is))
evidence_along s (RefinementOf Traces spec) p q t u (ByOffers xs) same shows h = absurd h
evidence_along s (RefinementOf Failures spec) p q t u ByDeadlock same shows h = absurd h
evidence_along s (RefinementOf Traces spec) p q t u ByDeadlock same shows h = absurd h
evidence_along s (RefinementOf Failures spec) p q t u ByDivergence same shows h = absurd h
evidence_along s (RefinementOf Traces spec) p q t u ByDivergence same shows h = absurd h
evidence_along s DeadlockFree p q t u ByDeadlock same shows h = shows
evidence_along s DeadlockFree p q t u (ByEvent x) same shows h = absurd h
evidence_along s DeadlockFree p q t u (ByOffers xs) same shows h = absurd h
evidence_along s DeadlockFree p q t u ByDivergence same shows h = absurd h
evidence_along s DivergenceFree p q t u ByDivergence same shows h = shows
evidence_along s DivergenceFree p q t u (ByEvent x) same shows h = absurd h
evidence_along s DivergenceFree p q t u (ByOffers xs) same shows h = absurd h
evidence_along s DivergenceFree p q t u ByDeadlock same shows h = absurd h

pub replay_shows : (s : Script) (a : Assertion) (v other : Violation) (states : List Process) → HasViolationLike (by_tau s) a other → trace v.path ≡ trace other.path → v.evidence ≡ other.evidence →
    IsReplay (by_tau s) a.implementation v states → IsViolation (by_tau s) a v
replay_shows s a v other states like same alike replay =
    let w = like.violation in
    let traces : trace v.path ≡ trace w.path = same ∙ sym like.traces in
    let evidence : w.evidence ≡ v.evidence = like.evidence ∙ sym alike in
    let K : List Action → Type 0 = λ z. IsKnown (by_tau s) (specification_of a.property) z in
    let E : Evidence → Type 0 = λ e. IsEvidence (by_tau s) a.property w.path like.is_one.end e in
    record {
      end = replay.end;
      run = run_of (by_tau s) v.path a.implementation replay.end states replay.visits;
      known = subst K (sym traces) like.is_one.known;
      evidence = evidence_along (by_tau s) a.property v.path w.path replay.end like.is_one.end v.evidence traces replay.shows (subst E evidence like.is_one.evidence);
    }
