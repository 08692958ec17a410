-- A divergence, or what one firing shows.
use Rattle.std.proofs.Common.{◌≡◌, ℕ, refl, IfOk, Option, Some, None, sym, subst, inl, inr, lit<}
use Rattle.theory_syntax.specs.Process.{Process, Script}
use Rattle.theory_semantics.specs.Meaning.Violations as pure
use Rattle.csp_term.specs.Script.{script_of}
use Rattle.verdict.specs.declared.shown.Evidence.{Evidence}
use Rattle.verdict.specs.declared.shown.Evidence.TheVariants as views
use Rattle.verdict.specs.Outcome.{evidence_of}
use Rattle.csp_replay.specs.Endings.{IsLassoFor, TellsEnding}
use Rattle.csp_replay.specs.Ends.{IsEndAt}
use Rattle.csp_replay.specs.Layer.{terms_of}
use Rattle.csp_replay.proofs.ending.ending_of.Goals as goal

other : {A : Type 0} (e : Evidence A) → (e ≡ views.Divergence → ⊥) → evidence_of e ≡ pure.ByDivergence → ⊥
other (views.Event x) not_so same = cc same
other (views.Offers xs) not_so same = cc same
other views.Deadlock not_so same = cc same
other views.Divergence not_so same = not_so refl

no_lasso : (A : Type 0) (script : Script) (e : pure.Evidence) (t : Process) → (e ≡ pure.ByDivergence → ⊥) → IsLassoFor {A = A} script e t None
no_lasso A script (pure.ByEvent x) t not_so = tt
no_lasso A script (pure.ByOffers xs) t not_so = tt
no_lasso A script pure.ByDeadlock t not_so = tt
no_lasso A script pure.ByDivergence t not_so = not_so refl

pub returns-in-Divergence : goal.returns-in-Divergence
returns-in-Divergence g c =
    let D : Evidence g.row.A.Denot → Type 0 = λ e. IfOk c.diverging.result (TellsEnding (script_of c.args.script.now) (terms_of c.args.layer.now) (evidence_of e) c.args.reach) in
    subst D (sym c.in-Divergence.is) c.diverging.ensures

pub end_of-requires : goal.end_of-requires
end_of-requires g c =
    let ends = other c.args.evidence.now c.in_default.not-Divergence in
    elim g.met.A.AllocHandle.small [ inl e ↦ rw (e.0, e.1) (lit< tt, (c.requires, ends)) | inr e ↦ rw (e.0, e.1) (lit< tt, (c.requires, ends)) ]

pub returns-in-Some : goal.returns-in-Some
returns-in-Some g c =
    let script = script_of c.args.script.now in
    let e = evidence_of c.args.evidence.now in
    let E : Option ℕ → Type 0 = IsEndAt script (terms_of c.args.layer.now) e in
    let ended : IsEndAt script (terms_of c.args.layer.now) e (Some c.in-Some.place) = subst E c.in-Some.is c.in_ok-found.ensures in
    (ended.0, ended.1, ended.2, no_lasso g.row.A.Denot script e ended.0 (other c.args.evidence.now c.in_default.not-Divergence))
