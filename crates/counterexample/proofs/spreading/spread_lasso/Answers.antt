-- The loop that is found is a lasso where the given one is.
use Rattle.std.proofs.Common.{◌≡◌, ◌<◌, List, Option, Some, None, IfSome, length, map, slice_get, sym, subst}
use Rattle.theory_syntax.specs.Process.{Process}
use Rattle.theory_semantics.specs.Kinds.Scripts.{IsTermOf}
use Rattle.csp_term.specs.Script.{script_of}
use Rattle.csp_term.specs.Term.{process_of}
use Rattle.csp_term.specs.declared.term.Term.{Term}
use Rattle.csp_replay.specs.declared.lasso.Lasso.{Lasso}
use Rattle.spread_runs.specs.Spread.{SpreadsLoop}
use Rattle.spread_runs.specs.declared.loops.SpreadLoop.{SpreadLoop}
use Rattle.counterexample.specs.Counterexample.{ComesBack}
use Rattle.counterexample.specs.Spreading.{BeginsIn, SpreadsLasso}
use Rattle.counterexample.specs.declared.spreading.SpreadLasso.TheVariants as spread
use Rattle.counterexample.proofs.Spreads.{lasso_found, none_found}
use Rattle.counterexample.proofs.spreading.spread_lasso.Goals as goal

pub returns-in_default : goal.returns-in_default
returns-in_default g c =
    let L : Option (Lasso g.row.A.Denot) → Type 0 = λ l. SpreadsLasso (script_of c.args.written.now) l (spread.Found None) in
    subst L (sym c.in_default.is) (λ other e t is. none_found g.row.A.Denot other (script_of c.args.written.now) e t is)

pub spread_loop-requires : goal.spread_loop-requires
spread_loop-requires g c =
    let written = script_of c.args.written.now in
    let lasso = c.in-Some.lasso in
    let B : Option (Lasso g.row.A.Denot) → Type 0 = λ l. BeginsIn written l in
    let C : Option (Lasso g.row.A.Denot) → Type 0 = λ l. ComesBack l in
    let T : List (Term g.row.A.Denot) → Type 0 = λ ts. (t : Process) → slice_get (map process_of ts) 0 ≡ Some t → IsTermOf written t in
    let L : List (Term g.row.A.Denot) → Type 0 = λ ts. lasso.back < length ts in
    let closed = subst T (sym c.deref.ensures.value) (subst B c.in-Some.is c.requires.closed) in
    let back = subst L (sym c.deref.ensures.value) (subst C c.in-Some.is c.requires.comes) in
    record { closed = closed; back = back }

pub returns-in-Some-found : goal.returns-in-Some-found
returns-in-Some-found g c =
    let written = script_of c.args.written.now in
    let lasso = c.in-Some.lasso in
    let T : List (Term g.row.A.Denot) → Type 0 = λ ts. IfSome c.in_ok-found.found (SpreadsLoop written (map process_of ts) lasso.back) in
    let O : Option (SpreadLoop g.row.A.Denot) → Type 0 = λ o. IfSome o (SpreadsLoop written (map process_of lasso.states.items) lasso.back) in
    let loops = subst O c.in-Some-found.is (subst T c.deref.ensures.value c.in_ok-found.ensures) in
    let L : Option (Lasso g.row.A.Denot) → Type 0 = λ l. SpreadsLasso written l (spread.Found (Some (record { states = c.in-Some-found.round.states; back = c.in-Some-found.round.back }))) in
    subst L (sym c.in-Some.is) (lasso_found g.row.A.Denot written lasso c.in-Some-found.round loops)
