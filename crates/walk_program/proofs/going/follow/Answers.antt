-- From one line to the next the walk goes on, as long as it does.
use Rattle.std.proofs.Common.{◌≡◌, ◌∙◌, ℕ, Bool, true, false, List, [], ap, inl, inr, refl, rules, subst, sym, true≢false}
use Rattle.std.specs.Prelude.{Option}
use Rattle.std.proofs.KnownBytes.{Consumes-nil}
use Rattle.theory_syntax.specs.Process.{Script}
use Rattle.theory_explanation.specs.Cutting.{Width}
use Rattle.theory_walk.specs.Moves.{Move}
use Rattle.theory_walk.specs.Trails.{Trail, begun}
use Rattle.theory_walk.specs.Walks.{Place, shown}
use Rattle.csp_print.specs.Names.{names_of}
use Rattle.csp_term.specs.Script.{script_of}
use Rattle.counterexample.specs.Widths.{width_of}
use Rattle.state_walk.specs.Walks.{place_of, trail_of}
use Rattle.report.specs.Sending.{Sends}
use Rattle.program.specs.Given.{sent}
use Rattle.walk_program.specs.Asking.{request_of}
use Rattle.walk_program.specs.Lines.{IsLineRead, as_command, left}
use Rattle.walk_program.specs.Stops.{LeavesText}
use Rattle.walk_program.specs.Walking.{IsAnswered, IsUnwalked, next_at}
use Rattle.walk_program.specs.declared.stop.Stop.{Stop}
use Rattle.walk_program.specs.declared.stop.Stop.TheVariants as stop
use Rattle.walk_program.proofs.Steps.{IsSome, begins, comes_to_the_end, goes_further, is_over, unanswered, unread, unshown}
use Rattle.walk_program.proofs.Stopping.{handed}
use Rattle.walk_program.proofs.going.follow.Goals as goal

pub returns-in_err-show-clause-stopped : goal.returns-in_err-show-clause-stopped
returns-in_err-show-clause-stopped g c =
    let request = request_of c.args.settings.now in
    let script = script_of c.args.walk.now.script.now in
    let names = names_of c.args.view.now.names.now in
    let start = (trail_of c.args.walk.now).start in
    let at = g.I.Read.remaining in
    let taken = g.O.Sink.taken in
    let failed = g.O.Sink.has_failed in
    let p = place_of c.args.walk.now in
    let T : List Move → Trail = λ moves. record { start = start; taken = moves } in
    let there : p.trail ≡ begun start = ap T c.requires.begun in
    let out = sent taken failed c.args.out.now c.show.new.out in
    let U : Stop → Type 0 = λ why. IsUnwalked request script names (left at c.args.input.now c.args.input.now) why out in
    let why = c.in_err-show.field-0.0 in
    let L : Width → Type 0 = λ w. LeavesText why (λ WentOut. WentOut (shown names w p)) out in
    handed c.from_residual.result U c.from_residual.ensures
    (unshown request script names start c.requires.asked why taken failed c.args.out.now c.show.new.out (at c.args.input.now) p there c.requires.kept.menu (subst L c.requires.width c.in_err-show.ensures.cut))

pub loop-init : goal.loop-init
loop-init g c =
    let request = request_of c.args.settings.now in
    let script = script_of c.args.walk.now.script.now in
    let names = names_of c.args.view.now.names.now in
    let start = (trail_of c.args.walk.now).start in
    let at = g.I.Read.remaining in
    let taken = g.O.Sink.taken in
    let failed = g.O.Sink.has_failed in
    let p = place_of c.args.walk.now in
    let T : List Move → Trail = λ moves. record { start = start; taken = moves } in
    let there : p.trail ≡ begun start = ap T c.requires.begun in
    let S : Width → Type 0 = λ w. Sends (taken c.args.out.now) (taken c.show.new.out) (failed c.show.new.out) (shown names w p) in
    record {
      kept = c.requires.kept;
      same = refl;
      goes_on = begins request script names start (at c.args.input.now) (taken c.args.out.now) (taken c.show.new.out) (failed c.show.new.out) p there c.requires.kept.menu (subst S c.requires.width c.in_ok-show.ensures.shown);
    }

pub returns-in_err-line-clause-stopped : goal.returns-in_err-line-clause-stopped
returns-in_err-line-clause-stopped g c =
    let request = request_of c.args.settings.now in
    let script = script_of c.args.walk.now.script.now in
    let names = names_of c.args.view.now.names.now in
    let start = (trail_of c.args.walk.now).start in
    let at = g.I.Read.remaining in
    let taken = g.O.Sink.taken in
    let failed = g.O.Sink.has_failed in
    let out = sent taken failed c.args.out.now c.loop.out in
    let U : Stop → Type 0 = λ why. IsUnwalked request script names (left at c.args.input.now c.read_line.new.input) why out in
    handed c.from_residual-in_err-line.result U c.from_residual-in_err-line.ensures
    (unread request script names start c.requires.asked c.in_err-line.field-0.0 (at c.args.input.now) (at c.loop.input) (at c.read_line.new.input) out (place_of c.loop.walk) c.in_err-line.ensures.why c.loop.invariant.goes_on c.in_err-line.ensures.lost)

pub returns-then-is_nothing-clause-walked : goal.returns-then-is_nothing-clause-walked
returns-then-is_nothing-clause-walked g c =
    let request = request_of c.args.settings.now in
    let script = script_of c.args.walk.now.script.now in
    let names = names_of c.args.view.now.names.now in
    let start = (trail_of c.args.walk.now).start in
    let at = g.I.Read.remaining in
    let taken = g.O.Sink.taken in
    let failed = g.O.Sink.has_failed in
    let kept = c.in_ok-line.line.kept.items in
    let none = c.is_nothing.ensures.0 c.if-is_nothing.true in
    let read = left at c.loop.input c.read_line.new.input in
    let line = subst (λ b. IsLineRead read kept b) none.1 c.in_ok-line.ensures.line in
    comes_to_the_end request script names start c.requires.asked (at c.args.input.now) (at c.loop.input) (at c.read_line.new.input) (sent taken failed c.args.out.now c.loop.out) kept (place_of c.loop.walk) c.loop.invariant.goes_on line none.0

pub returns-in_err-goes_on-clause-stopped : goal.returns-in_err-goes_on-clause-stopped
returns-in_err-goes_on-clause-stopped g c =
    let request = request_of c.args.settings.now in
    let script = script_of c.args.walk.now.script.now in
    let names = names_of c.args.view.now.names.now in
    let start = (trail_of c.args.walk.now).start in
    let at = g.I.Read.remaining in
    let taken = g.O.Sink.taken in
    let failed = g.O.Sink.has_failed in
    let kept = c.in_ok-line.line.kept.items in
    let has_end = c.in_ok-line.line.has_end in
    let p = place_of c.loop.walk in
    let g_on = c.loop.invariant.goes_on in
    let some : IsSome has_end kept = λ last none. true≢false (sym (c.is_nothing.ensures.1 (none, last)) ∙ c.if-is_nothing.false) in
    let out = sent taken failed c.args.out.now c.obey.new.out in
    let why = c.in_err-goes_on.field-0.0 in
    let here = script_of c.loop.walk.script.now in
    let wide = width_of c.args.view.now.width in
    let L : Script → Width → List ℕ → Type 0 = λ s w k. LeavesText why (λ WentOut. (next : Option Place) × IsAnswered s names w p k next WentOut) (sent taken failed c.loop.out c.obey.new.out) in
    let cut : L script request.width (as_command kept) =
    subst (λ s. L s request.width (as_command kept)) c.loop.invariant.same
    (subst (λ w. L here w (as_command kept)) c.requires.width (subst (λ k. L here wide k) c.command.ensures c.in_err-goes_on.ensures.cut)) in
    let U : Stop → Type 0 = λ why. IsUnwalked request script names (left at c.args.input.now c.read_line.new.input) why out in
    handed c.from_residual-in_err-goes_on.result U c.from_residual-in_err-goes_on.ensures
    (unanswered request script names start c.requires.asked why taken failed c.args.out.now c.loop.out c.obey.new.out (at c.args.input.now) (at c.loop.input) (at c.read_line.new.input) kept has_end p g_on c.in_ok-line.ensures.line some cut)

pub returns-then-not-goes_on-clause-walked : goal.returns-then-not-goes_on-clause-walked
returns-then-not-goes_on-clause-walked g c =
    let request = request_of c.args.settings.now in
    let script = script_of c.args.walk.now.script.now in
    let names = names_of c.args.view.now.names.now in
    let start = (trail_of c.args.walk.now).start in
    let at = g.I.Read.remaining in
    let taken = g.O.Sink.taken in
    let failed = g.O.Sink.has_failed in
    let kept = c.in_ok-line.line.kept.items in
    let has_end = c.in_ok-line.line.has_end in
    let p = place_of c.loop.walk in
    let g_on = c.loop.invariant.goes_on in
    let some : IsSome has_end kept = λ last none. true≢false (sym (c.is_nothing.ensures.1 (none, last)) ∙ c.if-is_nothing.false) in
    let here = script_of c.loop.walk.script.now in
    let wide = width_of c.args.view.now.width in
    let q = place_of c.obey.new.walk in
    let next = next_at c.in_ok-goes_on.goes_on q in
    let A : Script → Width → List ℕ → Type 0 = λ s w k. IsAnswered s names w p k next (Sends (taken c.loop.out) (taken c.obey.new.out) (failed c.obey.new.out)) in
    let answered : A script request.width (as_command kept) =
    subst (λ s. A s request.width (as_command kept)) c.loop.invariant.same
    (subst (λ w. A here w (as_command kept)) c.requires.width (subst (λ k. A here wide k) c.command.ensures c.in_ok-goes_on.ensures.answered)) in
    let ended : c.in_ok-goes_on.goes_on ≡ false = search rules in
    is_over request script names start c.requires.asked (at c.args.input.now) (at c.loop.input) (at c.read_line.new.input) (taken c.loop.out) (failed c.loop.out) (sent taken failed c.args.out.now c.obey.new.out) kept has_end p next g_on c.in_ok-line.ensures.line some answered
    (inl (ap (λ b. next_at b q) ended))

pub returns-then-not-line-clause-walked : goal.returns-then-not-line-clause-walked
returns-then-not-line-clause-walked g c =
    let request = request_of c.args.settings.now in
    let script = script_of c.args.walk.now.script.now in
    let names = names_of c.args.view.now.names.now in
    let start = (trail_of c.args.walk.now).start in
    let at = g.I.Read.remaining in
    let taken = g.O.Sink.taken in
    let failed = g.O.Sink.has_failed in
    let kept = c.in_ok-line.line.kept.items in
    let has_end = c.in_ok-line.line.has_end in
    let p = place_of c.loop.walk in
    let g_on = c.loop.invariant.goes_on in
    let some : IsSome has_end kept = λ last none. true≢false (sym (c.is_nothing.ensures.1 (none, last)) ∙ c.if-is_nothing.false) in
    let here = script_of c.loop.walk.script.now in
    let wide = width_of c.args.view.now.width in
    let q = place_of c.obey.new.walk in
    let next = next_at c.in_ok-goes_on.goes_on q in
    let A : Script → Width → List ℕ → Type 0 = λ s w k. IsAnswered s names w p k next (Sends (taken c.loop.out) (taken c.obey.new.out) (failed c.obey.new.out)) in
    let answered : A script request.width (as_command kept) =
    subst (λ s. A s request.width (as_command kept)) c.loop.invariant.same
    (subst (λ w. A here w (as_command kept)) c.requires.width (subst (λ k. A here wide k) c.command.ensures c.in_ok-goes_on.ensures.answered)) in
    let last : has_end ≡ false = search rules in
    is_over request script names start c.requires.asked (at c.args.input.now) (at c.loop.input) (at c.read_line.new.input) (taken c.loop.out) (failed c.loop.out) (sent taken failed c.args.out.now c.obey.new.out) kept has_end p next g_on c.in_ok-line.ensures.line some answered
    (inr last)

pub loop-preserved : goal.loop-preserved
loop-preserved g c =
    let request = request_of c.args.settings.now in
    let script = script_of c.args.walk.now.script.now in
    let names = names_of c.args.view.now.names.now in
    let start = (trail_of c.args.walk.now).start in
    let at = g.I.Read.remaining in
    let taken = g.O.Sink.taken in
    let failed = g.O.Sink.has_failed in
    let kept = c.in_ok-line.line.kept.items in
    let has_end = c.in_ok-line.line.has_end in
    let p = place_of c.loop.walk in
    let g_on = c.loop.invariant.goes_on in
    let some : IsSome has_end kept = λ last none. true≢false (sym (c.is_nothing.ensures.1 (none, last)) ∙ c.if-is_nothing.false) in
    let here = script_of c.loop.walk.script.now in
    let wide = width_of c.args.view.now.width in
    let q = place_of c.obey.new.walk in
    let next = next_at c.in_ok-goes_on.goes_on q in
    let A : Script → Width → List ℕ → Type 0 = λ s w k. IsAnswered s names w p k next (Sends (taken c.loop.out) (taken c.obey.new.out) (failed c.obey.new.out)) in
    let answered : A script request.width (as_command kept) =
    subst (λ s. A s request.width (as_command kept)) c.loop.invariant.same
    (subst (λ w. A here w (as_command kept)) c.requires.width (subst (λ k. A here wide k) c.command.ensures c.in_ok-goes_on.ensures.answered)) in
    let on : c.in_ok-goes_on.goes_on ≡ true = search rules in
    let more : has_end ≡ true = search rules in
    let read = left at c.loop.input c.read_line.new.input in
    let line = subst (λ b. IsLineRead read kept b) more c.in_ok-line.ensures.line in
    let N : Bool → Type 0 = λ b. IsAnswered script names request.width p (as_command kept) (next_at b q) (Sends (taken c.loop.out) (taken c.obey.new.out) (failed c.obey.new.out)) in
    record {
      kept = c.obey.ensures.kept;
      same = c.obey.ensures.script ∙ c.loop.invariant.same;
      goes_on = goes_further request script names start (at c.args.input.now) (at c.loop.input) (at c.read_line.new.input) (taken c.args.out.now) (taken c.loop.out) (taken c.obey.new.out) (failed c.loop.out) (failed c.obey.new.out) kept p q g_on line (subst N on answered);
    }

pub returns-clause-stopped : goal.returns-clause-stopped
returns-clause-stopped g c =
    let request = request_of c.args.settings.now in
    let script = script_of c.args.walk.now.script.now in
    let names = names_of c.args.view.now.names.now in
    let start = (trail_of c.args.walk.now).start in
    let at = g.I.Read.remaining in
    let taken = g.O.Sink.taken in
    let failed = g.O.Sink.has_failed in
    unread request script names start c.requires.asked stop.Input (at c.args.input.now) (at c.loop.input) (at c.loop.input) (sent taken failed c.args.out.now c.loop.out) (place_of c.loop.walk) tt c.loop.invariant.goes_on ([], Consumes-nil (at c.loop.input))
