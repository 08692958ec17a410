-- It is hidden, or one of its images is the event that is asked for.
use Rattle.std.proofs.Common.{◌↔◌, Bool, IfOk, IsTrue, sym, subst}
use Rattle.csp_value.specs.Action.{event_of}
use Rattle.csp_events.specs.Testing.{test_of}
use Rattle.csp_moves.specs.declared.passing.Passing.{Passing}
use Rattle.csp_moves.specs.Passing.{IsPassing}
use Rattle.csp_moves.proofs.passing.Passing.passes.Goals as goal

pub returns-in-Hidden : goal.returns-in-Hidden
returns-in-Hidden g c =
    let e = event_of c.args.event.now in
    let P : Bool → Type 0 = λ b. IsTrue b ↔ IsTrue (test_of c.in-Hidden.test e) in
    let Q : Passing g.row.A.Denot → Type 0 = λ q. IsTrue c.holds.result ↔ IsPassing q e in
    subst Q (sym c.in-Hidden.is) (subst P (sym c.holds.ensures) (λ h. h, λ h. h))

pub returns-in-Renamed : goal.returns-in-Renamed
returns-in-Renamed g c =
    let Q : Passing g.row.A.Denot → Type 0 = λ q. IfOk c.is_image.result (λ told. IsTrue told ↔ IsPassing q (event_of c.args.event.now)) in
    subst Q (sym c.in-Renamed.is) c.is_image.ensures
