-- As many arguments as parameters.
use Rattle.std.proofs.Common.{length, slice_get, refl, sym, ◌∙◌, ap, arith}
use Rattle.std.proofs.lemmas.List.{length-map}
use Rattle.std.proofs.lemmas.Option.{slice_get_read}
use Rattle.theory_syntax.proofs.Places.{get_some}
use Rattle.theory_faults.specs.Processes.{arguments_misfit}
use Rattle.csp_term.specs.Script.{equation_of}
use Rattle.csp_faults.proofs.Found.{as_many, not_as_many}
use Rattle.csp_faults.proofs.own.arguments_misfit.Goals as goal

pub returns-then-len-arguments : goal.returns-then-len-arguments
returns-then-len-arguments g c =
    let k = c.args.equation.0 in
    let table = c.deref.result.now in
    let look = c.in-Some.ensures.lookup in
    let called = c.in-Some.called.now in
    let at = get_some equation_of c.args.script.now.equations.items k called (ap (λ xs. slice_get xs k) (sym c.deref.ensures.value) ∙ slice_get_read table (length table) k called refl look.3.0 look.1) in
    as_many _ (length c.args.arguments.now) (omega (arith, c.if-len-arguments.true, called.parameters.ok.0, length-map called.parameters.items (λ n. n.0)))
    ∙ ap (arguments_misfit (length c.args.arguments.now)) (sym at)

pub returns-else-len-arguments : goal.returns-else-len-arguments
returns-else-len-arguments g c =
    let k = c.args.equation.0 in
    let table = c.deref.result.now in
    let look = c.in-Some.ensures.lookup in
    let called = c.in-Some.called.now in
    let at = get_some equation_of c.args.script.now.equations.items k called (ap (λ xs. slice_get xs k) (sym c.deref.ensures.value) ∙ slice_get_read table (length table) k called refl look.3.0 look.1) in
    not_as_many _ (length c.args.arguments.now) (λ same. c.if-len-arguments.false (omega (arith, same, called.parameters.ok.0, length-map called.parameters.items (λ n. n.0))))
    ∙ ap (arguments_misfit (length c.args.arguments.now)) (sym at)
