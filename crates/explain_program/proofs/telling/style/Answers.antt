use Rattle.std.proofs.Common.{◌≡◌, ◌∙◌, ap, ap₂}
use Rattle.theory_explanation.specs.Cutting.{Width}
use Rattle.theory_explanation.specs.Folding.{Telling}
use Rattle.theory_explanation.specs.Styles.{Style}
use Rattle.csp_print.specs.Names.{names_of}
use Rattle.counterexample.specs.Folding.{telling_of}
use Rattle.explain_program.specs.Asking.{taus_told, width_of_number}
use Rattle.explain_program.proofs.telling.style.Goals as goal

pub returns : goal.returns
returns g c =
    let S : Width → Width → Telling → Style = λ w t how. record { names = names_of c.args.names.now; width = w; few = 3; most = c.args.settings.now.max_nodes; taus = t; reach = c.args.settings.now.max_pairs; telling = how } in
    ap₂ (λ w t. S w t (telling_of c.telling.result)) c.width.ensures c.taus.ensures
    ∙ ap (S (width_of_number c.args.settings.now.width) (taus_told (width_of_number c.args.settings.now.width))) c.telling.ensures
