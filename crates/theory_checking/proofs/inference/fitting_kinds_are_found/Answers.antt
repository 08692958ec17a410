use Rattle.std.proofs.Common.{[], ◌∷◌, ◌++◌, subst}
use Rattle.theory_semantics.specs.Kinds.Kind.{Kinds}
use Rattle.theory_checking.specs.Fitting.{FitKinds, misfit}
use Rattle.theory_checking.proofs.AskingItems.{some_kinds_fit, kinds_of_state_fit, fitting_kinds_satisfy, no_kinds_fit, not_misfit, items_and_one}
use Rattle.theory_checking.proofs.inference.fitting_kinds_are_found.Goals as goal

pub returns-clause-some : goal.returns-clause-some
returns-clause-some c = λ tree xs t solved. some_kinds_fit tree.script tree.numbers tree.owners tree.raw tree.start tree.end tree.equations xs tree.asking tree.below t solved

pub returns-clause-fit : goal.returns-clause-fit
returns-clause-fit c = λ tree xs t kinds solved h.
    let Fitting : Kinds → Type 0 = λ ks. FitKinds tree.raw tree.script ks xs in
    subst Fitting h.2 (kinds_of_state_fit tree.script tree.numbers tree.owners tree.raw tree.start tree.end tree.equations xs tree.asking tree.below t solved h.0 h.1)

pub returns-clause-satisfy : goal.returns-clause-satisfy
returns-clause-satisfy c = λ tree xs t kinds solved h.
    fitting_kinds_satisfy tree.script tree.numbers tree.owners tree.raw tree.start tree.end tree.equations xs tree.asking tree.below t solved kinds h

pub returns-clause-misfit : goal.returns-clause-misfit
returns-clause-misfit c = λ tree before x none.
    misfit (no_kinds_fit tree.script tree.numbers tree.owners tree.raw tree.start tree.end tree.equations (before ++ x ∷ []) tree.asking tree.below none)

pub returns-clause-no_misfit : goal.returns-clause-no_misfit
returns-clause-no_misfit c = λ tree before x t f solved h.
    not_misfit tree.raw tree.script before x f h
    (some_kinds_fit tree.script tree.numbers tree.owners tree.raw tree.start tree.end tree.equations (before ++ x ∷ []) tree.asking tree.below t solved)

pub returns-clause-next : goal.returns-clause-next
returns-clause-next c = λ script o n before x. items_and_one script o n before x
