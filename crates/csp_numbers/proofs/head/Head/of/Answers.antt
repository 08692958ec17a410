-- The head of each form.
use Rattle.std.proofs.Common.{sym, ◌∙◌, ap, subst}
use Rattle.theory_syntax.specs.Process.{Renaming}
use Rattle.theory_shapes.specs.Parts.{shape_of}
use Rattle.csp_events.specs.Events.{renaming_pairs_of}
use Rattle.csp_term.specs.Term.{process_of, process_of_form}
use Rattle.csp_term.proofs.Forms.{of_alphabetised, of_binary, of_generalised, of_hiding, of_renaming}
use Rattle.csp_numbers.specs.Heads.{IsHeadOf}
use Rattle.csp_numbers.proofs.Forms.{part_form}
use Rattle.csp_numbers.proofs.head.Head.of.Goals as goal

pub returns-in-Stop : goal.returns-in-Stop
returns-in-Stop g c = ap shape_of (sym c.form.ensures) ∙ part_form c.form.result.now c.in-Stop.is

pub returns-in-Binary : goal.returns-in-Binary
returns-in-Binary g c =
    let is = sym c.form.ensures ∙ ap process_of_form c.in-Binary.is ∙ of_binary g.row.A.Denot c.in-Binary.operator c.in-Binary.left c.in-Binary.right in
    subst (IsHeadOf c.of_binary.result) (sym is) c.of_binary.ensures

pub returns-in-GeneralisedParallel : goal.returns-in-GeneralisedParallel
returns-in-GeneralisedParallel g c =
    sym c.form.ensures ∙ ap process_of_form c.in-GeneralisedParallel.is ∙ of_generalised g.row.A.Denot c.in-GeneralisedParallel.left c.in-GeneralisedParallel.shared c.in-GeneralisedParallel.right

pub returns-in-AlphabetisedParallel : goal.returns-in-AlphabetisedParallel
returns-in-AlphabetisedParallel g c =
    sym c.form.ensures ∙ ap process_of_form c.in-AlphabetisedParallel.is
    ∙ of_alphabetised g.row.A.Denot c.in-AlphabetisedParallel.left c.in-AlphabetisedParallel.own c.in-AlphabetisedParallel.other c.in-AlphabetisedParallel.right

pub returns-in-Hiding : goal.returns-in-Hiding
returns-in-Hiding g c = sym c.form.ensures ∙ ap process_of_form c.in-Hiding.is ∙ of_hiding g.row.A.Denot c.in-Hiding.body c.in-Hiding.hidden

pub returns-in-Renaming : goal.returns-in-Renaming
returns-in-Renaming g c =
    sym c.form.ensures ∙ ap process_of_form c.in-Renaming.is ∙ of_renaming g.row.A.Denot c.in-Renaming.body c.in-Renaming.pairs
    ∙ ap (λ rs. Renaming (process_of c.in-Renaming.body) (renaming_pairs_of rs)) (sym c.deref.ensures.value)
