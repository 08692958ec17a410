-- The copies of the pairs stand for the same.
use Rattle.std.proofs.Common.{sym, ◌∙◌, ap}
use Rattle.theory_syntax.specs.Process.{Renaming}
use Rattle.csp_events.specs.Events.{renaming_pair_of, renaming_pairs_of}
use Rattle.csp_value.proofs.Copying.{copies_same}
use Rattle.csp_term.specs.Term.{process_of}
use Rattle.csp_term.proofs.Forms.{of_renaming}
use Rattle.csp_steps.specs.Composing.{frame_of}
use Rattle.csp_steps.proofs.composition.Frame.form.Goals as goal

pub returns-in_ok-copy_all-in-Renaming : goal.returns-in_ok-copy_all-in-Renaming
returns-in_ok-copy_all-in-Renaming g c =
    let body = process_of c.args.body in
    let same = copies_same renaming_pair_of c.deref.result.now c.in_ok-copy_all-in-Renaming.field-0.items c.in_ok-copy_all-in-Renaming.ensures ∙ ap renaming_pairs_of c.deref.ensures.value in
    of_renaming g.row.A.Denot c.args.body c.in_ok-copy_all-in-Renaming.field-0 ∙ ap (Renaming body) same ∙ sym (ap (λ f. frame_of f body) c.in-Renaming.is)
