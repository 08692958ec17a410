-- The change is put into a text of its own, and as much of that is put as is told.
use Rattle.std.proofs.Common.{◌++◌, ap, ◌∙◌}
use Rattle.std.specs.String.{string_bytes}
use Rattle.theory_explanation.specs.Changing.{change_text}
use Rattle.theory_explanation.specs.Cutting.{cut_after}
use Rattle.csp_print.proofs.Writing.{alike}
use Rattle.counterexample.proofs.states.push_change_up_to.Goals as goal

pub returns : goal.returns
returns g c =
    let change = change_text c.args.old.now c.args.new.now in
    let is = c.as_str.ensures.value ∙ c.in_ok-push_change.ensures ∙ ap (λ ts. ts ++ change) c.new-change.ensures.bytes in
    alike c.push_beginning.result (string_bytes c.args.text.now) (string_bytes c.push_beginning.new.text) _ _ (ap (cut_after c.args.most) is) c.push_beginning.ensures
