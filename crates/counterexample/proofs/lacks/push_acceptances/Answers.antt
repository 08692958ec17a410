-- Each acceptance has its line, and a line says that there are none.
use Rattle.std.proofs.Common.{◌++◌, map, sym, ◌∙◌, ap}
use Rattle.std.specs.String.{string_bytes}
use Rattle.csp_value.specs.Action.{action_of}
use Rattle.csp_print.specs.Names.{names_of}
use Rattle.csp_print.proofs.Writing.{alike}
use Rattle.counterexample.proofs.Acceptances.{no_acceptances, some_acceptances}
use Rattle.counterexample.proofs.lacks.push_acceptances.Goals as goal

pub returns-then-is_empty : goal.returns-then-is_empty
returns-then-is_empty g c =
    c.in_ok-push_mark.ensures ∙ ap (λ xs. string_bytes c.args.text.now ++ xs) (no_acceptances (names_of c.args.names.now) (map action_of c.args.offer.now) c.args.acceptances.now (sym c.is_empty.ensures ∙ c.if-is_empty.true))

pub returns : goal.returns
returns g c =
    alike c.push_acceptance_lines.result (string_bytes c.args.text.now) (string_bytes c.push_acceptance_lines.new.text) _ _
    (some_acceptances (names_of c.args.names.now) (map action_of c.args.offer.now) c.args.acceptances.now (sym c.is_empty.ensures ∙ c.if-is_empty.false)) c.push_acceptance_lines.ensures
