use Rattle.std.proofs.Common.{List, ◌++◌, drop, ap, ◌∙◌, sym, ◌≡◌, ◌+◌, ◌∷◌, suc, add-one, drop-cons, map}
use Rattle.std.proofs.lemmas.List.{drop_all}
use Rattle.std.specs.Prelude.{codes}
use Rattle.std.specs.String.{string_bytes}
use Rattle.csp_value.specs.Action.{action_of}
use Rattle.csp_value.specs.declared.action.Action.{Action}
use Rattle.theory_explanation.specs.Actions.{action_text, actions_behind}
use Rattle.csp_print.specs.Names.{names_of}
use Rattle.csp_print.proofs.Writing.{comes_to_end, goes_on}
use Rattle.counterexample.proofs.actions.push_actions_behind.Goals as goal

pub loop-action-preserved : goal.loop-action-preserved
loop-action-preserved g c =
    let actions = c.args.actions.now in
    let i = c.loop-action.action-index in
    let names = names_of c.args.names.now in
    let texts = λ (xs : List (Action g.row.A.Denot)). actions_behind names (map action_of xs) in
    let first : drop i actions ≡ c.action-item.result ∷ drop (i + 1) actions =
    rw add-one (drop-cons actions i c.action-item.result c.loop-action-test.true ∙ ap (λ x. x ∷ drop (suc i) actions) (sym c.action-item.is)) in
    goes_on (string_bytes c.loop-action.text) (string_bytes c.push_mark.new.text) (string_bytes c.push_action.new.text) (codes ",") (action_text names (action_of c.action-item.result))
    (texts (drop i actions)) (texts (drop (i + 1) actions)) (string_bytes c.args.text.now ++ texts actions) c.loop-action.invariant (ap texts first) c.in_ok-push_mark.ensures c.in_ok-push_action.ensures

pub returns : goal.returns
returns g c =
    let actions = c.args.actions.now in
    let texts = λ (xs : List (Action g.row.A.Denot)). actions_behind (names_of c.args.names.now) (map action_of xs) in
    comes_to_end (string_bytes c.args.text.now) (string_bytes c.loop-action.text) (texts (drop c.loop-action.action-index actions)) (texts actions)
    c.loop-action.invariant (ap texts (drop_all c.loop-action.action-index actions c.loop-action-test.false))
