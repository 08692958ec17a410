-- The text is that of the action.
use Rattle.std.proofs.Common.{ℕ, List, [], ◌∷◌, ◌++◌, ap, subst, ◌∙◌}
use Rattle.json.specs.Token.{string}
use Rattle.theory_explanation.specs.Actions.{action_text}
use Rattle.csp_value.specs.Action.{action_of}
use Rattle.csp_print.specs.Names.{names_of}
use Rattle.explanation_objects.specs.Putting.{PutsTokens}
use Rattle.explanation_objects.proofs.Putting.{token}
use Rattle.explanation_objects.proofs.actions.put_string.Goals as goal

pub returns : goal.returns
returns g c =
    let old = c.args.writer.now in
    let new = c.string.new.self in
    let text = action_text (names_of c.args.names.now) (action_of c.args.action.now) in
    let P : List ℕ → Type 0 = λ t. PutsTokens c.string.result old new (string t ∷ []) in
    subst P (c.as_str.ensures.value ∙ c.in_ok-push_action.ensures ∙ ap (λ ts. ts ++ text) c.new-text.ensures.bytes) (token c.string.result old new (string c.as_str.result.now) c.string.ensures)
