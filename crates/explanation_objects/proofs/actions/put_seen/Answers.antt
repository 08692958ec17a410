-- One text is put behind the other.
use Rattle.std.proofs.Common.{◌≡◌, ◌+◌, [], ◌∷◌, ◌++◌, List, suc, add-one, map, drop, drop-cons, sym, ap, ◌∙◌}
use Rattle.std.proofs.lemmas.List.{drop_all}
use Rattle.json.specs.Token.{string}
use Rattle.theory_semantics.specs.Meaning.Runs.{trace}
use Rattle.theory_explanation.specs.Actions.{action_text}
use Rattle.theory_objects.specs.Answers.{action_texts}
use Rattle.csp_value.specs.Action.{action_of}
use Rattle.csp_value.specs.declared.action.Action.{Action}
use Rattle.csp_print.specs.Names.{names_of}
use Rattle.explanation_objects.specs.Putting.{string_tokens}
use Rattle.explanation_objects.proofs.Putting.{comes_to_end, goes_on, seen_first}
use Rattle.explanation_objects.proofs.actions.put_seen.Goals as goal

pub loop-action-preserved : goal.loop-action-preserved
loop-action-preserved g c =
    let all = c.args.path.now in
    let i = c.loop-action.action-index in
    let x = c.action-item.result in
    let names = names_of c.args.names.now in
    let left = λ (xs : List (Action g.row.A.Denot)). string_tokens (action_texts names (trace (map action_of xs))) in
    let first : drop i all ≡ x ∷ drop (i + 1) all = rw add-one (drop-cons all i x c.loop-action-test.true ∙ ap (λ y. y ∷ drop (suc i) all) (sym c.action-item.is)) in
    goes_on c.args.writer.now c.loop-action.writer c.put_unless_tau.new.writer (string_tokens (action_texts names (trace (action_of x ∷ [])))) (left (drop i all)) (left (drop (i + 1) all)) (left all) c.loop-action.invariant
    (ap left first ∙ seen_first names (action_of x) (map action_of (drop (i + 1) all))) c.in_ok-put_unless_tau.ensures

pub returns : goal.returns
returns g c =
    let all = c.args.path.now in
    let names = names_of c.args.names.now in
    let left = λ (xs : List (Action g.row.A.Denot)). string_tokens (action_texts names (trace (map action_of xs))) in
    comes_to_end c.args.writer.now c.loop-action.writer (left (drop c.loop-action.action-index all)) (left all) c.loop-action.invariant (ap left (drop_all c.loop-action.action-index all c.loop-action-test.false))
