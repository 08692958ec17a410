-- The text by the evidence.
use Rattle.std.proofs.Common.{◌≡◌, List, ◌++◌, map, sym, ap, subst}
use Rattle.std.specs.Prelude.{codes}
use Rattle.std.specs.String.{string_bytes}
use Rattle.csp_value.specs.Action.{action_of}
use Rattle.csp_value.specs.declared.action.Action.{Action}
use Rattle.verdict.specs.Outcome.{evidence_of}
use Rattle.verdict.specs.declared.shown.Evidence.{Evidence}
use Rattle.theory_explanation.specs.Actions.{action_text, actions_text}
use Rattle.theory_explanation.specs.Ends.{end_text}
use Rattle.csp_print.specs.Names.{names_of}
use Rattle.csp_print.proofs.Writing.{alike, behind}
use Rattle.counterexample.proofs.ends.push_end.Goals as goal

pub returns-in_ok-push_action-in-Event : goal.returns-in_ok-push_action-in-Event
returns-in_ok-push_action-in-Event g c =
    let names = names_of c.args.names.now in
    let r = c.push_mark-in-Event.result in
    let new = string_bytes c.push_mark-in-Event.new.text in
    let did = action_text names (action_of c.in-Event.action) in
    alike r (string_bytes c.args.text.now) new _ _ (ap (λ (e : Evidence g.row.A.Denot). end_text names (evidence_of e)) (sym c.in-Event.is))
    (behind r (string_bytes c.args.text.now) (string_bytes c.push_mark.new.text) new (codes "  then it does ") (did ++ codes ", and the specification cannot\n") c.in_ok-push_mark-in-Event.ensures
    (behind r (string_bytes c.push_mark.new.text) (string_bytes c.push_action.new.text) new did (codes ", and the specification cannot\n") c.in_ok-push_action-in-Event.ensures c.push_mark-in-Event.ensures))

pub returns-in_ok-push_actions-in-Offers : goal.returns-in_ok-push_actions-in-Offers
returns-in_ok-push_actions-in-Offers g c =
    let names = names_of c.args.names.now in
    let r = c.push_mark-in-Offers-2.result in
    let new = string_bytes c.push_mark-in-Offers-2.new.text in
    let offered = actions_text names (map action_of c.in-Offers.offers.items) in
    let P : List (Action g.row.A.Denot) → Type 0 = λ xs. string_bytes c.push_actions.new.text ≡ string_bytes c.push_mark-in-Offers.new.text ++ actions_text names (map action_of xs) in
    alike r (string_bytes c.args.text.now) new _ _ (ap (λ (e : Evidence g.row.A.Denot). end_text names (evidence_of e)) (sym c.in-Offers.is))
    (behind r (string_bytes c.args.text.now) (string_bytes c.push_mark-in-Offers.new.text) new (codes "  then it may refuse all but {") (offered ++ codes "}, and the specification may not\n") c.in_ok-push_mark-in-Offers.ensures
    (behind r (string_bytes c.push_mark-in-Offers.new.text) (string_bytes c.push_actions.new.text) new offered (codes "}, and the specification may not\n") (subst P c.deref.ensures.value c.in_ok-push_actions-in-Offers.ensures) c.push_mark-in-Offers-2.ensures))

pub returns-in-Deadlock : goal.returns-in-Deadlock
returns-in-Deadlock g c =
    alike c.push_mark-in-Deadlock.result (string_bytes c.args.text.now) (string_bytes c.push_mark-in-Deadlock.new.text) _ _ (ap (λ (e : Evidence g.row.A.Denot). end_text (names_of c.args.names.now) (evidence_of e)) (sym c.in-Deadlock.is)) c.push_mark-in-Deadlock.ensures

pub returns-in-Divergence : goal.returns-in-Divergence
returns-in-Divergence g c =
    alike c.push_mark-in-Divergence.result (string_bytes c.args.text.now) (string_bytes c.push_mark-in-Divergence.new.text) _ _ (ap (λ (e : Evidence g.row.A.Denot). end_text (names_of c.args.names.now) (evidence_of e)) (sym c.in-Divergence.is)) c.push_mark-in-Divergence.ensures
