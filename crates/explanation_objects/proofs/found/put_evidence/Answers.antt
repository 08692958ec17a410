-- The word of the evidence, and behind it what is done or offered.
use Rattle.std.proofs.Common.{List, [], ◌∷◌, map, sym, subst}
use Rattle.std.specs.Prelude.{codes}
use Rattle.theory_explanation.specs.Actions.{action_text}
use Rattle.theory_objects.specs.Answers.{action_texts, evidence_fields}
use Rattle.theory_objects.specs.Fields.{text_field, texts_field}
use Rattle.csp_value.specs.Action.{action_of}
use Rattle.csp_value.specs.declared.action.Action.{Action}
use Rattle.csp_print.specs.Names.{names_of}
use Rattle.verdict.specs.Outcome.{evidence_of}
use Rattle.verdict.specs.declared.shown.Evidence.{Evidence}
use Rattle.explanation_objects.specs.Putting.{Puts}
use Rattle.explanation_objects.proofs.Putting.{both}
use Rattle.explanation_objects.proofs.found.put_evidence.Goals as goal

pub returns-in_ok-put_text-in-Event : goal.returns-in_ok-put_text-in-Event
returns-in_ok-put_text-in-Event g c =
    let names = names_of c.args.names.now in
    let r = c.put_action.result in
    let old = c.args.writer.now in
    let new = c.put_action.new.writer in
    let word = text_field (codes "evidence") (codes "event") ∷ [] in
    let event = text_field (codes "event") (action_text names (action_of c.in-Event.action)) ∷ [] in
    let P : Evidence g.row.A.Denot → Type 0 = λ e. Puts r old new (evidence_fields names (evidence_of e)) in
    subst P (sym c.in-Event.is) (both r old c.put_text.new.writer new word event c.in_ok-put_text-in-Event.ensures c.put_action.ensures)

pub returns-in_ok-put_text-in-Offers : goal.returns-in_ok-put_text-in-Offers
returns-in_ok-put_text-in-Offers g c =
    let names = names_of c.args.names.now in
    let r = c.put_actions.result in
    let old = c.args.writer.now in
    let new = c.put_actions.new.writer in
    let word = text_field (codes "evidence") (codes "offers") ∷ [] in
    let offers = λ (xs : List (Action g.row.A.Denot)). texts_field (codes "offers") (action_texts names (map action_of xs)) ∷ [] in
    let put = subst (λ xs. Puts r c.put_text-in-Offers.new.writer new (offers xs)) c.as_slice.ensures.value c.put_actions.ensures in
    let P : Evidence g.row.A.Denot → Type 0 = λ e. Puts r old new (evidence_fields names (evidence_of e)) in
    subst P (sym c.in-Offers.is) (both r old c.put_text-in-Offers.new.writer new word (offers c.in-Offers.offers.items) c.in_ok-put_text-in-Offers.ensures put)

pub returns-in-Deadlock : goal.returns-in-Deadlock
returns-in-Deadlock g c =
    let P : Evidence g.row.A.Denot → Type 0 = λ e. Puts c.put_text-in-Deadlock.result c.args.writer.now c.put_text-in-Deadlock.new.writer (evidence_fields (names_of c.args.names.now) (evidence_of e)) in
    subst P (sym c.in-Deadlock.is) c.put_text-in-Deadlock.ensures

pub returns-in-Divergence : goal.returns-in-Divergence
returns-in-Divergence g c =
    let P : Evidence g.row.A.Denot → Type 0 = λ e. Puts c.put_text-in-Divergence.result c.args.writer.now c.put_text-in-Divergence.new.writer (evidence_fields (names_of c.args.names.now) (evidence_of e)) in
    subst P (sym c.in-Divergence.is) c.put_text-in-Divergence.ensures
