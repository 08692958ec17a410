use Rattle.std.proofs.Common.{List, Vec, ◌++◌, drop, ap, ◌∙◌, sym, subst, ◌≡◌, ◌+◌, ◌∷◌, suc, add-one, drop-cons, map}
use Rattle.std.proofs.lemmas.List.{drop_all}
use Rattle.std.specs.String.{string_bytes}
use Rattle.csp_value.specs.Action.{action_of}
use Rattle.csp_value.specs.declared.action.Action.{Action}
use Rattle.theory_explanation.specs.Counterparts.{acceptance_line, acceptance_lines}
use Rattle.csp_print.specs.Names.{names_of}
use Rattle.csp_print.proofs.Writing.{comes_to_end, goes_on_bare}
use Rattle.csp_replay.specs.Offers.{offers_listed}
use Rattle.counterexample.proofs.lacks.push_acceptance_lines.Goals as goal

pub loop-acceptance-preserved : goal.loop-acceptance-preserved
loop-acceptance-preserved g c =
    let acceptances = c.args.acceptances.now in
    let i = c.loop-acceptance.acceptance-index in
    let names = names_of c.args.names.now in
    let offer = map action_of c.args.offer.now in
    let texts = λ (xs : List (Vec (Action g.row.A.Denot) g.row.A.Denot)). acceptance_lines names offer (offers_listed xs) in
    let first : drop i acceptances ≡ c.acceptance-item.result ∷ drop (i + 1) acceptances =
    rw add-one (drop-cons acceptances i c.acceptance-item.result c.loop-acceptance-test.true ∙ ap (λ x. x ∷ drop (suc i) acceptances) (sym c.acceptance-item.is)) in
    let P : List (Action g.row.A.Denot) → Type 0 = λ xs. string_bytes c.push_acceptance.new.text ≡ string_bytes c.loop-acceptance.text ++ acceptance_line names offer (map action_of xs) in
    goes_on_bare (string_bytes c.loop-acceptance.text) (string_bytes c.push_acceptance.new.text) (acceptance_line names offer (map action_of c.acceptance-item.result.items))
    (texts (drop i acceptances)) (texts (drop (i + 1) acceptances)) (string_bytes c.args.text.now ++ texts acceptances) c.loop-acceptance.invariant (ap texts first)
    (subst P c.deref.ensures.value c.in_ok-push_acceptance.ensures)

pub returns : goal.returns
returns g c =
    let acceptances = c.args.acceptances.now in
    let texts = λ (xs : List (Vec (Action g.row.A.Denot) g.row.A.Denot)). acceptance_lines (names_of c.args.names.now) (map action_of c.args.offer.now) (offers_listed xs) in
    comes_to_end (string_bytes c.args.text.now) (string_bytes c.loop-acceptance.text) (texts (drop c.loop-acceptance.acceptance-index acceptances)) (texts acceptances)
    c.loop-acceptance.invariant (ap texts (drop_all c.loop-acceptance.acceptance-index acceptances c.loop-acceptance-test.false))
